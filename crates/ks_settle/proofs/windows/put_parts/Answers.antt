use Rattle.std.proofs.Common.{sym, ap, ◌∙◌}
use Rattle.ks_cluster.specs.View.{state_of}
use Rattle.ks_settle.specs.Rows.{pairs_in, part_in}
use Rattle.ks_settle.specs.Windows.{Windows, put_pairs}
use Rattle.ks_settle.proofs.Folds.{one_part_more}
use Rattle.ks_settle.proofs.windows.put_parts.Goals as goal

pub loop-part-preserved : goal.loop-part-preserved
loop-part-preserved g c =
    let s = state_of g.W.Work.plan c.args.cluster.now in
    c.in_ok-put_pairs.ensures
    ∙ ap (put_pairs c.loop-part.windows.entries) (c.as_slice.ensures.value ∙ c.in_ok-pairs.ensures)
    ∙ ap (λ (w : Windows). put_pairs w (pairs_in s (part_in c.args.topic c.loop-part.part))) c.loop-part.invariant
    ∙ sym (one_part_more s c.args.topic c.args.windows.now.entries c.loop-part.part)
