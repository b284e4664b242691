use Rattle.std.proofs.Common.{◌-◌, arith, sym, ap, cond, take, ◌∙◌}
use Rattle.ks_history.specs.Touched.{touched}
use Rattle.ks_shared.proofs.Scanning.{touched_back}
use Rattle.ks_shared.proofs.touched.touched_in.Goals as goal

pub returns-then-touches_entry : goal.returns-then-touches_entry
returns-then-touches_entry c =
    let n = c.loop-count.count in
    sym (c.loop-count.invariant.1
    ∙ touched_back c.args.w c.args.entries.now n (n - 1) c.index-entries-before.result (omega arith) c.loop-count.invariant.0 c.index-entries-before.is
    ∙ ap (λ b. cond b n (touched c.args.w (take (n - 1) c.args.entries.now))) (sym c.touches_entry.ensures ∙ c.if-touches_entry.true))

pub loop-count-preserved : goal.loop-count-preserved
loop-count-preserved c =
    let n = c.loop-count.count in (
      omega arith,
      c.loop-count.invariant.1
          ∙ touched_back c.args.w c.args.entries.now n (n - 1) c.index-entries-before.result (omega arith) c.loop-count.invariant.0 c.index-entries-before.is
          ∙ ap (λ b. cond b n (touched c.args.w (take (n - 1) c.args.entries.now))) (sym c.touches_entry.ensures ∙ c.if-touches_entry.false),
    )
