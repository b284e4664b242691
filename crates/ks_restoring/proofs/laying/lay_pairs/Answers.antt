use Rattle.std.proofs.Common.{ap, ap₂, sym, ◌∙◌}
use Rattle.ks_def_runs.specs.FinMap as fin
use Rattle.ks_restoring.specs.Waiting.{overlaid}
use Rattle.ks_restoring.proofs.Laid.{Pairs, last_over}
use Rattle.ks_restoring.proofs.laying.lay_pairs.Goals as goal

pub loop-key-preserved-in_ok-put : goal.loop-key-preserved-in_ok-put
loop-key-preserved-in_ok-put c =
    let left = c.pop.new.self.items in
    ap (overlaid left) (c.in_ok-put.ensures.ok ∙ ap₂ (fin.insert c.loop-key.store) c.as_slice.ensures c.as_slice-in-Some.ensures)
    ∙ (sym (last_over left (c.in-Some.key, c.in-Some.value) c.loop-key.store)
    ∙ (ap (λ (l : Pairs). overlaid l c.loop-key.store) (sym c.in-Some.ensures.items)
    ∙ c.loop-key.invariant))

pub loop-key-preserved-in_ok-put-2 : goal.loop-key-preserved-in_ok-put-2
loop-key-preserved-in_ok-put-2 c =
    let left = c.pop.new.self.items in
    ap (overlaid left) (c.in_ok-put.ensures.ok ∙ ap₂ (fin.insert c.loop-key.store) c.as_slice.ensures c.as_slice-in-Some.ensures)
    ∙ (sym (last_over left (c.in-Some.key, c.in-Some.value) c.loop-key.store)
    ∙ (ap (λ (l : Pairs). overlaid l c.loop-key.store) (sym c.in-Some.ensures.items)
    ∙ c.loop-key.invariant))

pub loop-key-preserved : goal.loop-key-preserved
loop-key-preserved c =
    let left = c.pop.new.self.items in
    ap (overlaid left) (c.in_ok-put.ensures.ok ∙ ap₂ (fin.insert c.loop-key.store) c.as_slice.ensures c.as_slice-in-Some.ensures)
    ∙ (sym (last_over left (c.in-Some.key, c.in-Some.value) c.loop-key.store)
    ∙ (ap (λ (l : Pairs). overlaid l c.loop-key.store) (sym c.in-Some.ensures.items)
    ∙ c.loop-key.invariant))
