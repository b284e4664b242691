use Rattle.std.proofs.Common.{◌≤◌, ℕ, ◌∙◌, get_or, arith}
use Rattle.std.proofs.lemmas.List.{length-set}
use Rattle.ks_record.specs.declared.record.TaskId.{TaskId}
use Rattle.ks_assign.proofs.Tables.{count_more}
use Rattle.ks_assign.proofs.loads.count.Goals as goal

abbrev nothing : TaskId × ℕ
nothing = (record { sub = 0; part = 0 }, 0)

pub loop-p-init : goal.loop-p-init
loop-p-init c = (
  c.no_counts-counts.ensures.size,
  λ i below. let none = c.no_counts-counts.ensures.zero i below in (omega (arith, none), omega (arith, none)),
)

pub overflow_add-counts : goal.overflow_add-counts
overflow_add-counts c =
    let few : get_or c.loop-p.counts c.home_of.result 0 ≤ c.loop-p.p-index = (c.loop-p.invariant.1 c.home_of.result (omega (arith, c.home_of.ensures.small))).1 in
    omega (arith, few, c.loop-p-test.true)

pub loop-p-preserved : goal.loop-p-preserved
loop-p-preserved c = (
  length-set _ _ _ ∙ c.loop-p.invariant.0,
  count_more c.args.clients.now c.args.places.now c.loop-p.counts c.loop-p.p-index c.home_of.result nothing
      c.loop-p.invariant.0 c.loop-p-test.true c.home_of.ensures.is c.home_of.ensures.small c.loop-p.invariant.1,
)
