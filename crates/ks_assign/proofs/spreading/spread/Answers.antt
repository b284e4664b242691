use Rattle.std.proofs.Common.{◌≡◌, ℕ, sym, ap, subst, true}
use Rattle.ks_record.specs.declared.record.TaskId.{TaskId}
use Rattle.ks_assign.specs.Placement.{Places, all_even, by_client}
use Rattle.ks_assign.proofs.Even.{spread_more, even_nil}
use Rattle.ks_assign.proofs.spreading.spread.Goals as goal

abbrev nothing : TaskId × ℕ
nothing = (record { sub = 0; part = 0 }, 0)

pub loop-p-init : goal.loop-p-init
loop-p-init c = (
  ap (by_client c.args.clients.now) c.new-made.ensures.items,
  subst (λ (xs : Places). all_even c.args.clients.now xs ≡ true) (sym c.new-made.ensures.items) (even_nil c.args.clients.now),
)

pub loop-p-preserved : goal.loop-p-preserved
loop-p-preserved c =
    spread_more c.args.clients.now c.loop-p.made.items c.push.new.self.items c.deref.result.now c.args.places.now c.loop-p.p-index nothing c.even_worker-worker.result
    c.loop-p-test.true c.loop-p.invariant.0 c.loop-p.invariant.1 c.even_worker-worker.ensures.home c.even_worker-worker.ensures.least c.deref.ensures.value c.in_ok-push.ensures.items
