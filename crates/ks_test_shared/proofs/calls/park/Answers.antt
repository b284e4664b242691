use Rattle.std.proofs.Common.{◌≡◌, refl, arith, ap, subst, sym}
use Rattle.ks_record.specs.declared.record.TaskId.{TaskId}
use Rattle.ks_history.specs.declared.journal.Request.TheVariants.{Park}
use Rattle.ks_history.specs.State.{has_task}
use Rattle.std.specs.Prelude.{true}
use Rattle.ks_law_exactly_once.specs.Example.{setup}
use Rattle.ks_test_shared.proofs.Staying.{meets, stays, number_stays, replica_in}
use Rattle.ks_test_shared.proofs.calls.park.Goals as goal

pub park-requires-clause-meets : goal.park-requires-clause-meets
park-requires-clause-meets g c = meets _ _ c.requires.ours (Park 0 c.args.replica.id) (omega arith, subst (λ (t : TaskId). has_task t setup.tasks ≡ true) (sym c.requires.follows.task) refl)

pub park-requires-clause-follows : goal.park-requires-clause-follows
park-requires-clause-follows g c = replica_in _ _ c.requires.ours c.args.replica c.requires.follows

pub returns-clause-ours : goal.returns-clause-ours
returns-clause-ours g c = stays _ _ c.requires.ours _ _ c.park.ensures

pub returns-clause-number : goal.returns-clause-number
returns-clause-number g c = number_stays _ _ c.requires.ours _ _ c.park.ensures
