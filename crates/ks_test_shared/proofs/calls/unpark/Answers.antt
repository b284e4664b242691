use Rattle.std.proofs.Common.{refl, arith}
use Rattle.std.specs.Prelude.{false}
use Rattle.ks_history.specs.declared.journal.Request.TheVariants.{Unpark}
use Rattle.ks_law_exactly_once.specs.Example.{the_task}
use Rattle.ks_test_shared.proofs.Staying.{meets, stays, number_stays, part_is}
use Rattle.ks_test_shared.proofs.calls.unpark.Goals as goal

pub unpark-requires-clause-meets : goal.unpark-requires-clause-meets
unpark-requires-clause-meets g c = meets _ _ c.requires.ours (Unpark 0 the_task) (omega arith, refl)

pub returns-clause-ours : goal.returns-clause-ours
returns-clause-ours g c = stays _ _ c.requires.ours _ _ c.unpark.ensures

pub returns-clause-number : goal.returns-clause-number
returns-clause-number g c = number_stays _ _ c.requires.ours _ _ c.unpark.ensures
