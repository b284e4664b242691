use Rattle.std.proofs.Common.{refl, arith}
use Rattle.std.specs.Prelude.{false}
use Rattle.ks_history.specs.declared.journal.Request.TheVariants.{Init}
use Rattle.ks_test_shared.proofs.Staying.{meets, stays, number_stays, part_is}
use Rattle.ks_test_shared.proofs.calls.init.Goals as goal

pub init-requires-clause-meets : goal.init-requires-clause-meets
init-requires-clause-meets g c = let worker = c.requires.worker in meets _ _ c.requires.ours (Init c.args.w) (omega arith)

pub returns-clause-ours : goal.returns-clause-ours
returns-clause-ours g c = stays _ _ c.requires.ours _ _ c.init.ensures

pub returns-clause-number : goal.returns-clause-number
returns-clause-number g c = number_stays _ _ c.requires.ours _ _ c.init.ensures
