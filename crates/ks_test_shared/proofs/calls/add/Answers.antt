use Rattle.std.proofs.Common.{refl, arith}
use Rattle.std.specs.Prelude.{false}
use Rattle.ks_history.specs.declared.journal.Request.TheVariants.{Add}
use Rattle.ks_law_exactly_once.specs.Example.{changelog}
use Rattle.ks_test_shared.proofs.Staying.{meets, stays, number_stays, part_is}
use Rattle.ks_test_shared.proofs.calls.add.Goals as goal

pub add-requires-clause-meets : goal.add-requires-clause-meets
add-requires-clause-meets g c = meets _ _ c.requires.ours (Add 0 1 changelog) (omega arith, part_is 1 (omega arith))

pub returns-clause-ours : goal.returns-clause-ours
returns-clause-ours g c = stays _ _ c.requires.ours _ _ c.add.ensures

pub returns-clause-number : goal.returns-clause-number
returns-clause-number g c = number_stays _ _ c.requires.ours _ _ c.add.ensures
