use Rattle.std.proofs.Common.{refl, arith}
use Rattle.std.specs.Prelude.{false}
use Rattle.ks_history.specs.declared.journal.Request.TheVariants.{Decide}
use Rattle.ks_test_shared.proofs.Staying.{meets, stays, number_stays, part_is}
use Rattle.ks_test_shared.proofs.calls.abort.Goals as goal

pub decide-requires-clause-meets : goal.decide-requires-clause-meets
decide-requires-clause-meets g c = meets _ _ c.requires.ours (Decide 0 1 false) (omega arith)

pub returns-clause-ours : goal.returns-clause-ours
returns-clause-ours g c = stays _ _ c.requires.ours _ _ c.decide.ensures

pub returns-clause-number : goal.returns-clause-number
returns-clause-number g c = number_stays _ _ c.requires.ours _ _ c.decide.ensures
