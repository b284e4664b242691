use Rattle.std.proofs.Common.{refl, arith}
use Rattle.std.specs.Prelude.{None, [], ◌∷◌}
use Rattle.ks_history.specs.declared.journal.Request.TheVariants.{Append}
use Rattle.ks_law_exactly_once.specs.Example.{changelog, the_task}
use Rattle.ks_test_shared.proofs.Staying.{meets, stays, number_stays, part_is}
use Rattle.ks_test_shared.proofs.calls.append.Goals as goal

pub append-requires-clause-meets : goal.append-requires-clause-meets
append-requires-clause-meets g c = meets _ _ c.requires.ours (Append 0 1 0 the_task changelog (record { key = None; value = None; ts = 0 } ∷ [])) (omega arith, part_is 1 (omega arith), refl)

pub returns-clause-ours : goal.returns-clause-ours
returns-clause-ours g c = stays _ _ c.requires.ours _ _ c.append.ensures

pub returns-clause-number : goal.returns-clause-number
returns-clause-number g c = number_stays _ _ c.requires.ours _ _ c.append.ensures
