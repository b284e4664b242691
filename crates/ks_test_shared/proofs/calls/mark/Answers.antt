use Rattle.std.proofs.Common.{refl, arith}
use Rattle.std.specs.Prelude.{false}
use Rattle.ks_history.specs.declared.journal.Request.TheVariants.{MarkNext}
use Rattle.ks_test_shared.proofs.Staying.{meets, stays, number_stays, part_is}
use Rattle.ks_test_shared.proofs.calls.mark.Goals as goal

pub mark_next-requires-clause-meets : goal.mark_next-requires-clause-meets
mark_next-requires-clause-meets g c = meets _ _ c.requires.ours (MarkNext 0) (omega arith)

pub returns-clause-ours : goal.returns-clause-ours
returns-clause-ours g c = stays _ _ c.requires.ours _ _ c.mark_next.ensures

pub returns-clause-number : goal.returns-clause-number
returns-clause-number g c = number_stays _ _ c.requires.ours _ _ c.mark_next.ensures
