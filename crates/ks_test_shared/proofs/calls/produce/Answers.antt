use Rattle.std.proofs.Common.{refl, arith}
use Rattle.std.specs.Prelude.{false}
use Rattle.ks_history.specs.declared.journal.Request.TheVariants.{Produce}
use Rattle.ks_law_exactly_once.specs.Example.{input}
use Rattle.ks_test_shared.proofs.Staying.{meets, stays, number_stays, part_is}
use Rattle.ks_test_shared.proofs.calls.produce.Goals as goal

pub produce-requires-clause-meets : goal.produce-requires-clause-meets
produce-requires-clause-meets g c = meets _ _ c.requires.ours (Produce input c.args.rec.now) (omega arith, part_is 0 (omega arith))

pub returns-clause-ours : goal.returns-clause-ours
returns-clause-ours g c = stays _ _ c.requires.ours _ _ c.produce.ensures

pub returns-clause-number : goal.returns-clause-number
returns-clause-number g c = number_stays _ _ c.requires.ours _ _ c.produce.ensures
