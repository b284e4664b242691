use Rattle.std.proofs.Common.{sym, ◌∙◌, arith}
use Rattle.ks_job_record.proofs.PlainPlaces.{place_here, no_place, place_on, place_end}
use Rattle.ks_job_record.proofs.plain.find_place.Goals as goal

pub returns-then-is_below : goal.returns-then-is_below
returns-then-is_below c =
    place_here c.args.fields.now c.loop-place.place _ c.args.name.now _ c.loop-place-test.true (sym c.is_below.ensures ∙ c.if-is_below.true) c.loop-place.invariant

pub returns-then-not-is_below : goal.returns-then-not-is_below
returns-then-not-is_below c =
    no_place c.args.fields.now c.loop-place.place _ c.args.name.now _ c.loop-place-test.true (sym c.is_below.ensures ∙ c.if-is_below.false)
    (sym c.is_below-in-loop-place.ensures ∙ c.if-not-is_below.true) c.loop-place.invariant

pub loop-place-preserved : goal.loop-place-preserved
loop-place-preserved c =
    place_on c.args.fields.now c.loop-place.place _ c.args.name.now _ c.loop-place-test.true (sym c.is_below-in-loop-place.ensures ∙ c.if-not-is_below.false) c.loop-place.invariant

pub returns : goal.returns
returns c = place_end c.args.fields.now c.loop-place.place c.args.name.now _ (omega arith) (omega arith) c.loop-place.invariant
