use Rattle.std.proofs.Common.{◌≡◌, ◌≤◌, ℕ, List, [], ◌∷◌, zero, suc, length, drop, fold, refl, sym, ap, ◌∙◌, arith}
use Rattle.ks_record.specs.Records.{Record as Rec}
use Rattle.ks_plan.specs.Shape.{shape}
use Rattle.ks_window.proofs.Once.{ReadCount, read_start, read_counted, read_same}
use Rattle.ks_window.proofs.reading.count.Goals as goal

none_left : (xs : List ℕ) (i : ℕ) → length xs ≤ i → drop i xs ≡ []
none_left [] i le = by i
  where
    by : (i : ℕ) → drop {A = ℕ} i [] ≡ []
    by zero = refl
    by (suc i) = refl
none_left (x ∷ xs) zero le = absurd (omega (arith, le))
none_left (x ∷ xs) (suc i) le = none_left xs i (omega (arith, le))

ended : (f : ReadCount → ℕ → ReadCount) (late : ℕ) (recs : List Rec) (xs : List ℕ) (i : ℕ) (out : ReadCount) → length xs ≤ i → fold f (record { late = late; recs = recs }) (drop i xs) ≡ out → record { late = late; recs = recs } ≡ out
ended f late recs xs i out le e = ap (fold f (record { late = late; recs = recs })) (sym (none_left xs i le)) ∙ e

pub returns-clause-late : goal.returns-clause-late
returns-clause-late g c =
    let w = shape c.args.window.now in
    let m = g.S.KvStore.contents c.args.store.now in
    let same = read_same w m c.args.key.now c.args.t c.requires.some c.as_str-text.ensures.key (omega (arith, c.ranges.t.fits)) in
    let out = ended (read_start w m c.args.t c.later_of-now.result c.args.key.now) c.loop-start.late c.loop-start.recs c.deref-start-items.result.now c.loop-start.start-index (read_counted w m c.args.key.now c.args.t) c.loop-start-test.false c.loop-start.invariant.rest in
    ap (λ (r : ReadCount). r.late) out ∙ sym same.late

pub returns-clause-recs : goal.returns-clause-recs
returns-clause-recs g c =
    let w = shape c.args.window.now in
    let m = g.S.KvStore.contents c.args.store.now in
    let same = read_same w m c.args.key.now c.args.t c.requires.some c.as_str-text.ensures.key (omega (arith, c.ranges.t.fits)) in
    let out = ended (read_start w m c.args.t c.later_of-now.result c.args.key.now) c.loop-start.late c.loop-start.recs c.deref-start-items.result.now c.loop-start.start-index (read_counted w m c.args.key.now c.args.t) c.loop-start-test.false c.loop-start.invariant.rest in
    ap (λ (r : ReadCount). r.recs) out ∙ sym same.recs
