-- The kept counts, while records are added.
use Rattle.std.proofs.Common.{◌≡◌, ℕ, zero, suc, ◌+◌, ◌<◌, ◌≤◌, Bool, true, false, cond, List, [], ◌∷◌, ◌++◌, length, set, get_or, refl, sym, ap, ap₂, ◌∙◌, arith}
use Rattle.std.specs.Prelude.{◌==◌, ◌&&◌}
use Rattle.std.proofs.lemmas.Bool.{and_parts, and_from, eqb-true, eq-eqb}
use Rattle.ks_history.specs.declared.partition.Slot.{Slot}
use Rattle.ks_history.specs.declared.partition.Slot.TheVariants.{Plain, Sent, Mark}
use Rattle.ks_record.specs.Records.{Record as Rec}
use Rattle.ks_record.specs.declared.record.TaskId.{TaskId}
use Rattle.ks_history.specs.Partition.{count_sent, sent_slots}
use Rattle.ks_log.specs.declared.counts.Counted.{Counted}
use Rattle.ks_log.specs.Index.{marks_in, counted, count_place, counted_put}

pub count_sent-append : (w e : ℕ) (xs ys : List Slot) → count_sent w e (xs ++ ys) ≡ count_sent w e xs + count_sent w e ys
count_sent-append w e [] ys = omega arith
count_sent-append w e (Plain rec ∷ xs) ys = count_sent-append w e xs ys
count_sent-append w e (Sent v d number task rec ∷ xs) ys =
    let h = count_sent-append w e xs ys in
    elim ((w == v) && (e == d)) as (λ b. cond b (suc (count_sent w e (xs ++ ys))) (count_sent w e (xs ++ ys)) ≡ cond b (suc (count_sent w e xs)) (count_sent w e xs) + count_sent w e ys) [ true ↦ omega (arith, h) | false ↦ h ]
count_sent-append w e (Mark v d commit ∷ xs) ys = count_sent-append w e xs ys

abbrev same : ℕ → ℕ → ℕ → ℕ → Bool
same w e v d = (w == v) && (e == d)

same-is : (w e v d : ℕ) → same w e v d ≡ true → (w ≡ v) × (e ≡ d)
same-is w e v d h = let both = and_parts (w == v) (e == d) h in (eqb-true w v both.0, eqb-true e d both.1)

same-refl : (w e : ℕ) → same w e w e ≡ true
same-refl w e = and_from (w == w) (e == e) (eq-eqb w w refl) (eq-eqb e e refl)

apart : (w e v d k c : ℕ) → same v d k c ≡ false → same w e k c ≡ true → (b : Bool) → same w e v d ≡ b → b ≡ false
apart w e v d k c other is true h =
    let here = same-is w e k c is in
    let there = same-is w e v d h in
    let at : same v d k c ≡ true = ap₂ (λ x y. same x y k c) (sym there.0) (sym there.1) ∙ is in
    let both : true ≡ false = sym at ∙ other in
    absurd (cc)
apart w e v d k c other is false h = refl

-- a count that is put
counted-put : (w e v d n : ℕ) (counts : List Counted) → counted w e (counted_put v d n counts) ≡ cond (same w e v d) n (counted w e counts)
counted-put w e v d n [] = refl
counted-put w e v d n (kept ∷ counts) =
    elim (same v d kept.producer kept.epoch) as (λ b. same v d kept.producer kept.epoch ≡ b
    → counted w e (cond b (record kept { count = n } ∷ counts) (kept ∷ counted_put v d n counts)) ≡ cond (same w e v d) n (cond (same w e kept.producer kept.epoch) kept.count (counted w e counts))) [
      | true ↦ λ is. let it = same-is v d kept.producer kept.epoch is in
          twice (same w e kept.producer kept.epoch) n kept.count (counted w e counts)
          ∙ ap₂ (λ x y. cond (same w e x y) n (cond (same w e kept.producer kept.epoch) kept.count (counted w e counts))) (sym it.0) (sym it.1)
      | false ↦ λ is. elim (same w e kept.producer kept.epoch) as (λ b. same w e kept.producer kept.epoch ≡ b → cond b kept.count (counted w e (counted_put v d n counts)) ≡ cond (same w e v d) n (cond b kept.count (counted w e counts))) [
        | true ↦ λ e'. sym (ap (λ b. cond b n kept.count) (apart w e v d kept.producer kept.epoch is e' (same w e v d) refl))
        | false ↦ λ e'. counted-put w e v d n counts
      ] refl
    ] refl
  where
    twice : (b : Bool) (x y z : ℕ) → cond b x z ≡ cond b x (cond b y z)
    twice true x y z = refl
    twice false x y z = refl

-- the records of an append
pub marks_in-sent : (w e number : ℕ) (t : TaskId) (recs : List Rec) → marks_in (sent_slots w e number t recs) ≡ []
marks_in-sent w e number t [] = refl
marks_in-sent w e number t (rec ∷ recs) = marks_in-sent w e (number + 1) t recs

pub length-sent : (w e number : ℕ) (t : TaskId) (recs : List Rec) → length (sent_slots w e number t recs) ≡ length recs
length-sent w e number t [] = refl
length-sent w e number t (rec ∷ recs) = ap suc (length-sent w e (number + 1) t recs)

count_sent-sent : (w e v d number : ℕ) (t : TaskId) (recs : List Rec) → count_sent w e (sent_slots v d number t recs) ≡ cond (same w e v d) (length recs) 0
count_sent-sent w e v d number t [] = by (same w e v d)
  where
    by : (b : Bool) → ◌≡◌ {A = ℕ} 0 (cond b 0 0)
    by true = refl
    by false = refl
count_sent-sent w e v d number t (rec ∷ recs) = by (same w e v d) _ (length recs) (count_sent-sent w e v d (number + 1) t recs)
  where
    by : (b : Bool) (x n : ℕ) → x ≡ cond b n 0 → cond b (suc x) x ≡ cond b (suc n) 0
    by true x n h = ap suc h
    by false x n h = h

pub sums-sent : (w e v d number next : ℕ) (t : TaskId) (recs : List Rec) (counts counts' : List Counted) → counts' ≡ counted_put v d next counts → next ≡ counted v d counts + length recs
    → counted w e counts' ≡ counted w e counts + count_sent w e (sent_slots v d number t recs)
sums-sent w e v d number next t recs counts counts' put is =
    ap (counted w e) put ∙ counted-put w e v d next counts ∙ by (same w e v d) refl ∙ ap (λ n. counted w e counts + n) (sym (count_sent-sent w e v d number t recs))
  where
    by : (b : Bool) → same w e v d ≡ b → cond b next (counted w e counts) ≡ counted w e counts + cond b (length recs) 0
    by true so = let it = same-is w e v d so in is ∙ ap₂ (λ x y. counted x y counts + length recs) (sym it.0) (sym it.1)
    by false so = omega arith

-- where a count is kept already, and where it isn't
pub counted_put-there : (w e n : ℕ) (counts : List Counted) (x : Counted) → count_place w e counts < length counts
    → counted_put w e n counts ≡ set counts (count_place w e counts) (record (get_or counts (count_place w e counts) x) { count = n })
counted_put-there w e n [] x h = absurd (omega arith)
counted_put-there w e n (kept ∷ counts) x h =
    elim ((w == kept.producer) && (e == kept.epoch)) as (λ b. cond b 0 (suc (count_place w e counts)) < suc (length counts) → cond b (record kept { count = n } ∷ counts) (kept ∷ counted_put w e n counts)
    ≡ set (kept ∷ counts) (cond b 0 (suc (count_place w e counts))) (record (get_or (kept ∷ counts) (cond b 0 (suc (count_place w e counts))) x) { count = n })) [
      | true ↦ λ h. refl
      | false ↦ λ h. ap (λ l. kept ∷ l) (counted_put-there w e n counts x (omega (arith, h)))
    ] h

pub counted_put-new : (w e n : ℕ) (counts : List Counted) → length counts ≤ count_place w e counts → counted_put w e n counts ≡ counts ++ record { producer = w; epoch = e; count = n } ∷ []
counted_put-new w e n [] h = refl
counted_put-new w e n (kept ∷ counts) h =
    elim ((w == kept.producer) && (e == kept.epoch)) as (λ b. suc (length counts) ≤ cond b 0 (suc (count_place w e counts)) → cond b (record kept { count = n } ∷ counts) (kept ∷ counted_put w e n counts)
    ≡ kept ∷ counts ++ record { producer = w; epoch = e; count = n } ∷ []) [
      | true ↦ λ h. absurd (omega (arith, h))
      | false ↦ λ h. ap (λ l. kept ∷ l) (counted_put-new w e n counts (omega (arith, h)))
    ] h
