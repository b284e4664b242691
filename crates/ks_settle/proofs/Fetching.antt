-- What a fetch gives: the next readable records one after another, and an offset up to which nothing else is readable.
use Rattle.std.proofs.Common.{◌≡◌, ℕ, zero, suc, ◌+◌, ◌<◌, ◌≤◌, Bool, true, false, cond, List, [], ◌∷◌, length, take, refl, sym, ap, subst, ◌∙◌, arith, Option, Some, None}
use Rattle.std.specs.Prelude.{nat_le, nat_lt, max, ◌==◌, if◌then◌else◌}
use Rattle.std.proofs.lemmas.Bool.Decides.{nat_tests}
use Rattle.std.proofs.lemmas.Bool.{eqb-true}
use Rattle.ks_record.specs.Records.{Record as Rec}
use Rattle.ks_history.specs.declared.partition.Slot.{Slot}
use Rattle.ks_history.specs.declared.partition.Slot.TheVariants.{Plain, Sent, Mark}
use Rattle.ks_history.specs.Partition.{Logged, next_mark, by_mark, stable, readable_from, readable, with_offsets, past_from, below, past_last, read, read_next}
use Rattle.ks_settle.specs.Fetches.{taken_to}

-- ---- the offsets of readable records rise, and stay below the stable offset
-- offsets from `low` on rise, below `high`
abbrev pub Rises : ℕ → ℕ → List Logged → Type 0
Rises low high [] = Unit {0}
Rises low high (x ∷ xs) = (low ≤ x.offset) × (x.offset < high) × Rises (x.offset + 1) high xs

rises_lower : (low more high : ℕ) (xs : List Logged) → low ≤ more → Rises more high xs → Rises low high xs
rises_lower low more high [] h r = tt
rises_lower low more high (x ∷ xs) h r = (omega (arith, r.0), r.1, r.2)

rises_higher : (low high more : ℕ) (xs : List Logged) → high ≤ more → Rises low high xs → Rises low more xs
rises_higher low high more [] h r = tt
rises_higher low high more (x ∷ xs) h r = (r.0, omega (arith, r.1), rises_higher (x.offset + 1) high more xs h r.2)

readable_rises : (at : ℕ) (slots : List Slot) → Rises at (at + stable slots) (readable_from at slots)
readable_rises at [] = tt
readable_rises at (Plain rec ∷ slots) = (omega arith, omega arith, rises_higher (at + 1) _ _ (readable_from (at + 1) slots) (omega arith) (readable_rises (at + 1) slots))
readable_rises at (Sent w e number task rec ∷ slots) = by (next_mark w e slots) (readable_rises (at + 1) slots)
  where
    by : (d : Option Bool) → Rises (at + 1) ((at + 1) + stable slots) (readable_from (at + 1) slots) → Rises at (at + by_mark d 0 (suc (stable slots)) (suc (stable slots)))
        (by_mark d [] (record { offset = at; sender = Some task; rec = rec } ∷ readable_from (at + 1) slots) (readable_from (at + 1) slots))
    by None r = tt
    by (Some true) r = (omega arith, omega arith, rises_higher (at + 1) _ _ (readable_from (at + 1) slots) (omega arith) r)
    by (Some false) r = rises_lower at (at + 1) _ (readable_from (at + 1) slots) (omega arith) (rises_higher (at + 1) _ _ (readable_from (at + 1) slots) (omega arith) r)
readable_rises at (Mark w e commit ∷ slots) = rises_lower at (at + 1) _ (readable_from (at + 1) slots) (omega arith) (rises_higher (at + 1) _ _ (readable_from (at + 1) slots) (omega arith) (readable_rises (at + 1) slots))

pub all_rise : (slots : List Slot) → Rises 0 (stable slots) (readable slots)
all_rise slots = rises_higher 0 _ _ (readable slots) (omega arith) (readable_rises 0 slots)

-- ---- those past an offset
le_is : (a b : ℕ) → a ≤ b → nat_le a b ≡ true
le_is a b h = grind (arith, nat_tests)

le_not : (a b : ℕ) → b < a → nat_le a b ≡ false
le_not a b h = grind (arith, nat_tests)

is_le : (a b : ℕ) → nat_le a b ≡ true → a ≤ b
is_le a b h = grind (arith, nat_tests)

not_le : (a b : ℕ) → nat_le a b ≡ false → b < a
not_le a b h = grind (arith, nat_tests)

lt_not : (a b : ℕ) → b ≤ a → nat_lt a b ≡ false
lt_not a b h = grind (arith, nat_tests)

past_all : (from low high : ℕ) (xs : List Logged) → from ≤ low → Rises low high xs → past_from from xs ≡ xs
past_all from low high [] h r = refl
past_all from low high (x ∷ xs) h r =
    ap (λ b. cond b (x ∷ past_from from xs) (past_from from xs)) (le_is from x.offset (omega (arith, r.0)))
    ∙ ap (λ l. x ∷ l) (past_all from (x.offset + 1) high xs (omega (arith, r.0)) r.2)

-- the first of those past an offset, and what comes after it
pub record Ahead (from high : ℕ) (x : Logged) (xs all : List Logged) : Type 0 where
  pub past : from ≤ x.offset
  pub below : x.offset < high
  pub next : past_from (x.offset + 1) all ≡ xs

pub ahead : (from low high : ℕ) (all : List Logged) (x : Logged) (xs : List Logged) → Rises low high all → past_from from all ≡ x ∷ xs → Ahead from high x xs all
ahead from low high [] x xs r e = absurd (cc)
ahead from low high (y ∷ ys) x xs r e = by (nat_le from y.offset) refl e (λ h. ahead from (y.offset + 1) high ys x xs r.2 h)
  where
    by : (b : Bool) → nat_le from y.offset ≡ b → cond b (y ∷ past_from from ys) (past_from from ys) ≡ x ∷ xs → (past_from from ys ≡ x ∷ xs → Ahead from high x xs ys) → Ahead from high x xs (y ∷ ys)
    by true t e more =
        let head : y ≡ x = cc in
        let tail : past_from from ys ≡ xs = cc in
        let le : from ≤ y.offset = is_le from y.offset t in
        let skip : past_from (y.offset + 1) (y ∷ ys) ≡ past_from (y.offset + 1) ys = ap (λ b. cond b (y ∷ past_from (y.offset + 1) ys) (past_from (y.offset + 1) ys)) (le_not (y.offset + 1) y.offset (omega arith)) in
        let after : past_from (y.offset + 1) ys ≡ ys = past_all (y.offset + 1) (y.offset + 1) high ys (omega arith) r.2 in
        let same : past_from from ys ≡ ys = past_all from (y.offset + 1) high ys (omega arith) r.2 in
        subst (λ z. Ahead from high z xs (y ∷ ys)) head (record { past = le; below = r.1; next = skip ∙ after ∙ sym same ∙ tail })
    by false t e more =
        let rest : Ahead from high x xs ys = more e in
        let lt : y.offset < from = not_le from y.offset t in
        record {
          past = rest.past;
          below = rest.below;
          next = ap (λ b. cond b (y ∷ past_from (x.offset + 1) ys) (past_from (x.offset + 1) ys)) (le_not (x.offset + 1) y.offset (omega (arith, rest.past))) ∙ rest.next;
        }

below_past : (a : ℕ) (xs : List Logged) → below a (past_from a xs) ≡ []
below_past a [] = refl
below_past a (x ∷ xs) = by (nat_le a x.offset) refl (below_past a xs)
  where
    by : (b : Bool) → nat_le a x.offset ≡ b → below a (past_from a xs) ≡ [] → below a (cond b (x ∷ past_from a xs) (past_from a xs)) ≡ []
    by true e more = ap (λ b. cond b (x ∷ below a (past_from a xs)) (below a (past_from a xs))) (lt_not x.offset a (is_le a x.offset e)) ∙ more
    by false e more = more

-- ---- the records of a fetch
-- these are the first of those past an offset
pub record AreNext (from : ℕ) (all : List Logged) (recs : List (ℕ × Rec)) : Type 0 where
  pub count : ℕ
  pub are : recs ≡ take count (with_offsets (past_from from all))

-- the first is the next, and the others come after it
pub record Steps (from high : ℕ) (all : List Logged) (r : ℕ × Rec) (rs : List (ℕ × Rec)) : Type 0 where
  pub rest : List (ℕ × Rec)
  pub first : with_offsets (past_from from all) ≡ (r.0, r.1) ∷ rest
  pub past : from ≤ r.0
  pub below : r.0 < high
  pub more : AreNext (r.0 + 1) all rs

pub steps : (from high : ℕ) (all : List Logged) (r : ℕ × Rec) (rs : List (ℕ × Rec)) → Rises 0 high all → AreNext from all (r ∷ rs) → Steps from high all r rs
steps from high all r rs rises next = by next.count (past_from from all) refl next.are
  where
    by : (n : ℕ) (xs : List Logged) → past_from from all ≡ xs → r ∷ rs ≡ take n (with_offsets xs) → Steps from high all r rs
    by zero xs e h = absurd (cc)
    by (suc n) [] e h = absurd (cc)
    by (suc n) (x ∷ xs) e h =
        let a : Ahead from high x xs all = ahead from 0 high all x xs rises e in
        let head : r ≡ (x.offset, x.rec) = cc in
        let tail : rs ≡ take n (with_offsets xs) = cc in
        let offset : r.0 ≡ x.offset = ap (λ (q : ℕ × Rec). q.0) head in
        record {
          rest = with_offsets xs;
          first = ap with_offsets e ∙ ap (λ (q : ℕ × Rec). (q.0, q.1) ∷ with_offsets xs) (sym head);
          past = omega (arith, a.past, offset);
          below = omega (arith, a.below, offset);
          more = record { count = n; are = tail ∙ ap (λ l. take n (with_offsets l)) (sym a.next) ∙ ap (λ o. take n (with_offsets (past_from (o + 1) all))) (sym offset) };
        }

-- what a fetch tells of where a task stands after its records, and of where the next fetch goes on
pub record Fetched (from to next high : ℕ) (all : List Logged) : Type 0 where
  pub later : to ≤ next
  pub moved : from ≤ to
  pub stable : next ≤ high
  pub nothing : below next (past_from to all) ≡ []
  pub stops : next ≡ from → high ≤ from

-- where all records past an offset were taken, nothing is left
taken_all : (from high : ℕ) (all xs : List Logged) → Rises 0 high all → from ≤ high → past_from from all ≡ xs →
    (past_from (taken_to from (with_offsets xs)) all ≡ []) × (from ≤ taken_to from (with_offsets xs)) × (taken_to from (with_offsets xs) ≤ high)
taken_all from high all [] r h e = (e, omega arith, h)
taken_all from high all (x ∷ xs) r h e =
    let a : Ahead from high x xs all = ahead from 0 high all x xs r e in
    let more = taken_all (x.offset + 1) high all xs r (omega (arith, a.below)) a.next in
    (more.0, omega (arith, more.1, a.past), more.2)

taken_some : (from high n : ℕ) (all xs : List Logged) → Rises 0 high all → from ≤ high → past_from from all ≡ xs →
    (from ≤ taken_to from (take n (with_offsets xs))) × (taken_to from (take n (with_offsets xs)) ≤ high)
taken_some from high zero all xs r h e = (omega arith, h)
taken_some from high (suc n) all [] r h e = (omega arith, h)
taken_some from high (suc n) all (x ∷ xs) r h e =
    let a : Ahead from high x xs all = ahead from 0 high all x xs r e in
    let more = taken_some (x.offset + 1) high n all xs r (omega (arith, a.below)) a.next in
    (omega (arith, more.0, a.past), more.1)

past_last-is : (from : ℕ) (r : ℕ × Rec) (rs : List (ℕ × Rec)) → past_last (r ∷ rs) ≡ taken_to from (r ∷ rs)
past_last-is from r [] = refl
past_last-is from r (q ∷ rs) = past_last-is (r.0 + 1) q rs

take_short : {A : Type 0} (n : ℕ) (xs : List A) → (length (take n xs) == n) ≡ false → take n xs ≡ xs
take_short zero xs h = absurd (cc)
take_short (suc n) [] h = refl
take_short (suc n) (x ∷ xs) h = ap (λ l. x ∷ l) (take_short n xs (let e : (length (take n xs) == n) ≡ false = grind (arith, nat_tests) in e))

next_by : (b : Bool) (from limit : ℕ) (slots : List Slot) → ℕ
next_by b from limit slots = if b then past_last (read from limit slots) else max from (stable slots)

pub fetched_is : (from limit : ℕ) (slots : List Slot) → from ≤ stable slots → 1 ≤ limit →
    Fetched from (taken_to from (read from limit slots)) (read_next from limit slots) (stable slots) (readable slots)
fetched_is from limit slots h some = by (length (read from limit slots) == limit) refl
  where
    high : ℕ
    high = stable slots

    full : (rs : List (ℕ × Rec)) → read from limit slots ≡ rs → length rs ≡ limit → (from < taken_to from rs) × (past_last rs ≡ taken_to from rs)
    full [] e l = absurd (omega (arith, l, some))
    full (r ∷ rs) e l =
        let s : Steps from (stable slots) (readable slots) r rs = steps from (stable slots) (readable slots) r rs (all_rise slots) (record { count = limit; are = sym e }) in
        let more = taken_some from (stable slots) limit (readable slots) (past_from from (readable slots)) (all_rise slots) h refl in
        (later from r rs s, past_last-is from r rs)
      where
        later : (from : ℕ) (r : ℕ × Rec) (rs : List (ℕ × Rec)) → Steps from (stable slots) (readable slots) r rs → from < taken_to from (r ∷ rs)
        later from r [] s = omega (arith, s.past)
        later from r (q ∷ rs) s =
            let t : Steps (r.0 + 1) (stable slots) (readable slots) q rs = steps (r.0 + 1) (stable slots) (readable slots) q rs (all_rise slots) s.more in
            omega (arith, s.past, later (r.0 + 1) q rs t)

    by : (b : Bool) → (length (read from limit slots) == limit) ≡ b →
        Fetched from (taken_to from (read from limit slots)) (if b then past_last (read from limit slots) else max from (stable slots)) (stable slots) (readable slots)
    by true e =
        let f = full (read from limit slots) refl (eqb-true _ _ e) in
        let more = taken_some from (stable slots) limit (readable slots) (past_from from (readable slots)) (all_rise slots) h refl in
        subst (λ n. Fetched from (taken_to from (read from limit slots)) n (stable slots) (readable slots)) (sym f.1)
        (record { later = omega arith; moved = more.0; stable = more.1; nothing = below_past _ (readable slots); stops = λ g. absurd (omega (arith, f.0, g)) })
    by false e =
        let all : read from limit slots ≡ with_offsets (past_from from (readable slots)) = take_short limit _ e in
        let more = taken_all from (stable slots) (readable slots) (past_from from (readable slots)) (all_rise slots) h refl in
        let m : max from (stable slots) ≡ stable slots = omega arith in
        subst (λ n. Fetched from (taken_to from (read from limit slots)) n (stable slots) (readable slots)) (sym m)
        (subst (λ l. Fetched from (taken_to from l) (stable slots) (stable slots) (readable slots)) (sym all)
        (record { later = more.2; moved = more.1; stable = omega arith; nothing = ap (below (stable slots)) more.0; stops = λ g. omega (arith, g) }))
