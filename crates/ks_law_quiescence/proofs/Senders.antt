-- The senders of a run, each once, and what they did together.
use Rattle.std.proofs.Common.{◌≡◌, ℕ, ◌+◌, ◌*◌, ◌<◌, ◌≤◌, Bool, true, false, cond, ◌&&◌, List, length, [], ◌∷◌, ◌++◌, map, Option, Some, refl, sym, ap, ◌∙◌, arith, nat_eq, ne_eqb, ◌⊎◌, inl, inr}
use Rattle.std.proofs.lemmas.Bool.{eqb-false}
use Rattle.std.proofs.lemmas.Bool.Decides.{Decides-eqb}
use Rattle.ks_def_runs.specs.Run.{Machine, HasNames, Taken, same_sender, is_from, received}
use Rattle.ks_def_runs.proofs.Runs.{same_sender-is, same_sender_refl}
use Rattle.ks_def_runs.proofs.Sums.{sum_map, sum_map-add, sum_map-zero, sum_map-append, steps, times}

module _ {Task Place Store Item : Type 0} (m : Machine Task Place Store Item) where
  -- each member once
  abbrev pub distinct : List (Option Task) → List (Option Task)
  distinct [] = []
  distinct (s ∷ ss) = cond (nat_eq (times m s ss) 0) (s ∷ distinct ss) (distinct ss)

  abbrev pub senders_of : List (Taken Task Place Item) → List (Option Task)
  senders_of ts = map (λ t. t.sender) ts

  -- how many steps a sender made
  abbrev pub steps_of : List (Taken Task Place Item) → Option Task → ℕ
  steps_of [] s = 0
  steps_of (t ∷ ts) s = cond (is_from m.same_task s (m.reader t.place)) 1 0 + steps_of ts s

  pub steps_of-is : (u : Task) (ts : List (Taken Task Place Item)) → steps_of ts (Some u) ≡ steps m u ts
  steps_of-is u [] = refl
  steps_of-is u (t ∷ ts) = ap (λ n. cond (m.same_task u (m.reader t.place)) 1 0 + n) (steps_of-is u ts)

  scaled : (s : Option Task) (v : ℕ) (senders : List (Option Task)) → sum_map (λ r. cond (same_sender m.same_task r s) v 0) senders ≡ times m s senders * v
  scaled s v [] = omega arith
  scaled s v (r ∷ rs) = one (same_sender m.same_task r s) _ _ (scaled s v rs)
    where
      one : (a : Bool) (k n : ℕ) → k ≡ n * v → cond a v 0 + k ≡ (cond a 1 0 + n) * v
      one true k n e = omega arith
      one false k n e = omega arith

  -- of a sum over senders to which one alone gives
  pub one_gives : (s : Option Task) (v : ℕ) (senders : List (Option Task)) → times m s senders ≡ 1 → sum_map (λ r. cond (same_sender m.same_task r s) v 0) senders ≡ v
  one_gives s v senders e = scaled s v senders ∙ rw e (omega arith)

  module _ (names : HasNames m) where
    same_times : (s r : Option Task) (ss : List (Option Task)) → same_sender m.same_task r s ≡ true → times m s ss ≡ times m r ss
    same_times s r ss e = ap (λ x. times m x ss) (sym (same_sender-is m names r s e))

    times_distinct : (s : Option Task) (ss : List (Option Task)) → times m s (distinct ss) ≡ cond (nat_eq (times m s ss) 0) 0 1
    times_distinct s [] = refl
    times_distinct s (r ∷ rs) =
        let rest = times_distinct s rs in
        elim (same_sender m.same_task r s) as (λ b. same_sender m.same_task r s ≡ b → times m s (cond (nat_eq (times m r rs) 0) (r ∷ distinct rs) (distinct rs)) ≡ cond (nat_eq (cond b 1 0 + times m s rs) 0) 0 1) [
          | true ↦ λ b.
              let same = same_times s r rs b in
              let more : nat_eq (1 + times m s rs) 0 ≡ false = ne_zero (times m s rs) in
              elim (nat_eq (times m r rs) 0) as (λ c. nat_eq (times m r rs) 0 ≡ c → times m s (cond c (r ∷ distinct rs) (distinct rs)) ≡ cond (nat_eq (1 + times m s rs) 0) 0 1) [
                | true ↦ λ c.
                    let none : nat_eq (times m s rs) 0 ≡ true = ap (λ n. nat_eq n 0) same ∙ c in
                    let zero_rest : times m s (distinct rs) ≡ 0 = rest ∙ ap (λ d. cond d 0 1) none in
                    ap (λ d. cond d 1 0 + times m s (distinct rs)) b ∙ ap (λ n. 1 + n) zero_rest ∙ ap (λ d. cond d 0 1) (sym more)
                | false ↦ λ c.
                    let some : nat_eq (times m s rs) 0 ≡ false = ap (λ n. nat_eq n 0) same ∙ c in
                    rest ∙ ap (λ d. cond d 0 1) some ∙ ap (λ d. cond d 0 1) (sym more)
              ] refl
          | false ↦ λ b.
              let plain : nat_eq (0 + times m s rs) 0 ≡ nat_eq (times m s rs) 0 = ap (λ n. nat_eq n 0) (zero_sum (times m s rs)) in
              elim (nat_eq (times m r rs) 0) as (λ c. times m s (cond c (r ∷ distinct rs) (distinct rs)) ≡ cond (nat_eq (0 + times m s rs) 0) 0 1) [
                | true ↦ ap (λ d. cond d 1 0 + times m s (distinct rs)) b ∙ zero_sum _ ∙ rest ∙ ap (λ d. cond d 0 1) (sym plain)
                | false ↦ rest ∙ ap (λ d. cond d 0 1) (sym plain)
              ]
        ] refl
      where
        zero_sum : (n : ℕ) → 0 + n ≡ n
        zero_sum n = omega arith

        ne_zero : (n : ℕ) → nat_eq (1 + n) 0 ≡ false
        ne_zero n = ne_eqb (1 + n) 0 (λ e. omega arith)

    -- at most once, and once where it is a member
    pub at_most_once : (s : Option Task) (ss : List (Option Task)) → times m s (distinct ss) ≤ 1
    at_most_once s ss = rw (times_distinct s ss) (elim (nat_eq (times m s ss) 0) as (λ b. cond b 0 1 ≤ 1) [ true ↦ omega arith | false ↦ omega arith ])

    pub just_once : (s : Option Task) (ss : List (Option Task)) → 0 < times m s ss → times m s (distinct ss) ≡ 1
    just_once s ss lt = times_distinct s ss ∙ ap (λ b. cond b 0 1) (ne_eqb (times m s ss) 0 (λ e. omega arith))

    -- who isn't a sender gave nothing
    pub no_sender : (s : Option Task) (p : Place) (ts : List (Taken Task Place Item)) → times m s (senders_of ts) ≡ 0 → received m s p ts ≡ []
    no_sender s p [] e = refl
    no_sender s p (t ∷ ts) e =
        let rest = no_sender s p ts (omega arith) in
        elim (same_sender m.same_task t.sender s) as (λ b. same_sender m.same_task t.sender s ≡ b → cond {A = ℕ} b 1 0 + times m s (senders_of ts) ≡ 0 → received m s p (t ∷ ts) ≡ []) [
          | true ↦ λ b e. absurd (omega arith)
          | false ↦ λ b e.
              let other : same_sender m.same_task s t.sender ≡ false = turned s t.sender b in
              ap (λ c. cond (c && m.same_place p t.place) (t.item ∷ received m s p ts) (received m s p ts)) other ∙ rest
        ] refl e
      where
        turned : (s r : Option Task) → same_sender m.same_task r s ≡ false → same_sender m.same_task s r ≡ false
        turned s r e = elim (same_sender m.same_task s r) as (λ b. same_sender m.same_task s r ≡ b → b ≡ false) [
          | true ↦ λ b. sym (ap (λ x. same_sender m.same_task x s) (sym (same_sender-is m names s r b)) ∙ same_sender_refl m names s) ∙ e
          | false ↦ λ b. refl
        ] refl

    -- each is a member once, or gave nothing
    pub members_or_none : (more : List (Option Task)) (p : Place) (ts : List (Taken Task Place Item)) (s : Option Task) →
        (times m s (distinct (more ++ senders_of ts)) ≡ 1) ⊎ (received m s p ts ≡ [])
    members_or_none more p ts s = elim (nat_eq (times m s (senders_of ts)) 0) as (λ b. nat_eq (times m s (senders_of ts)) 0 ≡ b → (times m s (distinct (more ++ senders_of ts)) ≡ 1) ⊎ (received m s p ts ≡ [])) [
      | true ↦ λ b. inr (no_sender s p ts ((Decides-eqb _ 0).0 b))
      | false ↦ λ b.
          let ne = eqb-false (times m s (senders_of ts)) 0 b in
          inl (just_once s (more ++ senders_of ts) (omega (arith, sum_map-append (λ r. cond (same_sender m.same_task r s) 1 0) more (senders_of ts))))
    ] refl

    -- their steps are no more than all
    pub steps_together : (ss : List (Option Task)) (ts : List (Taken Task Place Item)) → sum_map (steps_of ts) (distinct ss) ≤ length ts
    steps_together ss [] = rw (sum_map-zero (distinct ss)) (omega arith)
    steps_together ss (t ∷ ts) =
        let rest = steps_together ss ts in
        let once = at_most_once (Some (m.reader t.place)) ss in
        let sums = sum_map-add (λ s. cond (is_from m.same_task s (m.reader t.place)) 1 0) (steps_of ts) (distinct ss) in
        omega arith
