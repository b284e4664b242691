-- A reader's replicas: the first one of a task, and what its being fed does to all positions.
use Rattle.std.proofs.Common.{◌≡◌, ℕ, zero, suc, ◌+◌, ◌<◌, ◌≤◌, Bool, true, false, cond, List, [], ◌∷◌, ◌++◌, length, get_or, set, drop, refl, sym, ap, subst, ◌∙◌, arith, add-one}
use Rattle.ks_record.specs.declared.record.TaskId.{TaskId}
use Rattle.ks_record.specs.Parts.{same_task}
use Rattle.ks_history.proofs.Names.{same_task-is, same_task-refl}
use Rattle.ks_standby.specs.declared.replica.Replica.{Replica}
use Rattle.ks_standby.specs.Replicas.{replica_view}
use Rattle.ks_iq.specs.Readers.{position_at, replica_place, NoneFell, IsAt}

-- ---- the place of a task
module _ (t : TaskId) where
  place_within : (rs : List Replica) → replica_place t rs ≤ length rs
  place_within [] = omega arith
  place_within (r ∷ rs) = by (same_task r.id t) (place_within rs)
    where
      by : (b : Bool) → replica_place t rs ≤ length rs → cond b 0 (suc (replica_place t rs)) ≤ suc (length rs)
      by true h = omega arith
      by false h = omega (arith, h)

  place_passed : (rs : List Replica) (i : ℕ) (d : Replica) → i < length rs → same_task (get_or rs i d).id t ≡ false → replica_place t (drop i rs) ≡ suc (replica_place t (drop (suc i) rs))
  place_passed [] i d lt other = absurd (omega (arith, lt))
  place_passed (r ∷ rs) zero d lt other = ap (λ b. cond b 0 (suc (replica_place t rs))) other
  place_passed (r ∷ rs) (suc i) d lt other = place_passed rs i d (omega (arith, lt)) other

  place_met : (rs : List Replica) (i : ℕ) (d : Replica) → i < length rs → same_task (get_or rs i d).id t ≡ true → replica_place t (drop i rs) ≡ 0
  place_met [] i d lt own = absurd (omega (arith, lt))
  place_met (r ∷ rs) zero d lt own = ap (λ b. cond b 0 (suc (replica_place t rs))) own
  place_met (r ∷ rs) (suc i) d lt own = place_met rs i d (omega (arith, lt)) own

  -- the place of those from i on, and i
  abbrev pub PlacedFrom : List Replica → ℕ → Type 0
  PlacedFrom rs i = replica_place t (drop i rs) + i ≡ replica_place t rs

  pub next_placed : (rs : List Replica) (i : ℕ) (r : Replica) (u : TaskId) → i < length rs → r ≡ get_or rs i r → u ≡ r.id → same_task u t ≡ false → PlacedFrom rs i → PlacedFrom rs (i + 1)
  next_placed rs i r u lt is named other h =
      let passed = place_passed rs i r lt (subst (λ (x : Replica). same_task x.id t ≡ false) is (subst (λ v. same_task v t ≡ false) named other)) in
      subst (PlacedFrom rs) (sym (add-one i)) (omega (arith, h, passed))

  pub here_placed : (rs : List Replica) (i : ℕ) (r : Replica) (u : TaskId) → i < length rs → r ≡ get_or rs i r → u ≡ r.id → same_task u t ≡ true → PlacedFrom rs i → i ≡ replica_place t rs
  here_placed rs i r u lt is named own h =
      let met = place_met rs i r lt (subst (λ (x : Replica). same_task x.id t ≡ true) is (subst (λ v. same_task v t ≡ true) named own)) in
      omega (arith, h, met)

  pub none_placed : (rs : List Replica) (i n : ℕ) → length rs ≤ i → n ≡ length rs → PlacedFrom rs i → n ≡ replica_place t rs
  none_placed rs i n past long h = omega (arith, past, long, h, place_within rs)

  -- ---- the replica there
  own_at : (rs : List Replica) (d : Replica) → replica_place t rs < length rs → (get_or rs (replica_place t rs) d).id ≡ t
  own_at [] d lt = absurd (omega (arith, lt))
  own_at (r ∷ rs) d lt = by (same_task r.id t) refl lt (own_at rs d)
    where
      by : (b : Bool) → same_task r.id t ≡ b → cond b 0 (suc (replica_place t rs)) < suc (length rs) → (replica_place t rs < length rs → (get_or rs (replica_place t rs) d).id ≡ t) → (get_or (r ∷ rs) (cond b 0 (suc (replica_place t rs))) d).id ≡ t
      by true own low more = same_task-is r.id t own
      by false other low more = more (omega (arith, low))

  position_first : (rs : List Replica) (log : ℕ) (d : Replica) → replica_place t rs < length rs → position_at rs t log ≡ (replica_view (get_or rs (replica_place t rs) d)).position log
  position_first [] log d lt = absurd (omega (arith, lt))
  position_first (r ∷ rs) log d lt = by (same_task r.id t) lt (position_first rs log d)
    where
      by : (b : Bool) → cond b 0 (suc (replica_place t rs)) < suc (length rs) → (replica_place t rs < length rs → position_at rs t log ≡ (replica_view (get_or rs (replica_place t rs) d)).position log) →
          cond b ((replica_view r).position log) (position_at rs t log) ≡ (replica_view (get_or (r ∷ rs) (cond b 0 (suc (replica_place t rs))) d)).position log
      by true low more = refl
      by false low more = more (omega (arith, low))

  position_set : (rs : List Replica) (log : ℕ) (x : Replica) → replica_place t rs < length rs → x.id ≡ t → position_at (set rs (replica_place t rs) x) t log ≡ (replica_view x).position log
  position_set [] log x lt named = absurd (omega (arith, lt))
  position_set (r ∷ rs) log x lt named = by (same_task r.id t) refl lt (λ low. position_set rs log x low named)
    where
      same : same_task x.id t ≡ true
      same = subst (λ u. same_task u t ≡ true) (sym named) (same_task-refl t)

      by : (b : Bool) → same_task r.id t ≡ b → cond b 0 (suc (replica_place t rs)) < suc (length rs) → (replica_place t rs < length rs → position_at (set rs (replica_place t rs) x) t log ≡ (replica_view x).position log) →
          position_at (set (r ∷ rs) (cond b 0 (suc (replica_place t rs))) x) t log ≡ (replica_view x).position log
      by true own low more = ap (λ b. cond b ((replica_view x).position log) (position_at rs t log)) same
      by false other low more = ap (λ b. cond b ((replica_view r).position log) (position_at (set rs (replica_place t rs) x) t log)) other ∙ more (omega (arith, low))

  -- ---- with a new one behind them
  place_pushed : (rs : List Replica) (r : Replica) → r.id ≡ t → replica_place t rs ≡ length rs → replica_place t (rs ++ r ∷ []) ≡ length rs
  place_pushed [] r named none = ap (λ b. cond b 0 1) (subst (λ u. same_task u t ≡ true) (sym named) (same_task-refl t))
  place_pushed (x ∷ rs) r named none = by (same_task x.id t) none (place_pushed rs r named)
    where
      by : (b : Bool) → cond b 0 (suc (replica_place t rs)) ≡ suc (length rs) → (replica_place t rs ≡ length rs → replica_place t (rs ++ r ∷ []) ≡ length rs) → cond b 0 (suc (replica_place t (rs ++ r ∷ []))) ≡ suc (length rs)
      by true at more = absurd (omega (arith, at))
      by false at more = ap suc (more (omega (arith, at)))

  pub at_pushed : (old new : List Replica) (at : ℕ) (r : Replica) → at ≡ replica_place t old → length old ≤ at → r.id ≡ t → new ≡ old ++ r ∷ [] → IsAt new at t
  at_pushed old new at r place past named is =
      let none : replica_place t old ≡ length old = omega (arith, place, past, place_within old) in
      record {
        within = subst (λ (l : List Replica). at < length l) (sym is) (omega (arith, place, none, one_longer old));
        first = place ∙ none ∙ sym (ap (replica_place t) is ∙ place_pushed old r named none);
      }
    where
      one_longer : (rs : List Replica) → length (rs ++ r ∷ []) ≡ suc (length rs)
      one_longer [] = refl
      one_longer (x ∷ rs) = ap suc (one_longer rs)

-- ---- positions
pub fell_not : (rs : List Replica) → NoneFell rs rs
fell_not rs u log = omega arith

pub fell_push : (rs : List Replica) (r : Replica) → NoneFell rs (rs ++ r ∷ [])
fell_push [] r u log = omega arith
fell_push (x ∷ rs) r u log = by (same_task x.id u) (fell_push rs r u log)
  where
    by : (b : Bool) → position_at rs u log ≤ position_at (rs ++ r ∷ []) u log → cond b ((replica_view x).position log) (position_at rs u log) ≤ cond b ((replica_view x).position log) (position_at (rs ++ r ∷ []) u log)
    by true h = omega arith
    by false h = h

pub fell_set : (rs : List Replica) (at : ℕ) (r x : Replica) → at < length rs → r ≡ get_or rs at r → x.id ≡ r.id → ((log : ℕ) → (replica_view r).position log ≤ (replica_view x).position log) → NoneFell rs (set rs at x)
fell_set [] at r x lt is named rose u log = absurd (omega (arith, lt))
fell_set (y ∷ rs) zero r x lt is named rose u log =
    subst (λ (o : Replica). cond (same_task o.id u) ((replica_view o).position log) (position_at rs u log) ≤ cond (same_task x.id u) ((replica_view x).position log) (position_at rs u log)) is
    (subst (λ v. cond (same_task r.id u) ((replica_view r).position log) (position_at rs u log) ≤ cond (same_task v u) ((replica_view x).position log) (position_at rs u log)) (sym named) (by (same_task r.id u)))
  where
    by : (b : Bool) → cond b ((replica_view r).position log) (position_at rs u log) ≤ cond b ((replica_view x).position log) (position_at rs u log)
    by true = rose log
    by false = omega arith
fell_set (y ∷ rs) (suc at) r x lt is named rose u log = by (same_task y.id u) (fell_set rs at r x (omega (arith, lt)) is named rose u log)
  where
    by : (b : Bool) → position_at rs u log ≤ position_at (set rs at x) u log → cond b ((replica_view y).position log) (position_at rs u log) ≤ cond b ((replica_view y).position log) (position_at (set rs at x) u log)
    by true h = omega arith
    by false h = h

pub fell_twice : (a b c : List Replica) → NoneFell a b → NoneFell b c → NoneFell a c
fell_twice a b c f g u log = omega (arith, f u log, g u log)

-- ---- by the place
pub own_is : (rs : List Replica) (at : ℕ) (t : TaskId) (d : Replica) → IsAt rs at t → (get_or rs at d).id ≡ t
own_is rs at t d h = subst (λ n. (get_or rs n d).id ≡ t) (sym h.first) (own_at t rs d (omega (arith, h.within, h.first)))

pub position_is : (rs : List Replica) (at : ℕ) (t : TaskId) (log : ℕ) (x : Replica) → IsAt rs at t → x.id ≡ t → position_at (set rs at x) t log ≡ (replica_view x).position log
position_is rs at t log x h named = subst (λ n. position_at (set rs n x) t log ≡ (replica_view x).position log) (sym h.first) (position_set t rs log x (omega (arith, h.within, h.first)) named)
