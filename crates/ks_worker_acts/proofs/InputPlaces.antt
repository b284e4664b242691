-- The inputs of a worker's tasks in a list, and what holds at each of them.
use Rattle.std.proofs.Common.{◌≡◌, ℕ, zero, suc, ◌+◌, ◌<◌, ◌||◌, Bool, true, false, List, [], ◌∷◌, ◌++◌, length, get_or, refl, sym, ap, subst, arith, append_assoc, length-append}
use Rattle.std.specs.Prelude.{◌==◌}
use Rattle.std.specs.List.{All}
use Rattle.std.proofs.lemmas.Bool.{true≢false, eqb-true, eq-eqb}
use Rattle.std.proofs.lemmas.List.Elements.{All-nil, All-cons, All-head, All-tail, All-append, All-take, All-drop}
use Rattle.std.proofs.Math.Seq.{take-append_seam, drop-append_seam}
use Rattle.ks_history.specs.Machine.{has_topic}
use Rattle.ks_task.specs.declared.task.Task.{Task}
use Rattle.ks_task.specs.Tasks.{task_view}
use Rattle.ks_worker_acts.specs.declared.places.InputPlace.{InputPlace}
use Rattle.ks_worker_acts.specs.Inputs.{places_at, places_from, AtPlace, IsInputAt}

-- ---- a place of a list
pub place_within : (P : Task → Type 0) (i : ℕ) (ts : List Task) → AtPlace P i ts → i < length ts
place_within P i [] h = absurd h
place_within P zero (t ∷ ts) h = omega arith
place_within P (suc i) (t ∷ ts) h = omega (arith, place_within P i ts h)

pub place_is : (P : Task → Type 0) (i : ℕ) (ts : List Task) (d : Task) → AtPlace P i ts → P (get_or ts i d)
place_is P i [] d h = absurd h
place_is P zero (t ∷ ts) d h = h
place_is P (suc i) (t ∷ ts) d h = place_is P i ts d h

pub is_place : (P : Task → Type 0) (i : ℕ) (ts : List Task) (d : Task) → i < length ts → P (get_or ts i d) → AtPlace P i ts
is_place P i [] d lt h = absurd (omega (arith, lt))
is_place P zero (t ∷ ts) d lt h = h
is_place P (suc i) (t ∷ ts) d lt h = is_place P i ts d (omega (arith, lt)) h

pub place_on : (P Q : Task → Type 0) (i : ℕ) (ts : List Task) → ((t : Task) → P t → Q t) → AtPlace P i ts → AtPlace Q i ts
place_on P Q i [] f h = h
place_on P Q zero (t ∷ ts) f h = f t h
place_on P Q (suc i) (t ∷ ts) f h = place_on P Q i ts f h

-- the task behind so many others
at_front : (P : Task → Type 0) (before after : List Task) (t : Task) (n : ℕ) → n ≡ length before → P t → AtPlace P n (before ++ t ∷ after)
at_front P [] after t zero is h = h
at_front P [] after t (suc n) is h = absurd (omega (arith, is))
at_front P (x ∷ before) after t zero is h = absurd (omega (arith, is))
at_front P (x ∷ before) after t (suc n) is h = at_front P before after t n (omega (arith, is)) h

front_at : (P : Task → Type 0) (before after : List Task) (t : Task) (n : ℕ) → n ≡ length before → AtPlace P n (before ++ t ∷ after) → P t
front_at P [] after t zero is h = h
front_at P [] after t (suc n) is h = absurd (omega (arith, is))
front_at P (x ∷ before) after t zero is h = absurd (omega (arith, is))
front_at P (x ∷ before) after t (suc n) is h = front_at P before after t n (omega (arith, is)) h

-- ---- what holds of each topic of a task holds at each of its inputs, and the other way round
module _ (Q : ℕ → Task → Type 0) where
  at_each : (ts : List Task) (n : ℕ) (topics : List ℕ) → ((u : ℕ) → has_topic u topics ≡ true → AtPlace (Q u) n ts) → All (λ p. AtPlace (Q p.topic) p.index ts) (places_at n topics)
  at_each ts n [] f = All-nil (λ (p : InputPlace). AtPlace (Q p.topic) p.index ts)
  at_each ts n (x ∷ xs) f =
      All-cons (λ (p : InputPlace). AtPlace (Q p.topic) p.index ts) (record { index = n; topic = x }) (places_at n xs) (f x (ap (λ b. b || has_topic x xs) (eq-eqb x x refl)))
      (at_each ts n xs (λ u h. f u (behind (u == x) h)))
    where
      behind : (b : Bool) {c : Bool} → c ≡ true → b || c ≡ true
      behind true h = refl
      behind false h = h

  each_at : (ts : List Task) (n : ℕ) (topics : List ℕ) → All (λ p. AtPlace (Q p.topic) p.index ts) (places_at n topics) → (u : ℕ) → has_topic u topics ≡ true → AtPlace (Q u) n ts
  each_at ts n [] all u h = absurd (true≢false (sym h))
  each_at ts n (x ∷ xs) all u h =
      by (u == x) refl h (All-head (λ (p : InputPlace). AtPlace (Q p.topic) p.index ts) (record { index = n; topic = x }) (places_at n xs) all)
      (λ g. each_at ts n xs (All-tail (λ (p : InputPlace). AtPlace (Q p.topic) p.index ts) (record { index = n; topic = x }) (places_at n xs) all) u g)
    where
      by : (b : Bool) → (u == x) ≡ b → b || has_topic u xs ≡ true → AtPlace (Q x) n ts → (has_topic u xs ≡ true → AtPlace (Q u) n ts) → AtPlace (Q u) n ts
      by true e g here more = subst (λ k. AtPlace (Q k) n ts) (sym (eqb-true u x e)) here
      by false e g here more = more g

  module _ (inputs : ℕ → List ℕ) where
    all_places : (before ts : List Task) (n : ℕ) → n ≡ length before → ((t : Task) (u : ℕ) → has_topic u (inputs (task_view t).task.sub) ≡ true → Q u t) →
        All (λ p. AtPlace (Q p.topic) p.index (before ++ ts)) (places_from inputs n ts)
    all_places before [] n is f = All-nil (λ (p : InputPlace). AtPlace (Q p.topic) p.index (before ++ []))
    all_places before (t ∷ ts) n is f =
        All-append (λ (p : InputPlace). AtPlace (Q p.topic) p.index (before ++ t ∷ ts)) (places_at n (inputs (task_view t).task.sub)) (places_from inputs (n + 1) ts)
        (at_each (before ++ t ∷ ts) n (inputs (task_view t).task.sub) (λ u h. at_front (Q u) before ts t n is (f t u h)))
        (subst (λ (l : List Task). All (λ p. AtPlace (Q p.topic) p.index l) (places_from inputs (n + 1) ts)) (append_assoc before (t ∷ []) ts)
        (all_places (before ++ t ∷ []) ts (n + 1) (omega (arith, is, length-append before (t ∷ []))) f))

    all_from : (before ts : List Task) (n : ℕ) → n ≡ length before → All (λ p. AtPlace (Q p.topic) p.index (before ++ ts)) (places_from inputs n ts) →
        All (λ t. (u : ℕ) → has_topic u (inputs (task_view t).task.sub) ≡ true → Q u t) ts
    all_from before [] n is all = All-nil (λ (t : Task). (u : ℕ) → has_topic u (inputs (task_view t).task.sub) ≡ true → Q u t)
    all_from before (t ∷ ts) n is all =
        let P : InputPlace → Type 0 = λ p. AtPlace (Q p.topic) p.index (before ++ t ∷ ts) in
        let own : List InputPlace = places_at n (inputs (task_view t).task.sub) in
        let others : List InputPlace = places_from inputs (n + 1) ts in
        All-cons (λ (t : Task). (u : ℕ) → has_topic u (inputs (task_view t).task.sub) ≡ true → Q u t) t ts
        (λ u h. front_at (Q u) before ts t n is (each_at (before ++ t ∷ ts) n (inputs (task_view t).task.sub) (subst (All P) (take-append_seam own others) (All-take P (length own) (own ++ others) all)) u h))
        (all_from (before ++ t ∷ []) ts (n + 1) (omega (arith, is, length-append before (t ∷ [])))
        (subst (λ (l : List Task). All (λ p. AtPlace (Q p.topic) p.index l) others) (sym (append_assoc before (t ∷ []) ts)) (subst (All P) (drop-append_seam own others) (All-drop P (length own) (own ++ others) all))))

-- each of the listed places is an input of the task that stands there
pub inputs_are : (inputs : ℕ → List ℕ) (ts : List Task) → All (IsInputAt inputs ts) (places_from inputs 0 ts)
inputs_are inputs ts = all_places (λ u t. has_topic u (inputs (task_view t).task.sub) ≡ true) inputs [] ts 0 refl (λ t u h. h)

-- what holds at each of the listed places holds of each input of each task
pub all_inputs : (Q : ℕ → Task → Type 0) (inputs : ℕ → List ℕ) (ts : List Task) → All (λ p. AtPlace (Q p.topic) p.index ts) (places_from inputs 0 ts) →
    All (λ t. (u : ℕ) → has_topic u (inputs (task_view t).task.sub) ≡ true → Q u t) ts
all_inputs Q inputs ts all = all_from Q inputs [] ts 0 refl all
