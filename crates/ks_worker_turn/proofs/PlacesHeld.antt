-- That a worker has what is placed with it.
use Rattle.std.proofs.Common.{◌≡◌, ◌≤◌, ◌<◌, ℕ, zero, suc, ◌+◌, ◌&&◌, ◌||◌, Bool, true, false, List, [], ◌∷◌, ◌++◌, Option, Some, None, length, take, get_or, refl, sym, ap, subst, ◌∙◌, arith, add-one}
use Rattle.std.specs.Prelude.{◌==◌, IsSome}
use Rattle.std.proofs.Math.Seq.{take-suc}
use Rattle.std.proofs.lemmas.Bool.{eqb-true}
use Rattle.std.proofs.lemmas.List.{take_all}
use Rattle.ks_record.specs.declared.record.TaskId.{TaskId}
use Rattle.ks_record.specs.declared.assignment.Assignment.{Assignment}
use Rattle.ks_record.specs.Parts.{same_task}
use Rattle.ks_history.specs.State.{has_task}
use Rattle.ks_history.proofs.Names.{same_task-is}
use Rattle.ks_standby.specs.declared.replica.Replica.{Replica}
use Rattle.ks_task.specs.declared.task.Task.{Task}
use Rattle.ks_task.specs.Tasks.{task_view}
use Rattle.ks_worker_state.specs.Names.{task_names, replica_names}
use Rattle.ks_worker_turn.specs.Held.{AreHeld}
use Rattle.ks_worker_turn.specs.Places.{has_place, is_placed}
use Rattle.ks_worker_turn.proofs.Holding.{has-append}

-- the one at a place is one of them
pub task_at : (ts : List Task) (i : ℕ) (d : Task) (t : TaskId) → i < length ts → same_task t (task_view (get_or ts i d)).task ≡ true → has_task t (task_names ts) ≡ true
task_at [] i d t lt is = absurd (omega (arith, lt))
task_at (x ∷ xs) zero d t lt is = ap (λ b. b || has_task t (task_names xs)) is
task_at (x ∷ xs) (suc i) d t lt is = or_right (same_task t (task_view x).task) (task_at xs i d t (omega (arith, lt)) is)
  where
    or_right : (a : Bool) {b : Bool} → b ≡ true → (a || b) ≡ true
    or_right true e = refl
    or_right false e = e

pub replica_at : (rs : List Replica) (i : ℕ) (d : Replica) (t : TaskId) → i < length rs → same_task t (get_or rs i d).id ≡ true → has_task t (replica_names rs) ≡ true
replica_at [] i d t lt is = absurd (omega (arith, lt))
replica_at (x ∷ xs) zero d t lt is = ap (λ b. b || has_task t (replica_names xs)) is
replica_at (x ∷ xs) (suc i) d t lt is = or_right (same_task t x.id) (replica_at xs i d t (omega (arith, lt)) is)
  where
    or_right : (a : Bool) {b : Bool} → b ≡ true → (a || b) ≡ true
    or_right true e = refl
    or_right false e = e

-- as a look at it tells
pub task_found : (ts : List Task) (i : ℕ) (x : Task) (t u : TaskId) (n : ℕ) → i < n → n ≡ length ts → x ≡ get_or ts i x → u ≡ (task_view x).task → same_task t u ≡ true → has_task t (task_names ts) ≡ true
task_found ts i x t u n lt is at named same =
    task_at ts i x t (omega (arith, lt, is)) (subst (λ (y : Task). same_task t (task_view y).task ≡ true) at (subst (λ v. same_task t v ≡ true) named same))

pub replica_found : (rs : List Replica) (i : ℕ) (x : Replica) (t u : TaskId) (n : ℕ) → i < n → n ≡ length rs → x ≡ get_or rs i x → u ≡ x.id → same_task t u ≡ true → has_task t (replica_names rs) ≡ true
replica_found rs i x t u n lt is at named same =
    replica_at rs i x t (omega (arith, lt, is)) (subst (λ (y : Replica). same_task t y.id ≡ true) at (subst (λ v. same_task t v ≡ true) named same))

pub some_is : {A : Type 0} (o : Option A) (x : A) → o ≡ Some x → IsSome o
some_is None x e = absurd cc
some_is (Some y) x e = refl

-- ---- places
place-append : (t : TaskId) (w : ℕ) (xs ys : List (TaskId × ℕ)) → has_place t w (xs ++ ys) ≡ (has_place t w xs || has_place t w ys)
place-append t w [] ys = refl
place-append t w (x ∷ xs) ys = by (same_task t x.0 && (x.1 == w)) (place-append t w xs ys)
  where
    by : (b : Bool) → has_place t w (xs ++ ys) ≡ (has_place t w xs || has_place t w ys) → (b || has_place t w (xs ++ ys)) ≡ ((b || has_place t w xs) || has_place t w ys)
    by true e = refl
    by false e = e

module _ (w : ℕ) (names : List TaskId) where
  pub none_placed : AreHeld (λ u. has_place u w []) names
  none_placed u e = absurd cc

  -- one place more
  pub one_placed : (places : List (TaskId × ℕ)) (i : ℕ) (d : TaskId × ℕ) → i < length places → ((get_or places i d).1 ≡ w → has_task (get_or places i d).0 names ≡ true) → AreHeld (λ u. has_place u w (take i places)) names →
      AreHeld (λ u. has_place u w (take (i + 1) places)) names
  one_placed places i d lt there before u e =
      by (has_place u w (take i places)) refl
      (sym (place-append u w (take i places) (get_or places i d ∷ [])) ∙ ap (has_place u w) (sym (take-suc places i d lt)) ∙ ap (λ k. has_place u w (take k places)) (sym (add-one i)) ∙ e)
    where
      this : (a b : Bool) → same_task u (get_or places i d).0 ≡ a → ((get_or places i d).1 == w) ≡ b → ((a && b) || false) ≡ true → has_task u names ≡ true
      this true true p q h = ap (λ v. has_task v names) (same_task-is u (get_or places i d).0 p) ∙ there (eqb-true (get_or places i d).1 w q)
      this true false p q h = absurd cc
      this false b p q h = absurd cc

      by : (b : Bool) → has_place u w (take i places) ≡ b → (has_place u w (take i places) || has_place u w (get_or places i d ∷ [])) ≡ true → has_task u names ≡ true
      by true p h = before u p
      by false p h =
          this (same_task u (get_or places i d).0) ((get_or places i d).1 == w) refl refl (ap (λ b. b || has_place u w (get_or places i d ∷ [])) (sym p) ∙ h)

  pub all_placed : (places : List (TaskId × ℕ)) (i : ℕ) → length places ≤ i → AreHeld (λ u. has_place u w (take i places)) names → AreHeld (λ u. has_place u w places) names
  all_placed places i most h u e = h u (ap (has_place u w) (take_all i places most) ∙ e)

-- ---- of each kind
module _ (a : Assignment) (w : ℕ) (ts rs : List TaskId) (xs ys zs : List (TaskId × ℕ)) (are_active : xs ≡ a.active) (are_standby : ys ≡ a.standby) (are_warmup : zs ≡ a.warmup)
    (active : AreHeld (λ u. has_place u w xs) ts) (standby : AreHeld (λ u. has_place u w ys) rs) (warmup : AreHeld (λ u. has_place u w zs) rs) where
  second : (u : TaskId) (b : Bool) → has_task u rs ≡ true → (b || has_task u rs) ≡ true
  second u true h = refl
  second u false h = h

  of_kind : (u : TaskId) (x y : Bool) → has_place u w a.active ≡ x → has_place u w a.standby ≡ y → (x || (y || has_place u w a.warmup)) ≡ true → (has_task u ts || has_task u rs) ≡ true
  of_kind u true y p q h = ap (λ b. b || has_task u rs) (active u (ap (has_place u w) are_active ∙ p))
  of_kind u false true p q h = second u (has_task u ts) (standby u (ap (has_place u w) are_standby ∙ q))
  of_kind u false false p q h = second u (has_task u ts) (warmup u (ap (has_place u w) are_warmup ∙ h))

  pub has_all : AreHeld (is_placed a w) (ts ++ rs)
  has_all u e = has-append u ts rs ∙ of_kind u (has_place u w a.active) (has_place u w a.standby) refl refl e
