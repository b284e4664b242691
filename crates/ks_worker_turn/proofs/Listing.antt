-- Lists with one more, or one less.
use Rattle.std.proofs.Common.{◌≡◌, ◌≤◌, ◌<◌, ℕ, zero, suc, ◌+◌, ◌||◌, Bool, true, false, List, [], ◌∷◌, ◌++◌, length, get_or, take, drop, add-one, refl, sym, ap, subst, ◌∙◌, arith}
use Rattle.std.specs.List.{All, Contains, insert}
use Rattle.std.proofs.Math.Seq.{take-suc}
use Rattle.std.proofs.lemmas.List.{take_all, take-append-drop}
use Rattle.std.proofs.lemmas.List.Elements.{All-append, All-take, All-drop, All-cons, All-nil, All-contains, All-contains_itself, Contains-append_left, Contains-append_right}
use Rattle.ks_record.specs.declared.record.TaskId.{TaskId}
use Rattle.ks_record.specs.Parts.{same_task}
use Rattle.ks_history.specs.State.{has_task}
use Rattle.ks_history.proofs.Names.{same_task-is, same_task-refl}
use Rattle.ks_task.specs.declared.task.Task.{Task}
use Rattle.ks_task.specs.Tasks.{task_view}
use Rattle.ks_worker_state.specs.Worker.{IsNoneOf, HaveOwnNames}
use Rattle.ks_standby.specs.declared.replica.Replica.{Replica}
use Rattle.ks_worker_state.specs.Names.{task_names, replica_names}
use Rattle.ks_worker_turn.specs.Lists.{HasPut, HasTaken, AreAmong}

module _ {A : Type 0} (P : A → Type 0) where
  all_insert : (xs : List A) (i : ℕ) (x : A) → All P xs → P x → All P (insert xs i x)
  all_insert xs i x all px = All-append P (take i xs) (x ∷ drop i xs) (All-take P i xs all) (All-cons P x (drop i xs) px (All-drop P i xs all))

  pub all_put : (old new : List A) (x : A) → HasPut old x new → All P old → P x → All P new
  all_put old new x h all px = subst (All P) (sym h.is) (all_insert old h.place x all px)

  pub all_taken : (old new : List A) (x : A) → HasTaken old x new → All P old → All P new
  all_taken old new x h all = subst (All P) (sym h.is) (All-append P (take h.place old) (drop (suc h.place) old) (All-take P h.place old all) (All-drop P (suc h.place) old all))

  pub one_taken : (old new : List A) (x : A) → HasTaken old x new → All P old → P x
  one_taken old new x h all = subst P (sym h.taken) (all h.place x h.within)

  pub all_tail : (x : A) (xs : List A) → All P (x ∷ xs) → All P xs
  all_tail x xs all = λ k d lt. all (suc k) d (omega (arith, lt))

  pub all_head : (x : A) (xs : List A) → All P (x ∷ xs) → P x
  all_head x xs all = all 0 x (omega arith)

-- ---- each is one of those
module _ {A : Type 0} where
  one_later : (x : A) (xs : List A) (y : A) → Contains xs y → Contains (x ∷ xs) y
  one_later x xs y h = let lt = h.1 in (suc h.0, omega arith, h.2)

  among_insert : (xs : List A) (i : ℕ) (x : A) → AreAmong xs (insert xs i x)
  among_insert xs i x =
      subst (All (Contains (insert xs i x))) (take-append-drop i xs)
      (All-append (Contains (insert xs i x)) (take i xs) (drop i xs)
      (λ k d lt. Contains-append_left (take i xs) (x ∷ drop i xs) (get_or (take i xs) k d) (All-contains_itself (take i xs) k d lt))
      (λ k d lt. Contains-append_right (take i xs) (x ∷ drop i xs) (get_or (drop i xs) k d) (one_later x (drop i xs) (get_or (drop i xs) k d) (All-contains_itself (drop i xs) k d lt))))

  pub among_put : (old new : List A) (x : A) → HasPut old x new → AreAmong old new
  among_put old new x h = subst (AreAmong old) (sym h.is) (among_insert old h.place x)

  pub among_itself : (xs : List A) → AreAmong xs xs
  among_itself xs = All-contains_itself xs

  pub among_same : (old new : List A) → new ≡ old → AreAmong old new
  among_same old new is = subst (AreAmong old) (sym is) (among_itself old)

  pub among_then : (xs ys zs : List A) → AreAmong xs ys → AreAmong ys zs → AreAmong xs zs
  among_then xs ys zs f g k d lt = All-contains (Contains zs) ys (get_or xs k d) g (f k d lt)

  pub among_from : (was xs zs : List A) → xs ≡ was → AreAmong xs zs → AreAmong was zs
  among_from was xs zs is h = subst (λ l. AreAmong l zs) is h

-- ---- names of their own
abbrev name_of : Task → TaskId
name_of t = (task_view t).task

other_way : (t u : TaskId) → same_task t u ≡ false → same_task u t ≡ false
other_way t u apart = by (same_task u t) refl
  where
    by : (b : Bool) → same_task u t ≡ b → b ≡ false
    by false e = refl
    by true e = sym (same_task-refl t) ∙ ap (same_task t) (sym (same_task-is u t e)) ∙ apart

pub none_of : (t : TaskId) (ts : List Task) → has_task t (task_names ts) ≡ false → IsNoneOf t ts
none_of t [] none = All-nil (λ (other : Task). same_task t (name_of other) ≡ false)
none_of t (u ∷ us) none = All-cons (λ (other : Task). same_task t (name_of other) ≡ false) u us
    (left (same_task t (name_of u)) (has_task t (task_names us)) none) (none_of t us (right (same_task t (name_of u)) (has_task t (task_names us)) none))
  where
    left : (a b : Bool) → (a || b) ≡ false → a ≡ false
    left false b e = refl
    left true b e = e

    right : (a b : Bool) → (a || b) ≡ false → b ≡ false
    right false b e = e
    right true b e = absurd cc

named_there : (u : TaskId) (t : Task) (now : List Task) (k : ℕ) → same_task u (name_of t) ≡ true → k < length now → get_or now k t ≡ t → has_task u (task_names now) ≡ true
named_there u t [] k same lt e = absurd (omega (arith, lt))
named_there u t (x ∷ xs) zero same lt e = ap (λ b. b || has_task u (task_names xs)) (ap (λ y. same_task u (name_of y)) e ∙ same)
named_there u t (x ∷ xs) (suc k) same lt e = other (same_task u (name_of x)) (has_task u (task_names xs)) (named_there u t xs k same (omega (arith, lt)) e)
  where
    other : (a b : Bool) → b ≡ true → (a || b) ≡ true
    other true b h = refl
    other false b h = h

-- tasks that are among others have their names
pub names_among : (ts now : List Task) → AreAmong ts now → (u : TaskId) → has_task u (task_names ts) ≡ true → has_task u (task_names now) ≡ true
names_among [] now all u there = absurd cc
names_among (t ∷ ts) now all u there = by (same_task u (name_of t)) refl there (names_among ts now (all_tail (Contains now) t ts all) u)
  where
    by : (b : Bool) → same_task u (name_of t) ≡ b → (b || has_task u (task_names ts)) ≡ true → (has_task u (task_names ts) ≡ true → has_task u (task_names now) ≡ true) → has_task u (task_names now) ≡ true
    by true e h others = let one = all_head (Contains now) t ts all in named_there u t now one.0 e one.1 one.2
    by false e h others = others h

names_insert : (ts : List Task) (i : ℕ) (t : Task) → HaveOwnNames ts → IsNoneOf (name_of t) ts → HaveOwnNames (insert ts i t)
names_insert [] zero t own none = (none, tt)
names_insert [] (suc i) t own none = (none, tt)
names_insert (u ∷ us) zero t own none = (none, own)
names_insert (u ∷ us) (suc i) t own none = (
  all_insert (λ (other : Task). same_task (name_of u) (name_of other) ≡ false) us i t own.0
      (other_way (name_of t) (name_of u) (all_head (λ (other : Task). same_task (name_of t) (name_of other) ≡ false) u us none)),
  names_insert us i t own.1 (all_tail (λ (other : Task). same_task (name_of t) (name_of other) ≡ false) u us none),
)

pub names_put : (old new : List Task) (t : Task) → HasPut old t new → HaveOwnNames old → IsNoneOf (name_of t) old → HaveOwnNames new
names_put old new t h own none = subst HaveOwnNames (sym h.is) (names_insert old h.place t own none)

-- ---- a task among replicas
names_both : (xs ys : List Replica) → replica_names (xs ++ ys) ≡ replica_names xs ++ replica_names ys
names_both [] ys = refl
names_both (x ∷ xs) ys = ap (λ (l : List TaskId). x.id ∷ l) (names_both xs ys)

neither : (t : TaskId) (xs ys : List TaskId) → has_task t xs ≡ false → has_task t ys ≡ false → has_task t (xs ++ ys) ≡ false
neither t [] ys f g = g
neither t (x ∷ xs) ys f g = by (same_task t x) f (λ h. neither t xs ys h g)
  where
    by : (b : Bool) → (b || has_task t xs) ≡ false → (has_task t xs ≡ false → has_task t (xs ++ ys) ≡ false) → (b || has_task t (xs ++ ys)) ≡ false
    by true e h = absurd cc
    by false e h = h e

-- none so far, and not this one
pub absent_more : (t : TaskId) (rs : List Replica) (i : ℕ) (d : Replica) → i < length rs → same_task t (get_or rs i d).id ≡ false → has_task t (replica_names (take i rs)) ≡ false → has_task t (replica_names (take (i + 1) rs)) ≡ false
absent_more t rs i d lt other none =
    ap (λ l. has_task t (replica_names l)) (ap (λ k. take k rs) (add-one i) ∙ take-suc rs i d lt)
    ∙ ap (has_task t) (names_both (take i rs) (get_or rs i d ∷ []))
    ∙ neither t (replica_names (take i rs)) ((get_or rs i d).id ∷ []) none (ap (λ b. b || false) other)

pub absent_all : (t : TaskId) (rs : List Replica) (i : ℕ) → length rs ≤ i → has_task t (replica_names (take i rs)) ≡ false → has_task t (replica_names rs) ≡ false
absent_all t rs i most none = ap (λ l. has_task t (replica_names l)) (sym (take_all i rs most)) ∙ none

-- as a look at one tells
pub absent_next : (t : TaskId) (rs : List Replica) (i : ℕ) (r : Replica) (u : TaskId) → i < length rs → r ≡ get_or rs i r → u ≡ r.id → same_task t u ≡ false → has_task t (replica_names (take i rs)) ≡ false → has_task t (replica_names (take (i + 1) rs)) ≡ false
absent_next t rs i r u lt is named other none =
    absent_more t rs i r lt (subst (λ (x : Replica). same_task t x.id ≡ false) is (subst (λ v. same_task t v ≡ false) named other)) none
