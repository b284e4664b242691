-- Lists of tasks, by their places.
use Rattle.std.proofs.Common.{◌≡◌, ℕ, zero, suc, ◌+◌, ◌<◌, ◌≤◌, add-one, false, List, [], ◌∷◌, ◌++◌, length, take, get_or, refl, sym, ap, subst, ◌∙◌, arith}
use Rattle.std.proofs.Math.ListN.{set}
use Rattle.std.proofs.Math.Seq.{take-suc}
use Rattle.std.proofs.lemmas.List.Elements.{All-nil, All-cons, All-head, All-tail}
use Rattle.ks_record.specs.declared.record.TaskId.{TaskId}
use Rattle.ks_record.specs.Parts.{same_task}
use Rattle.ks_task.specs.declared.task.Task.{Task}
use Rattle.ks_task.specs.Tasks.{task_view}
use Rattle.ks_worker_state.specs.State.{task_names}
use Rattle.ks_worker_state.specs.Worker.{IsNoneOf, HaveOwnNames}

pub same_default : {A : Type 0} (xs : List A) (k : ℕ) (c d : A) → k < length xs → get_or xs k c ≡ get_or xs k d
same_default [] k c d h = absurd (omega (arith, h))
same_default (x ∷ xs) zero c d h = refl
same_default (x ∷ xs) (suc k) c d h = same_default xs k c d (omega (arith, h))

pub take_more : {A : Type 0} (xs : List A) (i : ℕ) (x : A) → i < length xs → x ≡ get_or xs i x → take i xs ++ x ∷ [] ≡ take (i + 1) xs
take_more xs i x lt at = ap (λ y. take i xs ++ y ∷ []) at ∙ sym (take-suc xs i x lt) ∙ ap (λ k. take k xs) (sym (add-one i))

pub take_whole : {A : Type 0} (xs : List A) (i : ℕ) → length xs ≤ i → take i xs ≡ xs
take_whole [] zero le = refl
take_whole [] (suc i) le = refl
take_whole (x ∷ xs) zero le = absurd (omega (arith, le))
take_whole (x ∷ xs) (suc i) le = ap (λ l. x ∷ l) (take_whole xs i (omega (arith, le)))

pub no_more : {A : Type 0} (xs ys : List A) → length ys ≡ length xs → xs ≡ [] → ys ≡ []
no_more xs [] same none = refl
no_more xs (y ∷ ys) same none = absurd (omega (arith, same, ap length none))

pub set_name : (ts : List Task) (i : ℕ) (w d : Task) → i < length ts → (task_view w).task ≡ (task_view (get_or ts i d)).task → task_names (set ts i w) ≡ task_names ts
set_name [] i w d lt e = absurd (omega (arith, lt))
set_name (t ∷ ts) zero w d lt e = ap (λ u. u ∷ task_names ts) e
set_name (t ∷ ts) (suc i) w d lt e = ap (λ l. (task_view t).task ∷ l) (set_name ts i w d (omega (arith, lt)) e)

-- ---- names of their own
other_names : (n : TaskId) (xs ys : List Task) → task_names xs ≡ task_names ys → IsNoneOf n xs → IsNoneOf n ys
other_names n xs [] e none = All-nil (λ (other : Task). same_task n (task_view other).task ≡ false)
other_names n [] (y ∷ ys) e none = absurd cc
other_names n (x ∷ xs) (y ∷ ys) e none =
    let first : (task_view x).task ≡ (task_view y).task = cc in
    let rest : task_names xs ≡ task_names ys = cc in
    All-cons (λ (other : Task). same_task n (task_view other).task ≡ false) y ys (sym (ap (same_task n) first) ∙ All-head (λ (other : Task). same_task n (task_view other).task ≡ false) x xs none)
    (other_names n xs ys rest (All-tail (λ (other : Task). same_task n (task_view other).task ≡ false) x xs none))

pub names_stay : (xs ys : List Task) → task_names xs ≡ task_names ys → HaveOwnNames xs → HaveOwnNames ys
names_stay xs [] e own = tt
names_stay [] (y ∷ ys) e own = absurd cc
names_stay (x ∷ xs) (y ∷ ys) e own =
    let first : (task_view x).task ≡ (task_view y).task = cc in
    let rest : task_names xs ≡ task_names ys = cc in
    (subst (λ (n : TaskId). IsNoneOf n ys) first (other_names (task_view x).task xs ys rest own.0), names_stay xs ys rest own.1)
