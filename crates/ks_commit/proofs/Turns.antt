-- A loop that takes the items of a list one after another.
use Rattle.std.proofs.Common.{◌≡◌, List, [], ◌∷◌, ◌++◌, length, refl, sym, ap, subst, ◌∙◌, arith, append-nil, append_assoc}
use Rattle.std.specs.List.{All}
use Rattle.std.proofs.Math.Seq.{get_or-append_seam}
use Rattle.std.proofs.lemmas.List.{length-append}
use Rattle.ks_history.specs.State.{State, Setup}
use Rattle.ks_commit.specs.declared.work.Frozen.{Frozen}
use Rattle.ks_commit.specs.Work.{work_view}
use Rattle.ks_commit.specs.Committed.{works_of, IsOfCluster, EachOf}

-- one more is taken
pub one_taken : {A : Type 0} (taken left all more : List A) (x : A) → taken ++ left ≡ all → left ≡ x ∷ more → (taken ++ x ∷ []) ++ more ≡ all
one_taken taken left all more x whole next = append_assoc taken (x ∷ []) more ∙ ap (λ l. taken ++ l) (sym next) ∙ whole

-- all are taken
pub all_taken : {A : Type 0} (taken left all : List A) → taken ++ left ≡ all → length left ≡ 0 → taken ≡ all
all_taken taken [] all whole none = sym (append-nil taken) ∙ whole
all_taken taken (x ∷ left) all whole none = absurd (omega (arith, none))

-- what holds of all holds of the next
pub next_has : {A : Type 0} (P : A → Type 0) (taken left all more : List A) (x : A) → All P all → taken ++ left ≡ all → left ≡ x ∷ more → P x
next_has P taken left all more x each whole next =
    let is : taken ++ x ∷ more ≡ all = ap (λ l. taken ++ l) (sym next) ∙ whole in
    subst P (get_or-append_seam taken x more x) (subst (All P) (sym is) each (length taken) x (omega (arith, length-append taken (x ∷ more))))

-- the next work, and those after it
pub next_of : (setup : Setup) (s : State) (left more : List Frozen) (x : Frozen) → EachOf setup s (works_of left) → left ≡ x ∷ more → IsOfCluster setup s (work_view x) × EachOf setup s (works_of more)
next_of setup s left more x each next = subst (λ (fs : List Frozen). EachOf setup s (works_of fs)) next each

-- one work more
pub works_of-append : (fs gs : List Frozen) → works_of (fs ++ gs) ≡ works_of fs ++ works_of gs
works_of-append [] gs = refl
works_of-append (f ∷ fs) gs = ap (λ ws. work_view f ∷ ws) (works_of-append fs gs)
