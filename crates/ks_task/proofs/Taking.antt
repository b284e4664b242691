-- Records that a task takes one after another.
use Rattle.std.proofs.Common.{◌≡◌, ℕ, zero, suc, ◌+◌, ◌<◌, take, get_or, List, [], ◌∷◌, ◌++◌, length, refl, sym, ap, subst, ◌∙◌, arith, add-one, Result}
use Rattle.std.specs.Prelude.{OnOk}
use Rattle.ks_record.specs.Records.{Record as Rec}
use Rattle.ks_history.specs.Machine.{TaskPlan}
use Rattle.ks_history.specs.Follows.{TaskView}
use Rattle.ks_law_restore.specs.Views.{take_view, take_all}

take_one : {A : Type 0} (xs : List A) (i : ℕ) (x : A) → i < length xs → x ≡ get_or xs i x → take (i + 1) xs ≡ take i xs ++ x ∷ []
take_one [] i x h e = absurd (omega (arith, h))
take_one (y ∷ xs) zero x h e = ap (λ z. z ∷ []) (sym e)
take_one (y ∷ xs) (suc i) x h e = rw add-one (ap (λ l. y ∷ l) (ap (λ k. take k xs) (sym (add-one i)) ∙ take_one xs i x (omega (arith, h)) e))

take_all-push : (plan : TaskPlan) (topic : ℕ) (v : TaskView) (recs : List (ℕ × Rec)) (r : ℕ × Rec) → take_all plan v topic (recs ++ r ∷ []) ≡ take_view plan (take_all plan v topic recs) topic r.0 r.1
take_all-push plan topic v [] r = refl
take_all-push plan topic v (x ∷ recs) r = take_all-push plan topic (take_view plan v topic x.0 x.1) recs r

pub one_record_more : (plan : TaskPlan) (topic : ℕ) (v now new : TaskView) (recs : List (ℕ × Rec)) (i : ℕ) (r : ℕ × Rec) → i < length recs → r ≡ get_or recs i r → now ≡ take_all plan v topic (take i recs) →
    new ≡ take_view plan now topic r.0 r.1 → new ≡ take_all plan v topic (take (i + 1) recs)
one_record_more plan topic v now new recs i r h there was is =
    is ∙ ap (λ w. take_view plan w topic r.0 r.1) was ∙ sym (take_all-push plan topic v (take i recs) r) ∙ ap (take_all plan v topic) (sym (take_one recs i r h there))

-- a record that is seen as another is taken as that one
pub taken_as : {A E : Type 0} (r : Result A E) (plan : TaskPlan) (topic offset : ℕ) (old new : TaskView) (seen rec : Rec) → seen ≡ rec →
    OnOk r (new ≡ take_view plan old topic offset seen) → OnOk r (new ≡ take_view plan old topic offset rec)
taken_as r plan topic offset old new seen rec e h = subst (λ (x : Rec). OnOk r (new ≡ take_view plan old topic offset x)) e h
