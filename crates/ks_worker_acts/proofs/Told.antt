-- Tasks are told, and dirty ones are dropped, one after another.
use Rattle.std.proofs.Common.{◌≡◌, ◌⊎◌, inl, inr, ℕ, suc, ◌+◌, ◌<◌, ◌≤◌, Bool, true, false, List, [], ◌∷◌, ◌++◌, length, get_or, refl, sym, ap, subst, ◌∙◌, arith}
use Rattle.std.specs.Prelude.{◌==◌}
use Rattle.std.proofs.Math.ListN.{set}
use Rattle.std.specs.List.{All}
use Rattle.std.proofs.lemmas.Bool.{eqb-true, eqb-false}
use Rattle.std.proofs.lemmas.List.{length-set, get_or-set_same, get_or-set_other}
use Rattle.std.proofs.lemmas.List.Elements.{All-nil, All-cons}
use Rattle.ks_record.specs.declared.record.PartId.{PartId}
use Rattle.ks_record.specs.declared.record.TaskId.{TaskId}
use Rattle.ks_record.specs.Parts.{same_task}
use Rattle.ks_plan.specs.Drafts.{DraftView}
use Rattle.ks_history.specs.Follows.{TaskView}
use Rattle.ks_task.specs.declared.task.Task.{Task}
use Rattle.ks_task.specs.Tasks.{task_view, IsClean}
use Rattle.ks_worker_state.specs.Worker.{IsNoneOf, HaveOwnNames}
use Rattle.ks_worker_acts.specs.Works.{IsCleanTask, IsDirtyTask, AreCleanOf}
use Rattle.ks_worker_state.specs.Names.{task_names, times}
use Rattle.ks_worker_acts.specs.Told.{IsToldTask, AreTold}
use Rattle.ks_worker_acts.proofs.Lists.{same_default, set_name}

-- ---- one task
module _ (d : DraftView) (ends : List (TaskId × PartId × ℕ)) (old new : Task) where
  pub told_name : IsToldTask d ends old new → (task_view new).task ≡ (task_view old).task
  told_name (inl c) = ap (λ (t : Task). (task_view t).task) c.1
  told_name (inr w) = ap (λ (v : TaskView). v.task) w.1.view

  pub told_clean : IsToldTask d ends old new → IsCleanTask new
  told_clean (inl c) = subst IsCleanTask (sym c.1) c.0
  told_clean (inr w) = subst IsClean (sym w.1.view) (λ topic. refl)

-- ---- one after another
-- the first of these tasks are told
pub record AreToldTo (d : DraftView) (ends : List (TaskId × PartId × ℕ)) (i : ℕ) (old new : List Task) : Type 0 where
  pub names : task_names new ≡ task_names old
  pub count : length new ≡ length old
  pub told : (k : ℕ) (t : Task) → k < i → IsToldTask d ends (get_or old k t) (get_or new k t)
  pub rest : (k : ℕ) (t : Task) → i ≤ k → get_or new k t ≡ get_or old k t

module _ (draft : DraftView) (ends : List (TaskId × PartId × ℕ)) where
  pub none_told : (ts : List Task) → AreToldTo draft ends 0 ts ts
  none_told ts = record { names = refl; count = refl; told = λ k t lt. absurd (omega (arith, lt)); rest = λ k t le. refl }

  pub one_more_told : (i : ℕ) (all ts : List Task) (o w : Task) → AreToldTo draft ends i all ts → i < length ts → o ≡ get_or ts i o → IsToldTask draft ends o w → AreToldTo draft ends (i + 1) all (set ts i w)
  one_more_told i all ts o w t lt at told = record {
    names = set_name ts i w o lt (told_name draft ends o w told ∙ ap (λ (x : Task). (task_view x).task) at) ∙ t.names;
    count = length-set ts i w ∙ t.count;
    told = λ k d high. by k d high (k == i) refl;
    rest = λ k d low. get_or-set_other ts i k w d (λ e. omega (arith, e, low)) ∙ t.rest k d (omega (arith, low));
  }
    where
      by : (k : ℕ) (d : Task) → k < i + 1 → (b : Bool) → (k == i) ≡ b → IsToldTask draft ends (get_or all k d) (get_or (set ts i w) k d)
      by k d high true e =
          let is : k ≡ i = eqb-true k i e in
          let inside : k < length ts = omega (arith, is, lt) in
          let here : get_or (set ts i w) k d ≡ w = ap (λ j. get_or (set ts i w) j d) is ∙ get_or-set_same ts i w d lt in
          let own : get_or all k d ≡ o = sym (t.rest k d (omega (arith, is))) ∙ same_default ts k d o inside ∙ ap (λ j. get_or ts j o) is ∙ sym at in
          subst (λ (x : Task). IsToldTask draft ends x (get_or (set ts i w) k d)) (sym own) (subst (IsToldTask draft ends o) (sym here) told)
      by k d high false e =
          let ne : (k ≡ i → ⊥) = eqb-false k i e in
          subst (IsToldTask draft ends (get_or all k d)) (sym (get_or-set_other ts i k w d ne)) (t.told k d (omega (arith, ne, high)))

  pub all_told : (i : ℕ) (all ts : List Task) → AreToldTo draft ends i all ts → length ts ≤ i → AreTold draft ends all ts
  all_told i all ts t most = record {
    names = t.names;
    count = t.count;
    told = λ k d lt. t.told k d (omega (arith, lt, most, t.count));
  }

  -- then none is dirty
  pub told_clean_all : (old new : List Task) → AreTold draft ends old new → All IsCleanTask new
  told_clean_all old new t k d lt = told_clean draft ends (get_or old k d) (get_or new k d) (t.told k d (omega (arith, lt, t.count)))

-- ---- what is kept
pub kept_more : (ts xs : List Task) (t : Task) → AreCleanOf ts xs → IsCleanTask t → AreCleanOf (ts ++ t ∷ []) (xs ++ t ∷ [])
kept_more [] [] t kept clean = inr (clean, refl, tt)
kept_more [] (x ∷ xs) t kept clean = absurd kept
kept_more (u ∷ ts) [] t kept clean = inl (kept.0, kept_more ts [] t kept.1 clean)
kept_more (u ∷ ts) (x ∷ xs) t kept clean = by (λ more. kept_more ts (x ∷ xs) t more clean) (λ more. kept_more ts xs t more clean) kept
  where
    by : (AreCleanOf ts (x ∷ xs) → AreCleanOf (ts ++ t ∷ []) ((x ∷ xs) ++ t ∷ [])) → (AreCleanOf ts xs → AreCleanOf (ts ++ t ∷ []) (xs ++ t ∷ [])) →
        (IsDirtyTask u × AreCleanOf ts (x ∷ xs)) ⊎ (IsCleanTask u × (x ≡ u) × AreCleanOf ts xs) → AreCleanOf (u ∷ (ts ++ t ∷ [])) (x ∷ (xs ++ t ∷ []))
    by same more (inl d) = inl (d.0, same d.1)
    by same more (inr c) = inr (c.0, c.1, more c.2)

pub dropped_more : (ts xs : List Task) (t : Task) → AreCleanOf ts xs → IsDirtyTask t → AreCleanOf (ts ++ t ∷ []) xs
dropped_more [] [] t kept dirty = (dirty, tt)
dropped_more [] (x ∷ xs) t kept dirty = absurd kept
dropped_more (u ∷ ts) [] t kept dirty = (kept.0, dropped_more ts [] t kept.1 dirty)
dropped_more (u ∷ ts) (x ∷ xs) t kept dirty = by (λ more. dropped_more ts (x ∷ xs) t more dirty) (λ more. dropped_more ts xs t more dirty) kept
  where
    by : (AreCleanOf ts (x ∷ xs) → AreCleanOf (ts ++ t ∷ []) (x ∷ xs)) → (AreCleanOf ts xs → AreCleanOf (ts ++ t ∷ []) xs) →
        (IsDirtyTask u × AreCleanOf ts (x ∷ xs)) ⊎ (IsCleanTask u × (x ≡ u) × AreCleanOf ts xs) → AreCleanOf (u ∷ (ts ++ t ∷ [])) (x ∷ xs)
    by same more (inl d) = inl (d.0, same d.1)
    by same more (inr c) = inr (c.0, c.1, more c.2)

-- what holds of each clean one holds of those kept
pub kept_all : (P : Task → Type 0) (ts xs : List Task) → AreCleanOf ts xs → ((k : ℕ) (d : Task) → k < length ts → IsCleanTask (get_or ts k d) → P (get_or ts k d)) → All P xs
kept_all P [] [] kept each = All-nil P
kept_all P [] (x ∷ xs) kept each = absurd kept
kept_all P (t ∷ ts) [] kept each = All-nil P
kept_all P (t ∷ ts) (x ∷ xs) kept each = by (λ more. kept_all P ts (x ∷ xs) more (λ k d lt. each (suc k) d (omega (arith, lt)))) (λ more. kept_all P ts xs more (λ k d lt. each (suc k) d (omega (arith, lt)))) kept
  where
    by : (AreCleanOf ts (x ∷ xs) → All P (x ∷ xs)) → (AreCleanOf ts xs → All P xs) → (IsDirtyTask t × AreCleanOf ts (x ∷ xs)) ⊎ (IsCleanTask t × (x ≡ t) × AreCleanOf ts xs) → All P (x ∷ xs)
    by same more (inl d) = same d.1
    by same more (inr c) = All-cons P x xs (subst P (sym c.1) (each 0 t (omega arith) c.0)) (more c.2)

pub kept_none : (ts xs : List Task) → AreCleanOf ts xs → ts ≡ [] → xs ≡ []
kept_none ts [] kept none = refl
kept_none [] (x ∷ xs) kept none = absurd kept
kept_none (t ∷ ts) (x ∷ xs) kept none = absurd cc

pub kept_names : (ts xs : List Task) → AreCleanOf ts xs → HaveOwnNames ts → HaveOwnNames xs
kept_names ts [] kept own = tt
kept_names [] (x ∷ xs) kept own = absurd kept
kept_names (t ∷ ts) (x ∷ xs) kept own = by (λ more. kept_names ts (x ∷ xs) more own.1) (λ more. kept_names ts xs more own.1) kept
  where
    by : (AreCleanOf ts (x ∷ xs) → HaveOwnNames (x ∷ xs)) → (AreCleanOf ts xs → HaveOwnNames xs) → (IsDirtyTask t × AreCleanOf ts (x ∷ xs)) ⊎ (IsCleanTask t × (x ≡ t) × AreCleanOf ts xs) → HaveOwnNames (x ∷ xs)
    by same more (inl d) = same d.1
    by same more (inr c) = (
      subst (λ (n : TaskId). IsNoneOf n xs) (sym (ap (λ (u : Task). (task_view u).task) c.1)) (kept_all (λ (other : Task). same_task (task_view t).task (task_view other).task ≡ false) ts xs c.2 (λ k d lt clean. own.0 k d lt)),
      more c.2,
    )

-- no name stands there more often
pub kept_times : (u : TaskId) (ts xs : List Task) → AreCleanOf ts xs → times u (task_names xs) ≤ times u (task_names ts)
kept_times u ts [] kept = omega arith
kept_times u [] (x ∷ xs) kept = absurd kept
kept_times u (t ∷ ts) (x ∷ xs) kept = by (λ more. kept_times u ts (x ∷ xs) more) (λ more. kept_times u ts xs more) kept
  where
    by : (AreCleanOf ts (x ∷ xs) → times u (task_names (x ∷ xs)) ≤ times u (task_names ts)) → (AreCleanOf ts xs → times u (task_names xs) ≤ times u (task_names ts)) →
        (IsDirtyTask t × AreCleanOf ts (x ∷ xs)) ⊎ (IsCleanTask t × (x ≡ t) × AreCleanOf ts xs) → times u (task_names (x ∷ xs)) ≤ times u (task_names (t ∷ ts))
    by same more (inl d) = omega (arith, same d.1)
    by same more (inr c) = let name : times u ((task_view x).task ∷ []) ≡ times u ((task_view t).task ∷ []) = ap (λ (o : Task). times u ((task_view o).task ∷ [])) c.1 in omega (arith, more c.2, name)
