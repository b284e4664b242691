-- Tasks in order.
use Rattle.std.proofs.Common.{◌≡◌, ◌<◌, Bool, true, false, cond, ◌&&◌, ◌⊎◌, inl, inr, List, [], ◌∷◌, Some, None, refl, sym, ap, subst, ◌∙◌, arith, ⊎_elim, nat_lt}
use Rattle.std.specs.Prelude.{◌==◌}
use Rattle.std.proofs.lemmas.Bool.{and_parts, and_from, eqb-true, eq-eqb, true≢false, or_cases, or_left, or_right, ltb-true, lt-ltb, cases_order}
use Rattle.ks_record.specs.declared.record.TaskId.{TaskId}
use Rattle.ks_record.specs.Parts.{same_task, task_lt}
use Rattle.ks_history.specs.declared.transaction.Pending.{Pending}
use Rattle.ks_history.specs.State.{pending_of, with_pending}
use Rattle.ks_history.proofs.Names.{same_task-is, same_task-refl}
use Rattle.ks_law_exactly_once.proofs.Sound.{AllAbove, Distinct}

abbrev Less : TaskId → TaskId → Type 0
Less t u = (t.sub < u.sub) ⊎ ((t.sub ≡ u.sub) × (t.part < u.part))

less_is : (t u : TaskId) → task_lt t u ≡ true → Less t u
less_is t u h = ⊎_elim
    (λ l. inl (ltb-true t.sub u.sub l))
    (λ l. let p = and_parts (t.sub == u.sub) (nat_lt t.part u.part) l in inr (eqb-true t.sub u.sub p.0, ltb-true t.part u.part p.1))
    (or_cases (nat_lt t.sub u.sub) ((t.sub == u.sub) && nat_lt t.part u.part) h)

less_from : (t u : TaskId) → Less t u → task_lt t u ≡ true
less_from t u (inl l) = or_left (nat_lt t.sub u.sub) _ (lt-ltb t.sub u.sub l)
less_from t u (inr l) = or_right (nat_lt t.sub u.sub) _ (and_from (t.sub == u.sub) (nat_lt t.part u.part) (eq-eqb t.sub u.sub l.0) (lt-ltb t.part u.part l.1))

less_trans : (t u v : TaskId) → Less t u → Less u v → Less t v
less_trans t u v (inl a) (inl b) = inl (omega (arith, a, b))
less_trans t u v (inl a) (inr b) = inl (omega (arith, a, b.0))
less_trans t u v (inr a) (inl b) = inl (omega (arith, a.0, b))
less_trans t u v (inr a) (inr b) = inr (a.0 ∙ b.0, omega (arith, a.1, b.1))

less_self : (t : TaskId) → Less t t → ⊥
less_self t (inl a) = omega (arith, a)
less_self t (inr a) = omega (arith, a.1)

total : (t u : TaskId) → (t ≡ u) ⊎ (Less t u ⊎ Less u t)
total t u = ⊎_elim
    (λ (e : t.sub ≡ u.sub). ⊎_elim
    (λ (f : t.part ≡ u.part). inl (λ i. record { sub = e i; part = f i }))
    (λ (l : (t.part < u.part) ⊎ (u.part < t.part)). ⊎_elim (λ (a : t.part < u.part). inr (inl (inr (e, a)))) (λ (a : u.part < t.part). inr (inr (inr (sym e, a)))) l)
    (cases_order t.part u.part))
    (λ (l : (t.sub < u.sub) ⊎ (u.sub < t.sub)). ⊎_elim (λ (a : t.sub < u.sub). inr (inl (inl a))) (λ (a : u.sub < t.sub). inr (inr (inl a))) l)
    (cases_order t.sub u.sub)

-- none of those above is the task's
pub none_above : (t : TaskId) (ps : List Pending) → AllAbove t ps → pending_of t ps ≡ None
none_above t [] h = refl
none_above t (p ∷ ps) h = by (same_task t p.task) refl (none_above t ps h.1)
  where
    by : (b : Bool) → same_task t p.task ≡ b → pending_of t ps ≡ None → cond b (Some p) (pending_of t ps) ≡ None
    by true is more = absurd (less_self t (subst (λ u. Less t u) (sym (same_task-is t p.task is)) (less_is t p.task h.0)))
    by false is more = more

above_more : (t u : TaskId) (ps : List Pending) → Less t u → AllAbove u ps → AllAbove t ps
above_more t u [] l h = tt
above_more t u (p ∷ ps) l h = (less_from t p.task (less_trans t u p.task l (less_is u p.task h.0)), above_more t u ps l h.1)

above_with : (t : TaskId) (new : Pending) (ps : List Pending) → Less t new.task → AllAbove t ps → AllAbove t (with_pending new ps)
above_with t new [] l h = (less_from t new.task l, tt)
above_with t new (p ∷ ps) l h = by (same_task new.task p.task) (task_lt new.task p.task) (above_with t new ps l h.1)
  where
    by : (a b : Bool) → AllAbove t (with_pending new ps) → AllAbove t (cond a (new ∷ ps) (cond b (new ∷ p ∷ ps) (p ∷ with_pending new ps)))
    by true b f = (less_from t new.task l, h.1)
    by false true f = (less_from t new.task l, h)
    by false false f = (h.0, f)

pub Distinct-with : (new : Pending) (ps : List Pending) → Distinct ps → Distinct (with_pending new ps)
Distinct-with new [] d = (tt, tt)
Distinct-with new (p ∷ ps) d = by (same_task new.task p.task) (task_lt new.task p.task) refl refl (Distinct-with new ps d.1)
  where
    by : (a b : Bool) → same_task new.task p.task ≡ a → task_lt new.task p.task ≡ b → Distinct (with_pending new ps) → Distinct (cond a (new ∷ ps) (cond b (new ∷ p ∷ ps) (p ∷ with_pending new ps)))
    by true b is lt f = (subst (λ t. AllAbove t ps) (sym (same_task-is new.task p.task is)) d.0, d.1)
    by false true is lt f = ((lt, above_more new.task p.task ps (less_is new.task p.task lt) d.0), d)
    by false false is lt f = (above_with p.task new ps (behind (total new.task p.task)) d.0, f)
      where
        behind : (new.task ≡ p.task) ⊎ (Less new.task p.task ⊎ Less p.task new.task) → Less p.task new.task
        behind (inl e) = absurd (true≢false (sym (same_task-refl new.task) ∙ ap (same_task new.task) e ∙ is))
        behind (inr (inl l)) = absurd (true≢false (sym (less_from new.task p.task l) ∙ lt))
        behind (inr (inr l)) = l
