-- The partitions in which works have records: rising, so none twice, and all of them.
use Rattle.std.proofs.Common.{◌≡◌, ◌<◌, Bool, true, false, cond, ◌&&◌, ◌||◌, ◌⊎◌, inl, inr, List, [], ◌∷◌, ◌++◌, refl, sym, ap, subst, ◌∙◌, arith, ⊎_elim, nat_lt, append-nil}
use Rattle.std.specs.Prelude.{◌==◌}
use Rattle.std.proofs.lemmas.Bool.{and_parts, and_from, eqb-true, eq-eqb, true≢false, or_cases, or_left, or_right, ltb-true, lt-ltb, cases_order}
use Rattle.ks_record.specs.Records.{Record as Rec}
use Rattle.ks_record.specs.declared.record.PartId.{PartId}
use Rattle.ks_record.specs.declared.record.TaskId.{TaskId}
use Rattle.ks_record.specs.Parts.{same_part, same_task, part_lt}
use Rattle.ks_history.specs.State.{insert_part, has_part}
use Rattle.ks_history.proofs.Names.{same_part-is, same_part-refl}
use Rattle.ks_law_restore.specs.Views.{WorkView, recs_at}
use Rattle.ks_law_commit.proofs.Adding.{has_part-inserted}
use Rattle.ks_worker_commit.specs.Outputs.{parts_with, parts_in}
use Rattle.ks_worker_commit.proofs.Filling.{IsFirst, parts_once}

-- ---- partitions in order
abbrev Less : PartId → PartId → Type 0
Less p q = (p.topic < q.topic) ⊎ ((p.topic ≡ q.topic) × (p.part < q.part))

less_is : (p q : PartId) → part_lt p q ≡ true → Less p q
less_is p q h = ⊎_elim
    (λ l. inl (ltb-true p.topic q.topic l))
    (λ l. let b = and_parts (p.topic == q.topic) (nat_lt p.part q.part) l in inr (eqb-true p.topic q.topic b.0, ltb-true p.part q.part b.1))
    (or_cases (nat_lt p.topic q.topic) ((p.topic == q.topic) && nat_lt p.part q.part) h)

less_from : (p q : PartId) → Less p q → part_lt p q ≡ true
less_from p q (inl l) = or_left (nat_lt p.topic q.topic) _ (lt-ltb p.topic q.topic l)
less_from p q (inr l) = or_right (nat_lt p.topic q.topic) _ (and_from (p.topic == q.topic) (nat_lt p.part q.part) (eq-eqb p.topic q.topic l.0) (lt-ltb p.part q.part l.1))

less_trans : (p q r : PartId) → Less p q → Less q r → Less p r
less_trans p q r (inl a) (inl b) = inl (omega (arith, a, b))
less_trans p q r (inl a) (inr b) = inl (omega (arith, a, b.0))
less_trans p q r (inr a) (inl b) = inl (omega (arith, a.0, b))
less_trans p q r (inr a) (inr b) = inr (a.0 ∙ b.0, omega (arith, a.1, b.1))

less_self : (p : PartId) → Less p p → ⊥
less_self p (inl a) = omega (arith, a)
less_self p (inr a) = omega (arith, a.1)

total : (p q : PartId) → (p ≡ q) ⊎ (Less p q ⊎ Less q p)
total p q = ⊎_elim
    (λ (e : p.topic ≡ q.topic). ⊎_elim
    (λ (f : p.part ≡ q.part). inl (λ i. record { topic = e i; part = f i }))
    (λ (l : (p.part < q.part) ⊎ (q.part < p.part)). ⊎_elim (λ (a : p.part < q.part). inr (inl (inr (e, a)))) (λ (a : q.part < p.part). inr (inr (inr (sym e, a)))) l)
    (cases_order p.part q.part))
    (λ (l : (p.topic < q.topic) ⊎ (q.topic < p.topic)). ⊎_elim (λ (a : p.topic < q.topic). inr (inl (inl a))) (λ (a : q.topic < p.topic). inr (inr (inl a))) l)
    (cases_order p.topic q.topic)

-- ---- rising lists
abbrev IsAbove : PartId → List PartId → Type 0
IsAbove p ps = (q : PartId) → has_part q ps ≡ true → Less p q

abbrev pub is_rising : List PartId → Type 0
is_rising [] = Unit {0}
is_rising (p ∷ ps) = ((q : PartId) → has_part q ps ≡ true → (p.topic < q.topic) ⊎ ((p.topic ≡ q.topic) × (p.part < q.part))) × is_rising ps

rising_more : (p : PartId) (ps : List PartId) → is_rising ps → is_rising (insert_part p ps)
rising_more p [] h = (λ q k. absurd (true≢false (sym k)), tt)
rising_more p (q ∷ qs) h = by (same_part p q) (part_lt p q) refl refl (rising_more p qs h.1)
  where
    behind : same_part p q ≡ false → part_lt p q ≡ false → (p ≡ q) ⊎ (Less p q ⊎ Less q p) → Less q p
    behind is lt (inl e) = absurd (true≢false (sym (same_part-refl p) ∙ ap (same_part p) e ∙ is))
    behind is lt (inr (inl l)) = absurd (true≢false (sym (less_from p q l) ∙ lt))
    behind is lt (inr (inr l)) = l

    front : Less p q → IsAbove p (q ∷ qs)
    front l r k = ⊎_elim (λ e. subst (Less p) (sym (same_part-is r q e)) l) (λ m. less_trans p q r l (h.0 r m)) (or_cases (same_part r q) (has_part r qs) k)

    above : Less q p → IsAbove q (insert_part p qs)
    above l r k = ⊎_elim (λ m. h.0 r m) (λ e. subst (Less q) (sym (same_part-is r p e)) l) (or_cases (has_part r qs) (same_part r p) (sym (has_part-inserted r p qs) ∙ k))

    by : (a b : Bool) → same_part p q ≡ a → part_lt p q ≡ b → is_rising (insert_part p qs) → is_rising (cond a (q ∷ qs) (cond b (p ∷ q ∷ qs) (q ∷ insert_part p qs)))
    by true b is lt f = h
    by false true is lt f = (front (less_is p q lt), h)
    by false false is lt f = (above (behind is lt (total p q)), f)

rising_with : (ps : List PartId) (outs : List (PartId × List Rec)) → is_rising ps → is_rising (parts_with ps outs)
rising_with ps [] h = h
rising_with ps (out ∷ outs) h = rising_with (insert_part out.0 ps) outs (rising_more out.0 ps h)

rising_in : (ps : List PartId) (fs : List WorkView) → is_rising ps → is_rising (parts_in ps fs)
rising_in ps [] h = h
rising_in ps (f ∷ fs) h = rising_in (parts_with ps f.outputs) fs (rising_with ps f.outputs h)

rising_once : (ps : List PartId) → is_rising ps → parts_once ps
rising_once [] h = tt
rising_once (p ∷ ps) h = (by (has_part p ps) refl, rising_once ps h.1)
  where
    by : (b : Bool) → has_part p ps ≡ b → has_part p ps ≡ false
    by true is = absurd (less_self p (h.0 p is))
    by false is = is

pub once_in : (fs : List WorkView) → parts_once (parts_in [] fs)
once_in fs = rising_once (parts_in [] fs) (rising_in [] fs tt)

-- ---- all of them
stays_with : (q : PartId) (ps : List PartId) (outs : List (PartId × List Rec)) → has_part q ps ≡ true → has_part q (parts_with ps outs) ≡ true
stays_with q ps [] h = h
stays_with q ps (out ∷ outs) h = stays_with q (insert_part out.0 ps) outs (has_part-inserted q out.0 ps ∙ or_left (has_part q ps) (same_part q out.0) h)

stays_in : (q : PartId) (ps : List PartId) (fs : List WorkView) → has_part q ps ≡ true → has_part q (parts_in ps fs) ≡ true
stays_in q ps [] h = h
stays_in q ps (f ∷ fs) h = stays_in q (parts_with ps f.outputs) fs (stays_with q ps f.outputs h)

absent_with : (q : PartId) (ps : List PartId) (outs : List (PartId × List Rec)) → has_part q (parts_with ps outs) ≡ false → recs_at q outs ≡ []
absent_with q ps [] h = refl
absent_with q ps (out ∷ outs) h = by (same_part q out.0) refl (absent_with q (insert_part out.0 ps) outs h)
  where
    by : (b : Bool) → same_part q out.0 ≡ b → recs_at q outs ≡ [] → cond b (out.1 ++ recs_at q outs) (recs_at q outs) ≡ []
    by true is e = absurd (true≢false (sym (stays_with q (insert_part out.0 ps) outs (has_part-inserted q out.0 ps ∙ or_right (has_part q ps) (same_part q out.0) is)) ∙ h))
    by false is e = e

pub absent_in : (q : PartId) (ps : List PartId) (fs : List WorkView) (t : TaskId) (f : WorkView) → IsFirst t fs f → has_part q (parts_in ps fs) ≡ false → recs_at q f.outputs ≡ []
absent_in q ps [] t f first h = absurd first
absent_in q ps (g ∷ gs) t f first h = by (same_task t g.task) first (λ later. absent_in q (parts_with ps g.outputs) gs t f later h)
  where
    missing : (b : Bool) → has_part q (parts_with ps g.outputs) ≡ b → has_part q (parts_with ps g.outputs) ≡ false
    missing true is = absurd (true≢false (sym (stays_in q (parts_with ps g.outputs) gs is) ∙ h))
    missing false is = is

    by : (b : Bool) → cond b (f ≡ g) (IsFirst t gs f) → (IsFirst t gs f → recs_at q f.outputs ≡ []) → recs_at q f.outputs ≡ []
    by true same on = ap (λ (x : WorkView). recs_at q x.outputs) same ∙ absent_with q ps g.outputs (missing (has_part q (parts_with ps g.outputs)) refl)
    by false later on = on later
