-- An order with one more record.
use Rattle.std.proofs.Common.{◌≡◌, ℕ, zero, suc, ◌+◌, ◌≤◌, Bool, true, false, cond, List, [], ◌∷◌, ◌++◌, length, take, drop, refl, sym, ap, ap₂, subst, ◌∙◌, arith, append_assoc, append-nil}
use Rattle.std.specs.Prelude.{◌==◌}
use Rattle.std.proofs.lemmas.Bool.{eqb-true, eq-eqb}
use Rattle.std.proofs.lemmas.List.{take-append-le, drop-append-le}
use Rattle.ks_record.specs.declared.record.TaskId.{TaskId}
use Rattle.ks_history.specs.Faithful.{count_in}
use Rattle.ks_history.specs.Machine.{part_of, taken_from, batch}
use Rattle.ks_history.specs.Partition.{Logged}
use Rattle.ks_law_exactly_once.proofs.Batches.{take_more}
use Rattle.ks_law_restore.specs.Views.{with_taken}

-- ---- counts
pub count_with : (n topic : ℕ) (order : List (ℕ × ℕ)) → count_in n (with_taken topic order) ≡ count_in n order + cond (n == topic) 1 0
count_with n topic [] = by (n == topic)
  where
    by : (b : Bool) → cond b (1 + 0) 0 ≡ 0 + cond b 1 0
    by true = omega arith
    by false = omega arith
count_with n topic (run ∷ []) = by (topic == run.0) refl
  where
    grown : (b : Bool) → cond b ((run.1 + 1) + 0) 0 ≡ cond b (run.1 + 0) 0 + cond b 1 0
    grown true = omega arith
    grown false = omega arith

    apart : (a b : Bool) → cond a (run.1 + cond b (1 + 0) 0) (cond b (1 + 0) 0) ≡ cond a (run.1 + 0) 0 + cond b 1 0
    apart true true = omega arith
    apart true false = omega arith
    apart false true = omega arith
    apart false false = omega arith

    by : (b : Bool) → (topic == run.0) ≡ b → count_in n (cond b ((run.0, run.1 + 1) ∷ []) (run ∷ (topic, 1) ∷ [])) ≡ count_in n (run ∷ []) + cond (n == topic) 1 0
    by true is = grown (n == run.0) ∙ ap (λ k. count_in n (run ∷ []) + cond (n == k) 1 0) (sym (eqb-true topic run.0 is))
    by false is = apart (n == run.0) (n == topic)
count_with n topic (run ∷ next ∷ runs) = by (n == run.0) (count_with n topic (next ∷ runs))
  where
    by : (b : Bool) → count_in n (with_taken topic (next ∷ runs)) ≡ count_in n (next ∷ runs) + cond (n == topic) 1 0 →
        cond b (run.1 + count_in n (with_taken topic (next ∷ runs))) (count_in n (with_taken topic (next ∷ runs))) ≡ cond b (run.1 + count_in n (next ∷ runs)) (count_in n (next ∷ runs)) + cond (n == topic) 1 0
    by true e = omega (arith, e)
    by false e = e

-- ---- records
pub taken_from-append : (t : TaskId) (topic : ℕ) (xs ys : List Logged) → taken_from t topic (xs ++ ys) ≡ taken_from t topic xs ++ taken_from t topic ys
taken_from-append t topic [] ys = refl
taken_from-append t topic (x ∷ xs) ys = ap (λ l. record { sender = x.sender; place = part_of topic t; item = x.rec } ∷ l) (taken_from-append t topic xs ys)

abbrev pub left_after : (ℕ × ℕ) → (ℕ → List Logged) → ℕ → List Logged
left_after run inputs topic = cond (topic == run.0) (drop run.1 (inputs topic)) (inputs topic)

-- a run that grows takes what it took and then one more
pub batch_with : (t : TaskId) (topic : ℕ) (order : List (ℕ × ℕ)) (inputs : ℕ → List Logged) → batch t inputs (with_taken topic order) ≡ batch t inputs (order ++ (topic, 1) ∷ [])
batch_with t topic [] inputs = refl
batch_with t topic (run ∷ []) inputs = by (topic == run.0) refl
  where
    joined : (b : Bool) → (topic == run.0) ≡ b → b ≡ true →
        taken_from t run.0 (take (run.1 + 1) (inputs run.0)) ++ []
        ≡ taken_from t run.0 (take run.1 (inputs run.0)) ++ (taken_from t topic (take 1 (cond b (drop run.1 (inputs topic)) (inputs topic))) ++ [])
    joined true is e =
        append-nil _
        ∙ ap (taken_from t run.0) (sym (take_more run.1 1 (inputs run.0)))
        ∙ taken_from-append t run.0 (take run.1 (inputs run.0)) (take 1 (drop run.1 (inputs run.0)))
        ∙ ap (λ l. taken_from t run.0 (take run.1 (inputs run.0)) ++ l) (ap (λ k. taken_from t k (take 1 (drop run.1 (inputs k)))) (sym (eqb-true topic run.0 is)) ∙ sym (append-nil _))
    joined false is e = absurd cc

    by : (b : Bool) → (topic == run.0) ≡ b → batch t inputs (cond b ((run.0, run.1 + 1) ∷ []) (run ∷ (topic, 1) ∷ [])) ≡ batch t inputs (run ∷ (topic, 1) ∷ [])
    by true is = joined (topic == run.0) refl is
    by false is = refl
batch_with t topic (run ∷ next ∷ runs) inputs = ap (λ l. taken_from t run.0 (take run.1 (inputs run.0)) ++ l) (batch_with t topic (next ∷ runs) (left_after run inputs))

-- the lists, with one more record of a topic at the end of its list
abbrev pub one_more : ℕ → Logged → (ℕ → List Logged) → ℕ → List Logged
one_more topic x inputs n = inputs n ++ cond (n == topic) (x ∷ []) []

length_none : (xs : List Logged) → 0 ≡ length xs → xs ≡ []
length_none [] e = refl
length_none (x ∷ xs) e = absurd (omega (arith, e))

pub left_counts : (run : ℕ × ℕ) (runs : List (ℕ × ℕ)) (inputs : ℕ → List Logged) → ((n : ℕ) → count_in n (run ∷ runs) ≡ length (inputs n)) → (n : ℕ) → count_in n runs ≡ length (left_after run inputs n)
left_counts run runs inputs h n = by (n == run.0) (h n)
  where
    by : (b : Bool) → cond b (run.1 + count_in n runs) (count_in n runs) ≡ length (inputs n) → count_in n runs ≡ length (cond b (drop run.1 (inputs n)) (inputs n))
    by true e = dropped run.1 (count_in n runs) (inputs n) e
      where
        dropped : (k c : ℕ) (xs : List Logged) → k + c ≡ length xs → c ≡ length (drop k xs)
        dropped zero c xs e = omega (arith, e)
        dropped (suc k) c [] e = absurd (omega (arith, e))
        dropped (suc k) c (x ∷ xs) e = dropped k c xs (omega (arith, e))
    by false e = e

enough : (run : ℕ × ℕ) (runs : List (ℕ × ℕ)) (inputs : ℕ → List Logged) → ((n : ℕ) → count_in n (run ∷ runs) ≡ length (inputs n)) → run.1 ≤ length (inputs run.0)
enough run runs inputs h = by (run.0 == run.0) (eq-eqb run.0 run.0 refl) (h run.0)
  where
    by : (b : Bool) → b ≡ true → cond b (run.1 + count_in run.0 runs) (count_in run.0 runs) ≡ length (inputs run.0) → run.1 ≤ length (inputs run.0)
    by true is e = omega (arith, e)
    by false is e = absurd cc

-- what was left, with one more record, is what is left of the lists with one more record
left_more : (run : ℕ × ℕ) (topic : ℕ) (x : Logged) (inputs : ℕ → List Logged) → run.1 ≤ length (inputs run.0) → (n : ℕ) → left_after run (one_more topic x inputs) n ≡ one_more topic x (left_after run inputs) n
left_more run topic x inputs h n = by (n == run.0) refl
  where
    by : (b : Bool) → (n == run.0) ≡ b → cond b (drop run.1 (inputs n ++ cond (n == topic) (x ∷ []) [])) (inputs n ++ cond (n == topic) (x ∷ []) []) ≡ cond b (drop run.1 (inputs n)) (inputs n) ++ cond (n == topic) (x ∷ []) []
    by true is = drop-append-le run.1 (inputs n) (cond (n == topic) (x ∷ []) []) (subst (λ k. run.1 ≤ length (inputs k)) (sym (eqb-true n run.0 is)) h)
    by false is = refl

-- after all of the lists, the record that was added
pub batch_last : (t : TaskId) (topic : ℕ) (x : Logged) (order : List (ℕ × ℕ)) (inputs : ℕ → List Logged) → ((n : ℕ) → count_in n order ≡ length (inputs n)) →
    batch t (one_more topic x inputs) (order ++ (topic, 1) ∷ []) ≡ batch t inputs order ++ record { sender = x.sender; place = part_of topic t; item = x.rec } ∷ []
batch_last t topic x [] inputs h =
    ap (λ l. taken_from t topic (take 1 (l ++ cond (topic == topic) (x ∷ []) [])) ++ []) (length_none (inputs topic) (h topic))
    ∙ ap (λ b. taken_from t topic (take 1 (cond b (x ∷ []) [])) ++ []) (eq-eqb topic topic refl)
batch_last t topic x (run ∷ runs) inputs h =
    let first : take run.1 (one_more topic x inputs run.0) ≡ take run.1 (inputs run.0) = take-append-le run.1 (inputs run.0) (cond (run.0 == topic) (x ∷ []) []) (enough run runs inputs h) in
    let rest : left_after run (one_more topic x inputs) ≡ one_more topic x (left_after run inputs) = λ i n. left_more run topic x inputs (enough run runs inputs h) n i in
    ap₂ (λ l (m : ℕ → List Logged). taken_from t run.0 l ++ batch t m (runs ++ (topic, 1) ∷ [])) first rest
    ∙ ap (λ l. taken_from t run.0 (take run.1 (inputs run.0)) ++ l) (batch_last t topic x runs (left_after run inputs) (left_counts run runs inputs h))
    ∙ sym (append_assoc (taken_from t run.0 (take run.1 (inputs run.0))) (batch t (left_after run inputs) runs) _)
