-- An order whose runs are merged names the same records.
use Rattle.std.proofs.Common.{◌≡◌, ℕ, zero, suc, ◌+◌, Bool, true, false, cond, List, [], ◌∷◌, ◌++◌, take, drop, refl, sym, ap, ap₂, subst, ◌∙◌, arith, append_assoc, append-nil}
use Rattle.std.specs.Prelude.{◌==◌}
use Rattle.std.proofs.lemmas.Bool.{eqb-true, eq-eqb}
use Rattle.ks_record.specs.declared.record.PartId.{PartId}
use Rattle.ks_record.specs.Records.{Record as Rec}
use Rattle.ks_record.specs.declared.record.TaskId.{TaskId}
use Rattle.ks_def_runs.specs.Run.{Outcome, Taken, local, sent_to}
use Rattle.ks_history.specs.declared.transaction.Pending.{Pending}
use Rattle.ks_history.specs.Partition.{Logged}
use Rattle.ks_history.specs.Machine.{Stores, network, taken_from, batch, has_topic}
use Rattle.ks_history.specs.State.{State, Setup}
use Rattle.ks_history.specs.Faithful.{folds, taken, outcome, capped, pending_offsets}
use Rattle.ks_history.specs.Follows.{TaskView}
use Rattle.ks_history.specs.History.{at}
use Rattle.ks_law_exactly_once.proofs.Batches.{take_more}
use Rattle.ks_law_restore.specs.Views.{with_taken}
use Rattle.ks_law_restore.proofs.Orders.{left_after, taken_from-append}
use Rattle.ks_law_restore.proofs.Standing.{Standing, standing, taken_same}
use Rattle.ks_law_audit.specs.Laws.{MergedIsTaken}
use Rattle.ks_law_audit.specs.Rested.{HasTaken, run_onto, merged_onto, merged}

-- ---- orders as lists of topics, one for each record
abbrev copies : ℕ → ℕ → List ℕ
copies topic zero = []
copies topic (suc n) = topic ∷ copies topic n

abbrev singles : List (ℕ × ℕ) → List ℕ
singles [] = []
singles (run ∷ runs) = copies run.0 run.1 ++ singles runs

plus_one : (n : ℕ) → n + 1 ≡ suc n
plus_one n = omega arith

copies_more : (topic n : ℕ) → copies topic (suc n) ≡ copies topic n ++ topic ∷ []
copies_more topic zero = refl
copies_more topic (suc n) = ap (λ l. topic ∷ l) (copies_more topic n)

singles_with : (topic : ℕ) (order : List (ℕ × ℕ)) → singles (with_taken topic order) ≡ singles order ++ topic ∷ []
singles_with topic [] = refl
singles_with topic (run ∷ []) = by (topic == run.0) refl
  where
    by : (b : Bool) → (topic == run.0) ≡ b → singles (cond b ((run.0, run.1 + 1) ∷ []) (run ∷ (topic, 1) ∷ [])) ≡ (copies run.0 run.1 ++ []) ++ topic ∷ []
    by true is =
        append-nil (copies run.0 (run.1 + 1))
        ∙ ap (copies run.0) (plus_one run.1)
        ∙ copies_more run.0 run.1
        ∙ ap₂ (λ l k. l ++ k ∷ []) (sym (append-nil (copies run.0 run.1))) (sym (eqb-true topic run.0 is))
    by false is = ap (λ l. l ++ topic ∷ []) (sym (append-nil (copies run.0 run.1)))
singles_with topic (run ∷ next ∷ runs) =
    ap (λ l. copies run.0 run.1 ++ l) (singles_with topic (next ∷ runs))
    ∙ sym (append_assoc (copies run.0 run.1) (singles (next ∷ runs)) (topic ∷ []))

singles_run : (topic n : ℕ) (order : List (ℕ × ℕ)) → singles (run_onto topic n order) ≡ singles order ++ copies topic n
singles_run topic zero order = sym (append-nil (singles order))
singles_run topic (suc n) order =
    singles_run topic n (with_taken topic order)
    ∙ ap (λ l. l ++ copies topic n) (singles_with topic order)
    ∙ append_assoc (singles order) (topic ∷ []) (copies topic n)

singles_onto : (order done : List (ℕ × ℕ)) → singles (merged_onto done order) ≡ singles done ++ singles order
singles_onto [] done = sym (append-nil (singles done))
singles_onto (run ∷ runs) done =
    singles_onto runs (run_onto run.0 run.1 done)
    ∙ ap (λ l. l ++ singles runs) (singles_run run.0 run.1 done)
    ∙ append_assoc (singles done) (copies run.0 run.1) (singles runs)

-- ---- what such a list names
abbrev batch_by : TaskId → (ℕ → List Logged) → List ℕ → List (Taken TaskId PartId Rec)
batch_by t inputs [] = []
batch_by t inputs (k ∷ ks) = taken_from t k (take 1 (inputs k)) ++ batch_by t (left_after (k, 1) inputs) ks

drop_more : {A : Type 0} (n : ℕ) (xs : List A) → drop n (drop 1 xs) ≡ drop (suc n) xs
drop_more zero [] = refl
drop_more (suc n) [] = refl
drop_more n (x ∷ xs) = refl

left_none : (k : ℕ) (inputs : ℕ → List Logged) → left_after (k, 0) inputs ≡ inputs
left_none k inputs = λ i topic. by topic (topic == k) i
  where
    by : (topic : ℕ) (b : Bool) → cond b (drop 0 (inputs topic)) (inputs topic) ≡ inputs topic
    by topic true = refl
    by topic false = refl

left_twice : (k n : ℕ) (inputs : ℕ → List Logged) → left_after (k, n) (left_after (k, 1) inputs) ≡ left_after (k, suc n) inputs
left_twice k n inputs = λ i topic. by topic (topic == k) i
  where
    by : (topic : ℕ) (b : Bool) → cond b (drop n (cond b (drop 1 (inputs topic)) (inputs topic))) (cond b (drop 1 (inputs topic)) (inputs topic)) ≡ cond b (drop (suc n) (inputs topic)) (inputs topic)
    by topic true = drop_more n (inputs topic)
    by topic false = refl

take_none : {A : Type 0} (n : ℕ) → take {A = A} n [] ≡ []
take_none zero = refl
take_none (suc n) = refl

one_then : {A : Type 0} (n : ℕ) (xs : List A) → take 1 xs ++ take n (drop 1 xs) ≡ take (suc n) xs
one_then n [] = take_none n
one_then n (x ∷ xs) = refl

run_by : (t : TaskId) (k n : ℕ) (rest : List ℕ) (runs : List (ℕ × ℕ)) (inputs : ℕ → List Logged) → ((inputs : ℕ → List Logged) → batch t inputs runs ≡ batch_by t inputs rest) →
    taken_from t k (take n (inputs k)) ++ batch t (left_after (k, n) inputs) runs ≡ batch_by t inputs (copies k n ++ rest)
run_by t k zero rest runs inputs same = ap (λ f. batch t f runs) (left_none k inputs) ∙ same inputs
run_by t k (suc n) rest runs inputs same =
    let later : ℕ → List Logged = left_after (k, 1) inputs in
    let here : left_after (k, 1) inputs k ≡ drop 1 (inputs k) = ap (λ b. cond b (drop 1 (inputs k)) (inputs k)) (eq-eqb k k refl) in
    ap₂ (λ l m. l ++ m)
    (ap (taken_from t k) (sym (one_then n (inputs k))) ∙ taken_from-append t k (take 1 (inputs k)) (take n (drop 1 (inputs k))))
    (ap (λ f. batch t f runs) (sym (left_twice k n inputs)))
    ∙ append_assoc (taken_from t k (take 1 (inputs k))) (taken_from t k (take n (drop 1 (inputs k)))) (batch t (left_after (k, n) later) runs)
    ∙ ap (λ l. taken_from t k (take 1 (inputs k)) ++ l)
    (ap (λ xs. taken_from t k (take n xs) ++ batch t (left_after (k, n) later) runs) (sym here) ∙ run_by t k n rest runs later same)

batch_singles : (t : TaskId) (order : List (ℕ × ℕ)) (inputs : ℕ → List Logged) → batch t inputs order ≡ batch_by t inputs (singles order)
batch_singles t [] inputs = refl
batch_singles t (run ∷ runs) inputs = run_by t run.0 run.1 (singles runs) runs inputs (batch_singles t runs)

pub batch_merged : (t : TaskId) (order : List (ℕ × ℕ)) (inputs : ℕ → List Logged) → batch t inputs (merged order) ≡ batch t inputs order
batch_merged t order inputs = batch_singles t (merged order) inputs ∙ ap (batch_by t inputs) (singles_onto order []) ∙ sym (batch_singles t order inputs)

-- ---- so a task that took them so has made what the order asks for
module _ (setup : Setup) (s : State) (p : Pending) where
  abbrev wanted : Outcome PartId Stores Rec
  wanted = outcome setup s p.task (pending_offsets s p) p.order

  wanted_is : (v : TaskView) → v.task ≡ p.task → ((topic : ℕ) → has_topic topic (setup.plan.inputs p.task.sub) ≡ true → v.inputs topic ≡ pending_offsets s p topic) → v.order ≡ merged p.order →
      outcome setup s v.task v.inputs v.order ≡ outcome setup s p.task (pending_offsets s p) p.order
  wanted_is v same stand order =
      ap₂ (λ u o. outcome setup s u v.inputs o) same order
      ∙ ap (λ (f : ℕ → List Logged). local (network setup.plan) p.task (folds setup s p.task) (batch p.task f (merged p.order))) (taken_same setup s p.task v.inputs (pending_offsets s p) stand)
      ∙ ap (local (network setup.plan) p.task (folds setup s p.task)) (batch_merged p.task p.order (taken setup s p.task (pending_offsets s p)))

pub merged_is_taken : MergedIsTaken
merged_is_taken setup journal p v net stands same stand order =
    let is : Standing setup (at setup journal) v = standing setup net journal v stands in
    let whole = wanted_is setup (at setup journal) p v same stand order in
    record {
      task = same;
      inputs = stand;
      stores = is.stores ∙ ap (λ (o : Outcome PartId Stores Rec). o.store) whole;
      made = λ q. is.made q ∙ ap (λ (o : Outcome PartId Stores Rec). sent_to (network setup.plan) q o.made) whole;
      late = is.late ∙ ap (λ (o : Outcome PartId Stores Rec). capped o.late) whole;
    }
