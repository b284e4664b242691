-- What a task takes by an order, as records of its lists.
use Rattle.std.proofs.Common.{◌≡◌, ℕ, zero, suc, ◌+◌, Bool, true, false, cond, ◌&&◌, ◌⊎◌, inl, inr, List, [], ◌∷◌, ◌++◌, length, take, drop, Option, refl, sym, ap, ap₂, subst, ◌∙◌, arith}
use Rattle.std.specs.Prelude.{◌==◌}
use Rattle.std.proofs.lemmas.Bool.{eqb-true}
use Rattle.ks_record.specs.Records.{Record as Rec}
use Rattle.ks_record.specs.declared.record.PartId.{PartId}
use Rattle.ks_record.specs.declared.record.TaskId.{TaskId}
use Rattle.ks_record.specs.Parts.{same_part, same_task}
use Rattle.ks_def_runs.specs.Run.{same_sender, received}
use Rattle.ks_def_runs.proofs.Runs.{received-append}
use Rattle.ks_def_runs.proofs.Readers.{AllRead, AllRead-append}
use Rattle.ks_history.specs.Faithful.{count_in}
use Rattle.ks_history.specs.Machine.{TaskPlan, network, reader_of, part_of, taken_from, batch}
use Rattle.ks_history.specs.Partition.{Logged, recs, by_sender}
use Rattle.ks_law_exactly_once.proofs.Slots.{by_sender-append, recs-append}

-- ---- lists cut by numbers
pub take_more : {A : Type 0} (n c : ℕ) (xs : List A) → take n xs ++ take c (drop n xs) ≡ take (n + c) xs
take_more zero c xs = ap (λ k. take k xs) (omega arith)
take_more (suc n) c [] = nothing c ∙ sym (nothing (suc n + c))
  where
    nothing : {A : Type 0} (k : ℕ) → take {A = A} k [] ≡ []
    nothing zero = refl
    nothing (suc k) = refl
take_more (suc n) c (x ∷ xs) =
    let e : suc (n + c) ≡ suc n + c = omega arith in
    ap (λ l. x ∷ l) (take_more n c xs) ∙ ap (λ k. take k (x ∷ xs)) e

pub take_whole : {A : Type 0} (xs : List A) → take (length xs) xs ≡ xs
take_whole [] = refl
take_whole (x ∷ xs) = ap (λ l. x ∷ l) (take_whole xs)

drop_nothing : {A : Type 0} (n : ℕ) → drop {A = A} n [] ≡ []
drop_nothing zero = refl
drop_nothing (suc n) = refl

pub take_nothing : {A : Type 0} (n : ℕ) → take {A = A} n [] ≡ []
take_nothing zero = refl
take_nothing (suc n) = refl

-- ---- what was received of a batch
nil_either : {A : Type 0} (b : Bool) → cond {A = List A} b [] [] ≡ []
nil_either true = refl
nil_either false = refl

received_step : (ss sp : Bool) (x : Logged) (got : List Rec) (xs : List Logged) → got ≡ cond sp (recs xs) [] → cond (ss && sp) (x.rec ∷ got) got ≡ cond sp (recs (cond ss (x ∷ xs) xs)) []
received_step true true x got xs e = ap (λ l. x.rec ∷ l) e
received_step true false x got xs e = e
received_step false true x got xs e = e
received_step false false x got xs e = e

pub received-taken_from : (plan : TaskPlan) (r : Option TaskId) (q : PartId) (t : TaskId) (topic : ℕ) (xs : List Logged) →
    received (network plan) r q (taken_from t topic xs) ≡ cond (same_part q (part_of topic t)) (recs (by_sender r xs)) []
received-taken_from plan r q t topic [] = sym (nil_either (same_part q (part_of topic t)))
received-taken_from plan r q t topic (x ∷ xs) =
    received_step (same_sender same_task r x.sender) (same_part q (part_of topic t)) x _ (by_sender r xs) (received-taken_from plan r q t topic xs)

run_step : (b pp : Bool) (r : Option TaskId) (n c : ℕ) (here there : List Logged) → (b ≡ true → here ≡ there) →
    cond (b && pp) (recs (by_sender r (take n here))) [] ++ cond pp (recs (by_sender r (take c (cond b (drop n there) there)))) []
    ≡ cond pp (recs (by_sender r (take (cond b (n + c) c) there))) []
run_step true true r n c here there e =
    ap (λ l. recs (by_sender r (take n l)) ++ recs (by_sender r (take c (drop n there)))) (e refl)
    ∙ sym (recs-append (by_sender r (take n there)) _)
    ∙ ap recs (sym (by_sender-append r (take n there) _))
    ∙ ap (λ l. recs (by_sender r l)) (take_more n c there)
run_step true false r n c here there e = refl
run_step false true r n c here there e = refl
run_step false false r n c here there e = refl

pub received-batch : (plan : TaskPlan) (r : Option TaskId) (q : PartId) (t : TaskId) (inputs : ℕ → List Logged) (order : List (ℕ × ℕ)) →
    received (network plan) r q (batch t inputs order) ≡ cond (q.part == t.part) (recs (by_sender r (take (count_in q.topic order) (inputs q.topic)))) []
received-batch plan r q t inputs [] = sym (nil_either (q.part == t.part))
received-batch plan r q t inputs (run ∷ runs) =
    received-append (network plan) r q (taken_from t run.0 (take run.1 (inputs run.0))) _
    ∙ ap₂ (λ a b. a ++ b) (received-taken_from plan r q t run.0 (take run.1 (inputs run.0))) (received-batch plan r q t (λ topic. cond (topic == run.0) (drop run.1 (inputs topic)) (inputs topic)) runs)
    ∙ run_step (q.topic == run.0) (q.part == t.part) r run.1 (count_in q.topic runs) (inputs run.0) (inputs q.topic) (λ b. ap inputs (sym (eqb-true q.topic run.0 b)))

-- ---- which task reads them
taken_from-read : (plan : TaskPlan) (t : TaskId) (topic : ℕ) (xs : List Logged) → reader_of plan (part_of topic t) ≡ t → AllRead (network plan) t (taken_from t topic xs)
taken_from-read plan t topic [] e = tt
taken_from-read plan t topic (x ∷ xs) e = (e, taken_from-read plan t topic xs e)

taken_part : (plan : TaskPlan) (t : TaskId) (topic n : ℕ) (xs : List Logged) → (xs ≡ []) ⊎ (reader_of plan (part_of topic t) ≡ t) → AllRead (network plan) t (taken_from t topic (take n xs))
taken_part plan t topic n xs (inl e) = subst (λ l. AllRead (network plan) t (taken_from t topic l)) (sym (ap (take n) e ∙ take_nothing n)) tt
taken_part plan t topic n xs (inr e) = taken_from-read plan t topic (take n xs) e

pub still : {P : Type 0} (b : Bool) (n : ℕ) (xs : List Logged) → (xs ≡ []) ⊎ P → (cond b (drop n xs) xs ≡ []) ⊎ P
still true n xs (inl e) = inl (ap (drop n) e ∙ drop_nothing n)
still false n xs (inl e) = inl e
still b n xs (inr e) = inr e

-- a task takes only what it reads
pub batch-read : (plan : TaskPlan) (t : TaskId) (inputs : ℕ → List Logged) → ((topic : ℕ) → (inputs topic ≡ []) ⊎ (reader_of plan (part_of topic t) ≡ t)) →
    (order : List (ℕ × ℕ)) → AllRead (network plan) t (batch t inputs order)
batch-read plan t inputs own [] = tt
batch-read plan t inputs own (run ∷ runs) =
    AllRead-append (network plan) t (taken_from t run.0 (take run.1 (inputs run.0))) _ (taken_part plan t run.0 run.1 (inputs run.0) (own run.0))
    (batch-read plan t (λ topic. cond (topic == run.0) (drop run.1 (inputs topic)) (inputs topic)) (λ topic. still (topic == run.0) run.1 (inputs topic) (own topic)) runs)
