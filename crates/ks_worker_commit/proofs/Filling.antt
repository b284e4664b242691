-- The whole transaction of some works holds the work of each of their tasks.
use Rattle.std.proofs.Common.{◌≡◌, ◌⊎◌, inl, inr, ◌&&◌, ◌||◌, Bool, true, false, cond, List, [], ◌∷◌, ◌++◌, Option, Some, None, refl, sym, ap, subst, ◌∙◌, append-nil, append_assoc}
use Rattle.std.proofs.lemmas.Bool.{true≢false, or_cases, or_left, or_right}
use Rattle.ks_record.specs.Records.{Record as Rec}
use Rattle.ks_record.specs.declared.record.PartId.{PartId}
use Rattle.ks_record.specs.declared.record.TaskId.{TaskId}
use Rattle.ks_record.specs.Parts.{same_part, same_task}
use Rattle.ks_history.specs.declared.transaction.Pending.{Pending}
use Rattle.ks_history.specs.State.{has_part, has_task, are_once}
use Rattle.ks_history.proofs.Names.{same_part-is, same_part-refl, same_task-is, same_task-refl}
use Rattle.ks_law_restore.specs.Views.{WorkView, recs_at, pending_work}
use Rattle.ks_law_commit.specs.Building.{Contents, with_part, with_records, with_pending_offsets}
use Rattle.ks_commit.specs.Committed.{tasks_in, AreApart}
use Rattle.ks_worker_commit.specs.Outputs.{add_all, put_output, put_outputs, put_works, put_all, send_all}

-- ---- the first work of a task
abbrev pub IsFirst : TaskId → List WorkView → WorkView → Type 0
IsFirst t [] f = ⊥
IsFirst t (g ∷ gs) f = cond (same_task t g.task) (f ≡ g) (IsFirst t gs f)

pub first_of : (t : TaskId) (fs : List WorkView) → has_task t (tasks_in fs) ≡ true → (f : WorkView) × IsFirst t fs f × (f.task ≡ t)
first_of t [] h = absurd (true≢false (sym h))
first_of t (g ∷ gs) h = by (same_task t g.task) refl h (λ k. first_of t gs k)
  where
    by : (b : Bool) → same_task t g.task ≡ b → b || has_task t (tasks_in gs) ≡ true → (has_task t (tasks_in gs) ≡ true → (f : WorkView) × IsFirst t gs f × (f.task ≡ t)) → (f : WorkView) × cond b (f ≡ g) (IsFirst t gs f) × (f.task ≡ t)
    by true is k on = (g, refl, sym (same_task-is t g.task is))
    by false is k on = on k

-- no work of a task stands behind its first
apart_head : (f : WorkView) (fs : List WorkView) → AreApart (f ∷ fs) → (has_task f.task (tasks_in fs) ≡ false) × AreApart fs
apart_head f fs h = by (has_task f.task (tasks_in fs)) refl h
  where
    by : (b : Bool) → has_task f.task (tasks_in fs) ≡ b → cond b false (are_once (tasks_in fs)) ≡ true → (has_task f.task (tasks_in fs) ≡ false) × AreApart fs
    by true is k = absurd (true≢false (sym k))
    by false is k = (is, k)

-- ---- records
abbrev pub works_recs : TaskId → PartId → PartId → List WorkView → List Rec
works_recs u q p [] = []
works_recs u q p (f ∷ fs) = cond (same_task u f.task && same_part q p) (recs_at p f.outputs) [] ++ works_recs u q p fs

abbrev pub all_recs : TaskId → PartId → List PartId → List WorkView → List Rec
all_recs u q [] fs = []
all_recs u q (p ∷ ps) fs = works_recs u q p fs ++ all_recs u q ps fs

outputs_records : (u : TaskId) (q p : PartId) (t : TaskId) (outs : List (PartId × List Rec)) (c : Contents) →
    (put_outputs p t outs c).records u q ≡ c.records u q ++ cond (same_task u t && same_part q p) (recs_at p outs) []
outputs_records u q p t [] c = by (same_task u t && same_part q p)
  where
    by : (b : Bool) → c.records u q ≡ c.records u q ++ cond {A = List Rec} b [] []
    by true = sym (append-nil (c.records u q))
    by false = sym (append-nil (c.records u q))
outputs_records u q p t (out ∷ outs) c = by (same_part p out.0) (outputs_records u q p t outs (with_records t p out.1 c)) (outputs_records u q p t outs c)
  where
    both : (b : Bool) → cond b (c.records u q ++ out.1) (c.records u q) ++ cond b (recs_at p outs) [] ≡ c.records u q ++ cond b (out.1 ++ recs_at p outs) []
    both true = append_assoc (c.records u q) out.1 (recs_at p outs)
    both false = refl

    by : (b : Bool) → (put_outputs p t outs (with_records t p out.1 c)).records u q ≡ cond (same_task u t && same_part q p) (c.records u q ++ out.1) (c.records u q) ++ cond (same_task u t && same_part q p) (recs_at p outs) []
        → (put_outputs p t outs c).records u q ≡ c.records u q ++ cond (same_task u t && same_part q p) (recs_at p outs) []
        → (put_outputs p t outs (cond b (with_records t p out.1 c) c)).records u q ≡ c.records u q ++ cond (same_task u t && same_part q p) (cond b (out.1 ++ recs_at p outs) (recs_at p outs)) []
    by true h g = h ∙ both (same_task u t && same_part q p)
    by false h g = g

works_records : (u : TaskId) (q p : PartId) (fs : List WorkView) (c : Contents) → (put_works p fs c).records u q ≡ c.records u q ++ works_recs u q p fs
works_records u q p [] c = sym (append-nil (c.records u q))
works_records u q p (f ∷ fs) c =
    works_records u q p fs (put_outputs p f.task f.outputs c)
    ∙ ap (λ l. l ++ works_recs u q p fs) (outputs_records u q p f.task f.outputs c)
    ∙ append_assoc (c.records u q) (cond (same_task u f.task && same_part q p) (recs_at p f.outputs) []) (works_recs u q p fs)

all_records : (u : TaskId) (q : PartId) (ps : List PartId) (fs : List WorkView) (c : Contents) → (put_all ps fs c).records u q ≡ c.records u q ++ all_recs u q ps fs
all_records u q [] fs c = sym (append-nil (c.records u q))
all_records u q (p ∷ ps) fs c =
    all_records u q ps fs (put_works p fs c)
    ∙ ap (λ l. l ++ all_recs u q ps fs) (works_records u q p fs c)
    ∙ append_assoc (c.records u q) (works_recs u q p fs) (all_recs u q ps fs)

-- a task without a work has none
none_recs : (u : TaskId) (q p : PartId) (fs : List WorkView) → has_task u (tasks_in fs) ≡ false → works_recs u q p fs ≡ []
none_recs u q p [] h = refl
none_recs u q p (f ∷ fs) h = by (same_task u f.task) h (λ k. none_recs u q p fs k)
  where
    by : (b : Bool) → b || has_task u (tasks_in fs) ≡ false → (has_task u (tasks_in fs) ≡ false → works_recs u q p fs ≡ []) → cond (b && same_part q p) (recs_at p f.outputs) [] ++ works_recs u q p fs ≡ []
    by true k on = absurd (true≢false k)
    by false k on = on k

one_recs : (u : TaskId) (q p : PartId) (fs : List WorkView) (f : WorkView) → AreApart fs → IsFirst u fs f → works_recs u q p fs ≡ cond (same_part q p) (recs_at p f.outputs) []
one_recs u q p [] f apart h = absurd h
one_recs u q p (g ∷ gs) f apart h = by (same_task u g.task) refl h (λ k. one_recs u q p gs f (apart_head g gs apart).1 k)
  where
    by : (b : Bool) → same_task u g.task ≡ b → cond b (f ≡ g) (IsFirst u gs f) → (IsFirst u gs f → works_recs u q p gs ≡ cond (same_part q p) (recs_at p f.outputs) []) → cond (b && same_part q p) (recs_at p g.outputs) [] ++ works_recs u q p gs ≡ cond (same_part q p) (recs_at p f.outputs) []
    by true is k on =
        let nothing : works_recs u q p gs ≡ [] = none_recs u q p gs (subst (λ t. has_task t (tasks_in gs) ≡ false) (sym (same_task-is u g.task is)) (apart_head g gs apart).0) in
        ap (λ l. cond (same_part q p) (recs_at p g.outputs) [] ++ l) nothing ∙ append-nil (cond (same_part q p) (recs_at p g.outputs) []) ∙ ap (λ (x : WorkView). cond (same_part q p) (recs_at p x.outputs) []) (sym k)
    by false is k on = on k

-- no partition stands twice
abbrev pub parts_once : List PartId → Type 0
parts_once [] = Unit {0}
parts_once (p ∷ ps) = (has_part p ps ≡ false) × parts_once ps

absent_recs : (u : TaskId) (q : PartId) (ps : List PartId) (fs : List WorkView) (f : WorkView) → AreApart fs → IsFirst u fs f → has_part q ps ≡ false → all_recs u q ps fs ≡ []
absent_recs u q [] fs f apart first h = refl
absent_recs u q (p ∷ ps) fs f apart first h = by (same_part q p) refl h (one_recs u q p fs f apart first) (λ k. absent_recs u q ps fs f apart first k)
  where
    by : (b : Bool) → same_part q p ≡ b → b || has_part q ps ≡ false → works_recs u q p fs ≡ cond b (recs_at p f.outputs) [] → (has_part q ps ≡ false → all_recs u q ps fs ≡ []) → works_recs u q p fs ++ all_recs u q ps fs ≡ []
    by true is k e on = absurd (true≢false k)
    by false is k e on = ap (λ l. l ++ all_recs u q ps fs) e ∙ on k

pub task_recs : (u : TaskId) (q : PartId) (ps : List PartId) (fs : List WorkView) (f : WorkView) → AreApart fs → IsFirst u fs f → parts_once ps → all_recs u q ps fs ≡ cond (has_part q ps) (recs_at q f.outputs) []
task_recs u q [] fs f apart first once = refl
task_recs u q (p ∷ ps) fs f apart first once = by (same_part q p) refl (one_recs u q p fs f apart first) (task_recs u q ps fs f apart first once.1)
  where
    by : (b : Bool) → same_part q p ≡ b → works_recs u q p fs ≡ cond b (recs_at p f.outputs) [] → all_recs u q ps fs ≡ cond (has_part q ps) (recs_at q f.outputs) []
        → works_recs u q p fs ++ all_recs u q ps fs ≡ cond (b || has_part q ps) (recs_at q f.outputs) []
    by true is e rest =
        let same : q ≡ p = same_part-is q p is in
        let none : all_recs u q ps fs ≡ [] = absent_recs u q ps fs f apart first (subst (λ r. has_part r ps ≡ false) (sym same) once.0) in
        ap (λ l. works_recs u q p fs ++ l) none ∙ append-nil (works_recs u q p fs) ∙ e ∙ ap (λ r. recs_at r f.outputs) (sym same)
    by false is e rest = ap (λ l. l ++ all_recs u q ps fs) e ∙ rest

-- ---- what each kind of request leaves
pub add_records : (ps : List PartId) (c : Contents) (u : TaskId) (q : PartId) → (add_all ps c).records u q ≡ c.records u q
add_records [] c u q = refl
add_records (p ∷ ps) c u q = add_records ps (with_part p c) u q

pub send_records : (fs : List WorkView) (c : Contents) (u : TaskId) (q : PartId) → (send_all fs c).records u q ≡ c.records u q
send_records [] c u q = refl
send_records (f ∷ fs) c u q = send_records fs (with_pending_offsets (pending_work f) c) u q

pub whole_records : (u : TaskId) (q : PartId) (ps : List PartId) (fs : List WorkView) (f : WorkView) (c : Contents) → AreApart fs → IsFirst u fs f → parts_once ps → c.records u q ≡ []
    → (send_all fs (put_all ps fs (add_all ps c))).records u q ≡ cond (has_part q ps) (recs_at q f.outputs) []
whole_records u q ps fs f c apart first once none =
    send_records fs (put_all ps fs (add_all ps c)) u q
    ∙ all_records u q ps fs (add_all ps c)
    ∙ ap (λ l. l ++ all_recs u q ps fs) (add_records ps c u q ∙ none)
    ∙ task_recs u q ps fs f apart first once

-- ---- offsets
pub send_pending : (fs : List WorkView) (c : Contents) (t : TaskId) → has_task t (tasks_in fs) ≡ false → (send_all fs c).pending t ≡ c.pending t
send_pending [] c t h = refl
send_pending (f ∷ fs) c t h = by (same_task t f.task) refl h (λ k. send_pending fs (with_pending_offsets (pending_work f) c) t k)
  where
    by : (b : Bool) → same_task t f.task ≡ b → b || has_task t (tasks_in fs) ≡ false →
        (has_task t (tasks_in fs) ≡ false → (send_all fs (with_pending_offsets (pending_work f) c)).pending t ≡ (with_pending_offsets (pending_work f) c).pending t) →
        (send_all fs (with_pending_offsets (pending_work f) c)).pending t ≡ c.pending t
    by true is k on = absurd (true≢false k)
    by false is k on = on k ∙ ap (λ b. cond b (Some (pending_work f)) (c.pending t)) is

pub first_pending : (fs : List WorkView) (c : Contents) (t : TaskId) (f : WorkView) → AreApart fs → IsFirst t fs f → (send_all fs c).pending t ≡ Some (pending_work f)
first_pending [] c t f apart h = absurd h
first_pending (g ∷ gs) c t f apart h = by (same_task t g.task) refl h (λ k. first_pending gs (with_pending_offsets (pending_work g) c) t f (apart_head g gs apart).1 k)
  where
    by : (b : Bool) → same_task t g.task ≡ b → cond b (f ≡ g) (IsFirst t gs f) → (IsFirst t gs f → (send_all gs (with_pending_offsets (pending_work g) c)).pending t ≡ Some (pending_work f)) → (send_all gs (with_pending_offsets (pending_work g) c)).pending t ≡ Some (pending_work f)
    by true is k on =
        send_pending gs (with_pending_offsets (pending_work g) c) t (subst (λ u. has_task u (tasks_in gs) ≡ false) (sym (same_task-is t g.task is)) (apart_head g gs apart).0)
        ∙ ap (λ b. cond b (Some (pending_work g)) (c.pending t)) is
        ∙ ap (λ (x : WorkView). Some (pending_work x)) (sym k)
    by false is k on = on k

outputs_pending : (p : PartId) (u : TaskId) (outs : List (PartId × List Rec)) (c : Contents) (t : TaskId) → (put_outputs p u outs c).pending t ≡ c.pending t
outputs_pending p u [] c t = refl
outputs_pending p u (out ∷ outs) c t = by (same_part p out.0) (λ d. outputs_pending p u outs d t)
  where
    by : (b : Bool) → ((d : Contents) → (put_outputs p u outs d).pending t ≡ d.pending t) → (put_outputs p u outs (cond b (with_records u p out.1 c) c)).pending t ≡ c.pending t
    by true on = on (with_records u p out.1 c)
    by false on = on c

works_pending : (p : PartId) (fs : List WorkView) (c : Contents) (t : TaskId) → (put_works p fs c).pending t ≡ c.pending t
works_pending p [] c t = refl
works_pending p (f ∷ fs) c t = works_pending p fs (put_outputs p f.task f.outputs c) t ∙ outputs_pending p f.task f.outputs c t

pub put_pending : (ps : List PartId) (fs : List WorkView) (c : Contents) (t : TaskId) → (put_all ps fs c).pending t ≡ c.pending t
put_pending [] fs c t = refl
put_pending (p ∷ ps) fs c t = put_pending ps fs (put_works p fs c) t ∙ works_pending p fs c t

-- ---- tasks
outputs_tasks : (p : PartId) (u : TaskId) (outs : List (PartId × List Rec)) (c : Contents) (t : TaskId) → (put_outputs p u outs c).tasks t ≡ true → (c.tasks t ≡ true) ⊎ (same_task t u ≡ true)
outputs_tasks p u [] c t h = inl h
outputs_tasks p u (out ∷ outs) c t h = by (same_part p out.0) h (λ d k. outputs_tasks p u outs d t k)
  where
    known : (c.tasks t || same_task t u ≡ true) ⊎ (same_task t u ≡ true) → (c.tasks t ≡ true) ⊎ (same_task t u ≡ true)
    known (inl k) = or_cases (c.tasks t) (same_task t u) k
    known (inr k) = inr k

    by : (b : Bool) → (put_outputs p u outs (cond b (with_records u p out.1 c) c)).tasks t ≡ true →
        ((d : Contents) → (put_outputs p u outs d).tasks t ≡ true → (d.tasks t ≡ true) ⊎ (same_task t u ≡ true)) → (c.tasks t ≡ true) ⊎ (same_task t u ≡ true)
    by true k on = known (on (with_records u p out.1 c) k)
    by false k on = on c k

works_tasks : (p : PartId) (fs : List WorkView) (c : Contents) (t : TaskId) → (put_works p fs c).tasks t ≡ true → (c.tasks t ≡ true) ⊎ (has_task t (tasks_in fs) ≡ true)
works_tasks p [] c t h = inl h
works_tasks p (f ∷ fs) c t h = by (works_tasks p fs (put_outputs p f.task f.outputs c) t h)
  where
    head : (c.tasks t ≡ true) ⊎ (same_task t f.task ≡ true) → (c.tasks t ≡ true) ⊎ (same_task t f.task || has_task t (tasks_in fs) ≡ true)
    head (inl k) = inl k
    head (inr k) = inr (or_left (same_task t f.task) (has_task t (tasks_in fs)) k)

    by : ((put_outputs p f.task f.outputs c).tasks t ≡ true) ⊎ (has_task t (tasks_in fs) ≡ true) → (c.tasks t ≡ true) ⊎ (same_task t f.task || has_task t (tasks_in fs) ≡ true)
    by (inl k) = head (outputs_tasks p f.task f.outputs c t k)
    by (inr k) = inr (or_right (same_task t f.task) (has_task t (tasks_in fs)) k)

put_tasks : (ps : List PartId) (fs : List WorkView) (c : Contents) (t : TaskId) → (put_all ps fs c).tasks t ≡ true → (c.tasks t ≡ true) ⊎ (has_task t (tasks_in fs) ≡ true)
put_tasks [] fs c t h = inl h
put_tasks (p ∷ ps) fs c t h = by (put_tasks ps fs (put_works p fs c) t h)
  where
    by : ((put_works p fs c).tasks t ≡ true) ⊎ (has_task t (tasks_in fs) ≡ true) → (c.tasks t ≡ true) ⊎ (has_task t (tasks_in fs) ≡ true)
    by (inl k) = works_tasks p fs c t k
    by (inr k) = inr k

add_tasks : (ps : List PartId) (c : Contents) (t : TaskId) → (add_all ps c).tasks t ≡ c.tasks t
add_tasks [] c t = refl
add_tasks (p ∷ ps) c t = add_tasks ps (with_part p c) t

send_tasks : (fs : List WorkView) (c : Contents) (t : TaskId) → (send_all fs c).tasks t ≡ c.tasks t
send_tasks [] c t = refl
send_tasks (f ∷ fs) c t = send_tasks fs (with_pending_offsets (pending_work f) c) t

pub whole_tasks : (ps : List PartId) (fs : List WorkView) (c : Contents) (t : TaskId) → c.tasks t ≡ false → (send_all fs (put_all ps fs (add_all ps c))).tasks t ≡ true → has_task t (tasks_in fs) ≡ true
whole_tasks ps fs c t none h = by (put_tasks ps fs (add_all ps c) t (sym (send_tasks fs (put_all ps fs (add_all ps c)) t) ∙ h))
  where
    by : ((add_all ps c).tasks t ≡ true) ⊎ (has_task t (tasks_in fs) ≡ true) → has_task t (tasks_in fs) ≡ true
    by (inl k) = absurd (true≢false (sym k ∙ add_tasks ps c t ∙ none))
    by (inr k) = k

-- ---- partitions
pub added_parts : (ps : List PartId) (c : Contents) (q : PartId) → (c.parts q ≡ true) ⊎ (has_part q ps ≡ true) → (add_all ps c).parts q ≡ true
added_parts [] c q (inl h) = h
added_parts [] c q (inr h) = absurd (true≢false (sym h))
added_parts (p ∷ ps) c q (inl h) = added_parts ps (with_part p c) q (inl (or_left (c.parts q) (same_part q p) h))
added_parts (p ∷ ps) c q (inr h) = by (or_cases (same_part q p) (has_part q ps) h) (λ k. added_parts ps (with_part p c) q k)
  where
    by : (same_part q p ≡ true) ⊎ (has_part q ps ≡ true) → (((c.parts q || same_part q p) ≡ true) ⊎ (has_part q ps ≡ true) → (add_all ps (with_part p c)).parts q ≡ true) → (add_all ps (with_part p c)).parts q ≡ true
    by (inl k) on = on (inl (or_right (c.parts q) (same_part q p) k))
    by (inr k) on = on (inr k)

pub outputs_parts : (p : PartId) (u : TaskId) (outs : List (PartId × List Rec)) (c : Contents) (q : PartId) → (put_outputs p u outs c).parts q ≡ c.parts q
outputs_parts p u [] c q = refl
outputs_parts p u (out ∷ outs) c q = by (same_part p out.0) (λ d. outputs_parts p u outs d q)
  where
    by : (b : Bool) → ((d : Contents) → (put_outputs p u outs d).parts q ≡ d.parts q) → (put_outputs p u outs (cond b (with_records u p out.1 c) c)).parts q ≡ c.parts q
    by true on = on (with_records u p out.1 c)
    by false on = on c

pub works_parts : (p : PartId) (fs : List WorkView) (c : Contents) (q : PartId) → (put_works p fs c).parts q ≡ c.parts q
works_parts p [] c q = refl
works_parts p (f ∷ fs) c q = works_parts p fs (put_outputs p f.task f.outputs c) q ∙ outputs_parts p f.task f.outputs c q

pub put_parts : (ps : List PartId) (fs : List WorkView) (c : Contents) (q : PartId) → (put_all ps fs c).parts q ≡ c.parts q
put_parts [] fs c q = refl
put_parts (p ∷ ps) fs c q = put_parts ps fs (put_works p fs c) q ∙ works_parts p fs c q

pub output_parts : (p : PartId) (t : TaskId) (out : PartId × List Rec) (c : Contents) (q : PartId) → (put_output p t out c).parts q ≡ c.parts q
output_parts p t out c q = by (same_part p out.0)
  where
    by : (b : Bool) → (cond b (with_records t p out.1 c) c).parts q ≡ c.parts q
    by true = refl
    by false = refl
