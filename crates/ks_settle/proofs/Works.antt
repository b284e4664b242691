-- The works of tasks, one for each that has something to commit.
use Rattle.std.proofs.Common.{◌≡◌, ℕ, zero, suc, ◌+◌, ◌<◌, ◌≤◌, ◌||◌, Bool, true, false, cond, List, [], ◌∷◌, ◌++◌, length, get_or, refl, sym, ap, subst, ◌∙◌, arith, ne_eqb, Option, Some, None}
use Rattle.std.specs.Prelude.{option_map, ◌==◌}
use Rattle.std.proofs.Math.ListN.{set}
use Rattle.std.proofs.lemmas.List.{length-map, length-set, get_or-set_same, get_or-set_other}
use Rattle.std.proofs.lemmas.Bool.{true≢false, eqb-true, eqb-false}
use Rattle.ks_record.specs.declared.record.PartId.{PartId}
use Rattle.ks_record.specs.declared.record.TaskId.{TaskId}
use Rattle.ks_record.specs.Parts.{same_task}
use Rattle.ks_plan.specs.Drafts.{DraftView}
use Rattle.ks_def_tasks.proofs.Names.{same_task-is}
use Rattle.ks_history.specs.declared.journal.Entry.{Entry}
use Rattle.ks_history.specs.State.{State, Setup, has_task, are_once}
use Rattle.ks_history.specs.History.{at}
use Rattle.ks_law_restore.specs.Views.{WorkView, names_part}
use Rattle.ks_history.specs.Machine.{TaskPlan}
use Rattle.ks_cluster.specs.View.{ClusterView, setup_of}
use Rattle.ks_commit.specs.declared.work.Frozen.{Frozen}
use Rattle.ks_commit.specs.declared.publisher.Publisher.{Publisher}
use Rattle.ks_commit.specs.Work.{work_view}
use Rattle.ks_commit.specs.Committed.{works_of, MayCommit, EachMay, tasks_in, names_in}
use Rattle.ks_task.specs.declared.task.Task.{Task}
use Rattle.ks_task.specs.Tasks.{task_view}
use Rattle.ks_settle.specs.Drained.{work_for, with_work, IsToldBy, IsTold, IsRead, ids, Rests, IsFull, AreWorks, AreReading, AreResting}

-- ---- one more work
for_push : (t : TaskId) (fs : List WorkView) (f : WorkView) → same_task t f.task ≡ false → work_for t (fs ++ f ∷ []) ≡ work_for t fs
for_push t [] f h = ap (λ b. cond b (Some f) None) h
for_push t (g ∷ fs) f h = ap (λ o. cond (same_task t g.task) (Some g) o) (for_push t fs f h)

for_own : (t : TaskId) (fs : List WorkView) (f : WorkView) → same_task t f.task ≡ true → work_for t fs ≡ None → work_for t (fs ++ f ∷ []) ≡ Some f
for_own t [] f h e = ap (λ b. cond b (Some f) None) h
for_own t (g ∷ fs) f h e = by (same_task t g.task) e (λ n. for_own t fs f h n)
  where
    by : (b : Bool) → cond b (Some g) (work_for t fs) ≡ None → (work_for t fs ≡ None → work_for t (fs ++ f ∷ []) ≡ Some f) → cond b (Some g) (work_for t (fs ++ f ∷ [])) ≡ Some f
    by true n more = absurd (cc)
    by false n more = more n

each_push : (setup : Setup) (s : State) (fs : List WorkView) (f : WorkView) → EachMay setup s fs → MayCommit setup s f → EachMay setup s (fs ++ f ∷ [])
each_push setup s [] f each may = (may, tt)
each_push setup s (g ∷ fs) f each may = (each.0, each_push setup s fs f each.1 may)

names_push : (q : PartId) (fs : List WorkView) (f : WorkView) → names_in q fs ≡ false → names_part q f.outputs ≡ false → names_in q (fs ++ f ∷ []) ≡ false
names_push q [] f a b = ap (λ x. x || false) b
names_push q (g ∷ fs) f a b = by (names_part q g.outputs) a (λ n. names_push q fs f n b)
  where
    by : (x : Bool) → (x || names_in q fs) ≡ false → (names_in q fs ≡ false → names_in q (fs ++ f ∷ []) ≡ false) → (x || names_in q (fs ++ f ∷ [])) ≡ false
    by true n more = absurd (true≢false n)
    by false n more = more n

symmetric : (t u : TaskId) → same_task t u ≡ false → same_task u t ≡ false
symmetric t u h = by (same_task u t) refl
  where
    by : (b : Bool) → same_task u t ≡ b → b ≡ false
    by true e = absurd (true≢false (sym ((same_task-is t u).1 (sym ((same_task-is u t).0 e))) ∙ h))
    by false e = refl

unnamed : (t : TaskId) (fs : List WorkView) → work_for t fs ≡ None → has_task t (tasks_in fs) ≡ false
unnamed t [] h = refl
unnamed t (g ∷ fs) h = by (same_task t g.task) h (λ n. unnamed t fs n)
  where
    by : (b : Bool) → cond b (Some g) (work_for t fs) ≡ None → (work_for t fs ≡ None → has_task t (tasks_in fs) ≡ false) → (b || has_task t (tasks_in fs)) ≡ false
    by true n more = absurd (cc)
    by false n more = more n

tasks_push : (fs : List WorkView) (f : WorkView) → tasks_in (fs ++ f ∷ []) ≡ tasks_in fs ++ f.task ∷ []
tasks_push [] f = refl
tasks_push (g ∷ fs) f = ap (λ l. g.task ∷ l) (tasks_push fs f)

has_push : (t u : TaskId) (ts : List TaskId) → has_task t ts ≡ false → same_task t u ≡ false → has_task t (ts ++ u ∷ []) ≡ false
has_push t u [] a b = ap (λ x. x || false) b
has_push t u (v ∷ ts) a b = by (same_task t v) a (λ n. has_push t u ts n b)
  where
    by : (x : Bool) → (x || has_task t ts) ≡ false → (has_task t ts ≡ false → has_task t (ts ++ u ∷ []) ≡ false) → (x || has_task t (ts ++ u ∷ [])) ≡ false
    by true n more = absurd (true≢false n)
    by false n more = more n

once_push : (ts : List TaskId) (u : TaskId) → are_once ts ≡ true → has_task u ts ≡ false → are_once (ts ++ u ∷ []) ≡ true
once_push [] u a b = refl
once_push (t ∷ ts) u a b = by (has_task t ts) refl a (same_task u t) refl b (λ x y. once_push ts u x y)
  where
    by : (x : Bool) → has_task t ts ≡ x → cond x false (are_once ts) ≡ true → (y : Bool) → same_task u t ≡ y → (y || has_task u ts) ≡ false → (are_once ts ≡ true → has_task u ts ≡ false → are_once (ts ++ u ∷ []) ≡ true) →
        cond (has_task t (ts ++ u ∷ [])) false (are_once (ts ++ u ∷ [])) ≡ true
    by true e n y f m more = absurd (true≢false (sym n))
    by false e n true f m more = absurd (true≢false m)
    by false e n false f m more = ap (λ z. cond z false (are_once (ts ++ u ∷ []))) (has_push t u ts e (symmetric u t f)) ∙ more n m

works_push : (setup : Setup) (journal : List Entry) (topic : ℕ) (fs : List WorkView) (f : WorkView) → AreWorks setup journal topic fs → work_for f.task fs ≡ None → MayCommit setup (at setup journal) f →
    ((q : PartId) → q.topic ≤ topic → names_part q f.outputs ≡ false) → AreWorks setup journal topic (fs ++ f ∷ [])
works_push setup journal topic fs f works none may later = record {
  may = each_push setup (at setup journal) fs f works.may may;
  apart = ap are_once (tasks_push fs f) ∙ once_push (tasks_in fs) f.task works.apart (unnamed f.task fs none);
  later = λ q h. names_push q fs f (works.later q h) (later q h);
}

-- ---- tasks have names of their own
pub has_at : (t : TaskId) (ts : List TaskId) (k : ℕ) (d : TaskId) → k < length ts → same_task t (get_or ts k d) ≡ true → has_task t ts ≡ true
has_at t [] k d lt h = absurd (omega (arith, lt))
has_at t (u ∷ ts) zero d lt h = ap (λ b. b || has_task t ts) h
has_at t (u ∷ ts) (suc k) d lt h = or_right (same_task t u) (has_task t ts) (has_at t ts k d (omega (arith, lt)) h)
  where
    or_right : (a b : Bool) → b ≡ true → (a || b) ≡ true
    or_right true b e = refl
    or_right false b e = e

once_apart : (ts : List TaskId) (i k : ℕ) (d : TaskId) → are_once ts ≡ true → i < length ts → k < length ts → same_task (get_or ts i d) (get_or ts k d) ≡ true → i ≡ k
once_apart [] i k d once a b h = absurd (omega (arith, a))
once_apart (t ∷ ts) zero zero d once a b h = refl
once_apart (t ∷ ts) zero (suc k) d once a b h = by (has_task t ts) refl once
  where
    by : (x : Bool) → has_task t ts ≡ x → cond x false (are_once ts) ≡ true → 0 ≡ suc k
    by true e n = absurd (true≢false (sym n))
    by false e n = absurd (true≢false (sym (has_at t ts k d (omega (arith, b)) h) ∙ e))
once_apart (t ∷ ts) (suc i) zero d once a b h = by (has_task t ts) refl once
  where
    by : (x : Bool) → has_task t ts ≡ x → cond x false (are_once ts) ≡ true → suc i ≡ 0
    by true e n = absurd (true≢false (sym n))
    by false e n =
        let same : get_or ts i d ≡ t = (same_task-is (get_or ts i d) t).0 h in
        absurd (true≢false (sym (has_at t ts i d (omega (arith, a)) ((same_task-is t (get_or ts i d)).1 (sym same))) ∙ e))
once_apart (t ∷ ts) (suc i) (suc k) d once a b h = by (has_task t ts) once (λ n. once_apart ts i k d n (omega (arith, a)) (omega (arith, b)) h)
  where
    by : (x : Bool) → cond x false (are_once ts) ≡ true → (are_once ts ≡ true → i ≡ k) → suc i ≡ suc k
    by true n more = absurd (true≢false (sym n))
    by false n more = ap suc (more n)

pub get_id : (ts : List Task) (k : ℕ) (d : Task) → get_or (ids ts) k (task_view d).task ≡ (task_view (get_or ts k d)).task
get_id [] k d = refl
get_id (t ∷ ts) zero d = refl
get_id (t ∷ ts) (suc k) d = get_id ts k d

pub set_id : (ts : List Task) (i : ℕ) (w : Task) (d : Task) → i < length ts → (task_view w).task ≡ (task_view (get_or ts i d)).task → ids (set ts i w) ≡ ids ts
set_id [] i w d lt e = absurd (omega (arith, lt))
set_id (t ∷ ts) zero w d lt e = ap (λ u. u ∷ ids ts) e
set_id (t ∷ ts) (suc i) w d lt e = ap (λ l. (task_view t).task ∷ l) (set_id ts i w d (omega (arith, lt)) e)

apart_ids : (setup : Setup) (ts : List Task) (i k : ℕ) (d : Task) → ids ts ≡ setup.tasks → are_once setup.tasks ≡ true → i < length ts → k < length ts → (i == k) ≡ false →
    same_task (task_view (get_or ts i d)).task (task_view (get_or ts k d)).task ≡ false
apart_ids setup ts i k d names once a b ne = by (same_task (task_view (get_or ts i d)).task (task_view (get_or ts k d)).task) refl
  where
    many : length (ids ts) ≡ length ts
    many = length-map ts (λ (t : Task). (task_view t).task)

    by : (x : Bool) → same_task (task_view (get_or ts i d)).task (task_view (get_or ts k d)).task ≡ x → x ≡ false
    by false e = refl
    by true e =
        let own : are_once (ids ts) ≡ true = ap are_once names ∙ once in
        let same : same_task (get_or (ids ts) i (task_view d).task) (get_or (ids ts) k (task_view d).task) ≡ true = ap (λ t. same_task t (get_or (ids ts) k (task_view d).task)) (get_id ts i d) ∙ ap (same_task (task_view (get_or ts i d)).task) (get_id ts k d) ∙ e in
        let eq : i ≡ k = once_apart (ids ts) i k (task_view d).task own (omega (arith, a, many)) (omega (arith, b, many)) same in
        absurd (eqb-false i k ne eq)

pub same_default : {A : Type 0} (xs : List A) (k : ℕ) (c d : A) → k < length xs → get_or xs k c ≡ get_or xs k d
same_default [] k c d h = absurd (omega (arith, h))
same_default (x ∷ xs) zero c d h = refl
same_default (x ∷ xs) (suc k) c d h = same_default xs k c d (omega (arith, h))

-- ---- one task more has read the topic
pub one_task_more : (draft : DraftView) (setup : Setup) (journal : List Entry) (topic i : ℕ) (ts : List Task) (fs : List WorkView) (o w : Task) (f : Option WorkView) → are_once setup.tasks ≡ true →
    AreReading draft setup journal topic i ts fs → i < length ts → o ≡ get_or ts i o → IsRead draft setup journal topic o w f → AreReading draft setup journal topic (i + 1) (set ts i w) (with_work fs f)
one_task_more draft setup journal topic i ts fs o w f once r lt at read = record {
  names = set_id ts i w o lt (read.task ∙ ap (λ (t : Task). (task_view t).task) at) ∙ r.names;
  full = λ k d low high. full k d high (k == i) refl;
  rest = λ k d low high. rest k d low (subst (λ n. k < n) (length-set ts i w) high);
  works = works f read none;
}
  where
    own : Rests draft setup journal topic o × (work_for (task_view o).task fs ≡ None)
    own = subst (λ (t : Task). Rests draft setup journal topic t × (work_for (task_view t).task fs ≡ None)) (sym at) (r.rest i o (omega arith) lt)

    none : work_for (task_view w).task fs ≡ None
    none = ap (λ t. work_for t fs) read.task ∙ own.1

    -- the work is the task's own
    named : (g : WorkView) → f ≡ Some g → g.task ≡ (task_view w).task
    named g e = (subst (IsToldBy setup.plan (task_view w)) e read.told).task

    other : (k : ℕ) (d : Task) → k < length ts → (k == i) ≡ false → same_task (task_view (get_or ts k d)).task (task_view w).task ≡ false
    other k d inside ne =
        ap (λ (t : Task). same_task (task_view t).task (task_view w).task) (same_default ts k d o inside) ∙ ap (same_task (task_view (get_or ts k o)).task) (read.task ∙ ap (λ (t : Task). (task_view t).task) at)
        ∙ apart_ids setup ts k i o r.names once inside lt ne

    still : (u : TaskId) → same_task u (task_view w).task ≡ false → (g : Option WorkView) → f ≡ g → work_for u (with_work fs g) ≡ work_for u fs
    still u h None e = refl
    still u h (Some g) e = for_push u fs g (ap (same_task u) (named g e) ∙ h)

    told : (g : Option WorkView) → f ≡ g → IsToldBy setup.plan (task_view w) g → IsTold setup.plan (with_work fs g) (task_view w)
    told None e h = subst (IsToldBy setup.plan (task_view w)) (sym none) h
    told (Some g) e h = subst (IsToldBy setup.plan (task_view w)) (sym (for_own (task_view w).task fs g ((same_task-is (task_view w).task g.task).1 (sym (named g e))) none)) h

    full : (k : ℕ) (d : Task) → k < i + 1 → (b : Bool) → (k == i) ≡ b → IsFull draft setup journal topic (with_work fs f) (get_or (set ts i w) k d)
    full k d high true e =
        let is : k ≡ i = eqb-true k i e in
        let here : get_or (set ts i w) k d ≡ w = ap (λ j. get_or (set ts i w) j d) is ∙ get_or-set_same ts i w d lt in
        subst (IsFull draft setup journal topic (with_work fs f)) (sym here) (read.of, read.filled, told f refl read.told)
    full k d high false e =
        let ne : (k ≡ i → ⊥) = eqb-false k i e in
        let there : get_or (set ts i w) k d ≡ get_or ts k d = get_or-set_other ts i k w d ne in
        let was : IsFull draft setup journal topic fs (get_or ts k d) = r.full k d (omega arith) (omega (arith, ne, high)) in
        let same : work_for (task_view (get_or ts k d)).task (with_work fs f) ≡ work_for (task_view (get_or ts k d)).task fs = still (task_view (get_or ts k d)).task (other k d (omega (arith, ne, high, lt)) e) f refl in
        subst (IsFull draft setup journal topic (with_work fs f)) (sym there) (was.0, was.1, subst (IsToldBy setup.plan (task_view (get_or ts k d))) (sym same) was.2)

    rest : (k : ℕ) (d : Task) → i + 1 ≤ k → k < length ts → Rests draft setup journal topic (get_or (set ts i w) k d) × (work_for (task_view (get_or (set ts i w) k d)).task (with_work fs f) ≡ None)
    rest k d low high =
        let ne : (k ≡ i → ⊥) = λ e. omega (arith, e, low) in
        let e : (k == i) ≡ false = ne_eqb k i ne in
        let there : get_or (set ts i w) k d ≡ get_or ts k d = get_or-set_other ts i k w d ne in
        let was = r.rest k d (omega (arith, low)) high in
        let same : work_for (task_view (get_or ts k d)).task (with_work fs f) ≡ work_for (task_view (get_or ts k d)).task fs = still (task_view (get_or ts k d)).task (other k d high e) f refl in
        subst (λ (t : Task). Rests draft setup journal topic t × (work_for (task_view t).task (with_work fs f) ≡ None)) (sym there) (was.0, same ∙ was.1)

    works : (g : Option WorkView) → IsRead draft setup journal topic o w g → work_for (task_view w).task fs ≡ None → AreWorks setup journal topic (with_work fs g)
    works None h n = r.works
    works (Some g) h n = works_push setup journal topic fs g r.works (ap (λ t. work_for t fs) h.told.task ∙ n) h.may h.later

-- ---- works as they are kept
works_push-of : (xs : List Frozen) (x : Frozen) → works_of (xs ++ x ∷ []) ≡ works_of xs ++ work_view x ∷ []
works_push-of [] x = refl
works_push-of (y ∷ xs) x = ap (λ l. work_view y ∷ l) (works_push-of xs x)

pub kept_one : (old new : List Frozen) (x : Frozen) (o : Option Frozen) → new ≡ old ++ x ∷ [] → o ≡ Some x → works_of new ≡ with_work (works_of old) (option_map work_view o)
kept_one old new x o e h = ap works_of e ∙ works_push-of old x ∙ ap (λ q. with_work (works_of old) (option_map work_view q)) (sym h)

-- ---- the start of a topic
pub begin_reading : {W : Type 0} (plan : W → TaskPlan) (c : ClusterView W) (publisher : Publisher) (d : DraftView) (topic : ℕ) (ts : List Task) → AreResting plan c publisher d topic ts → AreReading d (setup_of plan c) c.journal topic 0 ts []
begin_reading plan c publisher d topic ts r = record {
  names = r.names;
  full = λ k t low high. absurd (omega (arith, high));
  rest = λ k t low high. (r.rest k t high, refl);
  works = record { may = tt; apart = refl; later = λ q h. refl };
}

pub there_in : (names all : List TaskId) (i : ℕ) (d : TaskId) → i < length names → names ≡ all → has_task (get_or names i d) all ≡ true
there_in names all i d lt same = ap (has_task (get_or names i d)) (sym same) ∙ has_at (get_or names i d) names i d lt ((same_task-is (get_or names i d) (get_or names i d)).1 refl)
