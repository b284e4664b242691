-- From one topic to the next.
use Rattle.std.proofs.Common.{◌≡◌, ℕ, zero, suc, ◌||◌, ◌+◌, ◌<◌, ◌≤◌, Bool, true, false, List, [], ◌∷◌, length, get_or, map, refl, sym, ap, subst, ◌∙◌, arith}
use Rattle.std.specs.Prelude.{◌==◌, nat_lt}
use Rattle.std.specs.List.{All}
use Rattle.std.proofs.lemmas.Bool.{eqb-true, eqb-false, true≢false}
use Rattle.std.proofs.lemmas.List.{length-map}
use Rattle.ks_def_tasks.proofs.Names.{same_task-is}
use Rattle.std.proofs.lemmas.Bool.Decides.{nat_tests}
use Rattle.ks_record.specs.declared.record.TaskId.{TaskId}
use Rattle.ks_record.specs.Parts.{same_task}
use Rattle.ks_history.specs.declared.journal.Entry.{Entry}
use Rattle.ks_history.specs.Machine.{part_of, has_topic}
use Rattle.ks_history.specs.State.{Setup, has_task}
use Rattle.ks_commit.specs.Alone.{IsIdle}
use Rattle.ks_history.specs.Reads.{end_of}
use Rattle.ks_history.specs.Follows.{TaskView}
use Rattle.ks_history.specs.History.{at}
use Rattle.ks_history.specs.Settled.{IsSettled}
use Rattle.ks_law_restore.specs.Views.{Stands, fresh_view, committed_view}
use Rattle.ks_settle.specs.Reading.{IsClean, HasReadAll}
use Rattle.ks_settle.specs.Drained.{IsDrainedTo, IsFilledTo, IsTold, SameEnds}

neq : (u topic : ℕ) → u < topic → (u == topic) ≡ false
neq u topic h = grind (arith, nat_tests)

-- ---- filling one task
-- a task that doesn't read the topic
pub beside : (setup : Setup) (journal : List Entry) (topic : ℕ) (v : TaskView) → has_topic topic (setup.plan.inputs v.task.sub) ≡ false → IsDrainedTo setup journal topic v → IsFilledTo setup journal topic v
beside setup journal topic v apart d = record {
  stands = d.stands;
  known = d.known;
  kept = λ u e h. d.clean.kept u h;
  made = λ q h. d.clean.made q;
  drained = λ u le h. by u le h (u == topic) refl;
}
  where
    by : (u : ℕ) → u ≤ topic → has_topic u (setup.plan.inputs v.task.sub) ≡ true → (b : Bool) → (u == topic) ≡ b → v.inputs u ≡ end_of (at setup journal) (part_of u v.task)
    by u le h true e = let same : u ≡ topic = eqb-true u topic e in absurd (let at : has_topic topic (setup.plan.inputs v.task.sub) ≡ true = subst (λ x. has_topic x (setup.plan.inputs v.task.sub) ≡ true) same h in cc)
    by u le h false e = d.drained u (let ne : (u ≡ topic → ⊥) = eqb-false u topic e in omega (arith, le, ne)) h

-- one that has read all of it
pub filled : (setup : Setup) (journal : List Entry) (topic : ℕ) (v w : TaskView) → IsDrainedTo setup journal topic v → HasReadAll setup journal topic v w → IsFilledTo setup journal topic w
filled setup journal topic v w d r =
    let sub : w.task ≡ v.task = r.read.task in
    let inputs : (u : ℕ) → has_topic u (setup.plan.inputs w.task.sub) ≡ true → has_topic u (setup.plan.inputs v.task.sub) ≡ true = λ u h. subst (λ (t : TaskId). has_topic u (setup.plan.inputs t.sub) ≡ true) sub h in
    record {
      stands = r.read.stands;
      known = subst (λ (t : TaskId). has_task t setup.tasks ≡ true) (sym sub) d.known;
      kept = λ u e h. r.read.kept u ∙ d.clean.kept u (inputs u h) ∙ sym (r.read.others u e);
      made = λ q h. r.read.made q h ∙ d.clean.made q;
      drained = λ u le h. by u le (inputs u h) (u == topic) refl;
    }
  where
    by : (u : ℕ) → u ≤ topic → has_topic u (setup.plan.inputs v.task.sub) ≡ true → (b : Bool) → (u == topic) ≡ b → w.inputs u ≡ end_of (at setup journal) (part_of u w.task)
    by u le h true e = subst (λ x. w.inputs x ≡ end_of (at setup journal) (part_of x w.task)) (sym (eqb-true u topic e)) r.all
    by u le h false e =
        let ne : (u ≡ topic → ⊥) = eqb-false u topic e in
        r.read.others u e ∙ d.drained u (omega (arith, le, ne)) h ∙ ap (λ t. end_of (at setup journal) (part_of u t)) (sym r.read.task)

-- ---- after the commit
-- a task whose work was committed
pub committed_on : (setup : Setup) (journal more : List Entry) (topic : ℕ) (v : TaskView) (ends : List (ℕ × ℕ)) → IsFilledTo setup journal topic v → Stands setup more (committed_view v ends) →
    SameEnds (at setup journal) (at setup more) topic → IsDrainedTo setup more (topic + 1) (committed_view v ends)
committed_on setup journal more topic v ends f stands same = record {
  stands = stands;
  known = f.known;
  clean = record { kept = λ u h. refl; made = λ q. refl };
  drained = λ u lt h. f.drained u (omega (arith, lt)) h ∙ sym (same (part_of u v.task) (omega (arith, lt)));
}

-- one that held nothing
pub stood_on : (setup : Setup) (journal more : List Entry) (topic : ℕ) (v : TaskView) → IsFilledTo setup journal topic v → IsClean setup.plan v → Stands setup more v →
    SameEnds (at setup journal) (at setup more) topic → IsDrainedTo setup more (topic + 1) v
stood_on setup journal more topic v f clean stands same = record {
  stands = stands;
  known = f.known;
  clean = clean;
  drained = λ u lt h. f.drained u (omega (arith, lt)) h ∙ sym (same (part_of u v.task) (omega (arith, lt)));
}

-- where nothing was to be committed
pub quiet_on : (setup : Setup) (journal : List Entry) (topic : ℕ) (v : TaskView) → IsFilledTo setup journal topic v → IsTold setup.plan [] v → IsDrainedTo setup journal (topic + 1) v
quiet_on setup journal topic v f told = stood_on setup journal journal topic v f told f.stands (λ q h. refl)

-- ---- at the start and at the end
-- a task of a list stands at some place of it
task_at : (t : TaskId) (ts : List TaskId) → has_task t ts ≡ true → (k : ℕ) × (k < length ts) × ((d : TaskId) → get_or ts k d ≡ t)
task_at t [] h = absurd (true≢false (sym h))
task_at t (u ∷ us) h = by (same_task t u) refl h (λ g. task_at t us g)
  where
    by : (b : Bool) → same_task t u ≡ b → (b || has_task t us) ≡ true → (has_task t us ≡ true → (k : ℕ) × (k < length us) × ((d : TaskId) → get_or us k d ≡ t)) → (k : ℕ) × (k < suc (length us)) × ((d : TaskId) → get_or (u ∷ us) k d ≡ t)
    by true e h more = (0, omega arith, λ d. sym ((same_task-is t u).0 e))
    by false e h more = let m = more h in (suc (m.0), omega (arith, m.1), m.2)

-- a function of each of the elements
get_map : {A B : Type 0} (f : A → B) (xs : List A) (k : ℕ) (d : A) → get_or (map f xs) k (f d) ≡ f (get_or xs k d)
get_map f [] k d = refl
get_map f (x ∷ xs) zero d = refl
get_map f (x ∷ xs) (suc k) d = get_map f xs k d

-- where all inputs of all tasks were taken and committed, the cluster is settled
pub settled : (setup : Setup) (journal : List Entry) (n : ℕ) (vs : List TaskView) → ((t : TaskId) (topic : ℕ) → has_topic topic (setup.plan.inputs t.sub) ≡ true → topic < n) → map (λ v. v.task) vs ≡ setup.tasks →
    All (IsDrainedTo setup journal n) vs → IsIdle (at setup journal) → IsSettled setup (at setup journal)
settled setup journal n vs low names all idle = record {
  undecided = λ w le. (idle w).0;
  waiting = λ w le. (idle w).1;
  committed = λ t topic there input.
      let place = task_at t setup.tasks there in
      let k = place.0 in
      let inside : k < length vs = omega (arith, place.1, ap length names, length-map vs (λ (v : TaskView). v.task)) in
      let v = get_or vs k (fresh_view t) in
      let d : IsDrainedTo setup journal n v = all k (fresh_view t) inside in
      let is : v.task ≡ t = sym (get_map (λ v. v.task) vs k (fresh_view t)) ∙ ap (λ l. get_or l k t) names ∙ place.2 t in
      let input_of : has_topic topic (setup.plan.inputs v.task.sub) ≡ true = subst (λ (u : TaskId). has_topic topic (setup.plan.inputs u.sub) ≡ true) (sym is) input in
      let kept : v.kept topic ≡ (at setup journal).committed v.task topic = d.stands.0.kept topic input_of in
      ap (λ u. (at setup journal).committed u topic) (sym is) ∙ sym kept ∙ d.clean.kept topic input_of ∙ d.drained topic (low t topic input) input_of ∙ ap (λ u. end_of (at setup journal) (part_of topic u)) is;
}

-- up to a later topic, where no input of the task lies between
pub raised : (setup : Setup) (journal : List Entry) (m n : ℕ) (v : TaskView) → ((u : ℕ) → m ≤ u → u < n → has_topic u (setup.plan.inputs v.task.sub) ≡ true → ⊥) → IsDrainedTo setup journal m v → IsDrainedTo setup journal n v
raised setup journal m n v none d = record {
  stands = d.stands;
  known = d.known;
  clean = d.clean;
  drained = λ u lt h. by u lt h (nat_lt u m) refl;
}
  where
    by : (u : ℕ) → u < n → has_topic u (setup.plan.inputs v.task.sub) ≡ true → (b : Bool) → nat_lt u m ≡ b → v.inputs u ≡ end_of (at setup journal) (part_of u v.task)
    by u lt h true e = d.drained u (let g : u < m = grind (arith, nat_tests) in g) h
    by u lt h false e = absurd (none u (let g : m ≤ u = grind (arith, nat_tests) in g) lt h)
