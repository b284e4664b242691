-- A worker whose tasks read.
use Rattle.std.proofs.Common.{◌≡◌, ℕ, ◌+◌, ◌<◌, ◌≤◌, ◌%◌, true, false, List, [], ◌∷◌, ◌++◌, length, take, drop, get_or, set, refl, sym, ap, subst, ◌∙◌}
use Rattle.std.specs.List.{All}
use Rattle.std.proofs.lemmas.List.Elements.{All-cons, All-head, All-tail, All-get_or, All-set}
use Rattle.ks_record.specs.declared.record.PartId.{PartId}
use Rattle.ks_record.specs.declared.record.TaskId.{TaskId}
use Rattle.ks_record.specs.Parts.{same_task}
use Rattle.ks_plan.specs.Drafts.{DraftView}
use Rattle.ks_plan.specs.Plan.{plan_of}
use Rattle.ks_plan.specs.Infos.{input_numbers}
use Rattle.ks_history.specs.declared.journal.Entry.{Entry}
use Rattle.ks_history.specs.Machine.{TaskPlan, IsNetwork, has_topic}
use Rattle.ks_history.specs.State.{Setup}
use Rattle.ks_growing.specs.Passes.{PassView}
use Rattle.ks_shared.specs.declared.state.Frame.{Frame}
use Rattle.ks_shared.specs.Calls.{setup_in}
use Rattle.ks_standby.specs.declared.replica.Replica.{Replica}
use Rattle.ks_task.specs.declared.task.Task.{Task}
use Rattle.ks_task.specs.Tasks.{task_view}
use Rattle.ks_worker_client.specs.Calls.{Later}
use Rattle.ks_worker_client.specs.declared.member.Member.{Member}
use Rattle.ks_worker_client.proofs.Moments.{same_frame}
use Rattle.ks_worker_state.specs.Names.{replica_names, times}
use Rattle.ks_worker_state.specs.Tasks.{IsHeldTask}
use Rattle.ks_worker_state.specs.Topology.{RunsTopology}
use Rattle.ks_worker_state.specs.Worker.{IsWorker, IsNoneOf, HaveOwnNames}
use Rattle.ks_worker_state.proofs.Workers.{worker_later}
use Rattle.ks_worker_acts.specs.declared.places.InputPlace.{InputPlace}
use Rattle.ks_worker_acts.specs.Inputs.{AtPlace, IsInputAt, HaveReadOn, HaveReadAll, HasReadTo, MovesFirst, places_from, from_pick, HasLooked}
use Rattle.ks_worker_acts.proofs.InputPlaces.{place_within, place_is, all_inputs}
use Rattle.ks_worker_acts.proofs.Looks.{read_names, stops_round}

-- ---- at a place
pub input_within : (inputs : ℕ → List ℕ) (ts : List Task) (p : InputPlace) → IsInputAt inputs ts p → p.index < length ts
input_within inputs ts p h = place_within (λ t. has_topic p.topic (inputs (task_view t).task.sub) ≡ true) p.index ts h

pub input_is : (inputs : ℕ → List ℕ) (ts : List Task) (p : InputPlace) (t : Task) → IsInputAt inputs ts p → t ≡ get_or ts p.index t → has_topic p.topic (inputs (task_view t).task.sub) ≡ true
input_is inputs ts p t h is = subst (λ (u : Task). has_topic p.topic (inputs (task_view u).task.sub) ≡ true) (sym is) (place_is (λ t. has_topic p.topic (inputs (task_view t).task.sub) ≡ true) p.index ts t h)

pub held_at : (d : DraftView) (setup : Setup) (journal : List Entry) (m : Member) (last : ℕ) (ts : List Task) (i : ℕ) (t : Task) → i < length ts → t ≡ get_or ts i t → All (IsHeldTask d setup journal m last) ts → IsHeldTask d setup journal m last t
held_at d setup journal m last ts i t lt is all = subst (IsHeldTask d setup journal m last) (sym is) (All-get_or (IsHeldTask d setup journal m last) ts i t lt all)

-- ---- names
none_on : (t : TaskId) (xs ys : List Task) → HaveReadOn xs ys → IsNoneOf t xs → IsNoneOf t ys
none_on t [] [] r h = h
none_on t [] (y ∷ ys) r h = absurd r
none_on t (x ∷ xs) [] r h = absurd r
none_on t (x ∷ xs) (y ∷ ys) r h =
    All-cons (λ (o : Task). same_task t (task_view o).task ≡ false) y ys
    (subst (λ u. same_task t u ≡ false) (sym r.0.task) (All-head (λ (o : Task). same_task t (task_view o).task ≡ false) x xs h))
    (none_on t xs ys r.1 (All-tail (λ (o : Task). same_task t (task_view o).task ≡ false) x xs h))

names_on : (xs ys : List Task) → HaveReadOn xs ys → HaveOwnNames xs → HaveOwnNames ys
names_on [] [] r h = tt
names_on [] (y ∷ ys) r h = absurd r
names_on (x ∷ xs) [] r h = absurd r
names_on (x ∷ xs) (y ∷ ys) r h = (subst (λ u. IsNoneOf u ys) (sym r.0.task) (none_on (task_view x).task xs ys r.1 h.0), names_on xs ys r.1 h.1)

none_left : (xs ys : List Task) → HaveReadOn xs ys → xs ≡ [] → ys ≡ []
none_left [] [] r e = refl
none_left [] (y ∷ ys) r e = absurd r
none_left (x ∷ xs) ys r e = absurd cc

-- ---- a worker one of whose tasks read
module _ {W : Type 0} (plan : W → TaskPlan) (old new : PassView Entry (Frame W)) (l : Later plan old new) (net : IsNetwork (setup_in plan old.frame).plan) (d : DraftView) (m : Member) where
  pub read_worker : (last then_last : ℕ) (numbers then_numbers : List (PartId × ℕ)) (ts : List Task) (rs : List Replica) (i : ℕ) (t : Task) → HaveReadOn ts (set ts i t) →
      IsHeldTask d (setup_in plan old.frame) new.seen m last t → then_last ≡ last → then_numbers ≡ numbers → IsWorker plan d old m last numbers ts rs → IsWorker plan d new m then_last then_numbers (set ts i t) rs
  read_worker last then_last numbers then_numbers ts rs i t read held same_last same_numbers worker =
      let w : IsWorker plan d new m last numbers ts rs = worker_later plan old new l net d m last numbers ts rs worker in
      subst (λ n. IsWorker plan d new m then_last n (set ts i t) rs) (sym same_numbers)
      (subst (λ n. IsWorker plan d new m n numbers (set ts i t) rs) (sym same_last)
      (record {
        number = w.number;
        instance = w.instance;
        seen = w.seen;
        producer = w.producer;
        alone = λ e. none_left ts (set ts i t) read (w.alone e);
        names = names_on ts (set ts i t) read w.names;
        once = subst (λ (l : List TaskId). (u : TaskId) → times u l + times u (replica_names rs) ≤ 1) (sym (read_names ts (set ts i t) read)) w.once;
        tasks_are = All-set (IsHeldTask d (setup_in plan new.frame) new.seen m last) ts i t (subst (λ f. IsHeldTask d (setup_in plan f) new.seen m last t) (sym (same_frame plan old new l)) held) w.tasks_are;
        replicas_are = w.replicas_are;
      }))

-- ---- over the topology's own words
pub read_all : (hash : List ℕ → ℕ) (d : DraftView) (setup : Setup) (h : List Entry) (ts now : List Task) → RunsTopology hash d setup →
    HasLooked setup h false (places_from (input_numbers (plan_of d)) 0 ts) ts now → HaveReadAll setup h now
read_all hash d setup h ts now runs l =
    subst (λ (r : List Task). HaveReadAll setup h r) (sym (l.stays refl))
    (subst (λ (s : Setup). All (λ t. (u : ℕ) → has_topic u (s.plan.inputs (task_view t).task.sub) ≡ true → HasReadTo setup h u t) ts) (sym runs.setup_is)
    (all_inputs (λ u t. HasReadTo setup h u t) (input_numbers (plan_of d)) ts (l.stops refl)))

-- the same, where they were looked at from one on and round once
pub read_round_all : (hash : List ℕ → ℕ) (d : DraftView) (setup : Setup) (h : List Entry) (ts now : List Task) (places : List InputPlace) (k : ℕ) → RunsTopology hash d setup → places ≡ places_from (input_numbers (plan_of d)) 0 ts →
    HasLooked setup h false (drop k places ++ take k places) ts now → HaveReadAll setup h now
read_round_all hash d setup h ts now places k runs are l =
    subst (λ (r : List Task). HaveReadAll setup h r) (sym (l.stays refl))
    (subst (λ (s : Setup). All (λ t. (u : ℕ) → has_topic u (s.plan.inputs (task_view t).task.sub) ≡ true → HasReadTo setup h u t) ts) (sym runs.setup_is)
    (all_inputs (λ u t. HasReadTo setup h u t) (input_numbers (plan_of d)) ts
    (subst (λ (ps : List InputPlace). All (λ p. AtPlace (HasReadTo setup h p.topic) p.index ts) ps) are (stops_round setup h places k ts (l.stops refl)))))

-- they were looked at from the one on that the pick names
pub picked : (hash : List ℕ → ℕ) (d : DraftView) (setup : Setup) (h : List Entry) (ts now : List Task) (places : List InputPlace) (pick k : ℕ) → RunsTopology hash d setup → places ≡ places_from (input_numbers (plan_of d)) 0 ts → k ≡ pick % length places →
    MovesFirst setup h (drop k places ++ take k places) ts now → MovesFirst setup h (from_pick pick (places_from setup.plan.inputs 0 ts)) ts now
picked hash d setup h ts now places pick k runs are is m =
    let own : places ≡ places_from setup.plan.inputs 0 ts = are ∙ ap (λ (s : Setup). places_from s.plan.inputs 0 ts) (sym runs.setup_is) in
    subst (λ ps. MovesFirst setup h (from_pick pick ps) ts now) own (subst (λ n. MovesFirst setup h (drop n places ++ take n places) ts now) is m)

-- the input at a place of the list is one of the tasks as they stand, where these are as before
pub input_at : (inputs : ℕ → List ℕ) (before now : List Task) (ps : List InputPlace) (i : ℕ) (p : InputPlace) → i < length ps → now ≡ before → All (IsInputAt inputs before) ps → IsInputAt inputs now (get_or ps i p)
input_at inputs before now ps i p lt same all = subst (λ ts. IsInputAt inputs ts (get_or ps i p)) (sym same) (All-get_or (IsInputAt inputs before) ps i p lt all)
