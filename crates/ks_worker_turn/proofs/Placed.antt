-- What a worker keeps while it takes its places.
use Rattle.std.proofs.Common.{◌≡◌, ◌≤◌, ◌<◌, ℕ, zero, suc, ◌+◌, ◌||◌, Bool, true, false, List, [], ◌∷◌, length, Option, Some, None, Result, Ok, Err, refl, sym, ap, subst, ◌∙◌, arith}
use Rattle.std.specs.Prelude.{OnOk, IfOk, IfErr, IfSome, IsNone, slice_index_or}
use Rattle.std.specs.List.{All}
use Rattle.std.proofs.lemmas.List.Elements.{All-nil}
use Rattle.std.proofs.lemmas.Bool.{true≢false}
use Rattle.ks_record.specs.declared.record.PartId.{PartId}
use Rattle.ks_record.specs.declared.record.TaskId.{TaskId}
use Rattle.ks_record.specs.Parts.{same_task}
use Rattle.ks_plan.specs.Drafts.{DraftView}
use Rattle.ks_plan.specs.Plan.{plan_of}
use Rattle.ks_plan.specs.Layout.{tasks}
use Rattle.ks_plan.specs.Infos.{changelog_numbers}
use Rattle.ks_history.specs.declared.journal.Entry.{Entry}
use Rattle.ks_history.specs.Machine.{TaskPlan, IsNetwork}
use Rattle.ks_history.specs.State.{Setup, has_task}
use Rattle.ks_history.specs.History.{at}
use Rattle.ks_history.specs.Follows.{ReplicaView, ReplicaFollows}
use Rattle.ks_history.proofs.Names.{same_task-refl, same_task-is}
use Rattle.ks_law_restore.specs.Replicas.{fresh_replica}
use Rattle.ks_law_restore.proofs.Replicas.{replica_starts}
use Rattle.ks_law_sharing.specs.Tasks.{HasSeen}
use Rattle.ks_law_sharing.proofs.Touching.{seen_stays}
use Rattle.ks_growing.specs.Passes.{PassView}
use Rattle.ks_shared.specs.declared.state.Frame.{Frame}
use Rattle.ks_shared.specs.Calls.{setup_in}
use Rattle.ks_shared.specs.Shelf.{IsReplicaOf}
use Rattle.ks_standby.specs.declared.replica.Replica.{Replica}
use Rattle.ks_standby.specs.Replicas.{replica_view, changelogs_of}
use Rattle.ks_task.specs.declared.task.Task.{Task}
use Rattle.ks_task.specs.Tasks.{task_view}
use Rattle.ks_worker_client.specs.declared.member.Member.{Member}
use Rattle.ks_worker_client.specs.declared.halt.Halt.{Halt}
use Rattle.ks_worker_client.specs.Turns.{with_halt}
use Rattle.ks_worker_client.specs.Calls.{Later, state_seen}
use Rattle.ks_worker_client.proofs.Moments.{same_frame}
use Rattle.ks_worker_state.specs.Standbys.{IsStandby}
use Rattle.ks_worker_state.specs.Tasks.{IsHeldTask}
use Rattle.ks_worker_state.specs.Topology.{RunsTopology}
use Rattle.ks_worker_state.specs.Worker.{IsWorker}
use Rattle.ks_worker_state.specs.Names.{task_names, replica_names, times, AreHeldOnce}
use Rattle.ks_worker_state.proofs.Names.{times-none}
use Rattle.ks_worker_state.proofs.Workers.{worker_later}
use Rattle.ks_worker_turn.specs.Lists.{HasPut, HasTaken}
use Rattle.ks_worker_turn.proofs.Holding.{replicas_put, replicas_taken, tasks_put, times_same, times_other}
use Rattle.ks_worker_turn.proofs.Listing.{all_put, all_taken, one_taken, names_put, none_of}

-- what holds whatever was answered
pub where_ok : {A E P : Type 0} (r : Result A E) → P → OnOk r P
where_ok (Ok x) p = p
where_ok (Err e) p = tt

-- what follows from an answer
pub ok_then : {A E Q : Type 0} (r : Result A E) (P : A → Type 0) → ((x : A) → P x → Q) → IfOk r P → OnOk r Q
ok_then (Ok x) P f h = f x h
ok_then (Err e) P f h = tt

pub if_ok_with : {A E : Type 0} {P : A → Type 0} (r : Result A E) → ((x : A) → P x) → IfOk r P
if_ok_with (Ok x) f = f x
if_ok_with (Err e) f = tt

pub ok_both : {A E P Q R : Type 0} (r : Result A E) → (P → Q → R) → OnOk r P → OnOk r Q → OnOk r R
ok_both (Ok x) f p q = f p q
ok_both (Err e) f p q = tt

pub ok_three : {A E P Q R S : Type 0} (r : Result A E) → (P → Q → R → S) → OnOk r P → OnOk r Q → OnOk r R → OnOk r S
ok_three (Ok x) f p q k = f p q k
ok_three (Err e) f p q k = tt

pub ok_four : {A E P Q R S T : Type 0} (r : Result A E) → (P → Q → R → S → T) → OnOk r P → OnOk r Q → OnOk r R → OnOk r S → OnOk r T
ok_four (Ok x) f p q k l = f p q k l
ok_four (Err e) f p q k l = tt

-- with one more name, which none has
once_more : (ts : List Task) (rs : List Replica) (t : TaskId) → AreHeldOnce ts rs → has_task t (task_names ts) ≡ false → has_task t (replica_names rs) ≡ false → (u : TaskId) →
    times u (t ∷ []) + (times u (task_names ts) + times u (replica_names rs)) ≤ 1
once_more ts rs t once none apart u = by (same_task u t) refl
  where
    by : (b : Bool) → same_task u t ≡ b → times u (t ∷ []) + (times u (task_names ts) + times u (replica_names rs)) ≤ 1
    by true e =
        let one = times-none u (task_names ts) (ap (λ v. has_task v (task_names ts)) (same_task-is u t e) ∙ none) in
        let two = times-none u (replica_names rs) (ap (λ v. has_task v (replica_names rs)) (same_task-is u t e) ∙ apart) in
        omega (arith, times_same u t e, one, two)
    by false e = omega (arith, times_other u t e, once u)

-- ---- other lists, at the same moment
module _ {W : Type 0} (plan : W → TaskPlan) (d : DraftView) (pass : PassView Entry (Frame W)) (m : Member) (last : ℕ) (numbers : List (PartId × ℕ)) where
  pub with_replicas : (ts : List Task) (rs new : List Replica) → AreHeldOnce ts new → All (IsStandby (setup_in plan pass.frame) pass.seen) new → IsWorker plan d pass m last numbers ts rs → IsWorker plan d pass m last numbers ts new
  with_replicas ts rs new once all w = record {
    number = w.number;
    instance = w.instance;
    seen = w.seen;
    producer = w.producer;
    alone = w.alone;
    names = w.names;
    once = once;
    tasks_are = w.tasks_are;
    replicas_are = all;
  }

  pub without_one : (ts : List Task) (rs new : List Replica) (r : Replica) → HasTaken rs r new → IsWorker plan d pass m last numbers ts rs → IsWorker plan d pass m last numbers ts new
  without_one ts rs new r taken w = with_replicas ts rs new (λ u. omega (arith, w.once u, replicas_taken u rs new r taken)) (all_taken (IsStandby (setup_in plan pass.frame) pass.seen) rs new r taken w.replicas_are) w

  pub its_standby : (ts : List Task) (rs new : List Replica) (r : Replica) → HasTaken rs r new → IsWorker plan d pass m last numbers ts rs → IsStandby (setup_in plan pass.frame) pass.seen r
  its_standby ts rs new r taken w = one_taken (IsStandby (setup_in plan pass.frame) pass.seen) rs new r taken w.replicas_are

  pub with_one : (ts : List Task) (rs new : List Replica) (r : Replica) → has_task r.id (task_names ts) ≡ false → has_task r.id (replica_names rs) ≡ false → IsStandby (setup_in plan pass.frame) pass.seen r → HasPut rs r new → IsWorker plan d pass m last numbers ts rs → IsWorker plan d pass m last numbers ts new
  with_one ts rs new r none apart standby put w =
      with_replicas ts rs new (λ u. omega (arith, once_more ts rs r.id w.once none apart u, replicas_put u rs new r put)) (all_put (IsStandby (setup_in plan pass.frame) pass.seen) rs new r put w.replicas_are standby) w

  pub with_task : (ts new : List Task) (rs : List Replica) (t : Task) (r : Replica) → m.is_member ≡ true → (task_view t).task ≡ r.id → has_task r.id (task_names ts) ≡ false → has_task r.id (replica_names rs) ≡ false → IsHeldTask d (setup_in plan pass.frame) pass.seen m last t → HasPut ts t new →
      IsWorker plan d pass m last numbers ts rs → IsWorker plan d pass m last numbers new rs
  with_task ts new rs t r inside named none apart held put w = record {
    number = w.number;
    instance = w.instance;
    seen = w.seen;
    producer = w.producer;
    alone = λ out. absurd (true≢false (sym inside ∙ out));
    names = names_put ts new t put w.names (none_of (task_view t).task ts (subst (λ u. has_task u (task_names ts) ≡ false) (sym named) none));
    once = λ u.
        let name : times u ((task_view t).task ∷ []) ≡ times u (r.id ∷ []) = ap (λ n. times u (n ∷ [])) named in
        omega (arith, once_more ts rs r.id w.once none apart u, tasks_put u ts new t put, name);
    tasks_are = all_put (IsHeldTask d (setup_in plan pass.frame) pass.seen m last) ts new t put w.tasks_are held;
    replicas_are = w.replicas_are;
  }

  -- a newer generation, which the pass has seen
  pub in_generation : (g : ℕ) (ts : List Task) (rs : List Replica) → g ≤ (at (setup_in plan pass.frame) pass.seen).generation → ts ≡ [] → IsWorker plan d pass m last numbers ts rs →
      IsWorker plan d pass (record m { generation = g }) last numbers ts rs
  in_generation g ts rs seen none w = record {
    number = w.number;
    instance = w.instance;
    seen = record { generation = seen; place = w.seen.place };
    producer = record { past = w.producer.past; idle = w.producer.idle; numbered = w.producer.numbered };
    alone = w.alone;
    names = w.names;
    once = w.once;
    tasks_are = subst (All (IsHeldTask d (setup_in plan pass.frame) pass.seen (record m { generation = g }) last)) (sym none) (All-nil (IsHeldTask d (setup_in plan pass.frame) pass.seen (record m { generation = g }) last));
    replicas_are = w.replicas_are;
  }

-- ---- at a later moment, when a task was restored or not
module _ {W : Type 0} (plan : W → TaskPlan) (d : DraftView) (old new : PassView Entry (Frame W)) (l : Later plan old new) (net : IsNetwork (setup_in plan old.frame).plan) (m : Member) (last now : ℕ) (numbers sent : List (PartId × ℕ)) (same : now ≡ last) (equal : sent ≡ numbers) where
  pub worker_moved : (ts : List Task) (rs : List Replica) → IsWorker plan d old m last numbers ts rs → IsWorker plan d new m now sent ts rs
  worker_moved ts rs w = subst (λ n. IsWorker plan d new m n sent ts rs) (sym same) (subst (λ n. IsWorker plan d new m last n ts rs) (sym equal) (worker_later plan old new l net d m last numbers ts rs w))

  pub activated : (ts left : List Task) (rs : List Replica) (t : Task) (r : Replica) → m.is_member ≡ true → (task_view t).task ≡ r.id → has_task r.id (task_names ts) ≡ false → has_task r.id (replica_names rs) ≡ false → IsHeldTask d (setup_in plan old.frame) new.seen m last t →
      IsWorker plan d old m last numbers ts rs → HasPut ts t left → IsWorker plan d new m now sent left rs
  activated ts left rs t r inside named none apart held w put =
      with_task plan d new m now sent ts left rs t r inside named none apart
      (subst (λ f. IsHeldTask d (setup_in plan f) new.seen m now t) (sym (same_frame plan old new l)) (subst (λ n. IsHeldTask d (setup_in plan old.frame) new.seen m n t) (sym same) held)) put (worker_moved ts rs w)

  pub kept_back : (ts : List Task) (rs left : List Replica) (r : Replica) → has_task r.id (task_names ts) ≡ false → has_task r.id (replica_names rs) ≡ false → IsStandby (setup_in plan old.frame) new.seen r → IsWorker plan d old m last numbers ts rs → HasPut rs r left → IsWorker plan d new m now sent ts left
  kept_back ts rs left r none apart standby w put =
      with_one plan d new m now sent ts rs left r none apart (subst (λ f. IsStandby (setup_in plan f) new.seen r) (sym (same_frame plan old new l)) standby) put (worker_moved ts rs w)

-- want of memory, as what ends the turn
pub halted_ok : {A E P Q : Type 0} (q : Result A Halt) (r : Result A E) → q ≡ with_halt r → (P → Q) → OnOk r P → OnOk q Q
halted_ok {A = A} {E = E} {P = P} {Q = Q} q r is f h = subst (λ a. OnOk a Q) (sym is) (by r h)
  where
    by : (a : Result A E) → OnOk a P → OnOk (with_halt a) Q
    by (Ok x) p = f p
    by (Err e) p = tt

-- what an answer says that was given
pub some_said : {A : Type 0} (o : Option A) (x : A) (P : A → Type 0) → o ≡ Some x → IfSome o P → P x
some_said o x P is h = subst (λ q. IfSome q P) is h

pub err_said : {A E : Type 0} (r : Result A E) (x : E) (P : E → Type 0) → r ≡ Err x → IfErr r P → P x
err_said r x P is h = subst (λ q. IfErr q P) is h

pub none_said : {A P : Type 0} (o : Option A) → o ≡ None → (IsNone o → P) → P
none_said None e f = f refl
none_said (Some x) e f = absurd cc

-- a name that isn't there, under its other name
pub named_as : (t u : TaskId) (names : List TaskId) → u ≡ t → has_task t names ≡ false → has_task u names ≡ false
named_as t u names same none = ap (λ v. has_task v names) same ∙ none

-- a test of the tasks that were looked through
pub named_tasks : (t : TaskId) (seen ts : List Task) {b : Bool} → seen ≡ ts → has_task t (task_names seen) ≡ b → has_task t (task_names ts) ≡ b
named_tasks t seen ts {b = b} is h = subst (λ l. has_task t (task_names l) ≡ b) is h

-- no task has the replica's name
pub unnamed : (t u : TaskId) (seen old new : List Task) → u ≡ t → seen ≡ old → new ≡ old → has_task t (task_names seen) ≡ false → has_task u (task_names new) ≡ false
unnamed t u seen old new named is same none =
    subst (λ (v : TaskId). has_task v (task_names new) ≡ false) (sym named) (subst (λ l. has_task t (task_names l) ≡ false) (is ∙ sym same) none)

-- the setup is the same
pub at_frame : {W : Type 0} (plan : W → TaskPlan) (old new : PassView Entry (Frame W)) (journal : List Entry) (r : Replica) → Later plan old new → IsStandby (setup_in plan old.frame) journal r → IsStandby (setup_in plan new.frame) journal r
at_frame plan old new journal r l standby = subst (λ f. IsStandby (setup_in plan f) journal r) (sym (same_frame plan old new l)) standby

-- a generation of the past is one later
pub generation_later : {W : Type 0} (plan : W → TaskPlan) (old new : PassView Entry (Frame W)) (g : ℕ) → Later plan old new → g ≤ (state_seen plan old).generation → g ≤ (state_seen plan new).generation
generation_later plan old new g l past =
    let setup = setup_in plan old.frame in
    let was : HasSeen setup old.seen 0 g 0 = record { generation = past; place = omega arith } in
    subst (λ f. g ≤ (at (setup_in plan f) new.seen).generation) (sym (same_frame plan old new l))
    (subst (λ j. g ≤ (at setup j).generation) (sym l.seen) (seen_stays setup old.seen l.more 0 g 0 was).generation)

-- ---- the tasks of a topology are the cluster's
has_at : (ts : List TaskId) (i : ℕ) (d : TaskId) → i < length ts → has_task (slice_index_or ts i d) ts ≡ true
has_at [] i d lt = absurd (omega (arith, lt))
has_at (t ∷ ts) zero d lt = ap (λ b. b || has_task t ts) (same_task-refl t)
has_at (t ∷ ts) (suc i) d lt = or_right (same_task (slice_index_or ts i d) t) (has_task (slice_index_or ts i d) ts) (has_at ts i d (omega (arith, lt)))
  where
    or_right : (a b : Bool) → b ≡ true → (a || b) ≡ true
    or_right true b e = refl
    or_right false b e = e

pub known_at : (hash : List ℕ → ℕ) (draft : DraftView) (setup : Setup) (ts : List TaskId) (i : ℕ) (d : TaskId) → RunsTopology hash draft setup → ts ≡ tasks (plan_of draft) → i < length ts →
    has_task (slice_index_or ts i d) setup.tasks ≡ true
known_at hash draft setup ts i d runs are lt =
    let same : ts ≡ setup.tasks = are ∙ sym (ap (λ (s : Setup). s.tasks) runs.setup_is) in
    subst (λ l. has_task (slice_index_or ts i d) l ≡ true) same (has_at ts i d lt)

pub known_later : {W : Type 0} (plan : W → TaskPlan) (hash : List ℕ → ℕ) (draft : DraftView) (old new : PassView Entry (Frame W)) (ts : List TaskId) (i : ℕ) (d : TaskId) → Later plan old new → RunsTopology hash draft (setup_in plan old.frame) →
    ts ≡ tasks (plan_of draft) → i < length ts → has_task (slice_index_or ts i d) (setup_in plan new.frame).tasks ≡ true
known_later plan hash draft old new ts i d l runs are lt =
    subst (λ f. has_task (slice_index_or ts i d) (setup_in plan f).tasks ≡ true) (sym (same_frame plan old new l)) (known_at hash draft (setup_in plan old.frame) ts i d runs are lt)

-- ---- an empty replica follows whatever was written
pub fresh_standby : (hash : List ℕ → ℕ) (draft : DraftView) (setup : Setup) (journal : List Entry) (t : TaskId) (r : Replica) (topics : List ℕ) → RunsTopology hash draft setup → has_task t setup.tasks ≡ true →
    replica_view r ≡ fresh_replica t → changelogs_of r ≡ topics → topics ≡ changelog_numbers (plan_of draft) t.sub → IsStandby setup journal r
fresh_standby hash draft setup journal t r topics runs there view own are =
    let named : r.id ≡ t = ap (λ (v : ReplicaView). v.task) view in
    record {
      known = subst (λ u. has_task u setup.tasks ≡ true) (sym named) there;
      replica = record {
        task = refl;
        changelogs = own ∙ are ∙ sym (ap (λ (s : Setup). s.plan.changelogs t.sub) runs.setup_is) ∙ ap (λ (u : TaskId). setup.plan.changelogs u.sub) (sym named);
        follows = subst (ReplicaFollows setup journal) (sym view) (replica_starts setup journal t);
      };
    }

module _ {E : Type 0} (r : Result Replica E) (q : Result Replica Halt) (is : q ≡ with_halt r) where
  pub fresh_ok : (hash : List ℕ → ℕ) (draft : DraftView) (setup : Setup) (journal : List Entry) (t : TaskId) (topics : List ℕ) → RunsTopology hash draft setup → has_task t setup.tasks ≡ true →
      IfOk r (λ x. replica_view x ≡ fresh_replica t) → IfOk r (λ x. changelogs_of x ≡ topics) → topics ≡ changelog_numbers (plan_of draft) t.sub → IfOk q (IsStandby setup journal)
  fresh_ok hash draft setup journal t topics runs there view own are = subst (λ a. IfOk a (IsStandby setup journal)) (sym is) (by r view own)
    where
      by : (a : Result Replica E) → IfOk a (λ x. replica_view x ≡ fresh_replica t) → IfOk a (λ x. changelogs_of x ≡ topics) → IfOk (with_halt a) (IsStandby setup journal)
      by (Ok x) v o = fresh_standby hash draft setup journal t x topics runs there v o are
      by (Err e) v o = tt

  pub fresh_named : (t : TaskId) → IfOk r (λ x. replica_view x ≡ fresh_replica t) → IfOk q (λ x. x.id ≡ t)
  fresh_named t view = subst (λ a. IfOk a (λ (x : Replica). x.id ≡ t)) (sym is) (by r view)
    where
      by : (a : Result Replica E) → IfOk a (λ x. replica_view x ≡ fresh_replica t) → IfOk (with_halt a) (λ (x : Replica). x.id ≡ t)
      by (Ok x) v = ap (λ (u : ReplicaView). u.task) v
      by (Err e) v = tt

-- a parked replica of the task
pub parked_standby : (setup : Setup) (journal : List Entry) (t : TaskId) (r : Replica) → has_task t setup.tasks ≡ true → IsReplicaOf setup journal t r → IsStandby setup journal r
parked_standby setup journal t r there h = record {
  known = subst (λ u. has_task u setup.tasks ≡ true) (sym h.task) there;
  replica = record { task = refl; changelogs = h.changelogs; follows = h.follows };
}
