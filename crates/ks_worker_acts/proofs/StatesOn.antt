-- A worker's state from call to call of an act.
use Rattle.std.proofs.Common.{◌≡◌, ℕ, suc, ◌+◌, ◌<◌, true, false, ◌&&◌, Bool, List, [], ◌∷◌, ◌++◌, length, take, drop, get_or, refl, sym, ap, ap₂, subst, ◌∙◌, arith, add-one}
use Rattle.std.specs.Prelude.{◌==◌}
use Rattle.std.proofs.lemmas.Bool.{eqb-true}
use Rattle.std.proofs.Math.Seq.{take-suc}
use Rattle.std.proofs.lemmas.List.{take-append-drop}
use Rattle.std.specs.List.{All, filter}
use Rattle.std.proofs.lemmas.List.Elements.{All-nil, All-head, All-tail}
use Rattle.ks_record.specs.declared.record.PartId.{PartId}
use Rattle.ks_record.specs.declared.record.TaskId.{TaskId}
use Rattle.ks_plan.specs.Drafts.{DraftView}
use Rattle.ks_history.specs.declared.journal.Entry.{Entry}
use Rattle.ks_history.specs.Machine.{TaskPlan, IsNetwork}
use Rattle.ks_history.specs.State.{Setup, has_task}
use Rattle.ks_history.specs.History.{are_tasks, IsHistory}
use Rattle.ks_growing.specs.Passes.{PassView}
use Rattle.ks_shared.specs.declared.state.Frame.{Frame}
use Rattle.ks_shared.specs.Calls.{setup_in}
use Rattle.ks_standby.specs.declared.replica.Replica.{Replica}
use Rattle.ks_task.specs.declared.task.Task.{Task}
use Rattle.ks_worker_client.specs.Calls.{Later}
use Rattle.ks_worker_client.specs.declared.member.Member.{Member}
use Rattle.ks_worker_client.specs.Members.{MemberHasSeen}
use Rattle.ks_worker_client.proofs.Moments.{same_frame}
use Rattle.ks_worker_state.specs.declared.state.WorkerState.{WorkerState}
use Rattle.ks_worker_state.specs.State.{KnowsTheSame, task_names, replica_names}
use Rattle.ks_worker_state.specs.Topology.{RunsTopology}
use Rattle.ks_worker_state.specs.Worker.{IsWorker}
use Rattle.ks_worker_state.proofs.Producers.{nothing_known}
use Rattle.ks_worker_state.proofs.Workers.{seen_later, standbys_later}
use Rattle.ks_worker_state.specs.Standbys.{IsStandby}
use Rattle.ks_worker_state.specs.Tasks.{IsHeldTask}
use Rattle.ks_worker_acts.specs.declared.places.InputPlace.{InputPlace}
use Rattle.ks_worker_acts.specs.Inputs.{HasLooked}
use Rattle.ks_worker_acts.specs.Telling.{is_clean_task, outside, RestsOnto, task_positions, replica_positions, positions_held}
use Rattle.ks_worker_acts.proofs.Looks.{looked_then, looked_moved}

module _ {W G : Type 0} where
  pub knows_same : (s : WorkerState W G) → KnowsTheSame s s
  knows_same s = record { member = refl; last = refl; numbers = refl }

  pub knows_twice : (old mid new : WorkerState W G) → KnowsTheSame old mid → KnowsTheSame mid new → KnowsTheSame old new
  knows_twice old mid new f g = record { member = g.member ∙ f.member; last = g.last ∙ f.last; numbers = g.numbers ∙ f.numbers }

module _ {W : Type 0} (plan : W → TaskPlan) (old mid : PassView Entry (Frame W)) (l : Later plan old mid) where
  pub net_later : IsNetwork (setup_in plan old.frame).plan → IsNetwork (setup_in plan mid.frame).plan
  net_later net = subst (λ f. IsNetwork (setup_in plan f).plan) (sym (same_frame plan old mid l)) net

  module _ (net : IsNetwork (setup_in plan old.frame).plan) (xs ys : List InputPlace) (a b c : List Task) where
    -- what was looked at later, too
    pub looked_on : {moved : Bool} → HasLooked (setup_in plan old.frame) old.seen false xs a b → HasLooked (setup_in plan mid.frame) mid.seen moved ys b c → HasLooked (setup_in plan old.frame) old.seen moved (xs ++ ys) a c
    looked_on {moved} f g =
        looked_then (setup_in plan old.frame) old.seen l.more net l.history moved xs ys a b c f
        (subst (λ j. HasLooked (setup_in plan old.frame) j moved ys b c) l.seen (subst (λ k. HasLooked (setup_in plan k) mid.seen moved ys b c) (same_frame plan old mid l) g))

  -- a place more was looked at, and nothing moved
  pub looked_next : (net : IsNetwork (setup_in plan old.frame).plan) (i : ℕ) (p : InputPlace) (ps : List InputPlace) (a b c : List Task) (moved : Bool) → i < length ps → moved ≡ false →
      HasLooked (setup_in plan old.frame) old.seen false (take i ps) a b → HasLooked (setup_in plan mid.frame) mid.seen moved (get_or ps i p ∷ []) b c → HasLooked (setup_in plan old.frame) old.seen false (take (i + 1) ps) a c
  looked_next net i p ps a b c moved lt none f g =
      subst (λ l. HasLooked (setup_in plan old.frame) old.seen false l a c) (sym (take-suc ps i p lt) ∙ ap (λ k. take k ps) (sym (add-one i)))
      (looked_on net (take i ps) (get_or ps i p ∷ []) a b c f (subst (λ m. HasLooked (setup_in plan mid.frame) mid.seen m (get_or ps i p ∷ []) b c) none g))

  -- a place more was looked at, and its task moved
  pub looked_found : (net : IsNetwork (setup_in plan old.frame).plan) (i : ℕ) (p : InputPlace) (ps : List InputPlace) (a b c : List Task) (moved : Bool) → i < length ps → moved ≡ true →
      HasLooked (setup_in plan old.frame) old.seen false (take i ps) a b → HasLooked (setup_in plan mid.frame) mid.seen moved (get_or ps i p ∷ []) b c → HasLooked (setup_in plan old.frame) old.seen true ps a c
  looked_found net i p ps a b c moved lt found f g =
      subst (λ l. HasLooked (setup_in plan old.frame) old.seen true l a c) (take-append-drop (suc i) ps)
      (looked_moved (setup_in plan old.frame) old.seen (take (suc i) ps) (drop (suc i) ps) a c
      (subst (λ l. HasLooked (setup_in plan old.frame) old.seen true l a c) (sym (take-suc ps i p lt))
      (looked_on net (take i ps) (get_or ps i p ∷ []) a b c f (subst (λ m. HasLooked (setup_in plan mid.frame) mid.seen m (get_or ps i p ∷ []) b c) found g))))

  -- the places behind one were looked at, and then those before it
  pub looked_back : (net : IsNetwork (setup_in plan old.frame).plan) (ps back front : List InputPlace) (k : ℕ) (a b c : List Task) (first moved : Bool) → back ≡ drop k ps → front ≡ take k ps → first ≡ false →
      HasLooked (setup_in plan old.frame) old.seen first back a b → HasLooked (setup_in plan mid.frame) mid.seen moved front b c → HasLooked (setup_in plan old.frame) old.seen moved (drop k ps ++ take k ps) a c
  looked_back net ps back front k a b c first moved is_back is_front none f g =
      subst (λ l. HasLooked (setup_in plan old.frame) old.seen moved l a c) (ap₂ (λ (x y : List InputPlace). x ++ y) is_back is_front)
      (looked_on net back front a b c (subst (λ m. HasLooked (setup_in plan old.frame) old.seen m back a b) none f) g)

-- the places behind one were looked at, and a task moved there
pub looked_behind : (setup : Setup) (h : List Entry) (ps back : List InputPlace) (k : ℕ) (a b : List Task) (first : Bool) → back ≡ drop k ps → first ≡ true → HasLooked setup h first back a b → HasLooked setup h true (drop k ps ++ take k ps) a b
looked_behind setup h ps back k a b first is found f =
    looked_moved setup h (drop k ps) (take k ps) a b (subst (λ l. HasLooked setup h true l a b) is (subst (λ m. HasLooked setup h m back a b) found f))

-- no place
pub none_there : (xs : List InputPlace) → (length xs == 0) ≡ true → [] ≡ xs
none_there [] h = refl
none_there (x ∷ xs) h = absurd (omega (arith, eqb-true (length (x ∷ xs)) 0 h))

-- ---- the tasks whose positions are told are the cluster's
tasks_append : (setup : Setup) (xs ys : List (TaskId × ℕ)) → are_tasks setup xs ≡ true → are_tasks setup ys ≡ true → are_tasks setup (xs ++ ys) ≡ true
tasks_append setup [] ys h k = k
tasks_append setup (x ∷ xs) ys h k = by (has_task x.0 setup.tasks) h (λ g. tasks_append setup xs ys g k)
  where
    by : (b : Bool) → b && are_tasks setup xs ≡ true → (are_tasks setup xs ≡ true → are_tasks setup (xs ++ ys) ≡ true) → b && are_tasks setup (xs ++ ys) ≡ true
    by true h more = more h
    by false h more = h

module _ (setup : Setup) (journal : List Entry) where
  known_tasks : (changelogs : ℕ → List ℕ) (d : DraftView) (m : Member) (last : ℕ) (ts : List Task) → All (IsHeldTask d setup journal m last) ts → are_tasks setup (task_positions changelogs ts) ≡ true
  known_tasks changelogs d m last [] all = refl
  known_tasks changelogs d m last (t ∷ ts) all =
      ap₂ (λ a b. a && b) (All-head (IsHeldTask d setup journal m last) t ts all).held.known (known_tasks changelogs d m last ts (All-tail (IsHeldTask d setup journal m last) t ts all))

  known_replicas : (rs : List Replica) → All (IsStandby setup journal) rs → are_tasks setup (replica_positions rs) ≡ true
  known_replicas [] all = refl
  known_replicas (r ∷ rs) all = ap₂ (λ a b. a && b) (All-head (IsStandby setup journal) r rs all).known (known_replicas rs (All-tail (IsStandby setup journal) r rs all))

  pub known_positions : (changelogs : ℕ → List ℕ) (d : DraftView) (m : Member) (last : ℕ) (ts : List Task) (rs : List Replica) → All (IsHeldTask d setup journal m last) ts → All (IsStandby setup journal) rs →
      are_tasks setup (positions_held changelogs ts rs) ≡ true
  known_positions changelogs d m last ts rs held standbys = tasks_append setup (task_positions changelogs ts) (replica_positions rs) (known_tasks changelogs d m last ts held) (known_replicas rs standbys)

-- ---- what follows at a later moment
module _ {W : Type 0} (plan : W → TaskPlan) (old new : PassView Entry (Frame W)) (l : Later plan old new) where
  pub standbys_on : IsNetwork (setup_in plan old.frame).plan → (rs : List Replica) → All (IsStandby (setup_in plan old.frame) old.seen) rs → All (IsStandby (setup_in plan new.frame) new.seen) rs
  standbys_on net rs all = subst (λ f. All (IsStandby (setup_in plan f) new.seen) rs) (sym (same_frame plan old new l)) (standbys_later plan old new l net rs all)

  -- a worker that left has nothing
  pub left_worker : (first then_d : DraftView) (m : Member) (last : ℕ) (numbers none : List (PartId × ℕ)) (ts no_ts : List Task) (rs no_rs : List Replica) → none ≡ [] → no_ts ≡ [] → no_rs ≡ [] →
      IsWorker plan first old m last numbers ts rs → IsWorker plan then_d new (outside m) 0 none no_ts no_rs
  left_worker first then_d m last numbers none ts no_ts rs no_rs is_none is_no_ts is_no_rs w =
      subst (λ n. IsWorker plan then_d new (outside m) 0 n no_ts no_rs) (sym is_none)
      (subst (λ t. IsWorker plan then_d new (outside m) 0 [] t no_rs) (sym is_no_ts)
      (subst (λ r. IsWorker plan then_d new (outside m) 0 [] [] r) (sym is_no_rs)
      (record {
        number = w.number;
        instance = w.instance;
        seen = record { generation = (subst (λ f. MemberHasSeen (setup_in plan f) new.seen m last) (sym (same_frame plan old new l)) (seen_later plan old new l m last w.seen)).generation; place = omega arith };
        producer = nothing_known (setup_in plan new.frame) new.seen (outside m) refl (subst (λ f. IsHistory (setup_in plan f) new.seen) (sym (same_frame plan old new l)) (subst (IsHistory (setup_in plan old.frame)) (sym l.seen) l.history));
        alone = λ e. refl;
        names = tt;
        once = λ t. omega arith;
        tasks_are = All-nil (IsHeldTask then_d (setup_in plan new.frame) new.seen (outside m) 0);
        replicas_are = All-nil (IsStandby (setup_in plan new.frame) new.seen);
      })))

-- those that a worker parks follow what its pass has seen
pub left_standbys : {W : Type 0} (plan : W → TaskPlan) (hash : List ℕ → ℕ) (d : DraftView) (pass : PassView Entry (Frame W)) (m : Member) (last : ℕ) (numbers : List (PartId × ℕ)) (ts taken : List Task) (rs olds news : List Replica) →
    taken ≡ ts → olds ≡ rs → RunsTopology hash d (setup_in plan pass.frame) → IsWorker plan d pass m last numbers ts rs → RestsOnto taken olds news → All (IsStandby (setup_in plan pass.frame) pass.seen) news
left_standbys plan hash d pass m last numbers ts taken rs olds news same_ts same_rs runs w r =
    r.standbys hash d (setup_in plan pass.frame) pass.seen m last runs
    (subst (All (IsHeldTask d (setup_in plan pass.frame) pass.seen m last)) (sym same_ts) w.tasks_are)
    (subst (All (IsStandby (setup_in plan pass.frame) pass.seen)) (sym same_rs) w.replicas_are)

pub left_names : (ts taken : List Task) (rs olds news : List Replica) → taken ≡ ts → olds ≡ rs → RestsOnto taken olds news → replica_names news ≡ replica_names rs ++ task_names (filter is_clean_task ts)
left_names ts taken rs olds news same_ts same_rs r = r.names ∙ ap₂ (λ (os : List Replica) (us : List Task). replica_names os ++ task_names (filter is_clean_task us)) same_rs same_ts
