-- Tasks that rest leave their replicas.
use Rattle.std.proofs.Common.{◌≡◌, ◌<◌, ◌⊎◌, inl, inr, ℕ, ◌+◌, ◌||◌, Bool, true, false, cond, List, [], ◌∷◌, ◌++◌, get_or, Option, Some, refl, sym, ap, subst, ◌∙◌, arith}
use Rattle.std.specs.Prelude.{not, nat_lt}
use Rattle.std.specs.Option.{option_to_list}
use Rattle.std.specs.List.{All, Contains, filter}
use Rattle.std.proofs.lemmas.Bool.{lt-ltb}
use Rattle.std.proofs.lemmas.List.Elements.{All-nil, All-cons, All-contains, All-contains_itself, filter-append}
use Rattle.ks_plan.specs.Plan.{plan_of}
use Rattle.ks_plan.specs.Infos.{changelog_numbers}
use Rattle.ks_plan.specs.Drafts.{DraftView}
use Rattle.ks_history.specs.declared.journal.Entry.{Entry}
use Rattle.ks_history.specs.Machine.{TaskPlan}
use Rattle.ks_history.specs.State.{Setup, has_task}
use Rattle.ks_growing.specs.Passes.{PassView}
use Rattle.ks_shared.specs.declared.state.Frame.{Frame}
use Rattle.ks_shared.specs.Calls.{setup_in}
use Rattle.ks_record.specs.declared.record.PartId.{PartId}
use Rattle.ks_history.specs.Follows.{ReplicaView, ReplicaFollows}
use Rattle.ks_law_restore.specs.Replicas.{rested_view}
use Rattle.ks_standby.specs.declared.replica.Replica.{Replica}
use Rattle.ks_standby.specs.Replicas.{replica_view, changelogs_of}
use Rattle.ks_task.specs.declared.task.Task.{Task}
use Rattle.ks_task.specs.Tasks.{task_view, IsClean, IsTaskOf}
use Rattle.ks_worker_client.specs.declared.member.Member.{Member}
use Rattle.ks_record.specs.declared.record.TaskId.{TaskId}
use Rattle.ks_worker_state.specs.Names.{task_names, replica_names, times}
use Rattle.ks_worker_state.specs.Standbys.{IsStandby}
use Rattle.ks_worker_state.specs.Tasks.{IsHeldTask, is_clean_task}
use Rattle.ks_worker_state.proofs.Clean.{task_clean, dirty_task}
use Rattle.ks_worker_state.proofs.Names.{times-append, times-filter}
use Rattle.ks_worker_state.specs.Topology.{RunsTopology}
use Rattle.ks_worker_state.specs.Worker.{IsWorker}
use Rattle.ks_worker_turn.specs.Lists.{HasPut, AreAmong}
use Rattle.ks_worker_turn.specs.Resting.{KeepsStandbys, IsLeftBy, HaveLeft, is_generation_over, HaveRested}
use Rattle.ks_worker_turn.proofs.Holding.{replicas_put}
use Rattle.ks_worker_turn.proofs.Listing.{all_put, all_head, all_tail}

pub rested_standby : (hash : List ℕ → ℕ) (d : DraftView) (setup : Setup) (journal : List Entry) (m : Member) (last : ℕ) (t : Task) (r : Replica) → RunsTopology hash d setup → IsHeldTask d setup journal m last t →
    replica_view r ≡ rested_view (task_view t) → changelogs_of r ≡ changelog_numbers (plan_of d) r.id.sub → IsClean (task_view t) → IsStandby setup journal r
rested_standby hash d setup journal m last t r runs h view own clean = record {
  known = subst (λ u. has_task u setup.tasks ≡ true) (sym (ap (λ (v : ReplicaView). v.task) view)) h.held.known;
  replica = record {
    task = refl;
    changelogs = own ∙ sym (ap (λ (s : Setup). s.plan.changelogs r.id.sub) runs.setup_is);
    follows = subst (ReplicaFollows setup journal) (sym view) (h.held.rests (λ topic there. clean topic));
  };
}

-- the names of clean tasks
abbrev clean_names : List Task → List TaskId
clean_names ts = task_names (filter is_clean_task ts)

name_alone : (t : Task) (b : Bool) → is_clean_task t ≡ b → clean_names (t ∷ []) ≡ task_names (cond b (t ∷ []) [])
name_alone t b e = ap (λ x. task_names (cond x (t ∷ []) [])) e

names_both : (xs ys : List Task) → task_names (xs ++ ys) ≡ task_names xs ++ task_names ys
names_both [] ys = refl
names_both (x ∷ xs) ys = ap (λ l. (task_view x).task ∷ l) (names_both xs ys)

clean_both : (u : TaskId) (xs ys : List Task) → times u (clean_names (xs ++ ys)) ≡ times u (clean_names xs) + times u (clean_names ys)
clean_both u xs ys =
    ap (λ l. times u (task_names l)) (filter-append is_clean_task xs ys) ∙ ap (times u) (names_both (filter is_clean_task xs) (filter is_clean_task ys))
    ∙ times-append u (clean_names xs) (clean_names ys)

-- an old replica, or one that these tasks left
abbrev pub IsLeft : List Task → List Replica → Replica → Type 0
IsLeft ts old r = Contains old r ⊎ IsLeftBy ts r

pub left_before : (ts : List Task) (old : List Replica) → All (IsLeft ts old) old
left_before ts old k d lt = inl (All-contains_itself old k d lt)

-- a clean task's replica is one of them
pub one_rested : (t : Task) (r : Replica) (old new : List Replica) → replica_view r ≡ rested_view (task_view t) → ((d : DraftView) → IsTaskOf d t → changelogs_of r ≡ changelog_numbers (plan_of d) r.id.sub) → IsClean (task_view t) →
    HasPut old r new → HaveLeft (t ∷ []) old new
one_rested t r old new view own clean put = record {
  names = λ u.
      let name : times u (r.id ∷ []) ≡ times u (clean_names (t ∷ [])) =
      ap (λ (v : ReplicaView). times u (v.task ∷ [])) view ∙ ap (times u) (sym (name_alone t true (task_clean t clean))) in
      omega (arith, replicas_put u old new r put, name);
  standbys = λ hash d setup journal m last runs held all.
      all_put (IsStandby setup journal) old new r put all
      (let h = all_head (IsHeldTask d setup journal m last) t [] held in rested_standby hash d setup journal m last t r runs h view (own d h.of) clean);
  are = all_put (IsLeft (t ∷ []) old) old new r put (left_before (t ∷ []) old) (inr (record { task = t; among = All-contains_itself (t ∷ []) 0 t (omega arith); clean = clean; view = view }));
}

-- a dirty one leaves none
pub none_rested : (t : Task) (old : List Replica) → (IsClean (task_view t) → ⊥) → HaveLeft (t ∷ []) old old
none_rested t old dirty = record {
  names = λ u.
      let none : times u (clean_names (t ∷ [])) ≡ 0 = ap (times u) (name_alone t false (dirty_task t dirty)) in
      omega (arith, none);
  standbys = λ hash d setup journal m last runs held all. all;
  are = left_before (t ∷ []) old;
}

-- those of the tasks that are left are to come
pub names_rested : (was left : List Task) (t : Task) (mid new : List Replica) (k : TaskId → ℕ) → was ≡ left ++ t ∷ [] → ((u : TaskId) → times u (replica_names mid) + times u (task_names (filter is_clean_task was)) ≡ k u) →
    HaveLeft (t ∷ []) mid new → (u : TaskId) → times u (replica_names new) + times u (task_names (filter is_clean_task left)) ≡ k u
names_rested was left t mid new k is so more u =
    let both : times u (clean_names was) ≡ times u (clean_names left) + times u (clean_names (t ∷ [])) = ap (λ l. times u (clean_names l)) is ∙ clean_both u left (t ∷ []) in
    omega (arith, so u, more.names u, both)

-- when none is left, all have rested
pub all_rested : (ts left : List Task) (rs new : List Replica) → left ≡ [] → ((u : TaskId) → times u (replica_names new) + times u (task_names (filter is_clean_task left)) ≡ times u (replica_names rs) + times u (task_names (filter is_clean_task ts))) →
    KeepsStandbys ts rs new → All (IsLeft ts rs) new → HaveLeft ts rs new
all_rested ts left rs new none names kept are = record {
  names = λ u.
      let empty : times u (clean_names left) ≡ 0 = ap (λ l. times u (clean_names l)) none in
      omega (arith, names u, empty);
  standbys = kept;
  are = are;
}

-- ---- the last of a list
module _ {A : Type 0} (P : A → Type 0) where
  pub last_of : (xs : List A) (x : A) → All P (xs ++ x ∷ []) → P x
  last_of [] x all = all_head P x [] all
  last_of (y ∷ ys) x all = last_of ys x (all_tail P y (ys ++ x ∷ []) all)

  pub front_of : (xs : List A) (x : A) → All P (xs ++ x ∷ []) → All P xs
  front_of [] x all = All-nil P
  front_of (y ∷ ys) x all = All-cons P y ys (all_head P y (ys ++ x ∷ []) all) (front_of ys x (all_tail P y (ys ++ x ∷ []) all))

-- the last of those that are left is one of the tasks
pub last_among : (ts was left : List Task) (t : Task) → was ≡ left ++ t ∷ [] → AreAmong was ts → Contains ts t
last_among ts was left t is among = last_of (Contains ts) left t (subst (All (Contains ts)) is among)

pub front_among : (ts was left : List Task) (t : Task) → was ≡ left ++ t ∷ [] → AreAmong was ts → AreAmong left ts
front_among ts was left t is among = front_of (Contains ts) left t (subst (All (Contains ts)) is among)

-- what it left with the others is one of theirs
pub left_more : (ts was left : List Task) (t : Task) (rs mid new : List Replica) → was ≡ left ++ t ∷ [] → AreAmong was ts → All (IsLeft ts rs) mid → HaveLeft (t ∷ []) mid new → All (IsLeft ts rs) new
left_more ts was left t rs mid new is among before more k d lt = by (get_or new k d) (more.are k d lt)
  where
    by : (r : Replica) → IsLeft (t ∷ []) mid r → IsLeft ts rs r
    by r (inl there) = All-contains (IsLeft ts rs) mid r before there
    by r (inr h) =
        inr (record {
          task = h.task;
          among = All-contains (Contains ts) (t ∷ []) h.task (All-cons (Contains ts) t [] (last_among ts was left t is among) (All-nil (Contains ts))) h.among;
          clean = h.clean;
          view = h.view;
        })

pub popped : {A : Type 0} (old new : List A) (o : Option A) (x : A) → o ≡ Some x → old ≡ new ++ option_to_list o → old ≡ new ++ x ∷ []
popped old new o x is e = e ∙ ap (λ p. new ++ option_to_list p) is

-- one more rests
pub more_rested : (ts was left : List Task) (t : Task) (rs mid new : List Replica) → was ≡ left ++ t ∷ [] →
    ((d : DraftView) (setup : Setup) (journal : List Entry) (m : Member) (last : ℕ) → All (IsHeldTask d setup journal m last) ts → All (IsHeldTask d setup journal m last) was) →
    KeepsStandbys ts rs mid → HaveLeft (t ∷ []) mid new → KeepsStandbys ts rs new
more_rested ts was left t rs mid new is held kept more hash d setup journal m last runs all standbys =
    let P = IsHeldTask d setup journal m last in
    more.standbys hash d setup journal m last runs (All-cons P t [] (last_of P left t (subst (All P) is (held d setup journal m last all))) (All-nil P)) (kept hash d setup journal m last runs all standbys)

pub left_held : (was left : List Task) (t : Task) (d : DraftView) (setup : Setup) (journal : List Entry) (m : Member) (last : ℕ) → was ≡ left ++ t ∷ [] →
    All (IsHeldTask d setup journal m last) was → All (IsHeldTask d setup journal m last) left
left_held was left t d setup journal m last is all = front_of (IsHeldTask d setup journal m last) left t (subst (All (IsHeldTask d setup journal m last)) is all)

-- what a worker keeps when its tasks have rested
module _ {W : Type 0} (plan : W → TaskPlan) (hash : List ℕ → ℕ) (d : DraftView) (pass : PassView Entry (Frame W)) (m : Member) (last : ℕ) (numbers : List (PartId × ℕ)) (ts left : List Task) (rs new : List Replica) where
  pub worker_rested : (over : Bool) → RunsTopology hash d (setup_in plan pass.frame) → HaveRested over ts rs left new → IsWorker plan d pass m last numbers ts rs → IsWorker plan d pass m last numbers left new
  worker_rested false runs h w = subst (λ l. IsWorker plan d pass m last numbers l new) (sym h.0) (subst (λ l. IsWorker plan d pass m last numbers ts l) (sym h.1) w)
  worker_rested true runs h w = subst (λ l. IsWorker plan d pass m last numbers l new) (sym h.0) (record {
    number = w.number;
    instance = w.instance;
    seen = w.seen;
    producer = w.producer;
    alone = λ e. refl;
    names = tt;
    once = λ u. omega (arith, w.once u, h.1.names u, times-filter is_clean_task u ts);
    tasks_are = All-nil (IsHeldTask d (setup_in plan pass.frame) pass.seen m last);
    replicas_are = h.1.standbys hash d (setup_in plan pass.frame) pass.seen m last runs w.tasks_are w.replicas_are;
  })

-- whether it is over
pub rested_not : (over : Bool) (ts : List Task) (rs : List Replica) → over ≡ false → HaveRested over ts rs ts rs
rested_not false ts rs e = (refl, refl)
rested_not true ts rs e = absurd cc

pub rested_all : (over : Bool) (ts left : List Task) (rs new : List Replica) → over ≡ true → left ≡ [] → HaveLeft ts rs new → HaveRested over ts rs left new
rested_all true ts left rs new e none h = (none, h)
rested_all false ts left rs new e none h = absurd cc

-- no task is left where it is over
pub none_left : (over : Bool) (ts left : List Task) (rs new : List Replica) → over ≡ true → HaveRested over ts rs left new → left ≡ []
none_left true ts left rs new is h = h.0
none_left false ts left rs new is h = absurd cc

-- for a worker that isn't listed it is over
pub over_unlisted : (own generation : ℕ) (listed : Bool) → listed ≡ false → is_generation_over own generation listed ≡ true
over_unlisted own generation true e = absurd cc
over_unlisted own generation false e = by (nat_lt own generation)
  where
    by : (b : Bool) → (b || true) ≡ true
    by true = refl
    by false = refl

-- and in a newer generation
pub over_newer : (own generation : ℕ) (listed : Bool) → own < generation → is_generation_over own generation listed ≡ true
over_newer own generation listed newer = ap (λ b. b || not listed) (lt-ltb own generation newer)
