-- A worker that leaves: what its tasks leave, and what it parks.
use Rattle.std.proofs.Common.{◌≡◌, ℕ, ◌++◌, Bool, true, false, cond, List, [], ◌∷◌, length, refl, sym, ap, subst, ◌∙◌, append_assoc, append-nil}
use Rattle.std.specs.List.{All, filter}
use Rattle.std.proofs.lemmas.Bool.{true≢false}
use Rattle.std.proofs.lemmas.List.Elements.{All-head, All-take, All-drop, All-push, filter-append}
use Rattle.std.proofs.Math.Seq.{take-append_seam, drop-append_seam}
use Rattle.ks_record.specs.declared.record.TaskId.{TaskId}
use Rattle.ks_plan.specs.Drafts.{DraftView}
use Rattle.ks_plan.specs.Plan.{plan_of}
use Rattle.ks_plan.specs.Infos.{changelog_numbers}
use Rattle.ks_history.specs.declared.journal.Entry.{Entry}
use Rattle.ks_history.specs.Machine.{TaskPlan}
use Rattle.ks_history.specs.declared.journal.Request.TheVariants.{Park}
use Rattle.ks_history.specs.State.{Setup, has_task}
use Rattle.ks_history.specs.Follows.{ReplicaFollows, ReplicaView}
use Rattle.ks_law_restore.specs.Replicas.{rested_view}
use Rattle.ks_growing.specs.Passes.{PassView}
use Rattle.ks_shared.specs.declared.state.Frame.{Frame}
use Rattle.ks_standby.specs.declared.replica.Replica.{Replica}
use Rattle.ks_standby.specs.Replicas.{replica_view, changelogs_of}
use Rattle.ks_task.specs.declared.task.Task.{Task}
use Rattle.ks_task.specs.Tasks.{task_view, IsClean, IsTaskOf}
pub use Rattle.ks_worker_state.proofs.Clean.{clean_task, task_clean, dirty_task, same_clean}
use Rattle.ks_worker_client.specs.Calls.{Later}
use Rattle.ks_worker_client.specs.declared.member.Member.{Member}
use Rattle.ks_worker_state.specs.Standbys.{IsStandby}
use Rattle.ks_worker_state.specs.Tasks.{IsHeldTask}
use Rattle.ks_worker_state.specs.Topology.{RunsTopology}
use Rattle.ks_worker_state.specs.State.{task_names, replica_names}
use Rattle.ks_worker_state.specs.Gained.{HasMade}
use Rattle.ks_worker_acts.specs.Telling.{is_clean_task, parks, RestsOnto}
use Rattle.ks_worker_state.proofs.Gains.{made_none, made_then}

-- ---- what the tasks leave
-- those before the ones that are left have left their replicas
pub record HasRested (left all : List Task) (old now : List Replica) : Type 0 where
  pub done : List Task
  pub tasks : done ++ left ≡ all
  pub rests : RestsOnto done old now

map_names : (xs ys : List Task) → task_names (xs ++ ys) ≡ task_names xs ++ task_names ys
map_names [] ys = refl
map_names (x ∷ xs) ys = ap (λ l. (task_view x).task ∷ l) (map_names xs ys)

pub replica_names_both : (xs ys : List Replica) → replica_names (xs ++ ys) ≡ replica_names xs ++ replica_names ys
replica_names_both [] ys = refl
replica_names_both (x ∷ xs) ys = ap (λ (l : List TaskId). x.id ∷ l) (replica_names_both xs ys)

pub rests_then : (xs ys : List Task) (a b c : List Replica) → RestsOnto xs a b → RestsOnto ys b c → RestsOnto (xs ++ ys) a c
rests_then xs ys a b c f g = record {
  names = g.names ∙ ap (λ l. l ++ task_names (filter is_clean_task ys)) f.names ∙ append_assoc (replica_names a) (task_names (filter is_clean_task xs)) (task_names (filter is_clean_task ys))
      ∙ ap (λ l. replica_names a ++ l) (sym (map_names (filter is_clean_task xs) (filter is_clean_task ys)) ∙ ap task_names (sym (filter-append is_clean_task xs ys)));
  standbys = λ hash d setup journal m last runs held all.
      let P : Task → Type 0 = IsHeldTask d setup journal m last in
      g.standbys hash d setup journal m last runs (subst (All P) (drop-append_seam xs ys) (All-drop P (length xs) (xs ++ ys) held))
      (f.standbys hash d setup journal m last runs (subst (All P) (take-append_seam xs ys) (All-take P (length xs) (xs ++ ys) held)) all);
}

pub rests_none : (a : List Replica) → RestsOnto [] a a
rests_none a = record { names = sym (append-nil (replica_names a)); standbys = λ hash d setup journal m last runs held all. all }

pub rested_first : (all : List Task) (a : List Replica) → HasRested all all a a
rested_first all a = record { done = []; tasks = refl; rests = rests_none a }

pub rested_more : (t : Task) (left rest all : List Task) (a b c : List Replica) → left ≡ t ∷ rest → HasRested left all a b → RestsOnto (t ∷ []) b c → HasRested rest all a c
rested_more t left rest all a b c is f g = record {
  done = f.done ++ t ∷ [];
  tasks = append_assoc f.done (t ∷ []) rest ∙ ap (λ l. f.done ++ l) (sym is) ∙ f.tasks;
  rests = rests_then f.done (t ∷ []) a b c f.rests g;
}

pub rested_all : (left all : List Task) (a b : List Replica) → left ≡ [] → HasRested left all a b → RestsOnto all a b
rested_all left all a b is f = subst (λ l. RestsOnto l a b) (sym (append-nil f.done) ∙ ap (λ l. f.done ++ l) (sym is) ∙ f.tasks) f.rests

-- one task: it is clean, and leaves a replica
pub rests_clean : (t : Task) (r : Replica) (olds news : List Replica) → IsClean (task_view t) → replica_view r ≡ rested_view (task_view t) →
    ((d : DraftView) → IsTaskOf d t → changelogs_of r ≡ changelog_numbers (plan_of d) r.id.sub) → news ≡ olds ++ r ∷ [] → RestsOnto (t ∷ []) olds news
rests_clean t r olds news clean view logs is = record {
  names = ap replica_names is ∙ replica_names_both olds (r ∷ []) ∙ ap (λ l. replica_names olds ++ l)
      (ap (λ (v : ReplicaView). v.task ∷ []) view ∙ sym (ap (λ b. task_names (cond b (t ∷ []) [])) (task_clean t clean)));
  standbys = λ hash d setup journal m last runs held all.
      subst (All (IsStandby setup journal)) (sym is) (All-push (IsStandby setup journal) olds r all
      (standby hash d setup journal m last runs (All-head (IsHeldTask d setup journal m last) t [] held)));
}
  where
    standby : (hash : List ℕ → ℕ) (d : DraftView) (setup : Setup) (journal : List Entry) (m : Member) (last : ℕ) → RunsTopology hash d setup → IsHeldTask d setup journal m last t → IsStandby setup journal r
    standby hash d setup journal m last runs h =
        let named : r.id ≡ (task_view t).task = ap (λ (v : ReplicaView). v.task) view in
        record {
          known = subst (λ u. has_task u setup.tasks ≡ true) (sym named) h.held.known;
          replica = record {
            task = refl;
            changelogs = logs d h.of ∙ sym (ap (λ (s : Setup). s.plan.changelogs r.id.sub) runs.setup_is);
            follows = subst (ReplicaFollows setup journal) (sym view) (h.held.rests (λ topic own. clean topic));
          };
        }

-- it is dirty, and leaves nothing
pub rests_dirty : (t : Task) (olds news : List Replica) → (IsClean (task_view t) → ⊥) → news ≡ olds → RestsOnto (t ∷ []) olds news
rests_dirty t olds news never is = record {
  names = ap replica_names is ∙ sym (append-nil (replica_names olds)) ∙ ap (λ l. replica_names olds ++ l) (sym (ap (λ b. task_names (cond b (t ∷ []) [])) (dirty_task t never)));
  standbys = λ hash d setup journal m last runs held all. subst (All (IsStandby setup journal)) (sym is) all;
}

-- ---- what it parks
pub record HasParked {W : Type 0} (old now : PassView Entry (Frame W)) (instance : ℕ) (left all : List Replica) : Type 0 where
  pub done : List TaskId
  pub names : done ++ replica_names left ≡ replica_names all
  pub made : HasMade old now (parks instance done)

parks_both : (instance : ℕ) (xs ys : List TaskId) → parks instance (xs ++ ys) ≡ parks instance xs ++ parks instance ys
parks_both instance [] ys = refl
parks_both instance (x ∷ xs) ys = ap (λ l. Park instance x ∷ l) (parks_both instance xs ys)

module _ {W : Type 0} (plan : W → TaskPlan) (old : PassView Entry (Frame W)) (instance : ℕ) (all : List Replica) where
  pub parked_first : Later plan old old → HasParked old old instance all all
  parked_first l = record { done = []; names = refl; made = made_none plan old old l refl }

  pub parked_more : (mid new : PassView Entry (Frame W)) (r : Replica) (left rest : List Replica) → left ≡ r ∷ rest → HasParked old mid instance left all → HasMade mid new (Park instance r.id ∷ []) → HasParked old new instance rest all
  parked_more mid new r left rest is p g = record {
    done = p.done ++ r.id ∷ [];
    names = append_assoc p.done (r.id ∷ []) (replica_names rest) ∙ ap (λ l. p.done ++ l) (sym (ap replica_names is)) ∙ p.names;
    made = subst (HasMade old new) (sym (parks_both instance p.done (r.id ∷ []))) (made_then old mid new (parks instance p.done) (Park instance r.id ∷ []) p.made g);
  }

  pub parked_all : (new : PassView Entry (Frame W)) (left : List Replica) → left ≡ [] → HasParked old new instance left all → HasMade old new (parks instance (replica_names all))
  parked_all new left is p = subst (λ l. HasMade old new (parks instance l)) (sym (append-nil p.done) ∙ ap (λ l. p.done ++ l) (sym (ap replica_names is)) ∙ p.names) p.made
