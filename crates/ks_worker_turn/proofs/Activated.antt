-- That a worker's active tasks are restored.
use Rattle.std.proofs.Common.{◌≡◌, inl, inr, ℕ, ◌+◌, ◌<◌, ◌≤◌, ◌||◌, Bool, true, false, List, [], ◌∷◌, length, take, refl, sym, ap, subst, ◌∙◌, arith, add-one}
use Rattle.std.specs.Prelude.{max, slice_index_or}
use Rattle.std.proofs.Math.Seq.{take-suc}
use Rattle.std.proofs.lemmas.Bool.{true≢false}
use Rattle.std.proofs.lemmas.List.{take_all}
use Rattle.ks_record.specs.declared.record.TaskId.{TaskId}
use Rattle.ks_record.specs.declared.assignment.Assignment.{Assignment}
use Rattle.ks_record.specs.Parts.{same_task}
use Rattle.ks_history.specs.declared.journal.Entry.{Entry}
use Rattle.ks_history.specs.Machine.{TaskPlan}
use Rattle.ks_history.specs.State.{has_task}
use Rattle.ks_history.proofs.Names.{same_task-is, same_task-refl}
use Rattle.ks_growing.specs.Passes.{PassView}
use Rattle.ks_shared.specs.declared.state.Frame.{Frame}
use Rattle.ks_standby.specs.declared.replica.Replica.{Replica}
use Rattle.ks_task.specs.declared.task.Task.{Task}
use Rattle.ks_task.specs.Tasks.{task_view}
use Rattle.ks_worker_client.specs.declared.client.ClusterClient.{ClusterClient}
use Rattle.ks_worker_client.specs.declared.member.Member.{Member}
use Rattle.ks_worker_client.specs.Calls.{Later}
use Rattle.ks_worker_client.proofs.Moments.{later_twice}
use Rattle.ks_worker_state.specs.declared.state.WorkerState.{WorkerState}
use Rattle.ks_worker_state.specs.Names.{task_names}
use Rattle.ks_worker_state.specs.Restoring.{IsGivenBack}
use Rattle.ks_worker_state.proofs.Names.{is_there}
use Rattle.ks_worker_turn.specs.Held.{HasTakenPlaces}
use Rattle.ks_worker_turn.specs.Lists.{HasPut, AreAmong}
use Rattle.ks_worker_turn.specs.Places.{has_place, is_placed}
use Rattle.ks_worker_turn.specs.Restored.{KeepsTasks, IsRestored, HasRestored, HasTakenAll}
use Rattle.ks_worker_turn.proofs.Holding.{tasks_put, times_same, has-append}
use Rattle.ks_worker_turn.proofs.Listing.{names_among, among_then}
use Rattle.ks_worker_turn.proofs.Taken.{taken_from}

-- ---- a task that was put among the others
pub task_added : (ts now : List Task) (x : Task) (t : TaskId) → (task_view x).task ≡ t → HasPut ts x now → has_task t (task_names now) ≡ true
task_added ts now x t named put =
    let own : same_task t (task_view x).task ≡ true = ap (same_task t) named ∙ same_task-refl t in
    is_there t (task_names now) (omega (arith, tasks_put t ts now x put, times_same t (task_view x).task own))

-- ---- why a replica was given back
module _ {W : Type 0} (plan : W → TaskPlan) (old mid new : PassView Entry (Frame W)) (w generation : ℕ) (r : Replica) where
  given_on : Later plan mid new → IsGivenBack plan old mid w generation r → IsGivenBack plan old new w generation r
  given_on l (inl f) = inl (record { asked = f.asked; since = f.since; before = later_twice plan f.asked mid new f.before l; refused = f.refused })
  given_on l (inr s) = inr (record { told = s.told; since = s.since; before = later_twice plan s.told mid new s.before l; read = s.read; short = s.short })

  given_since : Later plan old mid → IsGivenBack plan mid new w generation r → IsGivenBack plan old new w generation r
  given_since l (inl f) = inl (record { asked = f.asked; since = later_twice plan old mid f.asked l f.since; before = f.before; refused = f.refused })
  given_since l (inr s) = inr (record { told = s.told; since = later_twice plan old mid s.told l s.since; before = s.before; read = s.read; short = s.short })

module _ {W G : Type 0} (plan : W → TaskPlan) where
  restored_on : (old mid new : WorkerState W G) (t : TaskId) → Later plan mid.session.client.pass new.session.client.pass → new.member ≡ mid.member → KeepsTasks mid new → IsRestored plan t old mid → IsRestored plan t old new
  restored_on old mid new t l same kept (inl there) = inl (names_among mid.tasks.items new.tasks.items kept t there)
  restored_on old mid new t l same kept (inr k) = inr (record {
    replica = k.replica;
    named = k.named;
    back = subst (λ (m : Member). IsGivenBack plan old.session.client.pass new.session.client.pass m.number m.generation k.replica) (sym same)
        (given_on plan old.session.client.pass mid.session.client.pass new.session.client.pass mid.member.number mid.member.generation k.replica l k.back);
  })

  pub restored_since : (old mid new : WorkerState W G) (t : TaskId) → Later plan old.session.client.pass mid.session.client.pass → IsRestored plan t mid new → IsRestored plan t old new
  restored_since old mid new t l (inl there) = inl there
  restored_since old mid new t l (inr k) = inr (record {
    replica = k.replica;
    named = k.named;
    back = given_since plan old.session.client.pass mid.session.client.pass new.session.client.pass new.member.number new.member.generation k.replica l k.back;
  })

  -- of the replica that was given back
  pub given_back : (old new : WorkerState W G) (t : TaskId) (r : Replica) → r.id ≡ t → IsGivenBack plan old.session.client.pass new.session.client.pass new.member.number new.member.generation r → IsRestored plan t old new
  given_back old new t r named back = inr (record { replica = r; named = named; back = back })

  pub named_restored : (old mid new : WorkerState W G) (r t : TaskId) → r ≡ t → Later plan old.session.client.pass mid.session.client.pass → IsRestored plan r mid new → IsRestored plan t old new
  named_restored old mid new r t named l h = subst (λ u. IsRestored plan u old new) named (restored_since old mid new r l h)

  -- ---- of tasks of an assignment
  pub one_restored : (old new : WorkerState W G) (a : Assignment) (t : TaskId) → (has_place t old.member.number a.active ≡ true → old.member.is_member ≡ true → IsRestored plan t old new) → HasRestored plan a (t ∷ []) old new
  one_restored old new a t h u there placed inside =
      let named : t ≡ u = same (same_task u t) refl there in
      subst (λ v. IsRestored plan v old new) named (h (ap (λ v. has_place v old.member.number a.active) named ∙ placed) inside)
    where
      same : (b : Bool) → same_task u t ≡ b → b || false ≡ true → t ≡ u
      same true e g = sym (same_task-is u t e)
      same false e g = absurd (true≢false (sym g))

  pub none_active : (s : WorkerState W G) (a : Assignment) (t : TaskId) → is_placed a s.member.number t ≡ false → HasRestored plan a (t ∷ []) s s
  none_active s a t apart = one_restored s s a t (λ placed inside. absurd (by (has_place t s.member.number a.active) placed apart))
    where
      by : (b : Bool) → b ≡ true → (b || (has_place t s.member.number a.standby || has_place t s.member.number a.warmup)) ≡ false → ⊥
      by true e g = true≢false g
      by false e g = true≢false (sym e)

  pub restored_start : (s : WorkerState W G) (a : Assignment) → HasRestored plan a [] s s
  restored_start s a t there = absurd (true≢false (sym there))

  -- the next task of a list
  pub restored_next : (old mid new : WorkerState W G) (a : Assignment) (ts : List TaskId) (i : ℕ) (d : TaskId) → i < length ts → Later plan old.session.client.pass mid.session.client.pass → Later plan mid.session.client.pass new.session.client.pass →
      mid.member ≡ old.member → new.member ≡ mid.member → KeepsTasks mid new → HasRestored plan a (take i ts) old mid → HasRestored plan a (slice_index_or ts i d ∷ []) mid new → HasRestored plan a (take (i + 1) ts) old new
  restored_next old mid new a ts i d lt l k same still kept f g t there placed inside =
      by (has_task t (take i ts)) refl (sym (has-append t (take i ts) (slice_index_or ts i d ∷ [])) ∙ ap (has_task t) (sym (take-suc ts i d lt) ∙ ap (λ n. take n ts) (sym (add-one i))) ∙ there)
    where
      by : (b : Bool) → has_task t (take i ts) ≡ b → (has_task t (take i ts) || has_task t (slice_index_or ts i d ∷ [])) ≡ true → IsRestored plan t old new
      by true e h = restored_on old mid new t k still kept (f t e placed inside)
      by false e h =
          restored_since old mid new t l (g t (ap (λ b. b || has_task t (slice_index_or ts i d ∷ [])) (sym e) ∙ h) (ap (λ (m : Member). has_place t m.number a.active) same ∙ placed) (ap (λ (m : Member). m.is_member) same ∙ inside))

  pub tasks_on : (old mid new : WorkerState W G) → KeepsTasks old mid → KeepsTasks mid new → KeepsTasks old new
  tasks_on old mid new f g = among_then old.tasks.items mid.tasks.items new.tasks.items f g

  -- all of a list
  pub restored_whole : (old new : WorkerState W G) (a : Assignment) (ts all : List TaskId) (i : ℕ) → ts ≡ all → length ts ≤ i → HasRestored plan a (take i ts) old new → HasRestored plan a all old new
  restored_whole old new a ts all i are most h = subst (λ xs. HasRestored plan a xs old new) (take_all i ts most ∙ are) h

  -- since an earlier moment, when it was the same member, but for its generation
  pub all_since : (old mid new : WorkerState W G) (a : Assignment) (ts : List TaskId) → Later plan old.session.client.pass mid.session.client.pass → mid.member.number ≡ old.member.number → mid.member.is_member ≡ old.member.is_member →
      HasRestored plan a ts mid new → HasRestored plan a ts old new
  all_since old mid new a ts l number inside h t there placed is =
      restored_since old mid new t l (h t there (ap (λ w. has_place t w a.active) number ∙ placed) (inside ∙ is))

  -- all that it took, over what its client did before
  pub taken_all : (tasks : List TaskId) (generation : ℕ) (a : Assignment) (old new : WorkerState W G) (client : ClusterClient W G) → Later plan old.session.client.pass client.pass →
      new.member ≡ record old.member { generation = max old.member.generation generation } → HasTakenPlaces tasks generation a (record old { session = record old.session { client = client } }) new →
      AreAmong old.tasks.items new.tasks.items → HasRestored plan a tasks (record old { session = record old.session { client = client } }) new → HasTakenAll plan tasks generation a old new
  taken_all tasks generation a old new client l member taken kept restored = record {
    member = member;
    taken = taken_from plan tasks generation a old new client l taken;
    kept = kept;
    restored = all_since old (record old { session = record old.session { client = client } }) new a tasks l refl refl restored;
  }
