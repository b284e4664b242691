-- A task that is a worker's own stays so while the generation stands and nobody uses the worker's number, and an active one follows.
use Rattle.std.proofs.Common.{◌≡◌, ◌≢◌, ◌⊎◌, inl, inr, ℕ, ◌+◌, ◌≤◌, Bool, true, false, cond, List, [], ◌∷◌, ◌++◌, Option, Some, None, refl, sym, ap, ap₂, subst, ◌∙◌, arith}
use Rattle.std.proofs.lemmas.Bool.{true≢false}
use Rattle.ks_record.specs.Records.{Record as Rec}
use Rattle.ks_record.specs.declared.record.TaskId.{TaskId}
use Rattle.ks_record.specs.declared.assignment.Refused.{Refused}
use Rattle.ks_record.specs.declared.assignment.Assignment.{Assignment}
use Rattle.ks_record.specs.declared.assignment.Marker.{Marker}
use Rattle.ks_history.specs.declared.partition.Slot.TheVariants.{Mark}
use Rattle.ks_history.specs.declared.journal.Request.{Request}
use Rattle.ks_history.specs.declared.journal.Request.TheVariants.{Produce, Init, Add, Append, SendOffsets, Decide, MarkNext, Join, Expire, Hold, Probe, Assign, Park, Unpark}
use Rattle.ks_history.specs.declared.journal.Entry.{Entry}
use Rattle.ks_history.specs.Machine.{TaskPlan, part_of}
use Rattle.ks_history.specs.State.{State, Setup, start, with_number, grown, without_number}
use Rattle.ks_history.specs.Step.{refusal, state_by, after, owner, place_in, has_pending, renewed, can_expire}
use Rattle.ks_history.specs.Reads.{fetched}
use Rattle.ks_history.specs.Follows.{TaskView}
use Rattle.ks_history.specs.History.{state_after, at, Each, IsStep, IsHistory}
use Rattle.ks_history.specs.Touched.{touched, untouched}
use Rattle.ks_history.proofs.Histories.{state_after-append, history_front}
use Rattle.ks_law_restore.specs.Views.{take_view, take_all}
use Rattle.ks_law_restore.specs.Commits.{commits_for}
use Rattle.ks_law_restore.proofs.Fetching.{fetching_stands}
use Rattle.ks_law_restore.proofs.Lasting.{Each-back, longer_stands}
use Rattle.ks_law_sharing.specs.Others.{NoneElsewhere}
use Rattle.ks_law_sharing.specs.Tasks.{IsAssigned, HasSeen, AssignedStays, ActiveStays, FetchingStaysActive}
use Rattle.ks_law_sharing.proofs.Rising.{rises, rises_after, journal_rises}
use Rattle.ks_law_sharing.proofs.Touching.{is_others, untouched_parts, touched_grows, same_touched}
use Rattle.ks_law_sharing.proofs.Pending.{IsFew, IsSent, either, few_step, one_at, commits_none}

-- ---- the owner, while the generation stands
owner_stays : (s : State) (request : Request) (r : Option Refused) (t : TaskId) (w : ℕ) → (state_by s request r).generation ≡ s.generation → owner s t ≡ Some w → owner (state_by s request r) t ≡ Some w
owner_stays s request (Some refused) t w same own = own
owner_stays s (Produce p rec) None t w same own = own
owner_stays s (Init v) None t w same own = own
owner_stays s (Add v e p) None t w same own = own
owner_stays s (Append v e number u p rs) None t w same own = own
owner_stays s (SendOffsets v e g u offsets order late) None t w same own = own
owner_stays s (Decide v e commit) None t w same own = own
owner_stays s (MarkNext v) None t w same own = by (s.producer v).waiting
  where
    by : (ms : List Marker) → owner (elim ms as (λ _. State) [
      | [] ↦ s
      | m ∷ rest ↦ record s {
        partition = grown s.partition m.part (Mark v m.epoch m.commit ∷ []);
        producer = with_number s.producer v (record (s.producer v) { waiting = rest });
      }
    ]) t ≡ Some w
    by [] = own
    by (m ∷ rest) = own
owner_stays s (Join v) None t w same own = absurd (omega (arith, same))
owner_stays s (Expire v) None t w same own = by (can_expire s v) same
  where
    by : (b : Bool) → (cond b (record s {
      producer = with_number s.producer v (renewed (s.producer v));
      members = without_number v s.members;
      held = with_number s.held v [];
      generation = s.generation + 1;
      assignment = None;
    }) s).generation ≡ s.generation → owner (cond b (record s {
      producer = with_number s.producer v (renewed (s.producer v));
      members = without_number v s.members;
      held = with_number s.held v [];
      generation = s.generation + 1;
      assignment = None;
    }) s) t ≡ Some w
    by true e = absurd (omega (arith, e))
    by false e = own
owner_stays s (Hold v held) None t w same own = own
owner_stays s (Probe v g) None t w same own = absurd (omega (arith, same))
owner_stays s (Assign v g a) None t w same own = by s.assignment refl
  where
    by : (o : Option Assignment) → s.assignment ≡ o → owner (elim o as (λ _. State) [ None ↦ record s { assignment = Some a } | Some b ↦ s ]) t ≡ Some w
    by None h =
        let e : None ≡ Some w = sym (ap (λ (o : Option Assignment). elim o as (λ _. Option ℕ) [ None ↦ None | Some b ↦ place_in t s.members b.active ]) h) ∙ own in
        absurd cc
    by (Some b) h = own
owner_stays s (Park instance u) None t w same own = own
owner_stays s (Unpark instance u) None t w same own = own

-- ---- the task
record IsOwned (s : State) (w : ℕ) (t : TaskId) : Type 0 where
  few : IsFew s t
  place : owner s t ≡ Some w
  pending : NoneElsewhere s t w

owned_step : (setup : Setup) (s : State) (entry : Entry) (w : ℕ) (t : TaskId) → IsStep setup s entry → (after setup s entry.request).generation ≡ s.generation → IsOwned s w t → IsOwned (after setup s entry.request) w t
owned_step setup s entry w t step same owned = record {
  few = few_step setup s entry t step owned.few;
  place = owner_stays s entry.request (refusal setup s entry.request) t w same owned.place;
  pending = λ v ne. by v ne (has_pending ((after setup s entry.request).producer v) t) refl;
}
  where
    by : (v : ℕ) → v ≢ w → (b : Bool) → has_pending ((after setup s entry.request).producer v) t ≡ b → has_pending ((after setup s entry.request).producer v) t ≡ false
    by v ne false is = is
    by v ne true is = absurd (both (either setup s entry.request (refusal setup s entry.request) step.meets refl t owned.few v is))
      where
        both : (has_pending (s.producer v) t ≡ true) ⊎ IsSent s (after setup s entry.request) v t → ⊥
        both (inl old) = true≢false (sym old ∙ owned.pending v ne)
        both (inr sent) =
            let e : Some v ≡ Some w = sym sent.place ∙ owned.place in
            let f : v ≡ w = cc in
            ne f

owned_after : (setup : Setup) (w : ℕ) (t : TaskId) (entries : List Entry) (s : State) → Each IsStep setup s entries → untouched w entries ≡ true → (state_after setup s entries).generation ≡ s.generation → IsOwned s w t
    → IsOwned (state_after setup s entries) w t × (commits_for setup s entries t ≡ [])
owned_after setup w t [] s steps quiet same owned = (owned, refl)
owned_after setup w t (entry ∷ entries) s steps quiet same owned =
    let parts = untouched_parts w entry entries quiet in
    let r : Option Refused = refusal setup s entry.request in
    let mid : State = after setup s entry.request in
    let first : s.generation ≤ mid.generation = (rises s entry.request r).generation in
    let rest : mid.generation ≤ (state_after setup mid entries).generation = (rises_after setup entries mid).generation in
    let more = owned_after setup w t entries mid steps.1 parts.1 (omega (arith, first, rest, same)) (owned_step setup s entry w t steps.0 (omega (arith, first, rest, same)) owned) in
    (more.0, ap₂ (λ x y. x ++ y) (commits_none s w entry.request r t (is_others setup s w entry steps.0 parts.0) owned.pending) more.1)

pub assigned_stays : AssignedStays
assigned_stays setup journal more w g t history quiet is same =
    let s : State = at setup journal in
    let there : at setup (journal ++ more) ≡ state_after setup s more = state_after-append setup start journal more in
    let early : IsHistory setup journal = history_front setup journal (journal ++ more) (more, refl) history in
    let all = owned_after setup w t more s (Each-back IsStep setup start journal more history.legal) quiet
    (ap (λ (k : State). k.generation) (sym there) ∙ same ∙ sym is.generation)
    (record { few = (one_at setup journal t early).few; place = is.place; pending = is.pending }) in (
      record {
        generation = same;
        place = ap (λ (k : State). owner k t) there ∙ all.0.place;
        pending = λ v ne. ap (λ (k : State). has_pending (k.producer v) t) there ∙ all.0.pending v ne;
      },
      all.1,
    )

-- ---- active tasks
-- generation and place stand now, so they stood before
module _ (setup : Setup) (journal more : List Entry) (w g last : ℕ) (past : HasSeen setup journal w g last) (same : (at setup (journal ++ more)).generation ≡ g) (still : touched w (journal ++ more) ≡ last) where
  pub stood : (at setup journal).generation ≡ g
  stood = omega (arith, past.generation, same, (journal_rises setup journal more).generation)

  pub was_touched : touched w journal ≡ last
  was_touched = omega (arith, past.place, still, touched_grows w journal more)

  pub is_untouched : untouched w more ≡ true
  is_untouched = same_touched w journal more (still ∙ sym was_touched)

pub active_stays : ActiveStays
active_stays setup journal more w g last v net history past is = record {
  follows = λ same still. longer_stands setup journal more v net history (both same still).1
      (is.follows (stood setup journal more w g last past same still) (was_touched setup journal more w g last past same still));
  assigned = λ same still. (both same still).0;
}
  where
    both : (at setup (journal ++ more)).generation ≡ g → touched w (journal ++ more) ≡ last → IsAssigned (at setup (journal ++ more)) w g v.task × (commits_for setup (at setup journal) more v.task ≡ [])
    both same still = assigned_stays setup journal more w g v.task history (is_untouched setup journal more w g last past same still)
        (is.assigned (stood setup journal more w g last past same still) (was_touched setup journal more w g last past same still)) same

-- taking records leaves the task what it is
takes_on : (plan : TaskPlan) (v : TaskView) (topic : ℕ) (rs : List (ℕ × Rec)) → (take_all plan v topic rs).task ≡ v.task
takes_on plan v topic [] = refl
takes_on plan v topic (r ∷ rs) = takes_on plan (take_view plan v topic r.0 r.1) topic rs

pub fetching_stays_active : FetchingStaysActive
fetching_stays_active setup journal w g last v topic limit net input some is = record {
  follows = λ same still. fetching_stands setup journal v topic limit net input some (is.follows same still);
  assigned = λ same still. subst (IsAssigned (at setup journal) w g)
      (sym (takes_on setup.plan v topic (fetched (at setup journal) (part_of topic v.task) (v.inputs topic) limit).0)) (is.assigned same still);
}
