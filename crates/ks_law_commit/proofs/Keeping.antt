-- The tasks that a worker holds, while its commit is on its way and after its end.
use Rattle.std.proofs.Common.{◌≡◌, ◌≢◌, ◌⊎◌, inl, inr, ℕ, ◌≤◌, Bool, true, false, not, cond, List, [], ◌∷◌, ◌++◌, Option, Some, None, refl, sym, ap, ap₂, subst, ◌∙◌, arith, append_assoc}
use Rattle.std.proofs.lemmas.Bool.{ne_eqb}
use Rattle.ks_record.specs.declared.record.TaskId.{TaskId}
use Rattle.ks_record.specs.declared.record.PartId.{PartId}
use Rattle.ks_record.specs.Records.{Record as Rec}
use Rattle.ks_record.specs.declared.assignment.Refused.{Refused}
use Rattle.ks_history.specs.declared.journal.Entry.{Entry}
use Rattle.ks_history.specs.declared.journal.Request.{Request}
use Rattle.ks_history.specs.declared.journal.Request.TheVariants.{Decide}
use Rattle.ks_history.specs.declared.journal.Reply.TheVariants.{Done}
use Rattle.ks_history.specs.declared.transaction.Pending.{Pending}
use Rattle.ks_history.specs.declared.transaction.Producer.{Producer}
use Rattle.ks_history.specs.declared.transaction.Transaction.{Transaction}
use Rattle.ks_history.specs.Partition.{Logged, recs, open_from, past_last, with_offsets, is_none}
use Rattle.ks_history.specs.Machine.{IsNetwork, part_of}
use Rattle.ks_history.specs.State.{State, Setup, start}
use Rattle.ks_history.specs.Step.{refusal, reply_by, effect, state_by, after, closed, owner, has_pending, fenced, none_undecided}
use Rattle.ks_history.specs.Reads.{end_of}
use Rattle.ks_history.specs.Follows.{TaskView}
use Rattle.ks_history.specs.History.{state_after, at, Each, IsHistory, IsStep}
use Rattle.ks_history.specs.Touched.{touched, untouched}
use Rattle.ks_history.proofs.Histories.{state_after-append, history_front}
use Rattle.ks_law_exactly_once.proofs.Refusals.{both_none, not_fenced, some_undecided}
use Rattle.ks_law_restore.specs.Views.{Stands, WorkView, IsFrozen, IsPast, AreEnds, committed_view, pending_work, recs_at}
use Rattle.ks_law_restore.specs.Replicas.{rested_view}
use Rattle.ks_law_restore.specs.Commits.{commit_by, commits_by, commits_for, NoCommit}
use Rattle.ks_law_restore.proofs.Committing.{committed_stands}
use Rattle.ks_law_restore.proofs.Lasting.{Each-back, longer_stands, replica_stands}
use Rattle.ks_law_restore.proofs.Replicas.{rested_follows}
use Rattle.ks_law_sharing.specs.Tasks.{IsAssigned, IsActive, HasSeen}
use Rattle.ks_law_sharing.proofs.Rising.{rises, rises_after, ends_rise}
use Rattle.ks_law_sharing.proofs.Touching.{is_others, untouched_parts, touched_grows, seen_stays}
use Rattle.ks_law_sharing.proofs.Leaving.{leaves, is_same, idle_stays, open_stays}
use Rattle.ks_law_restore.proofs.Owning.{pending_is}
use Rattle.ks_law_sharing.proofs.Pending.{IsOne, one_step, one_at, commits_none}
use Rattle.ks_law_sharing.proofs.Assigned.{active_stays}
use Rattle.ks_law_commit.specs.Building.{Contents, IsBuilding}
use Rattle.ks_law_commit.specs.Committing.{Holds, AreOpenEnds, commit_entry, open_end}
use Rattle.ks_law_commit.proofs.Built.{building_stays}
use Rattle.ks_law_commit.proofs.Ends.{committed_ends}
use Rattle.ks_law_commit.proofs.Commits.{active_commits, active_rests}
use Rattle.ks_law_commit.specs.Held.{IsHeld}
use Rattle.ks_law_commit.specs.Sending.{HasSentNothing, HasBegun, IsSending}
use Rattle.ks_law_commit.specs.Holding.{abort_entry, IsOnItsWay, SeenAtLast, SendingHasSeen, PendingRests, SendingKeepsHeld, WayIsSending, WayKeepsHeld, CommitHolds, CommitKeepsOthers, AbortKeeps}
use Rattle.ks_law_commit.proofs.Stages.{place_is, building_is, quiet_is, sending_keeps_active}

-- ---- what the worker has seen
pub seen_at_last : SeenAtLast
seen_at_last setup journal more w g last seen = record { generation = (seen_stays setup journal more w g last seen).generation; place = omega arith }

module _ (setup : Setup) (journal more others : List Entry) (w e g made first last : ℕ) (c : Contents) (seen : HasSeen setup journal w g first) (k : IsSending setup journal more w e made first last c) where
  -- just after the commit's last entry
  pub seen_then : HasSeen setup (journal ++ more) w g last
  seen_then = subst (HasSeen setup (journal ++ more) w g) (place_is setup journal more w e made first last c k) (seen_at_last setup journal more w g first seen)

pub sending_has_seen : SendingHasSeen
sending_has_seen setup journal more others w e g made first last c seen k =
    subst (λ l. HasSeen setup l w g last) (append_assoc journal more others)
    (seen_stays setup (journal ++ more) others w g last (seen_then setup journal more others w e g made first last c seen k))

-- ---- what is pending, others don't commit
nothing_committed : (setup : Setup) (w : ℕ) (t : TaskId) (entries : List Entry) (s : State) → Each IsStep setup s entries → untouched w entries ≡ true → (s.producer w).waiting ≡ []
    → ((state_after setup s entries).producer w).epoch ≡ (s.producer w).epoch → IsOne s t → has_pending (s.producer w) t ≡ true → NoCommit setup s entries t
nothing_committed setup w t [] s steps quiet empty same one has = refl
nothing_committed setup w t (entry ∷ entries) s steps quiet empty same one has =
    let parts = untouched_parts w entry entries quiet in
    let r : Option Refused = refusal setup s entry.request in
    let mid : State = after setup s entry.request in
    let up : (s.producer w).epoch ≤ (mid.producer w).epoch = (rises s entry.request r).epochs w in
    let on : (mid.producer w).epoch ≤ ((state_after setup mid entries).producer w).epoch = (rises_after setup entries mid).epochs w in
    let others = is_others setup s w entry steps.0 parts.0 in
    let stays : mid.producer w ≡ s.producer w = (is_same w s mid (leaves s w entry.request r others) empty (omega (arith, up, on, same))).0 in
    ap₂ (λ x y. x ++ y) (commits_none s w entry.request r t others (one.one w has))
    (nothing_committed setup w t entries mid steps.1 parts.1 (ap (λ (p : Producer). p.waiting) stays ∙ empty) (omega (arith, up, on, same))
    (one_step setup s entry t steps.0 one) (ap (λ (p : Producer). has_pending p t) stays ∙ has))

pub pending_rests : PendingRests
pending_rests setup journal more w t history quiet empty same has =
    nothing_committed setup w t more (at setup journal) (Each-back IsStep setup start journal more history.legal) quiet empty
    (ap (λ (s : State). (s.producer w).epoch) (sym (state_after-append setup start journal more)) ∙ same)
    (one_at setup journal t (history_front setup journal (journal ++ more) (more, refl) history)) has

-- ---- on its way
pub sending_keeps_held : SendingKeepsHeld
sending_keeps_held setup journal more others w e g made first last c v net history seen k h =
    let there : (journal ++ more) ++ others ≡ journal ++ (more ++ others) = append_assoc journal more others in
    let whole : IsHistory setup ((journal ++ more) ++ others) = subst (IsHistory setup) (sym there) history in
    let front : IsHistory setup (journal ++ more) = history_front setup (journal ++ more) ((journal ++ more) ++ others) (others, refl) whole in
    let mid : IsActive setup (journal ++ more) w g last v = sending_keeps_active setup journal more w e g made first last c v net front seen k h.active in
    record {
      known = h.known;
      active = subst (λ l. IsActive setup l w g last v) there
          (active_stays setup (journal ++ more) others w g last v net whole (seen_then setup journal more others w e g made first last c seen k) mid);
      rests = λ clean. replica_stands setup journal (more ++ others) (rested_view v) net history (h.rests clean);
      kept = h.kept;
      within = λ topic is. omega (arith, h.within topic is, ends_rise setup journal (more ++ others) (part_of topic v.task));
    }

-- ---- under way
module _ (setup : Setup) (journal more others : List Entry) (w e g made first last : ℕ) (c : Contents) (is : touched w (journal ++ (more ++ others)) ≡ last)
    (u : IsOnItsWay setup journal more w e g made first last c) where
  pub place_stood : touched w journal ≡ first
  place_stood = u.back (omega (arith, u.seen.place, ap (touched w) (append_assoc journal more others), is, touched_grows w (journal ++ more) others))

pub way_is_sending : WayIsSending
way_is_sending setup journal more others w e g made first last c is u = u.sending (place_stood setup journal more others w e g made first last c is u)

pub way_keeps_held : WayKeepsHeld
way_keeps_held setup journal more others w e g made first last c v net history seen u h = record {
  known = h.known;
  active = record {
    follows = λ same still. (held still).active.follows same still;
    assigned = λ same still. (held still).active.assigned same still;
  };
  rests = λ clean. replica_stands setup journal (more ++ others) (rested_view v) net history (h.rests clean);
  kept = h.kept;
  within = λ topic is. omega (arith, h.within topic is, ends_rise setup journal (more ++ others) (part_of topic v.task));
}
  where
    held : touched w (journal ++ (more ++ others)) ≡ last → IsHeld setup (journal ++ (more ++ others)) w g last v
    held still = sending_keeps_held setup journal more others w e g made first last c v net history seen
        (u.sending (place_stood setup journal more others w e g made first last c still u)) h

-- ---- an accepted decision
-- what was answered `done` wasn't refused
free_of : (request : Request) (s : State) (r : Option Refused) → Done ≡ reply_by s request r → r ≡ None
free_of request s None is = refl
free_of request s (Some refused) is = absurd cc

pub last_step : (setup : Setup) (journal : List Entry) (entry : Entry) → IsHistory setup (journal ++ entry ∷ []) → IsStep setup (at setup journal) entry
last_step setup journal entry history = (Each-back IsStep setup start journal (entry ∷ []) history.legal).0

pub free_decision : (setup : Setup) (journal : List Entry) (w e : ℕ) (commit : Bool) → IsHistory setup (journal ++ record { request = Decide w e commit; reply = Done } ∷ [])
    → refusal setup (at setup journal) (Decide w e commit) ≡ None
free_decision setup journal w e commit history =
    free_of (Decide w e commit) (at setup journal) (refusal setup (at setup journal) (Decide w e commit)) (last_step setup journal (record { request = Decide w e commit; reply = Done }) history).reply

pub epoch_of : (setup : Setup) (s : State) (w e : ℕ) (commit : Bool) → refusal setup s (Decide w e commit) ≡ None → (s.producer w).epoch ≡ e
epoch_of setup s w e commit free = sym (not_fenced (s.producer w) e (both_none (fenced (s.producer w) e) (none_undecided (s.producer w)) free).0)

-- ---- the commit
module _ (setup : Setup) (journal : List Entry) (w e : ℕ) (c : Contents) (v : TaskView) (f : WorkView) (ends : List (ℕ × ℕ)) (first : State) (net : IsNetwork setup.plan)
    (history : IsHistory setup (journal ++ commit_entry w e ∷ [])) (free : refusal setup (at setup journal) (Decide w e true) ≡ None)
    (built : IsBuilding first (at setup journal) w e c) (frozen : IsFrozen setup.plan v f) (holds : Holds c f) (told : AreOpenEnds setup (at setup journal) w e f ends) where
  some_open : (xs : List Logged) (rs : List Rec) → recs xs ≡ rs → rs ≢ [] → xs ≢ []
  some_open xs rs is some none = some (sym is ∙ ap recs none)

  commits : commits_for setup (at setup journal) (commit_entry w e ∷ []) f.task ≡ (w, pending_work f) ∷ []
  commits =
      ap (λ r. commits_by (at setup journal) (Decide w e true) r f.task ++ []) free
      ∙ ap (λ (x : Option Pending). commit_by w x ++ []) (built.pending f.task ∙ holds.pending)

  ends_then : AreEnds setup (at setup (journal ++ commit_entry w e ∷ [])) f ends
  ends_then = record {
    named = λ topic old log some. subst (IsPast (at setup (journal ++ commit_entry w e ∷ [])) (part_of topic f.task)) (sym (told.named topic old log some))
        (committed_ends setup journal w e f.task topic net history free log
        (some_open (open_from w e f.task 0 ((at setup journal).partition (part_of topic f.task))) (recs_at (part_of topic f.task) f.outputs) (built.records f.task (part_of topic f.task) ∙ holds.records (part_of topic f.task)) some));
    others = told.others;
  }

  -- whatever the generation is
  pub stands_then : Stands setup journal v → Stands setup (journal ++ commit_entry w e ∷ []) (committed_view v ends)
  stands_then stands = committed_stands setup journal (commit_entry w e ∷ []) v f ends net history stands frozen (w, commits) ends_then

-- others, from the last offsets that were sent to the decision
module _ (setup : Setup) (journal more others : List Entry) (w e g made first last : ℕ) (c : Contents) (net : IsNetwork setup.plan)
    (history : IsHistory setup (journal ++ (more ++ others ++ commit_entry w e ∷ []))) (seen : HasSeen setup journal w g first)
    (none : ((at setup journal).producer w).undecided ≡ None) (k : IsSending setup journal more w e made first last c)
    (is : touched w (journal ++ (more ++ others)) ≡ last) where
  abbrev before : List Entry
  before = journal ++ (more ++ others)

  now_is : before ++ commit_entry w e ∷ [] ≡ journal ++ (more ++ others ++ commit_entry w e ∷ [])
  now_is = append_assoc journal (more ++ others) (commit_entry w e ∷ [])

  then_is : (journal ++ more) ++ others ≡ before
  then_is = append_assoc journal more others

  whole : IsHistory setup (before ++ commit_entry w e ∷ [])
  whole = subst (IsHistory setup) (sym now_is) history

  early : IsHistory setup before
  early = history_front setup before (before ++ commit_entry w e ∷ []) (commit_entry w e ∷ [], refl) whole

  split : IsHistory setup ((journal ++ more) ++ others)
  split = subst (IsHistory setup) (sym then_is) early

  sent : IsHistory setup (journal ++ more)
  sent = history_front setup (journal ++ more) ((journal ++ more) ++ others) (others, refl) split

  free : refusal setup (at setup before) (Decide w e true) ≡ None
  free = free_decision setup before w e true whole

  epoch : ((at setup before).producer w).epoch ≡ e
  epoch = epoch_of setup (at setup before) w e true free

  quiet : untouched w others ≡ true
  quiet = quiet_is setup journal more others w e made first last c k is

  some_undecided_now : ((at setup before).producer w).undecided ≡ None → ⊥
  some_undecided_now idle = never ((at setup before).producer w).undecided tx.0 idle tx.1
    where
      tx : (x : Transaction) × (((at setup before).producer w).undecided ≡ Some x)
      tx = some_undecided ((at setup before).producer w) e free

      never : (u : Option Transaction) (x : Transaction) → u ≡ None → u ≡ Some x → ⊥
      never u x a b = absurd cc

  -- something was sent, else nothing were undecided
  begun : HasBegun setup journal more w e made first last c
  begun = by k.stage
    where
      by : HasSentNothing more w made first last c ⊎ HasBegun setup journal more w e made first last c → HasBegun setup journal more w e made first last c
      by (inl n) = absurd (some_undecided_now
          (subst (λ (l : List Entry). ((at setup l).producer w).undecided ≡ None) then_is
          (idle_stays setup (journal ++ more) others w split quiet (idle_stays setup journal more w sent n.quiet none))))
      by (inr b) = b

  abbrev base : State
  base = at setup (journal ++ begun.others)

  built_then : IsBuilding base (at setup (journal ++ more)) w e c
  built_then = building_is setup journal more w e made first last c net sent begun

  built_now : IsBuilding base (at setup before) w e c
  built_now = subst (λ (l : List Entry). IsBuilding base (at setup l) w e c) then_is
      (building_stays setup base (journal ++ more) others w e c split quiet (ap (λ (l : List Entry). ((at setup l).producer w).epoch) then_is ∙ epoch) built_then)

  seen_sent : HasSeen setup (journal ++ more) w g last
  seen_sent = seen_then setup journal more others w e g made first last c seen k

  active_sent : (v : TaskView) → IsActive setup journal w g first v → IsActive setup (journal ++ more) w g last v
  active_sent v active = sending_keeps_active setup journal more w e g made first last c v net sent seen k active

  active_now : (v : TaskView) → IsActive setup journal w g first v → IsActive setup before w g last v
  active_now v active = subst (λ l. IsActive setup l w g last v) then_is (active_stays setup (journal ++ more) others w g last v net split seen_sent (active_sent v active))

  end_rises : (v : TaskView) (topic : ℕ) → end_of (at setup journal) (part_of topic v.task) ≤ end_of (at setup (journal ++ (more ++ others ++ commit_entry w e ∷ []))) (part_of topic v.task)
  end_rises v topic = ends_rise setup journal (more ++ others ++ commit_entry w e ∷ []) (part_of topic v.task)

  -- ---- a task without work
  pub keeps_others : (v : TaskView) → c.pending v.task ≡ None → IsHeld setup journal w g first v
      → IsHeld setup (journal ++ (more ++ others ++ commit_entry w e ∷ [])) w g (touched w (journal ++ (more ++ others ++ commit_entry w e ∷ []))) v
  keeps_others v nothing h = record {
    known = h.known;
    active = subst (λ (l : List Entry). IsActive setup l w g (touched w l) v) now_is (active_rests setup base before w e g last c v net whole free built_now nothing is (active_now v h.active));
    rests = λ clean. replica_stands setup journal (more ++ others ++ commit_entry w e ∷ []) (rested_view v) net history (h.rests clean);
    kept = h.kept;
    within = λ topic there. omega (arith, h.within topic there, end_rises v topic);
  }

  -- ---- a task with work
  module _ (same : (at setup (journal ++ more)).generation ≡ g) (v : TaskView) (f : WorkView) (ends : List (ℕ × ℕ)) (h : IsHeld setup journal w g first v)
      (frozen : IsFrozen setup.plan v f) (holds : Holds c f) (told : AreOpenEnds setup (at setup (journal ++ more)) w e f ends) where
    stood : Stands setup (journal ++ more) v
    stood = (active_sent v h.active).follows same (place_is setup journal more w e made first last c k)

    has : has_pending ((at setup (journal ++ more)).producer w) v.task ≡ true
    has = pending_is ((at setup (journal ++ more)).producer w) v.task
        ∙ ap (λ (o : Option Pending). not (is_none o)) (built_then.pending v.task ∙ ap c.pending (sym frozen.task) ∙ holds.pending)

    epochs : ((at setup ((journal ++ more) ++ others)).producer w).epoch ≡ ((at setup (journal ++ more)).producer w).epoch
    epochs = ap (λ (l : List Entry). ((at setup l).producer w).epoch) then_is ∙ epoch ∙ sym built_then.epoch

    stands_before : Stands setup before v
    stands_before = subst (λ l. Stands setup l v) then_is
        (longer_stands setup (journal ++ more) others v net split (pending_rests setup (journal ++ more) others w v.task split quiet built_then.waiting epochs has) stood)

    open_same : (q : PartId) → open_end (at setup before) w e f.task q ≡ open_end (at setup (journal ++ more)) w e f.task q
    open_same q =
        ap (λ (l : List Entry). open_end (at setup l) w e f.task q) (sym then_is)
        ∙ ap (λ (l : List Logged). past_last (with_offsets l)) (open_stays setup (journal ++ more) others w e f.task q split quiet epochs built_then.waiting)

    told_before : AreOpenEnds setup (at setup before) w e f ends
    told_before = record {
      named = λ topic old log some. told.named topic old log some ∙ sym (open_same (part_of topic f.task));
      others = told.others;
    }

    stands_now : Stands setup (journal ++ (more ++ others ++ commit_entry w e ∷ [])) (committed_view v ends)
    stands_now = subst (λ l. Stands setup l (committed_view v ends)) now_is
        (stands_then setup before w e c v f ends base net whole free built_now frozen holds told_before stands_before)

    pub commit_held : IsHeld setup (journal ++ (more ++ others ++ commit_entry w e ∷ [])) w g (touched w (journal ++ (more ++ others ++ commit_entry w e ∷ []))) (committed_view v ends)
    commit_held = record {
      known = h.known;
      active = subst (λ (l : List Entry). IsActive setup l w g (touched w l) (committed_view v ends)) now_is
          (active_commits setup base before w e g last c v f ends net whole free built_now holds frozen told_before is (active_now v h.active));
      rests = λ clean. rested_follows setup (journal ++ (more ++ others ++ commit_entry w e ∷ [])) (committed_view v ends) stands_now clean;
      kept = λ topic. omega arith;
      within = λ topic there. omega (arith, h.within topic there, end_rises v topic);
    }

pub commit_keeps_others : CommitKeepsOthers
commit_keeps_others setup journal more others w e g made first last c v net history seen none k is nothing h =
    keeps_others setup journal more others w e g made first last c net history seen none k is v nothing h

pub commit_holds : CommitHolds
commit_holds setup journal more others w e g made first last c v f ends net history seen none k same is h frozen holds told =
    commit_held setup journal more others w e g made first last c net history seen none k is same v f ends h frozen holds told

-- ---- the abort
-- it commits nothing, and changes no task's place
pub active_aborts : (setup : Setup) (journal : List Entry) (w e g last : ℕ) (v : TaskView) → IsNetwork setup.plan → IsHistory setup (journal ++ abort_entry w e ∷ []) →
    touched w journal ≡ last → IsActive setup journal w g last v → IsActive setup (journal ++ abort_entry w e ∷ []) w g (touched w (journal ++ abort_entry w e ∷ [])) v
active_aborts setup journal w e g last v net history was own = record {
  follows = λ same still. longer_stands setup journal (abort_entry w e ∷ []) v net history refl (own.follows (before same) was);
  assigned = λ same still. assigned same (own.assigned (before same) was);
}
  where
    s : State
    s = at setup journal

    there : at setup (journal ++ abort_entry w e ∷ []) ≡ effect (at setup journal) (Decide w e false)
    there = state_after-append setup start journal (abort_entry w e ∷ []) ∙ ap (state_by (at setup journal) (Decide w e false)) (free_decision setup journal w e false history)

    before : (at setup (journal ++ abort_entry w e ∷ [])).generation ≡ g → (at setup journal).generation ≡ g
    before same = sym (ap (λ (n : State). n.generation) there) ∙ same

    assigned : (at setup (journal ++ abort_entry w e ∷ [])).generation ≡ g → IsAssigned (at setup journal) w g v.task → IsAssigned (at setup (journal ++ abort_entry w e ∷ [])) w g v.task
    assigned same h = record {
      generation = same;
      place = ap (λ (n : State). owner n v.task) there ∙ h.place;
      pending = λ j ne. ap (λ (n : State). has_pending (n.producer j) v.task) there
          ∙ ap (λ b. has_pending (cond b (closed ((at setup journal).producer w) false) ((at setup journal).producer j)) v.task) (ne_eqb j w ne) ∙ h.pending j ne;
    }

pub abort_keeps : AbortKeeps
abort_keeps setup journal more others w e g made first last c v net history seen k is h =
    let before : List Entry = journal ++ (more ++ others) in
    let now_is : before ++ abort_entry w e ∷ [] ≡ journal ++ (more ++ others ++ abort_entry w e ∷ []) = append_assoc journal (more ++ others) (abort_entry w e ∷ []) in
    let whole : IsHistory setup (before ++ abort_entry w e ∷ []) = subst (IsHistory setup) (sym now_is) history in
    let early : IsHistory setup before = history_front setup before (before ++ abort_entry w e ∷ []) (abort_entry w e ∷ [], refl) whole in
    let held : IsHeld setup before w g last v = sending_keeps_held setup journal more others w e g made first last c v net early seen k h in
    subst (λ (l : List Entry). IsHeld setup l w g (touched w l) v) now_is (record {
      known = h.known;
      active = active_aborts setup before w e g last v net whole is held.active;
      rests = λ clean. replica_stands setup before (abort_entry w e ∷ []) (rested_view v) net whole (held.rests clean);
      kept = h.kept;
      within = λ topic there. omega (arith, held.within topic there, ends_rise setup before (abort_entry w e ∷ []) (part_of topic v.task));
    })
