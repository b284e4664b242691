-- The task of a replica that has reached the ends is held.
use Rattle.std.proofs.Common.{◌≡◌, ◌≢◌, inr, ℕ, ◌+◌, ◌≤◌, ◌&&◌, ◌||◌, Bool, true, false, cond, Option, Some, None, List, [], ◌∷◌, ◌++◌, map, refl, sym, ap, ap₂, subst, ◌∙◌, arith}
use Rattle.std.specs.Prelude.{◌==◌, nat_le, Result, Ok, Err, IfOk, IfErr}
use Rattle.std.specs.List.{All}
use Rattle.std.proofs.lemmas.List.Elements.{All-nil, All-cons}
use Rattle.std.proofs.lemmas.Bool.{and_parts, true≢false, eqb-true, eq-eqb, leb-true}
use Rattle.ks_record.specs.declared.record.PartId.{PartId}
use Rattle.ks_record.specs.declared.record.TaskId.{TaskId}
use Rattle.ks_record.specs.declared.assignment.Refused.{Refused}
use Rattle.ks_cluster.specs.View.{Refuses}
use Rattle.ks_plan.specs.Drafts.{DraftView}
use Rattle.ks_history.specs.declared.journal.Entry.{Entry}
use Rattle.ks_history.specs.Machine.{TaskPlan, IsNetwork, has_topic, part_of}
use Rattle.ks_history.specs.State.{State, Setup, IsSetup, IsPart, offset_in, has_task}
use Rattle.ks_history.specs.Reads.{committed_refusal, committed_offsets, end_of, ends_of}
use Rattle.ks_history.specs.Follows.{TaskView, ReplicaFollows}
use Rattle.ks_history.specs.History.{at, IsHistory}
use Rattle.ks_law_restore.specs.Replicas.{restored_view}
use Rattle.ks_law_sharing.specs.Tasks.{HasSeen}
use Rattle.ks_law_sharing.proofs.Touching.{seen_stays}
use Rattle.ks_law_commit.specs.Held.{IsHeld}
use Rattle.ks_law_commit.proofs.Held.{restoring_holds}
use Rattle.ks_standby.specs.declared.replica.Replica.{Replica}
use Rattle.ks_standby.specs.Replicas.{replica_view, changelogs_of}
use Rattle.ks_standby.proofs.Feeding.{no_other}
use Rattle.ks_task.proofs.Restoring.{listed}
use Rattle.ks_growing.specs.Passes.{PassView}
use Rattle.ks_shared.specs.declared.state.Frame.{Frame}
use Rattle.ks_shared.specs.Calls.{setup_in}
use Rattle.ks_worker_client.specs.Calls.{Later, state_seen}
use Rattle.ks_worker_client.proofs.Moments.{same_frame, not_later, later_twice}
use Rattle.ks_plan.specs.Plan.{plan_of}
use Rattle.ks_plan.specs.Layout.{tasks}
use Rattle.ks_plan.specs.Infos.{changelog_numbers}
use Rattle.ks_task.specs.Tasks.{task_view, IsTaskOf}
use Rattle.ks_worker_state.specs.Topology.{RunsTopology}
use Rattle.ks_worker_state.specs.Standbys.{IsStandby, IsFedStandby, HasReadStable}
use Rattle.ks_task.specs.declared.task.Task.{Task}
use Rattle.ks_worker_client.specs.declared.member.Member.{Member}
use Rattle.ks_worker_client.specs.Members.{MemberHasSeen}
use Rattle.ks_worker_state.specs.Tasks.{IsHeldTask}
use Rattle.ks_worker_state.specs.Restoring.{reached_in, IsMadeAtTheEnds, IsRestoredAtTheEnds, IsShortOfTheEnds, IsRefused, IsGivenBack}

-- ---- the partitions of a task's changelogs
pub parts_are : (setup : Setup) (t : TaskId) (topics : List ℕ) → IsSetup setup → has_task t setup.tasks ≡ true → ((n : ℕ) → has_topic n topics ≡ true → has_topic n (setup.plan.changelogs t.sub) ≡ true) → All (IsPart setup) (map (λ n. part_of n t) topics)
parts_are setup t [] made known own = All-nil (IsPart setup)
parts_are setup t (n ∷ ns) made known own =
    All-cons (IsPart setup) (part_of n t) (map (λ n. part_of n t) ns) (made.changelogs t n known (own n (ap (λ b. b || has_topic n ns) (eq-eqb n n refl))))
    (parts_are setup t ns made known (λ m h. own m (behind (m == n) h)))
  where
    behind : (b : Bool) {c : Bool} → c ≡ true → b || c ≡ true
    behind true h = refl
    behind false h = h

reached_is : (s : State) (t : TaskId) (position : ℕ → ℕ) (topics : List ℕ) → reached_in position topics (ends_of s (map (λ n. part_of n t) topics)) ≡ true →
    (topic : ℕ) → has_topic topic topics ≡ true → end_of s (part_of topic t) ≤ position topic
reached_is s t position [] r topic h = absurd (true≢false (sym h))
reached_is s t position (n ∷ ns) r topic h =
    let parts = and_parts _ _ r in
    by (topic == n) refl h (leb-true (end_of s (part_of n t)) (position n) parts.0) (λ g. reached_is s t position ns parts.1 topic g)
  where
    by : (b : Bool) → (topic == n) ≡ b → b || has_topic topic ns ≡ true → end_of s (part_of n t) ≤ position n → (has_topic topic ns ≡ true → end_of s (part_of topic t) ≤ position topic) → end_of s (part_of topic t) ≤ position topic
    by true e g here more = subst (λ k. end_of s (part_of k t) ≤ position k) (sym (eqb-true topic n e)) here
    by false e g here more = more g

module _ {W : Type 0} (plan : W → TaskPlan) (old asked told new : PassView Entry (Frame W)) (one : Later plan old asked) (two : Later plan asked told) (three : Later plan told new) where
  pub held_restored : (w g last : ℕ) (t : TaskId) (r : Replica) (offsets : List (ℕ × ℕ)) (topics ends : List ℕ) (parts : List PartId) →
      IsNetwork (setup_in plan old.frame).plan → HasSeen (setup_in plan old.frame) old.seen w g last → IsStandby (setup_in plan old.frame) new.seen r → r.id ≡ t →
      committed_refusal (state_seen plan asked) w g t ≡ None → offsets ≡ committed_offsets (setup_in plan old.frame) (state_seen plan asked) t →
      topics ≡ (setup_in plan old.frame).plan.changelogs t.sub → parts ≡ map (λ n. part_of n t) topics → ends ≡ ends_of (state_seen plan told) parts → reached_in (replica_view r).position topics ends ≡ true →
      IsHeld (setup_in plan old.frame) new.seen w g last (restored_view (replica_view r) (λ topic. offset_in 0 topic offsets))
  held_restored w g last t r offsets topics ends parts net past standby named free listing own placed ended reached =
      let setup : Setup = setup_in plan old.frame in
      let asked_state : state_seen plan asked ≡ at setup asked.seen = ap (λ f. at (setup_in plan f) asked.seen) (same_frame plan old asked one) in
      let told_frame : told.frame ≡ old.frame = same_frame plan asked told two ∙ same_frame plan old asked one in
      let told_state : state_seen plan told ≡ at setup (asked.seen ++ two.more) = ap₂ (λ f l. at (setup_in plan f) l) told_frame two.seen in
      let seen : new.seen ≡ asked.seen ++ two.more ++ three.more = three.seen ∙ ap (λ l. l ++ three.more) two.seen in
      let history : IsHistory setup (asked.seen ++ two.more ++ three.more) =
      subst (λ l. IsHistory setup (l ++ three.more)) two.seen (subst (λ f. IsHistory (setup_in plan f) (told.seen ++ three.more)) told_frame three.history) in
      let known : HasSeen setup asked.seen w g last = subst (λ l. HasSeen setup l w g last) (sym one.seen) (seen_stays setup old.seen one.more w g last past) in
      let allowed : committed_refusal (at setup asked.seen) w g r.id ≡ None = subst (λ s. committed_refusal s w g r.id ≡ None) asked_state (subst (λ u. committed_refusal (state_seen plan asked) w g u ≡ None) (sym named) free) in
      let are : offsets ≡ committed_offsets setup (at setup asked.seen) r.id = listing ∙ ap₂ (λ s u. committed_offsets setup s u) asked_state (sym named) in
      let ends_are : ends ≡ ends_of (at setup (asked.seen ++ two.more)) (map (λ n. part_of n r.id) topics) =
      ended ∙ ap₂ ends_of told_state (placed ∙ ap (λ (u : TaskId). map (λ n. part_of n u) topics) (sym named)) in
      let all : reached_in (replica_view r).position topics (ends_of (at setup (asked.seen ++ two.more)) (map (λ n. part_of n r.id) topics)) ≡ true =
      subst (λ l. reached_in (replica_view r).position topics l ≡ true) ends_are reached in
      let own_topics : topics ≡ setup.plan.changelogs r.id.sub = own ∙ ap (λ (u : TaskId). setup.plan.changelogs u.sub) (sym named) in
      subst (λ l. IsHeld setup l w g last (restored_view (replica_view r) (λ topic. offset_in 0 topic offsets))) (sym seen)
      (restoring_holds setup asked.seen two.more three.more w g last (replica_view r) (λ topic. offset_in 0 topic offsets) net history known allowed
      (λ topic h. ap (offset_in 0 topic) are ∙ listed ((at setup asked.seen).committed r.id) (setup.plan.inputs r.id.sub) topic h)
      (λ topic h. reached_is (at setup (asked.seen ++ two.more)) r.id (replica_view r).position topics all topic (subst (λ l. has_topic topic l ≡ true) (sym own_topics) h))
      (no_other setup.plan r standby.replica.changelogs) standby.known
      (subst (λ l. ReplicaFollows setup l (replica_view r)) seen standby.replica.follows))

-- the task that was made at the ends is the member's
module _ {W : Type 0} (plan : W → TaskPlan) (old asked new : PassView Entry (Frame W)) (one : Later plan old asked) where
  pub made_held : (d : DraftView) (m : Member) (last : ℕ) (t : TaskId) (offsets : List (ℕ × ℕ)) (made : Task) → IsNetwork (setup_in plan old.frame).plan → MemberHasSeen (setup_in plan old.frame) old.seen m last →
      committed_refusal (state_seen plan asked) m.number m.generation t ≡ None → offsets ≡ committed_offsets (setup_in plan old.frame) (state_seen plan asked) t →
      IsMadeAtTheEnds plan d asked new t offsets made → made.cache ≡ m.cache → IsHeldTask d (setup_in plan old.frame) new.seen m last made
  made_held d m last t offsets made net past free listing k cached = record {
    of = k.of;
    held = subst (IsHeld (setup_in plan old.frame) new.seen m.number m.generation last) (sym k.view)
        (held_restored plan old asked k.told new one k.since k.before m.number m.generation last t k.replica offsets ((setup_in plan asked.frame).plan.changelogs t.sub)
        (ends_of (state_seen plan k.told) (map (λ n. part_of n t) ((setup_in plan asked.frame).plan.changelogs t.sub))) (map (λ n. part_of n t) ((setup_in plan asked.frame).plan.changelogs t.sub))
        net past (subst (λ f. IsStandby (setup_in plan f) new.seen k.replica) (same_frame plan old asked one) k.standby) k.named free listing
        (ap (λ f. (setup_in plan f).plan.changelogs t.sub) (same_frame plan old asked one)) refl refl k.reached);
    inside = λ sends q some. absurd (some (ap (λ (v : TaskView). v.made q) k.view));
    cache = cached;
  }

  -- the group answered the offsets that it was made of
  pub made_restored : (d : DraftView) (w generation : ℕ) (t u : TaskId) (offsets : List (ℕ × ℕ)) (made : Task) → u ≡ t →
      committed_refusal (state_seen plan asked) w generation u ≡ None → offsets ≡ committed_offsets (setup_in plan old.frame) (state_seen plan asked) u →
      IsMadeAtTheEnds plan d asked new t offsets made → IsRestoredAtTheEnds plan d old new w generation t made
  made_restored d w generation t u offsets made named free listing k = record {
    asked = asked;
    asked_since = one;
    answered = subst (λ v. committed_refusal (state_seen plan asked) w generation v ≡ None) named free;
    offsets = offsets;
    offsets_are = listing ∙ ap (committed_offsets (setup_in plan old.frame) (state_seen plan asked)) named;
    ends = k;
  }

-- of an answer within an answer
pub both_ok : {A B E : Type 0} (r : Result (Result A B) E) (P Q : A → Type 0) → ((x : A) → P x → Q x) → IfOk r (λ x. IfOk x P) → IfOk r (λ x. IfOk x Q)
both_ok (Ok (Ok x)) P Q f h = f x h
both_ok (Ok (Err y)) P Q f h = tt
both_ok (Err z) P Q f h = tt

pub both_ok_with : {A B E : Type 0} (r : Result (Result A B) E) (P Q R : A → Type 0) → ((x : A) → P x → Q x → R x) → IfOk r (λ x. IfOk x P) → IfOk r (λ x. IfOk x Q) → IfOk r (λ x. IfOk x R)
both_ok_with (Ok (Ok x)) P Q R f h i = f x h i
both_ok_with (Ok (Err y)) P Q R f h i = tt
both_ok_with (Err z) P Q R f h i = tt

pub both_err : {A B E : Type 0} (r : Result (Result A B) E) (P Q : B → Type 0) → ((x : B) → P x → Q x) → IfOk r (λ x. IfErr x P) → IfOk r (λ x. IfErr x Q)
both_err (Ok (Ok x)) P Q f h = tt
both_err (Ok (Err y)) P Q f h = f y h
both_err (Err z) P Q f h = tt

-- ---- over the topology's own words
module _ (hash : List ℕ → ℕ) (d : DraftView) (setup : Setup) (runs : RunsTopology hash d setup) where
  pub own_changelogs : (t : TaskId) (topics : List ℕ) → topics ≡ changelog_numbers (plan_of d) t.sub → topics ≡ setup.plan.changelogs t.sub
  own_changelogs t topics are = are ∙ sym (ap (λ (s : Setup). s.plan.changelogs t.sub) runs.setup_is)

  module _ (journal : List Entry) (r : Replica) (standby : IsStandby setup journal r) where
    pub all_changelogs : (t : TaskId) (topics : List ℕ) → t ≡ r.id → topics ≡ changelog_numbers (plan_of d) t.sub → topics ≡ changelogs_of r
    all_changelogs t topics named are = own_changelogs t topics are ∙ ap (λ (u : TaskId). setup.plan.changelogs u.sub) named ∙ sym standby.replica.changelogs

    pub named_changelogs : changelogs_of r ≡ changelog_numbers (plan_of d) r.id.sub
    named_changelogs = standby.replica.changelogs ∙ ap (λ (s : Setup). s.plan.changelogs r.id.sub) runs.setup_is

    pub there : has_task r.id (tasks (plan_of d)) ≡ true
    there = subst (λ (s : Setup). has_task r.id s.tasks ≡ true) runs.setup_is standby.known

-- a task of these offsets, when the ends were told and the replica was fed since
module _ {W : Type 0} (plan : W → TaskPlan) (old told new : PassView Entry (Frame W)) (two : Later plan old told) (three : Later plan told new) where
  pub made_at_the_ends : (d : DraftView) (t : TaskId) (r fed : Replica) (offsets : List (ℕ × ℕ)) (topics ends given : List ℕ) (made : Task) →
      t ≡ r.id → IsFedStandby (setup_in plan told.frame) told.seen new.seen topics r fed → IsTaskOf d made → task_view made ≡ restored_view (replica_view fed) (λ topic. offset_in 0 topic offsets) →
      topics ≡ (setup_in plan old.frame).plan.changelogs t.sub → ends ≡ ends_of (state_seen plan told) (map (λ topic. part_of topic t) topics) → given ≡ ends → reached_in (replica_view fed).position topics given ≡ true →
      IsMadeAtTheEnds plan d old new r.id offsets made
  made_at_the_ends d t r fed offsets topics ends given made named f of view own told_ends is reached =
      let topics_are : topics ≡ (setup_in plan old.frame).plan.changelogs r.id.sub = own ∙ ap (λ (u : TaskId). (setup_in plan old.frame).plan.changelogs u.sub) named in
      record {
        of = of;
        replica = fed;
        named = f.fed.task;
        view = view;
        standby = subst (λ n. IsStandby (setup_in plan n) new.seen fed) (same_frame plan old told two) f.standby;
        told = told;
        since = two;
        before = three;
        reached = subst (λ l. reached_in (replica_view fed).position l (ends_of (state_seen plan told) (map (λ topic. part_of topic r.id) l)) ≡ true) topics_are
            (subst (λ l. reached_in (replica_view fed).position topics l ≡ true)
            (is ∙ told_ends ∙ ap (λ (u : TaskId). ends_of (state_seen plan told) (map (λ topic. part_of topic u) topics)) named) reached);
      }

  -- or it stands short of them
  pub short_of_the_ends : (t : TaskId) (r fed : Replica) (topics ends given : List ℕ) → t ≡ r.id → topics ≡ changelogs_of r → IsFedStandby (setup_in plan told.frame) told.seen new.seen topics r fed →
      HasReadStable (setup_in plan told.frame) told.seen topics (replica_view fed) → ends ≡ ends_of (state_seen plan told) (map (λ topic. part_of topic t) topics) → given ≡ ends → reached_in (replica_view fed).position topics given ≡ false →
      IsShortOfTheEnds plan old new fed
  short_of_the_ends t r fed topics ends given named own f read told_ends is short =
      let logs : topics ≡ changelogs_of fed = own ∙ sym f.changelogs in
      let id : t ≡ fed.id = named ∙ sym f.fed.task in
      record {
        told = told;
        since = two;
        before = three;
        read = subst (λ l. HasReadStable (setup_in plan told.frame) told.seen l (replica_view fed)) logs read;
        short = subst (λ l. reached_in (replica_view fed).position l (ends_of (state_seen plan told) (map (λ topic. part_of topic fed.id) l)) ≡ false) logs
            (subst (λ l. reached_in (replica_view fed).position topics l ≡ false)
            (is ∙ told_ends ∙ ap (λ (u : TaskId). ends_of (state_seen plan told) (map (λ topic. part_of topic u) topics)) id) short);
      }

-- why it was given back, since an earlier moment
module _ {W : Type 0} (plan : W → TaskPlan) (old asked : PassView Entry (Frame W)) (l : Later plan old asked) where
  pub short_since : (new : PassView Entry (Frame W)) (w generation : ℕ) (r : Replica) → IsShortOfTheEnds plan asked new r → IsGivenBack plan old new w generation r
  short_since new w generation r s = inr (record { told = s.told; since = later_twice plan old asked s.told l s.since; before = s.before; read = s.read; short = s.short })

  pub is_refused : (w generation : ℕ) (t u : TaskId) → u ≡ t → committed_refusal (state_seen plan asked) w generation u ≢ None → IsRefused plan old asked w generation t
  is_refused w generation t u named some = record {
    asked = asked;
    since = l;
    before = not_later plan asked (subst (λ f. IsHistory (setup_in plan f) asked.seen) (sym (same_frame plan old asked l)) (subst (IsHistory (setup_in plan old.frame)) (sym l.seen) l.history));
    refused = subst (λ v. committed_refusal (state_seen plan asked) w generation v ≢ None) named some;
  }

-- what an answer says that was given
pub ok_said : {A E : Type 0} (r : Result A E) (x : A) (P : A → Type 0) → r ≡ Ok x → IfOk r P → P x
ok_said r x P is h = subst (λ q. IfOk q P) is h

pub free_said : {A : Type 0} (o : Option Refused) (r : Result A Refused) (x : A) → r ≡ Ok x → Refuses o r → o ≡ None
free_said o r x is h = subst (Refuses o) is h

pub refused_said : {A : Type 0} (o : Option Refused) (r : Result A Refused) (e : Refused) → r ≡ Err e → Refuses o r → o ≢ None
refused_said o r e is h none = let some : o ≡ Some e = subst (Refuses o) is h in absurd cc
