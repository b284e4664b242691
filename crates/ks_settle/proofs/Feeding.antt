-- A replica is fed a changelog up to its end, and a task is made of it.
use Rattle.std.proofs.Common.{◌≡◌, ◌≢◌, ℕ, zero, suc, ◌+◌, ◌<◌, ◌≤◌, Bool, true, false, cond, List, [], ◌∷◌, ◌++◌, length, map, refl, sym, ap, ap₂, subst, ◌∙◌, arith, append-nil, None}
use Rattle.std.specs.Prelude.{◌==◌, ◌-◌, slice_index}
use Rattle.std.proofs.lemmas.Bool.{eqb-true, eqb-false, eq-eqb, or_left, or_right}
use Rattle.ks_record.specs.Records.{Record as Rec}
use Rattle.ks_record.specs.declared.record.TaskId.{TaskId}
use Rattle.ks_plan.specs.Drafts.{DraftView}
use Rattle.ks_plan.specs.Plan.{plan_of}
use Rattle.ks_plan.specs.Layout.{tasks}
use Rattle.ks_plan.specs.Infos.{input_numbers, changelog_numbers}
use Rattle.ks_history.specs.declared.journal.Entry.{Entry}
use Rattle.ks_history.specs.declared.partition.Slot.{Slot}
use Rattle.ks_history.specs.Partition.{stable, read_next}
use Rattle.ks_history.specs.Machine.{TaskPlan, part_of, has_topic}
use Rattle.ks_history.specs.State.{Setup, IsPart, with_number, has_task, offset_in}
use Rattle.ks_history.specs.Reads.{MayFetch, fetched, end_of, committed_refusal, committed_offsets}
use Rattle.ks_history.specs.Follows.{TaskView, ReplicaView, ReplicaFollows}
use Rattle.ks_history.specs.History.{at, IsHistory}
use Rattle.ks_history.specs.Touched.{touched}
use Rattle.ks_law_restore.specs.Replicas.{fresh_replica, fed_replica, restored_view}
use Rattle.ks_law_restore.proofs.Replicas.{replica_starts}
use Rattle.ks_law_restore.specs.Views.{Stands}
use Rattle.ks_cluster.specs.View.{ClusterView, setup_of, state_of}
use Rattle.ks_commit.specs.declared.publisher.Publisher.{Publisher}
use Rattle.ks_commit.specs.Committed.{IsReady}
use Rattle.ks_commit.proofs.Free.{can_read}
use Rattle.ks_commit.proofs.Slots.{is_stable}
use Rattle.ks_standby.specs.declared.replica.Replica.{Replica}
use Rattle.ks_standby.specs.Replicas.{replica_view, changelogs_of, GivesFetched, FollowsOn}
use Rattle.ks_task.specs.declared.task.Task.{Task}
use Rattle.ks_task.specs.Tasks.{task_view, IsTaskOf}
use Rattle.ks_task.specs.Restored.{IsRestored}
use Rattle.ks_task.proofs.Restoring.{made_is_restored, listed_topics}
use Rattle.ks_settle.specs.Drained.{HasTasksOf, Rests}
use Rattle.ks_settle.specs.Restoring.{IsQuiet, IsReplicaOf, IsFed, IsFedOn, IsFedTo, HasReachedFirst}
use Rattle.ks_settle.proofs.Fetching.{fetched_is}
use Rattle.ks_settle.proofs.Ordering.{place_of_number}

has_place : (ns : List ℕ) (i : ℕ) → i < length ns → has_topic (slice_index ns i) ns ≡ true
has_place [] i lt = absurd (omega (arith, lt))
has_place (n ∷ ns) zero lt = or_left (n == n) (has_topic n ns) (eq-eqb n n refl)
has_place (n ∷ ns) (suc i) lt = or_right (slice_index ns i == n) (has_topic (slice_index ns i) ns) (has_place ns i (omega (arith, lt)))

-- a fetch goes on no further than the stable offset
moves_on : (from : ℕ) (slots : List Slot) → from ≤ stable slots → (from ≤ read_next from 4096 slots) × (read_next from 4096 slots ≤ stable slots)
moves_on from slots low = let f = fetched_is from 4096 slots low (omega arith) in (omega (arith, f.later, f.moved), f.stable)

-- what stands between two fetches of a changelog
pub record Feeding (setup : Setup) (journal : List Entry) (topic : ℕ) (moved : Bool) (old now : Replica) : Type 0 where
  pub fed : IsFed setup journal old.id old now
  pub ends : moved ≡ false → end_of (at setup journal) (part_of topic old.id) ≤ (replica_view now).position topic

module _ {W : Type 0} (plan : W → TaskPlan) (c : ClusterView W) (quiet : IsQuiet plan c) (history : IsHistory (setup_of plan c) c.journal) where
  abbrev setup : Setup
  setup = setup_of plan c

  -- between two transactions all is stable
  all_stable : (t : TaskId) (topic : ℕ) → stable ((state_of plan c).partition (part_of topic t)) ≡ end_of (state_of plan c) (part_of topic t)
  all_stable t topic = is_stable setup c.journal quiet.may.network history quiet.idle (part_of topic t)

  module _ (topic : ℕ) (r : Replica) (own : has_topic topic (setup.plan.changelogs r.id.sub) ≡ true) (of : IsReplicaOf setup c.journal r.id r) where
    pub may_feed : (id : TaskId) (from : ℕ) → id ≡ r.id → from ≡ (replica_view r).position topic → MayFetch setup (state_of plan c) (part_of topic id) from 4096
    may_feed id from is at = record {
      part = subst (λ (u : TaskId). IsPart setup (part_of topic u)) (sym is) (quiet.may.made.changelogs r.id topic of.known own);
      within = subst (λ (u : TaskId). from ≤ length ((state_of plan c).partition (part_of topic u))) (sym is) (omega (arith, at, of.within topic));
      some = omega arith;
    }

    -- a fetch that doesn't move it
    pub stays : (id : TaskId) (from next : ℕ) → id ≡ r.id → from ≡ (replica_view r).position topic → next ≡ (fetched (state_of plan c) (part_of topic id) from 4096).1 → next ≡ from → IsFedOn setup c.journal r.id topic false r r
    stays id from next is at n same = record {
      fed = record { of = of; on = λ u. omega arith };
      ends = λ _.
          let slots = (state_of plan c).partition (part_of topic r.id) in
          let low : from ≤ stable slots = omega (arith, at, of.within topic, all_stable r.id topic) in
          let f = fetched_is from 4096 slots low (omega arith) in
          let e : (fetched (state_of plan c) (part_of topic r.id) from 4096).1 ≡ from = sym (n ∙ ap (λ (u : TaskId). (fetched (state_of plan c) (part_of topic u) from 4096).1) is) ∙ same in
          omega (arith, f.stops e, at, all_stable r.id topic);
      moves = λ no. absurd cc;
    }

    -- one that does
    pub goes_on : (id : TaskId) (from next : ℕ) (recs : List (ℕ × Rec)) (new : Replica) → id ≡ r.id → from ≡ (replica_view r).position topic → recs ≡ (fetched (state_of plan c) (part_of topic id) from 4096).0 → next ≡ (fetched (state_of plan c) (part_of topic id) from 4096).1 → next ≢ from →
        replica_view new ≡ fed_replica (replica_view r) topic recs next → changelogs_of new ≡ changelogs_of r → (GivesFetched setup c.journal (replica_view r) topic recs next → FollowsOn setup c.journal (replica_view r) (replica_view new)) → IsFedOn setup c.journal r.id topic true r new
    goes_on id from next recs new is at got n ne view same follows = record {
      fed = record {
        of = record {
          task = ap (λ (v : ReplicaView). v.task) view;
          known = of.known;
          changelogs = same ∙ of.changelogs ∙ ap (λ (u : TaskId). setup.plan.changelogs u.sub) (sym (ap (λ (v : ReplicaView). v.task) view));
          follows = follows gives of.follows;
          within = λ u. subst (λ (p : ℕ → ℕ). p u ≤ end_of (state_of plan c) (part_of u r.id)) (sym positions) (stands u (u == topic) refl);
        };
        on = λ u. subst (λ (p : ℕ → ℕ). (replica_view r).position u ≤ p u) (sym positions) (later u (u == topic) refl);
      };
      ends = λ no. absurd cc;
      moves = λ _. subst (λ (p : ℕ → ℕ). (replica_view r).position topic + 1 ≤ p topic) (sym positions) (moved (topic == topic) refl);
    }
      where
        from_there : (recs, next) ≡ fetched (state_of plan c) (part_of topic r.id) ((replica_view r).position topic) 4096
        from_there =
            ap₂ (λ (l : List (ℕ × Rec)) (k : ℕ). (l, k)) got n ∙ ap (λ (u : TaskId). fetched (state_of plan c) (part_of topic u) from 4096) is ∙ ap (λ k. fetched (state_of plan c) (part_of topic r.id) k 4096) at

        gives : GivesFetched setup c.journal (replica_view r) topic recs next
        gives = record { limit = 4096; some = omega arith; changelog = own; gives = from_there }

        positions : (replica_view new).position ≡ with_number (replica_view r).position topic next
        positions = ap (λ (v : ReplicaView). v.position) view

        here : next ≡ (fetched (state_of plan c) (part_of topic r.id) ((replica_view r).position topic) 4096).1
        here = ap (λ (g : List (ℕ × Rec) × ℕ). g.1) from_there

        step : ((replica_view r).position topic ≤ next) × (next ≤ end_of (state_of plan c) (part_of topic r.id))
        step =
            let m = moves_on ((replica_view r).position topic) ((state_of plan c).partition (part_of topic r.id)) (omega (arith, of.within topic, all_stable r.id topic)) in
            (omega (arith, here, m.0), omega (arith, here, m.1, all_stable r.id topic))

        high : next ≤ end_of (state_of plan c) (part_of topic r.id)
        high = step.1

        above : (replica_view r).position topic + 1 ≤ next
        above = let apart : next ≢ (replica_view r).position topic = λ e. ne (e ∙ sym at) in omega (arith, step.0, apart)

        stands : (u : ℕ) (b : Bool) → (u == topic) ≡ b → cond b next ((replica_view r).position u) ≤ end_of (state_of plan c) (part_of u r.id)
        stands u true e = subst (λ k. next ≤ end_of (state_of plan c) (part_of k r.id)) (sym (eqb-true u topic e)) high
        stands u false e = of.within u

        later : (u : ℕ) (b : Bool) → (u == topic) ≡ b → (replica_view r).position u ≤ cond b next ((replica_view r).position u)
        later u true e = omega (arith, above, ap (replica_view r).position (eqb-true u topic e))
        later u false e = omega arith

        moved : (b : Bool) → (topic == topic) ≡ b → (replica_view r).position topic + 1 ≤ cond b next ((replica_view r).position topic)
        moved true e = above
        moved false e = absurd (eqb-false topic topic e refl)

  -- ---- one fetch after another
  pub not_fed : (topic : ℕ) (r : Replica) → IsReplicaOf setup c.journal r.id r → Feeding setup c.journal topic true r r
  not_fed topic r of = record { fed = record { of = of; on = λ u. omega arith }; ends = λ no. absurd cc }

  pub still_replica : (topic : ℕ) (moved : Bool) (old now : Replica) → Feeding setup c.journal topic moved old now → IsReplicaOf setup c.journal now.id now
  still_replica topic moved old now f = subst (λ (u : TaskId). IsReplicaOf setup c.journal u now) (sym f.fed.of.task) f.fed.of

  pub still_own : (topic : ℕ) (moved : Bool) (old now : Replica) → Feeding setup c.journal topic moved old now → has_topic topic (setup.plan.changelogs old.id.sub) ≡ true → has_topic topic (setup.plan.changelogs now.id.sub) ≡ true
  still_own topic moved old now f own = subst (λ (u : TaskId). has_topic topic (setup.plan.changelogs u.sub) ≡ true) (sym f.fed.of.task) own

  named : (topic : ℕ) (was moved : Bool) (old now new : Replica) → Feeding setup c.journal topic was old now → IsFedOn setup c.journal now.id topic moved now new → IsFedOn setup c.journal old.id topic moved now new
  named topic was moved old now new f on = subst (λ (u : TaskId). IsFedOn setup c.journal u topic moved now new) f.fed.of.task on

  pub fed_more : (topic : ℕ) (was moved : Bool) (old now new : Replica) → Feeding setup c.journal topic was old now → IsFedOn setup c.journal now.id topic moved now new → Feeding setup c.journal topic moved old new
  fed_more topic was moved old now new f on =
      let step = named topic was moved old now new f on in
      record { fed = record { of = step.fed.of; on = λ u. omega (arith, f.fed.on u, step.fed.on u) }; ends = step.ends }

  pub comes_nearer : (topic : ℕ) (was moved : Bool) (old now new : Replica) → was ≡ true → Feeding setup c.journal topic was old now → IsFedOn setup c.journal now.id topic moved now new →
      (end_of (state_of plan c) (part_of topic old.id) - (replica_view new).position topic) + cond moved 1 0 < (end_of (state_of plan c) (part_of topic old.id) - (replica_view now).position topic) + cond was 1 0
  comes_nearer topic was moved old now new reading f on = by moved refl
    where
      step : IsFedOn setup c.journal old.id topic moved now new
      step = named topic was moved old now new f on

      by : (b : Bool) → moved ≡ b → (end_of (state_of plan c) (part_of topic old.id) - (replica_view new).position topic) + cond b 1 0 < (end_of (state_of plan c) (part_of topic old.id) - (replica_view now).position topic) + cond was 1 0
      by true is = omega (arith, step.moves is, step.fed.of.within topic, ap {B = ℕ} (λ b. cond b 1 0) reading)
      by false is = omega (arith, step.fed.on topic, ap {B = ℕ} (λ b. cond b 1 0) reading)

  -- ---- one changelog after another
  pub new_replica : (t : TaskId) (changelogs : List ℕ) (r : Replica) → has_task t c.tasks ≡ true → changelogs ≡ setup.plan.changelogs t.sub → replica_view r ≡ fresh_replica t → changelogs_of r ≡ changelogs → HasReachedFirst setup c.journal t changelogs 0 r
  new_replica t changelogs r there own view is = record {
    of = record {
      task = ap (λ (v : ReplicaView). v.task) view;
      known = there;
      changelogs = is ∙ own ∙ ap (λ (u : TaskId). setup.plan.changelogs u.sub) (sym (ap (λ (v : ReplicaView). v.task) view));
      follows = subst (ReplicaFollows setup c.journal) (sym view) (replica_starts setup c.journal t);
      within = λ topic. omega (arith, ap (λ (v : ReplicaView). v.position topic) view);
    };
    ends = λ k lt. absurd (omega (arith, lt));
  }

  pub own_changelog : (t : TaskId) (changelogs : List ℕ) (i : ℕ) (r : Replica) → changelogs ≡ setup.plan.changelogs t.sub → i < length changelogs → HasReachedFirst setup c.journal t changelogs i r → has_topic (slice_index changelogs i) (setup.plan.changelogs r.id.sub) ≡ true
  own_changelog t changelogs i r own lt was =
      subst (λ l. has_topic (slice_index changelogs i) l ≡ true) (own ∙ ap (λ (u : TaskId). setup.plan.changelogs u.sub) (sym was.of.task)) (has_place changelogs i lt)

  pub own_replica : (t : TaskId) (changelogs : List ℕ) (i : ℕ) (r : Replica) → HasReachedFirst setup c.journal t changelogs i r → IsReplicaOf setup c.journal r.id r
  own_replica t changelogs i r was = subst (λ (u : TaskId). IsReplicaOf setup c.journal u r) (sym was.of.task) was.of

  pub one_reached : (t : TaskId) (changelogs : List ℕ) (i : ℕ) (r new : Replica) → HasReachedFirst setup c.journal t changelogs i r → IsFedTo setup c.journal r.id (slice_index changelogs i) r new → HasReachedFirst setup c.journal t changelogs (i + 1) new
  one_reached t changelogs i r new was to = record {
    of = step.fed.of;
    ends = λ k lt. by k lt (k == i) refl;
  }
    where
      step : IsFedTo setup c.journal t (slice_index changelogs i) r new
      step = subst (λ (u : TaskId). IsFedTo setup c.journal u (slice_index changelogs i) r new) was.of.task to

      by : (k : ℕ) → k < i + 1 → (b : Bool) → (k == i) ≡ b → end_of (state_of plan c) (part_of (slice_index changelogs k) t) ≤ (replica_view new).position (slice_index changelogs k)
      by k lt true e = subst (λ j. end_of (state_of plan c) (part_of (slice_index changelogs j) t) ≤ (replica_view new).position (slice_index changelogs j)) (sym (eqb-true k i e)) step.ends
      by k lt false e = let ne : (k ≡ i → ⊥) = eqb-false k i e in omega (arith, was.ends k (omega (arith, lt, ne)), step.fed.on (slice_index changelogs k))

  -- ---- the task of a replica that has reached all
  pub task_rests : (d : DraftView) (p : Publisher) (t : TaskId) (changelogs : List ℕ) (r : Replica) (offsets : List (ℕ × ℕ)) (task : Task) → IsReady setup (state_of plan c) p → has_task t c.tasks ≡ true → changelogs ≡ setup.plan.changelogs t.sub →
      HasReachedFirst setup c.journal t changelogs (length changelogs) r → offsets ≡ committed_offsets setup (state_of plan c) t → IsTaskOf d task → task_view task ≡ restored_view (replica_view r) (λ topic. offset_in 0 topic offsets) → Rests d setup c.journal 0 task
  task_rests d p t changelogs r offsets task ready there own reached given of view = (
    of,
    record {
      stands = stands;
      known = ap (λ (u : TaskId). has_task u c.tasks) (ap (λ (v : TaskView). v.task) view ∙ reached.of.task) ∙ there;
      clean = record { kept = λ topic h. sym (restored.clean topic); made = λ q. ap (λ (v : TaskView). v.made q) view };
      drained = λ u lt h. absurd (omega (arith, lt));
    },
  )
    where
      w : ℕ
      w = p.worker

      all : c.journal ++ [] ++ [] ≡ c.journal
      all = append-nil (c.journal ++ []) ∙ append-nil c.journal

      ends : (topic : ℕ) → has_topic topic (setup.plan.changelogs r.id.sub) ≡ true → end_of (at setup (c.journal ++ [])) (part_of topic r.id) ≤ (replica_view r).position topic
      ends topic h =
          let place = place_of_number topic changelogs (subst (λ l. has_topic topic l ≡ true) (ap (λ (u : TaskId). setup.plan.changelogs u.sub) reached.of.task ∙ sym own) h) in
          let here : end_of (state_of plan c) (part_of topic t) ≤ (replica_view r).position topic =
          subst (λ n. end_of (state_of plan c) (part_of n t) ≤ (replica_view r).position n) place.2 (reached.ends place.0 place.1) in
          omega (arith, here, ap (λ (l : List Entry). end_of (at setup l) (part_of topic r.id)) (append-nil c.journal), ap (λ (u : TaskId). end_of (state_of plan c) (part_of topic u)) reached.of.task)

      restored : IsRestored setup c.journal w p.generation (touched w c.journal) (task_view task)
      restored = subst (λ (l : List Entry). IsRestored setup l w p.generation (touched w c.journal) (task_view task)) all
          (made_is_restored setup c.journal [] [] w p.generation (touched w c.journal) r offsets task
          (record {
            network = quiet.may.network;
            history = subst (IsHistory setup) (sym all) history;
            seen = record { generation = omega (arith, ready.alone.generation); place = omega arith };
            answered = subst (λ (u : TaskId). committed_refusal (state_of plan c) w p.generation u ≡ None) (sym reached.of.task) (can_read setup (state_of plan c) w p.epoch p.generation t ready.alone there);
            offsets_are = given ∙ ap (committed_offsets setup (state_of plan c)) (sym reached.of.task);
            changelogs = reached.of.changelogs;
            reached = ends;
            follows = subst (λ (l : List Entry). ReplicaFollows setup l (replica_view r)) (sym all) reached.of.follows;
          })
          view)

      stands : Stands setup c.journal (task_view task)
      stands = restored.active.follows ready.alone.generation refl

  -- what making the task asks
  pub own_parts : (d : DraftView) (t : TaskId) (changelogs : List ℕ) (i : ℕ) (r : Replica) (offsets : List (ℕ × ℕ)) → HasTasksOf plan d c → has_task t c.tasks ≡ true → HasReachedFirst setup c.journal t changelogs i r → offsets ≡ committed_offsets setup (state_of plan c) t →
      (has_task r.id (tasks (plan_of d)) ≡ true) × (changelogs_of r ≡ changelog_numbers (plan_of d) r.id.sub) × (map (λ (o : ℕ × ℕ). o.0) offsets ≡ input_numbers (plan_of d) r.id.sub)
  own_parts d t changelogs i r offsets of there was given = (
    ap (λ (u : TaskId). has_task u (tasks (plan_of d))) was.of.task ∙ ap (has_task t) (sym of.tasks) ∙ there,
    was.of.changelogs ∙ of.changelogs r.id.sub,
    ap (map (λ (o : ℕ × ℕ). o.0)) given ∙ listed_topics ((state_of plan c).committed t) (setup.plan.inputs t.sub) ∙ of.inputs t.sub ∙ ap (λ (u : TaskId). input_numbers (plan_of d) u.sub) (sym was.of.task),
  )
