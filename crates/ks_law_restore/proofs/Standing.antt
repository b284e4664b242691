-- A task that follows, in one state of the cluster.
use Rattle.std.proofs.Common.{◌≡◌, ℕ, ◌≤◌, Bool, true, false, cond, List, [], length, refl, sym, ap, ◌∙◌}
use Rattle.ks_def_runs.specs.Bytes.{empty_store}
use Rattle.ks_record.specs.declared.record.PartId.{PartId}
use Rattle.ks_record.specs.declared.record.TaskId.{TaskId}
use Rattle.ks_def_runs.specs.Run.{sent_to}
use Rattle.ks_history.specs.declared.journal.Entry.{Entry}
use Rattle.ks_history.specs.Partition.{stable, readable, past_from, below}
use Rattle.ks_history.specs.Machine.{Stores, network, reader_of, part_of, has_topic, batch, IsNetwork}
use Rattle.ks_history.specs.State.{State, Setup}
use Rattle.ks_history.specs.Faithful.{fold as fold_of, folds, taken, count_in, outcome, capped}
use Rattle.ks_history.specs.Follows.{TaskView}
use Rattle.ks_history.specs.History.{at}
use Rattle.ks_law_exactly_once.proofs.Stores.{local-other}
use Rattle.ks_law_restore.specs.Views.{Stands, IsPast}

-- all but its positions
pub record Standing (setup : Setup) (s : State) (v : TaskView) : Type 0 where
  pub kept : (topic : ℕ) → has_topic topic (setup.plan.inputs v.task.sub) ≡ true → v.kept topic ≡ s.committed v.task topic
  pub committed : (topic : ℕ) → has_topic topic (setup.plan.inputs v.task.sub) ≡ true → s.committed v.task topic ≤ v.inputs topic
  pub stable : (topic : ℕ) → has_topic topic (setup.plan.inputs v.task.sub) ≡ true → v.inputs topic ≤ stable (s.partition (part_of topic v.task))
  pub order : (topic : ℕ) → count_in topic v.order ≡ length (taken setup s v.task v.inputs topic)
  pub stores : v.stores ≡ (outcome setup s v.task v.inputs v.order).store
  pub made : (q : PartId) → v.made q ≡ sent_to (network setup.plan) q (outcome setup s v.task v.inputs v.order).made
  pub late : v.late ≡ capped (outcome setup s v.task v.inputs v.order).late

-- its positions
abbrev pub Passed : Setup → State → TaskView → Type 0
Passed setup s v = (topic : ℕ) → has_topic topic (setup.plan.changelogs v.task.sub) ≡ true → IsPast s (part_of topic v.task) (v.position topic)

module _ (setup : Setup) (net : IsNetwork setup.plan) where
  -- a task has no store but those of its changelogs
  other_store : (s : State) (t : TaskId) (upto : ℕ → ℕ) (order : List (ℕ × ℕ)) (topic : ℕ) → has_topic topic (setup.plan.changelogs t.sub) ≡ false → (outcome setup s t upto order).store topic ≡ empty_store
  other_store s t upto order topic h =
      local-other setup.plan net t topic h (folds setup s t) (batch t (taken setup s t upto) order)
      ∙ ap (λ b. cond b (fold_of s (part_of topic t)) empty_store) h

  pub standing : (journal : List Entry) (v : TaskView) → Stands setup journal v → Standing setup (at setup journal) v
  standing journal v stands = record {
    kept = stands.0.kept;
    committed = stands.0.committed;
    stable = stands.0.stable;
    order = stands.0.order;
    stores = λ i topic. by topic (has_topic topic (setup.plan.changelogs v.task.sub)) refl i;
    made = stands.0.made;
    late = stands.0.late;
  }
    where
      by : (topic : ℕ) (b : Bool) → has_topic topic (setup.plan.changelogs v.task.sub) ≡ b → v.stores topic ≡ (outcome setup (at setup journal) v.task v.inputs v.order).store topic
      by topic true h = stands.0.stores topic h
      by topic false h = stands.1 topic h ∙ sym (other_store (at setup journal) v.task v.inputs v.order topic h)

  pub passed : (journal : List Entry) (v : TaskView) → Stands setup journal v → Passed setup (at setup journal) v
  passed journal v stands topic h = record { past = stands.0.past topic h; reached = stands.0.reached topic h }

  pub stands_of : (journal : List Entry) (v : TaskView) → Standing setup (at setup journal) v → Passed setup (at setup journal) v → Stands setup journal v
  stands_of journal v standing passed = (
    record {
      kept = standing.kept;
      committed = standing.committed;
      stable = standing.stable;
      order = standing.order;
      past = λ topic h. (passed topic h).past;
      reached = λ topic h. (passed topic h).reached;
      stores = λ topic h. ap (λ (m : Stores). m topic) standing.stores;
      made = standing.made;
      late = standing.late;
    },
    λ topic h. ap (λ (m : Stores). m topic) standing.stores ∙ other_store (at setup journal) v.task v.inputs v.order topic h,
  )

  -- each topic of its inputs is read by the task
  pub reads_own : (t : TaskId) (topic : ℕ) → has_topic topic (setup.plan.inputs t.sub) ≡ true → reader_of setup.plan (part_of topic t) ≡ t
  reads_own t topic h = λ i. record { sub = net.one_reader t.sub topic h i; part = t.part }

-- offsets of inputs alone matter
pub taken_same : (setup : Setup) (s : State) (t : TaskId) (one other : ℕ → ℕ) → ((topic : ℕ) → has_topic topic (setup.plan.inputs t.sub) ≡ true → one topic ≡ other topic) → taken setup s t one ≡ taken setup s t other
taken_same setup s t one other same = λ i topic. by topic (has_topic topic (setup.plan.inputs t.sub)) (same topic) i
  where
    by : (topic : ℕ) (b : Bool) → (b ≡ true → one topic ≡ other topic) →
        cond b (past_from (s.committed t topic) (below (one topic) (readable (s.partition (part_of topic t))))) []
        ≡ cond b (past_from (s.committed t topic) (below (other topic) (readable (s.partition (part_of topic t))))) []
    by topic true f = ap (λ n. past_from (s.committed t topic) (below n (readable (s.partition (part_of topic t))))) (f refl)
    by topic false f = refl
