-- Where the records of a topology's tasks go, as their transactions want it: each input is named once, and all that a task makes goes
-- to partitions of the cluster.
use Rattle.std.specs.Prelude.{◌≡◌, ℕ, ◌<◌, true, Some, List, slice_get}
use Rattle.ks_plan.specs.Drafts.{DraftView}
use Rattle.ks_plan.specs.Plan.{Plan, plan_of}
use Rattle.ks_plan.specs.declared.node.Topic.{Topic}
use Rattle.ks_plan.specs.Layout.{parts_of_topic, number_of, drain_order, reads, tasks}
use Rattle.ks_plan.specs.Infos.{input_numbers}
use Rattle.ks_history.specs.Machine.{has_topic}
use Rattle.ks_history.specs.State.{has_task}
use Rattle.ks_def_tasks.specs.Messages.{Rules}
use Rattle.ks_law_topology.specs.WellFormed.{IsWellFormed}
use Rattle.ks_law_topology.specs.Work.{setup_of}
use Rattle.ks_law_restore.specs.Views.{are_topics_once, SendsInside}

-- no subtopology has an input twice
abbrev pub InputsAreOnce : Type 0
InputsAreOnce = (p : Plan) (sub : ℕ) → are_topics_once (input_numbers p sub) ≡ true

-- the tasks of a well-formed topology send to partitions of its cluster alone
abbrev pub TopologiesSendInside : Type 0
TopologiesSendInside = (rules : Rules) (d : DraftView) → IsWellFormed d → SendsInside (setup_of rules (plan_of d))

-- each partition of each topic of the drain order is an input of one task: that of this partition, of the subtopology that reads the
-- topic
abbrev pub PartitionsAreRead : Type 0
PartitionsAreRead = (d : DraftView) → IsWellFormed d →
    let p = plan_of d in
    (i : ℕ) (t : Topic) (part : ℕ) → slice_get (drain_order p) i ≡ Some t → part < parts_of_topic p t →
    record {
      task : has_task (record { sub = reads p t; part = part }) (tasks p) ≡ true;
      input : has_topic (number_of p t) (input_numbers p (reads p t)) ≡ true;
    }
