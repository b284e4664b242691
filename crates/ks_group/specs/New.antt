-- A new group, and how calls that may be refused answer.
use Rattle.std.specs.Prelude.{◌≡◌, Option, Some, None, Result, Ok, Err, List, [], map, replicate}
use Rattle.ks_record.specs.declared.assignment.Refused.{Refused}
use Rattle.ks_group.specs.declared.committed.TaskInputs.{TaskInputs}
use Rattle.ks_group.specs.Committed.{none_committed}
use Rattle.ks_group.specs.Group.{GroupView}

abbrev pub new_group : List TaskInputs → GroupView
new_group tasks = record {
  tasks = map (λ (t : TaskInputs). t.task) tasks;
  generation = 0;
  members = [];
  assignment = None;
  held = [];
  pending = replicate 17 [];
  offsets = map (λ (t : TaskInputs). (t.task, none_committed t.inputs.items)) tasks;
  late = 0;
}

-- a call is refused so, or not at all
abbrev pub Refuses : {A : Type 0} → Option Refused → Result A Refused → Type 0
Refuses refusal (Ok x) = refusal ≡ None
Refuses refusal (Err refused) = refusal ≡ Some refused
