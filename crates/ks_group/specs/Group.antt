-- A group as contracts see it, and its part of the refusals and of what requests do.
use Rattle.std.specs.Prelude.{ℕ, ◌+◌, ◌==◌, if◌then◌else◌, Bool, Option, Some, None, List, [], get_or, set, map}
use Rattle.ks_record.specs.declared.record.TaskId.{TaskId}
use Rattle.ks_record.specs.declared.assignment.Assignment.{Assignment}
use Rattle.ks_record.specs.declared.assignment.Refused.{Refused}
use Rattle.ks_record.specs.declared.assignment.Refused.TheVariants.{OldGeneration, NotAssigned}
use Rattle.ks_history.specs.declared.transaction.Pending.{Pending}
use Rattle.ks_history.specs.State.{without_number, with_pending}
use Rattle.ks_history.specs.Step.{or_else, place_in, bad_assignment, with_late}
use Rattle.ks_group.specs.Committed.{row_with}
use Rattle.ks_group.specs.Held.{held_without}
use Rattle.ks_group.specs.Pending.{unstable_in, counts_for}

-- the pending offsets of a producer stand at its number; held positions stand by worker, and then in the order in which they were told
pub record GroupView : Type 0 where
  pub tasks : List TaskId
  pub generation : ℕ
  pub members : List ℕ
  pub assignment : Option Assignment
  pub held : List (ℕ × TaskId × ℕ)
  pub pending : List (List Pending)
  pub offsets : List (TaskId × List (ℕ × ℕ))
  pub late : ℕ

abbrev pub pending_in : GroupView → ℕ → List Pending
pending_in g w = get_or g.pending w []

-- ---- refusals (KIP-447)
-- the generation isn't the present one
abbrev pub generation_fault : ℕ → ℕ → Option Refused
generation_fault now g = if g == now then None else Some (OldGeneration now)

abbrev pub owner_at : Option Assignment → List ℕ → TaskId → Option ℕ
owner_at assignment members t = elim assignment [ None ↦ None | Some a ↦ place_in t members a.active ]

-- the owner isn't this worker
abbrev pub owner_fault : Option ℕ → ℕ → Option Refused
owner_fault owner w = elim owner [ None ↦ Some (NotAssigned None) | Some v ↦ if v == w then None else Some (NotAssigned (Some v)) ]

-- a worker may not speak for a task
abbrev pub speak_fault : GroupView → ℕ → ℕ → TaskId → Option Refused
speak_fault g w generation t = or_else (generation_fault g.generation generation) (owner_fault (owner_at g.assignment g.members t) w)

-- a worker may not speak for a task, or a producer, but for one, has offsets pending for it
abbrev pub settled_fault : GroupView → ℕ → ℕ → TaskId → Option ℕ → Option Refused
settled_fault g w generation t except = or_else (speak_fault g w generation t) (unstable_in t (counts_for except) 0 g.pending)

-- committed offsets of a task may not be read
abbrev pub committed_fault : GroupView → ℕ → ℕ → TaskId → Option Refused
committed_fault g w generation t = settled_fault g w generation t None

-- offsets of a task may not be pended: for its own a producer doesn't count
abbrev pub pend_fault : GroupView → ℕ → ℕ → TaskId → Option Refused
pend_fault g w generation t = settled_fault g w generation t (Some w)

abbrev pub assign_fault : GroupView → ℕ → Assignment → Option Refused
assign_fault g generation a = or_else (generation_fault g.generation generation) (bad_assignment g.tasks g.members a.active)

-- ---- what requests leave
-- the next generation, without an assignment
abbrev pub next_generation : GroupView → GroupView
next_generation g = record g { generation = g.generation + 1; assignment = None }

abbrev pub expired : GroupView → ℕ → GroupView
expired g w = record (next_generation g) { members = without_number w g.members; held = held_without w g.held }

-- with this assignment, unless it has one
abbrev pub assigned : GroupView → Assignment → GroupView
assigned g a = elim g.assignment [ None ↦ record g { assignment = Some a } | Some b ↦ g ]

abbrev pub pended : GroupView → ℕ → Pending → GroupView
pended g w new = record g { pending = set g.pending w (with_pending new (pending_in g w)) }

-- a producer's pending offsets are committed or dropped
abbrev pub resolved : GroupView → ℕ → Bool → GroupView
resolved g w commit = record g {
  pending = set g.pending w [];
  offsets = if commit then map (row_with (pending_in g w)) g.offsets else g.offsets;
  late = if commit then with_late g.late (pending_in g w) else g.late;
}
