-- The gate of a worker in a turn: what it counted, and how a turn that is cut off counts.
use Rattle.std.specs.Prelude.{ℕ, ◌+◌, Result, Ok, Err}
use Rattle.ks_edge.specs.Counts.{HasRoom}
use Rattle.ks_worker_client.specs.declared.halt.Halt.{Halt}
use Rattle.ks_worker_client.specs.declared.halt.Halt.TheVariants.{Cut, OutOfMemory}

-- what a gate counted since its last reset
pub record GateCounts : Type 0 where
  pub asked : ℕ
  pub stops : ℕ
  pub calls : ℕ
  pub cuts : ℕ

abbrev pub HasRoomFor : GateCounts → Type 0
HasRoomFor c = HasRoom c.asked c.stops c.calls c.cuts

abbrev pub cuts_of : Halt → ℕ
cuts_of Cut = 1
cuts_of OutOfMemory = 0

-- a call that is cut off counts one cut
abbrev pub cuts_in : {A : Type 0} → Result A Halt → ℕ
cuts_in (Ok x) = 0
cuts_in (Err halt) = cuts_of halt

abbrev pub counts_after : {A : Type 0} → GateCounts → Result A Halt → GateCounts
counts_after c result = record c { cuts = c.cuts + cuts_in result }

-- want of memory, as what ends a turn
abbrev pub with_halt : {A E : Type 0} → Result A E → Result A Halt
with_halt (Ok x) = Ok x
with_halt (Err e) = Err OutOfMemory
