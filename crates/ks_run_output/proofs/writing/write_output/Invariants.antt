use Rattle.std.proofs.Common.{◌≡◌, ℕ, ◌-◌, ◌≤◌, take, length, List}
use Rattle.std.specs.Prelude.{Option}
use Rattle.std.specs.Io.KnownBytes.{Appends}
use Rattle.ks_run_output.proofs.writing.write_output.Given as goal

-- so far a front of the text was appended, and the sink has not failed
pub record WroteFront (held_old held_new : Option (List ℕ)) (faults_old faults_new : ℕ) (text : List ℕ) (at : ℕ) : Type 0 where
  pub within : at ≤ length text
  pub front : Appends held_old held_new (take at text)
  pub kept : faults_new ≡ faults_old

abbrev pub invariant-loop-at : goal.invariant-loop-at
invariant-loop-at g l = WroteFront (g.K.Sink.held l.fn.out) (g.K.Sink.held l.out) (g.K.Sink.faults l.fn.out) (g.K.Sink.faults l.out) l.text l.at

abbrev pub decreases-loop-at : goal.decreases-loop-at
decreases-loop-at g l = length l.text - l.at
