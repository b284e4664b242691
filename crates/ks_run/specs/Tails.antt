-- What a run has to say behind its tables, by its settings and its question.
use Rattle.std.specs.Prelude.{Bool, true, false, Option, Some, None}
use Rattle.ks_iq.specs.declared.fault.IqFault.{IqFault}
use Rattle.ks_run_workers.specs.declared.workers.Asked.{Asked}
use Rattle.ks_run_end.specs.declared.tail.Tail.{Tail}
use Rattle.ks_run_end.specs.declared.tail.Tail.TheVariants.{Nothing, Lines, Answers, Refusal}

-- by whether the journal's lines are wanted, what the topology has against a question, and what was answered to one
abbrev pub tail_of : Bool → Option IqFault → Option Asked → Tail
tail_of shown (Some fault) asked = Refusal fault
tail_of shown None (Some asked) = Answers asked.ask asked.answers
tail_of true None None = Lines
tail_of false None None = Nothing
