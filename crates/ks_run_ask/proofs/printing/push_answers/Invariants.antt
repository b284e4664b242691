use Rattle.std.proofs.Common.{◌≡◌, ◌++◌, drop}
use Rattle.std.specs.List.{flat_map}
use Rattle.ks_run_ask.specs.Texts.{answer_line}
use Rattle.ks_run_ask.proofs.printing.push_answers.Given as goal

abbrev pub invariant-loop-answer : goal.invariant-loop-answer
invariant-loop-answer l = l.text.items ++ flat_map answer_line (drop l.answer-index l.answers) ≡ l.fn.text.items ++ flat_map answer_line l.answers
