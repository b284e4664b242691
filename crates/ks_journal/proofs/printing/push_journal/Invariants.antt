use Rattle.std.proofs.Common.{◌≡◌, ◌++◌, drop}
use Rattle.ks_journal.specs.Lines.{journal_text}
use Rattle.ks_journal.proofs.printing.push_journal.Given as goal

abbrev pub invariant-loop-entry : goal.invariant-loop-entry
invariant-loop-entry l = l.out.items ++ journal_text (drop l.entry-index l.entries) ≡ l.fn.out.items ++ journal_text l.entries
