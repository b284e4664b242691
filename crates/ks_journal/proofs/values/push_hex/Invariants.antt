use Rattle.std.proofs.Common.{◌≡◌, ◌++◌, drop}
use Rattle.ks_journal.specs.Lines.{hex}
use Rattle.ks_journal.proofs.values.push_hex.Given as goal

abbrev pub invariant-loop-byte : goal.invariant-loop-byte
invariant-loop-byte l = l.out.items ++ hex (drop l.byte-index l.bytes) ≡ l.fn.out.items ++ hex l.bytes
