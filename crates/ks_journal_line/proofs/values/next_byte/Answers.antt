use Rattle.std.proofs.Common.{◌∙◌, sym}
use Rattle.ks_journal_line.proofs.Bytes.{two_digits}
use Rattle.ks_journal_line.proofs.values.next_byte.Goals as goal

pub returns-in_ok-byte-in-len2-up-clause-some : goal.returns-in_ok-byte-in-len2-up-clause-some
returns-in_ok-byte-in-len2-up-clause-some c = two_digits c.args.text.now c.in_ok-byte-in-len2-up.byte c.in-len2-up.len_at_least (sym c.byte_from.ensures ∙ c.in_ok-byte-in-len2-up.was)
