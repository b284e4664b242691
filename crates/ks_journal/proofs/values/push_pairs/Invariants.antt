use Rattle.std.proofs.Common.{◌≡◌, ◌++◌, drop, map}
use Rattle.serde_json.specs.View.{items_of}
use Rattle.serde_json.specs.Written.{compact_text, items_text}
use Rattle.ks_journal.specs.Lines.{pair_data, pairs_data}
use Rattle.ks_journal.proofs.values.push_pairs.Given as goal

abbrev pub invariant-loop-pair : goal.invariant-loop-pair
invariant-loop-pair l = l.out.items ++ items_text l.later (items_of (map pair_data (drop l.pair-index l.pairs))) ≡ l.fn.out.items ++ compact_text (pairs_data l.pairs)
