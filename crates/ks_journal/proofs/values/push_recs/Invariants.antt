use Rattle.std.proofs.Common.{◌≡◌, ◌++◌, drop, map}
use Rattle.serde_json.specs.View.{items_of}
use Rattle.serde_json.specs.Written.{compact_text, items_text}
use Rattle.ks_journal.specs.Lines.{rec_data, recs_data}
use Rattle.ks_journal.proofs.values.push_recs.Given as goal

abbrev pub invariant-loop-place : goal.invariant-loop-place
invariant-loop-place l = l.out.items ++ items_text l.later (items_of (map rec_data (drop l.place l.recs))) ≡ l.fn.out.items ++ compact_text (recs_data l.recs)
