use Rattle.std.proofs.Common.{◌≡◌, ◌++◌, drop, map}
use Rattle.serde_json.specs.View.{items_of}
use Rattle.serde_json.specs.Written.{compact_text, items_text}
use Rattle.ks_journal.specs.Lines.{place_data, places_data}
use Rattle.ks_journal.proofs.values.push_places.Given as goal

abbrev pub invariant-loop-task : goal.invariant-loop-task
invariant-loop-task l = l.out.items ++ items_text l.later (items_of (map place_data (drop l.task-index l.places))) ≡ l.fn.out.items ++ compact_text (places_data l.places)
