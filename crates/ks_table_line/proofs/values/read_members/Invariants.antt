use Rattle.std.proofs.Common.{◌≡◌, []}
use Rattle.serde_json.specs.View.{members_view}
use Rattle.ks_table_line.specs.Reading.{members_from}
use Rattle.ks_table_line.proofs.values.read_members.Given as goal

abbrev pub invariant-loop-name : goal.invariant-loop-name
invariant-loop-name l = members_from l.members.items (members_view l.name-iterator) ≡ members_from [] (members_view l.map.entries)
