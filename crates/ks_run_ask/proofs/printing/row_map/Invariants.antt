use Rattle.std.proofs.Common.{◌≡◌, drop}
use Rattle.serde_json.specs.Data.{no_members}
use Rattle.serde_json.specs.View.{members_view}
use Rattle.ks_query.specs.Printed.{put_all}
use Rattle.ks_run_ask.proofs.printing.row_map.Given as goal

abbrev pub invariant-loop-name : goal.invariant-loop-name
invariant-loop-name l = put_all (drop l.name-index l.name-items) (members_view l.map.entries) ≡ put_all l.row no_members
