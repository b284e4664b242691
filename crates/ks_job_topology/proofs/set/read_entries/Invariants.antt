use Rattle.std.proofs.Common.{◌≡◌, []}
use Rattle.serde_json.specs.View.{members_view}
use Rattle.ks_job_topology.specs.Nodes.{set_from}
use Rattle.ks_job_topology.proofs.Nodes.{set_seen}
use Rattle.ks_job_topology.proofs.set.read_entries.Given as goal

abbrev pub invariant-loop-name : goal.invariant-loop-name
invariant-loop-name l = set_from l.sides (set_seen l.fields.items) (members_view l.name-iterator) ≡ set_from l.sides [] (members_view l.object.entries)
