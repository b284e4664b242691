use Rattle.std.proofs.Common.{◌≡◌, []}
use Rattle.serde_json.specs.View.{members_view}
use Rattle.ks_job_topology.specs.Topology.{topics_from}
use Rattle.ks_job_topology.proofs.topology.read_topic_list.Given as goal

abbrev pub invariant-loop-name : goal.invariant-loop-name
invariant-loop-name l = topics_from l.topics.items (members_view l.name-iterator) ≡ topics_from [] (members_view l.map.entries)
