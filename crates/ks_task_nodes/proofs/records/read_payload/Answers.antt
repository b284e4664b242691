use Rattle.std.proofs.Common.{◌≡◌, sym, subst}
use Rattle.std.specs.Prelude.{IfOk, map, option_map}
use Rattle.ks_record.specs.Records.{record_seen}
use Rattle.ks_plan.specs.Plan.{Kind}
use Rattle.ks_plan.specs.declared.node.Topic.{Topic}
use Rattle.ks_def_tasks.specs.Bytes.{regrouped_in}
use Rattle.ks_task_nodes.specs.Nodes.{kinds_in, node_view}
use Rattle.ks_task_nodes.specs.Records.{message_of, message_from}
use Rattle.ks_task_nodes.proofs.Numbers.{kind_there}
use Rattle.ks_task_nodes.proofs.records.read_payload.Goals as goal

pub returns-in-Some : goal.returns-in-Some
returns-in-Some c =
    let nodes = c.args.nodes.now in
    subst (λ (u : Topic). IfOk c.read_repartitioned.result (λ o. option_map message_of o ≡ message_from (kinds_in (map node_view nodes)) u (record_seen c.args.rec))) (sym c.in-Repartition.is)
    (subst (λ (k : Kind). IfOk c.read_repartitioned.result (λ o. option_map message_of o ≡ regrouped_in k (record_seen c.args.rec))) (sym (kind_there nodes c.in-Repartition.number c.in-Some.ensures.lookup.3.0 c.in-Some.node.now c.in-Some.ensures.lookup.3.1)) c.read_repartitioned.ensures)
