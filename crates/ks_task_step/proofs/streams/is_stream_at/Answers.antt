use Rattle.std.proofs.Common.{Option, map, ap, ◌∙◌, option_map}
use Rattle.ks_task_nodes.specs.Nodes.{TaskNode, node_view}
use Rattle.ks_task_step.specs.Streams.{is_stream_at}
use Rattle.ks_task_values.proofs.LiveValues.{kinds_there}
use Rattle.ks_task_step.proofs.streams.is_stream_at.Goals as goal

pub returns-in-Some : goal.returns-in-Some
returns-in-Some c =
    c.is_stream.ensures
    ∙ (ap (λ (o : Option TaskNode). is_stream_at (option_map (λ (x : TaskNode). x.kind) o)) c.in-Some.ensures ∙ ap is_stream_at (kinds_there (map node_view c.args.nodes.now) c.args.number))

pub returns-in-None : goal.returns-in-None
returns-in-None c =
    ap (λ (o : Option TaskNode). is_stream_at (option_map (λ (x : TaskNode). x.kind) o)) c.in-None.ensures ∙ ap is_stream_at (kinds_there (map node_view c.args.nodes.now) c.args.number)
