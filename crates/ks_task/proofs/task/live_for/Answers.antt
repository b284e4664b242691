use Rattle.std.proofs.Common.{List, subst}
use Rattle.std.specs.Prelude.{IfOk, slice_get}
use Rattle.ks_plan.specs.declared.node.Topic.{Topic}
use Rattle.ks_task.specs.Views.{AreLiveAt}
use Rattle.ks_task.proofs.task.live_for.Goals as goal

pub returns : goal.returns
returns c = subst (λ (ts : List Topic). IfOk c.live_at.result (λ v. AreLiveAt c.args.nodes.now (slice_get ts c.args.topic) v.items)) c.purposes.ensures c.live_at.ensures
