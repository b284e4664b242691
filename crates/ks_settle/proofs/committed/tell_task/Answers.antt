use Rattle.std.proofs.Common.{sym, ap, ◌∙◌}
use Rattle.std.specs.Prelude.{option_map}
use Rattle.ks_topo.specs.Topologies.{draft_of}
use Rattle.ks_task.specs.Tasks.{task_view}
use Rattle.ks_settle.proofs.Told.{told_some}
use Rattle.ks_settle.proofs.committed.tell_task.Goals as goal

pub returns-in_ok-committed : goal.returns-in_ok-committed
returns-in_ok-committed c = record {
  of = c.in_ok-committed.ensures.task (draft_of c.args.topology.now) c.requires;
  view = told_some (draft_of c.args.topology.now) (task_view c.args.task.now) (task_view c.committed.new.self) c.id.result c.args.worked.now c.args.ends.now c.in-Some.own.now
      (c.in_ok-committed.ensures.view (draft_of c.args.topology.now) c.requires) (sym c.ends_of.ensures ∙ ap (option_map (λ e. e.now)) c.in-Some.is) c.id.ensures;
  cache = c.committed.ensures.cache;
}
