use Rattle.std.proofs.Common.{List, ap, sym, subst}
use Rattle.ks_cache.specs.declared.changelogs.Changelog.{Changelog}
use Rattle.ks_task.specs.Views.{IsTask, view_of}
use Rattle.ks_task.proofs.task.Task.write_waiting.Goals as goal

pub returns-clause-task : goal.returns-clause-task
returns-clause-task c =
    let t = c.args.self.now in
    λ d is. subst (λ (ls : List Changelog). IsTask d t.id t.nodes.items t.inputs.items ls t.made t.cache) (sym c.apply_changelogs.ensures) is

pub returns-clause-view : goal.returns-clause-view
returns-clause-view c =
    let t = c.args.self.now in
    ap (λ (ls : List Changelog). view_of t.id t.inputs.items ls t.order.items t.made t.late) c.apply_changelogs.ensures
