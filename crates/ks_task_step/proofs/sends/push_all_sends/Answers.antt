use Rattle.std.proofs.Common.{◌≡◌, ◌++◌, List, map, subst}
use Rattle.std.specs.Prelude.{OnOk}
use Rattle.ks_record.specs.Records.{Record as Rec}
use Rattle.ks_record.specs.declared.record.PartId.{PartId}
use Rattle.ks_def_tasks.specs.Rules.{rules_of}
use Rattle.ks_task_nodes.specs.Nodes.{node_view}
use Rattle.ks_task_nodes.specs.Records.{arrival_of}
use Rattle.ks_task_values.specs.Values.{items_in, olds_in, news_in}
use Rattle.ks_cache.specs.Changelogs.{stores_in}
use Rattle.ks_task_step.proofs.Quiet.{sends_go}
use Rattle.ks_task_step.proofs.sends.push_all_sends.Goals as goal

pub returns : goal.returns
returns g c =
    let step = c.args.step.now in
    let values = c.args.values.now in
    subst (λ (xs : List (PartId × Rec)). OnOk c.push_live_sends.result (c.push_live_sends.new.out ≡ c.args.out.now ++ xs))
    (sends_go (stores_in step.changelogs.now) step.partition (arrival_of step.stamped.now) (items_in values) (olds_in values) (news_in values) step.live.now (map node_view step.nodes.now)
    step.numbered step.reached c.requires.quiet.none c.requires.quiet.same (rules_of g.H.Hash128.hash_of))
    c.push_live_sends.ensures
