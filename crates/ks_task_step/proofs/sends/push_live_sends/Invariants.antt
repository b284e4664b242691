use Rattle.std.proofs.Common.{◌≡◌, ◌++◌, map, length}
use Rattle.ks_def_tasks.specs.Rules.{rules_of}
use Rattle.ks_task_nodes.specs.Nodes.{node_view}
use Rattle.ks_task_nodes.specs.Reach.{at_numbers}
use Rattle.ks_task_nodes.specs.Records.{arrival_of}
use Rattle.ks_task_values.specs.Values.{items_in, olds_in, news_in}
use Rattle.ks_task_processing.specs.Steps.{sends_by}
use Rattle.ks_cache.specs.Changelogs.{stores_in}
use Rattle.ks_task_step.proofs.sends.push_live_sends.Given as goal

abbrev pub invariant-loop-rest : goal.invariant-loop-rest
invariant-loop-rest g l =
    l.out ++ at_numbers (sends_by (rules_of g.H.Hash128.hash_of) (map node_view l.step.nodes.now) (stores_in l.step.changelogs.now) l.step.partition (arrival_of l.step.stamped.now) (items_in l.values) (olds_in l.values) (news_in l.values)) (map node_view l.step.nodes.now) l.rest
    ≡ l.initial.out ++ at_numbers (sends_by (rules_of g.H.Hash128.hash_of) (map node_view l.step.nodes.now) (stores_in l.step.changelogs.now) l.step.partition (arrival_of l.step.stamped.now) (items_in l.values) (olds_in l.values) (news_in l.values)) (map node_view l.step.nodes.now) l.step.live.now

abbrev pub decreases-loop-rest : goal.decreases-loop-rest
decreases-loop-rest g l = length l.rest
