use Rattle.std.proofs.Common.{◌≡◌, ◌+◌, ◌++◌, map, length, ◌≤◌, ◌-◌, ◌^◌}
use Rattle.ks_history.specs.Faithful.{capped}
use Rattle.ks_task_nodes.specs.Nodes.{node_view}
use Rattle.ks_task_nodes.specs.Reach.{at_numbers}
use Rattle.ks_task_nodes.specs.Records.{arrival_of}
use Rattle.ks_task_values.specs.Values.{items_in, olds_in, news_in}
use Rattle.ks_task_processing.specs.Steps.{recs_by, late_at_numbers}
use Rattle.ks_cache.specs.Changelogs.{stores_in}
use Rattle.ks_task_step.proofs.processing.push_live_changelog_records.Given as goal

abbrev pub invariant-loop-rest : goal.invariant-loop-rest
invariant-loop-rest l =
    ((l.out ++ at_numbers (recs_by l.step.partition (stores_in l.step.changelogs.now) (arrival_of l.step.stamped.now) (items_in l.values) (olds_in l.values) (news_in l.values)) (map node_view l.step.nodes.now) l.rest
    ≡ l.initial.out ++ at_numbers (recs_by l.step.partition (stores_in l.step.changelogs.now) (arrival_of l.step.stamped.now) (items_in l.values) (olds_in l.values) (news_in l.values)) (map node_view l.step.nodes.now) l.step.live.now)
    × (capped (l.late + late_at_numbers (stores_in l.step.changelogs.now) (arrival_of l.step.stamped.now) (items_in l.values) (map node_view l.step.nodes.now) l.rest)
    ≡ capped (late_at_numbers (stores_in l.step.changelogs.now) (arrival_of l.step.stamped.now) (items_in l.values) (map node_view l.step.nodes.now) l.step.live.now)))
    × (l.late ≤ 2 ^ 64 - 1)

abbrev pub decreases-loop-rest : goal.decreases-loop-rest
decreases-loop-rest l = length l.rest
