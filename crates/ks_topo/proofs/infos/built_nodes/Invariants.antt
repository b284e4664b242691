use Rattle.std.proofs.Common.{◌≡◌, ◌≤◌, ◌+◌, ◌++◌, map, length}
use Rattle.std.specs.Vec.Iter.{into_iter_items}
use Rattle.ks_plan.specs.Drafts.{nodes_view}
use Rattle.ks_plan.specs.Infos.{node_place, built_view, places_from}
use Rattle.ks_topo.specs.Built.{wired_place}
use Rattle.ks_topo.proofs.infos.built_nodes.Given as goal

-- what was found and what the rest gives
abbrev pub invariant-loop-draft : goal.invariant-loop-draft
invariant-loop-draft l = record {
  places : map node_place l.nodes.items ++ places_from (wired_place l.shape l.all) l.number (into_iter_items l.draft-iterator) ≡ places_from (wired_place l.shape l.all) 0 l.fn.drafts.items;
  views : map built_view l.nodes.items ++ nodes_view (into_iter_items l.draft-iterator) ≡ nodes_view l.fn.drafts.items;
  count : l.number + length (into_iter_items l.draft-iterator) ≤ 64;
}
