use Rattle.std.proofs.Common.{◌≡◌, [], take, drop}
use Rattle.ks_plan.specs.Drafts.{draft_view, nodes_view}
use Rattle.ks_plan.specs.Faults.{nodes_fault, parts_before, origins_before}
use Rattle.ks_topo_layout.specs.Resolve.{resolved_from}
use Rattle.ks_topo.proofs.judge.judge_nodes.Given as goal

-- the rest of the nodes decides
abbrev pub invariant-loop-i : goal.invariant-loop-i
invariant-loop-i l = record {
  found : nodes_fault (draft_view l.draft) (nodes_view (take l.i l.draft.nodes)) (nodes_view (drop l.i l.draft.nodes)) ≡ nodes_fault (draft_view l.draft) [] (nodes_view l.draft.nodes);
  known : l.known.items ≡ resolved_from l.draft.topics (nodes_view (take l.i l.draft.nodes));
  parts : l.parts.items ≡ parts_before (draft_view l.draft) (nodes_view (take l.i l.draft.nodes));
  origins : l.origins.items ≡ origins_before (draft_view l.draft) (nodes_view (take l.i l.draft.nodes));
}
