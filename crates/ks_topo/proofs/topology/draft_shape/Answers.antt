use Rattle.ks_plan.specs.Drafts.{draft_view}
use Rattle.ks_topo.proofs.Shaping.{shape_is}
use Rattle.ks_topo.proofs.topology.draft_shape.Goals as goal

pub returns-clause-shape : goal.returns-clause-shape
returns-clause-shape c = let e = c.shape_of.ensures in shape_is c.shape_of.result (draft_view c.args.draft.now) c.args.known.now c.args.counts.items c.in_ok-wirings.wirings.items c.requires.known c.requires.counts c.in_ok-wirings.ensures e.counts e.wirings e.labels e.parts e.origins
