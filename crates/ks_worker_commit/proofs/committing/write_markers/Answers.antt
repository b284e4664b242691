use Rattle.std.proofs.Common.{refl, ◌∙◌}
use Rattle.ks_worker_commit.proofs.Requesting.{undecided_none, undecided_then}
use Rattle.ks_worker_commit.proofs.Carrying.{ok_gate}
use Rattle.ks_worker_commit.proofs.committing.write_markers.Goals as goal

pub loop-init : goal.loop-init
loop-init g c = record { requests = undecided_none g.W.Work.plan _ c.args.member.number; same = refl; gate = refl }

pub loop-preserved : goal.loop-preserved
loop-preserved g c = record {
  requests = undecided_then g.W.Work.plan _ _ _ _ c.loop.invariant.requests c.write_marker.ensures.requests;
  same = c.write_marker.ensures.same ∙ c.loop.invariant.same;
  gate = ok_gate _ _ _ c.write_marker.result c.in-Ok-true.field-0 c.in-Ok-true.is c.write_marker.ensures.gate c.loop.invariant.gate;
}

pub returns-in-Ok-false-clause-requests : goal.returns-in-Ok-false-clause-requests
returns-in-Ok-false-clause-requests g c = undecided_then g.W.Work.plan _ _ _ _ c.loop.invariant.requests c.write_marker.ensures.requests

pub returns-in-Err-clause-requests : goal.returns-in-Err-clause-requests
returns-in-Err-clause-requests g c = undecided_then g.W.Work.plan _ _ _ _ c.loop.invariant.requests c.write_marker.ensures.requests
