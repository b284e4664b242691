use Rattle.ks_worker_commit.proofs.ByKind.{marker_requests, marker_never_barred, waits_as, wrote_as}
use Rattle.ks_worker_commit.proofs.Requesting.{marker_cuts}
use Rattle.ks_worker_commit.proofs.requests.write_marker.Goals as goal

pub returns-clause-requests : goal.returns-clause-requests
returns-clause-requests g c = marker_requests g.W.Work.plan _ _ c.args.member.number c.write_marker.result c.write_marker.ensures.answered

pub returns-clause-none : goal.returns-clause-none
returns-clause-none g c = waits_as g.W.Work.plan _ _ c.args.member.number _ c.write_marker.result c.is_written.ensures c.write_marker.ensures.answered

pub returns-clause-wrote : goal.returns-clause-wrote
returns-clause-wrote g c = wrote_as g.W.Work.plan _ _ c.args.member.number _ c.write_marker.result c.is_written.ensures c.write_marker.ensures.answered

pub returns-clause-done : goal.returns-clause-done
returns-clause-done g c = marker_never_barred _ c.write_marker.result c.is_written.ensures

pub returns-clause-gate : goal.returns-clause-gate
returns-clause-gate g c = marker_cuts _ _ c.write_marker.result _ c.is_written.ensures c.write_marker.ensures.gate
