use Rattle.std.proofs.Common.{◌≡◌, false}
use Rattle.ks_worker_commit.specs.Outcomes.{UndecidedRequests}
use Rattle.ks_worker_commit.specs.Underway.{memory}
use Rattle.ks_worker_commit.proofs.committing.write_markers.Given as goal

abbrev pub invariant-loop : goal.invariant-loop
invariant-loop g l = record {
  requests : UndecidedRequests g.W.Work.plan l.fn.session.client.pass l.session.client.pass l.member.number false;
  same : memory l.session.last l.session.numbers.items l.session.ends.items ≡ memory l.fn.session.last l.fn.session.numbers.items l.fn.session.ends.items;
  gate : l.session.client.gate ≡ l.fn.session.client.gate;
}
