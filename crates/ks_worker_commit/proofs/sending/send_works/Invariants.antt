use Rattle.std.proofs.Common.{◌≡◌, ◌≤◌, drop}
use Rattle.ks_worker_commit.specs.Underway.{memory, AreSent}
use Rattle.ks_history.specs.History.{at}
use Rattle.ks_history.specs.Touched.{touched}
use Rattle.ks_shared.specs.Calls.{setup_in}
use Rattle.ks_commit.specs.Committed.{works_of}
use Rattle.ks_worker_commit.specs.Outputs.{send_all}
use Rattle.ks_worker_commit.proofs.sending.send_works.Given as goal

abbrev pub invariant-loop-i : goal.invariant-loop-i
invariant-loop-i g l = record {
  sent : AreSent g.W.Work.plan l.fn.session.client.pass l.session.client.pass l.member.number l.member.epoch l.member.generation (memory l.fn.session.last l.fn.session.numbers.items l.fn.session.ends.items) (memory l.session.last l.session.numbers.items l.session.ends.items)
      (send_all (works_of (drop l.i l.works))) (send_all (works_of l.works));
  gate : l.session.client.gate ≡ l.fn.session.client.gate;
  told : 1 ≤ l.i → touched l.member.number l.session.client.pass.seen ≡ l.session.last;
  generation : 1 ≤ l.i → (at (setup_in g.W.Work.plan l.fn.session.client.pass.frame) l.session.client.pass.seen).generation ≡ l.member.generation;
}
