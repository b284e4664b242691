use Rattle.std.proofs.Common.{◌≡◌, ◌≤◌, drop}
use Rattle.ks_worker_commit.specs.Underway.{memory, AreSent}
use Rattle.ks_commit.specs.Committed.{works_of}
use Rattle.ks_worker_commit.specs.Outputs.{put_works}
use Rattle.ks_worker_commit.proofs.sending.append_part.Given as goal

abbrev pub invariant-loop-i : goal.invariant-loop-i
invariant-loop-i g l = record {
  sent : AreSent g.W.Work.plan l.fn.session.client.pass l.session.client.pass l.member.number l.member.epoch l.member.generation (memory l.fn.session.last l.fn.session.numbers.items l.fn.session.ends.items) (memory l.session.last l.session.numbers.items l.session.ends.items)
      (put_works l.part (works_of (drop l.i l.works))) (put_works l.part (works_of l.works));
  gate : l.session.client.gate ≡ l.fn.session.client.gate;
}
