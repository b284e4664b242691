use Rattle.std.proofs.Common.{◌≡◌, ◌++◌}
use Rattle.ks_cluster.specs.View.{setup_of, state_of}
use Rattle.ks_commit.specs.Sending.{Sends, adds_of, puts_of, pendings_of}
use Rattle.ks_commit.specs.Committed.{works_of, IsSending, IsSame, EachOf}
use Rattle.ks_commit.proofs.sending.send_all.Given as goal

abbrev pub invariant-loop-work : goal.invariant-loop-work
invariant-loop-work g l = record {
  whole : l.yielded ++ l.work-iterator.rest.items ≡ l.fn.works.items;
  left : EachOf (setup_of g.W.Work.plan l.fn.cluster) (state_of g.W.Work.plan l.fn.cluster) (works_of l.work-iterator.rest.items);
  sends : Sends g.W.Work.plan l.fn.cluster l.cluster l.fn.publisher.worker (adds_of (works_of l.yielded)) (puts_of (works_of l.yielded)) (pendings_of (works_of l.yielded));
  sending : IsSending (setup_of g.W.Work.plan l.cluster) (state_of g.W.Work.plan l.cluster) l.publisher;
  same : IsSame l.fn.publisher l.publisher;
}
