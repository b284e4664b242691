use Rattle.std.proofs.Common.{◌≡◌, [], ◌++◌}
use Rattle.ks_cluster.specs.View.{setup_of, state_of}
use Rattle.ks_commit.specs.Sending.{Sends, adds_in, puts_in}
use Rattle.ks_commit.specs.Committed.{IsSending, IsSame}
use Rattle.ks_commit.proofs.sending.put_all.Given as goal

abbrev pub invariant-loop-out : goal.invariant-loop-out
invariant-loop-out g l = record {
  whole : l.yielded ++ l.out-iterator.rest.items ≡ l.fn.outputs.items;
  sends : Sends g.W.Work.plan l.fn.cluster l.cluster l.fn.publisher.worker (adds_in l.yielded) (puts_in l.task l.yielded) [];
  sending : IsSending (setup_of g.W.Work.plan l.cluster) (state_of g.W.Work.plan l.cluster) l.publisher;
  same : IsSame l.fn.publisher l.publisher;
}
