use Rattle.std.proofs.Common.{◌≡◌, ◌++◌, ◌∷◌, map}
use Rattle.std.specs.Vec.Iter.{into_iter_items, into_iter_len}
use Rattle.ks_run_workers.proofs.Left.{HaveLeft}
use Rattle.ks_run_workers.proofs.closing.passes_of.Given as goal

abbrev pub invariant-loop-member : goal.invariant-loop-member
invariant-loop-member g l = record {
  passes : l.passes.items ++ map (λ m. m.worker.state.session.client.pass) (into_iter_items l.rest) ≡ l.fn.first ∷ map (λ m. m.worker.state.session.client.pass) l.fn.members.items;
  left : HaveLeft g.W.Work.plan l.fn.members.items (into_iter_items l.rest) l.fn.replicas.items l.replicas.items;
  last : l.last ≡ l.fn.last;
}

abbrev pub decreases-loop-member : goal.decreases-loop-member
decreases-loop-member g l = into_iter_len l.rest
