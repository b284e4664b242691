use Rattle.std.proofs.Common.{◌≡◌, ◌∷◌, ◌++◌, map, refl, sym, subst, Some}
use Rattle.ks_history.specs.History.{IsPrefix}
use Rattle.ks_growing.specs.Passes.{Each}
use Rattle.ks_shared.specs.Calls.{frame_of}
use Rattle.ks_run_workers.specs.Asked.{option_list}
use Rattle.ks_run_workers.proofs.LockPasses.{closing, with_last_long, first_is}
use Rattle.ks_run_workers.proofs.Left.{all_standbys, last_is}
use Rattle.ks_run_workers.proofs.closing.close_with.Goals as goal

pub close-cluster-requires : goal.close-cluster-requires
close-cluster-requires g c =
    let rest = map (λ m. m.worker.state.session.client.pass) c.args.members.items ++ option_list c.args.last in
    let all = closing c.args.shared.growing.id c.args.shared.growing.passes c.args.first rest c.in-Ok.passes.items c.in-Ok.ensures.passes c.requires.first c.requires.passes
    (with_last_long (λ m. m.worker.state.session.client.pass) c.args.members.items c.args.last c.args.last c.args.shared.growing.passes refl c.requires.all) in
    record { count = (all.0, all.1); passes = all.2 }

pub returns : goal.returns
returns g c = record {
  history = c.is_history.ensures.history;
  last = last_is (λ p. IsPrefix p.seen c.close-cluster.result.journal × (p.frame ≡ Some (frame_of c.close-cluster.result))) (c.args.first ∷ map (λ m. m.worker.state.session.client.pass) c.args.members.items) c.args.last
      (λ k p at. (
        subst (Each (λ n q. IsPrefix q.seen c.close-cluster.result.journal)) c.in-Ok.ensures.passes (λ n q there. let front = c.close-cluster.ensures.seen n q there in (front.0, sym front.1)) k p at,
        subst (Each (λ n q. q.frame ≡ Some (frame_of c.close-cluster.result))) c.in-Ok.ensures.passes c.close-cluster.ensures.frames k p at,
      ));
  frame = c.close-cluster.ensures.frame;
  reserved = c.close-cluster.ensures.reserved c.args.first (first_is _ _ _ c.in-Ok.ensures.passes);
  replicas = all_standbys g.W.Work.plan c.args.shared.growing.first c.close-cluster.result c.args.members.items c.args.first (option_list c.args.last) c.in-Ok.passes.items c.new-replicas.result.items c.passes_of.new.replicas.items
      c.requires.workers c.close-cluster.ensures.frame c.in-Ok.ensures.passes c.close-cluster.ensures.frames (λ k p at. let front = c.close-cluster.ensures.seen k p at in (front.0, sym front.1)) c.is_history.ensures.history c.new-replicas.ensures.items c.in-Ok.ensures.replicas;
}
