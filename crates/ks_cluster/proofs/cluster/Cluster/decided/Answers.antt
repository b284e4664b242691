use Rattle.std.proofs.Common.{◌≡◌, ap, ◌∙◌, subst}
use Rattle.ks_history.specs.Reads.{decided_records}
use Rattle.ks_log.specs.Written.{slots_in}
use Rattle.ks_log.specs.Reading.{waiting_in, decided_pairs}
use Rattle.ks_cluster.specs.View.{state_of}
use Rattle.ks_cluster.proofs.Readings.{decided-are}
use Rattle.ks_cluster.proofs.cluster.Cluster.decided.Goals as goal

pub returns : goal.returns
returns g c =
    let b = c.self.inside.broker in
    let part = c.args.part in
    c.in_ok-made.ensures
    ∙ ap (λ l. decided_pairs (waiting_in c.as_slice.result.now part) 0 l) c.part-slots.ensures
    ∙ ap (λ ps. decided_pairs (waiting_in ps part) 0 (slots_in part b.log)) (c.as_slice.ensures.value ∙ c.in_ok-producers.ensures)
    ∙ subst (λ v. decided_pairs (waiting_in b.txns part) 0 (slots_in part b.log) ≡ decided_records (state_of g.W.Work.plan v) part) c.self.view_is (decided-are _ _ b part c.self.invariant.follows.stands)
