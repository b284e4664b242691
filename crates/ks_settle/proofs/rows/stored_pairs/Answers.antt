use Rattle.std.proofs.Common.{◌≡◌, ℕ, List, ap, subst, ◌∙◌, IfOk}
use Rattle.ks_history.specs.Machine.{latest_from}
use Rattle.ks_store.specs.Restored.{records_of}
use Rattle.ks_cluster.specs.View.{state_of}
use Rattle.ks_settle.proofs.Pairs.{kept_pairs}
use Rattle.ks_settle.proofs.rows.stored_pairs.Goals as goal

pub returns : goal.returns
returns g c =
    let e = kept_pairs (state_of g.W.Work.plan c.args.cluster.now) c.args.part c.as_slice.result.now c.restore.new.store.store (c.as_slice.ensures.value ∙ c.in_ok-recs.ensures)
    (c.in_ok-restore.ensures.ok ∙ ap (λ m. latest_from m (records_of c.as_slice.result.now)) c.new-store.ensures.store) in
    subst (λ (es : List (List ℕ × List ℕ)). IfOk c.prefix.result (λ v. v.items ≡ es)) e c.prefix.ensures
