use Rattle.std.proofs.Common.{◌≡◌, ap, ap₂, subst, ◌∙◌}
use Rattle.std.specs.Prelude.{IfOk}
use Rattle.ks_def_runs.specs.Prefixes.{pairs_under}
use Rattle.ks_history.specs.Machine.{latest_from}
use Rattle.ks_store.specs.Restored.{records_of}
use Rattle.ks_restoring.specs.Waiting.{overlaid}
use Rattle.ks_restoring.proofs.Laid.{Pairs, laid}
use Rattle.ks_restoring.proofs.restoring.RestoringStoreKvStore.prefix.Goals as goal

pub returns : goal.returns
returns c =
    let front = c.args.front.now in
    subst (λ (l : Pairs). IfOk c.prefix-3.result (λ v. v.items ≡ l))
    (ap (pairs_under front) (c.in_ok-write_records.ensures.ok ∙ ap₂ latest_from (c.in_ok-lay_pairs.ensures ∙ ap₂ overlaid c.in_ok-prefix.ensures c.new-merged.ensures) (ap records_of c.deref.ensures.value))
    ∙ (laid front c.self.inside.table.store (records_of c.self.inside.records.items) ∙ ap (pairs_under front) c.self.view_is))
    c.prefix-3.ensures
