use Rattle.std.proofs.Common.{ap, sym, ◌∙◌}
use Rattle.ks_store.specs.Restored.{records_of}
use Rattle.ks_store.proofs.Applied.{on_ok}
use Rattle.ks_cache.specs.Kept.{Kept, kept_after}
use Rattle.ks_cache.specs.Holdings.{kept_of}
use Rattle.ks_cache.proofs.Taking.{restored_plain}
use Rattle.ks_cache.proofs.task_store.KeptStore.restore.Goals as goal

pub returns-in-Plain : goal.returns-in-Plain
returns-in-Plain c =
    on_ok c.restore.result
    (λ e. restored_plain c.in-Plain.store c.restore.new.self (records_of c.args.recs.items) e
    ∙ ap (λ (s : Kept). kept_after s (records_of c.args.recs.items)) (ap kept_of (sym c.in-Plain.is) ∙ c.self.view_is))
    c.restore.ensures.ok
