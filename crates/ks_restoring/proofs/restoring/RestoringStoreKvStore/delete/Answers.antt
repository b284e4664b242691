use Rattle.std.proofs.Common.{ap, ap₂, ◌∙◌}
use Rattle.ks_def_runs.specs.Bytes.{Store}
use Rattle.ks_def_runs.specs.FinMap as fin
use Rattle.ks_history.specs.Machine.{latest_from}
use Rattle.ks_store.specs.Restored.{records_of}
use Rattle.ks_restoring.proofs.Latest.{taken_out, bounded_less}
use Rattle.ks_restoring.proofs.restoring.RestoringStoreKvStore.delete.Goals as goal

pub returns : goal.returns
returns c =
    ap₂ latest_from c.delete.ensures.gone c.take_out.ensures
    ∙ (taken_out c.self.inside.table.store c.args.key.now (records_of c.self.inside.records.items) ∙ ap (λ (m : Store). fin.remove m c.args.key.now) c.self.view_is)

pub invariant_of-self : goal.invariant_of-self
invariant_of-self c =
    bounded_less (latest_from c.self.inside.table.store (records_of c.self.inside.records.items)) (latest_from c.delete.new.self.store (records_of c.take_out.new.records.items)) c.args.key.now c.self.inside.most c.self.invariant
    (ap₂ latest_from c.delete.ensures.gone c.take_out.ensures ∙ taken_out c.self.inside.table.store c.args.key.now (records_of c.self.inside.records.items))
