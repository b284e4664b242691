use Rattle.std.proofs.Common.{◌∙◌}
use Rattle.ks_def_runs.specs.FinMap as fin
use Rattle.ks_history.specs.Machine.{latest_from}
use Rattle.ks_store.specs.Restored.{records_of}
use Rattle.ks_restoring.proofs.Latest.{is_there, changed_by}
use Rattle.ks_restoring.proofs.waiting.change_by.Goals as goal

pub returns-in-Some-clause-len : goal.returns-in-Some-clause-len
returns-in-Some-clause-len c =
    let m = latest_from c.args.table.now.store (records_of c.args.before.now) in
    changed_by m c.args.rec.now.key c.args.rec.now.value c.in-Some.key.now c.is_some.result c.is_some-in-Some.result c.change_of.result c.in-Some.ensures
    (c.is_some.ensures ∙ is_there c.value.result c.args.rec.now.value c.value.ensures)
    (c.is_some-in-Some.ensures ∙ is_there c.value_after.result (fin.get m c.in-Some.key.now) c.value_after.ensures)
    c.change_of.ensures.change
