use Rattle.std.proofs.Common.{ap, ◌∙◌}
use Rattle.ks_store.specs.Restored.{records_of}
use Rattle.ks_restoring.proofs.Latest.{put_last, own_bound}
use Rattle.ks_restoring.proofs.restoring.RestoringStoreKvStore.put.Goals as goal

pub returns-clause-ok : goal.returns-clause-ok
returns-clause-ok c =
    put_last c.args.self.now c.write_waiting.new.table.store c.put.new.self.store (records_of c.write_waiting.new.records.items) c.args.key.now c.args.value.now (c.write_waiting.ensures.same ∙ c.self.view_is) (ap records_of c.in_ok-write_waiting.ensures.none) c.in_ok-put.ensures.ok

pub invariant_of-self-2 : goal.invariant_of-self-2
invariant_of-self-2 c = own_bound c.put.new.self.store (records_of c.write_waiting.new.records.items) c.len-self-inside.result (ap records_of c.in_ok-write_waiting.ensures.none) c.len-self-inside.ensures
