use Rattle.std.proofs.Common.{ap}
use Rattle.ks_store.specs.Restored.{records_of}
use Rattle.ks_restoring.proofs.Latest.{new_bound}
use Rattle.ks_restoring.proofs.restoring.RestoringStore.new.Goals as goal

pub invariant_of-result : goal.invariant_of-result
invariant_of-result c = new_bound c.new.result.store (records_of c.new-2.result.items) c.new.ensures.store (ap records_of c.new-2.ensures.items)
