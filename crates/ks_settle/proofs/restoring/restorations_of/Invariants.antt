use Rattle.std.proofs.Common.{◌≡◌, take, List}
use Rattle.std.specs.List.{All}
use Rattle.ks_history.specs.declared.journal.Entry.{Entry}
use Rattle.ks_history.specs.State.{Setup}
use Rattle.ks_settle.specs.Restored.{names_in, AreGiven}
use Rattle.ks_settle.specs.Restoring.{IsReplicaAt}
use Rattle.ks_settle.proofs.restoring.restorations_of.Given as goal

-- the names so far, and what is given to them
abbrev pub invariant-loop-name : goal.invariant-loop-name
invariant-loop-name l = record {
  names : names_in l.all.items ≡ take l.name-index l.names;
  given : (setup : Setup) (journal : List Entry) → All (IsReplicaAt setup journal) l.fn.replicas.items →
      All (IsReplicaAt setup journal) l.left.items × AreGiven setup journal l.all.items;
}
