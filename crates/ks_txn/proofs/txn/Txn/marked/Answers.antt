use Rattle.ks_txn.proofs.Markers.{marked-is}
use Rattle.ks_txn.proofs.txn.Txn.marked.Goals as goal

pub returns-in-Decided : goal.returns-in-Decided
returns-in-Decided c =
    let t = c.self.inside in
    marked-is t.epoch t.last t.parts.items t.stage c.in-Decided.epoch c.in-Decided.commit c.in-Decided.written _ c.self.view_is c.in-Decided.is
