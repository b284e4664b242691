use Rattle.std.proofs.Common.{◌∙◌}
use Rattle.ks_txn.proofs.Markers.{waiting-is}
use Rattle.ks_txn.proofs.txn.Txn.waiting.Goals as goal

pub returns-in-Decided : goal.returns-in-Decided
returns-in-Decided c =
    let t = c.self.inside in
    waiting-is t.epoch t.last t.parts.items t.stage c.in-Decided.epoch c.in-Decided.commit c.in-Decided.written _ _ c.self.view_is c.in-Decided.is (c.len.ensures ∙ t.parts.ok.0)
