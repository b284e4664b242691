use Rattle.std.proofs.Common.{ℕ, List, None}
use Rattle.ks_store.proofs.Tables.{changed_at, shrunk}
use Rattle.ks_store.proofs.rows.take_short.Goals as goal

pub returns-clause-gone : goal.returns-clause-gone
returns-clause-gone c =
    changed_at (λ (k : List ℕ). k) c.args.rows.now.entries c.remove.new.self.entries c.of-key.result c.args.key.now None c.of-key.ensures c.remove.ensures.updates.1
    c.remove.ensures.updates.3

pub returns-clause-len : goal.returns-clause-len
returns-clause-len c =
    shrunk (λ (k : List ℕ). k) c.args.rows.now.entries c.remove.new.self.entries c.of-key.result c.args.key.now c.remove.result c.of-key.ensures c.remove.ensures.value
    c.remove.ensures.len
