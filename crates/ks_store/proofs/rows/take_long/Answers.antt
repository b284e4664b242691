use Rattle.std.proofs.Common.{ℕ, None, refl}
use Rattle.std.specs.Global.{Vec}
use Rattle.ks_store.proofs.Tables.{changed, shrunk}
use Rattle.ks_store.proofs.rows.take_long.Goals as goal

pub returns-clause-gone : goal.returns-clause-gone
returns-clause-gone c = changed (λ (k : Vec ℕ). k.items) c.args.rows.now.entries c.remove.new.self.entries c.args.key.now None c.remove.ensures.updates.1 c.remove.ensures.updates.3

pub returns-clause-len : goal.returns-clause-len
returns-clause-len c =
    shrunk (λ (k : Vec ℕ). k.items) c.args.rows.now.entries c.remove.new.self.entries c.args.key.now c.args.key.now c.remove.result refl c.remove.ensures.value c.remove.ensures.len
