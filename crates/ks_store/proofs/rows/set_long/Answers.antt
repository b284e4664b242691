use Rattle.std.proofs.Common.{ℕ, Some, refl, ap, ◌∙◌}
use Rattle.std.specs.Prelude.{is_some}
use Rattle.std.specs.Global.{Vec}
use Rattle.ks_store.proofs.Tables.{changed, grown, find_rows}
use Rattle.ks_store.proofs.rows.set_long.Goals as goal

pub returns-clause-ok : goal.returns-clause-ok
returns-clause-ok c =
    changed (λ (k : Vec ℕ). k.items) c.args.rows.now.entries c.insert.new.self.entries c.args.key.items (Some c.args.value) c.in_ok-old.ensures.updates.1 c.in_ok-old.ensures.updates.3

pub returns-clause-len : goal.returns-clause-len
returns-clause-len c =
    grown (λ (k : Vec ℕ). k.items) c.args.rows.now.entries c.insert.new.self.entries c.args.key.items c.args.key.items c.in_ok-old.old refl c.in_ok-old.ensures.old
    c.in_ok-old.ensures.len

pub returns-clause-had : goal.returns-clause-had
returns-clause-had c = c.is_some.ensures ∙ ap is_some (c.in_ok-old.ensures.old ∙ find_rows (λ (k : Vec ℕ). k.items) c.args.rows.now.entries c.args.key.items)
