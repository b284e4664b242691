use Rattle.std.proofs.Common.{ℕ, List, Some, ap, ◌∙◌}
use Rattle.std.specs.Prelude.{is_some}
use Rattle.ks_store.proofs.Tables.{changed_at, grown, found_row}
use Rattle.ks_store.proofs.rows.put_short.Goals as goal

pub returns-clause-ok : goal.returns-clause-ok
returns-clause-ok c =
    changed_at (λ (k : List ℕ). k) c.args.rows.now.entries c.insert.new.self.entries c.of.result c.args.key.now (Some c.args.value) c.of.ensures
    c.in_ok-old.ensures.updates.1 c.in_ok-old.ensures.updates.3

pub returns-clause-len : goal.returns-clause-len
returns-clause-len c =
    grown (λ (k : List ℕ). k) c.args.rows.now.entries c.insert.new.self.entries c.of.result c.args.key.now c.in_ok-old.old c.of.ensures
    c.in_ok-old.ensures.old c.in_ok-old.ensures.len

pub returns-clause-had : goal.returns-clause-had
returns-clause-had c = c.is_some.ensures ∙ ap is_some (c.in_ok-old.ensures.old ∙ found_row (λ (k : List ℕ). k) c.args.rows.now.entries c.of.result c.args.key.now c.of.ensures)
