use Rattle.std.proofs.Common.{◌≡◌, ℕ, List, ap, sym, subst, ◌∙◌}
use Rattle.std.specs.Prelude.{IfOk}
use Rattle.ks_def_runs.specs.Bytes.{Store}
use Rattle.ks_store.specs.Groups.{groups_of, listed_under}
use Rattle.ks_def_runs.specs.Prefixes.{pairs_under}
use Rattle.ks_store.specs.Rows.{rows_for}
use Rattle.ks_store.proofs.Tables.{store_in, under_front, rows_under}
use Rattle.ks_store.proofs.Fronted.{under_own, begun_has}
use Rattle.ks_store.proofs.table.Table.seek.Goals as goal

pub returns-then-is_front : goal.returns-then-is_front
returns-then-is_front c =
    let rows = c.self.inside.rows.rows in
    let front = c.args.front.now in
    let keys = listed_under front (groups_of c.self.inside.groups.entries) in
    let own = c.self.invariant.0.0.0 front in
    let e = ap (rows_for rows) (c.in_ok-keys.ensures ∙ sym (under_own front keys own.1))
    ∙ (rows_under front rows keys own.0
    (λ q b has. under_front rows (groups_of c.self.inside.groups.entries) front q c.self.invariant.0.0.1 (begun_has front q (sym c.is_front.ensures ∙ c.if-is_front.true) b) has)
    ∙ ap (λ (m : Store). pairs_under front m) (ap store_in c.self.view_is)) in
    subst (λ (found : List (List ℕ × List ℕ)). IfOk c.rows_at.result (λ v. v.items ≡ found)) e c.rows_at.ensures

pub returns : goal.returns
returns c = subst (λ (m : Store). IfOk c.rows_under.result (λ v. v.items ≡ pairs_under c.args.front.now m)) (ap store_in c.self.view_is) c.rows_under.ensures
