use Rattle.std.proofs.Common.{ℕ, List, [], ◌∷◌, ◌++◌, ap, ap₂, ◌∙◌}
use Rattle.std.specs.FinMap.Entries.{find}
use Rattle.ks_def_runs.specs.Bytes.{by_bytes}
use Rattle.ks_store.proofs.Tables.{held_none, held_some}
use Rattle.ks_store.proofs.rows.push_row.Goals as goal

pub returns-in_ok-push-in-Some : goal.returns-in_ok-push-in-Some
returns-in_ok-push-in-Some c =
    held_some (find by_bytes c.args.key.now c.args.rows.now.rows) c.args.key.now c.in-Some.value.now c.args.found.now.items c.push.new.self.items
    (c.in-Some.ensures ∙ ap (λ (k : List ℕ). find by_bytes k c.args.rows.now.rows) c.as_slice.ensures)
    (c.in_ok-push-in-Some.ensures.items ∙ ap₂ (λ (k v : List ℕ). c.args.found.now.items ++ (k, v) ∷ []) c.in_ok-key-in-Some.ensures.cases c.in_ok-value-in-Some.ensures.cases)

pub returns-in-None : goal.returns-in-None
returns-in-None c =
    held_none (find by_bytes c.args.key.now c.args.rows.now.rows) c.args.key.now c.args.found.now.items
    (c.in-None.ensures ∙ ap (λ (k : List ℕ). find by_bytes k c.args.rows.now.rows) c.as_slice.ensures)
