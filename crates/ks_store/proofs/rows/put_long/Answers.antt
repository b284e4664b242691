use Rattle.std.proofs.Common.{ℕ, Some, ap, ◌∙◌}
use Rattle.std.specs.Prelude.{is_some}
use Rattle.std.specs.Global.{Vec}
use Rattle.ks_store.proofs.Tables.{changed, kept_len, some_found, find_rows}
use Rattle.ks_store.proofs.rows.put_long.Goals as goal

pub returns-in-Some-clause-ok : goal.returns-in-Some-clause-ok
returns-in-Some-clause-ok c =
    let written = c.get_mut.follows.holds c.args.value in
    let up = written.3 (some_found (c.in-Some.ensures.value)) in
    changed (λ (k : Vec ℕ). k.items) c.args.rows.now.entries (c.get_mut.follows.lender c.args.value).entries c.args.key.now (Some c.args.value) up.1 up.3

pub returns-in-Some-clause-len : goal.returns-in-Some-clause-len
returns-in-Some-clause-len c =
    kept_len (λ (k : Vec ℕ). k.items) c.args.rows.now.entries (c.get_mut.follows.lender c.args.value).entries c.args.key.now c.in-Some.place.now (c.get_mut.follows.holds c.args.value).2
    c.in-Some.ensures.value

pub returns-in-Some-clause-had : goal.returns-in-Some-clause-had
returns-in-Some-clause-had c = ap is_some (c.in-Some.ensures.value ∙ find_rows (λ (k : Vec ℕ). k.items) c.args.rows.now.entries c.args.key.now)
