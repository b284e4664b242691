use Rattle.std.proofs.Common.{◌≡◌, ◌<◌, ◌≤◌, ℕ, List, length, get_or, sym, ap, ◌∙◌, arith}
use Rattle.ks_record.specs.declared.record.TaskId.{TaskId}
use Rattle.ks_group.specs.Committed.{offsets_of}
use Rattle.ks_group.specs.Places.{row_place}
use Rattle.ks_group.proofs.RowPlaces.{row-there, no_row}
use Rattle.ks_group.proofs.committed.Offsets.of.Goals as goal

pub returns-then-at-len : goal.returns-then-at-len
returns-then-at-len c =
    let rows = c.self.inside.rows.items in
    let at = c.place-at.ensures ∙ ap (row_place c.args.task) (sym c.self.view_is) in
    let there : row_place c.args.task rows < length rows = omega (arith, at, c.if-at-len.true, c.len.ensures, c.self.inside.rows.ok.0) in
    c.as_slice.ensures.value ∙ ap (λ (r : TaskId × List (ℕ × ℕ)). r.1) (c.behind-self.view_is ∙ c.index.ensures ∙ ap (λ n. get_or rows n c.index.result.now) at) ∙ row-there c.args.task rows c.index.result.now there ∙ ap (offsets_of c.args.task) c.self.view_is

pub returns : goal.returns
returns c =
    let rows = c.self.inside.rows.items in
    let at = c.place-at.ensures ∙ ap (row_place c.args.task) (sym c.self.view_is) in
    let beyond : length rows ≤ row_place c.args.task rows = omega (arith, at, c.if-at-len.false, c.len.ensures, c.self.inside.rows.ok.0) in
    sym (no_row c.args.task rows beyond) ∙ ap (offsets_of c.args.task) c.self.view_is
