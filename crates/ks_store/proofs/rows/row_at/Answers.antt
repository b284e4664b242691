use Rattle.std.proofs.Common.{ap, ◌∙◌, Some}
use Rattle.ks_store.proofs.rows.row_at.Goals as goal

pub returns-in-Some : goal.returns-in-Some
returns-in-Some c = ap Some c.as_slice.ensures ∙ c.in-Some.ensures

pub returns-in-None : goal.returns-in-None
returns-in-None c = c.in-None.ensures
