use Rattle.std.proofs.Common.{Some, ap, sym, ◌∙◌}
use Rattle.std.proofs.lemmas.Option.{slice_get-get_or}
use Rattle.ks_plan.specs.declared.node.Node.{Node}
use Rattle.ks_plan.specs.Plan.{name_place}
use Rattle.ks_oracle.specs.Found.{answers_of}
use Rattle.ks_oracle.specs.Printing.{names_of}
use Rattle.ks_oracle.proofs.Plans.{named_is}
use Rattle.ks_oracle.proofs.printing.table_named.Goals as goal

pub returns : goal.returns
returns c =
    let l = c.in-Some.ensures.lookup in
    named_is c.args.nodes.now (answers_of c.args.found.now) c.args.name.now c.in_ok-clone.field-0 c.place_of-place.result c.in-Some.node.now c.of.result
    (c.place_of-place.ensures ∙ ap (name_place (names_of c.args.nodes.now)) c.as_slice.ensures) (slice_get-get_or c.args.nodes.now c.place_of-place.result c.in-Some.node.now l.3.0 ∙ ap (λ (n : Node). Some n) (sym l.1)) c.in_ok-clone.ensures.cases (c.of.ensures ∙ c.in_ok-rows.ensures)
