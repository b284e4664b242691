use Rattle.std.proofs.Common.{map, option_copied, sym, ap, subst, ◌∙◌}
use Rattle.std.specs.List.{All}
use Rattle.ks_row.specs.Fields.{member_seen}
use Rattle.ks_row.specs.Spelling.{FitsMember}
use Rattle.ks_expr.specs.Eval.{with_field}
use Rattle.ks_expr.proofs.Refs.{projected_on}
use Rattle.ks_expr.proofs.projection.project.Goals as goal

pub loop-name-preserved : goal.loop-name-preserved
loop-name-preserved c = record {
  found = projected_on (map member_seen c.loop-name.fields.items) (map member_seen c.put_value.new.fields.items)
      c.as_slice-name-items.result.now c.loop-name.name-index c.loop-name-item.result (option_copied c.args.left) (option_copied c.args.right) _
      c.loop-name-test.true c.loop-name-item.is
      (c.in_ok-put_value.ensures.put ∙ ap (λ f. with_field c.loop-name-item.result.0 f (map member_seen c.loop-name.fields.items)) c.eval.ensures.value)
      c.loop-name.invariant.found;
  fits = c.in_ok-put_value.ensures.fits c.eval.ensures.fits c.loop-name.invariant.fits;
}

pub from_refs-requires : goal.from_refs-requires
from_refs-requires c = subst (λ fs. All FitsMember (map member_seen fs)) (sym c.as_slice.ensures.value) c.loop-name.invariant.fits
