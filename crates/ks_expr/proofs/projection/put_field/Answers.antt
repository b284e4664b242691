use Rattle.std.proofs.Common.{sym, subst, ◌∙◌}
use Rattle.ks_record.specs.Texts.{IsName}
use Rattle.ks_expr.proofs.Refs.{set_fits, insert_fits}
use Rattle.ks_expr.proofs.projection.put_field.Goals as goal

pub returns-then-is_at-clause-fits : goal.returns-then-is_at-clause-fits
returns-then-is_at-clause-fits c = λ own all.
    let name = subst IsName (sym (c.as_bytes-name.ensures.value ∙ c.as_str.ensures.bytes)) c.as_str.ensures.name in
    set_fits c.args.fields.now.items c.find_place-place.result (c.as_bytes-name.result, c.args.field)
    (record { name = name; field = own }) all

pub returns-in_ok-insert-clause-fits : goal.returns-in_ok-insert-clause-fits
returns-in_ok-insert-clause-fits c = λ own all.
    let name = subst IsName (sym (c.as_bytes-name.ensures.value ∙ c.as_str.ensures.bytes)) c.as_str.ensures.name in
    insert_fits c.args.fields.now.items c.insert.new.self.items c.find_place-place.result (c.as_bytes-name.result, c.args.field)
    c.in_ok-insert.ensures.items (record { name = name; field = own }) all
