use Rattle.std.proofs.Common.{sym, ◌∙◌}
use Rattle.ks_row.specs.Fields.{field_seen}
use Rattle.ks_row.proofs.Kept.{looks_on}
use Rattle.ks_row.proofs.field_ref.find_field.Goals as goal

pub loop-left-preserved : goal.loop-left-preserved
loop-left-preserved c =
    looks_on c.args.name.now c.loop-left.left c.loop-left.rest.now (c.in_ok-own.own.now, field_seen c.in_ok-own.field) c.in_ok-own.more.now _
    c.loop-left-test.true c.in_ok-own.ensures (sym c.eq.ensures ∙ c.if-eq.false) c.loop-left.invariant
