use Rattle.std.proofs.Common.{◌∙◌}
use Rattle.ks_query.proofs.Put.{put_on}
use Rattle.ks_run_ask.proofs.printing.row_map.Goals as goal

pub loop-name-preserved : goal.loop-name-preserved
loop-name-preserved c =
    put_on _ _ _ _ _ _ _ _ c.loop-name-test.true c.loop-name-item.is (c.in_ok-name.ensures.ok ∙ c.as_str.ensures.bytes) c.in_ok-field_value.ensures
    c.in_ok-insert.ensures.entries c.loop-name.invariant
