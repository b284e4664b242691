use Rattle.ks_store.proofs.Tables.{held_more_shown}
use Rattle.ks_store.proofs.rows.rows_at.Goals as goal

pub loop-key-preserved : goal.loop-key-preserved
loop-key-preserved c =
    held_more_shown c.args.rows.now.rows c.args.keys.items c.deref-key-items.result.now c.loop-key.found.items c.push_row.new.found.items c.loop-key.key-index c.loop-key-item.result
    c.deref-key-items.ensures.value c.loop-key-test.true c.loop-key-item.is c.loop-key.invariant c.in_ok-push_row.ensures
