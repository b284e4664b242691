use Rattle.std.proofs.Common.{rules, ◌≤◌, ◌-◌, ◌<◌, length, arith}
use Rattle.ks_task_values.proofs.step.live_value.Goals as goal

pub offset_bounds-rest-rest : goal.offset_bounds-rest-rest
offset_bounds-rest-rest c =
    let i : length c.loop-rest.rest.now ≤ length c.args.live.now = c.loop-rest.invariant.0 in
    let l : length c.loop-rest.rest.now - 1 < length c.args.live.now = omega (arith, i, c.in-len1-up.len_at_least) in
    search rules
