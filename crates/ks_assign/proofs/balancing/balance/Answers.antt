use Rattle.std.proofs.Common.{ℕ}
use Rattle.ks_record.specs.declared.record.TaskId.{TaskId}
use Rattle.ks_assign.proofs.Moves.{move_less, move_plan}
use Rattle.ks_assign.proofs.balancing.balance.Goals as goal

abbrev nothing : TaskId × ℕ
nothing = (record { sub = 0; part = 0 }, 0)

pub loop-i-smaller : goal.loop-i-smaller
loop-i-smaller c =
    let m = c.in-Some.ensures in
    move_less c.args.clients.now c.loop-i.active c.in-Some.i _ nothing m.within (m.better nothing).less

pub loop-i-preserved : goal.loop-i-preserved
loop-i-preserved c tasks plan =
    let m = c.in-Some.ensures in
    move_plan tasks c.args.clients.now c.args.held.now c.args.most c.loop-i.active c.in-Some.i c.in-Some.w nothing m.within (c.loop-i.invariant tasks plan) (m.better nothing).runs (m.better nothing).homes
