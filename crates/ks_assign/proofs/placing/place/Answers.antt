use Rattle.std.proofs.Common.{◌≡◌, ◌+◌, List, true, take, get_or, sym, ap, ◌∙◌}
use Rattle.std.proofs.lemmas.List.{take_more}
use Rattle.ks_record.specs.declared.record.TaskId.{TaskId}
use Rattle.ks_assign.specs.Placement.{home, may_run}
use Rattle.ks_assign.specs.Steps.{held_of}
use Rattle.ks_assign.specs.declared.clients.Held.{Held}
use Rattle.ks_assign.proofs.Moves.{plan_more}
use Rattle.ks_assign.proofs.Told.{may_run_of}
use Rattle.ks_assign.proofs.placing.place.Goals as goal

abbrev no_task : TaskId
no_task = record { sub = 0; part = 0 }

pub loop-t-preserved : goal.loop-t-preserved
loop-t-preserved c =
    let told : c.deref.result.now ≡ held_of (get_or c.args.tasks.now c.loop-t.t-index no_task) c.args.held.now = c.deref.ensures.value ∙ c.in_ok-own.ensures in
    let runs : may_run c.args.clients.now c.args.held.now c.args.most (home c.args.clients.now c.lightest_for-worker.result) (get_or c.args.tasks.now c.loop-t.t-index no_task) ≡ true =
    sym (may_run_of c.args.clients.now (get_or c.args.tasks.now c.loop-t.t-index no_task) c.args.held.now c.args.most (home c.args.clients.now c.lightest_for-worker.result))
    ∙ ap (λ (hs : List Held). may_run c.args.clients.now hs c.args.most (home c.args.clients.now c.lightest_for-worker.result) (get_or c.args.tasks.now c.loop-t.t-index no_task)) (sym told)
    ∙ c.lightest_for-worker.ensures.runs in
    plan_more (take c.loop-t.t-index c.args.tasks.now) (take (c.loop-t.t-index + 1) c.args.tasks.now) c.args.clients.now c.args.held.now c.args.most c.loop-t.places.items c.push.new.self.items
    (get_or c.args.tasks.now c.loop-t.t-index no_task) c.lightest_for-worker.result
    c.loop-t.invariant runs c.lightest_for-worker.ensures.home (take_more c.args.tasks.now c.loop-t.t-index no_task c.loop-t-test.true) c.in_ok-push.ensures.items
