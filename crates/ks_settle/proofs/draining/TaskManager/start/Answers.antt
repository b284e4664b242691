use Rattle.std.proofs.Common.{refl, sym, ◌∙◌}
use Rattle.ks_topo.specs.Topologies.{draft_of}
use Rattle.ks_settle.proofs.Given.{still_replicas}
use Rattle.ks_settle.proofs.Members.{good_alone}
use Rattle.ks_settle.proofs.Publishing.{drains_both, drains_by, drains_longer}
use Rattle.ks_settle.proofs.Starting.{resting_first, still_tasks, still_may}
use Rattle.ks_settle.proofs.draining.TaskManager.start.Goals as goal

pub write_all_markers-requires-clause-network : goal.write_all_markers-requires-clause-network
write_all_markers-requires-clause-network g c = (still_may g.W.Work.plan 0 c.args.cluster.now c.remove_workers.new.cluster c.remove_workers.ensures.on c.requires.may).network

pub start-requires-clause-network : goal.start-requires-clause-network
start-requires-clause-network g c =
    let one = still_may g.W.Work.plan 0 c.args.cluster.now c.remove_workers.new.cluster c.remove_workers.ensures.on c.requires.may in
    (still_may g.W.Work.plan 0 c.remove_workers.new.cluster c.write_all_markers.new.cluster c.write_all_markers.ensures.on one).network

pub start-requires-clause-tasks : goal.start-requires-clause-tasks
start-requires-clause-tasks g c =
    let one = still_tasks g.W.Work.plan (draft_of c.args.topology.now) 0 c.args.cluster.now c.remove_workers.new.cluster c.remove_workers.ensures.on c.requires.of in
    let two = still_tasks g.W.Work.plan (draft_of c.args.topology.now) 0 c.remove_workers.new.cluster c.write_all_markers.new.cluster c.write_all_markers.ensures.on one in
    c.tasks.ensures ∙ sym two.tasks

pub start-requires-clause-once : goal.start-requires-clause-once
start-requires-clause-once g c =
    let one = still_may g.W.Work.plan 0 c.args.cluster.now c.remove_workers.new.cluster c.remove_workers.ensures.on c.requires.may in
    (still_may g.W.Work.plan 0 c.remove_workers.new.cluster c.write_all_markers.new.cluster c.write_all_markers.ensures.on one).made.once

pub start-requires-clause-good : goal.start-requires-clause-good
start-requires-clause-good g c =
    let none = c.in_ok-write_all_markers.ensures.members ∙ c.in_ok-remove_workers.ensures.gone in
    let on = drains_both 0 0 c.args.cluster.now c.remove_workers.new.cluster c.write_all_markers.new.cluster c.remove_workers.ensures.on c.write_all_markers.ensures.on in
    good_alone g.W.Work.plan g.W.Work.good c.args.cluster.now c.write_all_markers.new.cluster on none c.requires.alone

pub restore_tasks-requires-clause-may : goal.restore_tasks-requires-clause-may
restore_tasks-requires-clause-may g c κs within =
    let plan = g.W.Work.plan in
    let started = c.in_ok-publisher.ensures.started in
    let one = still_may plan 0 c.args.cluster.now c.remove_workers.new.cluster c.remove_workers.ensures.on c.requires.may in
    let two = still_may plan 0 c.remove_workers.new.cluster c.write_all_markers.new.cluster c.write_all_markers.ensures.on one in
    still_may plan 0 c.write_all_markers.new.cluster c.start.new.cluster (drains_by 16 0 c.write_all_markers.new.cluster c.start.new.cluster started.more refl started.is started.publishing) two

pub restore_tasks-requires-clause-of : goal.restore_tasks-requires-clause-of
restore_tasks-requires-clause-of g c κs within =
    let plan = g.W.Work.plan in
    let d = draft_of c.args.topology.now in
    let started = c.in_ok-publisher.ensures.started in
    let one = still_tasks plan d 0 c.args.cluster.now c.remove_workers.new.cluster c.remove_workers.ensures.on c.requires.of in
    let two = still_tasks plan d 0 c.remove_workers.new.cluster c.write_all_markers.new.cluster c.write_all_markers.ensures.on one in
    still_tasks plan d 0 c.write_all_markers.new.cluster c.start.new.cluster (drains_by 16 0 c.write_all_markers.new.cluster c.start.new.cluster started.more refl started.is started.publishing) two

pub restore_tasks-requires-clause-replicas : goal.restore_tasks-requires-clause-replicas
restore_tasks-requires-clause-replicas g c κs within =
    let started = c.in_ok-publisher.ensures.started in
    let on = drains_both 0 0 c.args.cluster.now c.write_all_markers.new.cluster c.start.new.cluster
    (drains_both 0 0 c.args.cluster.now c.remove_workers.new.cluster c.write_all_markers.new.cluster c.remove_workers.ensures.on c.write_all_markers.ensures.on)
    (drains_by 16 0 c.write_all_markers.new.cluster c.start.new.cluster started.more refl started.is started.publishing) in
    still_replicas g.W.Work.plan 0 c.args.cluster.now c.start.new.cluster on c.requires.may.network c.is_history.ensures.history c.args.replicas.items c.requires.replicas

pub returns-clause-resting : goal.returns-clause-resting
returns-clause-resting g c =
    resting_first g.W.Work.plan c.start.new.cluster c.in_ok-publisher.publisher (draft_of c.args.topology.now) c.args.cache c.in_ok-tasks.tasks.items c.in_ok-publisher.ensures.worker c.in_ok-publisher.ensures.ready c.in_ok-tasks.ensures

pub returns-clause-caches : goal.returns-clause-caches
returns-clause-caches g c = c.in_ok-tasks.ensures.caches

pub returns-clause-on : goal.returns-clause-on
returns-clause-on g c =
    let started = c.in_ok-publisher.ensures.started in
    drains_both 0 0 c.args.cluster.now c.write_all_markers.new.cluster c.start.new.cluster
    (drains_both 0 0 c.args.cluster.now c.remove_workers.new.cluster c.write_all_markers.new.cluster c.remove_workers.ensures.on c.write_all_markers.ensures.on)
    (drains_by 16 0 c.write_all_markers.new.cluster c.start.new.cluster started.more refl started.is started.publishing)

pub returns-in_err-write_all_markers-clause-on : goal.returns-in_err-write_all_markers-clause-on
returns-in_err-write_all_markers-clause-on g c = drains_both 0 0 c.args.cluster.now c.remove_workers.new.cluster c.write_all_markers.new.cluster c.remove_workers.ensures.on c.write_all_markers.ensures.on

pub returns-in_err-publisher-clause-on : goal.returns-in_err-publisher-clause-on
returns-in_err-publisher-clause-on g c =
    drains_both 0 0 c.args.cluster.now c.write_all_markers.new.cluster c.start.new.cluster
    (drains_both 0 0 c.args.cluster.now c.remove_workers.new.cluster c.write_all_markers.new.cluster c.remove_workers.ensures.on c.write_all_markers.ensures.on)
    (drains_longer 16 0 c.write_all_markers.new.cluster c.start.new.cluster refl c.in_err-publisher.ensures.err)

pub returns-in_err-tasks-clause-on : goal.returns-in_err-tasks-clause-on
returns-in_err-tasks-clause-on g c =
    let started = c.in_ok-publisher.ensures.started in
    drains_both 0 0 c.args.cluster.now c.write_all_markers.new.cluster c.start.new.cluster
    (drains_both 0 0 c.args.cluster.now c.remove_workers.new.cluster c.write_all_markers.new.cluster c.remove_workers.ensures.on c.write_all_markers.ensures.on)
    (drains_by 16 0 c.write_all_markers.new.cluster c.start.new.cluster started.more refl started.is started.publishing)
