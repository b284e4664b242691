use Rattle.std.proofs.Common.{refl, ◌∙◌}
use Rattle.ks_topo.specs.Topologies.{draft_of}
use Rattle.ks_run_workers.proofs.AskedOften.{asked_none, asked_then, may_ask_on}
use Rattle.ks_run_workers.proofs.asking.ask_all.Goals as goal

pub loop-number-init : goal.loop-number-init
loop-number-init g c = (asked_none g.W.Work.plan c.args.shared.now.growing.id (draft_of c.args.topology.now) c.args.asker.now c.requires, refl)

pub ask_once-requires : goal.ask_once-requires
ask_once-requires g c = may_ask_on g.W.Work.plan c.args.shared.now.growing.id (draft_of c.args.topology.now) c.loop-number.number c.args.asker.now c.loop-number.asker c.requires c.loop-number.invariant.0

pub loop-number-preserved : goal.loop-number-preserved
loop-number-preserved g c =
    let lock = c.args.shared.now.growing.id in
    let d = draft_of c.args.topology.now in
    let may = may_ask_on g.W.Work.plan lock d c.loop-number.number c.args.asker.now c.loop-number.asker c.requires c.loop-number.invariant.0 in (
      asked_then g.W.Work.plan lock d c.loop-number.number 1 c.args.asker.now c.loop-number.asker c.ask_once.new.asker may c.loop-number.invariant.0 c.in_ok-ask_once.ensures.asked,
      c.ask_once.ensures.key ∙ c.loop-number.invariant.1,
    )
