use Rattle.std.proofs.Common.{rules, inr}
use Rattle.ks_topo.specs.Topologies.{draft_of}
use Rattle.ks_worker_state.proofs.States.{state_later_twice}
use Rattle.ks_worker.proofs.Turning.{shown_ok, serves_on}
use Rattle.ks_worker.proofs.Taken.{turn_ok}
use Rattle.ks_worker.proofs.worker.Worker.take_turn.Goals as goal

pub obey-requires : goal.obey-requires
obey-requires g c = record {
  may = record {
    act = search rules;
    serves = serves_on g.W.Work.plan g.W.Work.good c.args.self.now.placing c.begin.new.self.placing (draft_of c.args.topology.now) c.args.self.now.state c.begin.new.self.state c.begin.ensures.later c.begin.ensures.placing c.requires.may.serves;
    room = search rules;
  };
}

pub returns-clause-later : goal.returns-clause-later
returns-clause-later g c = state_later_twice g.W.Work.plan c.args.self.now.state c.begin.new.self.state c.obey.new.self.state c.begin.ensures.later c.obey.ensures.later

pub returns-clause-shown : goal.returns-clause-shown
returns-clause-shown g c =
    shown_ok c.args.self.now.state.member.number g.W.Work.plan c.begin.new.self.state.member.number c.args.self.now.state.session.client.pass c.begin.new.self.state.session.client.pass c.obey.new.self.state.session.client.pass
    c.args.self.now.state.session.client.gate c.begin.new.self.state.session.client.gate c.obey.new.self.state.session.client.gate c.obey.result
    c.begin.ensures.later.number c.begin.ensures.later.later (c.in_ok-begin.ensures.goes_on c.if-branch.false) c.obey.ensures.shown

pub returns-then-branch-clause-turn : goal.returns-then-branch-clause-turn
returns-then-branch-clause-turn g c = inr (c.in_ok-begin.ensures.cut c.if-branch.true)

pub returns-clause-turn : goal.returns-clause-turn
returns-clause-turn g c =
    turn_ok g.W.Work.plan (draft_of c.args.topology.now) c.obey.result c.args.self.now c.begin.new.self c.obey.new.self (c.in_ok-begin.ensures.begins c.if-branch.false) c.obey.ensures.obeys
