use Rattle.std.proofs.Common.{◌+◌, length, ap, sym, subst, ◌∙◌, arith}
use Rattle.ks_plan.specs.Infos.{drain_numbers}
use Rattle.ks_topo.specs.Topologies.{draft_of, plan_in}
use Rattle.ks_history.specs.State.{Setup}
use Rattle.ks_settle.specs.Drained.{MayDrain}
use Rattle.ks_settle.proofs.Ordering.{may_drain}
use Rattle.ks_settle.proofs.Publishing.{drains_both, drains_most, drains_extend, same_setup}
use Rattle.ks_settle.proofs.draining.drain.Goals as goal

pub start-requires-clause-may : goal.start-requires-clause-may
start-requires-clause-may g c κs within = subst MayDrain (sym c.requires.setup) (may_drain g.H.Hash128.hash_of (draft_of c.args.topology.now) c.nodes-nodes.ensures.well_formed)

pub start-requires-clause-of : goal.start-requires-clause-of
start-requires-clause-of g c κs within = record {
  well_formed = c.nodes-nodes.ensures.well_formed;
  tasks = ap (λ (s : Setup). s.tasks) c.requires.setup;
  inputs = λ sub. ap (λ (s : Setup). s.plan.inputs sub) c.requires.setup;
  changelogs = λ sub. ap (λ (s : Setup). s.plan.changelogs sub) c.requires.setup;
}

pub drain_all-requires-clause-setup : goal.drain_all-requires-clause-setup
drain_all-requires-clause-setup g c κs within = same_setup g.W.Work.plan 0 c.args.cluster.now c.start.new.cluster c.start.ensures.on ∙ c.requires.setup

pub drain_all-requires-clause-of : goal.drain_all-requires-clause-of
drain_all-requires-clause-of g c κs within =
    let setup = same_setup g.W.Work.plan 0 c.args.cluster.now c.start.new.cluster c.start.ensures.on ∙ c.requires.setup in
    record {
      well_formed = c.nodes-nodes.ensures.well_formed;
      work = ap (λ (s : Setup). s.plan) setup;
      may = subst MayDrain (sym setup) (may_drain g.H.Hash128.hash_of (draft_of c.args.topology.now) c.nodes-nodes.ensures.well_formed);
    }

pub returns-clause-on : goal.returns-clause-on
returns-clause-on g c =
    let most = length (drain_numbers (plan_in c.args.topology.now)) in
    drains_most (0 + most) most c.args.cluster.now c.drain_all.new.cluster (omega arith) (drains_both 0 most c.args.cluster.now c.start.new.cluster c.drain_all.new.cluster c.start.ensures.on c.drain_all.ensures.on)

pub returns-clause-more : goal.returns-clause-more
returns-clause-more g c =
    let most = length (drain_numbers (plan_in c.args.topology.now)) in
    drains_extend (0 + most) c.args.cluster.now c.drain_all.new.cluster (drains_both 0 most c.args.cluster.now c.start.new.cluster c.drain_all.new.cluster c.start.ensures.on c.drain_all.ensures.on)

pub returns-in_err-manager-clause-on : goal.returns-in_err-manager-clause-on
returns-in_err-manager-clause-on g c = drains_most 0 (length (drain_numbers (plan_in c.args.topology.now))) c.args.cluster.now c.start.new.cluster (omega arith) c.start.ensures.on

pub returns-in_err-manager-clause-more : goal.returns-in_err-manager-clause-more
returns-in_err-manager-clause-more g c = drains_extend 0 c.args.cluster.now c.start.new.cluster c.start.ensures.on

pub returns-in_err-drain_all-clause-on : goal.returns-in_err-drain_all-clause-on
returns-in_err-drain_all-clause-on g c =
    let most = length (drain_numbers (plan_in c.args.topology.now)) in
    drains_most (0 + most) most c.args.cluster.now c.drain_all.new.cluster (omega arith) (drains_both 0 most c.args.cluster.now c.start.new.cluster c.drain_all.new.cluster c.start.ensures.on c.drain_all.ensures.on)

pub returns-in_err-drain_all-clause-more : goal.returns-in_err-drain_all-clause-more
returns-in_err-drain_all-clause-more g c =
    let most = length (drain_numbers (plan_in c.args.topology.now)) in
    drains_extend (0 + most) c.args.cluster.now c.drain_all.new.cluster (drains_both 0 most c.args.cluster.now c.start.new.cluster c.drain_all.new.cluster c.start.ensures.on c.drain_all.ensures.on)
