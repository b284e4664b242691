use Rattle.std.proofs.Common.{ap, sym, subst, ◌∙◌}
use Rattle.ks_topo.specs.Topologies.{draft_of}
use Rattle.ks_history.specs.Machine.{has_topic}
use Rattle.ks_cluster.specs.View.{setup_of}
use Rattle.ks_law_restore.specs.Views.{IsFrozen}
use Rattle.ks_commit.specs.Work.{work_view}
use Rattle.ks_task.specs.Tasks.{task_view}
use Rattle.ks_settle.proofs.Filling.{reads_some}
use Rattle.ks_settle.proofs.reading.read_task.Goals as goal

pub read_on-requires-clause-reader : goal.read_on-requires-clause-reader
read_on-requires-clause-reader g c = record {
  of = c.requires.rests.0;
  stands = c.requires.rests.1.stands;
  known = c.requires.rests.1.known;
  input = ap (has_topic c.args.topic) (sym c.requires.inputs) ∙ sym c.has_number.ensures ∙ c.if-not-has_number.false;
}

pub returns : goal.returns
returns g c =
    reads_some (draft_of c.args.topology.now) (setup_of g.W.Work.plan c.args.cluster.now) c.args.cluster.now.journal c.args.topic c.in_ok-moved.moved c.args.task.now c.read_on.new.task (work_view c.in_ok-freeze.field-0)
    c.requires.may.of.may c.requires.rests.1 c.in_ok-moved.ensures
    (subst (λ q. IsFrozen q (task_view c.read_on.new.task) (work_view c.in_ok-freeze.field-0)) (sym c.requires.may.of.work)
    (c.in_ok-freeze.ensures (draft_of c.args.topology.now) g.H.Hash128.hash_of c.in_ok-moved.ensures.of))
