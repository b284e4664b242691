use Rattle.std.proofs.Common.{refl}
use Rattle.std.proofs.lemmas.List.Elements.{All-contains_itself}
use Rattle.ks_worker_turn.proofs.Rested.{popped, more_rested, left_held, left_before, left_more, front_among, names_rested, all_rested}
use Rattle.ks_worker_turn.proofs.heeding.rest_tasks.Goals as goal

pub loop-task-preserved : goal.loop-task-preserved
loop-task-preserved c =
    let is = popped c.loop-task.tasks.items c.pop.new.self.items c.pop.result c.in-Some.task c.in-Some.is c.pop.ensures.items in
    record {
      left = λ d setup journal m last all. left_held c.loop-task.tasks.items c.pop.new.self.items c.in-Some.task d setup journal m last is (c.loop-task.invariant.left d setup journal m last all);
      names = names_rested c.loop-task.tasks.items c.pop.new.self.items c.in-Some.task c.loop-task.replicas.items c.rest_task.new.replicas.items _ is c.loop-task.invariant.names c.in_ok-rest_task.ensures;
      kept = more_rested c.args.tasks.now.items c.loop-task.tasks.items c.pop.new.self.items c.in-Some.task c.args.replicas.now.items c.loop-task.replicas.items c.rest_task.new.replicas.items is
          c.loop-task.invariant.left c.loop-task.invariant.kept c.in_ok-rest_task.ensures;
      among = front_among c.args.tasks.now.items c.loop-task.tasks.items c.pop.new.self.items c.in-Some.task is c.loop-task.invariant.among;
      are = left_more c.args.tasks.now.items c.loop-task.tasks.items c.pop.new.self.items c.in-Some.task c.args.replicas.now.items c.loop-task.replicas.items c.rest_task.new.replicas.items is c.loop-task.invariant.among c.loop-task.invariant.are c.in_ok-rest_task.ensures;
    }

pub loop-task-init : goal.loop-task-init
loop-task-init c = record {
  left = λ d setup journal m last all. all;
  names = λ t. refl;
  kept = λ hash d setup journal m last runs all standbys. standbys;
  among = All-contains_itself c.args.tasks.now.items;
  are = left_before c.args.tasks.now.items c.args.replicas.now.items;
}
