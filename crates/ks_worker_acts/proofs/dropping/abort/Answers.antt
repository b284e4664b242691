use Rattle.std.proofs.Common.{rules}
use Rattle.std.proofs.lemmas.Fn.{filter_same}
use Rattle.ks_worker_acts.specs.Telling.{is_clean_task}
use Rattle.ks_worker_acts.proofs.CleanOnes.{filtered_worker}
use Rattle.ks_worker_acts.proofs.dropping.abort.Goals as goal

pub returns-clause-tasks : goal.returns-clause-tasks
returns-clause-tasks g c = filter_same _ is_clean_task _ (λ x b f' k. search rules) _ _ c.retain.ensures.filtered

pub returns-clause-worker : goal.returns-clause-worker
returns-clause-worker g c = λ d w.
    filtered_worker is_clean_task g.W.Work.plan d c.args.state.now.session.client.pass c.args.state.now.member c.args.state.now.session.last c.args.state.now.session.numbers.items c.args.state.now.tasks.items c.retain.new.self.items c.args.state.now.replicas.items
    (filter_same _ is_clean_task _ (λ x b f' k. search rules) _ _ c.retain.ensures.filtered) w
