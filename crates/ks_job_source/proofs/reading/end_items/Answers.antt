use Rattle.std.proofs.Common.{◌∙◌, ap, cond}
use Rattle.std.specs.Prelude.{None, ◌==◌}
use Rattle.std.specs.Option.{option_or}
use Rattle.std.proofs.lemmas.Result.{IfOk-weaker}
use Rattle.ks_job.specs.Items.{item_views}
use Rattle.ks_job_source.specs.Reading.{answer_stop}
use Rattle.ks_job_source.specs.Stops.{topology_stop}
use Rattle.ks_job_source.proofs.Taking.{ended_stop, ended_items, always_ok}
use Rattle.ks_job_source.proofs.reading.end_items.Goals as goal

pub returns-clause-ended : goal.returns-clause-ended
returns-clause-ended c = always_ok _ c.judge_answer.result (ended_items c.args.reader c.args.items.now.items c.finish.new.items.items c.in_ok-answer.answer c.in_ok-answer.ensures.ended)

pub returns-clause-stop : goal.returns-clause-stop
returns-clause-stop c =
    let first = c.is_empty-is_first.result in
    let a = c.in_ok-answer.answer in
    IfOk-weaker c.judge_answer.result _ _ (λ o h. ended_stop c.args.reader c.args.items.now.items c.finish.new.items.items first a o
    (c.is_empty-is_first.ensures ∙ ap (λ n. n == 0) c.args.items.now.ok.0) c.in_ok-answer.ensures.ended
    (h ∙ ap (λ is. option_or (cond first (topology_stop (item_views is)) None) (answer_stop a)) c.deref.ensures.value)) c.judge_answer.ensures
