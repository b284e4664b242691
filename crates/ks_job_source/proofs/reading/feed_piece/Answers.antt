use Rattle.std.proofs.Common.{◌∙◌, ap, cond}
use Rattle.std.specs.Prelude.{None, ◌==◌}
use Rattle.std.specs.Option.{option_or}
use Rattle.std.proofs.lemmas.Result.{IfOk-weaker}
use Rattle.ks_job.specs.Items.{item_views}
use Rattle.ks_job_source.specs.Reading.{answer_stop}
use Rattle.ks_job_source.specs.Stops.{topology_stop}
use Rattle.ks_job_source.proofs.Taking.{fed_stop, fed_machine, always_ok}
use Rattle.ks_job_source.proofs.reading.feed_piece.Goals as goal

pub returns-clause-fed : goal.returns-clause-fed
returns-clause-fed g c = always_ok _ c.judge_answer.result (fed_machine c.args.reader.now c.feed_wide.new.self c.args.items.now.items c.feed_wide.new.items.items c.args.piece.now c.in_ok-answer.ensures.fed)

pub returns-clause-stop : goal.returns-clause-stop
returns-clause-stop g c =
    let first = c.is_empty-is_first.result in
    let a = c.in_ok-answer.answer in
    IfOk-weaker c.judge_answer.result _ _ (λ o h. fed_stop c.args.reader.now c.feed_wide.new.self c.args.items.now.items c.feed_wide.new.items.items c.args.piece.now first a o
    (c.is_empty-is_first.ensures ∙ ap (λ n. n == 0) c.args.items.now.ok.0) c.in_ok-answer.ensures.fed c.in_ok-answer.ensures.answer
    (h ∙ ap (λ is. option_or (cond first (topology_stop (item_views is)) None) (answer_stop a)) c.deref.ensures.value)) c.judge_answer.ensures
