use Rattle.std.proofs.Common.{[], ◌∷◌, subst}
use Rattle.ks_history.specs.declared.journal.Reply.TheVariants.{Number}
use Rattle.ks_run_feed.specs.Producing.{HasProduced}
use Rattle.ks_run_feed.proofs.Produced.{added, unchanged, on_any}
use Rattle.ks_run_feed.proofs.producing.produce_one.Goals as goal

pub returns-in_err-produce-clause-err : goal.returns-in_err-produce-clause-err
returns-in_err-produce-clause-err g c =
    on_any c.from_residual.result (unchanged g.W.Work.plan c.args.pass.now c.produce.new.pass (record { topic = c.args.topic; part = c.part_of-part.result }) c.args.rec.now c.requires.pass.2 c.in_err-produce.ensures c.in_err-produce.ensures.does.1)

pub returns-clause-ok : goal.returns-clause-ok
returns-clause-ok g c =
    subst (λ part. HasProduced c.args.pass.now c.produce.new.pass ((record { topic = c.args.topic; part = part }, c.args.rec.now) ∷ [])) c.part_of-part.ensures.part
    (added g.W.Work.plan c.args.pass.now c.produce.new.pass (record { topic = c.args.topic; part = c.part_of-part.result }) c.args.rec.now c.requires.pass.2 c.in_ok-produce.ensures (Number c.in_ok-produce.field-0) c.in_ok-produce.ensures.does.0)
