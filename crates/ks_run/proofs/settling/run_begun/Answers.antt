use Rattle.std.proofs.Common.{◌≡◌, None, sym, subst}
use Rattle.std.specs.Prelude.{IfSome}
use Rattle.std.proofs.lemmas.Result.{IfOk-weaker}
use Rattle.ks_topo.specs.Topologies.{draft_of}
use Rattle.ks_job.specs.Items.{item_views}
use Rattle.ks_run_feed.specs.Wanted.{placing_of}
use Rattle.ks_def_tasks.specs.Rules.{rules_of}
use Rattle.ks_cluster.specs.View.{state_of}
use Rattle.ks_iq.specs.Asks.{ask_fault}
use Rattle.ks_run_workers.specs.Asked.{AreAnswered}
use Rattle.ks_run_verdict.specs.Told.{wanted_in}
use Rattle.ks_run_end.specs.Tails.{wanted_of, MayTell}
use Rattle.ks_run_end.proofs.Drained.{nodes_ready}
use Rattle.ks_run.specs.Tails.{tail_of}
use Rattle.ks_run.proofs.Settles.{places_ready, records_ready, past_ready, filled_start, filled_wanted, ran_so}
use Rattle.ks_run.proofs.Telling.{good_question, refusal_is, wanted_so, may_tell, ends_so}
use Rattle.ks_run.proofs.settling.run_begun.Goals as goal

pub run_workers-requires-clause-ready : goal.run_workers-requires-clause-ready
run_workers-requires-clause-ready g c κs within =
    let d = draft_of c.args.topology.now in
    let hash = g.H.Hash128.hash_of in
    let empty = c.args.empty in
    let begun = c.requires.begun in
    record {
      new = begun.new;
      topology = begun.start;
      wanted = begun.wanted;
      nodes = nodes_ready d c.nodes-nodes.ensures.well_formed c.requires.job.partitions;
      counts_are = begun.counts_are;
      places = places_ready hash d (g.W.Work.plan empty.work) c.nodes-nodes.ensures.well_formed c.requires.job.partitions begun.work;
      records = records_ready hash d (g.W.Work.plan empty.work) (item_views c.args.intake.records.items) begun.work c.requires.job.records_are;
      past = past_ready hash d (g.W.Work.plan empty.work) c.args.intake.rest begun.work c.requires.job.past;
      room = c.requires.job.room;
    }

pub run_workers-requires-clause-question : goal.run_workers-requires-clause-question
run_workers-requires-clause-question g c κs within =
    let d = draft_of c.args.topology.now in
    subst (λ q. IfSome q (λ a. ask_fault d a ≡ None)) (sym c.unless_refused-question.ensures) (good_question d c.args.crew.question c.bad_ask-refusal.result c.bad_ask-refusal.ensures)

pub end_by-answer-requires-clause-setup : goal.end_by-answer-requires-clause-setup
end_by-answer-requires-clause-setup g c κs within =
    let d = draft_of c.args.topology.now in
    let hash = g.H.Hash128.hash_of in
    let crew = c.args.crew in
    let placing = placing_of crew.settings in
    let begun = c.requires.begun in
    filled_start hash g.W.Work.plan g.W.Work.good placing (wanted_in crew.settings.journal crew.question) d c.args.empty c.in-Ok.ended.cluster c.args.intake
    (g.S.Source.left c.args.input.now) (g.S.Source.left c.run_workers.new.input) c.in-Ok.ended.end begun.start begun.wanted c.requires.job c.in-Ok.ensures.worked

pub end_by-answer-requires-clause-placing : goal.end_by-answer-requires-clause-placing
end_by-answer-requires-clause-placing g c κs within =
    let d = draft_of c.args.topology.now in
    let hash = g.H.Hash128.hash_of in
    let crew = c.args.crew in
    let placing = placing_of crew.settings in
    let begun = c.requires.begun in (
      placing,
      c.requires.settings.threads.0,
      filled_wanted hash g.W.Work.plan g.W.Work.good placing (wanted_in crew.settings.journal crew.question) d c.args.empty c.in-Ok.ended.cluster c.args.intake
          (g.S.Source.left c.args.input.now) (g.S.Source.left c.run_workers.new.input) c.in-Ok.ended.end begun.start begun.wanted c.requires.job c.in-Ok.ensures.worked,
    )

pub end_by-answer-requires-clause-may : goal.end_by-answer-requires-clause-may
end_by-answer-requires-clause-may g c κs within =
    let d = draft_of c.args.topology.now in
    subst (MayTell d (state_of g.W.Work.plan c.in-Ok.ended.cluster)) (sym c.wanted_by-wanted.ensures)
    (may_tell g.W.Work.plan d c.in-Ok.ended.cluster c.args.crew.settings.journal c.bad_ask-refusal.result c.unless_refused-question.result c.in-Ok.asked c.in-Ok.ensures.asked
    (subst (λ q. IfSome q (λ a. ask_fault d a ≡ None)) (sym c.unless_refused-question.ensures) (good_question d c.args.crew.question c.bad_ask-refusal.result c.bad_ask-refusal.ensures)))

pub returns : goal.returns
returns g c =
    let d = draft_of c.args.topology.now in
    let hash = g.H.Hash128.hash_of in
    let crew = c.args.crew in
    let shown = crew.settings.journal in
    let placing = placing_of crew.settings in
    let refusal = c.bad_ask-refusal.result in
    let asked = c.in-Ok.asked in
    let begun = c.requires.begun in
    IfOk-weaker c.end_by-answer.result _ _
    (λ a h. ran_so hash g.W.Work.plan g.W.Work.good placing (wanted_in shown crew.question) d c.args.empty c.in-Ok.ended.cluster c.args.intake
    (g.S.Source.left c.args.input.now) (g.S.Source.left c.run_workers.new.input) c.in-Ok.ended.end begun.start begun.wanted c.requires.job c.in-Ok.ensures.worked
    c.nodes-nodes.ensures.well_formed c.topology_fits.ensures c.hashes_fit.ensures refusal (wanted_of (tail_of shown refusal asked)) (refusal_is d shown crew.question refusal c.bad_ask-refusal.ensures)
    (wanted_so g.W.Work.plan d c.in-Ok.ended.cluster shown crew.question refusal asked
    (subst (λ q. AreAnswered g.W.Work.plan d c.in-Ok.ended.cluster q asked) c.unless_refused-question.ensures c.in-Ok.ensures.asked))
    (g.S.Source.faults c.args.input.now) (g.S.Source.faults c.run_workers.new.input) a.status a.text.items a.journal c.in-Ok.ensures.faults (ends_so g.W.Work.plan g.W.Work.good (rules_of hash) d c.in-Ok.ended.cluster c.in-Ok.ended.end shown refusal asked c.wanted_by-wanted.result c.wanted_by-wanted.ensures a.status a.text.items a.journal h))
    c.end_by-answer.ensures
