use Rattle.std.proofs.Common.{Err, ◌≡◌, ◌+◌, length, refl, sym, ap, subst, ◌∙◌, arith}
use Rattle.ks_topo.specs.Topologies.{draft_of}
use Rattle.ks_job_source.specs.declared.reading.SourceError.TheVariants.{Fault}
use Rattle.ks_def_tasks.specs.Rules.{rules_of}
use Rattle.ks_audit_verdict.specs.Texts.{no_text}
use Rattle.ks_run_audit.specs.Outputs.{place_in}
use Rattle.ks_run_audit.specs.Answering.{EndsEarly}
use Rattle.ks_run_audit.specs.Feeding.{IsFeed, ReadsAll, ReadsFault, draft_in}
use Rattle.ks_run_audit.proofs.Answering.{answered_all, answered_early, answered_fault, new_feed}
use Rattle.ks_run_audit.proofs.auditing.read_output.Goals as goal

pub read_all-requires-clause-feed : goal.read_all-requires-clause-feed
read_all-requires-clause-feed g c = new_feed c.new-feed.result c.args.open.now.line c.args.open.now.taken c.new-feed.ensures.line c.new-feed.ensures.lines c.new-feed.ensures.taken c.requires.few (omega (arith, c.requires.within))

pub end_output-requires-clause-sound : goal.end_output-requires-clause-sound
end_output-requires-clause-sound g c κs within = (rw c.in-Ok-Ok.field-0-is at c.in-Ok-Ok.ensures.reads).feeds.sound

pub end_output-requires-clause-same : goal.end_output-requires-clause-same
end_output-requires-clause-same g c κs within = ap (λ t. t.now) ((rw c.in-Ok-Ok.field-0-is at c.in-Ok-Ok.ensures.reads).feeds.topology ∙ c.in_ok-output.ensures.topology)

pub returns-in-Ok-Ok-clause-answers : goal.returns-in-Ok-Ok-clause-answers
returns-in-Ok-Ok-clause-answers g c =
    let feed = rw c.in-Ok-Ok.field-0-is at c.in-Ok-Ok.ensures.feed in
    answered_all g.H.Hash128.hash_of (draft_of c.args.open.now.topology) c.args.open.now.line c.args.open.now.taken c.args.open.now.rest.items (g.S.Source.left c.args.input.now) (g.S.Source.left c.read_all.new.input) c.in_ok-output.output c.new-feed.result
    (ap (λ t. draft_of t.now) c.in_ok-output.ensures.topology) c.in_ok-output.ensures.place c.in_ok-output.ensures.text c.new-feed.ensures.lines c.new-feed.ensures.taken
    c.read_all.new.feed.taken c.read_all.new.feed.line.items c.read_all.new.feed.lines c.read_all.new.output
    (subst (λ r. ReadsAll g.H.Hash128.hash_of (draft_in c.in_ok-output.output) c.new-feed.result.taken c.read_all.new.feed.taken r (g.S.Source.left c.args.input.now) (g.S.Source.left c.read_all.new.input) c.read_all.new.feed.line.items c.new-feed.result.lines c.read_all.new.feed.lines c.in_ok-output.output c.read_all.new.output) c.as_slice-rest.ensures.value (rw c.in-Ok-Ok.field-0-is at c.in-Ok-Ok.ensures.reads))
    feed.within _ _ c.in_ok-end_output-in-Ok-Ok.ensures

pub returns-in-Ok-Err-clause-answers : goal.returns-in-Ok-Err-clause-answers
returns-in-Ok-Err-clause-answers g c =
    answered_fault g.H.Hash128.hash_of (draft_of c.args.open.now.topology) c.args.open.now.line c.args.open.now.taken c.args.open.now.rest.items (g.S.Source.left c.args.input.now) (g.S.Source.left c.read_all.new.input) c.in_ok-output.output c.new-feed.result
    (ap (λ t. draft_of t.now) c.in_ok-output.ensures.topology) c.in_ok-output.ensures.place c.in_ok-output.ensures.text c.new-feed.ensures.lines c.new-feed.ensures.taken
    c.read_all.new.feed.lines c.in-Ok-Err.fault
    (subst (λ r. ReadsFault g.H.Hash128.hash_of (draft_in c.in_ok-output.output) c.new-feed.result.taken r (g.S.Source.left c.args.input.now) (g.S.Source.left c.read_all.new.input) c.new-feed.result.lines c.read_all.new.feed.lines c.in_ok-output.output c.in-Ok-Err.fault) c.as_slice-rest.ensures.value (rw c.in-Ok-Err.field-0-is at c.in-Ok-Err.ensures.refused))
    _ _ (let told = c.in_ok-answer_no-in-Ok-Err.ensures in (told.0, told.1 ∙ ap (λ n. no_text n c.in-Ok-Err.fault) c.number.ensures))

pub returns-clause-early : goal.returns-clause-early
returns-clause-early g c = λ e.
    let first = c.in_ok-output.output in
    let old = g.S.Source.left c.args.input.now in
    let now = g.S.Source.left c.read_all.new.input in
    answered_early g.H.Hash128.hash_of (draft_of c.args.open.now.topology) c.args.open.now.line c.args.open.now.taken c.args.open.now.rest.items old now first c.new-feed.result
    (ap (λ t. draft_of t.now) c.in_ok-output.ensures.topology) c.in_ok-output.ensures.place c.in_ok-output.ensures.text c.new-feed.ensures.lines c.new-feed.ensures.taken
    (subst (λ r. EndsEarly (rules_of g.H.Hash128.hash_of) (draft_in first) (place_in first) (c.new-feed.result.taken + length r) r old now) c.as_slice-rest.ensures.value (let same : c.in-Err.error ≡ Fault = cc in c.in-Err.ensures.early (ap Err same)))
