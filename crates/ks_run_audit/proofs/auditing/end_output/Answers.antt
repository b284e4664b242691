use Rattle.std.proofs.Common.{◌≡◌, inl, refl, sym, ◌∙◌}
use Rattle.std.proofs.lemmas.Bool.{true≢false}
use Rattle.ks_topo.specs.Topologies.{draft_of}
use Rattle.ks_def_tasks.specs.Rules.{rules_of}
use Rattle.ks_audit_verdict.specs.declared.fault.OutputFault.TheVariants.{NotJournal}
use Rattle.ks_run_audit.specs.Outputs.{place_in, text_of}
use Rattle.ks_run_audit.proofs.Answering.{ends_no, ends_yes, end_faulty}
use Rattle.ks_run_audit.proofs.auditing.end_output.Goals as goal

pub returns-then-has_begun : goal.returns-then-has_begun
returns-then-has_begun g c =
    ends_no (rules_of g.H.Hash128.hash_of) (draft_of c.args.topology.now) (place_in c.args.output) (text_of c.args.output) c.args.feed.now.line.items _ c.answer_no.result c.number-line.result NotJournal c.number-line.ensures
    (inl ((λ e. true≢false (sym c.if-has_begun.true ∙ c.has_begun.ensures.yes e)), refl)) c.answer_no.ensures

pub returns-in-Some : goal.returns-in-Some
returns-in-Some g c =
    ends_no (rules_of g.H.Hash128.hash_of) (draft_of c.args.topology.now) (place_in c.args.output) (text_of c.args.output) c.args.feed.now.line.items _ c.answer_no-in-Some.result c.number-line.result c.in-Some.fault c.number-line.ensures
    (end_faulty (rules_of g.H.Hash128.hash_of) (draft_of c.args.topology.now) (place_in c.args.output) (text_of c.args.output) c.args.feed.now.line.items c.in-Some.fault (c.has_begun.ensures.no c.if-has_begun.false) (rw c.in-Some.is at c.in_ok-fault.ensures.wrong)) c.answer_no-in-Some.ensures

pub returns-in-None : goal.returns-in-None
returns-in-None g c =
    ends_yes (rules_of g.H.Hash128.hash_of) (draft_of c.args.topology.now) (place_in c.args.output) (text_of c.args.output) c.args.feed.now.line.items _ c.answer_yes.result (c.has_begun.ensures.no c.if-has_begun.false) (c.in_ok-fault.ensures.right c.in-None.is) c.answer_yes.ensures
