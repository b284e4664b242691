use Rattle.std.proofs.Common.{◌≡◌, sym, subst, ◌∙◌}
use Rattle.std.specs.Prelude.{IfOk, Option}
use Rattle.std.proofs.lemmas.Result.{IfOk-weaker}
use Rattle.ks_run_ask.specs.Texts.{bad_ask_text}
use Rattle.ks_topo.specs.Topologies.{draft_of}
use Rattle.ks_def_tasks.specs.Rules.{rules_of}
use Rattle.ks_iq.specs.declared.fault.IqFault.{IqFault}
use Rattle.ks_run_end.specs.Ends.{EndsWhole}
use Rattle.ks_run_end.specs.Tails.{wanted_of}
use Rattle.ks_run_end.proofs.ending.end_whole.Goals as goal

pub returns-in-Some : goal.returns-in-Some
returns-in-Some g c =
    IfOk-weaker c.end_undrained.result _ _
    (λ a h.
    let text = subst (λ r. IfOk r (λ t. t.items ≡ bad_ask_text c.in-Some.fault)) h.1 c.print_bad_ask.ensures in
    subst (λ (o : Option IqFault). EndsWhole g.W.Work.plan g.W.Work.good (rules_of g.H.Hash128.hash_of) (wanted_of c.args.wanted.now) (draft_of c.args.topology.now) c.args.cluster o a.status a.text.items a.journal)
    (sym c.in-Some.is ∙ c.refusal_in.ensures) (h.0, text, h.2))
    c.end_undrained.ensures

pub returns-in-None : goal.returns-in-None
returns-in-None g c =
    subst (λ (o : Option IqFault). IfOk c.end_settled.result (λ a. EndsWhole g.W.Work.plan g.W.Work.good (rules_of g.H.Hash128.hash_of) (wanted_of c.args.wanted.now) (draft_of c.args.topology.now) c.args.cluster o a.status a.text.items a.journal))
    (sym c.in-None.is ∙ c.refusal_in.ensures) c.end_settled.ensures
