-- What is answered, from what was read.
use Rattle.std.proofs.Common.{◌≡◌, ◌⊎◌, inl, inr, ℕ, ◌+◌, ◌≤◌, arith, Bool, true, false, List, [], ◌++◌, refl, sym, ap, subst, append-nil, ◌∙◌}
use Rattle.std.specs.Prelude.{Option, Result, Ok, Err, IfOk, IfErr, OnOk, length}
use Rattle.std.proofs.lemmas.Result.{IfOk-weaker}
use Rattle.ks_edge.specs.Causes.{Rose}
use Rattle.ks_plan.specs.Drafts.{DraftView}
use Rattle.ks_def_tasks.specs.Messages.{Rules}
use Rattle.ks_job_source.specs.declared.stop.JobStop.{JobStop}
use Rattle.ks_job_source.specs.Texts.{bad_job_text}
use Rattle.ks_run_output.specs.Texts.{read_fault_text}
use Rattle.ks_audit_verdict.specs.declared.fault.OutputFault.{OutputFault}
use Rattle.ks_audit_verdict.specs.declared.fault.OutputFault.TheVariants.{NotJournal}
use Rattle.ks_audit_verdict.specs.Places.{Place}
use Rattle.ks_audit_verdict.specs.Audited.{IsAudited}
use Rattle.ks_audit_verdict.specs.Faults.{IsFaultyWhole, EndsFaulty}
use Rattle.ks_audit_verdict.specs.Answers.{IsAuditAnswer, TookNothingFaulty}
use Rattle.ks_audit_verdict.specs.Texts.{yes_text, no_text}
use Rattle.ks_run_audit.specs.declared.auditing.AuditAnswer.{AuditAnswer}
use Rattle.ks_audit_verdict.specs.Lines.{IsPlain}
use Rattle.ks_topo.specs.Topologies.{draft_of}
use Rattle.ks_job_source.specs.declared.audit_opening.OpenAudit.{OpenAudit}
use Rattle.ks_run_audit.specs.declared.feeding.LineFeed.{LineFeed}
use Rattle.ks_def_tasks.specs.Rules.{rules_of}
use Rattle.ks_audit_verdict.specs.Places.Place.{first_line}
use Rattle.ks_run_audit.specs.declared.output.OutputAudit.{OutputAudit}
use Rattle.ks_run_audit.specs.Outputs.{place_in, text_of}
use Rattle.ks_run_audit.specs.Feeding.{IsFeed, ReadsAll, ReadsFault, draft_in}
use Rattle.ks_job_source.specs.Opened.{HasRead, HasReadOut, HasStopped}
use Rattle.ks_run_audit.specs.Ending.{HasEndFault}
use Rattle.ks_run_audit.specs.Answering.{IsJudged, EndsOutput, EndsEarly, AnswersOutput}
use Rattle.ks_run_audit.proofs.Sources.{answers, answers_fault, holds_audited, has_fault, lacks_end, bad_topology}

-- one status is no other
not_two : (s : ℕ) → IsJudged s → s ≡ 2 → ⊥
not_two s (inl e) is = let f = sym e ∙ is in cc
not_two s (inr e) is = let f = sym e ∙ is in cc

not_six : (s : ℕ) → IsJudged s → s ≡ 6 → ⊥
not_six s (inl e) is = let f = sym e ∙ is in cc
not_six s (inr e) is = let f = sym e ∙ is in cc

judged : (s : ℕ) → IsJudged s → (s ≡ 0) ⊎ (s ≡ 2) ⊎ (s ≡ 6) ⊎ (s ≡ 10)
judged s (inl e) = inl e
judged s (inr e) = inr (inr (inr e))

module _ (rules : Rules) (first now : Option (List ℕ)) (before after status : ℕ) (text : List ℕ) where
  pub from_output : (d : DraftView) (line taken : ℕ) (left : Option (List ℕ)) (rest : List ℕ) → HasRead first left d rest line taken → after ≡ before → AnswersOutput rules d line taken rest left now status text → IsAuditAnswer rules first now before after status text
  from_output d line taken left rest h kept a = record {
    yes = λ is. let y = a.yes is in (kept, y.1.end, holds_audited rules d line taken first left now rest h y.1, y.0);
    bad_topology = λ is. absurd (not_two status a.only is);
    read_fault = λ is. absurd (not_six status a.only is);
    no = λ is. (kept, has_fault rules d line taken first left now rest text h (a.no is));
    only = judged status a.only;
  }

  pub from_unended : (line : ℕ) → HasReadOut first now line → after ≡ before → status ≡ 10 → text ≡ no_text line NotJournal → IsAuditAnswer rules first now before after status text
  from_unended line h kept is told = record {
    yes = λ e. absurd (let f = sym is ∙ e in cc);
    bad_topology = λ e. absurd (not_two status (inr is) e);
    read_fault = λ e. absurd (not_six status (inr is) e);
    no = λ e. (kept, lacks_end rules first now line text h told);
    only = inr (inr (inr is));
  }

  pub from_stop : (stop : JobStop) → HasStopped first now stop → after ≡ before → status ≡ 2 → text ≡ bad_job_text stop → IsAuditAnswer rules first now before after status text
  from_stop stop h kept is told = record {
    yes = λ e. absurd (let f = sym is ∙ e in cc);
    bad_topology = λ e. (kept, (stop, bad_topology first now stop h, told));
    read_fault = λ e. absurd (let f = sym is ∙ e in cc);
    no = λ e. absurd (let f = sym is ∙ e in cc);
    only = inr (inl is);
  }

  pub from_fault : Rose before after → TookNothingFaulty rules first now → status ≡ 6 → text ≡ read_fault_text → IsAuditAnswer rules first now before after status text
  from_fault rose none is told = record {
    yes = λ e. absurd (let f = sym is ∙ e in cc);
    bad_topology = λ e. absurd (let f = sym is ∙ e in cc);
    read_fault = λ e. (rose, none, told);
    no = λ e. absurd (let f = sym is ∙ e in cc);
    only = inr (inr (inl is));
  }

-- a topology's line with its end, or without it
pub by_end : (P : Type 0) (b : Bool) → (b ≡ true → P) → (b ≡ false → P) → P
by_end P true with_end without = with_end refl
by_end P false with_end without = without refl

-- ---- an output at its end
module _ (rules : Rules) (d : DraftView) (place : Place) (lines begun : List ℕ) (line : ℕ) {E : Type 0} (r : Result AuditAnswer E) where
  pub ends_no : (number : ℕ) (fault : OutputFault) → number ≡ line → EndsFaulty rules d place (lines ++ begun) begun fault → IfOk r (λ (a : AuditAnswer). (a.status ≡ 10) × (a.text.items ≡ no_text number fault)) → IfOk r (λ (a : AuditAnswer). EndsOutput rules d place lines begun line a.status a.text.items)
  ends_no number fault same ends h = IfOk-weaker r _ _ (λ a t. record {
    yes = λ e. absurd (let f = sym t.0 ∙ e in cc);
    no = λ e. (fault, ends, t.1 ∙ ap (λ n. no_text n fault) same);
    only = inr t.0;
  }) h

  pub ends_yes : begun ≡ [] → IsAudited rules d lines → IfOk r (λ (a : AuditAnswer). (a.status ≡ 0) × (a.text.items ≡ yes_text)) → IfOk r (λ (a : AuditAnswer). EndsOutput rules d place lines begun line a.status a.text.items)
  ends_yes none audited h = IfOk-weaker r _ _ (λ a t. record {
    yes = λ e. (t.1, none, audited);
    no = λ e. absurd (let f = sym t.0 ∙ e in cc);
    only = inl t.0;
  }) h

-- its end has a fault
pub end_faulty : (rules : Rules) (d : DraftView) (place : Place) (lines begun : List ℕ) (fault : OutputFault) → begun ≡ [] → HasEndFault rules d place lines fault → EndsFaulty rules d place (lines ++ begun) begun fault
end_faulty rules d place lines begun fault none (inl h) = inr (inl (none, h.0, h.1))
end_faulty rules d place lines begun fault none (inr h) = inr (inr (none, subst (λ t. IsFaultyWhole rules d place t fault) (sym (ap (λ b. lines ++ b) none ∙ append-nil lines)) h))

-- ---- an output that was read
pub new_feed : (feed : LineFeed) (line taken : ℕ) → feed.line.items ≡ [] → feed.lines ≡ line → feed.taken ≡ taken → line ≤ taken → taken ≤ 536870912 → IsFeed feed
new_feed feed line taken none lines count few most = record { plain = subst IsPlain (sym none) (tt, omega arith); within = omega (arith, count, most); few = omega (arith, lines, count, few) }

module _ {H : Type 0} (hash : List ℕ → ℕ) (d : DraftView) (line taken : ℕ) (rest : List ℕ) (old now : Option (List ℕ)) (first : OutputAudit H) (feed : LineFeed) (same : draft_in first ≡ d) (begins : place_in first ≡ first_line) (empty : text_of first ≡ []) (number : feed.lines ≡ line) (size : feed.taken ≡ taken) where
  pub answered_all : (total : ℕ) (begun : List ℕ) (lines : ℕ) (last : OutputAudit H) → ReadsAll hash (draft_in first) feed.taken total rest old now begun feed.lines lines first last → total ≤ 536870912 → (status : ℕ) (text : List ℕ) → EndsOutput (rules_of hash) d (place_in last) (text_of last) begun (lines + 1) status text →
      AnswersOutput (rules_of hash) d line taken rest old now status text
  answered_all total begun lines last h within status text ends =
      let here = subst (λ n. ReadsAll hash d taken total rest old now begun n lines first last) number
      (subst (λ n. ReadsAll hash d n total rest old now begun feed.lines lines first last) size (subst (λ x. ReadsAll hash x feed.taken total rest old now begun feed.lines lines first last) same h)) in
      answers hash d line taken rest old now first begins empty total begun lines last here within status text ends

  pub answered_fault : (lines : ℕ) (fault : OutputFault) → ReadsFault hash (draft_in first) feed.taken rest old now feed.lines lines first fault → (status : ℕ) (text : List ℕ) → (status ≡ 10) × (text ≡ no_text (lines + 1) fault) → AnswersOutput (rules_of hash) d line taken rest old now status text
  answered_fault lines fault h status text told =
      let here = subst (λ n. ReadsFault hash d taken rest old now n lines first fault) number
      (subst (λ n. ReadsFault hash d n rest old now feed.lines lines first fault) size (subst (λ x. ReadsFault hash x feed.taken rest old now feed.lines lines first fault) same h)) in
      answers_fault hash d line taken rest old now first begins empty lines fault status text here told

  pub answered_early : EndsEarly (rules_of hash) (draft_in first) (place_in first) (feed.taken + length rest) rest old now → EndsEarly (rules_of hash) d first_line (taken + length rest) rest old now
  answered_early h =
      subst (λ n. EndsEarly (rules_of hash) d first_line (n + length rest) rest old now) size
      (subst (λ p. EndsEarly (rules_of hash) d p (feed.taken + length rest) rest old now) begins (subst (λ x. EndsEarly (rules_of hash) x (place_in first) (feed.taken + length rest) rest old now) same h))

-- ---- behind a topology line
-- it has its end, or lacks it
pub opened : {E : Type 0} (rules : Rules) (first left now : Option (List ℕ)) (before middle after : ℕ) (o : OpenAudit) (r : Result AuditAnswer E) →
    (o.has_end ≡ true → HasRead first left (draft_of o.topology) o.rest.items o.line o.taken) → (o.has_end ≡ false → HasReadOut first left o.line) →
    IfOk r (λ (a : AuditAnswer). o.has_end ≡ true → AnswersOutput rules (draft_of o.topology) o.line o.taken o.rest.items left now a.status a.text.items) →
    IfOk r (λ (a : AuditAnswer). o.has_end ≡ false → (a.status ≡ 10) × (a.text.items ≡ no_text o.line NotJournal) × (now ≡ left)) →
    middle ≡ before → OnOk r (after ≡ middle) → IfOk r (λ (a : AuditAnswer). IsAuditAnswer rules first now before after a.status a.text.items)
opened rules first left now before middle after o (Ok a) read out ended unended kept same = by_end (IsAuditAnswer rules first now before after a.status a.text.items) o.has_end
    (λ e. from_output rules first now before after a.status a.text.items (draft_of o.topology) o.line o.taken left o.rest.items (read e) (same ∙ kept) (ended e))
    (λ e. let u = unended e in from_unended rules first now before after a.status a.text.items o.line (subst (λ l. HasReadOut first l o.line) (sym u.2) (out e)) (same ∙ kept) u.0 u.1)
opened rules first left now before middle after o (Err e) read out ended unended kept same = tt

pub stopped : (rules : Rules) (first now : Option (List ℕ)) (before after : ℕ) (stop : JobStop) → HasStopped first now stop → after ≡ before → (text : List ℕ) → text ≡ bad_job_text stop → IsAuditAnswer rules first now before after 2 text
stopped rules first now before after stop h kept text told = from_stop rules first now before after 2 text stop h kept refl told
