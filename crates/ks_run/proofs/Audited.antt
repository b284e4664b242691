-- What the words `audit` are answered.
use Rattle.std.proofs.Common.{◌≡◌, ◌⊎◌, inl, inr, ℕ, Bool, true, false, ◌||◌, List, refl, sym, ap, subst, ◌∙◌}
use Rattle.std.specs.Prelude.{◌==◌, Option, Some, None}
use Rattle.std.proofs.lemmas.Bool.{true≢false}
use Rattle.ks_words.specs.declared.command.Command.{Command}
use Rattle.ks_words.specs.declared.command.Command.TheVariants.{Run, Load, Ask, Audit}
use Rattle.ks_plan.specs.Drafts.{DraftView}
use Rattle.ks_plan.specs.Plan.{plan_of}
use Rattle.ks_def_tasks.specs.Messages.{Rules}
use Rattle.ks_journal.specs.Lines.{journal_text}
use Rattle.ks_law_exactly_once.proofs.Replays.{is_run}
use Rattle.ks_law_topology.specs.Work.{setup_of}
use Rattle.ks_law_topology.proofs.Networks.{works_are_networks}
use Rattle.ks_audit_verdict.specs.Audited.{IsAudited, HoldsAudited}
use Rattle.ks_audit_verdict.specs.Answers.{IsVerdict, IsAuditAnswer}
use Rattle.ks_law_accepted.proofs.Inputs.{the_answer_is_yes}
use Rattle.ks_run_verdict.specs.Audited.{IsPrintedRun, HoldsRun, AnswersYes}
use Rattle.ks_run_verdict.specs.Commands.{IsAuditStatus, IsRunStatus, IsAskStatus, IsStatusOf, HasValidJob, HasBadAsk, is_audit}

-- ---- no other status is one
abbrev one_of_audit : ℕ → Bool
one_of_audit s = (s == 0) || (s == 2) || (s == 6) || (s == 7) || (s == 8) || (s == 10)

is_one : (s : ℕ) → IsAuditStatus s → one_of_audit s ≡ true
is_one s (inl e) = ap one_of_audit e
is_one s (inr (inl e)) = ap one_of_audit e
is_one s (inr (inr (inl e))) = ap one_of_audit e
is_one s (inr (inr (inr (inl e)))) = ap one_of_audit e
is_one s (inr (inr (inr (inr (inl e))))) = ap one_of_audit e
is_one s (inr (inr (inr (inr (inr e))))) = ap one_of_audit e

pub not_other : (s n : ℕ) → one_of_audit n ≡ false → IsAuditStatus s → s ≡ n → ⊥
not_other s n other h e = true≢false (sym (is_one s h) ∙ (ap one_of_audit e ∙ other))

-- ---- the statuses of commands
-- without a question it is a run's
pub not_asked : (s : ℕ) → IsAskStatus s → (s ≡ 9 → ⊥) → IsRunStatus s
not_asked s (inl e) none = absurd (none e)
not_asked s (inr h) none = h

-- want of memory is one of each
pub of_memory : (command : Option Command) → IsStatusOf command 8
of_memory None = inr (inr refl)
of_memory (Some (Run settings)) = inr (inr (inr (inr (inr (inr refl)))))
of_memory (Some (Load orders settings)) = inr (inr (inr (inr (inr (inr refl)))))
of_memory (Some (Ask node key start settings)) = inr (inr (inr (inr (inr (inr (inr refl))))))
of_memory (Some Audit) = inr (inr (inr (inr (inl refl))))

pub of_audit : (command : Option Command) (s : ℕ) → is_audit command ≡ true → IsAuditStatus s → IsStatusOf command s
of_audit None s e h = absurd (true≢false (sym e))
of_audit (Some (Run settings)) s e h = absurd (true≢false (sym e))
of_audit (Some (Load orders settings)) s e h = absurd (true≢false (sym e))
of_audit (Some (Ask node key start settings)) s e h = absurd (true≢false (sym e))
of_audit (Some Audit) s e h = h

-- no other command is one
pub not_plain : (command told : Option Command) → command ≡ told → is_audit command ≡ true → is_audit told ≡ false → ⊥
not_plain command told same audit plain = true≢false (sym audit ∙ (ap is_audit same ∙ plain))

pub is_command : (command told : Option Command) → command ≡ told → is_audit command ≡ true → told ≡ None → ⊥
is_command command told same audit none = true≢false (sym audit ∙ ap is_audit (same ∙ none))

pub no_job : (command told : Option Command) → command ≡ told → is_audit command ≡ true → (left : Option (List ℕ)) (before now : ℕ) → HasValidJob told left before now → ⊥
no_job command told same audit left before now h = by told (ap is_audit (sym same) ∙ audit) h
  where
    by : (c : Option Command) → is_audit c ≡ true → HasValidJob c left before now → ⊥
    by None e g = g
    by (Some (Run settings)) e g = absurd (cc)
    by (Some (Load orders settings)) e g = absurd (cc)
    by (Some (Ask node key start settings)) e g = absurd (cc)
    by (Some Audit) e g = g

pub no_bad_ask : (command told : Option Command) → command ≡ told → is_audit command ≡ true → (left : Option (List ℕ)) (before now : ℕ) → HasBadAsk told left before now → ⊥
no_bad_ask command told same audit left before now h = by told (ap is_audit (sym same) ∙ audit) h
  where
    by : (c : Option Command) → is_audit c ≡ true → HasBadAsk c left before now → ⊥
    by None e g = g
    by (Some (Run settings)) e g = g
    by (Some (Load orders settings)) e g = g
    by (Some (Ask node key start settings)) e g = absurd (cc)
    by (Some Audit) e g = g

-- ---- what an audit's yes says, in the words of a run's clause
pub printed_run : (rules : Rules) (d : DraftView) (text : List ℕ) → IsAudited rules d text → IsPrintedRun rules d text
printed_run rules d text a = record {
  records = a.records;
  journal = a.journal;
  kept = record {
    job = a.run.job;
    history = a.run.done.history;
    produced = a.run.done.produced;
    settled = a.run.done.settled;
    run = is_run (setup_of rules (plan_of d)) a.journal (works_are_networks rules (plan_of d)) a.run.done.history;
    few = a.run.done.few;
  };
  fits = a.fits;
  told = record {
    alone = a.alone;
    in_time = a.in_time;
    folds = a.folds;
    printed = record { tail = journal_text a.journal; is_tail = refl; printed = a.printed };
  };
}

pub holds_run : (rules : Rules) (left : Option (List ℕ)) → HoldsAudited rules left → HoldsRun rules left
holds_run rules left h = record {
  bytes = h.bytes;
  known = h.known;
  head = h.input.head;
  text = h.input.text;
  cut = h.input.cut;
  line = h.input.line;
  draft = h.input.draft;
  topology = h.input.topology;
  within = h.input.within;
  printed = printed_run rules h.input.draft h.input.text h.input.audited;
}

-- a verdict is a status of an audit
pub audit_status : (s : ℕ) → IsVerdict s → IsAuditStatus s
audit_status s (inl e) = inl e
audit_status s (inr (inl e)) = inr (inl e)
audit_status s (inr (inr (inl e))) = inr (inr (inl e))
audit_status s (inr (inr (inr e))) = inr (inr (inr (inr (inr e))))

pub not_seven : (s : ℕ) → IsVerdict s → s ≡ 7 → ⊥
not_seven s (inl e) is = let f = sym e ∙ is in cc
not_seven s (inr (inl e)) is = let f = sym e ∙ is in cc
not_seven s (inr (inr (inl e))) is = let f = sym e ∙ is in cc
not_seven s (inr (inr (inr e))) is = let f = sym e ∙ is in cc

pub not_eight : (s : ℕ) → IsVerdict s → s ≡ 8 → ⊥
not_eight s (inl e) is = let f = sym e ∙ is in cc
not_eight s (inr (inl e)) is = let f = sym e ∙ is in cc
not_eight s (inr (inr (inl e))) is = let f = sym e ∙ is in cc
not_eight s (inr (inr (inr e))) is = let f = sym e ∙ is in cc

-- ---- an audited input is answered by yes
yes_or : (s : ℕ) → (s ≡ 0) ⊎ (s ≡ 6) → (s ≡ 0) ⊎ (s ≡ 6) ⊎ (s ≡ 7) ⊎ (s ≡ 8)
yes_or s (inl e) = inl e
yes_or s (inr e) = inr (inl e)

pub says_yes : (rules : Rules) (left now : Option (List ℕ)) (before after s : ℕ) (text : List ℕ) → IsAuditAnswer rules left now before after s text → AnswersYes rules left s
says_yes rules left now before after s text h bytes is input = yes_or s (the_answer_is_yes rules bytes now before after s text input (subst (λ l. IsAuditAnswer rules l now before after s text) is h))
