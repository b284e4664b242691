-- What a settled run prints with its journal has no fault.
use Rattle.std.proofs.Common.{◌≡◌, inl, inr, ℕ, ◌+◌, ◌<◌, ◌^◌, arith, List, [], ◌∷◌, ◌++◌, length, map, refl, sym, ap, subst, ◌∙◌, length-append}
use Rattle.std.specs.Prelude.{codes}
use Rattle.std.specs.List.{AllByRecursion}
use Rattle.ks_plan.specs.Drafts.{Name, DraftView}
use Rattle.ks_plan.specs.Plan.{plan_of}
use Rattle.ks_query.specs.declared.table.Table.{Table}
use Rattle.ks_query.specs.Printed.{tables_text}
use Rattle.ks_def_tasks.specs.Messages.{Rules}
use Rattle.ks_history.specs.declared.journal.Entry.{Entry}
use Rattle.ks_law_topology.specs.Work.{setup_of}
use Rattle.ks_law_settled.specs.Folded.{folded_table}
use Rattle.ks_law_settled.specs.Settled.{end_of}
use Rattle.ks_journal.specs.Lines.{journal_text}
use Rattle.ks_run_output.specs.Texts.{settled_text}
use Rattle.ks_audit_verdict.specs.declared.fault.OutputFault.{OutputFault}
use Rattle.ks_audit_verdict.specs.Lines.{ArePlain, lines_text, IsWithinMost}
use Rattle.ks_audit_verdict.specs.Places.{Place, TakesAt}
use Rattle.ks_audit_verdict.specs.Places.Place.{first_line, journal_line}
use Rattle.ks_audit_verdict.specs.Audited.{IsAudited}
use Rattle.ks_audit_verdict.specs.Faults.{IsFaultyLine, IsFaultyWhole, EndsFaulty, IsFaultAt, IsFirstFault, ShowsFault}
use Rattle.ks_audit_verdict.proofs.Left.{TablesFit, names_of, Left}
use Rattle.ks_audit_verdict.proofs.Chains.{leads_plain}
use Rattle.ks_audit_verdict.proofs.Printed.{none_left}
use Rattle.ks_audit_verdict.proofs.Complete.{StandsAt, not_refused, leads_along}
use Rattle.ks_law_accepted.specs.Accepted.{IsWord, NothingIsRefused}
use Rattle.ks_law_accepted.proofs.Placed.{given, stands}
use Rattle.ks_law_accepted.proofs.Tables.{names_are, tables_fit}
use Rattle.ks_law_accepted.proofs.Ends.{at_end, no_long_line, no_long_input, shows_none, lines_same}

settled_is : (tables : List Table) (tail : List ℕ) → settled_text tables ++ tail ≡ codes "settled" ++ 10 ∷ (tables_text tables ++ tail)
unfolding settled_text
settled_is tables tail = refl

abbrev journal_at : Place → List Entry
journal_at (journal_line told) = told
journal_at place = []

module _ (rules : Rules) (d : DraftView) (before : ℕ) (text : List ℕ) (words : AllByRecursion IsWord d.print) (within : IsWithinMost before text) (a : IsAudited rules d text) where
  abbrev f : Name → Table
  f = folded_table d (end_of rules d a.journal)

  abbrev tables : List Table
  tables = map f d.print

  begins : Left d tables a.journal first_line text
  begins = a.printed ∙ ap (λ t. settled_text t ++ journal_text a.journal) (sym a.folds) ∙ settled_is tables (journal_text a.journal)

  short : length (tables_text tables) < 2 ^ 64
  short =
      let all = ap (λ (l : List ℕ). length l) begins in
      omega (arith, all, within.most, length-append (codes "settled") (10 ∷ (tables_text tables ++ journal_text a.journal)), length-append (tables_text tables) (journal_text a.journal))

  fit : TablesFit d tables
  fit = tables_fit rules d a.records a.journal a.run (given rules d a.records a.journal a.run) words short

  named : names_of tables ≡ d.print
  named = names_are f (λ n. refl) d.print

  stand : (told : List Entry) (e : Entry) (rest : List Entry) → a.journal ≡ told ++ e ∷ rest → StandsAt rules d told e
  stand = stands rules d a.records a.journal a.run

  no_line : (at : ℕ) (place : Place) (rest : List ℕ) (fault : OutputFault) → Left d tables a.journal place rest → IsFaultyLine rules d at place rest fault → ⊥
  no_line at place rest fault left h =
      not_refused rules d tables a.journal named fit a.fits stand place h.line h.more fault (subst (Left d tables a.journal place) h.cut left) h.plain.0 h.refused

  no_whole : (place : Place) (fault : OutputFault) → Left d tables a.journal place [] → IsFaultyWhole rules d place text fault → ⊥
  no_whole place fault left h =
      let end = none_left d tables a.journal place left in
      let same : h.journal ≡ a.journal = ap journal_at (sym h.here ∙ end.1) ∙ sym end.2 in
      let cut : text ≡ codes "settled" ++ 10 ∷ (h.lines ++ journal_text a.journal) = h.cut ∙ ap (λ j. codes "settled" ++ 10 ∷ (h.lines ++ journal_text j)) same in
      let shows : ShowsFault rules d (setup_of rules (plan_of d)) (end_of rules d a.journal) h.lines fault = subst (λ j. ShowsFault rules d (setup_of rules (plan_of d)) (end_of rules d j) h.lines fault) same h.shows in
      shows_none rules d (setup_of rules (plan_of d)) (end_of rules d a.journal) h.lines fault (lines_same text h.lines (tables_text tables) (journal_text a.journal) cut begins) a.run.done.settled a.alone a.in_time shows

  no_end : (place : Place) (rest : List ℕ) (fault : OutputFault) → Left d tables a.journal place rest → rest ≡ [] → EndsFaulty rules d place text rest fault → ⊥
  no_end place rest fault left none (inl h) = h.0 none
  no_end place rest fault left none (inr (inl h)) = let end = none_left d tables a.journal place (subst (Left d tables a.journal place) none left) in h.1 end.0 end.1
  no_end place rest fault left none (inr (inr h)) = no_whole place fault (subst (Left d tables a.journal place) none left) h.1

  no_fault : (lines : List (List ℕ)) (place : Place) (rest : List ℕ) (fault : OutputFault) → ArePlain lines → text ≡ lines_text lines ++ rest → Left d tables a.journal place rest → IsFaultAt rules d (before + length (lines_text lines)) place text rest fault → ⊥
  no_fault lines place rest fault plain cut left (inl (e, inl h)) = no_long_line text before lines rest within plain cut h
  no_fault lines place rest fault plain cut left (inl (e, inr h)) = no_long_input text before lines rest within plain cut h
  no_fault lines place rest fault plain cut left (inr (inl h)) = no_line (before + length (lines_text lines)) place rest fault left h
  no_fault lines place rest fault plain cut left (inr (inr h)) = no_end place rest fault left (at_end d tables a.journal place rest left h.plain.0) h.ends

  pub nothing : (count : ℕ) (fault : OutputFault) → IsFirstFault rules d before text count fault → ⊥
  nothing count fault h =
      let left = leads_along rules d tables a.journal named fit a.fits stand first_line h.place h.lines h.rest (subst (Left d tables a.journal first_line) h.cut begins) h.taken in
      no_fault h.lines h.place h.rest fault (leads_plain (TakesAt rules d) first_line h.place h.lines h.taken) h.cut left h.is

pub nothing_is_refused : NothingIsRefused
nothing_is_refused rules d before text words within a count fault h = nothing rules d before text words within a count fault h
