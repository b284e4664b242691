-- Where an output stands, along its lines.
use Rattle.std.proofs.Common.{◌≡◌, ℕ, suc, ◌+◌, ◌-◌, ◌<◌, ◌≤◌, ◌^◌, Bool, true, false, inl, inr, List, [], ◌∷◌, ◌++◌, length, get_or, drop, refl, sym, ap, subst, ◌∙◌, arith, rules}
use Rattle.std.proofs.lemmas.List.{drop_all, drop_more}
use Rattle.std.specs.Prelude.{codes, Option, Some, None}
use Rattle.std.specs.Str.{IsUtf8}
use Rattle.ks_plan.specs.Drafts.{Name, DraftView}
use Rattle.ks_topo.specs.Topologies.{draft_of, plan_in}
use Rattle.ks_plan.specs.Plan.{plan_of}
use Rattle.ks_query.specs.Printed.{head_line}
use Rattle.ks_def_tasks.specs.Rules.{rules_of}
use Rattle.ks_history.specs.declared.journal.Entry.{Entry}
use Rattle.ks_history.specs.History.{at}
use Rattle.ks_law_topology.specs.Work.{setup_of}
use Rattle.ks_audit.specs.declared.fault.AuditFault.{AuditFault}
use Rattle.ks_audit.specs.declared.fault.AuditFault.TheVariants as refused
use Rattle.ks_audit.specs.Audited.{IsRefused}
use Rattle.ks_audit.specs.Audits.{IsFaulty, journal_of}
use Rattle.ks_table_line.specs.Fitting.{IsRowLine}
use Rattle.ks_audit_verdict.specs.Lines.{ended}
use Rattle.ks_audit_verdict.specs.Places.{Place, next_table, next_row, has_windows, TakesAt, IsUnlike, RefusesAt}
use Rattle.ks_audit_verdict.specs.Places.Place.{first_line, journal_line, table_head, table_row}
use Rattle.ks_audit_verdict.specs.Texts.{journal_fault}
use Rattle.ks_run_audit.specs.declared.output.Stage.{Stage}
use Rattle.ks_run_audit.specs.declared.output.Stage.TheVariants.{Settled, Head, Row, Journal}
use Rattle.ks_run_audit.specs.declared.output.OutputAudit.{OutputAudit}
use Rattle.ks_run_audit.specs.Outputs.{place_of, place_in, names_of, last_name, FitsStage, IsSound}

-- ---- what comes next
pub tables_over : (d : DraftView) (begun : ℕ) → length d.print ≤ begun → place_of d Journal begun [] ≡ next_table (drop begun d.print)
tables_over d begun over = ap next_table (sym (drop_all begun d.print over))

pub no_rows : (d : DraftView) (stage : Stage) (begun left : ℕ) (windowed : Bool) → left ≡ 0 → place_of d stage begun [] ≡ next_table (drop begun d.print) → place_of d stage begun [] ≡ next_row windowed left (drop begun d.print)
no_rows d stage begun left windowed none h = h ∙ ap (λ n. next_row windowed n (drop begun d.print)) (sym none)

-- ---- the name of a table
-- of the one that begins next
pub head_place : (d : DraftView) (begun : ℕ) → begun < length d.print → next_table (drop begun d.print) ≡ table_head (get_or d.print begun []) (drop (begun + 1) d.print)
head_place d begun fewer = ap next_table (drop_more d.print begun [] fewer)

-- a row of the one that has begun
pub row_place : (d : DraftView) (begun left : ℕ) → 0 < left → next_row (has_windows d (get_or d.print (begun - 1) [])) left (drop begun d.print) ≡ table_row (has_windows d (get_or d.print (begun - 1) [])) (left - 1) (drop begun d.print)
row_place d begun left some =
    let more : left ≡ suc (left - 1) = omega arith in
    ap (λ n. next_row (has_windows d (get_or d.print (begun - 1) [])) n (drop begun d.print)) more

-- ---- a line before the journal
module _ {H : Type 0} (hash : List ℕ → ℕ) (line : List ℕ) (old new : OutputAudit H) (topology : new.topology ≡ old.topology) (begins : journal_of old.audit ≡ []) (audit : new.audit ≡ old.audit) where
  abbrev d : DraftView
  d = draft_of old.topology.now

  abbrev k : ℕ
  k = old.begun

  place_new : (p : Place) → place_of d new.stage new.begun [] ≡ p → place_in new ≡ p
  place_new p e =
      ap (λ t. place_of (draft_of t.now) new.stage new.begun (journal_of new.audit)) topology
      ∙ ap (λ j. place_of d new.stage new.begun j) (ap journal_of audit ∙ begins) ∙ e

  pub settled_along : old.stage ≡ Settled → k ≡ 0 → new.begun ≡ k → place_of d new.stage k [] ≡ next_table (drop k d.print) → line ≡ codes "settled" → TakesAt (rules_of hash) d (place_in old) line (place_in new)
  settled_along stage none same next is =
      let here : place_of d new.stage new.begun [] ≡ next_table d.print =
      ap (λ n. place_of d new.stage n []) same ∙ next ∙ ap (λ n. next_table (drop n d.print)) none in
      subst (λ s. TakesAt (rules_of hash) d (place_of d s k (journal_of old.audit)) line (place_in new)) (sym stage) (is, place_new (next_table d.print) here)

  pub head_along : old.stage ≡ Head → k < length d.print → (count : ℕ) → count < 2 ^ 64 → ended line ≡ head_line (get_or d.print k []) count →
      place_of d new.stage new.begun [] ≡ next_row (has_windows d (get_or d.print k [])) count (drop (k + 1) d.print) → TakesAt (rules_of hash) d (place_in old) line (place_in new)
  head_along stage fewer count small is next =
      subst (λ s. TakesAt (rules_of hash) d (place_of d s k (journal_of old.audit)) line (place_in new)) (sym stage)
      (subst (λ p. TakesAt (rules_of hash) d p line (place_in new)) (sym (head_place d k fewer)) (count, small, is, place_new _ next))

  pub row_along : (left : ℕ) → old.stage ≡ Row left → 0 < left → IsRowLine (has_windows d (last_name old)) line → place_of d new.stage new.begun [] ≡ next_row (has_windows d (last_name old)) (left - 1) (drop k d.print) →
      TakesAt (rules_of hash) d (place_in old) line (place_in new)
  row_along left stage some is next =
      subst (λ s. TakesAt (rules_of hash) d (place_of d s k (journal_of old.audit)) line (place_in new)) (sym stage)
      (subst (λ p. TakesAt (rules_of hash) d p line (place_in new)) (sym (row_place d k left some)) (is, place_new _ next))

-- ---- a line that isn't one of its place
module _ {H : Type 0} (hash : List ℕ → ℕ) (line : List ℕ) (old : OutputAudit H) where
  abbrev here : DraftView
  here = draft_of old.topology.now

  pub settled_unlike : old.stage ≡ Settled → (line ≡ codes "settled" → ⊥) → IsUnlike (rules_of hash) here (place_in old) line
  settled_unlike stage not = subst (λ s. IsUnlike (rules_of hash) here (place_of here s old.begun (journal_of old.audit)) line) (sym stage) not

  pub head_unlike : old.stage ≡ Head → old.begun < length here.print →
      (IsUtf8 (get_or here.print old.begun []) → (count : ℕ) → count < 2 ^ 64 → ended line ≡ head_line (get_or here.print old.begun []) count → ⊥) → IsUnlike (rules_of hash) here (place_in old) line
  head_unlike stage fewer not =
      subst (λ s. IsUnlike (rules_of hash) here (place_of here s old.begun (journal_of old.audit)) line) (sym stage)
      (subst (λ p. IsUnlike (rules_of hash) here p line) (sym (head_place here old.begun fewer)) not)

  pub row_unlike : (left : ℕ) → old.stage ≡ Row left → 0 < left → (IsRowLine (has_windows here (last_name old)) line → ⊥) → IsUnlike (rules_of hash) here (place_in old) line
  row_unlike left stage some not =
      subst (λ s. IsUnlike (rules_of hash) here (place_of here s old.begun (journal_of old.audit)) line) (sym stage)
      (subst (λ p. IsUnlike (rules_of hash) here p line) (sym (row_place here old.begun left some)) not)

  -- a refused line of the journal
  entry_at : (journal : List Entry) (fault : AuditFault) → IsRefused (rules_of hash) (plan_of here) (at (setup_of (rules_of hash) (plan_of here)) journal) line fault → RefusesAt (rules_of hash) here (journal_line journal) line (journal_fault fault)
  entry_at journal refused.NotJournal h = h
  entry_at journal refused.NotLegal h = h
  entry_at journal (refused.NotFaithful t) h = h

  unfaulty : {A : Type 0} (o : Option AuditFault) (fault : AuditFault) → o ≡ None → o ≡ Some fault → A
  unfaulty o fault none some = absurd (let e = sym none ∙ some in cc)

  pub entry_refused : IsSound hash old → old.stage ≡ Journal → (fault : AuditFault) → IsFaulty hash old.audit line fault → RefusesAt (rules_of hash) here (place_in old) line (journal_fault fault)
  entry_refused sound stage fault (inl e) = unfaulty old.audit.fault fault sound.fault e
  entry_refused sound stage fault (inr h) =
      let is = subst (λ t. IsRefused (rules_of hash) (plan_in t.now) (at (setup_of (rules_of hash) (plan_in t.now)) (journal_of old.audit)) line fault) sound.topology h.1 in
      subst (λ s. RefusesAt (rules_of hash) here (place_of here s old.begun (journal_of old.audit)) line (journal_fault fault)) (sym stage) (entry_at (journal_of old.audit) fault is)

-- ---- the journal begins only behind the tables
pub no_journal : (s : Stage) (tables names : ℕ) (journal : List Entry) → FitsStage s tables names journal → (s ≡ Journal → ⊥) → journal ≡ []
no_journal Settled tables names journal h not = h.1
no_journal Head tables names journal h not = h.1
no_journal (Row left) tables names journal h not = h.3
no_journal Journal tables names journal h not = absurd (not refl)

head_is : (d : DraftView) (begun : ℕ) (journal : List Entry) → begun < length d.print → next_table (drop begun d.print) ≡ journal_line journal → ⊥
head_is d begun journal fewer e = let f = sym (head_place d begun fewer) ∙ e in cc

row_is : (d : DraftView) (begun left : ℕ) (journal : List Entry) → 0 < left → next_row (has_windows d (get_or d.print (begun - 1) [])) left (drop begun d.print) ≡ journal_line journal → ⊥
row_is d begun left journal some e = let f = sym (row_place d begun left some) ∙ e in cc

pub not_yet : (d : DraftView) (s : Stage) (begun : ℕ) (told : List Entry) → FitsStage s begun (length d.print) told → (s ≡ Journal → ⊥) → (journal : List Entry) → place_of d s begun told ≡ journal_line journal → ⊥
not_yet x Settled begun told h not journal e = cc
not_yet x Head begun told h not journal e = head_is x begun journal h.0 e
not_yet x (Row left) begun told h not journal e = row_is x begun left journal h.0 e
not_yet x Journal begun told h not journal e = not refl
