-- No line of a settled run's output is refused, and each leads where the next one stands.
use Rattle.std.proofs.Common.{◌≡◌, inl, inr, ℕ, true, List, [], ◌∷◌, ◌++◌, decimal, sym, ap, subst, ◌∙◌, append_assoc}
use Rattle.std.proofs.lemmas.List.{append_cancel_left, append_cancel_right}
use Rattle.std.proofs.lemmas.Fmt.{decimal_injective}
use Rattle.ks_record.specs.declared.record.TaskId.{TaskId}
use Rattle.ks_plan.specs.Drafts.{DraftView}
use Rattle.ks_plan.specs.Plan.{plan_of}
use Rattle.ks_query.specs.declared.table.Table.{Table}
use Rattle.ks_def_tasks.specs.Messages.{Rules}
use Rattle.ks_history.specs.declared.journal.Request.TheVariants.{Decide}
use Rattle.ks_history.specs.declared.journal.Entry.{Entry}
use Rattle.ks_history.specs.declared.transaction.Transaction.{Transaction}
use Rattle.ks_history.specs.State.{State, Setup}
use Rattle.ks_history.specs.Step.{refusal}
use Rattle.ks_history.specs.Faithful.{IsFaithful}
use Rattle.ks_history.specs.History.{IsStep, CommitsFaithfully, IsFaithfulEntry}
use Rattle.ks_law_topology.specs.Work.{setup_of}
use Rattle.ks_law_settled.specs.Settled.{end_of}
use Rattle.ks_journal.specs.Fits.{FitsJournal}
use Rattle.ks_journal.proofs.LineAgain.{one_line}
use Rattle.ks_job_source.specs.Cutting.{HasNoEnd}
use Rattle.ks_audit_verdict.specs.Lines.{ended, lines_text, Leads}
use Rattle.ks_audit.specs.Audited.{IsPlaced, IsUnfaithful}
use Rattle.ks_audit_verdict.specs.declared.fault.OutputFault.{OutputFault}
use Rattle.ks_audit_verdict.specs.Places.{Place, next_row, has_windows, TakesAt, RefusesAt}
use Rattle.ks_audit_verdict.specs.Places.Place.{first_line, table_head, table_row, journal_line}
use Rattle.ks_audit_verdict.specs.declared.fault.OutputFault.TheVariants.{TooLong, NotJournal, NotLegal, NotFaithful, NotSettled, Collision, Late, WrongTable}
use Rattle.ks_audit_verdict.proofs.Left.{TablesFit, names_of, Left}
use Rattle.ks_audit_verdict.proofs.Chains.{line_first}
use Rattle.ks_audit_verdict.proofs.Printed.{head_front, head_ends, settled_left, head_left, row_left, entry_left}

-- ---- a faithful commit is unfaithful for no task
unfaithful : (setup : Setup) (s : State) (w : ℕ) (tx : Transaction) (t : TaskId) → IsFaithful setup s w tx → IsUnfaithful setup s w tx t → ⊥
unfaithful setup s w tx t h (inl u) = let p = h.named t u.0 in absurd (let e = sym u.1 ∙ p.1 in cc)
unfaithful setup s w tx t h (inr u) = u.2 (h.each t u.0 u.1)

-- an entry of a journal, where it stands
pub record StandsAt (rules : Rules) (d : DraftView) (told : List Entry) (e : Entry) : Type 0 where
  pub placed : IsPlaced rules (plan_of d) e.request
  pub step : IsStep (setup_of rules (plan_of d)) (end_of rules d told) e
  pub faithful : IsFaithfulEntry (setup_of rules (plan_of d)) (end_of rules d told) e

same_end : (a b : List ℕ) → ended a ≡ ended b → a ≡ b
same_end a b e = append_cancel_right a b (10 ∷ []) e

module _ (rules : Rules) (d : DraftView) (tables : List Table) (journal : List Entry) (names : names_of tables ≡ d.print) (fit : TablesFit d tables) (fits : FitsJournal journal)
    (stands : (told : List Entry) (e : Entry) (rest : List Entry) → journal ≡ told ++ e ∷ rest → StandsAt rules d told e) where
  pub not_refused : (place : Place) (line more : List ℕ) (fault : OutputFault) → Left d tables journal place (line ++ 10 ∷ more) → HasNoEnd line → RefusesAt rules d place line fault → ⊥
  not_refused first_line line more NotJournal left plain h = h (settled_left d tables journal line more left plain names fit).0
  not_refused (table_head name others) line more NotJournal left plain h = let t = head_left d tables journal name others line more left plain in h t.2 t.0 t.1 (ap ended t.3 ∙ head_ends name t.0)
  not_refused (table_row windowed n others) line more NotJournal left plain h = h (row_left d tables journal windowed n others line more left plain).0
  not_refused (journal_line told) line more NotJournal left plain h = let t = entry_left d tables journal told line more left plain fits in h t.0 (t.3, t.4)
  not_refused (journal_line told) line more NotLegal left plain h =
      let t = entry_left d tables journal told line more left plain fits in
      let s = stands told t.0 t.1 t.2 in
      let same : t.0 ≡ h.0 = one_line t.0 h.0 t.3 h.1.0 (sym t.4 ∙ h.1.1) in
      let here : StandsAt rules d told h.0 = subst (StandsAt rules d told) same s in
      h.2 here.placed here.step
  not_refused (journal_line told) line more (NotFaithful task) left plain h =
      let t = entry_left d tables journal told line more left plain fits in
      let s = stands told t.0 t.1 t.2 in
      let same : t.0 ≡ h.0 = one_line t.0 h.0 t.3 h.1.0 (sym t.4 ∙ h.1.1) in
      let here : StandsAt rules d told h.0 = subst (StandsAt rules d told) same s in
      let setup = setup_of rules (plan_of d) in
      let u = h.4 in
      let commits : CommitsFaithfully setup (end_of rules d told) (Decide u.w u.epoch true) = subst (CommitsFaithfully setup (end_of rules d told)) u.commits here.faithful in
      unfaithful setup (end_of rules d told) u.w u.tx task (commits (ap (λ r. refusal setup (end_of rules d told) r) (sym u.commits) ∙ u.accepted) u.tx u.undecided) u.this
  not_refused first_line line more TooLong left plain h = h
  not_refused first_line line more NotLegal left plain h = h
  not_refused first_line line more (NotFaithful t) left plain h = h
  not_refused first_line line more Collision left plain h = h
  not_refused first_line line more (NotSettled lags pending) left plain h = h
  not_refused first_line line more (Late late) left plain h = h
  not_refused first_line line more (WrongTable wrong) left plain h = h
  not_refused (table_head name others) line more TooLong left plain h = h
  not_refused (table_head name others) line more NotLegal left plain h = h
  not_refused (table_head name others) line more (NotFaithful t) left plain h = h
  not_refused (table_head name others) line more Collision left plain h = h
  not_refused (table_head name others) line more (NotSettled lags pending) left plain h = h
  not_refused (table_head name others) line more (Late late) left plain h = h
  not_refused (table_head name others) line more (WrongTable wrong) left plain h = h
  not_refused (table_row windowed n others) line more TooLong left plain h = h
  not_refused (table_row windowed n others) line more NotLegal left plain h = h
  not_refused (table_row windowed n others) line more (NotFaithful t) left plain h = h
  not_refused (table_row windowed n others) line more Collision left plain h = h
  not_refused (table_row windowed n others) line more (NotSettled lags pending) left plain h = h
  not_refused (table_row windowed n others) line more (Late late) left plain h = h
  not_refused (table_row windowed n others) line more (WrongTable wrong) left plain h = h
  not_refused (journal_line told) line more TooLong left plain h = h
  not_refused (journal_line told) line more Collision left plain h = h
  not_refused (journal_line told) line more (NotSettled lags pending) left plain h = h
  not_refused (journal_line told) line more (Late late) left plain h = h
  not_refused (journal_line told) line more (WrongTable wrong) left plain h = h

  -- a line that is taken leads to what is left behind it
  pub leads : (place next : Place) (line more : List ℕ) → Left d tables journal place (line ++ 10 ∷ more) → HasNoEnd line → TakesAt rules d place line next → Left d tables journal next more
  leads first_line next line more left plain h = subst (λ p. Left d tables journal p more) (sym h.1) (settled_left d tables journal line more left plain names fit).1
  leads (table_head name others) next line more left plain h =
      let t = head_left d tables journal name others line more left plain in
      let front : head_front name ++ decimal h.0 ≡ head_front name ++ decimal t.0 = same_end (head_front name ++ decimal h.0) (head_front name ++ decimal t.0) (head_ends name h.0 ∙ sym h.2 ∙ ap ended t.3) in
      let count : h.0 ≡ t.0 = decimal_injective h.0 t.0 h.1 t.1 (append_cancel_left (head_front name) (decimal h.0) (decimal t.0) front) in
      subst (λ p. Left d tables journal p more) (sym (h.3 ∙ ap (λ n. next_row (has_windows d name) n others) count)) t.4
  leads (table_row windowed n others) next line more left plain h = subst (λ p. Left d tables journal p more) (sym h.1) (row_left d tables journal windowed n others line more left plain).1
  leads (journal_line told) next line more left plain h =
      let t = entry_left d tables journal told line more left plain fits in
      let same : h.0 ≡ t.0 = one_line h.0 t.0 h.1.entry.0 t.3 (sym h.1.entry.1 ∙ t.4) in
      subst (λ p. Left d tables journal p more) (sym (h.2 ∙ ap (λ e. journal_line (told ++ e ∷ [])) same)) t.5

  pub leads_along : (place here : Place) (lines : List (List ℕ)) (rest : List ℕ) → Left d tables journal place (lines_text lines ++ rest) → Leads (TakesAt rules d) place lines here → Left d tables journal here rest
  leads_along place here [] rest left h = subst (λ p. Left d tables journal p rest) (sym h) left
  leads_along place here (line ∷ lines) rest left h =
      let cut : (ended line ++ lines_text lines) ++ rest ≡ line ++ 10 ∷ (lines_text lines ++ rest) = append_assoc (ended line) (lines_text lines) rest ∙ line_first line (lines_text lines ++ rest) in
      leads_along h.1.0 here lines rest (leads place h.1.0 line (lines_text lines ++ rest) (subst (Left d tables journal place) cut left) h.0.0 h.1.1) h.1.2
