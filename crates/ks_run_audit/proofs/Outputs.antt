-- An output, line by line, and bytes cut into lines.
use Rattle.std.proofs.Common.{◌≡◌, ℕ, ◌<◌, arith, List, [], ◌∷◌, ◌++◌, length, refl, sym, ap, subst, ◌∙◌, append_assoc, append-nil}
use Rattle.std.specs.Prelude.{Bool, true, false, Result, Ok, Err, OnOk, IfErr, ⊤, codes}
use Rattle.std.proofs.lemmas.List.{flat_map_more}
use Rattle.std.specs.declared.vec.Vec.{Vec}
use Rattle.std.specs.declared.alloc.Global.{Global}
use Rattle.ks_plan.specs.Plan.{plan_of}
use Rattle.ks_topo.specs.Topologies.{draft_of, plan_in}
use Rattle.ks_topo.specs.Places.{HasPlaces}
use Rattle.ks_history.specs.declared.journal.Entry.{Entry}
use Rattle.ks_journal.specs.Lines.{entry_text, line_text, journal_text}
use Rattle.ks_journal.specs.Fits.{FitsEntry, FitsJournal}
use Rattle.ks_def_tasks.specs.Rules.{rules_of}
use Rattle.ks_history.specs.History.{at}
use Rattle.ks_law_topology.specs.Work.{setup_of}
use Rattle.ks_audit.specs.Audited.{IsTaken}
use Rattle.ks_audit.specs.Audits.{IsAudit, TakesLine, journal_of}
use Rattle.ks_run_audit.specs.declared.output.Stage.{Stage}
use Rattle.ks_run_audit.specs.declared.output.Stage.TheVariants.{Settled, Head, Row, Journal}
use Rattle.ks_run_audit.specs.declared.output.OutputAudit.{OutputAudit}
use Rattle.ks_job_source.specs.Opened.{IsReady}
use Rattle.ks_audit_verdict.specs.Lines.{ended}
use Rattle.ks_audit_verdict.specs.declared.fault.OutputFault.{OutputFault}
use Rattle.ks_audit_verdict.specs.declared.fault.OutputFault.TheVariants.{NotJournal}
use Rattle.ks_audit_verdict.specs.Places.{TakesAt, IsUnlike, RefusesAt}
use Rattle.ks_audit_verdict.specs.Places.Place.{journal_line}
use Rattle.ks_run_audit.specs.Outputs.{settled_line, begun_text, text_of, FitsStage, FitsNext, names_of, place_of, place_in, IsSound, TakesFront, TakesOutput}
use Rattle.ks_job_source.proofs.Counts.{have_places}

-- ---- stages
pub begun_next : (s : Stage) (tables names : ℕ) → FitsNext s tables names → begun_text s ≡ settled_line
begun_next Settled tables names h = absurd h
begun_next Head tables names h = refl
begun_next (Row left) tables names h = refl
begun_next Journal tables names h = refl

fits_later : (s : Stage) (tables names : ℕ) (old new : List Entry) → s ≡ Journal → FitsStage s tables names old → FitsStage s tables names new
fits_later Settled tables names old new e h = absurd (cc)
fits_later Head tables names old new e h = absurd (cc)
fits_later (Row left) tables names old new e h = absurd (cc)
fits_later Journal tables names old new e h = h

-- an output at another place, with these lines of tables
abbrev pub moved : {H : Type 0} → OutputAudit H → Stage → ℕ → Vec ℕ Global → OutputAudit H
moved o stage begun tables = record { topology = o.topology; audit = o.audit; stage = stage; begun = begun; tables = tables }

-- ---- lines before the journal
module _ {H : Type 0} (hash : List ℕ → ℕ) (line : List ℕ) (old new : OutputAudit H) (topology : new.topology ≡ old.topology) (audit : new.audit ≡ old.audit) where
  pub settled_taken : old.stage ≡ Settled → new.begun ≡ old.begun → old.tables.items ≡ [] → new.tables.items ≡ old.tables.items → FitsNext new.stage old.begun (names_of old) → line ≡ codes "settled" →
      TakesAt (rules_of hash) (draft_of old.topology.now) (place_in old) line (place_in new) → TakesFront hash line old new
  settled_taken stage begun nothing same next is along = record {
    topology = topology;
    audit = audit;
    stage = subst (λ n. FitsNext new.stage n (names_of new)) (sym begun) (subst (λ t. FitsNext new.stage old.begun (length (draft_of t.now).print)) (sym topology) next);
    none = λ e. same ∙ nothing;
    text =
        ap (λ l. begun_text new.stage ++ l) (same ∙ nothing) ∙ append-nil (begun_text new.stage) ∙ begun_next new.stage old.begun (names_of old) next
        ∙ sym (ap (λ s. begun_text s ++ old.tables.items ++ ended line) stage ∙ ap (λ l. l ++ ended line) nothing ∙ ap ended is);
    along = along;
  }

  -- one more line of the tables
  pub table_taken : begun_text old.stage ≡ settled_line → 0 < new.begun → new.tables.items ≡ old.tables.items ++ ended line → FitsNext new.stage new.begun (names_of old) →
      TakesAt (rules_of hash) (draft_of old.topology.now) (place_in old) line (place_in new) → TakesFront hash line old new
  table_taken begins some more next along = record {
    topology = topology;
    audit = audit;
    stage = subst (λ t. FitsNext new.stage new.begun (length (draft_of t.now).print)) (sym topology) next;
    none = λ e. absurd (omega arith);
    text =
        ap (λ l. begun_text new.stage ++ l) more ∙ sym (append_assoc (begun_text new.stage) old.tables.items (ended line))
        ∙ ap (λ b. (b ++ old.tables.items) ++ ended line) (begun_next new.stage new.begun (names_of old) next ∙ sym begins);
    along = along;
  }

-- ---- lines of the journal
line_more : (journal : List Entry) (e : Entry) → journal_text (journal ++ e ∷ []) ≡ journal_text journal ++ ended (entry_text e)
unfolding line_text
line_more journal e = sym (flat_map_more line_text [] journal e)

fits_more : (journal : List Entry) (e : Entry) → FitsJournal journal → FitsEntry e → FitsJournal (journal ++ e ∷ [])
fits_more [] e h f = (f, tt)
fits_more (x ∷ xs) e h f = (h.0, fits_more xs e h.1 f)

-- the next line is an entry's, too
entry_along : {H : Type 0} (hash : List ℕ → ℕ) (line : List ℕ) (old new : OutputAudit H) → IsSound hash old → old.stage ≡ Journal → new.stage ≡ old.stage → new.begun ≡ old.begun → new.topology ≡ old.topology → TakesLine hash old.audit new.audit line →
    TakesAt (rules_of hash) (draft_of old.topology.now) (place_in old) line (place_in new)
entry_along hash line old new sound stage same begun topology takes =
    let d = draft_of old.topology.now in
    let taken = subst (λ t. IsTaken (rules_of hash) (plan_in t.now) (at (setup_of (rules_of hash) (plan_in t.now)) (journal_of old.audit)) line takes.entry) sound.topology takes.taken in
    let now : place_in new ≡ journal_line (journal_of old.audit ++ takes.entry ∷ []) =
    ap (λ s. place_of (draft_of new.topology.now) s new.begun (journal_of new.audit)) (same ∙ stage) ∙ ap journal_line takes.journal in
    subst (λ s. TakesAt (rules_of hash) d (place_of d s old.begun (journal_of old.audit)) line (place_in new)) (sym stage) (takes.entry, taken, now)

-- a line before the journal, as a line
front_fits : (s : Stage) (tables names : ℕ) (journal : List Entry) → journal ≡ [] → FitsNext s tables names → FitsStage s tables names journal
front_fits Settled tables names journal e h = absurd h
front_fits Head tables names journal e h = (h, e)
front_fits (Row left) tables names journal e h = (h.0, h.1, h.2, e)
front_fits Journal tables names journal e h = h

pub front_taken : {H : Type 0} (hash : List ℕ → ℕ) (line : List ℕ) (old new : OutputAudit H) → IsSound hash old → journal_of old.audit ≡ [] → TakesFront hash line old new → TakesOutput hash line old new
front_taken {H} hash line old new sound begins t =
    let nothing : journal_of new.audit ≡ [] = ap journal_of t.audit ∙ begins in
    record {
      sound = record {
        topology = ap (λ a. a.topology) t.audit ∙ sound.topology ∙ sym t.topology;
        fault = ap (λ a. a.fault) t.audit ∙ sound.fault;
        kept = subst (IsAudit hash) (sym t.audit) sound.kept;
        fits = subst (λ a. FitsJournal (journal_of a)) (sym t.audit) sound.fits;
        stage = front_fits new.stage new.begun (names_of new) (journal_of new.audit) nothing t.stage;
        none = t.none;
      };
      topology = t.topology;
      text =
          ap (λ j. begun_text new.stage ++ new.tables.items ++ journal_text j) nothing ∙ append-nil (begun_text new.stage ++ new.tables.items) ∙ t.text
          ∙ ap (λ l. l ++ ended line) (sym (ap (λ j. begun_text old.stage ++ old.tables.items ++ journal_text j) begins ∙ append-nil (begun_text old.stage ++ old.tables.items)));
      along = t.along;
    }

pub entry_taken : {H : Type 0} (hash : List ℕ → ℕ) (line : List ℕ) (old new : OutputAudit H) → IsSound hash old → old.stage ≡ Journal → new.stage ≡ old.stage → new.begun ≡ old.begun → new.tables ≡ old.tables → new.topology ≡ old.topology → TakesLine hash old.audit new.audit line → TakesOutput hash line old new
entry_taken {H} hash line old new sound stage same begun tables topology takes = record {
  sound = record {
    topology = takes.topology ∙ sound.topology ∙ sym topology;
    fault = takes.fault;
    kept = takes.kept;
    fits = subst FitsJournal (sym takes.journal) (fits_more (journal_of old.audit) takes.entry sound.fits takes.taken.entry.0);
    stage =
        subst (λ s. FitsStage s new.begun (names_of new) (journal_of new.audit)) (sym same)
        (subst (λ n. FitsStage old.stage n (names_of new) (journal_of new.audit)) (sym begun)
        (subst (λ t. FitsStage old.stage old.begun (length (draft_of t.now).print) (journal_of new.audit)) (sym topology)
        (fits_later old.stage old.begun (names_of old) (journal_of old.audit) (journal_of new.audit) stage sound.stage)));
    none = λ e. ap (λ (v : Vec ℕ Global). v.items) tables ∙ sound.none (sym begun ∙ e);
  };
  topology = topology;
  text =
      ap (λ s. begun_text s ++ new.tables.items ++ journal_text (journal_of new.audit)) same
      ∙ ap (λ (t : Vec ℕ Global). begun_text old.stage ++ t.items ++ journal_text (journal_of new.audit)) tables
      ∙ ap (λ j. begun_text old.stage ++ old.tables.items ++ journal_text j) takes.journal
      ∙ ap (λ l. begun_text old.stage ++ old.tables.items ++ l) (line_more (journal_of old.audit) takes.entry ∙ ap (λ l. journal_text (journal_of old.audit) ++ ended l) (sym takes.taken.entry.1))
      ∙ sym (append_assoc (begun_text old.stage ++ old.tables.items) (journal_text (journal_of old.audit)) (ended line));
  along = entry_along hash line old new sound stage same begun topology takes;
}

-- ---- a line before the journal, by whether it was taken
module _ {H : Type 0} (hash : List ℕ → ℕ) (line : List ℕ) (old new : OutputAudit H) (b : Bool) where
  pub taken_by : (r : Result ⊤ OutputFault) → IsSound hash old → journal_of old.audit ≡ [] → OnOk r (b ≡ true) → (b ≡ true → TakesFront hash line old new) → OnOk r (TakesOutput hash line old new)
  taken_by (Ok u) sound begins is takes = front_taken hash line old new sound begins (takes is)
  taken_by (Err f) sound begins is takes = tt

  pub refused_by : (r : Result ⊤ OutputFault) → IfErr r (λ f. (b ≡ false) × (f ≡ NotJournal)) → (b ≡ false → IsUnlike (rules_of hash) (draft_of old.topology.now) (place_in old) line) → IfErr r (RefusesAt (rules_of hash) (draft_of old.topology.now) (place_in old) line)
  refused_by (Ok u) is unlike = tt
  refused_by (Err f) is unlike = subst (RefusesAt (rules_of hash) (draft_of old.topology.now) (place_in old) line) (sym is.1) (unlike is.0)

-- ---- what the audit of a journal asks of a topology
pub places_there : {H : Type 0} (o : OutputAudit H) → IsReady (draft_of o.topology.now) → o.audit.topology ≡ o.topology → (topic : ℕ) → topic < length (plan_of (draft_of o.audit.topology.now)).counts → HasPlaces (plan_of (draft_of o.audit.topology.now)) topic
places_there o ready same topic l =
    subst (λ t. HasPlaces (plan_of (draft_of t.now)) topic) (sym same) (have_places (draft_of o.topology.now) topic ready.fine ready.partitions (subst (λ t. topic < length (plan_of (draft_of t.now)).counts) same l))
