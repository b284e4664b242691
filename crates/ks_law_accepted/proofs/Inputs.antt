-- An input of a topology's line and a settled run's output has no fault.
use Rattle.std.proofs.Common.{◌≡◌, ◌⊎◌, inl, inr, ℕ, List, [], ◌∷◌, ◌++◌, length, refl, sym, ap, ap₂, subst, ◌∙◌, append_assoc, append-nil}
use Rattle.std.specs.Prelude.{Option, Some, None}
use Rattle.std.proofs.lemmas.List.{append_cancel_left}
use Rattle.ks_plan.specs.Drafts.{DraftView}
use Rattle.ks_def_tasks.specs.Messages.{Rules}
use Rattle.ks_job.specs.Items.{ItemView, TopologyAt}
use Rattle.ks_job.specs.Reader.{Machine, so_far}
use Rattle.ks_job.proofs.Cuts.{after_both}
use Rattle.ks_job_source.specs.declared.stop.JobStop.{JobStop}
use Rattle.ks_job_source.specs.Stops.{stop_of}
use Rattle.ks_job_source.proofs.Machines.{keeps_after, stays_after}
use Rattle.ks_audit_verdict.specs.declared.fault.OutputFault.{OutputFault}
use Rattle.ks_audit_verdict.specs.declared.fault.OutputFault.TheVariants.{NotJournal}
use Rattle.ks_job_source.specs.TopologyLines.{EndsTopology}
use Rattle.ks_audit_verdict.specs.Audited.{IsAuditedInput}
use Rattle.ks_audit_verdict.specs.Faults.{IsFirstFault}
use Rattle.ks_job_source.specs.TopologyLines.{StopsAt, StopsAtEnd, LacksEnd}
use Rattle.ks_audit_verdict.specs.Answers.{HasBadTopology, IsFaultyInput, HasFault, IsVerdict}
use Rattle.ks_law_accepted.specs.Accepted.{TheAnswerIsYes}
use Rattle.ks_law_accepted.proofs.Accepted.{nothing_is_refused}
use Rattle.ks_law_accepted.proofs.Words.{prints_words}

-- ---- two fronts of the same bytes
abbrev head_or : ℕ → List ℕ → ℕ
head_or d [] = d
head_or d (x ∷ xs) = x

abbrev tail_of : List ℕ → List ℕ
tail_of [] = []
tail_of (x ∷ xs) = xs

abbrev IsFrontOf : List ℕ → List ℕ → Type 0
IsFrontOf a b = (more : List ℕ) × (b ≡ a ++ more)

fronts : (a b s t : List ℕ) → a ++ s ≡ b ++ t → IsFrontOf a b ⊎ IsFrontOf b a
fronts [] b s t e = inl (b, refl)
fronts (x ∷ a) [] s t e = inr (x ∷ a, refl)
fronts (x ∷ a) (y ∷ b) s t e = by (fronts a b s t (ap tail_of e))
  where
    same : x ≡ y
    same = ap (head_or 0) e

    by : IsFrontOf a b ⊎ IsFrontOf b a → IsFrontOf (x ∷ a) (y ∷ b) ⊎ IsFrontOf (y ∷ b) (x ∷ a)
    by (inl f) = inl (f.0, ap₂ (λ z zs. z ∷ zs) (sym same) f.1)
    by (inr f) = inr (f.0, ap₂ (λ z zs. z ∷ zs) same f.1)

-- bytes that lack the last one, at least
not_nil : (a : List ℕ) (x : ℕ) (m : List ℕ) → a ++ x ∷ m ≡ [] → ⊥
not_nil [] x m e = cc
not_nil (z ∷ a) x m e = cc

shorter : (a : List ℕ) (x : ℕ) (m front : List ℕ) (y : ℕ) → front ++ y ∷ [] ≡ a ++ x ∷ m → IsFrontOf a front
shorter [] x m front y e = (front, refl)
shorter (z ∷ a) x m [] y e = absurd (not_nil a x m (sym (ap tail_of e)))
shorter (z ∷ a) x m (w ∷ front) y e =
    let f = shorter a x m front y (ap tail_of e) in
    (f.0, ap₂ (λ h t. h ∷ t) (ap (head_or 0) e) f.1)

-- ---- a reader's items
some_items : (a b : List ℕ) → IsFrontOf a b → ((so_far a).items ≡ [] → ⊥) → (so_far b).items ≡ [] → ⊥
some_items a b f some none =
    (keeps_after (so_far a) f.0).some some (sym (ap (λ (m : Machine). m.items) (ap so_far f.1 ∙ after_both (so_far []) a f.0)) ∙ none)

one_item : (line : ℕ) (d : DraftView) (is : List ItemView) → is ≡ TopologyAt line d ∷ [] → is ≡ [] → ⊥
one_item line d is e none = let f = sym e ∙ none in cc

-- ---- a topology's line is one
has_item : (a : List ℕ) (line : ℕ) (d : DraftView) → EndsTopology a line d → (so_far a).items ≡ [] → ⊥
has_item a line d h none = one_item line d (so_far a).items h.items none

no_longer : (a b : List ℕ) (l k : ℕ) (d e : DraftView) → EndsTopology a l d → EndsTopology b k e → IsFrontOf a b → a ≡ b
no_longer a b l k d e h g ([], is) = sym (is ∙ append-nil a)
no_longer a b l k d e h g (x ∷ m, is) = absurd (some_items a g.front (shorter a x m g.front 10 (sym g.ended ∙ is)) (has_item a l d h) g.before)

one_line : (a b s t : List ℕ) (l k : ℕ) (d e : DraftView) → EndsTopology a l d → EndsTopology b k e → a ++ s ≡ b ++ t → a ≡ b
one_line a b s t l k d e h g same = by (fronts a b s t same)
  where
    by : IsFrontOf a b ⊎ IsFrontOf b a → a ≡ b
    by (inl f) = no_longer a b l k d e h g f
    by (inr f) = sym (no_longer b a k l e d g h f)

abbrev draft_in : DraftView → List ItemView → DraftView
draft_in d (TopologyAt line e ∷ is) = e
draft_in d is = d

same_draft : (a b : List ℕ) (l k : ℕ) (d e : DraftView) → EndsTopology a l d → EndsTopology b k e → a ≡ b → d ≡ e
same_draft a b l k d e h g same = ap (draft_in d) (sym h.items ∙ ap (λ x. (so_far x).items) same ∙ g.items)

-- ---- nothing of the input is refused
module _ (rules : Rules) (bytes : List ℕ) (a : IsAuditedInput rules bytes) where
  begins : IsFrontOf a.head bytes
  begins = (a.text, a.cut)

  some : (so_far bytes).items ≡ [] → ⊥
  some none = some_items a.head bytes begins (has_item a.head a.line a.draft a.topology) none

  no_fault : (line : ℕ) (fault : OutputFault) → IsFaultyInput rules bytes line fault → ⊥
  no_fault line fault h =
      let same : h.head ≡ a.head = one_line h.head a.head h.text a.text h.number a.line h.draft a.draft h.topology a.topology (sym h.cut ∙ a.cut) in
      let draft : h.draft ≡ a.draft = same_draft h.head a.head h.number a.line h.draft a.draft h.topology a.topology same in
      let text : h.text ≡ a.text = append_cancel_left a.head h.text a.text (ap (λ x. x ++ h.text) (sym same) ∙ sym h.cut ∙ a.cut) in
      let first : IsFirstFault rules a.draft (length a.head) a.text h.count fault =
      subst (λ t. IsFirstFault rules a.draft (length a.head) t h.count fault) text
      (subst (λ x. IsFirstFault rules a.draft (length x) h.text h.count fault) same (subst (λ d. IsFirstFault rules d (length h.head) h.text h.count fault) draft h.first)) in
      nothing_is_refused rules a.draft (length a.head) a.text (prints_words a.head a.line a.draft a.topology.items a.audited.run.job.well) a.within a.audited h.count fault first

  no_stop : (stop : JobStop) → StopsAt bytes stop → ⊥
  no_stop stop h = by (fronts (h.begun ++ h.byte ∷ []) a.head h.rest a.text (append_assoc h.begun (h.byte ∷ []) h.rest ∙ sym h.cut ∙ a.cut))
    where
      stopped : (m : Option JobStop) → m ≡ Some stop → m ≡ None → ⊥
      stopped m e none = let f = sym e ∙ none in cc

      stays : (more : List ℕ) → a.head ≡ (h.begun ++ h.byte ∷ []) ++ more → stop_of (so_far a.head) ≡ Some stop
      stays more is = ap (λ x. stop_of (so_far x)) is ∙ ap stop_of (after_both (so_far []) (h.begun ++ h.byte ∷ []) more) ∙ stays_after (so_far (h.begun ++ h.byte ∷ [])) more stop h.stops

      behind : (more : List ℕ) → h.begun ++ h.byte ∷ [] ≡ a.head ++ more → ⊥
      behind [] is = stopped (stop_of (so_far a.head)) (stays [] (sym (is ∙ append-nil a.head) ∙ sym (append-nil (h.begun ++ h.byte ∷ [])))) a.topology.unstopped
      behind (x ∷ m) is = some_items a.head h.begun (shorter a.head x m h.begun h.byte is) (has_item a.head a.line a.draft a.topology) h.unopened

      by : IsFrontOf (h.begun ++ h.byte ∷ []) a.head ⊎ IsFrontOf a.head (h.begun ++ h.byte ∷ []) → ⊥
      by (inl f) = stopped (stop_of (so_far a.head)) (stays f.0 f.1) a.topology.unstopped
      by (inr f) = behind f.0 f.1

  no_bad : (stop : JobStop) → StopsAt bytes stop ⊎ StopsAtEnd bytes stop → ⊥
  no_bad stop (inl h) = no_stop stop h
  no_bad stop (inr h) = some h.unopened

  no_line : (line : ℕ) (fault : OutputFault) → IsFaultyInput rules bytes line fault ⊎ (LacksEnd bytes line × (fault ≡ NotJournal)) → ⊥
  no_line line fault (inl h) = no_fault line fault h
  no_line line fault (inr h) = some h.0.unopened

pub the_answer_is_yes : TheAnswerIsYes
the_answer_is_yes rules bytes left before now status text a h = by h.only
  where
    bad : (stop : JobStop) → HasBadTopology (Some bytes) stop → ⊥
    bad stop b = no_bad rules bytes a stop (subst (λ x. StopsAt x stop ⊎ StopsAtEnd x stop) (sym b.known) b.bad)

    no : (line : ℕ) (fault : OutputFault) → HasFault rules (Some bytes) line fault → ⊥
    no line fault f = no_line rules bytes a line fault (subst (λ x. IsFaultyInput rules x line fault ⊎ (LacksEnd x line × (fault ≡ NotJournal))) (sym f.known) f.is)

    by : IsVerdict status → (status ≡ 0) ⊎ (status ≡ 6)
    by (inl e) = inl e
    by (inr (inl e)) = let b = (h.bad_topology e).1 in absurd (bad b.0 b.1)
    by (inr (inr (inl e))) = inr e
    by (inr (inr (inr e))) = let n = (h.no e).1 in absurd (no n.0 n.1 n.2)
