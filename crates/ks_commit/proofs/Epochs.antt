-- Producers beyond the last, and records of later epochs: what every history keeps.
use Rattle.std.proofs.Common.{◌≡◌, ℕ, ◌+◌, ◌≤◌, suc, Bool, true, false, cond, ◌&&◌, List, [], ◌∷◌, ◌++◌, Option, Some, None, refl, sym, ap, subst, ◌∙◌, arith}
use Rattle.std.specs.Prelude.{◌==◌}
use Rattle.std.proofs.lemmas.Bool.{and_parts, eqb-true, ne_eqb}
use Rattle.ks_record.specs.Records.{Record as Rec}
use Rattle.ks_record.specs.declared.record.PartId.{PartId}
use Rattle.ks_record.specs.declared.record.TaskId.{TaskId}
use Rattle.ks_record.specs.declared.assignment.Assignment.{Assignment}
use Rattle.ks_record.specs.declared.assignment.Marker.{Marker}
use Rattle.ks_record.specs.declared.assignment.Refused.{Refused}
use Rattle.ks_record.specs.Parts.{same_part}
use Rattle.ks_history.specs.declared.partition.Slot.{Slot}
use Rattle.ks_history.specs.declared.partition.Slot.TheVariants.{Plain, Mark}
use Rattle.ks_history.specs.declared.journal.Entry.{Entry}
use Rattle.ks_history.specs.declared.journal.Request.{Request}
use Rattle.ks_history.specs.declared.journal.Request.TheVariants.{Produce, Init, Add, Append, SendOffsets, Decide, MarkNext, Join, Expire, Hold, Probe, Assign, Park, Unpark}
use Rattle.ks_history.specs.declared.transaction.Producer.{Producer}
use Rattle.ks_history.specs.declared.transaction.Transaction.{Transaction}
use Rattle.ks_history.specs.Partition.{count_sent, sent_slots}
use Rattle.ks_history.specs.State.{State, Setup, start, with_number, grown, without_number}
use Rattle.ks_history.specs.Step.{refusal, effect, state_by, after, closed, can_expire, renewed, markers_for, fenced, without_part, out_of_sequence, or_else}
use Rattle.ks_history.specs.History.{state_after, Each, Meets, IsStep}
use Rattle.ks_law_exactly_once.specs.Law.{OfHistories}
use Rattle.ks_law_exactly_once.proofs.Refusals.{both_none, not_fenced}
use Rattle.ks_commit.specs.Alone.{HasSeventeen, IsOfPast}
use Rattle.ks_commit.proofs.Slots.{count_append}
use Rattle.ks_commit.proofs.Gaining.{beside_it}

-- ---- producers beyond the last
elsewhere : (f : ℕ → Producer) (v : ℕ) (x : Producer) (w : ℕ) → v ≤ 16 → 17 ≤ w → with_number f v x w ≡ f w
elsewhere f v x w low high = beside_it f v x w (ne_eqb w v (λ (e : w ≡ v). omega (arith, e, low, high)))

beyond : (setup : Setup) (s : State) (request : Request) (r : Option Refused) → Meets setup s request → (w : ℕ) → 17 ≤ w → (state_by s request r).producer w ≡ s.producer w
beyond setup s request (Some refused) meets w h = refl
beyond setup s (Produce p rec) None meets w h = refl
beyond setup s (Init v) None meets w h = elsewhere s.producer v _ w meets h
beyond setup s (Add v e p) None meets w h = elsewhere s.producer v _ w meets.0 h
beyond setup s (Append v e number t p rs) None meets w h = elsewhere s.producer v _ w meets.0 h
beyond setup s (SendOffsets v e g t offsets order late) None meets w h = elsewhere s.producer v _ w meets.0 h
beyond setup s (Decide v e commit) None meets w h = elsewhere s.producer v _ w meets h
beyond setup s (MarkNext v) None meets w h = by (s.producer v).waiting
  where
    by : (ms : List Marker) → (elim ms as (λ _. State) [ [] ↦ s | m ∷ rest ↦ record s { partition = grown s.partition m.part (Mark v m.epoch m.commit ∷ []); producer = with_number s.producer v (record (s.producer v) { waiting = rest }) } ]).producer w ≡ s.producer w
    by [] = refl
    by (m ∷ rest) = elsewhere s.producer v _ w meets h
beyond setup s (Join v) None meets w h = refl
beyond setup s (Expire v) None meets w h = by (can_expire s v)
  where
    by : (b : Bool) → (cond b (record s { producer = with_number s.producer v (renewed (s.producer v)); members = without_number v s.members; held = with_number s.held v []; generation = s.generation + 1; assignment = None }) s).producer w ≡ s.producer w
    by true = elsewhere s.producer v _ w meets h
    by false = refl
beyond setup s (Hold v held) None meets w h = refl
beyond setup s (Probe v g) None meets w h = refl
beyond setup s (Assign v g a) None meets w h = by s.assignment
  where
    by : (o : Option Assignment) → (elim o as (λ _. State) [ None ↦ record s { assignment = Some a } | Some b ↦ s ]).producer w ≡ s.producer w
    by None = refl
    by (Some b) = refl
beyond setup s (Park instance t) None meets w h = refl
beyond setup s (Unpark instance t) None meets w h = refl

beyond_all : (setup : Setup) (s : State) (entries : List Entry) → Each IsStep setup s entries → (w : ℕ) → 17 ≤ w → (state_after setup s entries).producer w ≡ s.producer w
beyond_all setup s [] legal w h = refl
beyond_all setup s (entry ∷ entries) legal w h =
    beyond_all setup (after setup s entry.request) entries legal.1 w h ∙ beyond setup s entry.request (refusal setup s entry.request) legal.0.meets w h

pub has_seventeen : OfHistories HasSeventeen
has_seventeen setup journal net history w h = beyond_all setup start journal history.legal w h

-- ---- records of later epochs
abbrev Past : State → Type 0
Past s = (w e : ℕ) (q : PartId) → (s.producer w).epoch + 1 ≤ e → count_sent w e (s.partition q) ≡ 0

stays : (s new : State) → ((w : ℕ) → (s.producer w).epoch ≤ (new.producer w).epoch) → ((w e : ℕ) (q : PartId) → (new.producer w).epoch + 1 ≤ e → count_sent w e (new.partition q) ≡ count_sent w e (s.partition q)) → Past s → Past new
stays s new grows same past w e q h = same w e q h ∙ past w e q (omega (arith, grows w, h))

grows_at : (f : ℕ → Producer) (v : ℕ) (x : Producer) → (f v).epoch ≤ x.epoch → (w : ℕ) → (f w).epoch ≤ (with_number f v x w).epoch
grows_at f v x h w = by (w == v) refl
  where
    by : (b : Bool) → (w == v) ≡ b → (f w).epoch ≤ (cond b x (f w)).epoch
    by true is = subst (λ k. (f k).epoch ≤ x.epoch) (sym (eqb-true w v is)) h
    by false is = omega arith

nothing_counted : (s : State) (p : PartId) (more : List Slot) (w e : ℕ) (q : PartId) → count_sent w e more ≡ 0 → count_sent w e (grown s.partition p more q) ≡ count_sent w e (s.partition q)
nothing_counted s p more w e q none = by (same_part q p)
  where
    by : (b : Bool) → count_sent w e (cond b (s.partition q ++ more) (s.partition q)) ≡ count_sent w e (s.partition q)
    by true = omega (arith, count_append w e (s.partition q) more, none)
    by false = refl

closed_epoch : (p : Producer) (commit : Bool) → (closed p commit).epoch ≡ p.epoch
closed_epoch p commit = by p.undecided
  where
    by : (u : Option Transaction) → (elim u as (λ _. Producer) [ None ↦ p | Some tx ↦ record p { undecided = None; waiting = p.waiting ++ markers_for p.epoch commit tx.parts; last = Some commit } ]).epoch ≡ p.epoch
    by None = refl
    by (Some tx) = refl

other_sent : (w e v d number : ℕ) (t : TaskId) (rs : List Rec) → (w ≡ v → e ≡ d → ⊥) → count_sent w e (sent_slots v d number t rs) ≡ 0
other_sent w e v d number t [] ne = refl
other_sent w e v d number t (r ∷ rs) ne = by ((w == v) && (e == d)) refl (other_sent w e v d (number + 1) t rs ne)
  where
    by : (b : Bool) → ((w == v) && (e == d)) ≡ b → count_sent w e (sent_slots v d (number + 1) t rs) ≡ 0 → cond b (suc (count_sent w e (sent_slots v d (number + 1) t rs))) (count_sent w e (sent_slots v d (number + 1) t rs)) ≡ 0
    by true is h = let both : ((w == v) ≡ true) × ((e == d) ≡ true) = and_parts (w == v) (e == d) is in absurd (ne (eqb-true w v both.0) (eqb-true e d both.1))
    by false is h = h

past_step : (setup : Setup) (s : State) (request : Request) (r : Option Refused) → refusal setup s request ≡ r → Past s → Past (state_by s request r)
past_step setup s request (Some refused) is past = past
past_step setup s (Produce p rec) None is past = stays s (effect s (Produce p rec)) (λ w. omega arith) (λ w e q h. nothing_counted s p (Plain rec ∷ []) w e q refl) past
past_step setup s (Init v) None is past = stays s (effect s (Init v)) (grows_at s.producer v _ (omega arith)) (λ w e q h. refl) past
past_step setup s (Add v e p) None is past = stays s (effect s (Add v e p)) (grows_at s.producer v _ (omega arith)) (λ w e q h. refl) past
past_step setup s (Append v d number t p rs) None is past =
    let now : d ≡ (s.producer v).epoch = not_fenced (s.producer v) d (both_none (fenced (s.producer v) d) (or_else (without_part (s.producer v) p) (out_of_sequence (s.partition p) v d number)) is).0 in
    let grows : (w : ℕ) → (s.producer w).epoch ≤ ((effect s (Append v d number t p rs)).producer w).epoch = grows_at s.producer v _ (omega arith) in
    stays s (effect s (Append v d number t p rs)) grows (λ w e q h. nothing_counted s p (sent_slots v d number t rs) w e q (other_sent w e v d number t rs (λ (a : w ≡ v) (b : e ≡ d). omega (arith, h, b, now, grows w, ap (λ k. (s.producer k).epoch) a)))) past
past_step setup s (SendOffsets v e g t offsets order late) None is past = stays s (effect s (SendOffsets v e g t offsets order late)) (grows_at s.producer v _ (omega arith)) (λ w e q h. refl) past
past_step setup s (Decide v e commit) None is past = stays s (effect s (Decide v e commit)) (grows_at s.producer v _ (omega (arith, closed_epoch (s.producer v) commit))) (λ w e q h. refl) past
past_step setup s (MarkNext v) None is past = by (s.producer v).waiting
  where
    by : (ms : List Marker) → Past (elim ms as (λ _. State) [ [] ↦ s | m ∷ rest ↦ record s { partition = grown s.partition m.part (Mark v m.epoch m.commit ∷ []); producer = with_number s.producer v (record (s.producer v) { waiting = rest }) } ])
    by [] = past
    by (m ∷ rest) = stays s (record s { partition = grown s.partition m.part (Mark v m.epoch m.commit ∷ []); producer = with_number s.producer v (record (s.producer v) { waiting = rest }) }) (grows_at s.producer v _ (omega arith)) (λ w e q h. nothing_counted s m.part (Mark v m.epoch m.commit ∷ []) w e q refl) past
past_step setup s (Join v) None is past = past
past_step setup s (Expire v) None is past = by (can_expire s v)
  where
    by : (b : Bool) → Past (cond b (record s { producer = with_number s.producer v (renewed (s.producer v)); members = without_number v s.members; held = with_number s.held v []; generation = s.generation + 1; assignment = None }) s)
    by true = stays s (record s { producer = with_number s.producer v (renewed (s.producer v)); members = without_number v s.members; held = with_number s.held v []; generation = s.generation + 1; assignment = None }) (grows_at s.producer v _ (omega arith)) (λ w e q h. refl) past
    by false = past
past_step setup s (Hold v held) None is past = past
past_step setup s (Probe v g) None is past = past
past_step setup s (Assign v g a) None is past = by s.assignment
  where
    by : (o : Option Assignment) → Past (elim o as (λ _. State) [ None ↦ record s { assignment = Some a } | Some b ↦ s ])
    by None = past
    by (Some b) = past
past_step setup s (Park instance t) None is past = past
past_step setup s (Unpark instance t) None is past = past

past_all : (setup : Setup) (s : State) (entries : List Entry) → Past s → Past (state_after setup s entries)
past_all setup s [] past = past
past_all setup s (entry ∷ entries) past = past_all setup (after setup s entry.request) entries (past_step setup s entry.request (refusal setup s entry.request) refl past)

pub of_past : OfHistories IsOfPast
of_past setup journal net history = past_all setup start journal (λ w e q h. refl)
