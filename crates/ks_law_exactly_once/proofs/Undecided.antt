-- Requests that change a producer or put records of an undecided transaction: nothing is decided by them.
use Rattle.std.proofs.Common.{◌≡◌, ◌≢◌, ℕ, true, false, cond, ◌⊎◌, inr, List, [], ◌∷◌, ◌++◌, Some, None, refl, sym, ap, subst, ◌∙◌, ⊎_elim}
use Rattle.std.proofs.lemmas.Bool.{eq-eqb, true≢false, or_cases, or_left, or_right}
use Rattle.ks_record.specs.Records.{Record as Rec}
use Rattle.ks_record.specs.declared.record.PartId.{PartId}
use Rattle.ks_record.specs.declared.record.TaskId.{TaskId}
use Rattle.ks_record.specs.Parts.{same_task}
use Rattle.ks_history.specs.declared.journal.Request.TheVariants.{Add, Append, SendOffsets}
use Rattle.ks_history.specs.declared.transaction.Pending.{Pending}
use Rattle.ks_history.specs.declared.transaction.Transaction.{Transaction}
use Rattle.ks_history.specs.declared.transaction.Producer.{Producer}
use Rattle.ks_history.specs.Partition.{is_commit, sent_slots}
use Rattle.ks_history.specs.State.{State, Setup, with_number, insert_part, has_part, has_task, with_pending}
use Rattle.ks_history.specs.Step.{effect, markers_waiting, renewed, tx_of}
use Rattle.ks_history.specs.Faithful.{marker_among, waiting_at, markers_of}
use Rattle.ks_history.proofs.Names.{same_task-refl}
use Rattle.ks_law_exactly_once.proofs.Order.{Distinct-with}
use Rattle.ks_law_exactly_once.proofs.Quiet.{Quiet, quiet_sound, producer_quiet, slots_quiet, abort_goes, grow_goes, none_waiting, tx_pending, tx_is, has_part-insert, at_number}
use Rattle.ks_law_exactly_once.proofs.Refusals.{closed_undecided, closed_waiting}
use Rattle.ks_law_exactly_once.proofs.Slots.{next_mark-sent, decided-sent, Open-sent}
use Rattle.ks_law_exactly_once.proofs.Sound.{IsOfTx, Owned, Distinct, Sound}

module _ (setup : Setup) where
  pub renewed_quiet : (s : State) (w : ℕ) → Sound setup s → Quiet s (record s { producer = with_number s.producer w (renewed (s.producer w)) })
  renewed_quiet s w sound = producer_quiet setup s w _ sound (abort_goes (s.producer w) (renewed (s.producer w)) (s.producer w).undecided refl (closed_undecided (s.producer w) false) (closed_waiting (s.producer w)))

  pub has_task-more : (t u : TaskId) (ts : List TaskId) → has_task t ts ≡ true → has_task t (ts ++ u ∷ []) ≡ true
  has_task-more t u [] h = absurd (true≢false (sym h))
  has_task-more t u (x ∷ xs) h = ⊎_elim (λ l. or_left (same_task t x) _ l) (λ g. or_right (same_task t x) _ (has_task-more t u xs g)) (or_cases (same_task t x) (has_task t xs) h)

  pub has_task-last : (t : TaskId) (ts : List TaskId) → has_task t (ts ++ t ∷ []) ≡ true
  has_task-last t [] = or_left (same_task t t) false (same_task-refl t)
  has_task-last t (x ∷ xs) = or_right (same_task t x) _ (has_task-last t xs)

  pub add_quiet : (s : State) (w e : ℕ) (p : PartId) → markers_waiting (s.producer w) ≡ None → Sound setup s → Quiet s (effect s (Add w e p))
  add_quiet s w e p free sound =
      producer_quiet setup s w _ sound
      (grow_goes (s.producer w) _ (record (tx_of (s.producer w)) { parts = insert_part p (tx_of (s.producer w)).parts }) (none_waiting (s.producer w) (sound.markers w) free) refl refl refl
      (λ t h. h) (λ q h. has_part-insert q p (tx_of (s.producer w)).parts h) (subst Distinct (tx_pending (s.producer w)) (sound.distinct w)))

  pub offsets_quiet : (s : State) (w e g : ℕ) (t : TaskId) (offsets order : List (ℕ × ℕ)) (late : ℕ) → markers_waiting (s.producer w) ≡ None → Sound setup s → Quiet s (effect s (SendOffsets w e g t offsets order late))
  offsets_quiet s w e g t offsets order late free sound =
      let new : Pending = record { task = t; offsets = offsets; order = order; late = late } in
      producer_quiet setup s w _ sound
      (grow_goes (s.producer w) _ (record (tx_of (s.producer w)) { pending = with_pending new (tx_of (s.producer w)).pending }) (none_waiting (s.producer w) (sound.markers w) free) refl refl refl
      (λ t h. h) (λ q h. h) (Distinct-with new (tx_of (s.producer w)).pending (subst Distinct (tx_pending (s.producer w)) (sound.distinct w))))

  module _ (s : State) (w e number : ℕ) (t : TaskId) (p : PartId) (rs : List Rec) (tx : Transaction) (is : (s.producer w).undecided ≡ Some tx) (there : has_part p tx.parts ≡ true) (now_epoch : e ≡ (s.producer w).epoch) (sound : Sound setup s) where
    abbrev pub tx_more : Transaction
    tx_more = record (tx_of (s.producer w)) { tasks = (tx_of (s.producer w)).tasks ++ t ∷ [] }

    abbrev pub named : State
    named = record s { producer = with_number s.producer w (record (s.producer w) { undecided = Some (record (tx_of (s.producer w)) { tasks = (tx_of (s.producer w)).tasks ++ t ∷ [] }) }) }

    pub named_quiet : Quiet s named
    named_quiet = producer_quiet setup s w _ sound
        (grow_goes (s.producer w) _ tx_more (sound.markers w tx is) refl refl refl (λ u h. has_task-more u t (tx_of (s.producer w)).tasks h) (λ q h. h) (subst Distinct (tx_pending (s.producer w)) (sound.distinct w)))

    pub not_lost : is_commit (waiting_at (markers_of named) p w e) ≡ false
    not_lost = at_number (λ (x : Producer). is_commit (marker_among p e x.waiting)) s.producer w _ refl w ∙ ap (λ l. is_commit (marker_among p e l)) (sound.markers w tx is)

    pub is_owned : Owned named.producer p w e t
    is_owned = subst (λ b. (marker_among p e (cond b (record (s.producer w) { undecided = Some tx_more }) (s.producer w)).waiting ≢ None) ⊎ IsOfTx (cond b (record (s.producer w) { undecided = Some tx_more }) (s.producer w)) p e t)
        (sym (eq-eqb w w refl))
        (inr (record { tx = tx_more; undecided = refl; epoch = now_epoch; task = has_task-last t (tx_of (s.producer w)).tasks; part = ap (λ (x : Transaction). has_part p x.parts) (tx_is (s.producer w) tx is) ∙ there }))

    pub appended : Quiet named (effect s (Append w e number t p rs))
    appended = slots_quiet setup named p (sent_slots w e number t rs) (quiet_sound setup s named named_quiet sound) (λ v d. next_mark-sent v d w e number t rs)
        (λ n. decided-sent (waiting_at (markers_of named) p) w e not_lost n number t rs) (Open-sent (Owned named.producer p) w e number t rs is_owned)
