-- Requests that add to a transaction commit nothing, and change no task's place.
use Rattle.std.proofs.Common.{◌≡◌, ◌≢◌, ℕ, true, cond, List, [], ◌∷◌, ◌++◌, Option, Some, None, refl, sym, ap, ◌∙◌}
use Rattle.std.specs.Prelude.{◌==◌}
use Rattle.std.proofs.lemmas.Bool.{eqb-true, ne_eqb, true≢false}
use Rattle.ks_record.specs.declared.record.TaskId.{TaskId}
use Rattle.ks_history.specs.declared.journal.Entry.{Entry}
use Rattle.ks_record.specs.declared.assignment.Refused.{Refused}
use Rattle.ks_history.specs.declared.journal.Request.{Request}
use Rattle.ks_history.specs.declared.journal.Request.TheVariants.{Produce, Init, Add, Append, SendOffsets, Decide, MarkNext, Join, Expire, Hold, Probe, Assign, Park, Unpark}
use Rattle.ks_history.specs.declared.transaction.Producer.{Producer}
use Rattle.ks_history.specs.State.{State, Setup, start, with_number}
use Rattle.ks_history.specs.Step.{refusal, state_by, owner, has_pending}
use Rattle.ks_history.specs.History.{at}
use Rattle.ks_history.proofs.Histories.{state_after-append}
use Rattle.ks_law_restore.specs.Commits.{commits_by, NoCommit}
use Rattle.ks_law_restore.proofs.Lasting.{longer_stands}
use Rattle.ks_law_sharing.specs.Tasks.{IsAssigned}
use Rattle.ks_law_commit.specs.Building.{adds_to, ActiveBuilds}

-- one such request commits nothing, and keeps the generation, the places of tasks, and the other producers
record Keeps (s new : State) (w : ℕ) : Type 0 where
  generation : new.generation ≡ s.generation
  places : (t : TaskId) → owner new t ≡ owner s t
  others : (v : ℕ) → v ≢ w → new.producer v ≡ s.producer v

elsewhere : (s : State) (w v k : ℕ) (p : Producer) → (v == w) ≡ true → k ≢ w → with_number s.producer v p k ≡ s.producer k
elsewhere s w v k p is ne = ap (λ b. cond b p (s.producer k)) (ne_eqb k v (λ e. ne (e ∙ eqb-true v w is)))

keeps : (s : State) (w : ℕ) (request : Request) (r : Option Refused) → adds_to w request ≡ true → Keeps s (state_by s request r) w × ((t : TaskId) → commits_by s request r t ≡ [])
keeps s w (Add v e p) (Some refused) is = (record { generation = refl; places = λ t. refl; others = λ k ne. refl }, λ t. refl)
keeps s w (Add v e p) None is = (record { generation = refl; places = λ t. refl; others = λ k ne. elsewhere s w v k _ is ne }, λ t. refl)
keeps s w (Append v e number u p rs) (Some refused) is = (record { generation = refl; places = λ t. refl; others = λ k ne. refl }, λ t. refl)
keeps s w (Append v e number u p rs) None is = (record { generation = refl; places = λ t. refl; others = λ k ne. elsewhere s w v k _ is ne }, λ t. refl)
keeps s w (SendOffsets v e g u offsets order late) (Some refused) is = (record { generation = refl; places = λ t. refl; others = λ k ne. refl }, λ t. refl)
keeps s w (SendOffsets v e g u offsets order late) None is = (record { generation = refl; places = λ t. refl; others = λ k ne. elsewhere s w v k _ is ne }, λ t. refl)
keeps s w (Produce p rec) r is = absurd (true≢false (sym is))
keeps s w (Init v) r is = absurd (true≢false (sym is))
keeps s w (Decide v e commit) r is = absurd (true≢false (sym is))
keeps s w (MarkNext v) r is = absurd (true≢false (sym is))
keeps s w (Join v) r is = absurd (true≢false (sym is))
keeps s w (Expire v) r is = absurd (true≢false (sym is))
keeps s w (Hold v held) r is = absurd (true≢false (sym is))
keeps s w (Probe v g) r is = absurd (true≢false (sym is))
keeps s w (Assign v g a) r is = absurd (true≢false (sym is))
keeps s w (Park instance t) r is = absurd (true≢false (sym is))
keeps s w (Unpark instance t) r is = absurd (true≢false (sym is))

pub active_builds : ActiveBuilds
active_builds setup journal entry w g last v net history is was own =
    let s : State = at setup journal in
    let there : at setup (journal ++ entry ∷ []) ≡ state_by s entry.request (refusal setup s entry.request) = state_after-append setup start journal (entry ∷ []) in
    let k = keeps s w entry.request (refusal setup s entry.request) is in
    let nothing : (t : TaskId) → NoCommit setup s (entry ∷ []) t = λ t. ap (λ l. l ++ []) (k.1 t) in
    let before : (at setup (journal ++ entry ∷ [])).generation ≡ g → s.generation ≡ g = λ same. sym (ap (λ (n : State). n.generation) there ∙ k.0.generation) ∙ same in (
      record {
        follows = λ same still. longer_stands setup journal (entry ∷ []) v net history (nothing v.task) (own.follows (before same) was);
        assigned = λ same still.
            let h : IsAssigned s w g v.task = own.assigned (before same) was in
            record {
              generation = same;
              place = ap (λ (n : State). owner n v.task) there ∙ k.0.places v.task ∙ h.place;
              pending = λ j ne. ap (λ (n : State). has_pending (n.producer j) v.task) there ∙ ap (λ (p : Producer). has_pending p v.task) (k.0.others j ne) ∙ h.pending j ne;
            };
      },
      nothing,
    )

-- a task that is the worker's stays so, and nothing is committed for it
pub assigned_builds : (setup : Setup) (journal : List Entry) (entry : Entry) (w g : ℕ) (t : TaskId) → adds_to w entry.request ≡ true → IsAssigned (at setup journal) w g t →
    IsAssigned (at setup (journal ++ entry ∷ [])) w g t × NoCommit setup (at setup journal) (entry ∷ []) t
assigned_builds setup journal entry w g t is h =
    let s : State = at setup journal in
    let there : at setup (journal ++ entry ∷ []) ≡ state_by s entry.request (refusal setup s entry.request) = state_after-append setup start journal (entry ∷ []) in
    let k = keeps s w entry.request (refusal setup s entry.request) is in (
      record {
        generation = ap (λ (n : State). n.generation) there ∙ k.0.generation ∙ h.generation;
        place = ap (λ (n : State). owner n t) there ∙ k.0.places t ∙ h.place;
        pending = λ j ne. ap (λ (n : State). has_pending (n.producer j) t) there ∙ ap (λ (p : Producer). has_pending p t) (k.0.others j ne) ∙ h.pending j ne;
      },
      ap (λ l. l ++ []) (k.1 t),
    )
