-- A worker's own commit: its tasks stay its own.
use Rattle.std.proofs.Common.{◌≡◌, ◌≢◌, ℕ, true, cond, List, [], ◌∷◌, ◌++◌, Option, Some, None, sym, ap, subst, ◌∙◌}
use Rattle.std.proofs.lemmas.Bool.{ne_eqb}
use Rattle.ks_record.specs.Records.{Record as Rec}
use Rattle.ks_record.specs.declared.record.TaskId.{TaskId}
use Rattle.ks_history.specs.declared.journal.Entry.{Entry}
use Rattle.ks_history.specs.declared.journal.Request.TheVariants.{Decide}
use Rattle.ks_history.specs.declared.transaction.Pending.{Pending}
use Rattle.ks_history.specs.Partition.{Logged, recs, open_from}
use Rattle.ks_history.specs.Machine.{part_of}
use Rattle.ks_history.specs.State.{State, Setup, start}
use Rattle.ks_history.specs.Step.{refusal, effect, state_by, closed, owner, has_pending}
use Rattle.ks_history.specs.History.{at}
use Rattle.ks_history.proofs.Histories.{state_after-append}
use Rattle.ks_law_restore.specs.Views.{IsPast, AreEnds, pending_work, recs_at}
use Rattle.ks_law_restore.specs.Commits.{commit_by, commits_by, commits_for}
use Rattle.ks_law_restore.proofs.Committing.{committed_stands}
use Rattle.ks_law_restore.proofs.Lasting.{longer_stands}
use Rattle.ks_law_sharing.specs.Tasks.{IsAssigned}
use Rattle.ks_law_commit.specs.Building.{Contents, IsBuilding}
use Rattle.ks_law_commit.specs.Committing.{commit_entry, ActiveCommits, ActiveRests}
use Rattle.ks_law_commit.proofs.Ends.{committed_ends}

module _ (setup : Setup) (first : State) (journal : List Entry) (w e : ℕ) (c : Contents) (free : refusal setup (at setup journal) (Decide w e true) ≡ None)
    (built : IsBuilding first (at setup journal) w e c) where
  there : at setup (journal ++ commit_entry w e ∷ []) ≡ effect (at setup journal) (Decide w e true)
  there = state_after-append setup start journal (commit_entry w e ∷ []) ∙ ap (state_by (at setup journal) (Decide w e true)) free

  commits : (t : TaskId) (o : Option Pending) → c.pending t ≡ o → commits_for setup (at setup journal) (commit_entry w e ∷ []) t ≡ commit_by w o ++ []
  commits t o h =
      ap (λ r. commits_by (at setup journal) (Decide w e true) r t ++ []) free
      ∙ ap (λ (x : Option Pending). commit_by w x ++ []) (built.pending t ∙ h)

  same_generation : (at setup (journal ++ commit_entry w e ∷ [])).generation ≡ (at setup journal).generation
  same_generation = ap (λ (s : State). s.generation) there

  assigned : (g : ℕ) (t : TaskId) → (at setup (journal ++ commit_entry w e ∷ [])).generation ≡ g → IsAssigned (at setup journal) w g t → IsAssigned (at setup (journal ++ commit_entry w e ∷ [])) w g t
  assigned g t same h = record {
    generation = same;
    place = ap (λ (s : State). owner s t) there ∙ h.place;
    pending = λ v ne. ap (λ (s : State). has_pending (s.producer v) t) there
        ∙ ap (λ c. has_pending (cond c (closed ((at setup journal).producer w) true) ((at setup journal).producer v)) t) (ne_eqb v w ne) ∙ h.pending v ne;
  }

pub active_rests : ActiveRests
active_rests setup first journal w e g last c v net history free built none was is =
    let before : (at setup (journal ++ commit_entry w e ∷ [])).generation ≡ g → (at setup journal).generation ≡ g = λ same. sym (same_generation setup first journal w e c free built) ∙ same in
    record {
      follows = λ same still. longer_stands setup journal (commit_entry w e ∷ []) v net history (commits setup first journal w e c free built v.task None none) (is.follows (before same) was);
      assigned = λ same still. assigned setup first journal w e c free built g v.task same (is.assigned (before same) was);
    }

some_open : (xs : List Logged) (rs : List Rec) → recs xs ≡ rs → rs ≢ [] → xs ≢ []
some_open xs rs is some none = some (sym is ∙ ap recs none)

pub active_commits : ActiveCommits
active_commits setup first journal w e g last c v f ends net history free built holds frozen told was is =
    let before : (at setup (journal ++ commit_entry w e ∷ [])).generation ≡ g → (at setup journal).generation ≡ g = λ same. sym (same_generation setup first journal w e c free built) ∙ same in
    let are : AreEnds setup (at setup (journal ++ commit_entry w e ∷ [])) f ends = record {
      named = λ topic old log some. subst (IsPast (at setup (journal ++ commit_entry w e ∷ [])) (part_of topic f.task)) (sym (told.named topic old log some))
          (committed_ends setup journal w e f.task topic net history free log
          (some_open (open_from w e f.task 0 ((at setup journal).partition (part_of topic f.task))) (recs_at (part_of topic f.task) f.outputs) (built.records f.task (part_of topic f.task) ∙ holds.records (part_of topic f.task)) some));
      others = told.others;
    } in
    record {
      follows = λ same still. committed_stands setup journal (commit_entry w e ∷ []) v f ends net history (is.follows (before same) was) frozen (w, commits setup first journal w e c free built f.task (Some (pending_work f)) holds.pending) are;
      assigned = λ same still. assigned setup first journal w e c free built g v.task same (is.assigned (before same) was);
    }
