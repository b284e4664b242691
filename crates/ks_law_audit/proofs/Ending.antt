-- Where a task's decided records end once a commit is made.
use Rattle.std.proofs.Common.{◌≡◌, ℕ, List, [], ◌∷◌, ◌++◌, Some, true, refl, ap, ◌∙◌}
use Rattle.ks_record.specs.declared.record.PartId.{PartId}
use Rattle.ks_record.specs.declared.record.TaskId.{TaskId}
use Rattle.ks_history.specs.declared.journal.Request.TheVariants.{Decide}
use Rattle.ks_history.specs.declared.journal.Entry.{Entry}
use Rattle.ks_history.specs.declared.transaction.Transaction.{Transaction}
use Rattle.ks_history.specs.Partition.{Logged, past_last, with_offsets, by_sender, open_from}
use Rattle.ks_history.specs.State.{State, Setup, start}
use Rattle.ks_history.specs.Step.{effect, state_by}
use Rattle.ks_history.specs.Faithful.{decided, IsFaithful}
use Rattle.ks_history.specs.History.{at, state_after}
use Rattle.ks_history.proofs.Histories.{state_after-append}
use Rattle.ks_law_exactly_once.proofs.Commits.{grows}
use Rattle.ks_law_exactly_once.proofs.Refusals.{some_undecided}
use Rattle.ks_law_exactly_once.proofs.Sound.{Sound}
use Rattle.ks_law_restore.proofs.Lasting.{then_faithful, sound_before}
use Rattle.ks_law_audit.specs.Laws.{EndMoves, past_or, last_end, commit_of}

past_both : (xs ys : List Logged) → past_last (with_offsets (xs ++ ys)) ≡ past_or (past_last (with_offsets xs)) ys
past_both [] [] = refl
past_both [] (y ∷ ys) = refl
past_both (x ∷ []) [] = refl
past_both (x ∷ []) (y ∷ ys) = refl
past_both (x ∷ z ∷ xs) ys = past_both (z ∷ xs) ys

pub end_moves : EndMoves
end_moves setup journal w e t q net history accepted =
    let s : State = at setup journal in
    let u = some_undecided (s.producer w) e accepted in
    let next : state_after setup (at setup journal) (commit_of w e ∷ []) ≡ effect (at setup journal) (Decide w e true) = ap (state_by (at setup journal) (Decide w e true)) accepted in
    let there : at setup (journal ++ commit_of w e ∷ []) ≡ effect (at setup journal) (Decide w e true) = state_after-append setup start journal (commit_of w e ∷ []) ∙ next in
    let f : IsFaithful setup s w u.0 = (then_faithful setup net journal (commit_of w e ∷ []) history).0 accepted u.0 u.1 in
    let before : Sound setup s = sound_before setup net journal (commit_of w e ∷ []) history in
    ap (λ (k : State). last_end k t q) there
    ∙ ap (λ l. past_last (with_offsets l)) (grows setup net s w e u.0 u.1 before f q t)
    ∙ past_both (by_sender (Some t) (decided s q)) (open_from w (s.producer w).epoch t 0 (s.partition q))
