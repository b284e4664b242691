-- A task that has no work of its own stays at the cluster's state.
use Rattle.std.proofs.Common.{◌≡◌, ℕ, ◌≤◌, Bool, true, false, cond, List, [], ◌∷◌, ◌++◌, length, Option, Some, None, refl, sym, ap, ap₂, subst, ◌∙◌, arith, min, ◌^◌, ◌-◌}
use Rattle.ks_def_runs.specs.Bytes.{empty_store}
use Rattle.ks_record.specs.Records.{Record as Rec}
use Rattle.ks_record.specs.declared.record.PartId.{PartId}
use Rattle.ks_record.specs.declared.record.TaskId.{TaskId}
use Rattle.ks_record.specs.declared.assignment.Refused.{Refused}
use Rattle.ks_def_runs.specs.Run.{Outcome, sent_to}
use Rattle.ks_history.specs.declared.journal.Request.TheVariants.{Decide}
use Rattle.ks_history.specs.declared.journal.Entry.{Entry}
use Rattle.ks_history.specs.declared.transaction.Pending.{Pending}
use Rattle.ks_history.specs.declared.transaction.Transaction.{Transaction}
use Rattle.ks_history.specs.Partition.{readable, recs, by_sender, past_from, below, open_from, past_last, with_offsets}
use Rattle.ks_history.specs.Machine.{Stores, latest, latest_from, network, part_of, has_topic, batch, IsNetwork}
use Rattle.ks_history.specs.State.{State, Setup, start, pending_of, offset_in}
use Rattle.ks_history.specs.Step.{refusal, effect, state_by, pending_at}
use Rattle.ks_history.specs.Faithful.{decided, fold as fold_of, folds, taken, count_in, outcome, capped, pending_offsets, IsFaithful, IsFaithfulTask}
use Rattle.ks_history.specs.Follows.{TaskView}
use Rattle.ks_history.specs.History.{state_after, at, IsHistory}
use Rattle.ks_history.proofs.Histories.{state_after-append}
use Rattle.ks_law_exactly_once.proofs.Commits.{grows, pending_is}
use Rattle.ks_law_exactly_once.proofs.Refusals.{some_undecided}
use Rattle.ks_law_exactly_once.proofs.Replays.{whole}
use Rattle.ks_law_exactly_once.proofs.Slots.{nothing_between, recs-append}
use Rattle.ks_law_exactly_once.proofs.Sound.{Sound}
use Rattle.ks_law_exactly_once.proofs.Stores.{latest_from-append, only_sender, local-told, local-other}
use Rattle.ks_law_restore.specs.Views.{fresh_view, committed_view}
use Rattle.ks_law_restore.proofs.Growing.{Grown, Rests, rests_after}
use Rattle.ks_law_restore.proofs.Lasting.{last_is_past, standing_kept, then_faithful, then_sound, sound_before, sound_behind, then_grown}
use Rattle.ks_law_restore.proofs.Standing.{Standing, Passed, stands_of}
use Rattle.ks_law_audit.specs.Rested.{IsRested, HasTaken, placed}
use Rattle.ks_law_audit.specs.Laws.{RestedStarts, RestedStays, RestedStands, TakenRests, commit_of}

-- ---- at the start
pub rested_starts : RestedStarts
rested_starts setup t = record {
  kept = λ topic h. refl;
  inputs = λ topic h. refl;
  order = refl;
  stores = λ i topic. by topic (has_topic topic (setup.plan.changelogs t.sub)) i;
  made = λ q. refl;
  late = refl;
}
  where
    by : (topic : ℕ) (b : Bool) → empty_store ≡ cond b (fold_of start (part_of topic t)) empty_store
    by topic true = refl
    by topic false = refl

-- ---- it stands in the state
zero_capped : 0 ≡ capped 0
zero_capped = omega arith

rested_standing : (setup : Setup) (s : State) (v : TaskView) → Sound setup s → IsRested setup s v → Standing setup s v
rested_standing setup s v sound rested = record {
  kept = rested.kept;
  committed = λ topic h. omega (arith, rested.inputs topic h);
  stable = λ topic h. omega (arith, rested.inputs topic h, sound.committed v.task topic);
  order = λ topic. ap (λ (o : List (ℕ × ℕ)). count_in topic o) rested.order ∙ nothing topic (has_topic topic (setup.plan.inputs v.task.sub)) refl;
  stores = rested.stores ∙ ap (λ (o : List (ℕ × ℕ)). (outcome setup s v.task v.inputs o).store) (sym rested.order);
  made = λ q. rested.made q ∙ ap (λ (o : List (ℕ × ℕ)). sent_to (network setup.plan) q (outcome setup s v.task v.inputs o).made) (sym rested.order);
  late = rested.late ∙ zero_capped ∙ ap (λ (o : List (ℕ × ℕ)). capped (outcome setup s v.task v.inputs o).late) (sym rested.order);
}
  where
    nothing : (topic : ℕ) (b : Bool) → has_topic topic (setup.plan.inputs v.task.sub) ≡ b →
        0 ≡ length (cond b (past_from (s.committed v.task topic) (below (v.inputs topic) (readable (s.partition (part_of topic v.task))))) [])
    nothing topic true h = ap length (sym (nothing_between (s.committed v.task topic) (v.inputs topic) (readable (s.partition (part_of topic v.task))) (rested.inputs topic h)))
    nothing topic false h = refl

pub rested_stands : RestedStands
rested_stands setup journal v net history rested =
    let s : State = at setup journal in
    let is : Standing setup s v = rested_standing setup s v (whole setup net journal history).sound rested in
    stands_of setup net journal (placed s v)
    (record { kept = is.kept; committed = is.committed; stable = is.stable; order = is.order; stores = is.stores; made = is.made; late = is.late })
    (λ topic h. last_is_past s (part_of topic v.task))

-- ---- an entry that commits nothing for it
pub rested_stays : RestedStays
rested_stays setup journal entry v net history none rested =
    let s : State = at setup journal in
    let new : State = state_after setup (at setup journal) (entry ∷ []) in
    let before : Sound setup s = sound_before setup net journal (entry ∷ []) history in
    let behind : Sound setup new = sound_behind setup net journal (entry ∷ []) history in
    let rests : Rests v.task s new = rests_after setup net v.task (entry ∷ []) s (then_faithful setup net journal (entry ∷ []) history) (then_sound setup net journal (entry ∷ []) history) none in
    let is : Standing setup new v = standing_kept setup s new before behind (then_grown setup net journal (entry ∷ []) history) v rests (rested_standing setup s v before rested) in
    subst (λ k. IsRested setup k v) (sym (state_after-append setup start journal (entry ∷ [])))
    (record {
      kept = is.kept;
      inputs = λ topic h. rested.inputs topic h ∙ sym (rested.kept topic h) ∙ is.kept topic h;
      order = rested.order;
      stores = is.stores ∙ ap (λ (o : List (ℕ × ℕ)). (outcome setup new v.task v.inputs o).store) rested.order;
      made = rested.made;
      late = rested.late;
    })

-- ---- a commit of what it took
module _ (setup : Setup) (net : IsNetwork setup.plan) (s : State) (w e : ℕ) (p : Pending) (tx : Transaction) (is : (s.producer w).undecided ≡ Some tx) (sound : Sound setup s) (behind : Sound setup (effect s (Decide w e true))) (f : IsFaithful setup s w tx)
    (here : pending_of p.task (pending_at (s.producer w)) ≡ Some p) where
  of_task : IsFaithfulTask setup s w p
  of_task = f.each p.task p (ap (pending_of p.task) (sym (pending_is (s.producer w) tx is)) ∙ here)

  offsets_now : (topic : ℕ) → (effect s (Decide w e true)).committed p.task topic ≡ pending_offsets s p topic
  offsets_now topic = ap (λ (o : Option Pending). elim o as (λ _. ℕ) [ None ↦ s.committed p.task topic | Some p' ↦ offset_in (s.committed p.task topic) topic p'.offsets ]) here

  whole_now : (topic : ℕ) → has_topic topic (setup.plan.changelogs p.task.sub) ≡ true →
      decided (effect s (Decide w e true)) (part_of topic p.task) ≡ decided s (part_of topic p.task) ++ open_from w (s.producer w).epoch p.task 0 (s.partition (part_of topic p.task))
  whole_now topic h =
      sym (only_sender p.task (decided (effect s (Decide w e true)) (part_of topic p.task)) (λ r ne. behind.alone p.task topic r h ne))
      ∙ grows setup net s w e tx is sound f (part_of topic p.task) p.task
      ∙ ap (λ l. l ++ open_from w (s.producer w).epoch p.task 0 (s.partition (part_of topic p.task))) (only_sender p.task (decided s (part_of topic p.task)) (λ r ne. sound.alone p.task topic r h ne))

  abbrev upto : ℕ → ℕ
  upto = pending_offsets s p

  stores_now : (outcome setup s p.task (pending_offsets s p) p.order).store ≡ folds setup (effect s (Decide w e true)) p.task
  stores_now = λ i topic. by topic (has_topic topic (setup.plan.changelogs p.task.sub)) refl i
    where
      by : (topic : ℕ) (b : Bool) → has_topic topic (setup.plan.changelogs p.task.sub) ≡ b →
          (outcome setup s p.task (pending_offsets s p) p.order).store topic ≡ cond b (fold_of (effect s (Decide w e true)) (part_of topic p.task)) empty_store
      by topic true h =
          let q = part_of topic p.task in
          let mine = open_from w (s.producer w).epoch p.task 0 (s.partition q) in
          local-told setup.plan net p.task topic h (folds setup s p.task) (batch p.task (taken setup s p.task (pending_offsets s p)) p.order)
          ∙ ap₂ latest_from (ap (λ b. cond b (fold_of s q) empty_store) h) (of_task.made q)
          ∙ sym (latest_from-append empty_store (recs (decided s q)) (recs mine))
          ∙ ap latest (sym (recs-append (decided s q) mine) ∙ ap recs (sym (whole_now topic h)))
      by topic false h =
          local-other setup.plan net p.task topic h (folds setup s p.task) (batch p.task (taken setup s p.task (pending_offsets s p)) p.order)
          ∙ ap (λ b. cond b (fold_of s (part_of topic p.task)) empty_store) h

  rests_now : (v : TaskView) → HasTaken setup s p v → IsRested setup (effect s (Decide w e true)) (committed_view v [])
  rests_now v took =
      let inputs_now : (topic : ℕ) → has_topic topic (setup.plan.inputs v.task.sub) ≡ true → v.inputs topic ≡ (effect s (Decide w e true)).committed v.task topic
      = λ topic h.
      took.inputs topic (ap (λ (t : TaskId). has_topic topic (setup.plan.inputs t.sub)) (sym took.task) ∙ h) ∙ sym (offsets_now topic) ∙ ap (λ (t : TaskId). (effect s (Decide w e true)).committed t topic) (sym took.task) in
      record {
        kept = inputs_now;
        inputs = inputs_now;
        order = refl;
        stores = took.stores ∙ stores_now ∙ ap (folds setup (effect s (Decide w e true))) (sym took.task);
        made = λ q. refl;
        late = refl;
      }

pub taken_rests : TakenRests
taken_rests setup journal w e p v net history accepted here took =
    let s : State = at setup journal in
    let more : List Entry = commit_of w e ∷ [] in
    let u = some_undecided (s.producer w) e accepted in
    let next : state_after setup (at setup journal) (commit_of w e ∷ []) ≡ effect (at setup journal) (Decide w e true) = ap (state_by (at setup journal) (Decide w e true)) accepted in
    let there : at setup (journal ++ commit_of w e ∷ []) ≡ effect (at setup journal) (Decide w e true) = state_after-append setup start journal (commit_of w e ∷ []) ∙ next in
    let f : IsFaithful setup s w u.0 = (then_faithful setup net journal (commit_of w e ∷ []) history).0 accepted u.0 u.1 in
    let before : Sound setup s = sound_before setup net journal (commit_of w e ∷ []) history in
    let behind : Sound setup (effect s (Decide w e true)) = subst (Sound setup) next (sound_behind setup net journal (commit_of w e ∷ []) history) in
    subst (λ k. IsRested setup k (committed_view v [])) (sym there) (rests_now setup net s w e p u.0 u.1 before behind f here v took)
