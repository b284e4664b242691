-- A task whose frozen work was committed follows the longer journal.
use Rattle.std.proofs.Common.{◌≡◌, ℕ, Bool, true, false, cond, List, [], ◌∷◌, ◌++◌, length, Option, Some, None, refl, sym, ap, ap₂, subst, ◌∙◌, arith, append-nil}
use Rattle.ks_def_runs.specs.Bytes.{empty_store}
use Rattle.ks_record.specs.Records.{Record as Rec}
use Rattle.ks_record.specs.declared.record.PartId.{PartId}
use Rattle.ks_record.specs.declared.assignment.Refused.{Refused}
use Rattle.ks_def_runs.specs.Run.{Outcome, sent_to}
use Rattle.ks_history.specs.declared.journal.Request.{Request}
use Rattle.ks_history.specs.declared.journal.Request.TheVariants.{Produce, Init, Add, Append, SendOffsets, Decide, MarkNext, Join, Expire, Hold, Probe, Assign, Park, Unpark}
use Rattle.ks_history.specs.declared.journal.Entry.{Entry}
use Rattle.ks_history.specs.declared.transaction.Pending.{Pending}
use Rattle.ks_history.specs.declared.transaction.Transaction.{Transaction}
use Rattle.ks_history.specs.Partition.{readable, recs, by_sender, past_from, below, open_from}
use Rattle.ks_history.specs.Machine.{Stores, latest, latest_from, network, part_of, has_topic, batch, IsNetwork}
use Rattle.ks_history.specs.State.{State, Setup, start, pending_of, offset_in}
use Rattle.ks_history.specs.Step.{refusal, effect, state_by, pending_at}
use Rattle.ks_history.specs.Faithful.{decided, fold as fold_of, folds, taken, outcome, IsFaithful, IsFaithfulTask}
use Rattle.ks_history.specs.Follows.{TaskView}
use Rattle.ks_history.specs.History.{state_after, at, Each, IsFaithfulEntry, CommitsFaithfully}
use Rattle.ks_history.proofs.Histories.{state_after-append}
use Rattle.ks_law_exactly_once.proofs.Commits.{grows, pending_is}
use Rattle.ks_law_exactly_once.proofs.Refusals.{some_undecided}
use Rattle.ks_law_exactly_once.proofs.Slots.{nothing_between, recs-append}
use Rattle.ks_law_exactly_once.proofs.Sound.{Sound}
use Rattle.ks_law_exactly_once.proofs.Stores.{latest_from-append, only_sender, recs_nothing, local-told, local-other}
use Rattle.ks_law_restore.specs.Commits.{commit_by, commits_by, commits_for}
use Rattle.ks_law_restore.specs.Laws.{CommittedStands}
use Rattle.ks_law_restore.specs.Views.{committed_view, WorkView, pending_work, recs_at, IsPast, AreEnds}
use Rattle.ks_law_restore.proofs.Freezing.{work_with, frozen_is, offset_is, outcome_is}
use Rattle.ks_law_restore.proofs.Growing.{Grown, Rests, moved, grown_after, rests_after}
use Rattle.ks_law_restore.proofs.Lasting.{whole_by_own, past_kept, standing_kept, then_faithful, then_sound, sound_before, sound_behind, then_grown}
use Rattle.ks_law_restore.proofs.Standing.{Standing, Passed, standing, passed, stands_of}

-- what is known after the work of a view was committed
record Committed (setup : Setup) (s new : State) (v : TaskView) (ends : List (ℕ × ℕ)) : Type 0 where
  stands : Standing setup new (committed_view v ends)
  -- where it had no records, nothing of it was decided
  unchanged : (q : PartId) → v.made q ≡ [] → by_sender (Some v.task) (decided new q) ≡ by_sender (Some v.task) (decided s q)

module _ (setup : Setup) (net : IsNetwork setup.plan) (v : TaskView) (outputs : List (PartId × List Rec)) (ends : List (ℕ × ℕ)) where
  abbrev work : Pending
  work = pending_work (work_with setup v outputs)

  -- ---- the commit itself
  module _ (s : State) (w e : ℕ) (tx : Transaction) (is : (s.producer w).undecided ≡ Some tx) (sound : Sound setup s) (behind : Sound setup (effect s (Decide w e true))) (f : IsFaithful setup s w tx)
      (here : pending_of v.task (pending_at (s.producer w)) ≡ Some (pending_work (work_with setup v outputs))) (stands : Standing setup s v) where
    abbrev new : State
    new = effect s (Decide w e true)

    of_task : IsFaithfulTask setup s w (pending_work (work_with setup v outputs))
    of_task = f.each v.task (pending_work (work_with setup v outputs)) (ap (pending_of v.task) (sym (pending_is (s.producer w) tx is)) ∙ here)

    -- the transaction's own records are what the view made
    appended : (q : PartId) → recs (open_from w (s.producer w).epoch v.task 0 (s.partition q)) ≡ sent_to (network setup.plan) q (outcome setup s v.task v.inputs v.order).made
    appended q = sym (of_task.made q) ∙ ap (λ (o : Outcome PartId Stores Rec). sent_to (network setup.plan) q o.made) (outcome_is setup s v outputs)

    offsets_now : (topic : ℕ) → has_topic topic (setup.plan.inputs v.task.sub) ≡ true → (effect s (Decide w e true)).committed v.task topic ≡ v.inputs topic
    offsets_now topic h =
        ap (λ (o : Option Pending). elim o as (λ _. ℕ) [ None ↦ s.committed v.task topic | Some p ↦ offset_in (s.committed v.task topic) topic p.offsets ]) here
        ∙ offset_is setup s v outputs topic h

    whole_now : (topic : ℕ) → has_topic topic (setup.plan.changelogs v.task.sub) ≡ true →
        decided (effect s (Decide w e true)) (part_of topic v.task) ≡ decided s (part_of topic v.task) ++ open_from w (s.producer w).epoch v.task 0 (s.partition (part_of topic v.task))
    whole_now topic h =
        sym (only_sender v.task (decided (effect s (Decide w e true)) (part_of topic v.task)) (λ r ne. behind.alone v.task topic r h ne))
        ∙ grows setup net s w e tx is sound f (part_of topic v.task) v.task
        ∙ ap (λ l. l ++ open_from w (s.producer w).epoch v.task 0 (s.partition (part_of topic v.task))) (only_sender v.task (decided s (part_of topic v.task)) (λ r ne. sound.alone v.task topic r h ne))

    -- the folds are the stores that the view had
    stores_now : (outcome setup s v.task v.inputs v.order).store ≡ folds setup (effect s (Decide w e true)) v.task
    stores_now = λ i topic. by topic (has_topic topic (setup.plan.changelogs v.task.sub)) refl i
      where
        by : (topic : ℕ) (b : Bool) → has_topic topic (setup.plan.changelogs v.task.sub) ≡ b → (outcome setup s v.task v.inputs v.order).store topic ≡ cond b (fold_of (effect s (Decide w e true)) (part_of topic v.task)) empty_store
        by topic true h =
            let q = part_of topic v.task in
            let mine = open_from w (s.producer w).epoch v.task 0 (s.partition q) in
            local-told setup.plan net v.task topic h (folds setup s v.task) (batch v.task (taken setup s v.task v.inputs) v.order)
            ∙ ap₂ latest_from (ap (λ b. cond b (fold_of s q) empty_store) h) (sym (appended q))
            ∙ sym (latest_from-append empty_store (recs (decided s q)) (recs mine))
            ∙ ap latest (sym (recs-append (decided s q) mine) ∙ ap recs (sym (whole_now topic h)))
        by topic false h =
            local-other setup.plan net v.task topic h (folds setup s v.task) (batch v.task (taken setup s v.task v.inputs) v.order)
            ∙ ap (λ b. cond b (fold_of s (part_of topic v.task)) empty_store) h

    nothing_left : (topic : ℕ) → 0 ≡ length (taken setup (effect s (Decide w e true)) v.task v.inputs topic)
    nothing_left topic = by (has_topic topic (setup.plan.inputs v.task.sub)) refl
      where
        by : (b : Bool) → has_topic topic (setup.plan.inputs v.task.sub) ≡ b →
            0 ≡ length (cond b (past_from ((effect s (Decide w e true)).committed v.task topic) (below (v.inputs topic) (readable (s.partition (part_of topic v.task))))) [])
        by true h = ap length (sym (nothing_between ((effect s (Decide w e true)).committed v.task topic) (v.inputs topic) (readable (s.partition (part_of topic v.task))) (sym (offsets_now topic h))))
        by false h = refl

    committed_now : Committed setup s (effect s (Decide w e true)) v ends
    committed_now = record {
      stands = record {
        kept = λ topic h. sym (offsets_now topic h);
        committed = λ topic h. omega (arith, offsets_now topic h);
        stable = stands.stable;
        order = nothing_left;
        stores = stands.stores ∙ stores_now;
        made = λ q. refl;
        late = omega arith;
      };
      unchanged = λ q none.
          grows setup net s w e tx is sound f q v.task
          ∙ ap (λ l. by_sender (Some v.task) (decided s q) ++ l) (recs_nothing _ (appended q ∙ sym (stands.made q) ∙ none))
          ∙ append-nil (by_sender (Some v.task) (decided s q));
    }

  -- ---- an entry that commits it
  abbrev second_of : Pending → List (ℕ × Pending) → Option Pending
  second_of d [] = Some d
  second_of d (x ∷ xs) = Some x.1

  is_it : (w k : ℕ) (o : Option Pending) → commit_by w o ≡ (k, pending_work (work_with setup v outputs)) ∷ [] → o ≡ Some (pending_work (work_with setup v outputs))
  is_it w k None e = absurd cc
  is_it w k (Some p) e = ap (λ l. second_of p l) e

  by_entry : (s : State) (request : Request) (r : Option Refused) (k : ℕ) → refusal setup s request ≡ r → CommitsFaithfully setup s request → Sound setup s → Sound setup (state_by s request r) → Standing setup s v →
      commits_by s request r v.task ≡ (k, pending_work (work_with setup v outputs)) ∷ [] → Committed setup s (state_by s request r) v ends
  by_entry s (Decide w e true) None k is f sound behind stands one =
      let u = some_undecided (s.producer w) e is in
      committed_now s w e u.0 u.1 sound behind (f is u.0 u.1) (is_it w k (pending_of v.task (pending_at (s.producer w))) one) stands
  by_entry s (Decide w e true) (Some refused) k is f sound behind stands one = absurd cc
  by_entry s (Decide w e false) r k is f sound behind stands one = absurd cc
  by_entry s (Produce p rec) r k is f sound behind stands one = absurd cc
  by_entry s (Init w) r k is f sound behind stands one = absurd cc
  by_entry s (Add w e p) r k is f sound behind stands one = absurd cc
  by_entry s (Append w e number t p rs) r k is f sound behind stands one = absurd cc
  by_entry s (SendOffsets w e g t offsets order late) r k is f sound behind stands one = absurd cc
  by_entry s (MarkNext w) r k is f sound behind stands one = absurd cc
  by_entry s (Join w) r k is f sound behind stands one = absurd cc
  by_entry s (Expire w) r k is f sound behind stands one = absurd cc
  by_entry s (Hold w held) r k is f sound behind stands one = absurd cc
  by_entry s (Probe w g) r k is f sound behind stands one = absurd cc
  by_entry s (Assign w g a) r k is f sound behind stands one = absurd cc
  by_entry s (Park instance t) r k is f sound behind stands one = absurd cc
  by_entry s (Unpark instance t) r k is f sound behind stands one = absurd cc

  -- ---- among more entries
  first_sound : (entries : List Entry) (s : State) → Each (λ setup s entry. Sound setup s) setup s entries → Sound setup (state_after setup s entries) → Sound setup s
  first_sound [] s sounds last = last
  first_sound (entry ∷ entries) s sounds last = sounds.0

  no_more : {A : Type 0} (x y : A) (xs ys : List A) → (y ∷ ys) ++ xs ≡ x ∷ [] → (y ∷ ys ≡ x ∷ []) × (xs ≡ [])
  no_more x y [] [] e = (e, refl)
  no_more x y (z ∷ xs) [] e = absurd cc
  no_more x y xs (z ∷ ys) e = absurd cc

  committed_after : (entries : List Entry) (s : State) (k : ℕ) → Each IsFaithfulEntry setup s entries → Each (λ setup s entry. Sound setup s) setup s entries → Sound setup (state_after setup s entries) → Standing setup s v →
      commits_for setup s entries v.task ≡ (k, pending_work (work_with setup v outputs)) ∷ [] → Committed setup s (state_after setup s entries) v ends
  committed_after [] s k faithful sounds last stands one = absurd cc
  committed_after (entry ∷ entries) s k faithful sounds last stands one =
      by (commits_by s entry.request (refusal setup s entry.request) v.task) refl one (λ now e. committed_after entries (state_by s entry.request (refusal setup s entry.request)) k faithful.1 sounds.1 last now e)
    where
      next_sound : Sound setup (state_by s entry.request (refusal setup s entry.request))
      next_sound = first_sound entries (state_by s entry.request (refusal setup s entry.request)) sounds.1 last

      step_grown : Grown s (state_by s entry.request (refusal setup s entry.request))
      step_grown = (moved setup net s entry.request (refusal setup s entry.request) refl faithful.0 sounds.0).grown

      by : (l : List (ℕ × Pending)) → commits_by s entry.request (refusal setup s entry.request) v.task ≡ l → l ++ commits_for setup (state_by s entry.request (refusal setup s entry.request)) entries v.task ≡ (k, pending_work (work_with setup v outputs)) ∷ [] →
          (Standing setup (state_by s entry.request (refusal setup s entry.request)) v → commits_for setup (state_by s entry.request (refusal setup s entry.request)) entries v.task ≡ (k, pending_work (work_with setup v outputs)) ∷ [] → Committed setup (state_by s entry.request (refusal setup s entry.request)) (state_after setup (state_by s entry.request (refusal setup s entry.request)) entries) v ends) →
          Committed setup s (state_after setup (state_by s entry.request (refusal setup s entry.request)) entries) v ends
      by [] h e rest =
          let rests : Rests v.task s (state_by s entry.request (refusal setup s entry.request)) = (moved setup net s entry.request (refusal setup s entry.request) refl faithful.0 sounds.0).rests v.task h in
          let more : Committed setup (state_by s entry.request (refusal setup s entry.request)) (state_after setup (state_by s entry.request (refusal setup s entry.request)) entries) v ends = rest (standing_kept setup s (state_by s entry.request (refusal setup s entry.request)) sounds.0 next_sound step_grown v rests stands) e in
          record { stands = more.stands; unchanged = λ q none. more.unchanged q none ∙ rests.own q }
      by (x ∷ xs) h e rest =
          let parts = no_more (k, pending_work (work_with setup v outputs)) x (commits_for setup (state_by s entry.request (refusal setup s entry.request)) entries v.task) xs e in
          let now : Committed setup s (state_by s entry.request (refusal setup s entry.request)) v ends = by_entry s entry.request (refusal setup s entry.request) k refl faithful.0 sounds.0 next_sound stands (h ∙ parts.0) in
          let rests : Rests v.task (state_by s entry.request (refusal setup s entry.request)) (state_after setup (state_by s entry.request (refusal setup s entry.request)) entries) = rests_after setup net v.task entries (state_by s entry.request (refusal setup s entry.request)) faithful.1 sounds.1 parts.1 in
          let rest_grown : Grown (state_by s entry.request (refusal setup s entry.request)) (state_after setup (state_by s entry.request (refusal setup s entry.request)) entries) = grown_after setup net entries (state_by s entry.request (refusal setup s entry.request)) faithful.1 sounds.1 in
          record {
            stands = standing_kept setup (state_by s entry.request (refusal setup s entry.request)) (state_after setup (state_by s entry.request (refusal setup s entry.request)) entries) next_sound last rest_grown (committed_view v ends) rests now.stands;
            unchanged = λ q none. rests.own q ∙ now.unchanged q none;
          }

-- ---- the law
module _ (setup : Setup) (net : IsNetwork setup.plan) (journal more : List Entry) (v : TaskView) (outputs : List (PartId × List Rec)) (ends : List (ℕ × ℕ)) where
  abbrev last : State
  last = state_after setup (at setup journal) more

  passed_by : Sound setup (at setup journal) → Sound setup (state_after setup (at setup journal) more) → Grown (at setup journal) (state_after setup (at setup journal) more) →
      ((q : PartId) → recs_at q outputs ≡ v.made q) → Committed setup (at setup journal) (state_after setup (at setup journal) more) v ends →
      AreEnds setup (state_after setup (at setup journal) more) (work_with setup v outputs) ends → Passed setup (at setup journal) v → Passed setup (state_after setup (at setup journal) more) (committed_view v ends)
  passed_by before behind grown out done are is topic h = by (recs_at (part_of topic v.task) outputs) refl
    where
      by : (l : List Rec) → recs_at (part_of topic v.task) outputs ≡ l → IsPast (state_after setup (at setup journal) more) (part_of topic v.task) (offset_in (v.position topic) topic ends)
      by [] e =
          let same = whole_by_own setup (at setup journal) (state_after setup (at setup journal) more) before behind grown v.task topic h (done.unchanged (part_of topic v.task) (sym (out (part_of topic v.task)) ∙ e)) in
          subst (IsPast (state_after setup (at setup journal) more) (part_of topic v.task)) (sym (are.others topic (v.position topic) h e))
          (past_kept (at setup journal) (state_after setup (at setup journal) more) (part_of topic v.task) (v.position topic) same (grown.rises (part_of topic v.task)) (is topic h))
      by (x ∷ xs) e = are.named topic (v.position topic) h (λ none. filled (sym e ∙ none))
        where
          filled : x ∷ xs ≡ [] → ⊥
          filled g = absurd cc

pub committed_stands : CommittedStands
committed_stands setup journal more v f ends net history stands frozen one are =
    let s : State = at setup journal in
    let new : State = state_after setup (at setup journal) more in
    let there : at setup (journal ++ more) ≡ state_after setup (at setup journal) more = state_after-append setup start journal more in
    let same : f ≡ work_with setup v f.outputs = frozen_is setup v f frozen in
    let before = sound_before setup net journal more history in
    let behind = sound_behind setup net journal more history in
    let grown = then_grown setup net journal more history in
    let commits : commits_for setup s more v.task ≡ (one.0, pending_work (work_with setup v f.outputs)) ∷ [] =
    ap (commits_for setup s more) (sym frozen.task) ∙ one.1 ∙ ap (λ (g : WorkView). (one.0, pending_work g) ∷ []) same in
    let done : Committed setup s new v ends = committed_after setup net v f.outputs ends more s one.0 (then_faithful setup net journal more history) (then_sound setup net journal more history) behind (standing setup net journal v stands) commits in
    let are_new : AreEnds setup new (work_with setup v f.outputs) ends = subst (λ k. AreEnds setup k (work_with setup v f.outputs) ends) there (subst (λ g. AreEnds setup (at setup (journal ++ more)) g ends) same are) in
    stands_of setup net (journal ++ more) (committed_view v ends)
    (subst (λ k. Standing setup k (committed_view v ends)) (sym there) done.stands)
    (subst (λ k. Passed setup k (committed_view v ends)) (sym there)
    (passed_by setup net journal more v f.outputs ends before behind grown frozen.outputs done are_new (passed setup net journal v stands)))
