-- A task follows every longer journal that commits nothing for it; a replica follows every longer journal.
use Rattle.std.proofs.Common.{◌≡◌, ℕ, ◌+◌, ◌≤◌, Bool, true, false, cond, inl, inr, List, [], ◌∷◌, ◌++◌, length, Some, refl, sym, ap, ap₂, subst, ◌∙◌, arith, append-nil, ⊎_elim}
use Rattle.ks_def_runs.specs.Bytes.{empty_store}
use Rattle.ks_record.specs.Records.{Record as Rec}
use Rattle.ks_record.specs.declared.record.PartId.{PartId}
use Rattle.ks_record.specs.declared.record.TaskId.{TaskId}
use Rattle.ks_def_runs.specs.Run.{Outcome, sent_to, local}
use Rattle.ks_history.specs.declared.journal.Entry.{Entry}
use Rattle.ks_history.specs.Partition.{Logged, stable, readable, recs, by_sender, past_from, below, past_last, with_offsets}
use Rattle.ks_history.specs.Machine.{Stores, latest, network, part_of, has_topic, batch, IsNetwork}
use Rattle.ks_history.specs.State.{State, Setup, start}
use Rattle.ks_history.specs.Faithful.{decided, fold as fold_of, folds, taken, outcome, capped, waiting_at, markers_of}
use Rattle.ks_history.specs.Follows.{TaskView, IsReached}
use Rattle.ks_history.specs.History.{state_after, at, Each, IsFaithfulEntry, IsHistory}
use Rattle.ks_history.specs.Step.{after}
use Rattle.ks_history.proofs.Histories.{state_after-append, history_front}
use Rattle.ks_law_exactly_once.proofs.Replays.{whole}
use Rattle.ks_law_exactly_once.proofs.Slots.{Rising, decided_rises, readable_decided, below_none}
use Rattle.ks_law_exactly_once.proofs.Sound.{Sound}
use Rattle.ks_law_exactly_once.proofs.Stores.{only_sender}
use Rattle.ks_law_restore.specs.Laws.{LongerStands, ReplicaStands, FreshFollows, LastIsPast}
use Rattle.ks_law_restore.specs.Views.{IsPast, fresh_view}
use Rattle.ks_law_restore.proofs.Freezing.{fresh_stands}
use Rattle.ks_law_restore.proofs.Growing.{Grown, Rests, grown_after, rests_after}
use Rattle.ks_law_restore.proofs.Offsets.{below-append, below_in, rising_less}
use Rattle.ks_law_restore.proofs.Standing.{Standing, Passed, standing, passed, stands_of}

-- ---- the last of some records, and then more
pub behind_rises : (at : ℕ) (xs ys : List Logged) → Rising at (xs ++ ys) → Rising (past_last (with_offsets xs)) ys
behind_rises at [] ys r = rising_less 0 at ys (omega arith) r
behind_rises at (x ∷ []) ys r = r.1
behind_rises at (x ∷ y ∷ xs) ys r = behind_rises (x.offset + 1) (y ∷ xs) ys r.1

pub first_before_last : (at : ℕ) (x : Logged) (xs : List Logged) → Rising at (x ∷ xs) → x.offset + 1 ≤ past_last (with_offsets (x ∷ xs))
first_before_last at x [] r = omega arith
first_before_last at x (y ∷ ys) r = omega (arith, r.1.0, first_before_last (x.offset + 1) y ys r.1)

pub last_grows : (at : ℕ) (xs ys : List Logged) → Rising at (xs ++ ys) → past_last (with_offsets xs) ≤ past_last (with_offsets (xs ++ ys))
last_grows at [] ys r = omega arith
last_grows at (x ∷ []) ys r = first_before_last at x ys r
last_grows at (x ∷ y ∷ xs) ys r = last_grows (x.offset + 1) (y ∷ xs) ys r.1

all_before_last : (at : ℕ) (xs : List Logged) → Rising at xs → below (past_last (with_offsets xs)) xs ≡ xs
all_before_last at [] r = refl
all_before_last at (x ∷ []) r = below_in (x.offset + 1) x [] (omega arith)
all_before_last at (x ∷ y ∷ xs) r =
    below_in (past_last (with_offsets (y ∷ xs))) x (y ∷ xs) (omega (arith, r.1.0, first_before_last (x.offset + 1) y xs r.1))
    ∙ ap (λ l. x ∷ l) (all_before_last (x.offset + 1) (y ∷ xs) r.1)

pub last_is_past : LastIsPast
last_is_past s p = record { past = all_before_last 0 (decided s p) (decided_rises (waiting_at (markers_of s) p) 0 (s.partition p)); reached = inr (omega arith) }

-- ---- one state and a later one
pub past_kept : (s new : State) (q : PartId) (position : ℕ) → decided new q ≡ decided s q → stable (s.partition q) ≤ stable (new.partition q) → IsPast s q position → IsPast new q position
past_kept s new q position same rises is = record {
  past = ap (below position) same ∙ is.past ∙ sym same;
  reached = ⊎_elim
      (λ (low : position ≤ stable (s.partition q)). inl (omega (arith, low, rises)))
      (λ (last : position ≤ past_last (with_offsets (decided s q))). inr (subst (λ (d : List Logged). position ≤ past_last (with_offsets d)) (sym same) last))
      is.reached;
}

module _ (setup : Setup) (s new : State) (before : Sound setup s) (behind : Sound setup new) (grown : Grown s new) where
  -- a changelog has the records of its own task alone
  pub whole_by_own : (t : TaskId) (topic : ℕ) → has_topic topic (setup.plan.changelogs t.sub) ≡ true → by_sender (Some t) (decided new (part_of topic t)) ≡ by_sender (Some t) (decided s (part_of topic t)) → decided new (part_of topic t) ≡ decided s (part_of topic t)
  whole_by_own t topic h own =
      sym (only_sender t (decided new (part_of topic t)) (λ r ne. behind.alone t topic r h ne))
      ∙ own
      ∙ only_sender t (decided s (part_of topic t)) (λ r ne. before.alone t topic r h ne)

  -- ---- a replica
  module _ (t : TaskId) (topic position : ℕ) (h : has_topic topic (setup.plan.changelogs t.sub) ≡ true) where
    more_decided : decided new (part_of topic t) ≡ decided s (part_of topic t) ++ (grown.adds t (part_of topic t)).0
    more_decided =
        sym (only_sender t (decided new (part_of topic t)) (λ r ne. behind.alone t topic r h ne))
        ∙ (grown.adds t (part_of topic t)).1
        ∙ ap (λ l. l ++ (grown.adds t (part_of topic t)).0) (only_sender t (decided s (part_of topic t)) (λ r ne. before.alone t topic r h ne))

    rising : Rising 0 (decided s (part_of topic t) ++ (grown.adds t (part_of topic t)).0)
    rising = subst (Rising 0) more_decided (decided_rises (waiting_at (markers_of new) (part_of topic t)) 0 (new.partition (part_of topic t)))

    pub below_reached : IsReached s (part_of topic t) position → below position (decided new (part_of topic t)) ≡ below position (decided s (part_of topic t))
    below_reached (inl low) = grown.fixed (part_of topic t) position low
    below_reached (inr last) =
        ap (below position) more_decided
        ∙ below-append position (decided s (part_of topic t)) (grown.adds t (part_of topic t)).0
        ∙ ap (λ l. below position (decided s (part_of topic t)) ++ l)
        (below_none position (past_last (with_offsets (decided s (part_of topic t)))) (grown.adds t (part_of topic t)).0 last (behind_rises 0 (decided s (part_of topic t)) (grown.adds t (part_of topic t)).0 rising))
        ∙ append-nil (below position (decided s (part_of topic t)))

    pub still_reached : IsReached s (part_of topic t) position → IsReached new (part_of topic t) position
    still_reached (inl low) = inl (omega (arith, low, grown.rises (part_of topic t)))
    still_reached (inr last) =
        let more = last_grows 0 (decided s (part_of topic t)) (grown.adds t (part_of topic t)).0 rising in
        inr (subst (λ (d : List Logged). position ≤ past_last (with_offsets d)) (sym more_decided) (omega (arith, last, more)))

  -- ---- a task for which nothing was committed
  module _ (v : TaskView) (rests : Rests v.task s new) (stands : Standing setup s v) where
    decided_kept : (topic : ℕ) → has_topic topic (setup.plan.changelogs v.task.sub) ≡ true → decided new (part_of topic v.task) ≡ decided s (part_of topic v.task)
    decided_kept topic h = whole_by_own v.task topic h (rests.own (part_of topic v.task))

    folds_kept : folds setup new v.task ≡ folds setup s v.task
    folds_kept = λ i topic. by topic (has_topic topic (setup.plan.changelogs v.task.sub)) refl i
      where
        by : (topic : ℕ) (b : Bool) → has_topic topic (setup.plan.changelogs v.task.sub) ≡ b → cond b (fold_of new (part_of topic v.task)) empty_store ≡ cond b (fold_of s (part_of topic v.task)) empty_store
        by topic true h = ap (λ (d : List Logged). latest (recs d)) (decided_kept topic h)
        by topic false h = refl

    taken_kept : taken setup new v.task v.inputs ≡ taken setup s v.task v.inputs
    taken_kept = λ i topic. by topic (has_topic topic (setup.plan.inputs v.task.sub)) refl i
      where
        by : (topic : ℕ) (b : Bool) → has_topic topic (setup.plan.inputs v.task.sub) ≡ b →
            cond b (past_from (new.committed v.task topic) (below (v.inputs topic) (readable (new.partition (part_of topic v.task))))) []
            ≡ cond b (past_from (s.committed v.task topic) (below (v.inputs topic) (readable (s.partition (part_of topic v.task))))) []
        by topic true h =
            let q = part_of topic v.task in
            ap₂ past_from (rests.committed topic)
            (readable_decided (waiting_at (markers_of new) q) (v.inputs topic) 0 (new.partition q) (omega (arith, stands.stable topic h, grown.rises q))
            ∙ grown.fixed q (v.inputs topic) (stands.stable topic h)
            ∙ sym (readable_decided (waiting_at (markers_of s) q) (v.inputs topic) 0 (s.partition q) (omega (arith, stands.stable topic h))))
        by topic false h = refl

    outcome_kept : outcome setup new v.task v.inputs v.order ≡ outcome setup s v.task v.inputs v.order
    outcome_kept = ap₂ (λ (m : Stores) (f : ℕ → List Logged). local (network setup.plan) v.task m (batch v.task f v.order)) folds_kept taken_kept

    pub standing_kept : Standing setup new v
    standing_kept = record {
      kept = λ topic h. stands.kept topic h ∙ sym (rests.committed topic);
      committed = λ topic h. omega (arith, stands.committed topic h, rests.committed topic);
      stable = λ topic h. omega (arith, stands.stable topic h, grown.rises (part_of topic v.task));
      order = λ topic. stands.order topic ∙ ap (λ (f : ℕ → List Logged). length (f topic)) (sym taken_kept);
      stores = stands.stores ∙ ap (λ (o : Outcome PartId Stores Rec). o.store) (sym outcome_kept);
      made = λ q. stands.made q ∙ ap (λ (o : Outcome PartId Stores Rec). sent_to (network setup.plan) q o.made) (sym outcome_kept);
      late = stands.late ∙ ap (λ (o : Outcome PartId Stores Rec). capped o.late) (sym outcome_kept);
    }

    pub passed_kept : Passed setup s v → Passed setup new v
    passed_kept is topic h = past_kept s new (part_of topic v.task) (v.position topic) (decided_kept topic h) (grown.rises (part_of topic v.task)) (is topic h)

-- ---- a journal and a longer one
pub Each-back : (P : Setup → State → Entry → Type 0) (setup : Setup) (s : State) (xs ys : List Entry) → Each P setup s (xs ++ ys) → Each P setup (state_after setup s xs) ys
Each-back P setup s [] ys p = p
Each-back P setup s (x ∷ xs) ys p = Each-back P setup (after setup s x.request) xs ys p.1

module _ (setup : Setup) (net : IsNetwork setup.plan) (journal more : List Entry) (history : IsHistory setup (journal ++ more)) where
  pub then_faithful : Each IsFaithfulEntry setup (at setup journal) more
  then_faithful = Each-back IsFaithfulEntry setup start journal more history.faithful

  pub then_sound : Each (λ setup s entry. Sound setup s) setup (at setup journal) more
  then_sound = Each-back (λ setup s entry. Sound setup s) setup start journal more (whole setup net (journal ++ more) history).sounds

  pub sound_before : Sound setup (at setup journal)
  sound_before = (whole setup net journal (history_front setup journal (journal ++ more) (more, refl) history)).sound

  pub sound_behind : Sound setup (state_after setup (at setup journal) more)
  sound_behind = subst (Sound setup) (state_after-append setup start journal more) (whole setup net (journal ++ more) history).sound

  pub then_grown : Grown (at setup journal) (state_after setup (at setup journal) more)
  then_grown = grown_after setup net more (at setup journal) then_faithful then_sound

pub longer_stands : LongerStands
longer_stands setup journal more v net history none stands =
    let s : State = at setup journal in
    let new : State = state_after setup (at setup journal) more in
    let rests : Rests v.task s new = rests_after setup net v.task more s (then_faithful setup net journal more history) (then_sound setup net journal more history) none in
    let before = sound_before setup net journal more history in
    let behind = sound_behind setup net journal more history in
    let grown = then_grown setup net journal more history in
    let is : Standing setup s v = standing setup net journal v stands in
    stands_of setup net (journal ++ more) v
    (subst (λ k. Standing setup k v) (sym (state_after-append setup start journal more)) (standing_kept setup s new before behind grown v rests is))
    (subst (λ k. Passed setup k v) (sym (state_after-append setup start journal more)) (passed_kept setup s new before behind grown v rests is (passed setup net journal v stands)))

pub replica_stands : ReplicaStands
replica_stands setup journal more replica net history follows =
    let s : State = at setup journal in
    let new : State = state_after setup (at setup journal) more in
    let before = sound_before setup net journal more history in
    let behind = sound_behind setup net journal more history in
    let grown = then_grown setup net journal more history in
    let there : state_after setup (at setup journal) more ≡ at setup (journal ++ more) = sym (state_after-append setup start journal more) in
    record {
      stores = λ topic h. follows.stores topic h
          ∙ ap (λ (d : List Logged). latest (recs d)) (sym (below_reached setup s new before behind grown replica.task topic (replica.position topic) h (follows.reached topic h)))
          ∙ ap (λ (k : State). latest (recs (below (replica.position topic) (decided k (part_of topic replica.task))))) there;
      reached = λ topic h. subst (λ k. IsReached k (part_of topic replica.task) (replica.position topic)) there
          (still_reached setup s new before behind grown replica.task topic (replica.position topic) h (follows.reached topic h));
    }

pub fresh_follows : FreshFollows
fresh_follows setup journal t net history none = longer_stands setup [] journal (fresh_view t) net history none (fresh_stands setup [] t (λ topic h. refl) (λ topic h. refl))
