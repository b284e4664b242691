-- A task that takes a record, or passes over what is not readable, follows as before.
use Rattle.std.proofs.Common.{◌≡◌, ℕ, ◌+◌, ◌≤◌, Bool, true, false, cond, List, [], ◌∷◌, ◌++◌, length, refl, sym, ap, ap₂, subst, ◌∙◌, arith, append-nil}
use Rattle.std.specs.Prelude.{◌==◌, min, ◌^◌, ◌-◌}
use Rattle.std.proofs.lemmas.Bool.{eqb-true, eq-eqb}
use Rattle.std.proofs.lemmas.List.{length-append}
use Rattle.ks_record.specs.Records.{Record as Rec}
use Rattle.ks_record.specs.declared.record.PartId.{PartId}
use Rattle.ks_record.specs.declared.record.TaskId.{TaskId}
use Rattle.ks_record.specs.Parts.{same_task}
use Rattle.ks_def_runs.specs.Run.{Outcome, Taken, sent_to, local}
use Rattle.ks_def_runs.proofs.Runs.{after, local_push, sent_to-append}
use Rattle.ks_history.specs.Partition.{Logged, stable, readable, past_from, below, with_offsets}
use Rattle.ks_history.specs.Machine.{Stores, network, part_of, has_topic, batch, IsNetwork}
use Rattle.ks_history.specs.State.{State, Setup, with_number}
use Rattle.ks_history.specs.Faithful.{folds, taken, outcome, capped}
use Rattle.ks_history.specs.Follows.{TaskView}
use Rattle.ks_history.specs.History.{at}
use Rattle.ks_history.proofs.Names.{same_task-refl}
use Rattle.ks_law_restore.specs.Laws.{TakingStands, SkippingStands}
use Rattle.ks_law_restore.specs.Views.{take_view, skip_view, with_taken, IsNext, MaySkip}
use Rattle.ks_law_restore.proofs.Offsets.{more_taken, none_taken, then_follows, readable_rises, readable_first, readable_over}
use Rattle.ks_law_restore.proofs.Orders.{count_with, batch_with, batch_last, one_more}
use Rattle.ks_law_restore.proofs.Standing.{Standing, standing, passed, stands_of, reads_own}

-- a record as a reader of committed records gets it
record IsFirst (xs : List Logged) (offset : ℕ) (rec : Rec) (rest : List (ℕ × Rec)) : Type 0 where
  first : Logged
  behind : List Logged
  is : xs ≡ first ∷ behind
  at_offset : first.offset ≡ offset
  is_rec : first.rec ≡ rec
  then_rest : with_offsets behind ≡ rest

abbrev first_or : ℕ × Rec → List (ℕ × Rec) → ℕ × Rec
first_or d [] = d
first_or d (x ∷ xs) = x

abbrev behind_of : List (ℕ × Rec) → List (ℕ × Rec)
behind_of [] = []
behind_of (x ∷ xs) = xs

logged : (xs : List Logged) (offset : ℕ) (rec : Rec) (rest : List (ℕ × Rec)) → with_offsets xs ≡ (offset, rec) ∷ rest → IsFirst xs offset rec rest
logged [] offset rec rest e = absurd cc
logged (x ∷ xs) offset rec rest e = record {
  first = x;
  behind = xs;
  is = refl;
  at_offset = ap (λ l. (first_or (offset, rec) l).0) e;
  is_rec = ap (λ l. (first_or (offset, rec) l).1) e;
  then_rest = ap behind_of e;
}

capped_sum : (a b cap : ℕ) → min (min a cap + b) cap ≡ min (a + b) cap
capped_sum a b cap = omega arith

module _ (setup : Setup) (net : IsNetwork setup.plan) (s : State) (v : TaskView) (topic offset : ℕ) (rec : Rec) (next : IsNext setup s v topic offset rec) where
  abbrev slots_read : List Logged
  slots_read = readable (s.partition (part_of topic v.task))

  abbrev found : IsFirst (past_from (v.inputs topic) (readable (s.partition (part_of topic v.task)))) offset rec next.rest
  found = logged (past_from (v.inputs topic) (readable (s.partition (part_of topic v.task)))) offset rec next.rest next.first

  -- what stands behind the next record is next, once it is taken
  pub rest_follows : with_offsets (past_from ((take_view setup.plan v topic offset rec).inputs topic) (readable (s.partition (part_of topic v.task)))) ≡ next.rest
  rest_follows =
      ap (λ b. with_offsets (past_from (cond b (offset + 1) (v.inputs topic)) (readable (s.partition (part_of topic v.task))))) (eq-eqb topic topic refl)
      ∙ ap (λ n. with_offsets (past_from (n + 1) (readable (s.partition (part_of topic v.task))))) (sym found.at_offset)
      ∙ ap with_offsets (then_follows 0 (v.inputs topic) 0 (readable (s.partition (part_of topic v.task))) (readable_rises (s.partition (part_of topic v.task))) (omega arith) found.first found.behind found.is)
      ∙ found.then_rest

  module _ (stands : Standing setup s v) where
    taken_more : taken setup s v.task (with_number v.inputs topic (offset + 1)) ≡ one_more topic found.first (taken setup s v.task v.inputs)
    taken_more = λ i n. by n (n == topic) refl i
      where
        here : past_from (s.committed v.task topic) (below (offset + 1) (readable (s.partition (part_of topic v.task))))
            ≡ past_from (s.committed v.task topic) (below (v.inputs topic) (readable (s.partition (part_of topic v.task)))) ++ found.first ∷ []
        here =
            ap (λ n. past_from (s.committed v.task topic) (below (n + 1) (readable (s.partition (part_of topic v.task))))) (sym found.at_offset)
            ∙ more_taken (s.committed v.task topic) (v.inputs topic) 0 (readable (s.partition (part_of topic v.task))) (readable_rises (s.partition (part_of topic v.task))) (stands.committed topic next.input) found.first found.behind found.is

        at_topic : taken setup s v.task (λ n. offset + 1) topic ≡ taken setup s v.task v.inputs topic ++ found.first ∷ []
        at_topic =
            ap (λ b. cond b (past_from (s.committed v.task topic) (below (offset + 1) (readable (s.partition (part_of topic v.task))))) []) next.input
            ∙ here
            ∙ ap (λ b. cond b (past_from (s.committed v.task topic) (below (v.inputs topic) (readable (s.partition (part_of topic v.task))))) [] ++ found.first ∷ []) (sym next.input)

        by : (n : ℕ) (b : Bool) → (n == topic) ≡ b →
            cond (has_topic n (setup.plan.inputs v.task.sub)) (past_from (s.committed v.task n) (below (cond b (offset + 1) (v.inputs n)) (readable (s.partition (part_of n v.task))))) []
            ≡ taken setup s v.task v.inputs n ++ cond b (found.first ∷ []) []
        by n true e = ap (λ k. taken setup s v.task (λ j. offset + 1) k) (eqb-true n topic e) ∙ at_topic ∙ ap (λ k. taken setup s v.task v.inputs k ++ found.first ∷ []) (sym (eqb-true n topic e))
        by n false e = sym (append-nil (taken setup s v.task v.inputs n))

    abbrev before : Outcome PartId Stores Rec
    before = outcome setup s v.task v.inputs v.order

    abbrev taken_one : Taken TaskId PartId Rec
    taken_one = record { sender = found.first.sender; place = part_of topic v.task; item = found.first.rec }

    -- what it made, and then what it makes of the record
    made_more : outcome setup s v.task (with_number v.inputs topic (offset + 1)) (with_taken topic v.order)
        ≡ after (network setup.plan) (outcome setup s v.task v.inputs v.order) (setup.plan.step v.task (outcome setup s v.task v.inputs v.order).store (part_of topic v.task) rec)
    made_more =
        let m = network setup.plan in
        let stores = folds setup s v.task in
        ap (λ (f : ℕ → List Logged). local m v.task stores (batch v.task f (with_taken topic v.order))) taken_more
        ∙ ap (local m v.task stores) (batch_with v.task topic v.order (one_more topic found.first (taken setup s v.task v.inputs)) ∙ batch_last v.task topic found.first v.order (taken setup s v.task v.inputs) stands.order)
        ∙ local_push m v.task stores (batch v.task (taken setup s v.task v.inputs) v.order) taken_one
        ∙ ap (λ u. cond (same_task v.task u) (after m before (setup.plan.step v.task before.store (part_of topic v.task) found.first.rec)) before) (reads_own setup net v.task topic next.input)
        ∙ ap (λ b. cond b (after m before (setup.plan.step v.task before.store (part_of topic v.task) found.first.rec)) before) (same_task-refl v.task)
        ∙ ap (λ r. after m before (setup.plan.step v.task before.store (part_of topic v.task) r)) found.is_rec

    length_more : (n : ℕ) → length (one_more topic found.first (taken setup s v.task v.inputs) n) ≡ length (taken setup s v.task v.inputs n) + cond (n == topic) 1 0
    length_more n = length-append (taken setup s v.task v.inputs n) (cond (n == topic) (found.first ∷ []) []) ∙ ap (λ k. length (taken setup s v.task v.inputs n) + k) (one (n == topic))
      where
        one : (b : Bool) → length (cond b (found.first ∷ []) []) ≡ cond b 1 0
        one true = refl
        one false = refl

    pub taking : Standing setup s (take_view setup.plan v topic offset rec)
    taking = record {
      kept = stands.kept;
      committed = λ n h. committed n (n == topic) refl h;
      stable = λ n h. reached n (n == topic) refl h;
      order = λ n. count_with n topic v.order ∙ ap (λ k. k + cond (n == topic) 1 0) (stands.order n) ∙ sym (length_more n) ∙ ap (λ (f : ℕ → List Logged). length (f n)) (sym taken_more);
      stores = ap (λ (m : Stores). (setup.plan.step v.task m (part_of topic v.task) rec).store) stands.stores ∙ ap (λ (o : Outcome PartId Stores Rec). o.store) (sym made_more);
      made = λ q.
          ap₂ (λ a (m : Stores). a ++ sent_to (network setup.plan) q (setup.plan.step v.task m (part_of topic v.task) rec).made) (stands.made q) stands.stores
          ∙ sym (sent_to-append (network setup.plan) q before.made (setup.plan.step v.task before.store (part_of topic v.task) rec).made)
          ∙ ap (λ (o : Outcome PartId Stores Rec). sent_to (network setup.plan) q o.made) (sym made_more);
      late =
          ap₂ (λ n (m : Stores). capped (n + (setup.plan.step v.task m (part_of topic v.task) rec).late)) stands.late stands.stores
          ∙ capped_sum before.late (setup.plan.step v.task before.store (part_of topic v.task) rec).late (2 ^ 64 - 1)
          ∙ ap (λ (o : Outcome PartId Stores Rec). capped o.late) (sym made_more);
    }
      where
        committed : (n : ℕ) (b : Bool) → (n == topic) ≡ b → has_topic n (setup.plan.inputs v.task.sub) ≡ true → s.committed v.task n ≤ cond b (offset + 1) (v.inputs n)
        committed n true e h =
            let over = readable_over (v.inputs topic) (s.partition (part_of topic v.task)) found.first found.behind found.is in
            subst (λ k. s.committed v.task k ≤ offset + 1) (sym (eqb-true n topic e)) (omega (arith, stands.committed topic next.input, over, found.at_offset))
        committed n false e h = stands.committed n h

        reached : (n : ℕ) (b : Bool) → (n == topic) ≡ b → has_topic n (setup.plan.inputs v.task.sub) ≡ true → cond b (offset + 1) (v.inputs n) ≤ stable (s.partition (part_of n v.task))
        reached n true e h =
            let within = readable_first (v.inputs topic) (s.partition (part_of topic v.task)) found.first found.behind found.is in
            subst (λ k. offset + 1 ≤ stable (s.partition (part_of k v.task))) (sym (eqb-true n topic e)) (omega (arith, within, found.at_offset))
        reached n false e h = stands.stable n h

pub taking_stands : TakingStands
taking_stands setup journal v topic offset rec net next stands =
    stands_of setup net journal (take_view setup.plan v topic offset rec) (taking setup net (at setup journal) v topic offset rec next (standing setup net journal v stands)) (passed setup net journal v stands)

-- ---- what is not readable
module _ (setup : Setup) (s : State) (v : TaskView) (topic next : ℕ) (may : MaySkip setup s v topic next) (stands : Standing setup s v) where
  nothing_taken : taken setup s v.task (with_number v.inputs topic next) ≡ taken setup s v.task v.inputs
  nothing_taken = λ i n. by n (n == topic) refl i
    where
      here : taken setup s v.task (λ j. next) topic ≡ taken setup s v.task v.inputs topic
      here =
          ap (λ b. cond b (past_from (s.committed v.task topic) (below next (readable (s.partition (part_of topic v.task))))) []) may.input
          ∙ none_taken (s.committed v.task topic) (v.inputs topic) 0 (readable (s.partition (part_of topic v.task))) (readable_rises (s.partition (part_of topic v.task))) (stands.committed topic may.input) next may.later may.nothing
          ∙ ap (λ b. cond b (past_from (s.committed v.task topic) (below (v.inputs topic) (readable (s.partition (part_of topic v.task))))) []) (sym may.input)

      by : (n : ℕ) (b : Bool) → (n == topic) ≡ b →
          cond (has_topic n (setup.plan.inputs v.task.sub)) (past_from (s.committed v.task n) (below (cond b next (v.inputs n)) (readable (s.partition (part_of n v.task))))) []
          ≡ taken setup s v.task v.inputs n
      by n true e = ap (λ k. taken setup s v.task (λ j. next) k) (eqb-true n topic e) ∙ here ∙ ap (taken setup s v.task v.inputs) (sym (eqb-true n topic e))
      by n false e = refl

  abbrev then_is : (f : ℕ → List Logged) → Outcome PartId Stores Rec
  then_is f = local (network setup.plan) v.task (folds setup s v.task) (batch v.task f v.order)

  pub skipping : Standing setup s (skip_view v topic next)
  skipping = record {
    kept = stands.kept;
    committed = λ n h. committed n (n == topic) refl h;
    stable = λ n h. reached n (n == topic) refl h;
    order = λ n. stands.order n ∙ ap (λ (f : ℕ → List Logged). length (f n)) (sym nothing_taken);
    stores = stands.stores ∙ ap (λ (f : ℕ → List Logged). (then_is f).store) (sym nothing_taken);
    made = λ q. stands.made q ∙ ap (λ (f : ℕ → List Logged). sent_to (network setup.plan) q (then_is f).made) (sym nothing_taken);
    late = stands.late ∙ ap (λ (f : ℕ → List Logged). capped (then_is f).late) (sym nothing_taken);
  }
    where
      committed : (n : ℕ) (b : Bool) → (n == topic) ≡ b → has_topic n (setup.plan.inputs v.task.sub) ≡ true → s.committed v.task n ≤ cond b next (v.inputs n)
      committed n true e h = subst (λ k. s.committed v.task k ≤ next) (sym (eqb-true n topic e)) (omega (arith, stands.committed topic may.input, may.later))
      committed n false e h = stands.committed n h

      reached : (n : ℕ) (b : Bool) → (n == topic) ≡ b → has_topic n (setup.plan.inputs v.task.sub) ≡ true → cond b next (v.inputs n) ≤ stable (s.partition (part_of n v.task))
      reached n true e h = subst (λ k. next ≤ stable (s.partition (part_of k v.task))) (sym (eqb-true n topic e)) may.stable
      reached n false e h = stands.stable n h

pub skipping_stands : SkippingStands
skipping_stands setup journal v topic next net may stands =
    stands_of setup net journal (skip_view v topic next) (skipping setup (at setup journal) v topic next may (standing setup net journal v stands)) (passed setup net journal v stands)
