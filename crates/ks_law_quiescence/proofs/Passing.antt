-- What tasks send to a partition, step by step: what was taken there and what waits is what all steps sent.
use Rattle.std.proofs.Common.{◌≡◌, ℕ, ◌+◌, ◌<◌, ◌≤◌, true, false, cond, ◌||◌, List, [], ◌∷◌, map, Option, Some, None, refl, sym, ap, ap₂, subst, ◌∙◌, arith, nat_eq, ◌⊎◌, inl, inr}
use Rattle.std.specs.List.{flat_map}
use Rattle.std.proofs.lemmas.Bool.{eqb-false}
use Rattle.std.proofs.lemmas.Bool.Decides.{Decides-eqb}
use Rattle.ks_record.specs.declared.record.TaskId.{TaskId}
use Rattle.ks_record.specs.Parts.{same_task}
use Rattle.ks_plan.specs.Plan.{Plan}
use Rattle.ks_query.specs.Streams.{Input}
use Rattle.ks_def_runs.specs.Run.{Machine, Outcome, Taken, RunState, Follows, sent_to, local, received, sent, is_from}
use Rattle.ks_def_runs.proofs.Runs.{after, nothing_made, sent_to-append}
use Rattle.ks_def_runs.proofs.Sums.{sum_map, sum_map-append, sum_map-add, sum_map-same, sum_taken, times, by_senders}
use Rattle.ks_def_tasks.specs.Messages.{Place, Item, Store, Rules}
use Rattle.ks_def_tasks.specs.Tasks.{machine, step, inputs_of, empty_store}
use Rattle.ks_def_tasks.proofs.Names.{names, same_task-is}
use Rattle.ks_law_quiescence.specs.Streams.{is_among, with_task, takers, all_waiting}
use Rattle.ks_law_quiescence.proofs.AtRest.{swap_sums}
use Rattle.ks_law_quiescence.proofs.Received.{nothing_begins}
use Rattle.ks_law_quiescence.proofs.Senders.{one_gives}

-- ---- tasks that made a step, each once
module _ (rules : Rules) (p : Plan) where
  abbrev pub net : Machine TaskId Place Store Item
  net = machine rules p

  abbrev pub some_tasks : List TaskId → List (Option TaskId)
  some_tasks us = map (λ u. Some u) us

  among_times : (u : TaskId) (us : List TaskId) → is_among u us ≡ false → times net (Some u) (some_tasks us) ≡ 0
  among_times u [] e = refl
  among_times u (v ∷ vs) e =
      elim (same_task u v) as (λ b. same_task u v ≡ b → (b || is_among u vs) ≡ false → cond {A = ℕ} (same_task v u) 1 0 + times net (Some u) (some_tasks vs) ≡ 0) [
        | true ↦ λ b h. cc
        | false ↦ λ b h.
            let other : same_task v u ≡ false = turned b in
            let rest = among_times u vs h in
            rw other (omega arith)
      ] refl e
    where
      turned : same_task u v ≡ false → same_task v u ≡ false
      turned b = elim (same_task v u) as (λ c. same_task v u ≡ c → c ≡ false) [
        | true ↦ λ c. let is : u ≡ v = sym ((same_task-is v u).0 c) in sym ((same_task-is u v).1 is) ∙ b
        | false ↦ λ c. refl
      ] refl

  found : (us : List TaskId) (v : TaskId) → is_among v us ≡ true → 0 < times net (Some v) (some_tasks us)
  found [] v e = cc
  found (x ∷ us) v e =
      elim (same_task v x) as (λ b. same_task v x ≡ b → (b || is_among v us) ≡ true → 0 < times net (Some v) (some_tasks (x ∷ us))) [
        | true ↦ λ b h.
            let same : same_task x v ≡ true = (same_task-is x v).1 (sym ((same_task-is v x).0 b)) in
            rw same (omega arith)
        | false ↦ λ b h. let rest = found us v h in omega arith
      ] refl e

  -- a task stands at most once
  pub once_at_most : (u : TaskId) (ts : List (Taken TaskId Place Item)) → times net (Some u) (some_tasks (takers rules p ts)) ≤ 1
  once_at_most u [] = omega arith
  once_at_most u (t ∷ ts) =
      let v = net.reader t.place in
      let us = takers rules p ts in
      let rest = once_at_most u ts in
      elim (is_among v us) as (λ b. is_among v us ≡ b → times net (Some u) (some_tasks (cond b us (v ∷ us))) ≤ 1) [
        | true ↦ λ b. rest
        | false ↦ λ b. elim (same_task v u) as (λ c. same_task v u ≡ c → cond {A = ℕ} c 1 0 + times net (Some u) (some_tasks us) ≤ 1) [
          | true ↦ λ c.
              let none : times net (Some u) (some_tasks us) ≡ 0 = ap (λ x. times net (Some x) (some_tasks us)) (sym ((same_task-is v u).0 c)) ∙ among_times v us b in
              omega arith
          | false ↦ λ c. omega arith
        ] refl
      ] refl

  -- a task's own steps
  abbrev pub own_steps : TaskId → List (Taken TaskId Place Item) → ℕ
  own_steps u ts = sum_map (λ t. cond (same_task u (net.reader t.place)) 1 0) ts

  at_least : (u : TaskId) (ts : List (Taken TaskId Place Item)) → 0 < own_steps u ts → 0 < times net (Some u) (some_tasks (takers rules p ts))
  at_least u [] lt = absurd (omega arith)
  at_least u (t ∷ ts) lt =
      let v = net.reader t.place in
      let us = takers rules p ts in
      elim (same_task u v) as (λ c. same_task u v ≡ c → 0 < cond c 1 0 + own_steps u ts → 0 < times net (Some u) (some_tasks (with_task v us))) [
        | true ↦ λ c l. elim (is_among v us) as (λ b. is_among v us ≡ b → 0 < times net (Some u) (some_tasks (cond b us (v ∷ us)))) [
          | true ↦ λ b. subst (λ x. 0 < times net (Some x) (some_tasks us)) (sym ((same_task-is u v).0 c)) (found us v b)
          | false ↦ λ b.
              let same : same_task v u ≡ true = (same_task-is v u).1 (sym ((same_task-is u v).0 c)) in
              rw same (omega arith)
        ] refl
        | false ↦ λ c l.
            let rest = at_least u ts (omega arith) in
            elim (is_among v us) as (λ b. 0 < times net (Some u) (some_tasks (cond b us (v ∷ us)))) [ true ↦ rest | false ↦ omega arith ]
      ] refl lt

  -- and once where it made a step
  pub once_where_taken : (u : TaskId) (ts : List (Taken TaskId Place Item)) → 0 < own_steps u ts → times net (Some u) (some_tasks (takers rules p ts)) ≡ 1
  once_where_taken u ts lt = let most = once_at_most u ts in let least = at_least u ts lt in omega arith

  -- a task that made none is as at the start
  pub untouched : (u : TaskId) (store : Store) (ts : List (Taken TaskId Place Item)) → own_steps u ts ≡ 0 → local net u store ts ≡ nothing_made net store
  untouched u store [] e = refl
  untouched u store (t ∷ ts) e =
      let o = step rules p u store t.place t.item in
      elim (same_task u (net.reader t.place)) as (λ b. cond b 1 0 + own_steps u ts ≡ 0 → cond b (after net o (local net u o.store ts)) (local net u store ts) ≡ nothing_made net store) [
        | true ↦ λ z. absurd (omega arith)
        | false ↦ λ z. untouched u store ts (omega arith)
      ] e

-- ---- a partition, with what one step sends there
module _ (rules : Rules) (p : Plan) (q : Place) (no_input : (records : List Input) → inputs_of rules p records q ≡ []) (share_in : Item → ℕ) (share_of : Taken TaskId Place Item → ℕ)
    (step_sent : (u : TaskId) (st : Store) (t : Taken TaskId Place Item) → sum_map share_in (sent_to (machine rules p) q (step rules p u st t.place t.item).made) ≡ share_of t) where
  -- what a task sent: of its own steps
  all_sent : (u : TaskId) (store : Store) (ts : List (Taken TaskId Place Item)) →
      sum_map share_in (sent_to (machine rules p) q (local (machine rules p) u store ts).made) ≡ sum_map (λ t. cond (same_task u ((machine rules p).reader t.place)) (share_of t) 0) ts
  all_sent u store [] = refl
  all_sent u store (t ∷ ts) =
      let o = step rules p u store t.place t.item in
      elim (same_task u ((machine rules p).reader t.place)) as (λ b.
      sum_map share_in (sent_to (machine rules p) q (cond b (after (machine rules p) o (local (machine rules p) u o.store ts)) (local (machine rules p) u store ts)).made)
      ≡ cond b (share_of t) 0 + sum_map (λ t. cond (same_task u ((machine rules p).reader t.place)) (share_of t) 0) ts) [
        | true ↦
            ap (sum_map share_in) (sent_to-append (machine rules p) q o.made (local (machine rules p) u o.store ts).made)
            ∙ sum_map-append share_in (sent_to (machine rules p) q o.made) _
            ∙ ap₂ (λ a b. a + b) (step_sent u store t) (all_sent u o.store ts)
        | false ↦ all_sent u store ts ∙ zero_sum _
      ]
    where
      zero_sum : (k : ℕ) → k ≡ 0 + k
      zero_sum k = omega arith

  -- over the tasks that made a step
  abbrev tasks_of : List (Taken TaskId Place Item) → List (Option TaskId)
  tasks_of ts = some_tasks rules p (takers rules p ts)

  by_reader : (all : List (Taken TaskId Place Item)) (ts : List (Taken TaskId Place Item)) → ((u : TaskId) → own_steps rules p u ts ≤ own_steps rules p u all) →
      sum_map (λ t. sum_map (λ s. cond (is_from same_task s ((machine rules p).reader t.place)) (share_of t) 0) (tasks_of all)) ts ≡ sum_map share_of ts
  by_reader all [] le = refl
  by_reader all (t ∷ ts) le =
      let u = (machine rules p).reader t.place in
      let mine : own_steps rules p u (t ∷ ts) ≡ 1 + own_steps rules p u ts = ap (λ b. cond b 1 0 + own_steps rules p u ts) ((same_task-is u u).1 refl) in
      let here = le u in
      ap₂ (λ a b. a + b) (one_gives (machine rules p) (Some u) (share_of t) (tasks_of all) (once_where_taken rules p u all (omega arith)))
      (by_reader all ts (λ v. let more = le v in omega arith))

  sent_together : (inputs : Place → List Item) (ts : List (Taken TaskId Place Item)) → sum_map (λ s. sum_map share_in (sent (machine rules p) inputs ts s q)) (tasks_of ts) ≡ sum_map share_of ts
  sent_together inputs ts = of_tasks (takers rules p ts) ∙ swap_sums (λ s t. cond (is_from same_task s ((machine rules p).reader t.place)) (share_of t) 0) (tasks_of ts) ts ∙ by_reader ts ts (λ u. omega arith)
    where
      of_tasks : (us : List TaskId) → sum_map (λ s. sum_map share_in (sent (machine rules p) inputs ts s q)) (some_tasks rules p us)
          ≡ sum_map (λ s. sum_map (λ t. cond (is_from same_task s ((machine rules p).reader t.place)) (share_of t) 0) ts) (some_tasks rules p us)
      of_tasks [] = refl
      of_tasks (u ∷ us) = ap₂ (λ a b. a + b) (all_sent u empty_store ts) (of_tasks us)

  -- what was taken, and what waits, of all tasks that made a step
  pub taken_and_waiting : (records : List Input) (st : RunState TaskId Place Store Item) → Follows (machine rules p) (inputs_of rules p records) st →
      sum_taken (machine rules p) share_in q st.taken + sum_map share_in (all_waiting rules p st q) ≡ sum_map share_of st.taken
  taken_and_waiting records st follows =
      let m = machine rules p in
      let ss = tasks_of st.taken in
      let got = by_senders m (names rules p) share_in q ss st.taken once in
      let waits = waiting_sum (takers rules p st.taken) in
      let each : (s : Option TaskId) → sum_map share_in (received m s q st.taken) + sum_map share_in (st.waiting s q) ≡ sum_map share_in (sent m (inputs_of rules p records) st.taken s q) = λ s.
      sym (ap (sum_map share_in) (follows.flow s q) ∙ sum_map-append share_in (received m s q st.taken) (st.waiting s q)) in
      ap₂ (λ a b. a + b) got waits ∙ sym (sum_map-add (λ s. sum_map share_in (received m s q st.taken)) (λ s. sum_map share_in (st.waiting s q)) ss)
      ∙ sum_map-same _ _ ss each ∙ sent_together (inputs_of rules p records) st.taken
    where
      waiting_sum : (us : List TaskId) → sum_map share_in (flat_map (λ u. st.waiting (Some u) q) us) ≡ sum_map (λ s. sum_map share_in (st.waiting s q)) (some_tasks rules p us)
      waiting_sum [] = refl
      waiting_sum (u ∷ us) = sum_map-append share_in (st.waiting (Some u) q) _ ∙ ap (λ n. sum_map share_in (st.waiting (Some u) q) + n) (waiting_sum us)

      nothing_came : (s : Option TaskId) → sent (machine rules p) (inputs_of rules p records) st.taken s q ≡ [] → received (machine rules p) s q st.taken ≡ []
      nothing_came s e = nothing_begins _ (st.waiting s q) (sym e ∙ follows.flow s q)

      once : (s : Option TaskId) → (times (machine rules p) s (tasks_of st.taken) ≡ 1) ⊎ (received (machine rules p) s q st.taken ≡ [])
      once None = inr (nothing_came None (no_input records))
      once (Some u) = elim (nat_eq (own_steps rules p u st.taken) 0) as (λ b. nat_eq (own_steps rules p u st.taken) 0 ≡ b → (times (machine rules p) (Some u) (tasks_of st.taken) ≡ 1) ⊎ (received (machine rules p) (Some u) q st.taken ≡ [])) [
        | true ↦ λ b. inr (nothing_came (Some u) (ap (λ (o : Outcome Place Store Item). sent_to (machine rules p) q o.made) (untouched rules p u empty_store st.taken ((Decides-eqb _ 0).0 b))))
        | false ↦ λ b. let ne = eqb-false (own_steps rules p u st.taken) 0 b in inl (once_where_taken rules p u st.taken (omega arith))
      ] refl
