-- Where taking in the pending order fails, the counts of a faithful commit don't hold.
use Rattle.std.proofs.Common.{◌≡◌, ℕ, zero, suc, ◌+◌, ◌<◌, ◌≤◌, Bool, true, false, cond, nat_le, nat_lt, List, [], ◌∷◌, ◌++◌, length, refl, sym, ap, ap₂, subst, ◌∙◌, arith, ⊎_elim, length-append}
use Rattle.std.specs.Prelude.{◌==◌, ◌≢◌, ◌⊎◌}
use Rattle.std.proofs.lemmas.Bool.{eq-eqb}
use Rattle.ks_record.specs.declared.record.TaskId.{TaskId}
use Rattle.ks_history.specs.declared.partition.Slot.{Slot}
use Rattle.ks_history.specs.declared.journal.Entry.{Entry}
use Rattle.ks_history.specs.declared.transaction.Pending.{Pending}
use Rattle.ks_history.specs.Partition.{Logged, readable, past_from, below}
use Rattle.ks_history.specs.Machine.{IsNetwork, part_of, has_topic}
use Rattle.ks_history.specs.State.{State, Setup}
use Rattle.ks_history.specs.Faithful.{taken, count_in, pending_offsets, IsFaithfulTask}
use Rattle.ks_history.specs.Follows.{TaskView}
use Rattle.ks_history.specs.History.{at}
use Rattle.ks_law_exactly_once.proofs.Slots.{Rising, past_split}
use Rattle.ks_law_restore.specs.Views.{Stands, with_taken}
use Rattle.ks_law_restore.proofs.Offsets.{readable_rises, below_rises, below_least}
use Rattle.ks_law_restore.proofs.Orders.{count_with}
use Rattle.ks_law_restore.proofs.Standing.{Standing, standing}
use Rattle.ks_law_audit.specs.Laws.{OrderFails, RestFails, ahead}
use Rattle.ks_law_audit.specs.Rested.{run_onto, merged_onto, merged}

-- ---- counts of orders
count_run : (n topic k : ℕ) (order : List (ℕ × ℕ)) → count_in n (run_onto topic k order) ≡ count_in n order + cond (n == topic) k 0
count_run n topic zero order = by (n == topic)
  where
    by : (b : Bool) → count_in n order ≡ count_in n order + cond b 0 0
    by true = omega arith
    by false = omega arith
count_run n topic (suc k) order = by (n == topic) (count_run n topic k (with_taken topic order)) (count_with n topic order)
  where
    by : (b : Bool) → count_in n (run_onto topic k (with_taken topic order)) ≡ count_in n (with_taken topic order) + cond b k 0 → count_in n (with_taken topic order) ≡ count_in n order + cond b 1 0 →
        count_in n (run_onto topic k (with_taken topic order)) ≡ count_in n order + cond b (suc k) 0
    by true e f = omega (arith, e, f)
    by false e f = omega (arith, e, f)

count_onto : (n : ℕ) (order done : List (ℕ × ℕ)) → count_in n (merged_onto done order) ≡ count_in n done + count_in n order
count_onto n [] done = omega arith
count_onto n (run ∷ runs) done = by (n == run.0) (count_onto n runs (run_onto run.0 run.1 done)) (count_run n run.0 run.1 done)
  where
    by : (b : Bool) → count_in n (merged_onto (run_onto run.0 run.1 done) runs) ≡ count_in n (run_onto run.0 run.1 done) + count_in n runs → count_in n (run_onto run.0 run.1 done) ≡ count_in n done + cond b run.1 0 →
        count_in n (merged_onto (run_onto run.0 run.1 done) runs) ≡ count_in n done + cond b (run.1 + count_in n runs) (count_in n runs)
    by true e f = omega (arith, e, f)
    by false e f = omega (arith, e, f)

pub count_merged : (n : ℕ) (order : List (ℕ × ℕ)) → count_in n (merged order) ≡ count_in n order
count_merged n order = let h = count_onto n order [] in omega (arith, h)

-- ---- what is taken up to a later offset
both_ways : (low high : ℕ) (xs : List Logged) → past_from low (below high xs) ≡ below high (past_from low xs)
both_ways low high [] = refl
both_ways low high (x ∷ xs) = by (nat_lt x.offset high) (nat_le low x.offset) refl refl (both_ways low high xs)
  where
    by : (a b : Bool) → nat_lt x.offset high ≡ a → nat_le low x.offset ≡ b → past_from low (below high xs) ≡ below high (past_from low xs) →
        past_from low (cond a (x ∷ below high xs) (below high xs)) ≡ below high (cond b (x ∷ past_from low xs) (past_from low xs))
    by true true g h e = ap (λ c. cond c (x ∷ past_from low (below high xs)) (past_from low (below high xs))) h ∙ ap (λ l. x ∷ l) e ∙ sym (ap (λ c. cond c (x ∷ below high (past_from low xs)) (below high (past_from low xs))) g)
    by true false g h e = ap (λ c. cond c (x ∷ past_from low (below high xs)) (past_from low (below high xs))) h ∙ e
    by false true g h e = e ∙ sym (ap (λ c. cond c (x ∷ below high (past_from low xs)) (below high (past_from low xs))) g)
    by false false g h e = e

split : (low mid high : ℕ) (slots : List Slot) → low ≤ mid → mid ≤ high →
    past_from low (below high (readable slots)) ≡ past_from low (below mid (readable slots)) ++ below high (past_from mid (readable slots))
split low mid high slots g h =
    past_split low mid 0 (below high (readable slots)) g (below_rises high 0 (readable slots) (readable_rises slots))
    ∙ ap₂ (λ a b. past_from low a ++ b) (below_least mid high (readable slots) h) (both_ways mid high (readable slots))

module _ (setup : Setup) (s : State) (p : Pending) (v : TaskView) (stands : Standing setup s v) (same : v.task ≡ p.task) (topic : ℕ) where
  here : count_in topic v.order ≡ length (taken setup s p.task v.inputs topic)
  here = stands.order topic ∙ ap (λ (t : TaskId). length (taken setup s t v.inputs topic)) same

  module _ (input : has_topic topic (setup.plan.inputs p.task.sub) ≡ true) (later : v.inputs topic ≤ pending_offsets s p topic) where
    mine : has_topic topic (setup.plan.inputs v.task.sub) ≡ true
    mine = ap (λ (t : TaskId). has_topic topic (setup.plan.inputs t.sub)) same ∙ input

    low : s.committed p.task topic ≤ v.inputs topic
    low = subst (λ (t : TaskId). s.committed t topic ≤ v.inputs topic) same (stands.committed topic mine)

    lengths : length (taken setup s p.task (pending_offsets s p) topic) ≡ count_in topic v.order + length (below (pending_offsets s p topic) (ahead s v topic))
    lengths =
        ap (λ b. length (cond b (past_from (s.committed p.task topic) (below (pending_offsets s p topic) (readable (s.partition (part_of topic p.task))))) [])) input
        ∙ ap length (split (s.committed p.task topic) (v.inputs topic) (pending_offsets s p topic) (s.partition (part_of topic p.task)) low later)
        ∙ length-append (past_from (s.committed p.task topic) (below (v.inputs topic) (readable (s.partition (part_of topic p.task))))) (below (pending_offsets s p topic) (past_from (v.inputs topic) (readable (s.partition (part_of topic p.task)))))
        ∙ ap₂ (λ a b. a + b)
        (sym (ap (λ b. length (cond b (past_from (s.committed p.task topic) (below (v.inputs topic) (readable (s.partition (part_of topic p.task))))) [])) input) ∙ sym here)
        (ap (λ (t : TaskId). length (below (pending_offsets s p topic) (past_from (v.inputs topic) (readable (s.partition (part_of topic t)))))) (sym same))

more_counted : (topic left : ℕ) (order whole rest : List (ℕ × ℕ)) → 0 < left → merged_onto (run_onto topic left order) rest ≡ merged whole → count_in topic order < count_in topic whole
more_counted topic left order whole rest some is =
    let one : count_in topic (merged_onto (run_onto topic left order) rest) ≡ count_in topic (run_onto topic left order) + count_in topic rest = count_onto topic rest (run_onto topic left order) in
    let two : count_in topic (run_onto topic left order) ≡ count_in topic order + left = count_run topic topic left order ∙ ap (λ b. count_in topic order + cond b left 0) (eq-eqb topic topic refl) in
    let three : count_in topic (merged_onto (run_onto topic left order) rest) ≡ count_in topic whole = ap (count_in topic) is ∙ count_merged topic whole in
    omega (arith, one, two, three, some)

pub order_fails : OrderFails
order_fails setup journal w p v topic left rest net follows same some is =
    ⊎_elim
    (λ (out : has_topic topic (setup.plan.inputs p.task.sub) ≡ false). λ (f : IsFaithfulTask setup (at setup journal) w p).
    let none : length (taken setup (at setup journal) p.task (pending_offsets (at setup journal) p) topic) ≡ 0 =
    ap (λ b. length (cond b (past_from ((at setup journal).committed p.task topic) (below (pending_offsets (at setup journal) p topic) (readable ((at setup journal).partition (part_of topic p.task))))) [])) out in
    absurd (omega (arith, more, f.order topic, none)))
    (λ (h : (v.inputs topic ≤ pending_offsets (at setup journal) p topic) × (below (pending_offsets (at setup journal) p topic) (ahead (at setup journal) v topic) ≡ [])). λ (f : IsFaithfulTask setup (at setup journal) w p).
    by (has_topic topic (setup.plan.inputs p.task.sub)) refl h f)
  where
    more : count_in topic v.order < count_in topic p.order
    more = more_counted topic left v.order p.order rest some is

    by : (b : Bool) → has_topic topic (setup.plan.inputs p.task.sub) ≡ b → (v.inputs topic ≤ pending_offsets (at setup journal) p topic) × (below (pending_offsets (at setup journal) p topic) (ahead (at setup journal) v topic) ≡ []) →
        IsFaithfulTask setup (at setup journal) w p → ⊥
    by true input h f =
        let whole = lengths setup (at setup journal) p v (standing setup net journal v follows) same topic input h.0 in
        let none : length (below (pending_offsets (at setup journal) p topic) (ahead (at setup journal) v topic)) ≡ 0 = ap length h.1 in
        absurd (omega (arith, more, f.order topic, whole, none))
    by false out h f =
        let none : length (taken setup (at setup journal) p.task (pending_offsets (at setup journal) p) topic) ≡ 0 =
        ap (λ b. length (cond b (past_from ((at setup journal).committed p.task topic) (below (pending_offsets (at setup journal) p topic) (readable ((at setup journal).partition (part_of topic p.task))))) [])) out in
        absurd (omega (arith, more, f.order topic, none))

some_length : (xs : List Logged) → xs ≢ [] → 0 < length xs
some_length [] ne = absurd (ne refl)
some_length (x ∷ xs) ne = omega arith

pub rest_fails : RestFails
rest_fails setup journal w p v topic net follows same all input later left f =
    let whole = lengths setup (at setup journal) p v (standing setup net journal v follows) same topic input later in
    let counts : count_in topic v.order ≡ count_in topic p.order = ap (count_in topic) all ∙ count_merged topic p.order in
    omega (arith, some_length (below (pending_offsets (at setup journal) p topic) (ahead (at setup journal) v topic)) left, counts, f.order topic, whole)
