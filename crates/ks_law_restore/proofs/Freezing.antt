-- What a task hands to a transaction is what the transaction needs to commit it; and a task that has taken nothing.
use Rattle.std.proofs.Common.{◌≡◌, ℕ, ◌≤◌, Bool, true, false, cond, ◌||◌, ◌&&◌, List, [], ◌∷◌, length, map, inl, refl, sym, ap, subst, ◌∙◌, arith, nat_le}
use Rattle.std.specs.Prelude.{◌==◌}
use Rattle.std.proofs.lemmas.Bool.{and_from, eqb-true, eq-eqb, le-leb, or_right}
use Rattle.std.proofs.lemmas.List.Sorted.{IsPermutation-refl}
use Rattle.std.specs.List.Sorted.{IsPermutation}
use Rattle.ks_record.specs.declared.record.PartId.{PartId}
use Rattle.ks_record.specs.declared.record.TaskId.{TaskId}
use Rattle.ks_record.specs.Records.{Record as Rec}
use Rattle.ks_def_runs.specs.Bytes.{empty_store}
use Rattle.ks_def_runs.specs.Run.{Outcome, sent_to, local}
use Rattle.ks_history.specs.Partition.{Logged, stable, readable, recs, past_from, below}
use Rattle.ks_history.specs.Machine.{Stores, latest, network, part_of, has_topic, batch}
use Rattle.ks_history.specs.State.{State, Setup, has_task, offset_in}
use Rattle.ks_history.specs.Faithful.{fold as fold_of, folds, taken, outcome, capped, pending_offsets}
use Rattle.ks_history.specs.Follows.{TaskView}
use Rattle.ks_history.specs.History.{at, are_offsets, names_topic}
use Rattle.ks_history.proofs.Histories.{stable-le}
use Rattle.ks_law_exactly_once.proofs.Slots.{nothing_between}
use Rattle.ks_law_restore.specs.Laws.{FrozenIsWork, FreshStands}
use Rattle.ks_law_restore.specs.Views.{WorkView, pending_work, IsFrozen, IsWork, recs_at, are_outputs, are_topics_once}
use Rattle.ks_law_restore.proofs.Standing.{Standing, standing, taken_same}

-- ---- offsets by topic
pub offset_named : (f : ℕ → ℕ) (old topic : ℕ) (topics : List ℕ) → offset_in old topic (map (λ n. (n, f n)) topics) ≡ cond (has_topic topic topics) (f topic) old
offset_named f old topic [] = refl
offset_named f old topic (n ∷ ns) = by (topic == n) refl (offset_named f old topic ns)
  where
    by : (b : Bool) → (topic == n) ≡ b → offset_in old topic (map (λ n. (n, f n)) ns) ≡ cond (has_topic topic ns) (f topic) old →
        cond b (f n) (offset_in old topic (map (λ n. (n, f n)) ns)) ≡ cond (b || has_topic topic ns) (f topic) old
    by true is e = ap f (sym (eqb-true topic n is))
    by false is e = e

names_named : (f : ℕ → ℕ) (topic : ℕ) (topics : List ℕ) → names_topic topic (map (λ n. (n, f n)) topics) ≡ has_topic topic topics
names_named f topic [] = refl
names_named f topic (n ∷ ns) = by (topic == n) (names_named f topic ns)
  where
    by : (b : Bool) → names_topic topic (map (λ n. (n, f n)) ns) ≡ has_topic topic ns → cond b true (names_topic topic (map (λ n. (n, f n)) ns)) ≡ (b || has_topic topic ns)
    by true e = refl
    by false e = e

firsts : (f : ℕ → ℕ) (topics : List ℕ) → map (λ (o : ℕ × ℕ). o.0) (map (λ n. (n, f n)) topics) ≡ topics
firsts f [] = refl
firsts f (n ∷ ns) = ap (λ l. n ∷ l) (firsts f ns)

once_parts : (b c : Bool) → cond b false c ≡ true → (b ≡ false) × (c ≡ true)
once_parts true c e = absurd cc
once_parts false c e = (refl, e)

offsets_fit : (setup : Setup) (s : State) (t : TaskId) (f : ℕ → ℕ) → ((topic : ℕ) → has_topic topic (setup.plan.inputs t.sub) ≡ true → f topic ≤ length (s.partition (part_of topic t))) →
    (topics : List ℕ) → ((topic : ℕ) → has_topic topic topics ≡ true → has_topic topic (setup.plan.inputs t.sub) ≡ true) → are_topics_once topics ≡ true → are_offsets setup s t (map (λ n. (n, f n)) topics) ≡ true
offsets_fit setup s t f within [] those once = refl
offsets_fit setup s t f within (n ∷ ns) those once =
    let parts : (has_topic n ns ≡ false) × (are_topics_once ns ≡ true) = once_parts (has_topic n ns) (are_topics_once ns) once in
    let here : has_topic n (setup.plan.inputs t.sub) ≡ true = those n (ap (λ b. b || has_topic n ns) (eq-eqb n n refl)) in
    ap (λ b. cond b false ((has_topic n (setup.plan.inputs t.sub) && nat_le (f n) (length (s.partition (part_of n t)))) && are_offsets setup s t (map (λ n. (n, f n)) ns))) (names_named f n ns ∙ parts.0)
    ∙ and_from (has_topic n (setup.plan.inputs t.sub) && nat_le (f n) (length (s.partition (part_of n t)))) (are_offsets setup s t (map (λ n. (n, f n)) ns))
    (and_from (has_topic n (setup.plan.inputs t.sub)) (nat_le (f n) (length (s.partition (part_of n t)))) here (le-leb (f n) (length (s.partition (part_of n t))) (within n here)))
    (offsets_fit setup s t f within ns (λ topic h. those topic (or_right (topic == n) _ h)) parts.1)

-- ---- frozen work
-- the work of a view, with these outputs
abbrev pub work_with : Setup → TaskView → List (PartId × List Rec) → WorkView
work_with setup v outputs = record { task = v.task; outputs = outputs; offsets = map (λ topic. (topic, v.inputs topic)) (setup.plan.inputs v.task.sub); order = v.order; late = v.late }

pub frozen_is : (setup : Setup) (v : TaskView) (f : WorkView) → IsFrozen setup.plan v f → f ≡ work_with setup v f.outputs
frozen_is setup v f frozen = λ i. record { task = frozen.task i; outputs = f.outputs; offsets = frozen.offsets i; order = frozen.order i; late = frozen.late i }

module _ (setup : Setup) (s : State) (v : TaskView) (outputs : List (PartId × List Rec)) where
  pub offset_is : (topic : ℕ) → has_topic topic (setup.plan.inputs v.task.sub) ≡ true → pending_offsets s (pending_work (work_with setup v outputs)) topic ≡ v.inputs topic
  offset_is topic h = offset_named v.inputs (s.committed v.task topic) topic (setup.plan.inputs v.task.sub) ∙ ap (λ b. cond b (v.inputs topic) (s.committed v.task topic)) h

  pub taken_is : taken setup s v.task (pending_offsets s (pending_work (work_with setup v outputs))) ≡ taken setup s v.task v.inputs
  taken_is = taken_same setup s v.task (pending_offsets s (pending_work (work_with setup v outputs))) v.inputs offset_is

  pub outcome_is : outcome setup s v.task (pending_offsets s (pending_work (work_with setup v outputs))) v.order ≡ outcome setup s v.task v.inputs v.order
  outcome_is = ap (λ (f : ℕ → List Logged). local (network setup.plan) v.task (folds setup s v.task) (batch v.task f v.order)) taken_is

  module _ (stands : Standing setup s v) where
    committed_named : (topic : ℕ) (b : Bool) → has_topic topic (setup.plan.inputs v.task.sub) ≡ b → s.committed v.task topic ≤ cond b (v.inputs topic) (s.committed v.task topic)
    committed_named topic true h = stands.committed topic h
    committed_named topic false h = omega arith

    pub is_work : ((q : PartId) → recs_at q outputs ≡ v.made q) → are_outputs outputs ≡ true → has_task v.task setup.tasks ≡ true → are_topics_once (setup.plan.inputs v.task.sub) ≡ true → IsWork setup s (work_with setup v outputs)
    is_work out once task topics = record {
      task = task;
      offsets = offsets_fit setup s v.task v.inputs (λ topic h. omega (arith, stands.stable topic h, stable-le (s.partition (part_of topic v.task)))) (setup.plan.inputs v.task.sub) (λ topic h. h) topics;
      inputs = subst (IsPermutation (setup.plan.inputs v.task.sub)) (sym (firsts v.inputs (setup.plan.inputs v.task.sub))) (IsPermutation-refl (setup.plan.inputs v.task.sub));
      committed = λ topic. subst (λ n. s.committed v.task topic ≤ n) (sym (offset_named v.inputs (s.committed v.task topic) topic (setup.plan.inputs v.task.sub))) (committed_named topic (has_topic topic (setup.plan.inputs v.task.sub)) refl);
      stable = λ topic h. subst (λ n. n ≤ stable (s.partition (part_of topic v.task))) (sym (offset_is topic h)) (stands.stable topic h);
      order = λ topic. stands.order topic ∙ ap (λ (f : ℕ → List Logged). length (f topic)) (sym taken_is);
      made = λ q. ap (λ (o : Outcome PartId Stores Rec). sent_to (network setup.plan) q o.made) outcome_is ∙ sym (stands.made q) ∙ sym (out q);
      late = ap (λ (o : Outcome PartId Stores Rec). capped o.late) outcome_is ∙ sym stands.late;
      once = once;
    }

pub frozen_is_work : FrozenIsWork
frozen_is_work setup journal v f net stands frozen task topics =
    subst (IsWork setup (at setup journal)) (sym (frozen_is setup v f frozen))
    (is_work setup (at setup journal) v f.outputs (standing setup net journal v stands) frozen.outputs frozen.once task topics)

-- ---- nothing taken
pub fresh_stands : FreshStands
fresh_stands setup journal t committed decided_none = (
  record {
    kept = λ topic h. sym (committed topic h);
    committed = λ topic h. omega (arith, committed topic h);
    stable = λ topic h. omega arith;
    order = λ topic. nothing topic (has_topic topic (setup.plan.inputs t.sub)) refl;
    past = λ topic h. ap (below 0) (decided_none topic h) ∙ sym (decided_none topic h);
    reached = λ topic h. inl (omega arith);
    stores = λ topic h. sym (ap (λ b. cond b (fold_of (at setup journal) (part_of topic t)) empty_store) h ∙ ap (λ (d : List Logged). latest (recs d)) (decided_none topic h));
    made = λ q. refl;
    late = omega arith;
  },
  λ topic h. refl,
)
  where
    nothing : (topic : ℕ) (b : Bool) → has_topic topic (setup.plan.inputs t.sub) ≡ b →
        0 ≡ length (cond b (past_from ((at setup journal).committed t topic) (below 0 (readable ((at setup journal).partition (part_of topic t))))) [])
    nothing topic true h = ap length (sym (nothing_between ((at setup journal).committed t topic) 0 (readable ((at setup journal).partition (part_of topic t))) (sym (committed topic h))))
    nothing topic false h = refl
