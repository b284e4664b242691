-- The outputs and offsets of a frozen task are of the cluster.
use Rattle.std.proofs.Common.{◌≡◌, ◌≢◌, ℕ, ◌≤◌, Bool, true, false, not, cond, ◌&&◌, ◌||◌, List, [], ◌∷◌, ◌++◌, length, map, nat_le, refl, sym, ap, subst, ◌∙◌}
use Rattle.std.specs.Prelude.{◌==◌}
use Rattle.std.specs.List.{All}
use Rattle.std.proofs.lemmas.Bool.{and_parts, and_from, true≢false, eq-eqb, le-leb, or_right}
use Rattle.std.proofs.lemmas.List.Elements.{All-nil, All-cons}
use Rattle.ks_record.specs.Records.{Record as Rec}
use Rattle.ks_record.specs.declared.record.PartId.{PartId}
use Rattle.ks_record.specs.declared.record.TaskId.{TaskId}
use Rattle.ks_record.specs.Parts.{same_part}
use Rattle.ks_history.specs.declared.journal.Entry.{Entry}
use Rattle.ks_history.specs.Machine.{part_of, has_topic}
use Rattle.ks_history.specs.State.{State, Setup, IsPart, has_task}
use Rattle.ks_history.specs.Follows.{TaskView}
use Rattle.ks_history.specs.History.{at, are_offsets, names_topic}
use Rattle.ks_history.proofs.Names.{same_part-refl}
use Rattle.ks_law_restore.specs.Views.{WorkView, IsFrozen, recs_at, names_part, is_empty, are_outputs, are_topics_once}
use Rattle.ks_law_restore.proofs.Freezing.{frozen_is}
use Rattle.ks_law_commit.specs.Held.{IsHeld}
use Rattle.ks_commit.specs.Committed.{IsOfCluster}
use Rattle.ks_worker_state.specs.Tasks.{MakesInside}

-- ---- outputs
filled : (b c : Bool) (l : List Rec) → cond b false (not (is_empty l) && c) ≡ true → (not (is_empty l) ≡ true) × (c ≡ true)
filled true c l e = absurd (true≢false (sym e))
filled false c l e = and_parts (not (is_empty l)) c e

rest_nothing : (xs ys : List Rec) → xs ++ ys ≡ [] → ys ≡ []
rest_nothing [] ys e = e
rest_nothing (x ∷ xs) ys e = absurd cc

here : (l rest : List Rec) (b : Bool) → b ≡ true → not (is_empty l) ≡ true → cond b (l ++ rest) rest ≢ []
here [] rest b same e none = absurd (true≢false (sym e))
here (x ∷ xs) rest b same e none = let g : x ∷ (xs ++ rest) ≡ [] = ap (λ y. cond y ((x ∷ xs) ++ rest) rest) (sym same) ∙ none in absurd cc

there : (l rest : List Rec) (b : Bool) → rest ≢ [] → cond b (l ++ rest) rest ≢ []
there l rest true more none = more (rest_nothing l rest none)
there l rest false more none = more none

-- what holds of each partition with records holds of each output's
pub outputs_are : (P : PartId → Type 0) (outs : List (PartId × List Rec)) → are_outputs outs ≡ true → ((q : PartId) → recs_at q outs ≢ [] → P q) → All (λ (out : PartId × List Rec). P out.0) outs
outputs_are P [] once some = All-nil (λ (out : PartId × List Rec). P out.0)
outputs_are P (out ∷ outs) once some =
    let parts = filled (names_part out.0 outs) (are_outputs outs) out.1 once in
    All-cons (λ (o : PartId × List Rec). P o.0) out outs (some out.0 (here out.1 (recs_at out.0 outs) (same_part out.0 out.0) (same_part-refl out.0) parts.0))
    (outputs_are P outs parts.1 (λ q more. some q (there out.1 (recs_at q outs) (same_part q out.0) more)))

-- ---- offsets
names_named : (f : ℕ → ℕ) (topic : ℕ) (topics : List ℕ) → names_topic topic (map (λ n. (n, f n)) topics) ≡ has_topic topic topics
names_named f topic [] = refl
names_named f topic (n ∷ ns) = by (topic == n) (names_named f topic ns)
  where
    by : (b : Bool) → names_topic topic (map (λ n. (n, f n)) ns) ≡ has_topic topic ns → cond b true (names_topic topic (map (λ n. (n, f n)) ns)) ≡ (b || has_topic topic ns)
    by true e = refl
    by false e = e

once_parts : (b c : Bool) → cond b false c ≡ true → (b ≡ false) × (c ≡ true)
once_parts true c e = absurd cc
once_parts false c e = (refl, e)

pub offsets_fit : (setup : Setup) (s : State) (t : TaskId) (f : ℕ → ℕ) → ((topic : ℕ) → has_topic topic (setup.plan.inputs t.sub) ≡ true → f topic ≤ length (s.partition (part_of topic t))) →
    (topics : List ℕ) → ((topic : ℕ) → has_topic topic topics ≡ true → has_topic topic (setup.plan.inputs t.sub) ≡ true) → are_topics_once topics ≡ true → are_offsets setup s t (map (λ n. (n, f n)) topics) ≡ true
offsets_fit setup s t f within [] those once = refl
offsets_fit setup s t f within (n ∷ ns) those once =
    let parts : (has_topic n ns ≡ false) × (are_topics_once ns ≡ true) = once_parts (has_topic n ns) (are_topics_once ns) once in
    let own : has_topic n (setup.plan.inputs t.sub) ≡ true = those n (ap (λ b. b || has_topic n ns) (eq-eqb n n refl)) in
    ap (λ b. cond b false ((has_topic n (setup.plan.inputs t.sub) && nat_le (f n) (length (s.partition (part_of n t)))) && are_offsets setup s t (map (λ n. (n, f n)) ns))) (names_named f n ns ∙ parts.0)
    ∙ and_from (has_topic n (setup.plan.inputs t.sub) && nat_le (f n) (length (s.partition (part_of n t)))) (are_offsets setup s t (map (λ n. (n, f n)) ns))
    (and_from (has_topic n (setup.plan.inputs t.sub)) (nat_le (f n) (length (s.partition (part_of n t)))) own (le-leb (f n) (length (s.partition (part_of n t))) (within n own)))
    (offsets_fit setup s t f within ns (λ topic h. those topic (or_right (topic == n) _ h)) parts.1)

-- ---- the whole
pub of_cluster : (setup : Setup) (journal : List Entry) (w g last : ℕ) (v : TaskView) (f : WorkView) → are_topics_once (setup.plan.inputs v.task.sub) ≡ true → IsHeld setup journal w g last v → MakesInside setup v → IsFrozen setup.plan v f →
    IsOfCluster setup (at setup journal) f
of_cluster setup journal w g last v f once held inside frozen = record {
  task = subst (λ (t : TaskId). has_task t setup.tasks ≡ true) (sym frozen.task) held.known;
  offsets = subst (λ (h : WorkView). are_offsets setup (at setup journal) h.task h.offsets ≡ true) (sym (frozen_is setup v f frozen))
      (offsets_fit setup (at setup journal) v.task v.inputs held.within (setup.plan.inputs v.task.sub) (λ n h. h) once);
  parts = outputs_are (IsPart setup) f.outputs frozen.once (λ q some. inside q (λ e. some (frozen.outputs q ∙ e)));
}
