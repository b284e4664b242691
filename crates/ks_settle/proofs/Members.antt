-- The members of a group are workers 0 to 16, so none is left once each of these is removed; and markers change no membership.
use Rattle.std.proofs.Common.{◌≡◌, ◌≤◌, ℕ, ◌+◌, ◌||◌, Bool, true, false, cond, Option, Some, None, List, [], ◌∷◌, refl, sym, ap, subst, ◌∙◌, arith}
use Rattle.std.specs.Prelude.{◌==◌, nat_lt}
use Rattle.std.specs.List.{All}
use Rattle.std.proofs.lemmas.List.Elements.{All-nil, All-cons, All-tail}
use Rattle.std.proofs.lemmas.Bool.{true≢false, eqb-false, and_parts}
use Rattle.ks_record.specs.declared.assignment.Assignment.{Assignment}
use Rattle.ks_record.specs.declared.assignment.Marker.{Marker}
use Rattle.ks_record.specs.declared.assignment.Refused.{Refused}
use Rattle.ks_history.specs.declared.journal.Entry.{Entry}
use Rattle.ks_history.specs.declared.journal.Request.{Request}
use Rattle.ks_history.specs.declared.journal.Request.TheVariants.{Produce, Init, Add, Append, SendOffsets, Decide, MarkNext, Join, Expire, Hold, Probe, Assign, Park, Unpark}
use Rattle.ks_history.specs.declared.partition.Slot.TheVariants.{Mark}
use Rattle.ks_history.specs.State.{State, Setup, start, with_number, grown, has_number, insert_number, without_number}
use Rattle.ks_history.specs.Step.{refusal, effect, state_by, after, can_expire, is_undecided, renewed}
use Rattle.ks_history.specs.declared.journal.Reply.{Reply}
use Rattle.ks_history.specs.Machine.{TaskPlan}
use Rattle.ks_history.specs.History.{state_after, at, Each, IsStep, Meets, IsHistory}
use Rattle.ks_cluster.specs.Placed.{PlacementTest}
use Rattle.ks_cluster.specs.View.{ClusterView, setup_of, state_of, AddsEntry}
use Rattle.ks_commit.specs.Everything.{everything, IsGoodForAll}
use Rattle.ks_commit.specs.Sending.{Marked, writes_marker, all_markers}
use Rattle.ks_commit.proofs.Entries.{new_state, later_state}
use Rattle.ks_settle.specs.Drained.{DrainsOn, drain_worker}

abbrev pub AreWorkers : List ℕ → Type 0
AreWorkers ns = All (λ n. n ≤ 16) ns

with_member : (n : ℕ) (ms : List ℕ) → n ≤ 16 → AreWorkers ms → AreWorkers (insert_number n ms)
with_member n [] few all = All-cons (λ k. k ≤ 16) n [] few (All-nil (λ k. k ≤ 16))
with_member n (m ∷ ms) few all = by (n == m) (nat_lt n m) (with_member n ms few (All-tail (λ k. k ≤ 16) m ms all))
  where
    by : (a b : Bool) → AreWorkers (insert_number n ms) → AreWorkers (cond a (m ∷ ms) (cond b (n ∷ m ∷ ms) (m ∷ insert_number n ms)))
    by true b more = all
    by false true more = All-cons (λ k. k ≤ 16) n (m ∷ ms) few all
    by false false more = All-cons (λ k. k ≤ 16) m (insert_number n ms) (all 0 m (omega arith)) more

without_member : (n : ℕ) (ms : List ℕ) → AreWorkers ms → AreWorkers (without_number n ms)
without_member n [] all = all
without_member n (m ∷ ms) all = by (n == m) (without_member n ms (All-tail (λ k. k ≤ 16) m ms all))
  where
    by : (a : Bool) → AreWorkers (without_number n ms) → AreWorkers (cond a (without_number n ms) (m ∷ without_number n ms))
    by true more = more
    by false more = All-cons (λ k. k ≤ 16) m (without_number n ms) (all 0 m (omega arith)) more

effect_members : (setup : Setup) (s : State) (request : Request) → Meets setup s request → AreWorkers s.members → AreWorkers (effect s request).members
effect_members setup s (Produce p rec) meets all = all
effect_members setup s (Init v) meets all = all
effect_members setup s (Add v e p) meets all = all
effect_members setup s (Append v e number t p recs) meets all = all
effect_members setup s (SendOffsets v e g t offsets order late) meets all = all
effect_members setup s (Decide v e commit) meets all = all
effect_members setup s (MarkNext v) meets all = by_waiting (s.producer v).waiting
  where
    by_waiting : (ms : List Marker) → AreWorkers (elim ms as (λ _. State) [ [] ↦ s | m ∷ rest ↦ record s { partition = grown s.partition m.part (Mark v m.epoch m.commit ∷ []); producer = with_number s.producer v (record (s.producer v) { waiting = rest }) } ]).members
    by_waiting [] = all
    by_waiting (m ∷ rest) = all
effect_members setup s (Join v) meets all = with_member v s.members meets all
effect_members setup s (Expire v) meets all = by_expired (can_expire s v)
  where
    by_expired : (b : Bool) → AreWorkers (cond b (record s { producer = with_number s.producer v (renewed (s.producer v)); members = without_number v s.members; held = with_number s.held v []; generation = s.generation + 1; assignment = None }) s).members
    by_expired true = without_member v s.members all
    by_expired false = all
effect_members setup s (Hold v held) meets all = all
effect_members setup s (Probe v g) meets all = all
effect_members setup s (Park instance t) meets all = all
effect_members setup s (Unpark instance t) meets all = all
effect_members setup s (Assign v g a) meets all = by_assigned s.assignment
  where
    by_assigned : (o : Option Assignment) → AreWorkers (elim o as (λ _. State) [ None ↦ record s { assignment = Some a } | Some b ↦ s ]).members
    by_assigned None = all
    by_assigned (Some b) = all

after_members : (setup : Setup) (s : State) (request : Request) (r : Option Refused) → Meets setup s request → AreWorkers s.members → AreWorkers (state_by s request r).members
after_members setup s request None meets all = effect_members setup s request meets all
after_members setup s request (Some refused) meets all = all

members_from : (setup : Setup) (s : State) (entries : List Entry) → Each IsStep setup s entries → AreWorkers s.members → AreWorkers (state_after setup s entries).members
members_from setup s [] each all = all
members_from setup s (entry ∷ entries) each all =
    members_from setup (after setup s entry.request) entries each.1 (after_members setup s entry.request (refusal setup s entry.request) each.0.meets all)

pub members_few : (setup : Setup) (journal : List Entry) → IsHistory setup journal → AreWorkers (at setup journal).members
members_few setup journal history = members_from setup start journal history.legal (All-nil (λ k. k ≤ 16))

-- ---- each is removed
abbrev pub AreGone : State → ℕ → Type 0
AreGone s i = All (λ n. i ≤ n) s.members

removed_one : (i : ℕ) (ms : List ℕ) → All (λ n. i ≤ n) ms → All (λ n. i + 1 ≤ n) (without_number i ms)
removed_one i [] all = All-nil (λ n. i + 1 ≤ n)
removed_one i (m ∷ ms) all = by (i == m) refl (removed_one i ms (All-tail (λ n. i ≤ n) m ms all))
  where
    by : (b : Bool) → (i == m) ≡ b → All (λ n. i + 1 ≤ n) (without_number i ms) → All (λ n. i + 1 ≤ n) (cond b (without_number i ms) (m ∷ without_number i ms))
    by true e more = more
    by false e more =
        let ne : (i ≡ m → ⊥) = eqb-false i m e in
        let here : i ≤ m = all 0 m (omega arith) in
        All-cons (λ n. i + 1 ≤ n) m (without_number i ms) (omega (arith, ne, here)) more

none_there : (i : ℕ) (ms : List ℕ) → has_number i ms ≡ false → All (λ n. i ≤ n) ms → All (λ n. i + 1 ≤ n) ms
none_there i [] h all = All-nil (λ n. i + 1 ≤ n)
none_there i (m ∷ ms) h all = by (i == m) refl h (λ k. none_there i ms k (All-tail (λ n. i ≤ n) m ms all))
  where
    by : (b : Bool) → (i == m) ≡ b → (b || has_number i ms) ≡ false → (has_number i ms ≡ false → All (λ n. i + 1 ≤ n) ms) → All (λ n. i + 1 ≤ n) (m ∷ ms)
    by true e k more = absurd (true≢false k)
    by false e k more =
        let ne : (i ≡ m → ⊥) = eqb-false i m e in
        let here : i ≤ m = all 0 m (omega arith) in
        All-cons (λ n. i + 1 ≤ n) m ms (omega (arith, ne, here)) (more k)

or_first : (a b : Bool) → (a || b) ≡ false → a ≡ false
or_first true b h = h
or_first false b h = refl

gone_effect : (s : State) (i : ℕ) → AreGone s i → AreGone (effect s (Expire i)) (i + 1)
gone_effect s i gone = by (can_expire s i) refl
  where
    by : (b : Bool) → can_expire s i ≡ b → All (λ n. i + 1 ≤ n) (cond b (record s { producer = with_number s.producer i (renewed (s.producer i)); members = without_number i s.members; held = with_number s.held i []; generation = s.generation + 1; assignment = None }) s).members
    by true is = removed_one i s.members gone
    by false is = none_there i s.members (or_first (has_number i s.members) (is_undecided (s.producer i)) is) gone

pub one_gone : {W : Type 0} (plan : W → TaskPlan) (old new : ClusterView W) (i : ℕ) (reply : Reply) → AddsEntry plan old new (Expire i) reply → AreGone (state_of plan old) i → AreGone (state_of plan new) (i + 1)
one_gone plan old new i reply a gone =
    subst (λ (s : State). AreGone s (i + 1)) (sym (new_state plan old new (Expire i) reply a refl)) (gone_effect (state_of plan old) i gone)

none_left : (i : ℕ) (ms : List ℕ) → 17 ≤ i → All (λ n. i ≤ n) ms → AreWorkers ms → ms ≡ []
none_left i [] many all few = refl
none_left i (m ∷ ms) many all few =
    let low : i ≤ m = all 0 m (omega arith) in
    let high : m ≤ 16 = few 0 m (omega arith) in
    absurd (omega (arith, low, high, many))

pub all_gone : (setup : Setup) (journal : List Entry) (i : ℕ) → IsHistory setup journal → 17 ≤ i → AreGone (at setup journal) i → (at setup journal).members ≡ []
all_gone setup journal i history many gone = none_left i (at setup journal).members many gone (members_few setup journal history)

-- ---- markers
marker_effect : (s : State) (v : ℕ) → (effect s (MarkNext v)).members ≡ s.members
marker_effect s v = by (s.producer v).waiting
  where
    by : (ms : List Marker) → (elim ms as (λ _. State) [ [] ↦ s | m ∷ rest ↦ record s { partition = grown s.partition m.part (Mark v m.epoch m.commit ∷ []); producer = with_number s.producer v (record (s.producer v) { waiting = rest }) } ]).members ≡ s.members
    by [] = refl
    by (m ∷ rest) = refl

marker_after : (s : State) (v : ℕ) (r : Option Refused) → (state_by s (MarkNext v) r).members ≡ s.members
marker_after s v None = marker_effect s v
marker_after s v (Some refused) = refl

one_marker : (setup : Setup) (s : State) (w : ℕ) (request : Request) → writes_marker w request ≡ true → (after setup s request).members ≡ s.members
one_marker setup s w (MarkNext v) h = marker_after s v (refusal setup s (MarkNext v))
one_marker setup s w (Produce p rec) h = absurd cc
one_marker setup s w (Init v) h = absurd cc
one_marker setup s w (Add v e p) h = absurd cc
one_marker setup s w (Append v e number t p recs) h = absurd cc
one_marker setup s w (SendOffsets v e g t offsets order late) h = absurd cc
one_marker setup s w (Decide v e commit) h = absurd cc
one_marker setup s w (Join v) h = absurd cc
one_marker setup s w (Expire v) h = absurd cc
one_marker setup s w (Hold v held) h = absurd cc
one_marker setup s w (Probe v g) h = absurd cc
one_marker setup s w (Assign v g a) h = absurd cc
one_marker setup s w (Park instance t) h = absurd cc
one_marker setup s w (Unpark instance t) h = absurd cc

markers_after : (setup : Setup) (w : ℕ) (s : State) (entries : List Entry) → all_markers w entries ≡ true → (state_after setup s entries).members ≡ s.members
markers_after setup w s [] h = refl
markers_after setup w s (entry ∷ entries) h =
    let both = and_parts (writes_marker w entry.request) (all_markers w entries) h in
    markers_after setup w (after setup s entry.request) entries both.1 ∙ one_marker setup s w entry.request both.0

pub same_members : {W : Type 0} (plan : W → TaskPlan) (old new : ClusterView W) (w : ℕ) → Marked plan old new w → (state_of plan new).members ≡ (state_of plan old).members
same_members plan old new w m =
    ap (λ (s : State). s.members) (later_state plan old new m.more m.is) ∙ markers_after (setup_of plan old) w (state_of plan old) m.more m.own

-- ---- the drain's worker joins a group without members
pub good_alone : {W : Type 0} (plan : W → TaskPlan) (good : W → PlacementTest) (old new : ClusterView W) → DrainsOn 0 old new → (state_of plan new).members ≡ [] →
    IsGoodForAll (good old.work) (drain_worker ∷ []) (everything drain_worker old.tasks) →
    IsGoodForAll (good new.work) (insert_number 16 (state_of plan new).members) (everything 16 new.tasks)
good_alone plan test old new on none good held ends =
    let one = ap (λ ms. insert_number 16 ms) none in
    let moved : IsGoodForAll (test new.work) (drain_worker ∷ []) (everything drain_worker new.tasks) =
    subst (λ (c : ClusterView _). IsGoodForAll (test c.work) (drain_worker ∷ []) (everything drain_worker c.tasks)) (sym on.is) good in
    subst (λ ms. IsGoodForAll (test new.work) ms (everything 16 new.tasks)) (sym one) moved held ends
