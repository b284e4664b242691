-- A worker begins an epoch, joins the group and is given every task.
use Rattle.std.proofs.Common.{◌≡◌, ℕ, suc, ◌+◌, ◌≤◌, Bool, true, false, cond, ◌&&◌, ◌||◌, List, [], ◌∷◌, ◌++◌, Option, Some, None, refl, sym, ap, ap₂, subst, ◌∙◌, append-nil, arith}
use Rattle.std.specs.Prelude.{◌==◌, nat_le, nat_lt}
use Rattle.std.proofs.lemmas.Bool.{and_from, eq-eqb, le-leb, true≢false, or_left, or_right}
use Rattle.ks_record.specs.declared.record.TaskId.{TaskId}
use Rattle.ks_record.specs.declared.record.PartId.{PartId}
use Rattle.ks_record.specs.declared.assignment.Assignment.{Assignment}
use Rattle.ks_record.specs.declared.assignment.Refused.{Refused}
use Rattle.ks_record.specs.declared.assignment.Refused.TheVariants.{BadAssignment}
use Rattle.ks_record.specs.Parts.{same_task}
use Rattle.ks_history.specs.declared.journal.Request.TheVariants.{Init, Join, Assign}
use Rattle.ks_history.specs.declared.journal.Reply.{Reply}
use Rattle.ks_history.specs.declared.journal.Reply.TheVariants.{Number}
use Rattle.ks_history.specs.declared.transaction.Producer.{Producer}
use Rattle.ks_history.specs.Partition.{count_sent}
use Rattle.ks_history.specs.Machine.{TaskPlan, IsNetwork}
use Rattle.ks_history.specs.State.{State, Setup, has_task, has_number, insert_number, are_once}
use Rattle.ks_history.specs.Step.{refusal, effect, renewed, old_generation, is_place, place_in, owner, places_of, lesser, badly_placed, bad_assignment}
use Rattle.ks_history.specs.History.{are_places, IsHistory}
use Rattle.ks_history.proofs.Names.{same_task-is, same_task-refl}
use Rattle.ks_law_exactly_once.proofs.Refusals.{closed_undecided, closed_waiting}
use Rattle.ks_law_exactly_once.proofs.Quiet.{aborted_waiting}
use Rattle.ks_history.specs.Reads.{status}
use Rattle.ks_cluster.specs.Placed.{PlacementTest, IsGoodAt}
use Rattle.ks_cluster.specs.View.{ClusterView, setup_of, state_of, AddsEntry}
use Rattle.ks_commit.specs.Alone.{IsIdle, IsAlone}
use Rattle.ks_commit.specs.Everything.{at_worker, everything, IsGoodForAll}
use Rattle.ks_commit.specs.Sending.{IsLonger}
use Rattle.ks_commit.specs.Committed.{Started}
use Rattle.ks_commit.proofs.Gaining.{at_it}
use Rattle.ks_commit.proofs.Free.{none_then, now_generation}
use Rattle.ks_commit.proofs.Faith.{once_parts}
use Rattle.ks_commit.proofs.Epochs.{of_past}
use Rattle.ks_commit.proofs.Entries.{later_setup, longer_both, commits_both, new_state, one_commits}

-- ---- all tasks at one worker
has_inserted : (n : ℕ) (ms : List ℕ) → has_number n (insert_number n ms) ≡ true
has_inserted n [] = or_left (n == n) false (eq-eqb n n refl)
has_inserted n (m ∷ ms) = by (n == m) (nat_lt n m) refl (has_inserted n ms)
  where
    by : (a b : Bool) → (n == m) ≡ a → has_number n (insert_number n ms) ≡ true → has_number n (cond a (m ∷ ms) (cond b (n ∷ m ∷ ms) (m ∷ insert_number n ms))) ≡ true
    by true b is h = or_left (n == m) (has_number n ms) is
    by false true is h = or_left (n == n) (has_number n (m ∷ ms)) (eq-eqb n n refl)
    by false false is h = or_right (n == m) (has_number n (insert_number n ms)) h

module _ (w : ℕ) (members : List ℕ) (member : has_number w members ≡ true) where
  placed : (t u : TaskId) → is_place t members (u, w) ≡ same_task t u
  placed t u = ap (λ b. same_task t u && b) member ∙ kept (same_task t u)
    where
      kept : (b : Bool) → b && true ≡ b
      kept true = refl
      kept false = refl

  none_placed : (t : TaskId) (ts : List TaskId) → has_task t ts ≡ false → places_of t members (at_worker w ts) ≡ 0
  none_placed t [] h = refl
  none_placed t (u ∷ us) h = by (same_task t u) refl h (λ g. none_placed t us g)
    where
      by : (b : Bool) → same_task t u ≡ b → b || has_task t us ≡ false → (has_task t us ≡ false → places_of t members (at_worker w us) ≡ 0)
          → cond (is_place t members (u, w)) (suc (places_of t members (at_worker w us))) (places_of t members (at_worker w us)) ≡ 0
      by true is h more = absurd (true≢false h)
      by false is h more = ap (λ b. cond b (suc (places_of t members (at_worker w us))) (places_of t members (at_worker w us))) (placed t u ∙ is) ∙ more h

  placed_once : (t : TaskId) (ts : List TaskId) → are_once ts ≡ true → has_task t ts ≡ true → places_of t members (at_worker w ts) ≡ 1
  placed_once t [] once h = absurd (true≢false (sym h))
  placed_once t (u ∷ us) once h = by (same_task t u) refl h (λ g. placed_once t us (once_parts u us once).1 g)
    where
      by : (b : Bool) → same_task t u ≡ b → b || has_task t us ≡ true → (has_task t us ≡ true → places_of t members (at_worker w us) ≡ 1)
          → cond (is_place t members (u, w)) (suc (places_of t members (at_worker w us))) (places_of t members (at_worker w us)) ≡ 1
      by true is h more =
          ap (λ b. cond b (suc (places_of t members (at_worker w us))) (places_of t members (at_worker w us))) (placed t u ∙ is)
          ∙ ap suc (none_placed t us (subst (λ k. has_task k us ≡ false) (sym (same_task-is t u is)) (once_parts u us once).0))
      by false is h more = ap (λ b. cond b (suc (places_of t members (at_worker w us))) (places_of t members (at_worker w us))) (placed t u ∙ is) ∙ more h

  all_placed : (ts : List TaskId) (active : List (TaskId × ℕ)) → ((t : TaskId) → has_task t ts ≡ true → places_of t members active ≡ 1) → badly_placed ts members active ≡ None
  all_placed [] active h = refl
  all_placed (t ∷ ts) active h =
      ap (λ n. cond (n == 1) (badly_placed ts members active) (Some (lesser t (badly_placed ts members active)))) (h t (or_left (same_task t t) (has_task t ts) (same_task-refl t)))
      ∙ all_placed ts active (λ u g. h u (or_right (same_task u t) (has_task u ts) g))

  pub good_assignment : (ts : List TaskId) → are_once ts ≡ true → bad_assignment ts members (at_worker w ts) ≡ None
  good_assignment ts once =
      ap (λ (o : Option TaskId). elim o as (λ _. Option Refused) [ None ↦ None | Some t ↦ Some (BadAssignment t) ]) (all_placed ts (at_worker w ts) (λ t h. placed_once t ts once h))

  pub its_place : (t : TaskId) (ts : List TaskId) → has_task t ts ≡ true → place_in t members (at_worker w ts) ≡ Some w
  its_place t [] h = absurd (true≢false (sym h))
  its_place t (u ∷ us) h = by (same_task t u) refl h (λ g. its_place t us g)
    where
      by : (b : Bool) → same_task t u ≡ b → b || has_task t us ≡ true → (has_task t us ≡ true → place_in t members (at_worker w us) ≡ Some w) → cond (is_place t members (u, w)) (Some w) (place_in t members (at_worker w us)) ≡ Some w
      by true is h more = ap (λ b. cond b (Some w) (place_in t members (at_worker w us))) (placed t u ∙ is)
      by false is h more = ap (λ b. cond b (Some w) (place_in t members (at_worker w us))) (placed t u ∙ is) ∙ more h

-- the places are tasks of the cluster and its workers
pub places_are : (setup : Setup) (w : ℕ) → w ≤ 16 → (ts : List TaskId) → ((t : TaskId) → has_task t ts ≡ true → has_task t setup.tasks ≡ true) → are_places setup (at_worker w ts) ≡ true
places_are setup w few [] h = refl
places_are setup w few (t ∷ ts) h =
    and_from (has_task t setup.tasks && nat_le w 16) (are_places setup (at_worker w ts))
    (and_from (has_task t setup.tasks) (nat_le w 16) (h t (or_left (same_task t t) (has_task t ts) (same_task-refl t))) (le-leb w 16 few))
    (places_are setup w few ts (λ u g. h u (or_right (same_task u t) (has_task u ts) g)))

-- ---- a new epoch
renewed_idle : (p : Producer) → p.undecided ≡ None → p.waiting ≡ [] → ((renewed p).undecided ≡ None) × ((renewed p).waiting ≡ [])
renewed_idle p none empty = (closed_undecided p false, closed_waiting p ∙ ap (aborted_waiting p) none ∙ empty)

init_idle : (s : State) (w : ℕ) → IsIdle s → IsIdle (effect s (Init w))
init_idle s w idle v = by (v == w)
  where
    by : (b : Bool) → ((cond b (renewed (s.producer w)) (s.producer v)).undecided ≡ None) × ((cond b (renewed (s.producer w)) (s.producer v)).waiting ≡ [])
    by true = renewed_idle (s.producer w) (idle w).0 (idle w).1
    by false = idle v

-- ---- the three calls
module _ {W : Type 0} (plan : W → TaskPlan) (old first second new : ClusterView W) (w epoch generation : ℕ) (a : Assignment) (reply : Reply)
    (few : w ≤ 16) (idle : IsIdle (state_of plan old)) (net : IsNetwork (plan old.work)) (history : IsHistory (setup_of plan old) old.journal) (once : are_once old.tasks ≡ true) (all : a ≡ everything w old.tasks)
    (init : AddsEntry plan old first (Init w) (Number epoch)) (join : AddsEntry plan first second (Join w) (Number generation)) (free : refusal (setup_of plan second) (state_of plan second) (Assign w generation a) ≡ None) (assign : AddsEntry plan second new (Assign w generation a) reply) where
  one : state_of plan first ≡ effect (state_of plan old) (Init w)
  one = new_state plan old first (Init w) (Number epoch) init refl

  two : state_of plan second ≡ effect (effect (state_of plan old) (Init w)) (Join w)
  two = new_state plan first second (Join w) (Number generation) join refl ∙ ap (λ (s : State). effect s (Join w)) one

  its_epoch : epoch ≡ ((state_of plan old).producer w).epoch + 1
  its_epoch = let e : Number epoch ≡ Number (((state_of plan old).producer w).epoch + 1) = init.step in cc

  its_generation : generation ≡ (state_of plan old).generation + 1
  its_generation = let e : Number generation ≡ Number ((state_of plan first).generation + 1) = join.step in let f : (state_of plan first).generation ≡ (state_of plan old).generation = ap (λ (s : State). s.generation) one in omega (arith, number_is generation ((state_of plan first).generation + 1) e, f)
    where
      number_is : (m n : ℕ) → Number m ≡ Number n → m ≡ n
      number_is m n e = cc

  tasks_same : (setup_of plan second).tasks ≡ old.tasks
  tasks_same = ap (λ (setup : Setup). setup.tasks) (later_setup plan first second (record { request = Join w; reply = Number generation } ∷ []) join.journal ∙ later_setup plan old first (record { request = Init w; reply = Number epoch } ∷ []) init.journal)

  three : state_of plan new ≡ effect (effect (effect (state_of plan old) (Init w)) (Join w)) (Assign w generation (everything w old.tasks))
  three = new_state plan second new (Assign w generation a) reply assign free ∙ ap₂ (λ (s : State) (b : Assignment). effect s (Assign w generation b)) two all

  itself : (w == w) ≡ true
  itself = eq-eqb w w refl

  joined : IsLonger old second ((record { request = Init w; reply = Number epoch } ∷ []) ++ (record { request = Join w; reply = Number generation } ∷ []))
  joined = longer_both old first second (record { request = Init w; reply = Number epoch } ∷ []) (record { request = Join w; reply = Number generation } ∷ []) init.journal join.journal

  pub is_started : Started plan old new w
  is_started = record {
    more = ((record { request = Init w; reply = Number epoch } ∷ []) ++ (record { request = Join w; reply = Number generation } ∷ [])) ++ (record { request = Assign w generation a; reply = reply } ∷ []);
    is = longer_both old second new ((record { request = Init w; reply = Number epoch } ∷ []) ++ (record { request = Join w; reply = Number generation } ∷ [])) (record { request = Assign w generation a; reply = reply } ∷ []) joined assign.journal;
    publishing = record {
      own = and_from (w == w) ((w == w) && ((w == w) && true)) itself (and_from (w == w) ((w == w) && true) itself (and_from (w == w) true itself refl));
      commits = omega arith;
    };
    commits = λ t.
        commits_both plan old second ((record { request = Init w; reply = Number epoch } ∷ []) ++ (record { request = Join w; reply = Number generation } ∷ [])) (record { request = Assign w generation a; reply = reply } ∷ []) t joined
        ∙ ap₂ (λ x y. x ++ y)
        (commits_both plan old first (record { request = Init w; reply = Number epoch } ∷ []) (record { request = Join w; reply = Number generation } ∷ []) t init.journal
        ∙ ap₂ (λ x y. x ++ y) (one_commits plan old (Init w) (Number epoch) t refl) (one_commits plan first (Join w) (Number generation) t refl))
        (one_commits plan second (Assign w generation a) reply t free);
    partition = ap (λ (s : State). s.partition) three;
    committed = ap (λ (s : State). s.committed) three;
  }

  pub numbers_none : (q : PartId) → 0 ≡ count_sent w epoch ((state_of plan new).partition q)
  numbers_none q = sym (ap (λ (s : State). count_sent w epoch (s.partition q)) three ∙ of_past (setup_of plan old) old.journal net history w epoch q (omega (arith, its_epoch)))

  pub is_alone : IsAlone (setup_of plan new) (state_of plan new) w epoch generation
  is_alone = record {
    idle = subst IsIdle (sym three) (init_idle (state_of plan old) w idle);
    worker = few;
    epoch = ap (λ (s : State). (s.producer w).epoch) three ∙ ap (λ (p : Producer). p.epoch) (at_it (state_of plan old).producer w (renewed ((state_of plan old).producer w))) ∙ sym its_epoch;
    generation = ap (λ (s : State). s.generation) three ∙ sym its_generation;
    owns = λ t h. ap (λ (s : State). owner s t) three
        ∙ its_place w (insert_number w (state_of plan old).members) (has_inserted w (state_of plan old).members) t old.tasks (ap (has_task t) (sym (ap (λ (setup : Setup). setup.tasks) (later_setup plan second new (record { request = Assign w generation a; reply = reply } ∷ []) assign.journal) ∙ tasks_same)) ∙ h);
  }

-- what the last call asks
pub assign_meets : {W : Type 0} (plan : W → TaskPlan) (old first second : ClusterView W) (w epoch generation : ℕ) (a : Assignment) → w ≤ 16 → a ≡ everything w old.tasks → AddsEntry plan old first (Init w) (Number epoch) → AddsEntry plan first second (Join w) (Number generation)
    → (w ≤ 16) × (are_places (setup_of plan second) a.active ≡ true) × (are_places (setup_of plan second) a.standby ≡ true) × (are_places (setup_of plan second) a.warmup ≡ true)
assign_meets plan old first second w epoch generation a few all init join =
    let same : (setup_of plan second).tasks ≡ old.tasks = ap (λ (setup : Setup). setup.tasks) (later_setup plan first second (record { request = Join w; reply = Number generation } ∷ []) join.journal ∙ later_setup plan old first (record { request = Init w; reply = Number epoch } ∷ []) init.journal) in (
      few,
      ap (λ (b : Assignment). are_places (setup_of plan second) b.active) all ∙ places_are (setup_of plan second) w few old.tasks (λ t h. ap (has_task t) same ∙ h),
      ap (λ (b : Assignment). are_places (setup_of plan second) b.standby) all,
      ap (λ (b : Assignment). are_places (setup_of plan second) b.warmup) all,
    )

-- what the last call asks is granted
pub assign_free : {W : Type 0} (plan : W → TaskPlan) (old first second : ClusterView W) (w epoch generation : ℕ) (a : Assignment) → are_once old.tasks ≡ true → a ≡ everything w old.tasks → AddsEntry plan old first (Init w) (Number epoch) → AddsEntry plan first second (Join w) (Number generation)
    → refusal (setup_of plan second) (state_of plan second) (Assign w generation a) ≡ None
assign_free plan old first second w epoch generation a once all init join =
    let one : state_of plan first ≡ effect (state_of plan old) (Init w) = new_state plan old first (Init w) (Number epoch) init refl in
    let two : state_of plan second ≡ effect (effect (state_of plan old) (Init w)) (Join w) = new_state plan first second (Join w) (Number generation) join refl ∙ ap (λ (s : State). effect s (Join w)) one in
    let same : (setup_of plan second).tasks ≡ old.tasks = ap (λ (setup : Setup). setup.tasks) (later_setup plan first second (record { request = Join w; reply = Number generation } ∷ []) join.journal ∙ later_setup plan old first (record { request = Init w; reply = Number epoch } ∷ []) init.journal) in
    let e : Number generation ≡ Number ((state_of plan first).generation + 1) = join.step in
    let its : generation ≡ (state_of plan first).generation + 1 = cc in
    none_then (old_generation (state_of plan second) generation) (bad_assignment (setup_of plan second).tasks (state_of plan second).members a.active)
    (now_generation (state_of plan second) generation (ap (λ (s : State). s.generation) (new_state plan first second (Join w) (Number generation) join refl) ∙ sym its))
    (ap₂ (λ (ts : List TaskId) (b : Assignment). bad_assignment ts (state_of plan second).members b.active) same all
    ∙ ap (λ (s : State). bad_assignment old.tasks s.members (at_worker w old.tasks)) two
    ∙ good_assignment w (insert_number w (state_of plan old).members) (has_inserted w (state_of plan old).members) old.tasks once)

-- and the assignment is good
pub assign_good : {W : Type 0} (plan : W → TaskPlan) (good : W → PlacementTest) (old first second : ClusterView W) (w epoch generation : ℕ) (a : Assignment)
    → IsGoodForAll (good old.work) (insert_number w (state_of plan old).members) (everything w old.tasks) → a ≡ everything w old.tasks
    → AddsEntry plan old first (Init w) (Number epoch) → AddsEntry plan first second (Join w) (Number generation)
    → IsGoodAt (good second.work) (setup_of plan second) second.journal generation a
assign_good {W} plan good old first second w epoch generation a any all init join =
    let s : State = state_of plan second in
    let held = (status (setup_of plan second) s).held in
    let ends = (status (setup_of plan second) s).ends in
    let one : state_of plan first ≡ effect (state_of plan old) (Init w) = new_state plan old first (Init w) (Number epoch) init refl in
    let two : s ≡ effect (state_of plan first) (Join w) = new_state plan first second (Join w) (Number generation) join refl in
    let e : Number generation ≡ Number ((state_of plan first).generation + 1) = join.step in
    let its : generation ≡ (state_of plan first).generation + 1 = cc in
    let work : second.work ≡ old.work = ap (λ (c : ClusterView W). c.work) join.journal ∙ ap (λ (c : ClusterView W). c.work) init.journal in
    let members : s.members ≡ insert_number w (state_of plan old).members = ap (λ (t : State). t.members) two ∙ ap (λ (t : State). insert_number w t.members) one in
    record {
      seen = second.journal;
      begins = ([], append-nil second.journal);
      generation = ap (λ (t : State). t.generation) two ∙ sym its;
      good = ap (λ (x : W). good x s.members held ends a) work ∙ ap₂ (λ (ms : List ℕ) (b : Assignment). good old.work ms held ends b) members all ∙ any held ends;
    }
