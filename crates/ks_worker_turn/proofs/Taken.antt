-- What a worker holds when it has taken its places.
use Rattle.std.proofs.Common.{◌≡◌, ◌≤◌, ◌<◌, ℕ, ◌+◌, ◌&&◌, ◌||◌, Bool, true, false, cond, List, [], ◌∷◌, ◌++◌, length, take, refl, sym, ap, subst, ◌∙◌, arith, add-one}
use Rattle.std.specs.Prelude.{not, nat_lt, slice_index_or}
use Rattle.std.specs.List.{All}
use Rattle.std.proofs.Math.Seq.{take-suc}
use Rattle.std.proofs.lemmas.Bool.{ltb-true, ltb-false}
use Rattle.std.proofs.lemmas.List.{take_all}
use Rattle.std.proofs.lemmas.List.Elements.{All-head, All-tail}
use Rattle.ks_record.specs.declared.record.TaskId.{TaskId}
use Rattle.ks_record.specs.declared.assignment.Assignment.{Assignment}
use Rattle.ks_record.specs.Parts.{same_task}
use Rattle.ks_history.specs.declared.journal.Entry.{Entry}
use Rattle.ks_history.specs.declared.journal.Request.TheVariants.{Park}
use Rattle.ks_history.specs.Machine.{TaskPlan}
use Rattle.ks_history.specs.State.{Setup, has_task}
use Rattle.ks_history.proofs.Names.{same_task-is}
use Rattle.ks_standby.specs.declared.replica.Replica.{Replica}
use Rattle.ks_task.specs.declared.task.Task.{Task}
use Rattle.ks_task.specs.Tasks.{task_view}
use Rattle.ks_worker_client.specs.declared.client.ClusterClient.{ClusterClient}
use Rattle.ks_worker_client.specs.Calls.{Later}
use Rattle.ks_worker_state.specs.Gained.{HasGained}
use Rattle.ks_worker_state.proofs.Gains.{gained_none, gained_then}
use Rattle.ks_worker_state.specs.declared.state.WorkerState.{WorkerState}
use Rattle.ks_worker_state.specs.Names.{task_names, replica_names, times, AreHeldOnce}
use Rattle.ks_worker_state.specs.State.{LaterState}
use Rattle.ks_worker_state.specs.Standbys.{IsStandby}
use Rattle.ks_worker_state.proofs.Names.{times-append, times-none, times-some, is_there}
use Rattle.ks_worker_turn.specs.Lists.{HasPut}
use Rattle.ks_worker_turn.specs.Held.{names_held, holds, AreWithout, HasParked, HoldsOneMore, HoldsOnce, HoldsPlaced, AreHeld, HasTakenPlaces}
use Rattle.ks_worker_turn.specs.Places.{is_placed}
use Rattle.ks_worker_turn.proofs.Holding.{replicas_put, tasks_put, times_same, times_other, not_there, has-append}

-- ---- one more of a name
pub one_replica_more : (ts left : List Task) (rs now : List Replica) (t : TaskId) (r : Replica) → r.id ≡ t → left ≡ ts → HasPut rs r now → (u : TaskId) →
    times u (task_names left ++ replica_names now) ≡ times u (t ∷ []) + times u (task_names ts ++ replica_names rs)
one_replica_more ts left rs now t r named same put u =
    let both = replicas_put u rs now r put in
    let name : times u (r.id ∷ []) ≡ times u (t ∷ []) = ap (λ n. times u (n ∷ [])) named in
    let tasks : times u (task_names left) ≡ times u (task_names ts) = ap (λ l. times u (task_names l)) same in
    omega (arith, times-append u (task_names left) (replica_names now), times-append u (task_names ts) (replica_names rs), both, name, tasks)

pub one_task_more : (ts now : List Task) (rs : List Replica) (t : TaskId) (x : Task) → (task_view x).task ≡ t → HasPut ts x now → (u : TaskId) →
    times u (task_names now ++ replica_names rs) ≡ times u (t ∷ []) + times u (task_names ts ++ replica_names rs)
one_task_more ts now rs t x named put u =
    let both = tasks_put u ts now x put in
    let name : times u ((task_view x).task ∷ []) ≡ times u (t ∷ []) = ap (λ n. times u (n ∷ [])) named in
    omega (arith, times-append u (task_names now) (replica_names rs), times-append u (task_names ts) (replica_names rs), both, name)

module _ {W G : Type 0} where
  -- how often it holds a name
  held_times : (s : WorkerState W G) (u : TaskId) → times u (names_held s) ≡ times u (task_names s.tasks.items) + times u (replica_names s.replicas.items)
  held_times s u = times-append u (task_names s.tasks.items) (replica_names s.replicas.items)

  pub one_named : (old new : WorkerState W G) (r t : TaskId) → r ≡ t → HoldsOneMore r old new → HoldsOneMore t old new
  one_named old new r t same h u = h u ∙ ap (λ n. times u (n ∷ []) + times u (names_held old)) same

  -- it is one of the tasks: nothing changes
  pub holds_task : (s : WorkerState W G) (t : TaskId) → AreHeldOnce s.tasks.items s.replicas.items → has_task t (task_names s.tasks.items) ≡ true → HoldsOnce t s s
  holds_task s t once there u = by (same_task u t) refl
    where
      by : (b : Bool) → same_task u t ≡ b → times u (names_held s) ≡ cond b 1 (times u (names_held s))
      by false e = refl
      by true e =
          let some : 1 ≤ times u (task_names s.tasks.items) = times-some u (task_names s.tasks.items) (ap (λ v. has_task v (task_names s.tasks.items)) (same_task-is u t e) ∙ there) in
          omega (arith, held_times s u, once u, some)

  -- the replicas without it, and then one more
  pub holds_again : (old mid : WorkerState W G) (names : List TaskId) (t : TaskId) → has_task t (task_names old.tasks.items) ≡ false → mid.tasks.items ≡ old.tasks.items → AreWithout t old.replicas.items mid.replicas.items →
      ((u : TaskId) → times u names ≡ times u (t ∷ []) + times u (names_held mid)) → (u : TaskId) → times u names ≡ cond (same_task u t) 1 (times u (names_held old))
  holds_again old mid names t none same without more u = by (same_task u t) refl
    where
      tasks : times u (task_names mid.tasks.items) ≡ times u (task_names old.tasks.items)
      tasks = ap (λ l. times u (task_names l)) same

      by : (b : Bool) → same_task u t ≡ b → times u names ≡ cond b 1 (times u (names_held old))
      by true e =
          let free : times u (task_names old.tasks.items) ≡ 0 = times-none u (task_names old.tasks.items) (ap (λ v. has_task v (task_names old.tasks.items)) (same_task-is u t e) ∙ none) in
          let gone : times u (replica_names mid.replicas.items) ≡ 0 = without u ∙ ap (λ b. cond b 0 (times u (replica_names old.replicas.items))) e in
          omega (arith, more u, times_same u t e, held_times mid u, tasks, free, gone)
      by false e =
          let there : times u (replica_names mid.replicas.items) ≡ times u (replica_names old.replicas.items) = without u ∙ ap (λ b. cond b 0 (times u (replica_names old.replicas.items))) e in
          omega (arith, more u, times_other u t e, held_times mid u, held_times old u, tasks, there)

  module _ (a : Assignment) (w : ℕ) where
    -- ---- of the tasks of a topology
    pub placed_start : (s : WorkerState W G) → HoldsPlaced a w [] s s
    placed_start s u = refl

    pub placed_it : (old new : WorkerState W G) (t : TaskId) → is_placed a w t ≡ true → HoldsOnce t old new → HoldsPlaced a w (t ∷ []) old new
    placed_it old new t placed once u = once u ∙ by (same_task u t) refl
      where
        by : (b : Bool) → same_task u t ≡ b → cond b 1 (times u (names_held old)) ≡ cond ((b || false) && is_placed a w u) 1 (times u (names_held old))
        by false e = refl
        by true e = ap (λ p. cond p 1 (times u (names_held old))) (sym (ap (is_placed a w) (same_task-is u t e) ∙ placed))

    pub placed_not : (s : WorkerState W G) (t : TaskId) → is_placed a w t ≡ false → HoldsPlaced a w (t ∷ []) s s
    placed_not s t apart u = by (same_task u t) refl
      where
        by : (b : Bool) → same_task u t ≡ b → times u (names_held s) ≡ cond ((b || false) && is_placed a w u) 1 (times u (names_held s))
        by false e = refl
        by true e = ap (λ p. cond p 1 (times u (names_held s))) (sym (ap (is_placed a w) (same_task-is u t e) ∙ apart))

    pub placed_then : (p q r : WorkerState W G) (xs : List TaskId) (t : TaskId) → HoldsPlaced a w xs p q → HoldsPlaced a w (t ∷ []) q r → HoldsPlaced a w (xs ++ t ∷ []) p r
    placed_then p q r xs t f g u =
        g u ∙ ap (λ n. cond (has_task u (t ∷ []) && is_placed a w u) 1 n) (f u) ∙ join (has_task u xs) (has_task u (t ∷ [])) (is_placed a w u) (times u (names_held p))
        ∙ ap (λ b. cond (b && is_placed a w u) 1 (times u (names_held p))) (sym (has-append u xs (t ∷ [])))
      where
        join : (x y n : Bool) (k : ℕ) → cond (y && n) 1 (cond (x && n) 1 k) ≡ cond ((x || y) && n) 1 k
        join true true true k = refl
        join true true false k = refl
        join true false n k = refl
        join false true true k = refl
        join false true false k = refl
        join false false n k = refl

    -- all that is placed is there
    pub placed_there : (s : WorkerState W G) (ts : List TaskId) → AreHeldOnce s.tasks.items s.replicas.items → AreHeld (is_placed a w) (names_held s) → HoldsPlaced a w ts s s
    placed_there s ts once there u = by (has_task u ts) (is_placed a w u) refl
      where
        by : (x b : Bool) → is_placed a w u ≡ b → times u (names_held s) ≡ cond (x && b) 1 (times u (names_held s))
        by false b e = refl
        by true false e = refl
        by true true e = omega (arith, held_times s u, once u, times-some u (names_held s) (there u e))

    pub placed_is_held : (old new : WorkerState W G) (ts : List TaskId) → HoldsPlaced a w ts old new → (t : TaskId) → has_task t ts ≡ true → is_placed a w t ≡ true → holds new t ≡ true
    placed_is_held old new ts h t there placed =
        let one : times t (names_held new) ≡ 1 = h t ∙ ap (λ b. cond (b && is_placed a w t) 1 (times t (names_held old))) there ∙ ap (λ b. cond b 1 (times t (names_held old))) placed in
        is_there t (names_held new) (omega (arith, one))

    pub unplaced_as_before : (old new : WorkerState W G) (ts : List TaskId) → HoldsPlaced a w ts old new → (t : TaskId) → is_placed a w t ≡ false → times t (names_held new) ≡ times t (names_held old)
    unplaced_as_before old new ts h t apart = h t ∙ by (has_task t ts) (is_placed a w t) apart
      where
        by : (x b : Bool) → b ≡ false → cond (x && b) 1 (times t (names_held old)) ≡ times t (names_held old)
        by false b e = refl
        by true false e = refl
        by true true e = absurd cc

-- a replica's name is that of one of the cluster's tasks
pub known_name : (setup : Setup) (journal : List Entry) (rs : List Replica) (t : TaskId) → All (IsStandby setup journal) rs → has_task t (replica_names rs) ≡ true → has_task t setup.tasks ≡ true
known_name setup journal [] t all there = absurd cc
known_name setup journal (r ∷ rs) t all there = by (same_task t r.id) refl there (λ h. known_name setup journal rs t (All-tail (IsStandby setup journal) r rs all) h)
  where
    by : (b : Bool) → same_task t r.id ≡ b → (b || has_task t (replica_names rs)) ≡ true → (has_task t (replica_names rs) ≡ true → has_task t setup.tasks ≡ true) → has_task t setup.tasks ≡ true
    by true e h others = ap (λ v. has_task v setup.tasks) (same_task-is t r.id e) ∙ (All-head (IsStandby setup journal) r rs all).known
    by false e h others = others h

module _ {W G : Type 0} (plan : W → TaskPlan) where
  -- it took its places in the generation that was its own
  pub taken_again : (tasks : List TaskId) (generation : ℕ) (a : Assignment) (old mid new : WorkerState W G) → (old.member.generation < generation → ⊥) → mid.member.number ≡ old.member.number →
      HoldsPlaced a mid.member.number tasks mid new → HasTakenPlaces tasks generation a old new
  taken_again tasks generation a old mid new same number h = record {
    placed = placed_is_held a old.member.number mid new tasks (subst (λ w. HoldsPlaced a w tasks mid new) number h);
    left = λ newer. absurd (same newer);
    parked = λ newer. absurd (same newer);
  }

  -- and in a newer one, for which it parked what has no place there
  pub taken_anew : (setup : Setup) (journal : List Entry) (tasks : List TaskId) (generation : ℕ) (a : Assignment) (old mid new : WorkerState W G) → All (IsStandby setup journal) old.replicas.items → setup.tasks ≡ tasks →
      old.tasks.items ≡ [] → mid.tasks.items ≡ [] → LaterState plan old mid → Later plan mid.session.client.pass new.session.client.pass →
      HasParked a old.member.number old.member.instance tasks old.session.client.pass mid.session.client.pass old.replicas.items mid.replicas.items →
      HoldsPlaced a mid.member.number tasks mid new → HasTakenPlaces tasks generation a old new
  taken_anew setup journal tasks generation a old mid new known are none left_none l k parked h = record {
    placed = placed_is_held a old.member.number mid new tasks own;
    left = λ newer t apart. not_there t (names_held new) (unplaced_as_before a old.member.number mid new tasks own t apart ∙ gone t apart (has_task t tasks) refl);
    parked = λ newer t held apart.
        let there : has_task t (replica_names old.replicas.items) ≡ true = ap (λ l. has_task t (task_names l ++ replica_names old.replicas.items)) (sym none) ∙ held in
        gained_then old.session.client.pass mid.session.client.pass new.session.client.pass (Park old.member.instance t ∷ []) []
        (parked.parked t (subst (λ l. has_task t l ≡ true) are (known_name setup journal old.replicas.items t known there)) apart there)
        (gained_none plan mid.session.client.pass new.session.client.pass k);
  }
    where
      own : HoldsPlaced a old.member.number tasks mid new
      own = subst (λ w. HoldsPlaced a w tasks mid new) l.number h

      mid_held : (t : TaskId) → times t (names_held mid) ≡ times t (replica_names mid.replicas.items)
      mid_held t = ap (λ l. times t (task_names l ++ replica_names mid.replicas.items)) left_none

      unknown : (t : TaskId) → has_task t tasks ≡ false → times t (replica_names old.replicas.items) ≡ 0
      unknown t e = times-none t (replica_names old.replicas.items) (by (has_task t (replica_names old.replicas.items)) refl)
        where
          by : (b : Bool) → has_task t (replica_names old.replicas.items) ≡ b → b ≡ false
          by false h = refl
          by true h = let there : has_task t tasks ≡ true = subst (λ l. has_task t l ≡ true) are (known_name setup journal old.replicas.items t known h) in sym there ∙ e

      gone : (t : TaskId) → is_placed a old.member.number t ≡ false → (b : Bool) → has_task t tasks ≡ b → times t (names_held mid) ≡ 0
      gone t apart true e =
          mid_held t ∙ parked.kept t ∙ ap (λ b. cond (b && not (is_placed a old.member.number t)) 0 (times t (replica_names old.replicas.items))) e
          ∙ ap (λ b. cond (not b) 0 (times t (replica_names old.replicas.items))) apart
      gone t apart false e =
          mid_held t ∙ parked.kept t ∙ ap (λ b. cond (b && not (is_placed a old.member.number t)) 0 (times t (replica_names old.replicas.items))) e ∙ unknown t e

  -- one or the other
  pub taken_places : (setup : Setup) (journal : List Entry) (tasks : List TaskId) (generation : ℕ) (a : Assignment) (old mid new : WorkerState W G) → All (IsStandby setup journal) old.replicas.items → setup.tasks ≡ tasks →
      (old.member.generation < generation → old.tasks.items ≡ []) → mid.tasks.items ≡ old.tasks.items → LaterState plan old mid → Later plan mid.session.client.pass new.session.client.pass →
      (old.member.generation < generation → HasParked a old.member.number old.member.instance tasks old.session.client.pass mid.session.client.pass old.replicas.items mid.replicas.items) →
      HoldsPlaced a mid.member.number tasks mid new → HasTakenPlaces tasks generation a old new
  taken_places setup journal tasks generation a old mid new known are none same l k parked h = by (nat_lt old.member.generation generation) refl
    where
      by : (b : Bool) → nat_lt old.member.generation generation ≡ b → HasTakenPlaces tasks generation a old new
      by true e =
          let newer = ltb-true old.member.generation generation e in
          taken_anew setup journal tasks generation a old mid new known are (none newer) (same ∙ none newer) l k (parked newer) h
      by false e = taken_again tasks generation a old mid new (λ newer. omega (arith, newer, ltb-false old.member.generation generation e)) l.number h

module _ {W G : Type 0} (plan : W → TaskPlan) where
  -- the next task of a list
  pub placed_next : (old mid new : WorkerState W G) (a : Assignment) (ts : List TaskId) (i : ℕ) (d : TaskId) → i < length ts → LaterState plan old mid → HoldsPlaced a old.member.number (take i ts) old mid →
      HoldsPlaced a mid.member.number (slice_index_or ts i d ∷ []) mid new → HoldsPlaced a old.member.number (take (i + 1) ts) old new
  placed_next old mid new a ts i d lt l f g =
      subst (λ xs. HoldsPlaced a old.member.number xs old new) (sym (take-suc ts i d lt) ∙ ap (λ k. take k ts) (sym (add-one i)))
      (placed_then a old.member.number old mid new (take i ts) (slice_index_or ts i d) f (subst (λ (w : ℕ). HoldsPlaced a w (slice_index_or ts i d ∷ []) mid new) l.number g))

  -- all of a list
  pub placed_whole : (old new : WorkerState W G) (a : Assignment) (ts all : List TaskId) (i : ℕ) → ts ≡ all → length ts ≤ i → HoldsPlaced a old.member.number (take i ts) old new → HoldsPlaced a old.member.number all old new
  placed_whole old new a ts all i are most h = subst (λ xs. HoldsPlaced a old.member.number xs old new) (take_all i ts most ∙ are) h

  -- over what its client did before
  pub taken_from : (tasks : List TaskId) (generation : ℕ) (a : Assignment) (old new : WorkerState W G) (client : ClusterClient W G) → Later plan old.session.client.pass client.pass →
      HasTakenPlaces tasks generation a (record old { session = record old.session { client = client } }) new → HasTakenPlaces tasks generation a old new
  taken_from tasks generation a old new client l h = record {
    placed = h.placed;
    left = h.left;
    parked = λ newer t held apart.
        gained_then old.session.client.pass client.pass new.session.client.pass [] (Park old.member.instance t ∷ []) (gained_none plan old.session.client.pass client.pass l) (h.parked newer t held apart);
  }
