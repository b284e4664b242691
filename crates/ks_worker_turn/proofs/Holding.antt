-- What a worker holds while it parks replicas and takes its places.
use Rattle.std.proofs.Common.{◌≡◌, ◌≤◌, ◌<◌, ℕ, zero, suc, ◌+◌, ◌&&◌, ◌||◌, Bool, true, false, cond, List, [], ◌∷◌, ◌++◌, length, map, take, get_or, refl, sym, ap, subst, ◌∙◌, arith, add-one}
use Rattle.std.specs.Prelude.{not, slice_index_or}
use Rattle.std.specs.List.{remove}
use Rattle.std.proofs.Math.Seq.{take-suc}
use Rattle.std.proofs.lemmas.List.{take_all}
use Rattle.ks_record.specs.declared.record.TaskId.{TaskId}
use Rattle.ks_record.specs.declared.assignment.Assignment.{Assignment}
use Rattle.ks_record.specs.Parts.{same_task}
use Rattle.ks_history.specs.declared.journal.Entry.{Entry}
use Rattle.ks_history.specs.declared.journal.Request.TheVariants.{Park}
use Rattle.ks_history.specs.declared.journal.Reply.{Reply}
use Rattle.ks_history.specs.Machine.{TaskPlan}
use Rattle.ks_history.specs.State.{has_task}
use Rattle.ks_history.proofs.Names.{same_task-is, same_task-refl}
use Rattle.ks_growing.specs.Passes.{PassView}
use Rattle.ks_shared.specs.declared.state.Frame.{Frame}
use Rattle.ks_standby.specs.declared.replica.Replica.{Replica}
use Rattle.ks_task.specs.declared.task.Task.{Task}
use Rattle.ks_task.specs.Tasks.{task_view}
use Rattle.ks_worker_client.specs.Calls.{Later, Wrote}
use Rattle.ks_worker_state.specs.Gained.{HasGained}
use Rattle.ks_worker_state.proofs.Gains.{gained_none, gained_one, gained_then}
use Rattle.ks_worker_state.specs.Names.{task_names, replica_names, times, AreHeldOnce}
use Rattle.ks_worker_state.specs.declared.state.WorkerState.{WorkerState}
use Rattle.ks_worker_state.specs.State.{LaterState}
use Rattle.ks_worker_state.proofs.Names.{times-append, times-none, times-some, is_there, times-insert}
use Rattle.ks_worker_turn.specs.Lists.{HasPut, HasTaken}
use Rattle.ks_worker_turn.specs.Held.{AreWithout, HasParkedOne, HasParked}
use Rattle.ks_worker_turn.specs.Places.{is_placed}

-- ---- tests
pub has-append : (t : TaskId) (xs ys : List TaskId) → has_task t (xs ++ ys) ≡ (has_task t xs || has_task t ys)
has-append t [] ys = refl
has-append t (x ∷ xs) ys = by (same_task t x) (has-append t xs ys)
  where
    by : (b : Bool) → has_task t (xs ++ ys) ≡ (has_task t xs || has_task t ys) → (b || has_task t (xs ++ ys)) ≡ ((b || has_task t xs) || has_task t ys)
    by true e = refl
    by false e = e

-- one name alone
pub times_one : (t u : TaskId) → times t (u ∷ []) ≡ cond (same_task t u) 1 0
times_one t u = omega arith

pub times_same : (t u : TaskId) → same_task t u ≡ true → times t (u ∷ []) ≡ 1
times_same t u e = times_one t u ∙ ap (λ b. cond b 1 0) e

pub times_other : (t u : TaskId) → same_task t u ≡ false → times t (u ∷ []) ≡ 0
times_other t u e = times_one t u ∙ ap (λ b. cond b 1 0) e

pub not_there : (t : TaskId) (xs : List TaskId) → times t xs ≡ 0 → has_task t xs ≡ false
not_there t xs none = by (has_task t xs) refl
  where
    by : (b : Bool) → has_task t xs ≡ b → b ≡ false
    by false e = refl
    by true e = absurd (omega (arith, none, times-some t xs e))

-- ---- lists with one more, or one less
module _ {A : Type 0} (name : A → TaskId) (t : TaskId) where
  times_put : (old new : List A) (x : A) → HasPut old x new → times t (map name new) ≡ times t (name x ∷ []) + times t (map name old)
  times_put old new x h = ap (λ l. times t (map name l)) h.is ∙ times-insert name t old h.place x

  times-remove : (xs : List A) (i : ℕ) (d : A) → i < length xs → times t (map name xs) ≡ times t (name (get_or xs i d) ∷ []) + times t (map name (remove xs i))
  times-remove [] i d lt = absurd (omega (arith, lt))
  times-remove (y ∷ xs) zero d lt = omega arith
  times-remove (y ∷ xs) (suc i) d lt = omega (arith, times-remove xs i d (omega (arith, lt)))

  times_taken : (old new : List A) (x : A) → HasTaken old x new → times t (map name old) ≡ times t (name x ∷ []) + times t (map name new)
  times_taken old new x h =
      times-remove old h.place x h.within
      ∙ ap (λ y. times t (name y ∷ []) + times t (map name (remove old h.place))) (sym h.taken)
      ∙ ap (λ l. times t (name x ∷ []) + times t (map name l)) (sym h.is)

module _ (u : TaskId) where
  pub replicas_put : (old new : List Replica) (r : Replica) → HasPut old r new → times u (replica_names new) ≡ times u (r.id ∷ []) + times u (replica_names old)
  replicas_put old new r h = times_put (λ (x : Replica). x.id) u old new r h

  pub replicas_taken : (old new : List Replica) (r : Replica) → HasTaken old r new → times u (replica_names old) ≡ times u (r.id ∷ []) + times u (replica_names new)
  replicas_taken old new r h = times_taken (λ (x : Replica). x.id) u old new r h

  pub tasks_put : (old new : List Task) (t : Task) → HasPut old t new → times u (task_names new) ≡ times u ((task_view t).task ∷ []) + times u (task_names old)
  tasks_put old new t h = times_put (λ (x : Task). (task_view x).task) u old new t h

-- ---- none of a task is left
pub without_taken : (t : TaskId) (ts : List Task) (was now : List Replica) (r : Replica) → r.id ≡ t → HasTaken was r now → AreHeldOnce ts was → AreWithout t was now
without_taken t ts was now r named taken once u = by (same_task u t) refl
  where
    both : times u (replica_names was) ≡ times u (t ∷ []) + times u (replica_names now)
    both = replicas_taken u was now r taken ∙ ap (λ n. times u (n ∷ []) + times u (replica_names now)) named

    by : (b : Bool) → same_task u t ≡ b → times u (replica_names now) ≡ cond b 0 (times u (replica_names was))
    by true e = omega (arith, both, times_same u t e, once u)
    by false e = omega (arith, both, times_other u t e)

pub without_none : (t : TaskId) (was now : List Replica) → has_task t (replica_names was) ≡ false → now ≡ was → AreWithout t was now
without_none t was now none same u = by (same_task u t) refl
  where
    by : (b : Bool) → same_task u t ≡ b → times u (replica_names now) ≡ cond b 0 (times u (replica_names was))
    by true e = ap (λ l. times u (replica_names l)) same ∙ times-none u (replica_names was) (ap (λ v. has_task v (replica_names was)) (same_task-is u t e) ∙ none)
    by false e = ap (λ l. times u (replica_names l)) same

-- no replica of it stands there any more
pub is_without : (t u : TaskId) (was now : List Replica) → u ≡ t → AreWithout t was now → has_task u (replica_names now) ≡ false
is_without t u was now same w =
    not_there u (replica_names now)
    (w u ∙ ap (λ b. cond b 0 (times u (replica_names was))) (ap (λ v. same_task v t) same ∙ same_task-refl t))

-- ---- parked
module _ {W : Type 0} (plan : W → TaskPlan) (instance : ℕ) where
  pub parked_none : (t : TaskId) (old new : PassView Entry (Frame W)) (was now : List Replica) → has_task t (replica_names was) ≡ false → now ≡ was → HasParkedOne instance t old new was now
  parked_none t old new was now none same = record { kept = without_none t was now none same; parked = λ there. absurd (differ (has_task t (replica_names was)) there none) }
    where
      differ : (b : Bool) → b ≡ true → b ≡ false → ⊥
      differ b e f = cc

  pub parked_one : (t : TaskId) (ts : List Task) (r : Replica) (reply : Reply) (old new : PassView Entry (Frame W)) (was now : List Replica) → r.id ≡ t → HasTaken was r now → AreHeldOnce ts was →
      Wrote plan old new (Park instance r.id) reply → HasParkedOne instance t old new was now
  parked_one t ts r reply old new was now named taken once wrote = record {
    kept = without_taken t ts was now r named taken once;
    parked = λ there. subst (λ n. HasGained old new (Park instance n ∷ [])) named (gained_one plan old new (Park instance r.id) reply wrote);
  }

  module _ (a : Assignment) (w : ℕ) where
    -- those of no task
    pub parked_start : (old new : PassView Entry (Frame W)) (was : List Replica) → HasParked a w instance [] old new was was
    parked_start old new was = record { kept = λ u. refl; parked = λ u there. absurd cc }

    same_placed : (t u : TaskId) → same_task u t ≡ true → is_placed a w u ≡ is_placed a w t
    same_placed t u e = ap (is_placed a w) (same_task-is u t e)

    -- a task that is placed with the worker is left alone
    pub parked_not : (t : TaskId) (old new : PassView Entry (Frame W)) (was : List Replica) → is_placed a w t ≡ true → HasParked a w instance (t ∷ []) old new was was
    parked_not t old new was placed = record {
      kept = λ u. kept_by u (same_task u t) refl;
      parked = λ u there apart. absurd (never u there apart);
    }
      where
        kept_by : (u : TaskId) (b : Bool) → same_task u t ≡ b → times u (replica_names was) ≡ cond ((b || false) && not (is_placed a w u)) 0 (times u (replica_names was))
        kept_by u false e = refl
        kept_by u true e = ap (λ p. cond (not p) 0 (times u (replica_names was))) (sym (same_placed t u e ∙ placed))

        never : (u : TaskId) → (same_task u t || false) ≡ true → is_placed a w u ≡ false → ⊥
        never u there apart = by (same_task u t) refl there
          where
            by : (b : Bool) → same_task u t ≡ b → (b || false) ≡ true → ⊥
            by true e h = let p : is_placed a w u ≡ true = same_placed t u e ∙ placed in cc
            by false e h = cc

    -- one that isn't
    pub parked_it : (t : TaskId) (old new : PassView Entry (Frame W)) (was now : List Replica) → is_placed a w t ≡ false → HasParkedOne instance t old new was now → HasParked a w instance (t ∷ []) old new was now
    parked_it t old new was now apart one = record {
      kept = λ u. one.kept u ∙ kept_by u (same_task u t) refl;
      parked = λ u there none has. parked_by u (same_task u t) refl there has;
    }
      where
        kept_by : (u : TaskId) (b : Bool) → same_task u t ≡ b → cond b 0 (times u (replica_names was)) ≡ cond ((b || false) && not (is_placed a w u)) 0 (times u (replica_names was))
        kept_by u false e = refl
        kept_by u true e = ap (λ p. cond (not p) 0 (times u (replica_names was))) (sym (same_placed t u e ∙ apart))

        parked_by : (u : TaskId) (b : Bool) → same_task u t ≡ b → (b || false) ≡ true → has_task u (replica_names was) ≡ true → HasGained old new (Park instance u ∷ [])
        parked_by u true e there has =
            subst (λ v. HasGained old new (Park instance v ∷ [])) (sym (same_task-is u t e))
            (one.parked (ap (λ v. has_task v (replica_names was)) (sym (same_task-is u t e)) ∙ has))
        parked_by u false e there has = absurd cc

    -- one task more
    pub parked_then : (xs : List TaskId) (t : TaskId) (p q r : PassView Entry (Frame W)) (a0 a1 a2 : List Replica) → Later plan p q → Later plan q r →
        HasParked a w instance xs p q a0 a1 → HasParked a w instance (t ∷ []) q r a1 a2 → HasParked a w instance (xs ++ t ∷ []) p r a0 a2
    parked_then xs t p q r a0 a1 a2 l k f g = record {
      kept = λ u. g.kept u ∙ ap (λ n. cond (has_task u (t ∷ []) && not (is_placed a w u)) 0 n) (f.kept u) ∙ join u (has_task u xs) (has_task u (t ∷ [])) (not (is_placed a w u)) (times u (replica_names a0))
          ∙ ap (λ b. cond (b && not (is_placed a w u)) 0 (times u (replica_names a0))) (sym (has-append u xs (t ∷ [])));
      parked = λ u there apart has. by u (has_task u xs) refl (sym (has-append u xs (t ∷ [])) ∙ there) apart has;
    }
      where
        join : (u : TaskId) (x y n : Bool) (k : ℕ) → cond (y && n) 0 (cond (x && n) 0 k) ≡ cond ((x || y) && n) 0 k
        join u true true true k = refl
        join u true true false k = refl
        join u true false true k = refl
        join u true false false k = refl
        join u false true true k = refl
        join u false true false k = refl
        join u false false n k = refl

        left_there : (u : TaskId) → has_task u xs ≡ false → has_task u (replica_names a0) ≡ true → has_task u (replica_names a1) ≡ true
        left_there u e has =
            is_there u (replica_names a1)
            (omega (arith, times-some u (replica_names a0) has, f.kept u ∙ ap (λ b. cond (b && not (is_placed a w u)) 0 (times u (replica_names a0))) e))

        by : (u : TaskId) (b : Bool) → has_task u xs ≡ b → (has_task u xs || has_task u (t ∷ [])) ≡ true → is_placed a w u ≡ false → has_task u (replica_names a0) ≡ true → HasGained p r (Park instance u ∷ [])
        by u true e there apart has = gained_then p q r (Park instance u ∷ []) [] (f.parked u e apart has) (gained_none plan q r k)
        by u false e there apart has = gained_then p q r [] (Park instance u ∷ []) (gained_none plan p q l) (g.parked u (ap (λ b. b || has_task u (t ∷ [])) (sym e) ∙ there) apart (left_there u e has))

module _ {W G : Type 0} (plan : W → TaskPlan) where
  -- the next task of a list, at a worker's state
  pub parked_next : (old mid new : WorkerState W G) (a : Assignment) (ts : List TaskId) (i : ℕ) (d : TaskId) → i < length ts → LaterState plan old mid → LaterState plan mid new →
      HasParked a old.member.number old.member.instance (take i ts) old.session.client.pass mid.session.client.pass old.replicas.items mid.replicas.items →
      HasParked a mid.member.number mid.member.instance (slice_index_or ts i d ∷ []) mid.session.client.pass new.session.client.pass mid.replicas.items new.replicas.items →
      HasParked a old.member.number old.member.instance (take (i + 1) ts) old.session.client.pass new.session.client.pass old.replicas.items new.replicas.items
  parked_next old mid new a ts i d lt l k f g =
      let own = subst (λ (w : ℕ). HasParked a w old.member.instance (slice_index_or ts i d ∷ []) mid.session.client.pass new.session.client.pass mid.replicas.items new.replicas.items) l.number
      (subst (λ (n : ℕ). HasParked a mid.member.number n (slice_index_or ts i d ∷ []) mid.session.client.pass new.session.client.pass mid.replicas.items new.replicas.items) l.instance g) in
      subst (λ xs. HasParked a old.member.number old.member.instance xs old.session.client.pass new.session.client.pass old.replicas.items new.replicas.items) (sym (take-suc ts i d lt) ∙ ap (λ k. take k ts) (sym (add-one i)))
      (parked_then plan old.member.instance a old.member.number (take i ts) (slice_index_or ts i d) old.session.client.pass mid.session.client.pass new.session.client.pass old.replicas.items mid.replicas.items new.replicas.items l.later k.later f own)

-- all of a list
pub parked_whole : {W : Type 0} (w instance : ℕ) (a : Assignment) (ts all : List TaskId) (i : ℕ) (old new : PassView Entry (Frame W)) (was now : List Replica) → ts ≡ all → length ts ≤ i →
    HasParked a w instance (take i ts) old new was now → HasParked a w instance all old new was now
parked_whole w instance a ts all i old new was now are most h = subst (λ xs. HasParked a w instance xs old new was now) (take_all i ts most ∙ are) h
