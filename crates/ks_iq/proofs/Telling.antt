-- What an ask tells, of its reader's replicas before and after.
use Rattle.std.proofs.Common.{◌≡◌, ℕ, ◌<◌, ◌≤◌, Bool, true, false, cond, List, [], ◌∷◌, length, get_or, Option, Some, None, inl, inr, refl, sym, ap, subst, ◌∙◌, arith, ltb-true, ltb-false}
use Rattle.std.specs.Prelude.{Result, Ok, Err, OnOk, nat_lt}
use Rattle.std.proofs.lemmas.Bool.{true≢false}
use Rattle.std.proofs.lemmas.List.{get_or-set_same, length-set}
use Rattle.std.proofs.lemmas.List.Elements.{All-append, All-cons, All-nil, All-set}
use Rattle.ks_record.specs.declared.record.TaskId.{TaskId}
use Rattle.ks_record.specs.Parts.{same_task}
use Rattle.ks_plan.specs.Drafts.{DraftView}
use Rattle.ks_plan.specs.Plan.{plan_of, is_windowed}
use Rattle.ks_plan.specs.Layout.{kind_at}
use Rattle.ks_expr.specs.Eval.{Row}
use Rattle.ks_history.specs.declared.journal.Entry.{Entry}
use Rattle.ks_history.specs.Machine.{TaskPlan, IsNetwork, part_of, has_topic}
use Rattle.ks_history.specs.State.{has_task}
use Rattle.ks_history.specs.Follows.{ReplicaView, ReplicaFollows}
use Rattle.ks_history.specs.History.{at as at_state}
use Rattle.ks_history.proofs.Names.{same_task-refl}
use Rattle.ks_law_commit.specs.Bounds.{stable_of}
use Rattle.ks_law_restore.proofs.Replicas.{replica_starts}
use Rattle.ks_growing.specs.Passes.{PassView}
use Rattle.ks_shared.specs.declared.state.Frame.{Frame}
use Rattle.ks_shared.specs.Calls.{setup_in}
use Rattle.ks_standby.specs.declared.replica.Replica.{Replica}
use Rattle.ks_standby.specs.Replicas.{replica_view}
use Rattle.ks_worker_client.specs.Calls.{Later, state_seen}
use Rattle.ks_worker_client.proofs.Moments.{same_frame}
use Rattle.ks_worker_state.specs.Standbys.{IsStandby}
use Rattle.ks_worker_state.proofs.Fed.{standby_at, standby_later}
use Rattle.ks_iq.specs.declared.ask.Ask.{Ask}
use Rattle.ks_iq.specs.declared.answer.Answer.{Answer}
use Rattle.ks_iq.specs.declared.fault.IqFault.{IqFault}
use Rattle.ks_iq.specs.declared.fault.IqFault.TheVariants.{UnknownStore, WrongStart, WrongTask, NotClean, Behind}
use Rattle.ks_iq.specs.declared.place.Place.{Place}
use Rattle.ks_iq.specs.Asks.{node_of, kept_at, log_of, task_of, value_in, ask_fault, store_fault, if_there, if_own, if_fine, lent_answer}
use Rattle.ks_iq.specs.Places.{IsPlaceOf}
use Rattle.ks_iq.specs.Reads.{IsRead, ReadsTopology}
use Rattle.ks_iq.specs.Readers.{IsReader, NoneFell, position_at, IsAt, IsNewOf, AreWithOne, HasLogAt, IsFedAt, IsReachedAt, IsTold}
use Rattle.ks_iq.proofs.Answering.{own_log, lent_reads}
use Rattle.ks_iq.proofs.OwnReplicas.{fell_not, fell_push, fell_set, fell_twice, own_is, position_is}

pub on_ok : {T E P : Type 0} (r : Result T E) → P → OnOk r P
on_ok (Ok x) p = p
on_ok (Err e) p = tt

-- ---- what the job has against an ask
-- the faults of the job alone
abbrev is_early : IqFault → Bool
is_early UnknownStore = true
is_early WrongStart = true
is_early _ = false

early_fault : (o : Option ℕ) (windowed : Bool) (start : Option ℕ) (f : IqFault) → store_fault o windowed start ≡ Some f → is_early f ≡ true
early_fault None windowed start f e = let is : UnknownStore ≡ f = cc in subst (λ g. is_early g ≡ true) is refl
early_fault (Some log) true (Some start) f e = absurd cc
early_fault (Some log) true None f e = let is : WrongStart ≡ f = cc in subst (λ g. is_early g ≡ true) is refl
early_fault (Some log) false (Some start) f e = let is : WrongStart ≡ f = cc in subst (λ g. is_early g ≡ true) is refl
early_fault (Some log) false None f e = absurd cc

module _ {W : Type 0} (plan : W → TaskPlan) (d : DraftView) (a : Ask) (old new : PassView Entry (Frame W)) where
  early : (f : IqFault) → ask_fault d a ≡ Some f → is_early f ≡ true
  early f e = early_fault (kept_at d (node_of d a)) (is_windowed (kind_at (plan_of d) (node_of d a))) a.start f e

  pub told_fault : (before after : List Replica) (at_least : ℕ) (f : IqFault) → ask_fault d a ≡ Some f → IsTold plan d old new before after a at_least (Err f)
  told_fault before after at_least UnknownStore e = e
  told_fault before after at_least WrongStart e = e
  told_fault before after at_least (WrongTask owner) e = absurd (true≢false (sym (early (WrongTask owner) e)))
  told_fault before after at_least NotClean e = absurd (true≢false (sym (early NotClean e)))
  told_fault before after at_least (Behind position) e = absurd (true≢false (sym (early (Behind position) e)))

  -- ---- its replicas, with a new one
  module _ (top : ReadsTopology d (setup_in plan old.frame)) where
    new_standby : (task : TaskId) (r : Replica) → has_task task (setup_in plan old.frame).tasks ≡ true → IsNewOf d task r → IsStandby (setup_in plan old.frame) old.seen r
    new_standby task r there new =
        let named : r.id ≡ task = ap (λ (v : ReplicaView). v.task) new.view in
        record {
          known = subst (λ u. has_task u (setup_in plan old.frame).tasks ≡ true) (sym named) there;
          replica = record {
            task = refl;
            changelogs = new.changelogs ∙ sym (top.changelogs task.sub) ∙ ap (λ (u : TaskId). (setup_in plan old.frame).plan.changelogs u.sub) (sym named);
            follows = subst (ReplicaFollows (setup_in plan old.frame) old.seen) (sym new.view) (replica_starts (setup_in plan old.frame) old.seen task);
          };
        }

    pub reader_with : (before mid : List Replica) (task : TaskId) → has_task task (setup_in plan old.frame).tasks ≡ true → IsReader plan old before → AreWithOne d before mid task → IsReader plan old mid
    reader_with before mid task there all (inl same) = subst (IsReader plan old) (sym same) all
    reader_with before mid task there all (inr one) = subst (IsReader plan old) (sym one.1)
        (All-append (IsStandby (setup_in plan old.frame) old.seen) before (one.0 ∷ []) all
        (All-cons (IsStandby (setup_in plan old.frame) old.seen) one.0 [] (new_standby task one.0 there one.2) (All-nil (IsStandby (setup_in plan old.frame) old.seen))))

    pub has_log : (rs : List Replica) (at : ℕ) (p : Place) → IsPlaceOf d a p → IsAt rs at p.task → IsReader plan old rs → HasLogAt rs at p.log
    has_log rs at p h here all r =
        let s : IsStandby (setup_in plan old.frame) old.seen (get_or rs at r) = all at r here.within in
        ap (has_topic p.log) (s.replica.changelogs ∙ ap (λ (u : TaskId). (setup_in plan old.frame).plan.changelogs u.sub) (own_is rs at p.task r here ∙ h.task))
        ∙ ap (λ n. has_topic n ((setup_in plan old.frame).plan.changelogs (task_of d a).sub)) h.log
        ∙ own_log d (setup_in plan old.frame) a top h.fine

  -- ---- its replicas, fed
  module _ (l : Later plan old new) where
    pub reader_fed : (mid after : List Replica) (log at : ℕ) → IsNetwork (setup_in plan old.frame).plan → IsReader plan old mid → IsFedAt (setup_in plan old.frame) old.seen new.seen log at mid after → IsReader plan new after
    reader_fed mid after log at net all fed = subst (IsReader plan new) (sym fed.is)
        (All-set (IsStandby (setup_in plan new.frame) new.seen) mid at fed.after (standby_at plan old new new l fed.after fed.fed.standby)
        (λ k r lt. standby_at plan old new new l (get_or mid k r) (standby_later plan old new new l (get_or mid k r) net (all k r lt))))

    pub fed_within : (mid after : List Replica) (log at : ℕ) → at < length mid → IsFedAt (setup_in plan old.frame) old.seen new.seen log at mid after → at < length after
    fed_within mid after log at lt fed = subst (λ (rs : List Replica). at < length rs) (sym fed.is) (omega (arith, lt, length-set mid at fed.after))

    grown : (before mid : List Replica) (task : TaskId) → AreWithOne d before mid task → NoneFell before mid
    grown before mid task (inl same) = subst (NoneFell before) (sym same) (fell_not before)
    grown before mid task (inr one) = subst (NoneFell before) (sym one.1) (fell_push before one.0)

    pub none_fell : (before mid after : List Replica) (task : TaskId) (log at : ℕ) → at < length mid → AreWithOne d before mid task → IsFedAt (setup_in plan old.frame) old.seen new.seen log at mid after → NoneFell before after
    none_fell before mid after task log at lt more fed = fell_twice before mid after (grown before mid task more)
        (subst (NoneFell mid) (sym fed.is) (fell_set mid at fed.before fed.after lt fed.was fed.fed.task fed.fed.later))

    module _ (before mid after : List Replica) (at : ℕ) (here : IsAt mid at (task_of d a)) (more : AreWithOne d before mid (task_of d a)) (fed : IsFedAt (setup_in plan old.frame) old.seen new.seen (log_of d a) at mid after) where
      own : fed.before.id ≡ task_of d a
      own = ap (λ (r : Replica). r.id) fed.was ∙ own_is mid at (task_of d a) fed.before here

      named : fed.after.id ≡ task_of d a
      named = fed.fed.task ∙ own

      reached : IsReachedAt d plan old new before after a ((replica_view fed.after).position (log_of d a))
      reached =
          let place : position_at after (task_of d a) (log_of d a) ≡ (replica_view fed.after).position (log_of d a) =
          ap (λ rs. position_at rs (task_of d a) (log_of d a)) fed.is ∙ position_is mid at (task_of d a) (log_of d a) fed.after here named in
          record {
            own = sym place;
            rises = omega (arith, place, none_fell before mid after (task_of d a) (log_of d a) at here.within more fed (task_of d a) (log_of d a));
            fresh = subst (λ t. stable_of (state_seen plan old) (part_of (log_of d a) t) ≤ (replica_view fed.after).position (log_of d a)) own fed.fed.fresh;
          }

      lent : (at_least : ℕ) → ask_fault d a ≡ None → lent_answer d (replica_view fed.after) a at_least ≡ if_there at_least ((replica_view fed.after).position (log_of d a)) (value_in d a ((replica_view fed.after).stores (log_of d a)))
      lent at_least fine =
          let rest : Result Answer IqFault = if_there at_least ((replica_view fed.after).position (log_of d a)) (value_in d a ((replica_view fed.after).stores (log_of d a))) in
          ap (λ o. if_fine o (if_own fed.after.id (task_of d a) rest)) fine
          ∙ ap (λ b. cond b rest (Err (WrongTask (task_of d a)))) (subst (λ t. same_task t (task_of d a) ≡ true) (sym named) (same_task-refl (task_of d a)))

      pub told_fed : (at_least : ℕ) (x : Replica) (r : Result Answer IqFault) → ask_fault d a ≡ None → ReadsTopology d (setup_in plan old.frame) → x ≡ get_or after at x → r ≡ lent_answer d (replica_view x) a at_least → IsTold plan d old new before after a at_least r
      told_fed at_least x r fine top is answer = by (nat_lt pos at_least) refl (answer ∙ ap (λ (y : Replica). lent_answer d (replica_view y) a at_least) same ∙ lent at_least fine)
        where
          pos : ℕ
          pos = (replica_view fed.after).position (log_of d a)

          row : Option Row
          row = value_in d a ((replica_view fed.after).stores (log_of d a))

          same : x ≡ fed.after
          same = is ∙ ap (λ rs. get_or rs at x) fed.is ∙ get_or-set_same mid at fed.after x here.within

          read : cond {A = Result Answer IqFault} (nat_lt pos at_least) (Err (Behind pos)) (Ok (record { value = row; position = pos })) ≡ Ok (record { value = row; position = pos }) → IsRead d (state_seen plan new) a (record { value = row; position = pos })
          read e = subst (λ f. IsRead d (at_state (setup_in plan f) new.seen) a (record { value = row; position = pos })) (sym (same_frame plan old new l))
              (lent_reads d (setup_in plan old.frame) new.seen (replica_view fed.after) a at_least (record { value = row; position = pos }) top fed.fed.standby.replica.follows (lent at_least fine ∙ e))

          by : (b : Bool) → nat_lt pos at_least ≡ b → r ≡ cond {A = Result Answer IqFault} b (Err (Behind pos)) (Ok (record { value = row; position = pos })) → IsTold plan d old new before after a at_least r
          by true lt e = subst (IsTold plan d old new before after a at_least) (sym e) (fine, ltb-true pos at_least lt, reached)
          by false le e = subst (IsTold plan d old new before after a at_least) (sym e)
              (read (ap (λ b. cond {A = Result Answer IqFault} b (Err (Behind pos)) (Ok (record { value = row; position = pos }))) le), ltb-false pos at_least le, reached)

    -- the same, by the place that was found
    pub told_at : (before mid after : List Replica) (at at_least : ℕ) (p : Place) (x : Replica) (r : Result Answer IqFault) → IsPlaceOf d a p → ReadsTopology d (setup_in plan old.frame) → IsAt mid at p.task → AreWithOne d before mid p.task →
        IsFedAt (setup_in plan old.frame) old.seen new.seen p.log at mid after → x ≡ get_or after at x → r ≡ lent_answer d (replica_view x) a at_least → IsTold plan d old new before after a at_least r
    told_at before mid after at at_least p x r h top here more fed is answer =
        told_fed before mid after at (subst (IsAt mid at) h.task here) (subst (AreWithOne d before mid) h.task more)
        (subst (λ n. IsFedAt (setup_in plan old.frame) old.seen new.seen n at mid after) h.log fed) at_least x r h.fine top is answer
