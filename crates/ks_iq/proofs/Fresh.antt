-- Feeding a replica one changelog, and how fresh it then is.
use Rattle.std.proofs.Common.{◌≡◌, ℕ, ◌≤◌, Bool, true, false, List, [], ◌∷◌, cond, refl, sym, ap, subst, ◌∙◌, arith, inl, inr}
use Rattle.std.specs.Prelude.{nat_lt, ◌||◌}
use Rattle.std.proofs.lemmas.Bool.{true≢false, eq-eqb, ltb-true, lt-ltb}
use Rattle.ks_record.specs.Records.{Record as Rec}
use Rattle.ks_record.specs.declared.record.PartId.{PartId}
use Rattle.ks_record.specs.declared.record.TaskId.{TaskId}
use Rattle.ks_history.specs.declared.journal.Entry.{Entry}
use Rattle.ks_history.specs.Machine.{IsNetwork, TaskPlan, has_topic, part_of}
use Rattle.ks_history.specs.State.{Setup, IsSetup, IsPart}
use Rattle.ks_history.specs.Reads.{end_of}
use Rattle.ks_history.specs.Follows.{ReplicaView}
use Rattle.ks_history.specs.History.{at, IsHistory}
use Rattle.ks_history.proofs.Histories.{stable-le}
use Rattle.ks_law_commit.specs.Bounds.{stable_of}
use Rattle.ks_law_commit.specs.Moves.{IsMoved}
use Rattle.ks_law_commit.proofs.Bounds.{stable_rises}
use Rattle.ks_growing.specs.Passes.{PassView}
use Rattle.ks_shared.specs.declared.state.Frame.{Frame}
use Rattle.ks_shared.specs.Calls.{setup_in}
use Rattle.ks_standby.specs.declared.replica.Replica.{Replica}
use Rattle.ks_standby.specs.Replicas.{replica_view, changelogs_of}
use Rattle.ks_worker_client.specs.Calls.{Later, state_seen}
use Rattle.ks_worker_state.specs.Standbys.{IsStandby, IsFedStandby}
use Rattle.ks_iq.specs.Readers.{MayCallThrough, IsFedOnce, IsFedTo}
use Rattle.atomic_table.specs.Seated.{TableId}
use Rattle.ks_law_restore.specs.Replicas.{fed_replica}
use Rattle.ks_worker_client.proofs.Moments.{same_frame}
use Rattle.ks_worker_state.proofs.Fed.{fed_more}

-- one fetch, by what it answered
pub fed_once : (setup : Setup) (h now : List Entry) (topic from next : ℕ) (moved : Bool) (old new : Replica) → IsFedStandby setup h now (topic ∷ []) old new →
    from ≡ (replica_view old).position topic → next ≡ (replica_view new).position topic → moved ≡ nat_lt from next → IsFedOnce setup h now topic moved old new
fed_once setup h now topic from next moved old new f at_it goes is = record {
  fed = f;
  moves = λ e. omega (arith, ltb-true from next (sym is ∙ e), at_it, goes);
  stops = λ e. by (f.fed.moved topic (ap (λ b. b || false) (eq-eqb topic topic refl))) e;
}
  where
    by : IsMoved (stable_of (at setup h) (part_of topic old.id)) ((replica_view old).position topic) ((replica_view new).position topic) → moved ≡ false → stable_of (at setup h) (part_of topic old.id) ≤ (replica_view new).position topic
    by (inr le) e = le
    by (inl lt) e = absurd (true≢false (sym (lt-ltb from next (omega (arith, lt, at_it, goes))) ∙ (sym is ∙ e)))

module _ {W : Type 0} (plan : W → TaskPlan) (old new : PassView Entry (Frame W)) (l : Later plan old new) (net : IsNetwork (setup_in plan old.frame).plan) where
  -- what was stable is
  pub stable_later : (p : PartId) → stable_of (at (setup_in plan old.frame) old.seen) p ≤ stable_of (at (setup_in plan old.frame) new.seen) p
  stable_later p = subst (λ j. stable_of (at (setup_in plan old.frame) old.seen) p ≤ stable_of (at (setup_in plan old.frame) j) p) (sym l.seen)
      (stable_rises (setup_in plan old.frame) old.seen l.more p net l.history)

  -- an end that was told is past all that was stable before
  pub end_is_enough : (p : PartId) (end : ℕ) → end ≡ end_of (state_seen plan new) p → stable_of (state_seen plan new) p ≤ end
  end_is_enough p end e = subst (λ n. stable_of (state_seen plan new) p ≤ n) (sym e) (stable-le ((state_seen plan new).partition p))

-- the loop's end
pub all_fed : (setup : Setup) (h now : List Entry) (topic : ℕ) (xs : List ℕ) (old new : Replica) → IsFedStandby setup h now xs old new →
    stable_of (at setup h) (part_of topic old.id) ≤ (replica_view new).position topic → IsFedTo setup h now topic old new
all_fed setup h now topic xs old new f fresh = record {
  standby = f.standby;
  changelogs = f.changelogs;
  task = f.fed.task;
  later = f.fed.later;
  fresh = fresh;
}

-- it may be called through a later moment of the pass as before
pub may_through : {W : Type 0} (plan : W → TaskPlan) (lock : TableId) (old new : PassView Entry (Frame W)) → Later plan old new → MayCallThrough plan lock old → MayCallThrough plan lock new
may_through {W = W} plan lock old new l m = subst (λ (k : PassView Entry (Frame W)). MayCallThrough plan lock k) (sym l.same)
    (record {
      lock_is = m.lock_is;
      free = m.free;
      history = subst (IsHistory (setup_in plan old.frame)) (sym l.seen) l.history;
      network = m.network;
      setup = m.setup;
    })

-- where the next fetch goes on is where it stands
pub goes_to : (old new : Replica) (topic next : ℕ) (recs : List (ℕ × Rec)) → replica_view new ≡ fed_replica (replica_view old) topic recs next → next ≡ (replica_view new).position topic
goes_to old new topic next recs view = sym (ap (λ (v : ReplicaView). v.position topic) view ∙ ap (λ b. cond b next ((replica_view old).position topic)) (eq-eqb topic topic refl))

-- a replica's part of one of its changelogs
pub is_part : (setup : Setup) (journal : List Entry) (r : Replica) (topic part : ℕ) → IsSetup setup → IsStandby setup journal r → has_topic topic (changelogs_of r) ≡ true → part ≡ r.id.part →
    IsPart setup (record { topic = topic; part = part })
is_part setup journal r topic part made s there is =
    subst (λ n. IsPart setup (record { topic = topic; part = n })) (sym is) (made.changelogs r.id topic s.known (sym (ap (has_topic topic) s.replica.changelogs) ∙ there))

module _ {W : Type 0} (plan : W → TaskPlan) (old mid new : PassView Entry (Frame W)) (l : Later plan old mid) (net : IsNetwork (setup_in plan old.frame).plan) where
  -- a fetch that moved nothing ends it
  pub stopped : Later plan mid new → (a b c : Replica) (topic : ℕ) (moved : Bool) → IsFedStandby (setup_in plan old.frame) old.seen mid.seen [] a b → IsFedOnce (setup_in plan mid.frame) mid.seen new.seen topic moved b c → moved ≡ false →
      IsFedTo (setup_in plan old.frame) old.seen new.seen topic a c
  stopped k a b c topic moved f once e =
      let s : stable_of (at (setup_in plan old.frame) mid.seen) (part_of topic b.id) ≤ (replica_view c).position topic =
      subst (λ g. stable_of (at (setup_in plan g) mid.seen) (part_of topic b.id) ≤ (replica_view c).position topic) (same_frame plan old mid l) (once.stops e) in
      let t : stable_of (at (setup_in plan old.frame) mid.seen) (part_of topic a.id) ≤ (replica_view c).position topic =
      subst (λ (u : TaskId). stable_of (at (setup_in plan old.frame) mid.seen) (part_of topic u) ≤ (replica_view c).position topic) f.fed.task s in
      let rose : stable_of (at (setup_in plan old.frame) old.seen) (part_of topic a.id) ≤ stable_of (at (setup_in plan old.frame) mid.seen) (part_of topic a.id) = stable_later plan old mid l net (part_of topic a.id) in
      all_fed (setup_in plan old.frame) old.seen new.seen topic (topic ∷ []) a c (fed_more plan old mid new l k net a b c [] (topic ∷ []) f once.fed) (omega (arith, rose, t))

  -- what was fed since a later moment was fed since then
  pub fed_since : (now : List Entry) (topic : ℕ) (a b : Replica) → IsFedTo (setup_in plan mid.frame) mid.seen now topic a b → IsFedTo (setup_in plan old.frame) old.seen now topic a b
  fed_since now topic a b f =
      let g : IsFedTo (setup_in plan old.frame) mid.seen now topic a b = subst (λ h. IsFedTo (setup_in plan h) mid.seen now topic a b) (same_frame plan old mid l) f in
      let rose : stable_of (at (setup_in plan old.frame) old.seen) (part_of topic a.id) ≤ stable_of (at (setup_in plan old.frame) mid.seen) (part_of topic a.id) = stable_later plan old mid l net (part_of topic a.id) in
      record { standby = g.standby; changelogs = g.changelogs; task = g.task; later = g.later; fresh = omega (arith, rose, g.fresh) }
