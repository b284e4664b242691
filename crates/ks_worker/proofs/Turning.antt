-- Turns, one after another.
use Rattle.std.proofs.Common.{◌≡◌, ◌⊎◌, ◌≤◌, ◌<◌, ◌+◌, ◌-◌, ◌^◌, ℕ, suc, Bool, true, false, cond, List, [], ◌∷◌, ◌++◌, Result, Ok, Err, OnOk, inl, refl, sym, ap, subst, ◌∙◌, arith, append_assoc, append-nil}
use Rattle.std.specs.Prelude.{IfOk}
use Rattle.atomic_table.specs.Seated.{TableId}
use Rattle.ks_edge.specs.Counts.{one_if}
use Rattle.ks_record.specs.declared.record.TaskId.{TaskId}
use Rattle.ks_plan.specs.Drafts.{DraftView}
use Rattle.ks_history.specs.declared.journal.Entry.{Entry}
use Rattle.ks_history.specs.Machine.{TaskPlan}
use Rattle.ks_growing.specs.Passes.{PassView}
use Rattle.ks_shared.specs.declared.state.Frame.{Frame}
use Rattle.ks_assign.specs.declared.clients.Placing.{Placing}
use Rattle.ks_cluster.specs.Placed.{PlacementTest}
use Rattle.ks_worker_client.specs.Turns.{GateCounts}
use Rattle.ks_worker_client.specs.Calls.{MayCall, Later}
use Rattle.ks_worker_client.proofs.Moments.{may_later}
use Rattle.ks_worker_state.specs.declared.state.WorkerState.{WorkerState}
use Rattle.ks_worker_state.specs.State.{IsWorkerState, MayAct, LaterState}
use Rattle.ks_worker_state.proofs.States.{runs_later}
use Rattle.ks_worker_turn.specs.Beginning.{HasBegun}
use Rattle.ks_worker_turn.specs.Placing.{PlacesBy}
use Rattle.ks_worker_turn.proofs.Offered.{serves_later}
use Rattle.ks_worker.specs.Beginning.{MayRun}
use Rattle.ks_worker.specs.Running.{is_group_request, group_requests, HasCounted, ShowsCalls, HasEndedBy}

-- ---- counts
pub counted_none : (g : GateCounts) → HasCounted g g 0
counted_none g = record { asked = omega arith; stops = omega arith; calls = omega arith; cuts = omega arith; asked_most = omega arith; stops_most = omega arith; calls_most = omega arith; cuts_most = omega arith }

pub counted_then : (a b c : GateCounts) (m n : ℕ) → HasCounted a b m → HasCounted b c n → HasCounted a c (m + n)
counted_then a b c m n h k = record {
  asked = omega (arith, h.asked, k.asked);
  stops = omega (arith, h.stops, k.stops);
  calls = omega (arith, h.calls, k.calls);
  cuts = omega (arith, h.cuts, k.cuts);
  asked_most = omega (arith, h.asked_most, k.asked_most);
  stops_most = omega (arith, h.stops_most, k.stops_most);
  calls_most = omega (arith, h.calls_most, k.calls_most);
  cuts_most = omega (arith, h.cuts_most, k.cuts_most);
}

pub counted_more : (a b : GateCounts) (m n : ℕ) → HasCounted a b m → m ≤ n → HasCounted a b n
counted_more a b m n h le = record {
  asked = h.asked;
  stops = h.stops;
  calls = h.calls;
  cuts = h.cuts;
  asked_most = omega (arith, h.asked_most, le);
  stops_most = omega (arith, h.stops_most, le);
  calls_most = omega (arith, h.calls_most, le);
  cuts_most = omega (arith, h.cuts_most, le);
}

-- ---- stops
-- a turn that the gate didn't stop, or did
pub went_on : (first before after : ℕ) (stopped : Bool) → before ≡ first → after ≡ before + one_if stopped → stopped ≡ false → after ≡ first
went_on first before after false same turn is = omega (arith, same, turn)
went_on first before after true same turn is = absurd cc

pub stopped_then : (turns : ℕ) (first before after : GateCounts) (stopped : Bool) → before.stops ≡ first.stops → after.stops ≡ before.stops + one_if stopped → stopped ≡ true → HasEndedBy turns first after
stopped_then turns first before after true same turn is = inl (omega (arith, same, turn))
stopped_then turns first before after false same turn is = absurd cc

pub stopped_once : (first before after : ℕ) (stopped : Bool) → before ≡ first → after ≡ before + one_if stopped → stopped ≡ true → after ≡ first + 1
stopped_once first before after true same turn is = omega (arith, same, turn)
stopped_once first before after false same turn is = absurd cc

-- ---- what shows
none_more : (n : ℕ) → n ≡ 0 + n
none_more n = omega arith

one_more : (n a b : ℕ) → n ≡ a + b → suc n ≡ suc a + b
one_more n a b e = omega (arith, e)

group_append : (w : ℕ) (xs ys : List Entry) → group_requests w (xs ++ ys) ≡ group_requests w xs + group_requests w ys
group_append w [] ys = none_more (group_requests w ys)
group_append w (x ∷ xs) ys = by (is_group_request w x.request) (group_append w xs ys)
  where
    by : (b : Bool) → group_requests w (xs ++ ys) ≡ group_requests w xs + group_requests w ys → cond b (suc (group_requests w (xs ++ ys))) (group_requests w (xs ++ ys)) ≡ cond b (suc (group_requests w xs)) (group_requests w xs) + group_requests w ys
    by true e = one_more (group_requests w (xs ++ ys)) (group_requests w xs) (group_requests w ys) e
    by false e = e

module _ {W : Type 0} (w : ℕ) where
  pub shown_none : (p : PassView Entry (Frame W)) (g : GateCounts) → ShowsCalls w p p g g
  shown_none p g = record { more = []; seen = sym (append-nil p.seen); shown = omega arith }

  pub shown_then : (p q r : PassView Entry (Frame W)) (g h k : GateCounts) → ShowsCalls w p q g h → ShowsCalls w q r h k → ShowsCalls w p r g k
  shown_then p q r g h k a b =
      let e : group_requests w (a.more ++ b.more) ≡ group_requests w a.more + group_requests w b.more = group_append w a.more b.more in
      record {
        more = a.more ++ b.more;
        seen = b.seen ∙ ap (λ l. l ++ b.more) a.seen ∙ append_assoc p.seen a.more b.more;
        shown = omega (arith, e, a.shown, b.shown);
      }

  -- a part of a turn in which the gate counted nothing
  pub shown_quiet : (plan : W → TaskPlan) (p q : PassView Entry (Frame W)) (g h : GateCounts) → Later plan p q → h ≡ g → ShowsCalls w p q g h
  shown_quiet plan p q g h l same =
      let a : h.calls ≡ g.calls = ap (λ (k : GateCounts). k.calls) same in
      let b : h.cuts ≡ g.cuts = ap (λ (k : GateCounts). k.cuts) same in
      record { more = l.more; seen = l.seen; shown = omega (arith, a, b) }

  pub shown_ok : {A E : Type 0} (plan : W → TaskPlan) (v : ℕ) (p q r : PassView Entry (Frame W)) (g h k : GateCounts) (answer : Result A E) → v ≡ w → Later plan p q → h ≡ g → OnOk answer (ShowsCalls v q r h k) → OnOk answer (ShowsCalls w p r g k)
  shown_ok plan v p q r g h k (Ok a) same l quiet s = shown_then p q r g h k (shown_quiet plan p q g h l quiet) (subst (λ n. ShowsCalls n q r h k) same s)
  shown_ok plan v p q r g h k (Err e) same l quiet s = tt

-- ---- a turn begins
-- the clauses of the turn's beginning, for the state before its gate began
pub begun_as : {W G : Type 0} (plan : W → TaskPlan) (threads : ℕ) (tasks : List TaskId) (s : WorkerState W G) (gate : GateCounts) (new : WorkerState W G) (waiting : ℕ) → gate ≡ s.session.client.gate →
    HasBegun plan threads tasks (record s { session = record s.session { client = record s.session.client { gate = gate } } }) new waiting → HasBegun plan threads tasks s new waiting
begun_as plan threads tasks s gate new waiting same h =
    subst (λ (k : GateCounts). HasBegun plan threads tasks (record s { session = record s.session { client = record s.session.client { gate = k } } }) new waiting) same h

pub begun_with : {A E : Type 0} (r : Result A E) (x : A) (P : A → Type 0) → r ≡ Ok x → IfOk r P → P x
begun_with r x P is h = subst (λ q. IfOk q P) is h

pub ok_so : {A E P : Type 0} (r : Result A E) (x : A) → r ≡ Ok x → OnOk r P → P
ok_so {P = P} r x is h = subst (λ q. OnOk q P) is h

-- ---- a worker goes on
-- its placing serves on
pub serves_on : {W G : Type 0} (plan : W → TaskPlan) (good : W → PlacementTest) (placing now : Placing) (d : DraftView) (old new : WorkerState W G) → LaterState plan old new → now ≡ placing →
    PlacesBy good placing d old.session.client.pass.frame → PlacesBy good now d new.session.client.pass.frame
serves_on plan good placing now d old new l same serves =
    subst (λ (p : Placing). PlacesBy good p d new.session.client.pass.frame) (sym same) (serves_later plan good placing d old.session.client.pass new.session.client.pass l.later serves)

pub may_run_on : {W G : Type 0} (plan : W → TaskPlan) (good : W → PlacementTest) (hash : List ℕ → ℕ) (lock : TableId) (d : DraftView) (placing now : Placing) (turns i left : ℕ) (old new : WorkerState W G) → MayRun plan good hash lock d placing turns old → LaterState plan old new → now ≡ placing →
    IsWorkerState plan d new → HasCounted old.session.client.gate new.session.client.gate i → i + left ≤ turns → MayRun plan good hash lock d now left new
may_run_on plan good hash lock d placing now turns i left old new may l same worker counts le =
    let m = may_later plan lock old.session.client.pass new.session.client.pass old.session.client.gate old.session.client.gate l.later refl may.act.call in
    record {
      act = record {
        call = record {
          lock_is = m.lock_is;
          free = m.free;
          history = m.history;
          network = m.network;
          setup = m.setup;
          room = record {
            asked_fits = omega (arith, counts.asked_most, may.room.asked, le);
            stops_fit = omega (arith, counts.stops_most, may.room.stops, le);
            calls_fit = omega (arith, counts.calls_most, may.room.calls, le);
            cuts_fit = omega (arith, counts.cuts_most, may.room.cuts, le);
          };
        };
        topology = runs_later plan hash d old new l may.act.topology;
        worker = worker;
      };
      serves = serves_on plan good placing now d old new l same may.serves;
      room = record {
        asked = omega (arith, counts.asked_most, may.room.asked, le);
        stops = omega (arith, counts.stops_most, may.room.stops, le);
        calls = omega (arith, counts.calls_most, may.room.calls, le);
        cuts = omega (arith, counts.cuts_most, may.room.cuts, le);
      };
    }
