-- What a call through the lock tells a client.
use Rattle.std.proofs.Common.{◌≡◌, ℕ, ◌+◌, ◌-◌, List, [], ◌∷◌, ◌++◌, length, refl, sym, ap, ap₂, subst, ◌∙◌, arith, append-nil, append_assoc, length-append, Result, Ok, Err, IfOk, OnErr}
use Rattle.ks_record.specs.declared.record.TaskId.{TaskId}
use Rattle.ks_history.specs.declared.journal.Entry.{Entry}
use Rattle.ks_history.specs.declared.journal.Request.{Request}
use Rattle.ks_history.specs.declared.journal.Request.TheVariants.{SendOffsets}
use Rattle.ks_history.specs.declared.journal.Reply.{Reply}
use Rattle.ks_history.specs.declared.journal.Reply.TheVariants.{Done}
use Rattle.ks_history.specs.Machine.{TaskPlan}
use Rattle.ks_history.specs.State.{State, Setup}
use Rattle.ks_history.specs.Step.{reply_to}
use Rattle.ks_history.specs.History.{at, IsHistory}
use Rattle.ks_cluster.specs.View.{ClusterView, AddsEntry, setup_of, state_of}
use Rattle.ks_growing.specs.Passes.{PassView}
use Rattle.ks_shared.specs.declared.state.Frame.{Frame}
use Rattle.ks_shared.specs.declared.barred.Barred.{Barred}
use Rattle.ks_shared.specs.Calls.{setup_in, Called}
use Rattle.ks_shared.specs.Own.{IsOwn}
use Rattle.ks_worker_client.specs.declared.halt.Halt.{Halt}
use Rattle.ks_worker_client.specs.declared.halt.Halt.TheVariants.{Cut, OutOfMemory}
use Rattle.ks_worker_client.specs.Turns.{GateCounts, counts_after, with_halt}
use Rattle.ks_worker_client.specs.Calls.{Later, Wrote, Answered, state_seen}

module _ {W : Type 0} (plan : W → TaskPlan) (old new : PassView Entry (Frame W)) where
  -- nothing was done yet
  pub not_yet : new ≡ old → IsHistory (setup_in plan old.frame) old.seen → Later plan old new
  not_yet is history = record {
    more = [];
    seen = ap (λ (k : PassView Entry (Frame W)). k.seen) is ∙ sym (append-nil old.seen);
    same = is ∙ (λ i. record old { seen = sym (ap (λ (k : PassView Entry (Frame W)). k.seen) is) i; made = sym (ap (λ (k : PassView Entry (Frame W)). k.made) is) i });
    history = subst (IsHistory (setup_in plan old.frame)) (sym (append-nil old.seen)) history;
  }

  module _ {Does : ClusterView W → ClusterView W → Type 0} (c : Called plan old new Does) where
    seen_is : new.seen ≡ c.after.journal
    seen_is = ap (λ (k : PassView Entry (Frame W)). k.seen) c.same

    setup_is : setup_of plan c.after ≡ setup_in plan old.frame
    setup_is = ap (setup_of plan) c.grew.is ∙ sym (ap (setup_in plan) c.frame)

    before_is : setup_of plan c.before ≡ setup_in plan old.frame
    before_is = sym (ap (setup_in plan) c.frame)

    pub later : Later plan old new
    later =
        let seen : new.seen ≡ old.seen ++ (c.others ++ c.grew.own) =
        seen_is ∙ ap (λ (k : ClusterView W). k.journal) c.grew.is ∙ ap (λ l. l ++ c.grew.own) c.came ∙ append_assoc old.seen c.others c.grew.own in
        record {
          more = c.others ++ c.grew.own;
          seen = seen;
          same = c.same ∙ (λ i. record old { seen = sym seen_is i; made = sym (ap (λ (k : PassView Entry (Frame W)). k.made) c.same) i });
          history = subst (λ (s : Setup). IsHistory s (old.seen ++ (c.others ++ c.grew.own))) setup_is
              (subst (IsHistory (setup_of plan c.after)) (sym seen_is ∙ seen) c.history);
        }

    -- a call that only reads answers by what the pass has seen then
    pub read_state : c.after ≡ c.before → state_of plan c.before ≡ state_seen plan new
    read_state same = ap₂ (λ (u : Setup) (l : List Entry). at u l)
        (before_is ∙ sym (ap (λ (k : PassView Entry (Frame W)). setup_in plan k.frame) c.same))
        (sym (seen_is ∙ ap (λ (k : ClusterView W). k.journal) same))

    pub read_at : c.after ≡ c.before → state_of plan c.after ≡ state_seen plan new
    read_at same = ap (state_of plan) same ∙ read_state same

    pub read_setup : setup_of plan c.before ≡ setup_in plan new.frame
    read_setup = before_is ∙ sym (ap (λ (k : PassView Entry (Frame W)). setup_in plan k.frame) c.same)

    -- such a call makes no entry
    pub read_made : c.after ≡ c.before → new.made ≡ old.made
    read_made same =
        let long : length c.after.journal ≡ length c.before.journal = ap (λ (k : ClusterView W). length k.journal) same in
        let more : new.made ≡ old.made + (length c.after.journal - length c.before.journal) = ap (λ (k : PassView Entry (Frame W)). k.made) c.same in
        omega (arith, long, more)

    -- a call that adds its entry
    pub wrote : (request : Request) (reply : Reply) → AddsEntry plan c.before c.after request reply → Wrote plan old new request reply
    wrote request reply a =
        let journal : c.after.journal ≡ c.before.journal ++ record { request = request; reply = reply } ∷ [] = ap (λ (k : ClusterView W). k.journal) a.journal in
        record {
          others = c.others;
          seen = seen_is ∙ journal ∙ ap (λ l. l ++ record { request = request; reply = reply } ∷ []) c.came;
          made =
              let long : length c.after.journal ≡ length c.before.journal + 1 = ap length journal ∙ length-append c.before.journal (record { request = request; reply = reply } ∷ []) in
              let more : new.made ≡ old.made + (length c.after.journal - length c.before.journal) = ap (λ (k : PassView Entry (Frame W)). k.made) c.same in
              omega (arith, long, more);
          step = subst (λ l. reply ≡ reply_to (setup_in plan old.frame) (at (setup_in plan old.frame) l) request) c.came
              (subst (λ (s : Setup). reply ≡ reply_to s (at s c.before.journal) request) before_is a.step);
        }

  -- the answer of a call, with want of memory as what ends the turn
  module _ {A E : Type 0} where
    -- the gate counted nothing but the step that was passed
    pub counted : (gate : GateCounts) (r : Result A E) → counts_after gate (with_halt r) ≡ record gate { cuts = gate.cuts + 0 }
    counted gate (Ok n) = refl
    counted gate (Err e) = refl

    pub ok_of : (r : Result A E) (P : A → Type 0) → IfOk r P → IfOk (with_halt r) P
    ok_of (Ok n) P h = h
    ok_of (Err e) P h = tt

    pub wrote_ok : (request : Request) (reply : A → Reply) (r : Result A E) {More : ClusterView W → ClusterView W → Type 0} →
        Called plan old new (λ before after. IfOk r (λ n. AddsEntry plan before after request (reply n)) × More before after) → IfOk (with_halt r) (λ n. Wrote plan old new request (reply n))
    wrote_ok request reply (Ok n) c = wrote c request (reply n) c.does.0
    wrote_ok request reply (Err z) c = tt

    -- an answer that is right in one state, and so in an equal one
    pub ok_at : (r : Result A E) (P : State → A → Type 0) (s t : State) → s ≡ t → IfOk r (P s) → IfOk (with_halt r) (P t)
    ok_at (Ok n) P s t e h = subst (λ k. P k n) e h
    ok_at (Err z) P s t e h = tt

-- the same call, of which less is told
told_less : {W : Type 0} (plan : W → TaskPlan) (old new : PassView Entry (Frame W)) (One Other : ClusterView W → ClusterView W → Type 0) → ((b a : ClusterView W) → One b a → Other b a) → Called plan old new One → Called plan old new Other
told_less plan old new One Other f c = record { before = c.before; after = c.after; frame = c.frame; others = c.others; came = c.came; quiet = c.quiet; does = f c.before c.after c.does; grew = c.grew; history = c.history; same = c.same }

-- what a call came to
module _ {W A : Type 0} (plan : W → TaskPlan) (old new : PassView Entry (Frame W)) (Does : A → ClusterView W → ClusterView W → Type 0) where
  -- in a history the pass is at a later moment, whatever the call came to
  pub answered_later : (x : Result A Halt) → IsHistory (setup_in plan old.frame) old.seen → Answered plan old new Does x → Later plan old new
  answered_later (Ok n) history c = later plan old new c
  answered_later (Err OutOfMemory) history c = later plan old new c
  answered_later (Err Cut) history same = not_yet plan old new same history

  module _ {E : Type 0} where
    pub answered : (r : Result A E) (x : Result A Halt) → x ≡ with_halt r → Called plan old new (λ before after. IfOk r (λ n. Does n before after) × OnErr r (after ≡ before)) → Answered plan old new Does x
    answered r x is c = subst (λ y. Answered plan old new Does y) (sym is) (by r c)
      where
        by : (r : Result A E) → Called plan old new (λ before after. IfOk r (λ n. Does n before after) × OnErr r (after ≡ before)) → Answered plan old new Does (with_halt r)
        by (Ok n) c = told_less plan old new _ (Does n) (λ b a d. d.0) c
        by (Err e) c = told_less plan old new _ (λ b a. a ≡ b) (λ b a d. d.1) c

    -- one of the worker's own, of which more is told where there was no memory
    module _ (P : Type 0) where
      pub own_answered : (r : Result A E) (x : Result A Halt) → x ≡ with_halt r → Called plan old new (λ before after. IfOk r (λ n. Does n before after) × OnErr r (after ≡ before) × OnErr r P) → Answered plan old new Does x
      own_answered r x is c = subst (λ y. Answered plan old new Does y) (sym is) (by r c)
        where
          by : (r : Result A E) → Called plan old new (λ before after. IfOk r (λ n. Does n before after) × OnErr r (after ≡ before) × OnErr r P) → Answered plan old new Does (with_halt r)
          by (Ok n) c = told_less plan old new _ (Does n) (λ b a d. d.0) c
          by (Err e) c = told_less plan old new _ (λ b a. a ≡ b) (λ b a d. d.1) c

-- the offsets of a work, as another names them and their order
pub offsets_answered : {W E : Type 0} (plan : W → TaskPlan) (old new : PassView Entry (Frame W)) (w e g last next : ℕ) (t : TaskId) (late : ℕ) (offsets order others then_order : List (ℕ × ℕ)) → offsets ≡ others → order ≡ then_order →
    (P : Type 0) (r : Result (Result (Unit {0}) Barred) E) (x : Result (Result (Unit {0}) Barred) Halt) → x ≡ with_halt r →
    Called plan old new (λ before after. IfOk r (λ n. IsOwn plan before after w last next (SendOffsets w e g t offsets order late) (λ u. Done) n) × OnErr r (after ≡ before) × OnErr r P) →
    Answered plan old new (λ n before after. IsOwn plan before after w last next (SendOffsets w e g t others then_order late) (λ u. Done) n) x
offsets_answered plan old new w e g last next t late offsets order others then_order is order_is P r x same c =
    subst (λ o. Answered plan old new (λ n before after. IsOwn plan before after w last next (SendOffsets w e g t others o late) (λ u. Done) n) x) order_is
    (subst (λ o. Answered plan old new (λ n before after. IsOwn plan before after w last next (SendOffsets w e g t o order late) (λ u. Done) n) x) is
    (own_answered plan old new (λ n before after. IsOwn plan before after w last next (SendOffsets w e g t offsets order late) (λ u. Done) n) P r x same c))

-- a call that added its entry
pub answered_wrote : {W A : Type 0} (plan : W → TaskPlan) (old new : PassView Entry (Frame W)) (request : Request) (reply : A → Reply) (x : Result A Halt) →
    Answered plan old new (λ n before after. AddsEntry plan before after request (reply n)) x → IfOk x (λ n. Wrote plan old new request (reply n))
answered_wrote plan old new request reply (Ok n) c = wrote plan old new c request (reply n) c.does
answered_wrote plan old new request reply (Err h) c = tt
