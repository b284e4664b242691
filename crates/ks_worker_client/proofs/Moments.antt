-- What a later moment of a pass leaves of what may be called.
use Rattle.std.proofs.Common.{◌≡◌, ◌+◌, List, [], ◌++◌, refl, sym, ap, subst, ◌∙◌, append_assoc, append-nil}
use Rattle.atomic_table.specs.Seated.{TableId}
use Rattle.ks_history.specs.declared.journal.Entry.{Entry}
use Rattle.ks_history.specs.Machine.{TaskPlan}
use Rattle.ks_history.specs.History.{IsHistory}
use Rattle.ks_growing.specs.Passes.{PassView}
use Rattle.ks_shared.specs.declared.state.Frame.{Frame}
use Rattle.ks_shared.specs.Calls.{setup_in}
use Rattle.ks_worker_client.specs.Turns.{GateCounts, HasRoomFor}
use Rattle.ks_worker_client.specs.Calls.{MayCall, Later}

module _ {W : Type 0} (plan : W → TaskPlan) where
  pub same_frame : (old new : PassView Entry (Frame W)) → Later plan old new → new.frame ≡ old.frame
  same_frame old new l = ap (λ (k : PassView Entry (Frame W)). k.frame) l.same

  -- where the gate counts the same, a call may be made as before
  pub may_later : (lock : TableId) (old new : PassView Entry (Frame W)) (gate now : GateCounts) → Later plan old new → now ≡ gate → MayCall plan lock old gate → MayCall plan lock new now
  may_later lock old new gate now l same m = subst (λ (k : PassView Entry (Frame W)). MayCall plan lock k now) (sym l.same)
      (record {
        lock_is = m.lock_is;
        free = m.free;
        history = subst (IsHistory (setup_in plan old.frame)) (sym l.seen) l.history;
        network = m.network;
        setup = m.setup;
        room = subst HasRoomFor (sym same) m.room;
      })

  pub later_twice : (old mid new : PassView Entry (Frame W)) → Later plan old mid → Later plan mid new → Later plan old new
  later_twice old mid new l k =
      let seen : new.seen ≡ old.seen ++ (l.more ++ k.more) = k.seen ∙ ap (λ s. s ++ k.more) l.seen ∙ append_assoc old.seen l.more k.more in
      let joined : mid.seen ++ k.more ≡ old.seen ++ (l.more ++ k.more) = ap (λ s. s ++ k.more) l.seen ∙ append_assoc old.seen l.more k.more in
      record {
        more = l.more ++ k.more;
        seen = seen;
        same = k.same ∙ ap (λ (p : PassView Entry (Frame W)). record p { seen = new.seen; made = new.made }) l.same;
        history = subst (IsHistory (setup_in plan old.frame)) joined (subst (λ f. IsHistory (setup_in plan f) (mid.seen ++ k.more)) (same_frame old mid l) k.history);
      }

  pub not_later : (pass : PassView Entry (Frame W)) → IsHistory (setup_in plan pass.frame) pass.seen → Later plan pass pass
  not_later pass history = record {
    more = [];
    seen = sym (append-nil pass.seen);
    same = refl;
    history = subst (IsHistory (setup_in plan pass.frame)) (sym (append-nil pass.seen)) history;
  }
