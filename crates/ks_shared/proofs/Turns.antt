-- A turn through the lock: what may be given back, and what the call is.
use Rattle.std.proofs.Common.{◌≡◌, ◌+◌, ◌-◌, false, List, [], ◌++◌, length, filter, Option, Some, sym, ap, subst, ◌∙◌, append-nil}
use Rattle.std.proofs.lemmas.List.{append_cancel_left}
use Rattle.std.proofs.lemmas.List.Elements.{filter-append}
use mathlib.Core.List.{IsPrefix}
use Rattle.ks_history.specs.declared.journal.Entry.{Entry}
use Rattle.ks_history.specs.Machine.{TaskPlan}
use Rattle.ks_history.specs.History.{IsHistory}
use Rattle.ks_cluster.specs.View.{ClusterView, setup_of}
use Rattle.ks_growing.specs.Passes.{PassView, pass_with_value, pass_without_value}
use Rattle.ks_shared.specs.declared.state.Frame.{Frame}
use Rattle.ks_shared.specs.Calls.{frame_of, Grew, Grows, Called}
use Rattle.ks_shared.specs.Reserved.{is_callers}

pub unchanged : (seen log : List Entry) → seen ≡ log → IsPrefix seen log
unchanged seen log is = ([], append-nil seen ∙ is)

module _ {W : Type 0} where
  pub grown : (seen : List Entry) (old new : ClusterView W) → seen ≡ old.journal → Grew old new → IsPrefix seen new.journal
  grown seen old new is g = (g.own, ap (λ l. l ++ g.own) is ∙ sym (ap (λ (c : ClusterView W). c.journal) g.is))

  pub grows_grew : (old new : ClusterView W) → Grows old new → Grew old new
  grows_grew old new g = record { own = g.own; is = g.is }

  pub same_grew : (old : ClusterView W) → Grew old old
  same_grew old = record { own = []; is = λ i. record old { journal = sym (append-nil old.journal) i } }

  pub frame_kept : (frame : Option (Frame W)) (old new : ClusterView W) → frame ≡ Some (frame_of old) → Grew old new → frame ≡ Some (frame_of new)
  frame_kept frame old new is g = is ∙ sym (ap (λ (c : ClusterView W). Some (frame_of c)) g.is)

  pub unreserved : (seen : List Entry) (old new : ClusterView W) → seen ≡ old.journal → Grows old new → filter is_callers new.journal ≡ filter is_callers seen
  unreserved seen old new is g =
      ap (λ (c : ClusterView W). filter is_callers c.journal) g.is
      ∙ filter-append is_callers old.journal g.own
      ∙ ap (λ l. filter is_callers old.journal ++ l) g.plain
      ∙ append-nil (filter is_callers old.journal)
      ∙ sym (ap (filter is_callers) is)

  pub called : (plan : W → TaskPlan) (old mid new : PassView Entry (Frame W)) (before after : ClusterView W) (Does : ClusterView W → ClusterView W → Type 0) →
      old.holds ≡ false → mid ≡ pass_with_value before.journal old → IsPrefix old.seen before.journal → old.frame ≡ Some (frame_of before) →
      (old.number ≡ 0 → filter is_callers before.journal ≡ filter is_callers old.seen) →
      Does before after → Grew before after → IsHistory (setup_of plan after) after.journal → new ≡ pass_without_value after.journal mid → Called plan old new Does
  called plan old mid new before after Does free entered prefix frame quiet does grew history left = record {
    before = before;
    after = after;
    frame = frame;
    others = prefix.0;
    came = sym prefix.1;
    quiet = λ zero. append_cancel_left (filter is_callers old.seen) (filter is_callers prefix.0) []
        (sym (filter-append is_callers old.seen prefix.0) ∙ ap (filter is_callers) prefix.1 ∙ quiet zero ∙ sym (append-nil (filter is_callers old.seen)));
    does = does;
    grew = grew;
    history = history;
    same = left ∙ ap (pass_without_value after.journal) entered ∙ (λ i. record old { holds = sym free i; seen = after.journal; made = old.made + (length after.journal - length before.journal) });
  }

  -- what is so of the value that the lock gave is so where its box is opened
  pub frame_here : (frame : Option (Frame W)) (here before : ClusterView W) → here ≡ before → frame ≡ Some (frame_of before) → frame ≡ Some (frame_of here)
  frame_here frame here before is was = was ∙ sym (ap (λ (c : ClusterView W). Some (frame_of c)) is)

  pub begins_here : (seen : List Entry) (here before : ClusterView W) → here ≡ before → IsPrefix seen before.journal → IsPrefix seen here.journal
  begins_here seen here before is was = subst (λ (c : ClusterView W). IsPrefix seen c.journal) (sym is) was

  pub seen_here : (seen : List Entry) (here before : ClusterView W) → here ≡ before → seen ≡ before.journal → seen ≡ here.journal
  seen_here seen here before is was = was ∙ sym (ap (λ (c : ClusterView W). c.journal) is)

  pub told_here : (plan : W → TaskPlan) (there here : ClusterView W) → there ≡ here → IsHistory (setup_of plan there) there.journal → IsHistory (setup_of plan here) here.journal
  told_here plan there here is history = subst (λ (c : ClusterView W). IsHistory (setup_of plan c) c.journal) is history

  -- the call of the value in its box is the call of the lock
  pub called_in : (plan : W → TaskPlan) (old mid new : PassView Entry (Frame W)) (before here gone after there : ClusterView W) (Does : ClusterView W → ClusterView W → Type 0) →
      here ≡ before → gone ≡ after → there ≡ after →
      old.holds ≡ false → mid ≡ pass_with_value before.journal old → IsPrefix old.seen before.journal → old.frame ≡ Some (frame_of before) →
      (old.number ≡ 0 → filter is_callers before.journal ≡ filter is_callers old.seen) →
      Does here gone → Grew here gone → IsHistory (setup_of plan there) there.journal → new ≡ pass_without_value after.journal mid → Called plan old new Does
  called_in plan old mid new before here gone after there Does at ends told free entered prefix frame quiet does grew history left =
      called plan old mid new before after Does free entered prefix frame quiet
      (subst (λ (c : ClusterView W). Does before c) ends (subst (λ (c : ClusterView W). Does c gone) at does))
      (subst (λ (c : ClusterView W). Grew before c) ends (subst (λ (c : ClusterView W). Grew c gone) at grew))
      (told_here plan there after told history) left
