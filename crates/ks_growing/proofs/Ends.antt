-- The rule of a new table, and the value that comes back for all the passes.
use Rattle.std.proofs.Common.{◌≡◌, ◌≢◌, ℕ, suc, ◌+◌, ◌<◌, Bool, false, List, [], ◌∷◌, length, filter, refl, sym, ap, ◌∙◌, subst, arith, Option, Some}
use mathlib.Core.Logic.{dite}
use mathlib.Core.Option.{some, some-injective, some-ne-none}
use mathlib.Core.List.{IsPrefix}
use native.Mathlib.Decide.{ℕ_discrete}
use lib.ListN.{get_elem?}
use Rattle.atomic_table.specs.Table.{State, Final, Seen, opening}
use Rattle.atomic_table.specs.Seated.{TableId}
use Rattle.ks_growing.specs.declared.view.View.{View}
use Rattle.ks_growing.specs.Rule.{total, view_parts, view_made, home, away, IsTrueView, IsSound, first_view}
use Rattle.ks_growing.specs.Passes.{Each, PassView, pass_view, IsPass, seen_of, made_of, frame_of}
use Rattle.ks_growing.proofs.Lists.{prefix_self, prefix_trans, total_two, total_one}
use Rattle.ks_growing.proofs.Each.{each_head, each_cons}
use Rattle.ks_growing.proofs.Views.{true_false, same_at, reserved_seen}

-- a seat, once it joined the seats of other passes
pub record Absorbed {E F : Type 0} (seat all : View E F) (others : List (PassView E F)) : Type 0 where
  pub number : all.number ≡ seat.number
  pub frame : all.frame ≡ seat.frame
  pub free : all.holds ≡ false
  pub parts : all.parts ≡ 1 + length others
  pub made : all.made ≡ seat.made + total made_of others
  pub begins : IsPrefix seat.seen all.seen
  pub others_begin : Each (λ k p. IsPrefix (seen_of p) all.seen) others
  pub frames : Each (λ k p. frame_of p ≡ seat.frame) others

module _ {T E F : Type 0} (journal : T → List E) (reserved : E → Bool) (frame : T → F) (first : T) (passes : ℕ) where
  abbrev W : Type 0
  W = View E F

  abbrev St : Type 0
  St = State (Option T) W

  abbrev Rule : St → Type 0
  Rule = IsSound journal reserved frame first passes

  pub starts : 0 < passes → Rule (opening (length (journal first) ∷ 0 ∷ 0 ∷ []) (Some first ∷ []) (first_view journal frame first passes))
  starts some_passes = let v : W = first_view journal frame first passes in record {
    log = journal first;
    holder = 0;
    place = home first refl refl refl refl (each_cons (λ (j : ℕ) (w : W). w.holds ≡ false) [] v refl (λ k y e. absurd (some-ne-none y (sym e))));
    each = each_cons (IsTrueView journal reserved frame first (journal first)) [] v
        record { seen = prefix_self (journal first); frame_is = (λ h. refl); other_seen = (journal first, refl); other_frame = (λ h. absurd (omega arith)); idle = (λ z. absurd (omega arith)); place = (λ n h. refl); next = (omega arith) }
        (λ k y e. absurd (some-ne-none y (sym e)));
    begins = prefix_self (journal first);
    grown = omega arith;
    parts = omega arith;
    pass_0 = record { view = v; at_0 = refl; number = refl; whole = some_passes; reserved_are = refl };
  }

  -- the value at the end, where one view stands for all the passes
  pub record IsLast (v : W) (slots : List (Option T)) (value : T) : Type 0 where
    pub slot : get_elem? slots 0 ≡ some (Some value)
    pub begins : IsPrefix (journal first) (journal value)
    pub seen : IsPrefix v.seen (journal value)
    pub made : length (journal value) ≡ length (journal first) + v.made
    pub frame_is : frame value ≡ frame first
    pub own_frame : v.frame ≡ Some (frame value)
    pub reserved_are : v.number ≡ 0 → filter reserved (journal value) ≡ filter reserved v.seen

  ends : (id : ℕ) (v : W) (words : List ℕ) (slots : List (Option T)) → v.parts ≡ passes → 0 < passes → v.holds ≡ false → Final (Seen Rule id v) words slots → (value : T) × IsLast v slots value
  ends id v words slots all some_passes free f =
      let s : St = f.0 in
      let kept : Rule s = f.1.0 in
      let at : get_elem? s.views id ≡ some v = f.1.1 in
      let whole : 0 < v.parts = omega arith in
      let others = λ (j : ℕ) (w : W) (e : get_elem? s.views j ≡ some w) (ne : j ≢ id). let t = total_two view_parts s.views id j v w at e ne in let g = kept.parts in let z : w.parts ≡ 0 = omega arith in (kept.each j w e).idle z in
      let made : total view_made s.views ≡ v.made = total_one view_made s.views id v at (λ j w e ne. (others j w e ne).0) in
      let knows = kept.each id v at in
      elim kept.place [
        | home y ws homes log is nobody ↦ (
          y,
          record {
            slot = f.4 0 (Some y) (ap (λ hs. get_elem? hs 0) homes);
            begins = subst (IsPrefix (journal first)) (sym log) kept.begins;
            seen = subst (IsPrefix v.seen) (sym log) knows.seen;
            made = ap length log ∙ (kept.grown ∙ ap (λ (n : ℕ). length (journal first) + n) made);
            frame_is = is;
            own_frame = knows.frame_is whole ∙ ap Some (sym is);
            reserved_are = (λ n. ap (filter reserved) log ∙ reserved_seen journal reserved frame first passes s id v kept at whole n);
          },
        )
        | away u turn taken ws homes here holds is only ↦ absurd (dite (ℕ_discrete kept.holder id)
            (λ z. true_false (sym holds ∙ (ap (λ (x : W). x.holds) (same_at s.views kept.holder u v here (ap (get_elem? s.views) z ∙ at)) ∙ free)))
            (λ nz. true_false (sym holds ∙ (others kept.holder u here nz).1)))
      ]

  -- what `close` says of its value
  pub record Gives (row : List (PassView E F)) (value : T) : Type 0 where
    pub frame_is : frame value ≡ frame first
    pub frames : Each (λ k p. frame_of p ≡ Some (frame value)) row
    pub begins : IsPrefix (journal first) (journal value)
    pub seen : Each (λ k p. IsPrefix (seen_of p) (journal value)) row
    pub made : length (journal value) ≡ length (journal first) + total made_of row
    pub reserved_are : (p : PassView E F) → get_elem? row 0 ≡ some p → filter reserved (journal value) ≡ filter reserved (seen_of p)

  pub closes : (it lock : TableId) (id : ℕ) (row others : List (PassView E F)) (seat all : W) (words : List ℕ) (slots : List (Option T))
      → length row ≡ passes → 0 < length row → Each (IsPass lock) row → row ≡ pass_view it seat ∷ others → Absorbed seat all others → (seat.number ≡ 0 → filter reserved all.seen ≡ filter reserved seat.seen)
      → Final (Seen Rule id all) words slots → (value : T) × (get_elem? slots 0 ≡ some (Some value)) × Gives row value
  closes it lock id row others seat all words slots count some_passes own is joined plain end =
      let p0 : PassView E F = pass_view it seat in
      let long : length row ≡ suc (length others) = ap length is in
      let number : seat.number ≡ 0 = (each_head (IsPass lock) row others p0 is own).2 in
      let parts = joined.parts in
      let whole : all.parts ≡ passes = omega arith in
      let e = ends id all words slots whole (omega arith) joined.free end in
      let last = e.1 in
      let total_is : total made_of row ≡ seat.made + total made_of others = ap (total made_of) is in
      let made = joined.made in
      let grown = last.made in
      let frame_is : seat.frame ≡ Some (frame e.0) = sym joined.frame ∙ last.own_frame in (
        e.0,
        last.slot,
        record {
          frame_is = last.frame_is;
          frames = subst (Each (λ k p. frame_of p ≡ Some (frame e.0))) (sym is) (each_cons (λ k p. frame_of p ≡ Some (frame e.0)) others p0 frame_is (λ k p a. joined.frames k p a ∙ frame_is));
          begins = last.begins;
          seen = subst (Each (λ k p. IsPrefix (seen_of p) (journal e.0))) (sym is)
              (each_cons (λ k p. IsPrefix (seen_of p) (journal e.0)) others p0 (prefix_trans seat.seen all.seen (journal e.0) joined.begins last.seen) (λ k p a. prefix_trans (seen_of p) all.seen (journal e.0) (joined.others_begin k p a) last.seen));
          made = omega arith;
          reserved_are = (λ p a. last.reserved_are (joined.number ∙ number) ∙ (plain number ∙ ap (λ (q : PassView E F). filter reserved (seen_of q)) (some-injective p0 p (sym (ap (λ l. get_elem? l 0) is) ∙ a))));
        },
      )
