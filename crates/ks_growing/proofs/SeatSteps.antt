-- The splits and joins of seats keep the rule of the table.
use Rattle.std.proofs.Common.{◌≡◌, ℕ, ◌+◌, ◌-◌, ◌<◌, ◌≤◌, Bool, true, false, List, [], ◌∷◌, ◌++◌, filter, set, sym, refl, ap, ◌∙◌, subst, arith, Option}
use mathlib.Core.Option.{none, some}
use mathlib.Core.List.{IsPrefix}
use lib.ListN.{get_elem?}
use lib.Seq.{set-get_or}
use Rattle.atomic_table.specs.Table.{State, Me, step, keeps, Allows, Splits, Joins}
use Rattle.atomic_table.proofs.Lists.{at_longer, set_else}
use Rattle.ks_growing.specs.declared.view.View.{View}
use Rattle.ks_growing.specs.Rule.{view_parts, view_made, IsTrueView, IsSound}
use Rattle.ks_growing.specs.Steps.{longer, dealer_view, dealt_view, copy_of, both_of, spent_view, view_with_longer, KeepsLonger}
use Rattle.ks_growing.proofs.Lists.{total_set, total_same, total_snoc, longer_within, longer_left, longer_right, longer_either, filter_between}
use Rattle.ks_growing.proofs.Views.{true_false, same_at, each_set, each_more, reserved_set, place_kept, reserved_seen, number_of_0}

-- a seat took in another, and then compared what both have seen
pub record TookIn {S E F : Type 0} (reserved : E → Bool) (v w : View E F) (m : Me (Option S) (View E F)) : Type 0 where
  pub holds : m.0.holds ≡ v.holds
  pub number : m.0.number ≡ v.number
  pub frame : m.0.frame ≡ v.frame
  pub parts : m.0.parts ≡ v.parts + w.parts
  pub made : m.0.made ≡ v.made + w.made
  pub begins : IsPrefix v.seen m.0.seen
  pub other_begins : IsPrefix w.seen m.0.seen
  pub other_frame : 0 < v.parts → 0 < w.parts → w.frame ≡ v.frame
  pub reserved_are : v.number ≡ 0 → 0 < v.parts → filter reserved m.0.seen ≡ filter reserved v.seen

pub took_in : {T E F : Type 0} (reserved : E → Bool) (v w : View E F) (j m : Me (Option T) (View E F)) → j.0 ≡ both_of v w → KeepsLonger reserved (step 0 0 0 0 none) j 0 m → TookIn reserved v w m
took_in reserved v w j m is told =
    let t = subst (λ z. KeepsLonger reserved (step 0 0 0 0 none) (z, j.1) 0 m) is told in
    let seen = ap (λ x. x.0.seen) t.0 in
    record {
      holds = ap (λ x. x.0.holds) t.0;
      number = ap (λ x. x.0.number) t.0;
      frame = ap (λ x. x.0.frame) t.0;
      parts = ap (λ x. x.0.parts) t.0;
      made = ap (λ x. x.0.made) t.0;
      begins = subst (IsPrefix v.seen) (sym seen) t.1;
      other_begins = subst (IsPrefix w.seen) (sym seen) t.2;
      other_frame = (λ h k. t.5 (omega arith) k);
      reserved_are = (λ z h. ap (filter reserved) seen ∙ t.4 z (omega arith));
    }

-- of the two views into which one is cut, the second knows what the first knew, and so does the first
pub record Knows {E F : Type 0} (v w : View E F) : Type 0 where
  pub seen : w.seen ≡ v.seen
  pub frame : w.frame ≡ v.frame
  pub other_parts : w.other_parts ≡ v.other_parts
  pub other_seen : w.other_seen ≡ v.other_seen
  pub other_frame : w.other_frame ≡ v.other_frame

-- a view that doesn't hold the value is cut in two
pub record IsCut {E F : Type 0} (v l r : View E F) : Type 0 where
  pub free : v.holds ≡ false
  pub whole : 0 < v.parts
  pub left_knows : Knows v l
  pub left_free : l.holds ≡ false
  pub left_number : l.number ≡ v.number
  pub left_whole : 0 < l.parts
  pub left_made : l.made ≡ v.made
  pub left_next : 0 < v.next → 0 < l.next
  pub right_knows : Knows v r
  pub right_free : r.holds ≡ false
  pub right_number : 0 < v.next → r.number ≡ 0 → r.parts ≡ 0
  pub right_made : r.made ≡ 0
  pub right_next : 0 < r.next
  pub parts : l.parts + r.parts ≡ v.parts

module _ {T E F : Type 0} (journal : T → List E) (reserved : E → Bool) (frame : T → F) (first : T) where
  abbrev W : Type 0
  W = View E F

  abbrev St : Type 0
  St = State (Option T) W

  abbrev Sat : Type 0
  Sat = Me (Option T) W

  abbrev IsTrue : List E → ℕ → W → Type 0
  IsTrue = IsTrueView journal reserved frame first

  -- a view that knows the same is as true
  true_too : (log : List E) (j i : ℕ) (v w : W) → Knows v w → 0 < v.parts → IsTrue log j v → (w.parts ≡ 0 → (w.made ≡ 0) × (w.holds ≡ false)) → (w.number ≡ 0 → 0 < w.parts → i ≡ 0) → 0 < w.next → IsTrue log i w
  true_too log j i v w k whole t idle place next = record {
    seen = subst (λ (x : List E). IsPrefix x log) (sym k.seen) t.seen;
    frame_is = (λ h. k.frame ∙ t.frame_is whole);
    other_seen = subst (λ (x : List E). IsPrefix x log) (sym k.other_seen) t.other_seen;
    other_frame = (λ h. k.other_frame ∙ t.other_frame (subst (λ (n : ℕ). 0 < n) k.other_parts h));
    idle = idle;
    place = place;
    next = next;
  }

  module _ (passes : ℕ) where
    abbrev Rule : St → Type 0
    Rule = IsSound journal reserved frame first passes

    cuts : (id : ℕ) (v l r : W) → IsCut v l r → Splits Rule id v l r
    cuts id v l r c s kept at =
        let knows = kept.each id v at in
        let views' : List W = set s.views id l ++ r ∷ [] in
        let old = each_more (λ (j : ℕ) (w : W). w.holds ≡ true → get_elem? s.views j ≡ some w) (set s.views id l) r (λ j h. absurd (true_false (sym h ∙ c.right_free)))
        (λ j w e. each_set (λ (j : ℕ) (w : W). w.holds ≡ true → get_elem? s.views j ≡ some w) s.views id l (λ h. absurd (true_false (sym h ∙ c.left_free))) (λ j w ne e h. e) j w e) in
        let new = λ (j : ℕ) (w : W) (e : get_elem? s.views j ≡ some w) (h : w.holds ≡ true).
        at_longer (set s.views id l) (r ∷ []) j w (set_else s.views id j l (λ z. true_false (sym h ∙ (ap (λ (x : W). x.holds) (same_at s.views j w v e (ap (get_elem? s.views) z ∙ at)) ∙ c.free))) ∙ e) in
        let pass_0 = reserved_set journal reserved frame first kept.log kept.log s.views id v l kept.pass_0 at c.left_number (λ h. c.left_whole)
        (λ z. reserved_seen journal reserved frame first passes s id v kept at c.whole (number_of_0 journal reserved frame first passes s id v kept at z) ∙ ap (filter reserved) (sym c.left_knows.seen)) (λ nz. refl) in
        record {
          log = kept.log;
          holder = kept.holder;
          place = place_kept journal reserved frame first kept.log kept.holder s views' kept.place old new;
          each = each_more (IsTrue kept.log) (set s.views id l) r
              (λ j. true_too kept.log id j v r c.right_knows c.whole knows (λ z. (c.right_made, c.right_free)) (λ n h. absurd (let z = c.right_number knows.next n in omega arith)) c.right_next)
              (each_set (IsTrue kept.log) s.views id l
              (true_too kept.log id id v l c.left_knows c.whole knows (λ z. absurd (let h = c.left_whole in omega arith)) (λ n h. knows.place (sym c.left_number ∙ n) c.whole) (c.left_next knows.next))
              (λ j w ne e. kept.each j w e));
          begins = kept.begins;
          grown = let t = total_set view_made s.views id v l at in let u = total_snoc view_made (set s.views id l) r in let g = kept.grown in let a = c.left_made in let b = c.right_made in omega arith;
          parts = let t = total_set view_parts s.views id v l at in let u = total_snoc view_parts (set s.views id l) r in let g = kept.parts in let a = c.parts in omega arith;
          pass_0 = record { view = pass_0.view; at_0 = at_longer (set s.views id l) (r ∷ []) 0 pass_0.view pass_0.at_0; number = pass_0.number; whole = pass_0.whole; reserved_are = pass_0.reserved_are };
        }

    pub deals : (id : ℕ) (v : W) → v.holds ≡ false → 2 ≤ v.parts → v.made ≡ 0 → Splits Rule id v (dealer_view v) (dealt_view v)
    deals id v free two none_made = cuts id v (dealer_view v) (dealt_view v) record {
      free = free;
      whole = omega arith;
      left_knows = record { seen = refl; frame = refl; other_parts = refl; other_seen = refl; other_frame = refl };
      left_free = free;
      left_number = refl;
      left_whole = omega arith;
      left_made = refl;
      left_next = (λ h. omega arith);
      right_knows = record { seen = refl; frame = refl; other_parts = refl; other_seen = refl; other_frame = refl };
      right_free = refl;
      right_number = (λ h z. absurd (omega arith));
      right_made = refl;
      right_next = omega arith;
      parts = omega arith;
    }

    pub copies : (id : ℕ) (v : W) → v.holds ≡ false → 0 < v.parts → Splits Rule id v v (copy_of v)
    copies id v free some_parts = cuts id v v (copy_of v) record {
      free = free;
      whole = some_parts;
      left_knows = record { seen = refl; frame = refl; other_parts = refl; other_seen = refl; other_frame = refl };
      left_free = free;
      left_number = refl;
      left_whole = some_parts;
      left_made = refl;
      left_next = (λ h. h);
      right_knows = record { seen = refl; frame = refl; other_parts = refl; other_seen = refl; other_frame = refl };
      right_free = refl;
      right_number = (λ h z. refl);
      right_made = refl;
      right_next = omega arith;
      parts = omega arith;
    }

    -- a seat that doesn't hold the value takes in another
    pub takes_in : (id other : ℕ) (v w : W) → v.holds ≡ false → w.holds ≡ false → 0 < v.parts → (w.number ≡ 0 → w.parts ≡ 0) → Joins Rule id v other w (both_of v w) spent_view
    takes_in id other v w v_free w_free whole plain s kept at apart its =
        let l : W = both_of v w in
        let views' : List W = set s.views id l in
        let its' : get_elem? s.views other ≡ some w = sym (set_else s.views id other l apart) ∙ its in
        let knows = kept.each id v at in
        let others = kept.each other w its' in
        let pass_0 = reserved_set journal reserved frame first kept.log kept.log s.views id v l kept.pass_0 at refl (λ h. omega arith)
        (λ z. reserved_seen journal reserved frame first passes s id v kept at whole (number_of_0 journal reserved frame first passes s id v kept at z)) (λ nz. refl) in
        let not_first : ¬ (other ≡ 0) = (λ z. let same : pass_0.view ≡ w = same_at views' 0 pass_0.view w pass_0.at_0 (ap (get_elem? views') (sym z) ∙ its) in
        let no_parts = plain (ap (λ (x : W). x.number) (sym same) ∙ pass_0.number) in let some_parts = subst (λ (x : W). 0 < x.parts) same pass_0.whole in absurd (omega arith)) in
        let old = λ (j : ℕ) (u : W) (e : get_elem? (set views' other spent_view) j ≡ some u). each_set (λ (j : ℕ) (u : W). u.holds ≡ true → get_elem? s.views j ≡ some u) views' other spent_view (λ h. absurd (true_false (sym h)))
        (λ j u ne e. each_set (λ (j : ℕ) (u : W). u.holds ≡ true → get_elem? s.views j ≡ some u) s.views id l (λ h. absurd (true_false (sym h ∙ v_free))) (λ j u ne e h. e) j u e) j u e in
        let new = λ (j : ℕ) (u : W) (e : get_elem? s.views j ≡ some u) (h : u.holds ≡ true).
        set_else views' other j spent_view (λ z. true_false (sym h ∙ (ap (λ (x : W). x.holds) (same_at s.views j u w e (ap (get_elem? s.views) z ∙ its')) ∙ w_free)))
        ∙ (set_else s.views id j l (λ z. true_false (sym h ∙ (ap (λ (x : W). x.holds) (same_at s.views j u v e (ap (get_elem? s.views) z ∙ at)) ∙ v_free))) ∙ e) in
        record {
          log = kept.log;
          holder = kept.holder;
          place = place_kept journal reserved frame first kept.log kept.holder s (set views' other spent_view) kept.place old new;
          each = each_set (IsTrue kept.log) views' other spent_view
              record { seen = (kept.log, refl); frame_is = (λ h. absurd (omega arith)); other_seen = (kept.log, refl); other_frame = (λ h. absurd (omega arith)); idle = (λ z. (refl, refl)); place = (λ n h. absurd (omega arith)); next = (omega arith) }
              (λ j u ne e. each_set (IsTrue kept.log) s.views id l
              record { seen = knows.seen; frame_is = (λ h. knows.frame_is whole); other_seen = others.seen; other_frame = others.frame_is; idle = (λ z. absurd (omega arith)); place = (λ n h. knows.place n whole); next = knows.next }
              (λ j u ne e. kept.each j u e) j u e);
          begins = kept.begins;
          grown = let t = total_set view_made s.views id v l at in let u = total_set view_made views' other w spent_view its in let g = kept.grown in omega arith;
          parts = let t = total_set view_parts s.views id v l at in let u = total_set view_parts views' other w spent_view its in let g = kept.parts in omega arith;
          pass_0 = record { view = pass_0.view; at_0 = set_else views' other 0 spent_view (λ z. not_first (sym z)) ∙ pass_0.at_0; number = pass_0.number; whole = pass_0.whole; reserved_are = pass_0.reserved_are };
        }

    -- a seat that doesn't hold the value compares what it has seen with what stands beside
    pub compares : (slots id : ℕ) (me : Sat) → me.0.holds ≡ false → 0 < me.0.parts → Allows Rule slots id me 0 (λ n. n) (KeepsLonger reserved (step slots 0 0 0 none) me)
    compares slots id me me_free whole s kept deep at fits =
        let v : W = me.0 in
        let l : W = view_with_longer v in
        let knows = kept.each id v at in
        let on = longer_within v.seen v.other_seen kept.log knows.seen knows.other_seen in
        let from = longer_left v.seen v.other_seen kept.log knows.seen knows.other_seen in
        let old = each_set (λ (j : ℕ) (w : W). w.holds ≡ true → get_elem? s.views j ≡ some w) s.views id l (λ h. absurd (true_false (sym h ∙ me_free))) (λ j w ne e h. e) in
        let new = λ (j : ℕ) (w : W) (e : get_elem? s.views j ≡ some w) (h : w.holds ≡ true).
        set_else s.views id j l (λ z. true_false (sym h ∙ (ap (λ (x : W). x.holds) (same_at s.views j w v e (ap (get_elem? s.views) z ∙ at)) ∙ me_free))) ∙ e in
        let reserved_stay = λ (n : v.number ≡ 0). filter_between reserved v.seen (longer v.seen v.other_seen) kept.log from on (reserved_seen journal reserved frame first passes s id v kept at whole n) in
        let rule : Rule record { words = s.words; homes = s.homes; views = set s.views id l } = record {
          log = kept.log;
          holder = kept.holder;
          place = place_kept journal reserved frame first kept.log kept.holder s (set s.views id l) kept.place old new;
          each = each_set (IsTrue kept.log) s.views id l
              record { seen = on; frame_is = knows.frame_is; other_seen = (kept.log, refl); other_frame = (λ h. absurd (omega arith)); idle = knows.idle; place = knows.place; next = knows.next }
              (λ j w ne e. kept.each j w e);
          begins = kept.begins;
          grown = let t = total_same view_made s.views id v l at refl in let g = kept.grown in omega arith;
          parts = total_same view_parts s.views id v l at refl ∙ kept.parts;
          pass_0 = reserved_set journal reserved frame first kept.log kept.log s.views id v l kept.pass_0 at refl (λ h. h)
              (λ z. let n = number_of_0 journal reserved frame first passes s id v kept at z in reserved_seen journal reserved frame first passes s id v kept at whole n ∙ sym (reserved_stay n)) (λ nz. refl);
        } in (
          l,
          keeps,
          tt,
          subst (λ (ws : List ℕ). Rule record { words = ws; homes = s.homes; views = set s.views id l }) (sym (set-get_or s.words 0 0)) rule,
          (refl, from, longer_right v.seen v.other_seen kept.log knows.seen knows.other_seen, longer_either v.seen v.other_seen kept.log knows.seen knows.other_seen, (λ n h. reserved_stay n), (λ h k. knows.other_frame k ∙ sym (knows.frame_is h))),
        )
