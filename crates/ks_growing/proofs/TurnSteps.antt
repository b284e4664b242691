-- The steps of `enter` and `leave` keep the rule of the table.
use Rattle.std.proofs.Common.{◌≡◌, ◌≢◌, ℕ, eqb, ◌<◌, ◌≤◌, Bool, true, false, List, [], ◌∷◌, length, filter, set, slice_index, slice_set, sym, refl, ap, ◌∙◌, subst, arith, Option, Some}
use mathlib.Core.Option.{none, some, some-injective}
use mathlib.Core.List.{IsPrefix}
use lib.ListN.{get_elem?}
use prog.Atomic.{either}
use Rattle.atomic_table.specs.Table.{State, Me, Step, step, keeps, takes, gives, put_back, rest, Allows}
use Rattle.atomic_table.proofs.Lists.{set_again, exchanged}
use Rattle.ks_growing.specs.declared.view.View.{View}
use Rattle.ks_growing.specs.Rule.{view_parts, view_made, IsTaken, home, away, IsTrueView, IsSound}
use Rattle.ks_growing.specs.Steps.{view_with_value, view_without_value, IsFree, TakesValue, WritesCount, ReturnsValue}
use Rattle.ks_growing.proofs.Lists.{prefix_self, prefix_trans, prefix_length, total_set, total_same}
use Rattle.ks_growing.proofs.Views.{at_own, not_true, each_set, true_later, reserved_set, reserved_seen, number_of_0}

module _ {T E F : Type 0} (journal : T → List E) (reserved : E → Bool) (frame : T → F) (first : T) (passes : ℕ) where
  abbrev W : Type 0
  W = View E F

  abbrev St : Type 0
  St = State (Option T) W

  abbrev Sat : Type 0
  Sat = Me (Option T) W

  abbrev Rule : St → Type 0
  Rule = IsSound journal reserved frame first passes

  abbrev Slots : Type 0
  Slots = List (mathlib.Core.Option.Option (Option T))

  -- the value is out, and stays there, whatever the turn becomes
  stays : (s : St) (words' : List ℕ) (id : ℕ) (v w : W) (turn : ℕ) (kept : Rule s) → IsTaken turn → words' ≡ v.count ∷ turn ∷ 0 ∷ [] → s.homes ≡ none ∷ [] → get_elem? s.views kept.holder ≡ some v → v.holds ≡ true → v.seen ≡ kept.log
      → ((j : ℕ) (u : W) → get_elem? s.views j ≡ some u → u.holds ≡ true → j ≡ kept.holder) → get_elem? s.views id ≡ some w → Rule record { words = words'; homes = s.homes; views = set s.views id w }
  stays s words' id v w turn kept taken words homes here holds log only at =
      subst (λ (views : List W). Rule record { words = words'; homes = s.homes; views = views }) (sym (set_again s.views id w at)) record {
        log = kept.log;
        holder = kept.holder;
        place = away v turn taken words homes here holds log only;
        each = kept.each;
        begins = kept.begins;
        grown = kept.grown;
        parts = kept.parts;
        pass_0 = kept.pass_0;
      }

  -- the seat id takes the value out
  takes_out : (s : St) (id : ℕ) (me : Sat) (y : T) (turn : ℕ) (kept : Rule s) → IsTaken turn → IsFree me → get_elem? s.views id ≡ some me.0 → journal y ≡ kept.log → ((j : ℕ) (v : W) → get_elem? s.views j ≡ some v → v.holds ≡ false)
      → Rule record { words = length (journal y) ∷ turn ∷ 0 ∷ []; homes = none ∷ []; views = set s.views id (view_with_value (journal y) me.0) }
  takes_out s id me y turn kept taken free at log nobody =
      let w : W = view_with_value (journal y) me.0 in
      let knows = kept.each id me.0 at in
      let alone = each_set (λ (j : ℕ) (v : W). v.holds ≡ true → j ≡ id) s.views id w (λ h. refl) (λ j v ne e h. absurd (let n = nobody j v e in cc)) in
      record {
        log = kept.log;
        holder = id;
        place = away w turn taken refl refl (at_own s.views id me.0 w at) refl log alone;
        each = each_set (IsTrueView journal reserved frame first kept.log) s.views id w
            record { seen = subst (IsPrefix (journal y)) log (prefix_self (journal y)); frame_is = knows.frame_is; other_seen = knows.other_seen; other_frame = knows.other_frame; idle = (λ z. absurd (let p = free.1 in omega arith)); place = knows.place; next = knows.next }
            (λ j v ne e. kept.each j v e);
        begins = kept.begins;
        grown = let t = total_same view_made s.views id me.0 w at refl in let g = kept.grown in omega arith;
        parts = total_same view_parts s.views id me.0 w at refl ∙ kept.parts;
        pass_0 = reserved_set journal reserved frame first kept.log kept.log s.views id me.0 w kept.pass_0 at refl (λ h. h) (λ z. ap (filter reserved) (sym log)) (λ z. refl);
      }

  -- a step on the turn that makes it a taken one, whatever it was
  enters_by : (slots id : ℕ) (me : Sat) (f : ℕ → ℕ) (st : Step (Option T)) → ((n : ℕ) → n ≤ 2 → IsTaken (f n)) → IsFree me → Allows Rule slots id me 1 f (TakesValue journal reserved frame st me)
  enters_by slots id me f st takes_turn free s kept deep at fits = elim kept.place [
    | home y words homes log frame_is nobody ↦
        let w : W = view_with_value (journal y) me.0 in
        let turn : slice_index s.words 1 ≡ 0 = ap (λ ws. slice_index ws 1) words in
        let words' : slice_set s.words 1 (f (slice_index s.words 1)) ≡ length (journal y) ∷ f 0 ∷ 0 ∷ [] =
        ap (λ ws. slice_set ws 1 (f (slice_index ws 1))) words ∙ ap (λ (l : List E). length l ∷ f 0 ∷ 0 ∷ []) (sym log) in
        let homes' : slice_set s.homes 0 none ≡ none ∷ [] = ap (λ hs. slice_set hs 0 none) homes in
        let knows = kept.each id me.0 at in
        let whole : 0 < me.0.parts = (let p = free.1 in omega arith) in (
          w,
          takes 0 (Some y),
          ap (λ hs. get_elem? hs 0) homes,
          subst (λ (z : List ℕ × Slots). Rule record { words = z.0; homes = z.1; views = set s.views id w }) (λ i. (sym words' i, sym homes' i)) (takes_out s id me y (f 0) kept (takes_turn 0 (omega arith)) free at log nobody),
          (
            (λ z. (
              y,
              (
                ap (λ c. (0, Some y) ∷ c) free.2,
                refl,
                subst (IsPrefix me.0.seen) (sym log) knows.seen,
                knows.frame_is whole ∙ ap Some (sym frame_is),
                (λ number. ap (filter reserved) log ∙ reserved_seen journal reserved frame first passes s id me.0 kept at whole number),
              ),
            )),
            (λ nz. absurd (nz turn)),
          ),
        )
    | away v turn taken words homes here holds log only ↦
        let was : slice_index s.words 1 ≡ turn = ap (λ ws. slice_index ws 1) words in
        let words' : slice_set s.words 1 (f (slice_index s.words 1)) ≡ v.count ∷ f turn ∷ 0 ∷ [] = ap (λ ws. slice_set ws 1 (f (slice_index ws 1))) words in
        let some_turn = taken.0 in (
          me.0,
          keeps,
          tt,
          stays s _ id v me.0 (f turn) kept (takes_turn turn taken.1) words' homes here holds log only at,
          ((λ z. absurd (omega arith)), (λ nz. refl)),
        )
  ]

  -- a try: the turn becomes 1 where it was free
  pub enters : (slots id : ℕ) (me : Sat) → IsFree me → Allows Rule slots id me 1 (λ n. either (eqb n 0) 1 n) (TakesValue journal reserved frame (step slots 1 0 1 none) me)
  enters slots id me free = enters_by slots id me (λ n. either (eqb n 0) 1 n) (step slots 1 0 1 none) (λ n few. exchanged n 0 1 IsTaken (λ hit. (omega arith, omega arith)) (λ miss. (omega arith, few))) free

  -- a try before sleep: the turn becomes 2 in any case
  pub enters_last : (slots id : ℕ) (me : Sat) → IsFree me → Allows Rule slots id me 1 (λ _. 2) (TakesValue journal reserved frame (step slots 1 2 0 none) me)
  enters_last slots id me free = enters_by slots id me (λ _. 2) (step slots 1 2 0 none) (λ n few. (omega arith, omega arith)) free

  -- the seat id, which holds the value, writes a count
  writes : (s : St) (id : ℕ) (me : Sat) (n turn : ℕ) (kept : Rule s) → IsTaken turn → me.0.holds ≡ true → me.0.parts ≡ 1 → get_elem? s.views id ≡ some me.0 → s.homes ≡ none ∷ [] → me.0.seen ≡ kept.log
      → ((j : ℕ) (v : W) → get_elem? s.views j ≡ some v → v.holds ≡ true → j ≡ id) → Rule record { words = n ∷ turn ∷ 0 ∷ []; homes = s.homes; views = set s.views id record me.0 { count = n } }
  writes s id me n turn kept taken holds one at homes log only =
      let w : W = record me.0 { count = n } in
      let knows = kept.each id me.0 at in
      let whole : 0 < me.0.parts = omega arith in
      record {
        log = kept.log;
        holder = id;
        place = away w turn taken refl homes (at_own s.views id me.0 w at) holds log (each_set (λ (j : ℕ) (v : W). v.holds ≡ true → j ≡ id) s.views id w (λ h. refl) (λ j v ne e. only j v e));
        each = each_set (IsTrueView journal reserved frame first kept.log) s.views id w
            record { seen = knows.seen; frame_is = knows.frame_is; other_seen = knows.other_seen; other_frame = knows.other_frame; idle = knows.idle; place = knows.place; next = knows.next }
            (λ j v ne e. kept.each j v e);
        begins = kept.begins;
        grown = let t = total_same view_made s.views id me.0 w at refl in let g = kept.grown in omega arith;
        parts = total_same view_parts s.views id me.0 w at refl ∙ kept.parts;
        pass_0 = reserved_set journal reserved frame first kept.log kept.log s.views id me.0 w kept.pass_0 at refl (λ h. h)
            (λ z. reserved_seen journal reserved frame first passes s id me.0 kept at whole (number_of_0 journal reserved frame first passes s id me.0 kept at z)) (λ nz. refl);
      }

  pub counts : (slots id : ℕ) (me : Sat) (n : ℕ) → me.0.holds ≡ true → me.0.parts ≡ 1 → Allows Rule slots id me 0 (λ _. n) (λ _. WritesCount (step slots 0 n 0 none) me n)
  counts slots id me n holds one s kept deep at fits = elim kept.place [
    | home y words homes log frame_is nobody ↦ absurd (let none_holds = nobody id me.0 at in cc)
    | away v turn taken words homes here v_holds log only ↦
        let w : W = record me.0 { count = n } in
        let own : id ≡ kept.holder = only id me.0 at holds in
        let same : v ≡ me.0 = some-injective v me.0 (sym here ∙ (ap (get_elem? s.views) (sym own) ∙ at)) in
        let words' : slice_set s.words 0 n ≡ n ∷ turn ∷ 0 ∷ [] = ap (λ ws. slice_set ws 0 n) words in (
          w,
          keeps,
          tt,
          subst (λ (ws : List ℕ). Rule record { words = ws; homes = s.homes; views = set s.views id w }) (sym words')
              (writes s id me n turn kept taken holds one at homes (ap (λ (x : W). x.seen) (sym same) ∙ log) (λ j u e h. only j u e h ∙ sym own)),
          refl,
        )
  ]

  -- the seat id puts the value back
  puts_back : (s : St) (id : ℕ) (me : Sat) (y : T) (kept : Rule s) → me.0.holds ≡ true → me.0.parts ≡ 1 → get_elem? s.views id ≡ some me.0 → kept.log ≡ me.0.seen → IsPrefix me.0.seen (journal y) → me.0.frame ≡ Some (frame y)
      → (me.0.number ≢ 0 → filter reserved (journal y) ≡ filter reserved me.0.seen) → ((j : ℕ) (v : W) → get_elem? s.views j ≡ some v → v.holds ≡ true → j ≡ id)
      → Rule record { words = length (journal y) ∷ 0 ∷ 0 ∷ []; homes = some (Some y) ∷ []; views = set s.views id (view_without_value (journal y) me.0) }
  puts_back s id me y kept holds one at log longer frame_is plain only =
      let w : W = view_without_value (journal y) me.0 in
      let knows = kept.each id me.0 at in
      let whole : 0 < me.0.parts = omega arith in
      let on : IsPrefix kept.log (journal y) = subst (λ (l : List E). IsPrefix l (journal y)) (sym log) longer in
      let framed : frame y ≡ frame first = (let a = knows.frame_is whole in let b : Some (frame y) ≡ Some (frame first) = sym frame_is ∙ a in cc) in
      let nobody = each_set (λ (j : ℕ) (v : W). v.holds ≡ false) s.views id w refl (λ j v ne e. not_true v.holds (λ h. ne (only j v e h))) in
      record {
        log = journal y;
        holder = id;
        place = home y refl refl refl framed nobody;
        each = each_set (IsTrueView journal reserved frame first (journal y)) s.views id w
            record { seen = prefix_self (journal y); frame_is = knows.frame_is; other_seen = prefix_trans me.0.other_seen kept.log (journal y) knows.other_seen on; other_frame = knows.other_frame; idle = (λ z. absurd (omega arith)); place = knows.place; next = knows.next }
            (λ j v ne e. true_later journal reserved frame first kept.log (journal y) j v on (kept.each j v e));
        begins = prefix_trans (journal first) kept.log (journal y) kept.begins on;
        grown =
            let t = total_set view_made s.views id me.0 w at in
            let g = kept.grown in
            let l : length kept.log ≡ length me.0.seen = ap length log in
            let p = prefix_length me.0.seen (journal y) longer in
            omega arith;
        parts = total_same view_parts s.views id me.0 w at refl ∙ kept.parts;
        pass_0 = reserved_set journal reserved frame first kept.log (journal y) s.views id me.0 w kept.pass_0 at refl (λ h. h) (λ z. refl)
            (λ nz. plain (λ number. nz (knows.place number whole)) ∙ ap (filter reserved) (sym log));
      }

  pub leaves : (slots id : ℕ) (me : Sat) (y : T) → me.0.holds ≡ true → me.0.parts ≡ 1 → me.0.count ≡ length (journal y) → me.1 ≡ (0, Some y) ∷ [] → IsPrefix me.0.seen (journal y) → me.0.frame ≡ Some (frame y)
      → (me.0.number ≢ 0 → filter reserved (journal y) ≡ filter reserved me.0.seen) → Allows Rule slots id me 1 (λ _. 0) (ReturnsValue journal (step slots 1 0 0 none) me)
  leaves slots id me y holds one count carried longer frame_is plain s kept deep at fits = elim kept.place [
    | home y' words homes log frame_is' nobody ↦ absurd (let n = nobody id me.0 at in cc)
    | away v turn taken words homes here v_holds log only ↦
        let w : W = view_without_value (journal y) me.0 in
        let own : id ≡ kept.holder = only id me.0 at holds in
        let same : v ≡ me.0 = some-injective v me.0 (sym here ∙ (ap (get_elem? s.views) (sym own) ∙ at)) in
        let log' : kept.log ≡ me.0.seen = sym log ∙ ap (λ (x : W). x.seen) same in
        let count' : v.count ≡ length (journal y) = ap (λ (x : W). x.count) same ∙ count in
        let words' : slice_set s.words 1 0 ≡ length (journal y) ∷ 0 ∷ 0 ∷ [] = ap (λ ws. slice_set ws 1 0) words ∙ ap (λ (n : ℕ). n ∷ 0 ∷ 0 ∷ []) count' in
        let homes' : put_back s.homes me.1 ≡ some (Some y) ∷ [] = ap (put_back s.homes) carried ∙ ap (λ hs. slice_set hs 0 (some (Some y))) homes in (
          w,
          gives,
          tt,
          subst (λ (z : List ℕ × Slots). Rule record { words = z.0; homes = z.1; views = set s.views id w }) (λ i. (sym words' i, sym homes' i))
              (puts_back s id me y kept holds one at log' longer frame_is plain (λ j u e h. only j u e h ∙ sym own)),
          (λ z e. let is : y ≡ z = (let q = sym carried ∙ e in cc) in λ i. (view_without_value (journal (is i)) me.0, rest (carried i))),
        )
  ]
