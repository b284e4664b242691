-- What stays true of the seats' views when one of them changes.
use Rattle.std.proofs.Common.{◌≡◌, ◌≢◌, ℕ, zero, suc, ◌<◌, Bool, true, false, List, [], ◌∷◌, ◌++◌, filter, set, sym, refl, ap, ◌∙◌, subst, ⊎_elim, Option}
use mathlib.Core.Logic.{dite}
use mathlib.Core.Option.{some, some-injective, some-ne-none}
use mathlib.Core.List.{IsPrefix}
use native.Mathlib.Decide.{ℕ_discrete}
use lib.ListN.{get_elem?}
use Rattle.atomic_table.specs.Table.{State}
use Rattle.atomic_table.proofs.Lists.{at_set, at_snoc, set_else}
use Rattle.ks_growing.specs.declared.view.View.{View}
use Rattle.ks_growing.specs.Rule.{Place, home, away, IsTrueView, HasReserved, IsSound}
use Rattle.ks_growing.proofs.Lists.{prefix_trans}

pub at_own : {A : Type 0} (l : List A) (i : ℕ) (a b : A) → get_elem? l i ≡ some a → get_elem? (set l i b) i ≡ some b
at_own [] i a b e = absurd (some-ne-none a (sym e))
at_own (x ∷ xs) zero a b e = refl
at_own (x ∷ xs) (suc i) a b e = at_own xs i a b e

pub not_true : (b : Bool) → ¬ (b ≡ true) → b ≡ false
not_true true n = absurd (n refl)
not_true false n = refl

pub true_false : ¬ (true ≡ false)
true_false e = absurd cc

pub same_at : {A : Type 0} (l : List A) (i : ℕ) (a b : A) → get_elem? l i ≡ some a → get_elem? l i ≡ some b → a ≡ b
same_at l i a b e h = some-injective a b (sym e ∙ h)

module _ {V : Type 0} where
  -- after the view of one seat changed
  pub each_set : (P : ℕ → V → Type 0) (views : List V) (id : ℕ) (w : V) → P id w → ((j : ℕ) (v : V) → j ≢ id → get_elem? views j ≡ some v → P j v)
      → (j : ℕ) (v : V) → get_elem? (set views id w) j ≡ some v → P j v
  each_set P views id w own others j v e = ⊎_elim (λ (t : (j ≡ id) × (w ≡ v)). subst (λ (x : ℕ × V). P x.0 x.1) (λ i. (sym t.0 i, t.1 i)) own)
      (λ (t : (j ≢ id) × (get_elem? views j ≡ some v)). others j v t.0 t.1) (at_set views id j w v e)

  -- after a seat came, of which the fact holds at every place
  pub each_more : (P : ℕ → V → Type 0) (views : List V) (w : V) → ((j : ℕ) → P j w) → ((j : ℕ) (v : V) → get_elem? views j ≡ some v → P j v)
      → (j : ℕ) (v : V) → get_elem? (views ++ w ∷ []) j ≡ some v → P j v
  each_more P views w own others j v e = ⊎_elim (λ (t : get_elem? views j ≡ some v). others j v t) (λ (t : w ≡ v). subst (P j) t (own j)) (at_snoc views w v j e)

module _ {T E F : Type 0} (journal : T → List E) (reserved : E → Bool) (frame : T → F) (first : T) where
  abbrev pub W : Type 0
  W = View E F

  abbrev pub St : Type 0
  St = State (Option T) W

  -- what is true of a journal stays true of one that it begins
  pub true_later : (log log' : List E) (j : ℕ) (v : W) → IsPrefix log log' → IsTrueView journal reserved frame first log j v → IsTrueView journal reserved frame first log' j v
  true_later log log' j v on k = record {
    seen = prefix_trans v.seen log log' k.seen on;
    frame_is = k.frame_is;
    other_seen = prefix_trans v.other_seen log log' k.other_seen on;
    other_frame = k.other_frame;
    idle = k.idle;
    place = k.place;
    next = k.next;
  }

  -- the seat 0 and the reserved entries, after a seat changed and the journal grew
  pub reserved_set : (log log' : List E) (views : List W) (id : ℕ) (v w : W) → HasReserved journal reserved frame first log views → get_elem? views id ≡ some v → w.number ≡ v.number → (0 < v.parts → 0 < w.parts)
      → (id ≡ 0 → filter reserved log' ≡ filter reserved w.seen) → (id ≢ 0 → filter reserved log' ≡ filter reserved log) → HasReserved journal reserved frame first log' (set views id w)
  reserved_set log log' views id v w c at number parts here else = dite (ℕ_discrete id 0)
      (λ z. let at0 : get_elem? views 0 ≡ some v = ap (get_elem? views) (sym z) ∙ at in let same : c.view ≡ v = some-injective c.view v (sym c.at_0 ∙ at0) in record {
        view = w;
        at_0 = subst (λ (i : ℕ). get_elem? (set views id w) i ≡ some w) z (at_own views id v w at);
        number = number ∙ ap (λ (x : W). x.number) (sym same) ∙ c.number;
        whole = parts (subst (λ (x : W). 0 < x.parts) same c.whole);
        reserved_are = here z;
      })
      (λ nz. record {
        view = c.view;
        at_0 = set_else views id 0 w (λ e. nz (sym e)) ∙ c.at_0;
        number = c.number;
        whole = c.whole;
        reserved_are = else nz ∙ c.reserved_are;
      })

  -- where no seat that holds the value comes or goes, the value is where it was
  pub place_kept : (log : List E) (holder : ℕ) (s : St) (views' : List W) → Place journal reserved frame first log holder s
      → ((j : ℕ) (w : W) → get_elem? views' j ≡ some w → w.holds ≡ true → get_elem? s.views j ≡ some w)
      → ((j : ℕ) (w : W) → get_elem? s.views j ≡ some w → w.holds ≡ true → get_elem? views' j ≡ some w)
      → Place journal reserved frame first log holder record { words = s.words; homes = s.homes; views = views' }
  place_kept log holder s views' (home y words homes is frame_is nobody) old new =
      home y words homes is frame_is (λ j w e. not_true w.holds (λ h. let n = nobody j w (old j w e h) in true_false (sym h ∙ n)))
  place_kept log holder s views' (away v turn taken words homes here holds is only) old new =
      away v turn taken words homes (new holder v here holds) holds is (λ j w e h. only j w (old j w e h) h)

  module _ (passes : ℕ) where
    abbrev pub Rule : St → Type 0
    Rule = IsSound journal reserved frame first passes

    -- the pass 0 has seen each reserved entry
    pub reserved_seen : (s : St) (id : ℕ) (v : W) (kept : Rule s) → get_elem? s.views id ≡ some v → 0 < v.parts → v.number ≡ 0 → filter reserved kept.log ≡ filter reserved v.seen
    reserved_seen s id v kept at whole number =
        let z : id ≡ 0 = (kept.each id v at).place number whole in
        let at0 : get_elem? s.views 0 ≡ some v = ap (get_elem? s.views) (sym z) ∙ at in
        kept.pass_0.reserved_are ∙ ap (λ (x : W). filter reserved x.seen) (some-injective kept.pass_0.view v (sym kept.pass_0.at_0 ∙ at0))

    -- a seat 0 that changes has the number 0
    pub number_of_0 : (s : St) (id : ℕ) (v : W) (kept : Rule s) → get_elem? s.views id ≡ some v → id ≡ 0 → v.number ≡ 0
    number_of_0 s id v kept at z = ap (λ (x : W). x.number) (same_at s.views 0 v kept.pass_0.view (ap (get_elem? s.views) (sym z) ∙ at) kept.pass_0.at_0) ∙ kept.pass_0.number
