-- The items that a stream with its own keys passes on have the record's key.
use Rattle.std.proofs.Common.{◌≡◌, ℕ, zero, suc, ◌+◌, ◌<◌, Bool, true, false, cond, List, length, [], ◌∷◌, ◌++◌, get_or, Option, Some, None, fold, refl, sym, ap, subst, ◌∙◌, arith, nat_eq}
use Rattle.std.specs.Prelude.{option_map, option_and_then}
use Rattle.std.proofs.lemmas.Bool.{eqb-false}
use Rattle.std.proofs.lemmas.Bool.Decides.{Decides-eqb}
use Rattle.ks_expr.specs.Eval.{Row, holds, project}
use Rattle.ks_plan.specs.declared.node.Topic.TheVariants.{Input as InputTopic}
use Rattle.ks_plan.specs.Plan.{Plan, Kind}
use Rattle.ks_plan.specs.Plan.Kind.{StreamSource, TableSource, StreamFilter, TableFilter, StreamMap, TableMap, KeySelected, StreamAggregate, TableAggregate, Windowed, KeyJoin, ForeignKeyJoin}
use Rattle.ks_plan.specs.Layout.{same_topic}
use Rattle.ks_query.specs.Streams.{StreamItem, filter_item, map_item}
use Rattle.ks_query.specs.Query.{with_number}
use Rattle.ks_def_tasks.specs.Messages.{Message}
use Rattle.ks_def_tasks.specs.Messages.Message.{Given, Keyed, Moved, Asked, Answered, Kept, KeptCount, KeptTime, KeptHash}
use Rattle.ks_def_tasks.specs.Step.{Arrival, step_key, item_given, item_at, items_from}
use Rattle.ks_law_topology.proofs.Fits.{own_next, own_keys, own_same, own_one}

flag_end : (xs : List Bool) (x : Bool) → get_or (xs ++ x ∷ []) (length xs) false ≡ x
flag_end [] x = refl
flag_end (y ∷ xs) x = flag_end xs x

flag_within : (bs : List Bool) (n : ℕ) → get_or bs n false ≡ true → n < length bs
flag_within [] n e = cc
flag_within (b ∷ bs) zero e = omega arith
flag_within (b ∷ bs) (suc n) e = omega (arith, flag_within bs n e)

-- ---- keys of items
module _ (a : Arrival) where
  -- an item of such a stream has the record's key
  abbrev HasKeyOf : Option StreamItem → Type 0
  HasKeyOf y = (x : StreamItem) → y ≡ Some x → step_key a.item.message ≡ x.key

  abbrev KeysHeld : (ℕ → Option StreamItem) → List Bool → Type 0
  KeysHeld items bs = (c : ℕ) → get_or bs c false ≡ true → HasKeyOf (items c)

  given_key : (time : ℕ) (m : Message) (b : Bool) (x : StreamItem) → item_given time (cond b (Some m) None) ≡ Some x → step_key m ≡ x.key
  given_key time m false x e = cc
  given_key time (Given k None) true x e = cc
  given_key time (Given k (Some v)) true x e = let is : record { key = k; row = v; time = time } ≡ x = of_some e in ap (λ (y : StreamItem). y.key) is
    where
      of_some : {A : Type 0} {y z : A} → Some y ≡ Some z → y ≡ z
      of_some e = cc
  given_key time (Keyed g row) true x e = cc
  given_key time (Moved g d) true x e = cc
  given_key time (Asked c l s) true x e = cc
  given_key time (Answered l r) true x e = cc
  given_key time (Kept g w) true x e = cc
  given_key time (KeptCount g w) true x e = cc
  given_key time (KeptTime t) true x e = cc
  given_key time (KeptHash c l s) true x e = cc

  filtered_key : (y : Option StreamItem) (test : _) → HasKeyOf y → HasKeyOf (option_and_then (filter_item test) y)
  filtered_key None test h x e = cc
  filtered_key (Some y) test h x e = elim (holds test y.row) as (λ b. cond b (Some y) None ≡ Some x → step_key a.item.message ≡ x.key) [ true ↦ λ f. h x f | false ↦ λ f. cc ] e

  mapped_key : (y : Option StreamItem) (set : _) → HasKeyOf y → HasKeyOf (option_and_then (map_item set) y)
  mapped_key None set h x e = cc
  mapped_key (Some y) set h x e = of_row (project set (Some y.row) None) e
    where
      of_row : (r : Option Row) → option_map (λ row. record y { row = row }) r ≡ Some x → step_key a.item.message ≡ x.key
      of_row None f = cc
      of_row (Some row) f = h y refl ∙ ap (λ (z : StreamItem). z.key) (of_some f)
        where
          of_some : {A : Type 0} {z w : A} → Some z ≡ Some w → z ≡ w
          of_some f = cc

  never : (bs : List Bool) (y : Option StreamItem) → get_or (bs ++ false ∷ []) (length bs) false ≡ true → HasKeyOf y
  never bs y e = let other : false ≡ true = sym (flag_end bs false) ∙ e in cc

  key_at : (items : ℕ → Option StreamItem) (bs : List Bool) (k : Kind) → KeysHeld items bs → get_or (own_next bs k) (length bs) false ≡ true → HasKeyOf (item_at a items k)
  key_at items bs (StreamSource t) h e = λ x f. given_key a.item.time a.item.message (same_topic a.topic (InputTopic t)) x f
  key_at items bs (StreamFilter g test) h e = filtered_key (items g) test (h g (sym (flag_end bs _) ∙ e))
  key_at items bs (StreamMap g set) h e = mapped_key (items g) set (h g (sym (flag_end bs _) ∙ e))
  key_at items bs (TableSource t) h e = never bs _ e
  key_at items bs (TableFilter g x) h e = never bs _ e
  key_at items bs (TableMap g s) h e = never bs _ e
  key_at items bs (KeySelected g k) h e = never bs _ e
  key_at items bs (StreamAggregate g by field through) h e = never bs _ e
  key_at items bs (TableAggregate g by field) h e = never bs _ e
  key_at items bs (Windowed g by w through) h e = never bs _ e
  key_at items bs (KeyJoin l r kind s) h e = never bs _ e
  key_at items bs (ForeignKeyJoin l r fk kind s) h e = never bs _ e

  keys_from : (items : ℕ → Option StreamItem) (bs : List Bool) (ks : List Kind) → KeysHeld items bs → KeysHeld (items_from a items (length bs) ks) (fold own_next bs ks)
  keys_from items bs [] h = h
  keys_from items bs (k ∷ ks) h =
      let long : length (own_next bs k) ≡ suc (length bs) = own_one bs k in
      let next : KeysHeld (with_number items (length bs) (item_at a items k)) (own_next bs k) = λ c e.
      elim (nat_eq c (length bs)) as (λ b. nat_eq c (length bs) ≡ b → HasKeyOf (cond b (item_at a items k) (items c))) [
        | true ↦ λ b. key_at items bs k h (ap (λ m. get_or (own_next bs k) m false) (sym ((Decides-eqb c (length bs)).0 b)) ∙ e)
        | false ↦ λ b.
            let ne = eqb-false c (length bs) b in
            let lt : c < length bs = omega (arith, flag_within (own_next bs k) c e) in
            h c (sym (own_same bs k c lt) ∙ e)
      ] refl in
      subst (λ m. KeysHeld (items_from a (with_number items (length bs) (item_at a items k)) m ks) (fold own_next (own_next bs k) ks)) long
      (keys_from (with_number items (length bs) (item_at a items k)) (own_next bs k) ks next)

  pub item_key : (p : Plan) (f : ℕ) → get_or (own_keys p.kinds) f false ≡ true → (x : StreamItem) → items_from a (λ n. None) 0 p.kinds f ≡ Some x → step_key a.item.message ≡ x.key
  item_key p f e x is = keys_from (λ n. None) [] p.kinds (λ c h. none_flag c h) f e x is
    where
      none_flag : (c : ℕ) → get_or [] c false ≡ true → HasKeyOf None
      none_flag c h x e = cc
