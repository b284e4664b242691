-- A response changes no row before its join: no node before it takes anything.
use Rattle.std.proofs.Common.{◌≡◌, ◌≢◌, ℕ, suc, ◌<◌, Bool, true, false, cond, ◌||◌, List, [], ◌∷◌, Option, Some, None, refl, sym, ap, ap₂, ◌∙◌, arith, nat_eq, ne_eqb}
use Rattle.std.specs.Prelude.{option_and_then}
use Rattle.std.proofs.lemmas.Bool.Decides.{Decides-eqb}
use Rattle.ks_expr.specs.Eval.{joined}
use Rattle.ks_plan.specs.declared.node.Topic.{Topic}
use Rattle.ks_plan.specs.declared.node.Topic.TheVariants.{Input as InputTopic, Repartition, Responses}
use Rattle.ks_plan.specs.Plan.{Plan, Kind}
use Rattle.ks_plan.specs.Plan.Kind.{StreamSource, TableSource, StreamFilter, TableFilter, StreamMap, TableMap, KeySelected, StreamAggregate, TableAggregate, Windowed, KeyJoin, ForeignKeyJoin}
use Rattle.ks_plan.specs.Layout.{same_topic}
use Rattle.ks_query.specs.Streams.{StreamItem, filter_item, map_item, rekey_item}
use Rattle.ks_query.specs.Query.{with_number}
use Rattle.ks_def_tasks.specs.Messages.{Stored, Rules}
use Rattle.ks_def_tasks.specs.Step.{Arrival, Values, row_in, changed, arrived, item_given, item_keyed, item_at, item_into, items_from, of_row, taken_row, added, applied, responded, direct, value_at, values_from, step_key}
use Rattle.ks_law_topology.proofs.Fits.{NodeFits, EachFits}
use Rattle.ks_law_fk_quiescence.proofs.Waits.{stays_unchanged}

module _ (a : ℕ) (arr : Arrival) (at : arr.topic ≡ Responses a) where
  nothing_at : (t : Topic) → same_topic (Responses a) t ≡ false → arrived arr t ≡ None
  nothing_at t e = ap (λ b. cond b (Some arr.item.message) None) (ap (λ v. same_topic v t) at ∙ e)

  no_item : (items : ℕ → Option StreamItem) → ((c : ℕ) → items c ≡ None) → (k : Kind) → item_at arr items k ≡ None
  no_item items h (StreamSource t) = ap (item_given arr.item.time) (nothing_at (InputTopic t) refl)
  no_item items h (StreamFilter f x) = ap (option_and_then (filter_item x)) (h f)
  no_item items h (StreamMap f s) = ap (option_and_then (map_item s)) (h f)
  no_item items h (KeySelected f k) = ap (option_and_then (rekey_item k)) (h f)
  no_item items h (TableSource t) = refl
  no_item items h (TableFilter f x) = refl
  no_item items h (TableMap f s) = refl
  no_item items h (StreamAggregate f by field through) = refl
  no_item items h (TableAggregate f by field) = refl
  no_item items h (Windowed f by w through) = refl
  no_item items h (KeyJoin l r kind s) = refl
  no_item items h (ForeignKeyJoin l r fk kind s) = refl

  pub no_items : (items : ℕ → Option StreamItem) (n : ℕ) (ks : List Kind) → ((c : ℕ) → items c ≡ None) → (c : ℕ) → items_from arr items n ks c ≡ None
  no_items items n [] h c = h c
  no_items items n (k ∷ ks) h c = no_items (with_number items n (item_at arr items k)) (suc n) ks (λ c. elim (nat_eq c n) as (λ b. cond b (item_at arr items k) (items c) ≡ None) [ true ↦ no_item items h k | false ↦ h c ]) c

  module _ (rules : Rules) (p : Plan) (items : ℕ → Option StreamItem) (none : (c : ℕ) → items c ≡ None) (olds : Values) where
    abbrev pub QuietBefore : Values → Type 0
    QuietBefore news = (c : ℕ) → c < a → news c ≡ olds c

    stays : (news : Values) (f n : ℕ) (new : Option Stored) → QuietBefore news → f < n → n < a → cond (changed olds news f) new (olds n) ≡ olds n
    stays news f n new h lt less = ap (λ b. cond b new (olds n)) (stays_unchanged olds news f (h f (omega arith)))

    nothing_into : (n f : ℕ) (through : Bool) → item_into arr items n f through ≡ None
    nothing_into n f true = ap (item_keyed arr.item.time) (nothing_at (Repartition n) refl)
    nothing_into n f false = none f

    quiet_value : (news : Values) (n : ℕ) (k : Kind) → QuietBefore news → n < a → NodeFits p n k → value_at rules arr items olds news n k ≡ olds n
    quiet_value news n (TableSource t) h lt f = ap (taken_row (olds n)) (nothing_at (InputTopic t) refl)
    quiet_value news n (TableFilter g x) h lt f = stays news g n _ h f.before lt
    quiet_value news n (TableMap g s) h lt f = stays news g n _ h f.before lt
    quiet_value news n (StreamAggregate g by field through) h lt f = ap (added field (olds n)) (nothing_into n g through)
    quiet_value news n (TableAggregate g by field) h lt f = ap (applied field (olds n)) (nothing_at (Repartition n) refl)
    quiet_value news n (KeyJoin l r kind s) h lt f =
        let new = of_row (joined kind s (row_in news l) (row_in news r)) in
        let le : l < a = (let b = f.0.before in omega arith) in
        let re : r < a = (let b = f.1.before in omega arith) in
        ap₂ (λ b c. cond (b || c) new (olds n)) (stays_unchanged olds news l (h l le)) (stays_unchanged olds news r (h r re))
    quiet_value news n (ForeignKeyJoin l r fk kind s) h lt f =
        let le : l < a = (let b = f.0.before in omega arith) in
        let ne : a ≢ n = λ e. omega arith in
        ap (λ c. cond c (direct fk (step_key arr.item.message) kind s (row_in olds l) (row_in news l) (olds n)) (responded rules kind s (row_in news l) (arrived arr (Responses n)) (olds n))) (stays_unchanged olds news l (h l le))
        ∙ ap (λ m. responded rules kind s (row_in news l) m (olds n)) (nothing_at (Responses n) (ne_eqb a n ne))
    quiet_value news n (StreamSource t) h lt f = refl
    quiet_value news n (StreamFilter g x) h lt f = refl
    quiet_value news n (StreamMap g s) h lt f = refl
    quiet_value news n (KeySelected g k) h lt f = refl
    quiet_value news n (Windowed g by w through) h lt f = refl

    pub quiet_values : (news : Values) (n : ℕ) (ks : List Kind) → QuietBefore news → EachFits p n ks → QuietBefore (values_from rules arr items olds news n ks)
    quiet_values news n [] h f = h
    quiet_values news n (k ∷ ks) h f =
        quiet_values (with_number news n (value_at rules arr items olds news n k)) (suc n) ks
        (λ c lt. elim (nat_eq c n) as (λ b. nat_eq c n ≡ b → cond b (value_at rules arr items olds news n k) (news c) ≡ olds c) [
          | true ↦ λ b. let is : c ≡ n = (Decides-eqb c n).0 b in quiet_value news n k h (omega arith) f.0 ∙ ap olds (sym is)
          | false ↦ λ b. h c lt
        ] refl) f.1
