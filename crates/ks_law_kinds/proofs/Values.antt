-- Items and stored values of a step have spellings.
use Rattle.std.proofs.Common.{◌≡◌, ℕ, suc, ◌<◌, ◌^◌, Bool, true, false, cond, nat_eq, List, [], ◌∷◌, Option, Some, None, refl, sym, subst, ◌∙◌}
use Rattle.std.specs.Prelude.{◌||◌, is_none, option_map, option_and_then, IfSome}
use Rattle.std.specs.List.{AllByRecursion}
use Rattle.std.proofs.lemmas.Bool.{true≢false}
use Rattle.std.proofs.lemmas.Bool.Decides.{Decides-eqb}
use Rattle.ks_record.specs.Texts.{IsKey}
use Rattle.ks_row.specs.Spelling.{FitsRow}
use Rattle.ks_row.specs.FieldKeys.{field_key}
use Rattle.ks_wire.specs.Spelling.{FitsAgg}
use Rattle.ks_expr.specs.declared.terms.JoinKind.{JoinKind}
use Rattle.ks_expr.specs.Terms.{Set, Test}
use Rattle.ks_expr.specs.Eval.{Row, holds, project, joined}
use Rattle.ks_expr.specs.declared.terms.Fk.{Fk}
use Rattle.ks_plan.specs.Plan.{Plan, Kind, is_windowed}
use Rattle.ks_plan.specs.Plan.Kind.{StreamSource, TableSource, StreamFilter, TableFilter, StreamMap, TableMap, KeySelected, StreamAggregate, TableAggregate, Windowed, KeyJoin, ForeignKeyJoin}
use Rattle.ks_plan.specs.declared.node.Topic.{Topic}
use Rattle.ks_plan.specs.declared.node.Topic.TheVariants.{Input, Repartition, Responses}
use Rattle.ks_plan.specs.Layout.{kind_at, same_topic}
use Rattle.ks_query.specs.Streams.{Key, StreamItem, filter_item, map_item, rekey_item}
use Rattle.ks_query.specs.Query.{with_number}
use Rattle.ks_query.specs.Aggregates.{stream_add, table_apply}
use Rattle.ks_def_tasks.specs.Messages.{Stored, shown, agg_of, Message, Rules}
use Rattle.ks_def_tasks.specs.Messages.Stored.{OfRow, OfAgg}
use Rattle.ks_def_tasks.specs.Messages.Message.{Given, Keyed, Moved, Asked, Answered, Kept, KeptCount, KeptTime, KeptHash}
use Rattle.ks_def_tasks.specs.Foreign.{is_direct, direct_row, is_present}
use Rattle.ks_def_tasks.specs.Step.{Arrival, Values, step_key, arrived, item_given, item_keyed, item_at, items_from, item_into, row_in, changed, of_row, kept_row, taken_row, added, applied, direct, set_result, responded, value_at, values_from, news_at}
use Rattle.ks_law_topology.specs.Spelled.{IfThere, FitsSet}
use Rattle.ks_law_topology.proofs.Rows.{project_fits, joined_fits, field_key_fits, stream_fits, apply_fits}
use Rattle.ks_law_topology.proofs.Placing.{AtPlace, at_places}
use Rattle.ks_law_kinds.specs.Fitting.{FitsKind, FitsPlan}
use Rattle.ks_law_kinds.proofs.Stores.{StoredFits, ValueFits, a_row, an_agg, fit}
use Rattle.ks_law_kinds.proofs.Arriving.{MessageFits}

-- ---- values that may be absent
pub if_some : {A : Type 0} (P : A → Type 0) (o : Option A) → IfSome o P → IfThere P o
if_some P None h = tt
if_some P (Some x) h = h

pub mapped_fits : {A B : Type 0} (P : A → Type 0) (Q : B → Type 0) (f : A → B) → ((x : A) → P x → Q (f x)) → (o : Option A) → IfThere P o → IfThere Q (option_map f o)
mapped_fits P Q f g None h = tt
mapped_fits P Q f g (Some x) h = g x h

pub then_fits : {A B : Type 0} (P : A → Type 0) (Q : B → Type 0) (f : A → Option B) → ((x : A) → P x → IfThere Q (f x)) → (o : Option A) → IfThere P o → IfThere Q (option_and_then f o)
then_fits P Q f g None h = tt
then_fits P Q f g (Some x) h = g x h

kept_if : {A : Type 0} (P : A → Type 0) (b : Bool) (x : A) → P x → IfThere P (cond b (Some x) None)
kept_if P true x h = h
kept_if P false x h = tt

pub record ItemFits (x : StreamItem) : Type 0 where
  pub key : IfThere IsKey x.key
  pub row : FitsRow x.row
  pub time : x.time < 2 ^ 64

module _ (rules : Rules) (p : Plan) (a : Arrival) (arrives : MessageFits a.item.message) (in_time : a.item.time < 2 ^ 64) where
  pub here : (t : Topic) → IfThere MessageFits (arrived a t)
  here t = kept_if MessageFits (same_topic a.topic t) a.item.message arrives

  -- ---- items
  given_item : (m : Option Message) → IfThere MessageFits m → IfThere ItemFits (item_given a.item.time m)
  given_item None h = tt
  given_item (Some (Given k None)) h = tt
  given_item (Some (Given k (Some v))) h = record { key = h.0; row = h.1; time = in_time }
  given_item (Some (Keyed g row)) h = tt
  given_item (Some (Moved g d)) h = tt
  given_item (Some (Asked b q s)) h = tt
  given_item (Some (Answered q r)) h = tt
  given_item (Some (Kept k w)) h = tt
  given_item (Some (KeptCount w g)) h = tt
  given_item (Some (KeptTime t)) h = tt
  given_item (Some (KeptHash b q g)) h = tt

  keyed_item : (m : Option Message) → IfThere MessageFits m → IfThere ItemFits (item_keyed a.item.time m)
  keyed_item None h = tt
  keyed_item (Some (Given k v)) h = tt
  keyed_item (Some (Keyed g row)) h = record { key = h.0; row = h.1; time = in_time }
  keyed_item (Some (Moved g d)) h = tt
  keyed_item (Some (Asked b q s)) h = tt
  keyed_item (Some (Answered q r)) h = tt
  keyed_item (Some (Kept k w)) h = tt
  keyed_item (Some (KeptCount w g)) h = tt
  keyed_item (Some (KeptTime t)) h = tt
  keyed_item (Some (KeptHash b q g)) h = tt

  filtered : (test : Test) (x : StreamItem) → ItemFits x → IfThere ItemFits (filter_item test x)
  filtered test x h = kept_if ItemFits (holds test x.row) x h

  mapped_item : (set : Set) → FitsSet set → (x : StreamItem) → ItemFits x → IfThere ItemFits (map_item set x)
  mapped_item set f x h = mapped_fits FitsRow ItemFits (λ (r : Row). record x { row = r }) (λ r g. record { key = h.key; row = g; time = h.time }) (project set (Some x.row) None) (project_fits set (Some x.row) None f h.row tt)

  rekeyed : (name : List ℕ) (x : StreamItem) → ItemFits x → IfThere ItemFits (rekey_item name x)
  rekeyed name x h = mapped_fits IsKey ItemFits (λ (k : Key). record x { key = Some k }) (λ k g. record { key = g; row = h.row; time = h.time }) (field_key name x.row) (field_key_fits name x.row h.row)

  abbrev pub ItemsFit : (ℕ → Option StreamItem) → Type 0
  ItemsFit items = (n : ℕ) → IfThere ItemFits (items n)

  item_fits : (items : ℕ → Option StreamItem) → ItemsFit items → (k : Kind) → FitsKind k → IfThere ItemFits (item_at a items k)
  item_fits items h (StreamSource t) f = given_item (arrived a (Input t)) (here (Input t))
  item_fits items h (StreamFilter n test) f = then_fits ItemFits ItemFits (filter_item test) (filtered test) (items n) (h n)
  item_fits items h (StreamMap n set) f = then_fits ItemFits ItemFits (map_item set) (mapped_item set f) (items n) (h n)
  item_fits items h (KeySelected n name) f = then_fits ItemFits ItemFits (rekey_item name) (rekeyed name) (items n) (h n)
  item_fits items h (TableSource t) f = tt
  item_fits items h (TableFilter n x) f = tt
  item_fits items h (TableMap n s) f = tt
  item_fits items h (StreamAggregate n by field through) f = tt
  item_fits items h (TableAggregate n by field) f = tt
  item_fits items h (Windowed n by w through) f = tt
  item_fits items h (KeyJoin l r kind s) f = tt
  item_fits items h (ForeignKeyJoin l r fk kind s) f = tt

  pub items_fit : (items : ℕ → Option StreamItem) → ItemsFit items → (n : ℕ) (ks : List Kind) → AllByRecursion FitsKind ks → ItemsFit (items_from a items n ks)
  items_fit items h n [] f = h
  items_fit items h n (k ∷ ks) f = items_fit (with_number items n (item_at a items k)) (λ c. by c (nat_eq c n)) (suc n) ks f.1
    where
      by : (c : ℕ) (b : Bool) → IfThere ItemFits (cond b (item_at a items k) (items c))
      by c true = item_fits items h k f.0
      by c false = h c

  pub into_fits : (items : ℕ → Option StreamItem) → ItemsFit items → (n f : ℕ) (through : Bool) → IfThere ItemFits (item_into a items n f through)
  into_fits items h n f true = keyed_item (arrived a (Repartition n)) (here (Repartition n))
  into_fits items h n f false = h f

  -- ---- values
  abbrev pub ValuesFit : Values → Type 0
  ValuesFit values = (n : ℕ) → ValueFits (kind_at p n) (values n)

  pub row_fits : (values : Values) → ValuesFit values → (n : ℕ) → IfThere FitsRow (row_in values n)
  row_fits values h n = mapped_fits (StoredFits (kind_at p n)) FitsRow shown (λ w g. g.row) (values n) (h n).there

  some_value : {k : Kind} {w : Option Stored} → is_windowed k ≡ false → IfThere (StoredFits k) w → ValueFits k w
  some_value plain h = record { there = h; none = λ e. absurd (true≢false (sym e ∙ plain)) }

  a_value : {k : Kind} → is_windowed k ≡ false → ((row : Row) → FitsRow row → StoredFits k (OfRow row)) → (o : Option Row) → IfThere FitsRow o → ValueFits k (of_row o)
  a_value {k = k} plain f o h = some_value plain (mapped_fits FitsRow (StoredFits k) OfRow f o h)

  either : {k : Kind} (b : Bool) (x y : Option Stored) → ValueFits k x → ValueFits k y → ValueFits k (cond b x y)
  either true x y f g = f
  either false x y f g = g

  taken : (t : ℕ) (old : Option Stored) → ValueFits (TableSource t) old → (m : Option Message) → IfThere MessageFits m → ValueFits (TableSource t) (taken_row old m)
  taken t old f None h = f
  taken t old f (Some (Given k v)) h = a_value refl (λ row g. fit (a_row row g)) v h.1
  taken t old f (Some (Keyed g row)) h = f
  taken t old f (Some (Moved g d)) h = f
  taken t old f (Some (Asked b q s)) h = f
  taken t old f (Some (Answered q r)) h = f
  taken t old f (Some (Kept k w)) h = f
  taken t old f (Some (KeptCount w g)) h = f
  taken t old f (Some (KeptTime u)) h = f
  taken t old f (Some (KeptHash b q g)) h = f

  one_added : (f : ℕ) (by field : Option (List ℕ)) (through : Bool) (old : Option Stored) → ValueFits (StreamAggregate f by field through) old →
      (x : Option StreamItem) → ValueFits (StreamAggregate f by field through) (added field old x)
  one_added f by field through old h None = h
  one_added f by field through old h (Some x) = some_value refl (fit (an_agg (is_none field) (stream_add field (agg_of old) x.row) (stream_fits field (agg_of old) x.row)))

  one_applied : (f : ℕ) (by : List ℕ) (field : Option (List ℕ)) (old : Option Stored) → ValueFits (TableAggregate f by field) old →
      (m : Option Message) → ValueFits (TableAggregate f by field) (applied field old m)
  one_applied f by field old h None = h
  one_applied f by field old h (Some (Given k v)) = h
  one_applied f by field old h (Some (Keyed g row)) = h
  one_applied f by field old h (Some (Moved g d)) = some_value refl
      (mapped_fits FitsAgg (StoredFits (TableAggregate f by field)) (OfAgg (is_none field)) (λ x e. fit (an_agg (is_none field) x e)) (table_apply (agg_of old) d) (apply_fits (agg_of old) d))
  one_applied f by field old h (Some (Asked b q s)) = h
  one_applied f by field old h (Some (Answered q r)) = h
  one_applied f by field old h (Some (Kept k w)) = h
  one_applied f by field old h (Some (KeptCount w g)) = h
  one_applied f by field old h (Some (KeptTime u)) = h
  one_applied f by field old h (Some (KeptHash b q g)) = h

  module _ (l r : ℕ) (fk : Fk) (kind : JoinKind) (set : Set) (f : FitsSet set) where
    abbrev this : Kind
    this = ForeignKeyJoin l r fk kind set

    of_direct : (new : Option Row) → IfThere FitsRow new → IfThere FitsRow (direct_row kind set new)
    of_direct None h = tt
    of_direct (Some v) h = joined_fits kind set (Some v) None f h tt

    directly : (key : Option Key) (old new : Option Row) (result : Option Stored) → IfThere FitsRow new → ValueFits this result → ValueFits this (direct fk key kind set old new result)
    directly None old new result h g = g
    directly (Some k) old new result h g = either (is_direct fk k old new) (of_row (direct_row kind set new)) result (a_value refl (λ row g. fit (a_row row g)) (direct_row kind set new) (of_direct new h)) g

    set_to : (b : Bool) (row : Option Row) (result : Option Stored) → IfThere FitsRow row → ValueFits this result → ValueFits this (set_result (cond b (Some row) None) result)
    set_to true row result h g = a_value refl (λ row g. fit (a_row row g)) row h
    set_to false row result h g = g

    by_response : (left : Option Row) → IfThere FitsRow left → (m : Option Message) → IfThere MessageFits m → (result : Option Stored) → ValueFits this result → ValueFits this (responded rules kind set left m result)
    by_response left h None m result g = g
    by_response left h (Some (Given k v)) m result g = g
    by_response left h (Some (Keyed k row)) m result g = g
    by_response left h (Some (Moved k d)) m result g = g
    by_response left h (Some (Asked b q s)) m result g = g
    by_response left h (Some (Answered q x)) m result g =
        set_to (is_present rules.hash left x) (joined kind set left x.right) result (joined_fits kind set left x.right f h (if_some FitsRow x.right m.1.right)) g
    by_response left h (Some (Kept k w)) m result g = g
    by_response left h (Some (KeptCount w n)) m result g = g
    by_response left h (Some (KeptTime u)) m result g = g
    by_response left h (Some (KeptHash b q n)) m result g = g

  module _ (items : ℕ → Option StreamItem) (olds : Values) (old : ValuesFit olds) where
    value_fits : (news : Values) → ValuesFit news → (n : ℕ) (k : Kind) → FitsKind k → ValueFits k (olds n) → ValueFits k (value_at rules a items olds news n k)
    value_fits news h n (TableSource t) f o = taken t (olds n) o (arrived a (Input t)) (here (Input t))
    value_fits news h n (TableFilter i test) f o = either (changed olds news i) (kept_row (λ v. cond (holds test v) (Some v) None) (row_in news i)) (olds n)
        (a_value refl (λ row g. fit (a_row row g)) (option_and_then (λ v. cond (holds test v) (Some v) None) (row_in news i))
        (then_fits FitsRow FitsRow (λ v. cond (holds test v) (Some v) None) (λ v g. kept_if FitsRow (holds test v) v g) (row_in news i) (row_fits news h i))) o
    value_fits news h n (TableMap i set) f o = either (changed olds news i) (kept_row (λ v. project set (Some v) None) (row_in news i)) (olds n)
        (a_value refl (λ row g. fit (a_row row g)) (option_and_then (λ v. project set (Some v) None) (row_in news i))
        (then_fits FitsRow FitsRow (λ v. project set (Some v) None) (λ v g. project_fits set (Some v) None f g tt) (row_in news i) (row_fits news h i))) o
    value_fits news h n (StreamAggregate i by field through) f o = one_added i by field through (olds n) o (item_into a items n i through)
    value_fits news h n (TableAggregate i by field) f o = one_applied i by field (olds n) o (arrived a (Repartition n))
    value_fits news h n (KeyJoin l r kind set) f o = either (changed olds news l || changed olds news r) (of_row (joined kind set (row_in news l) (row_in news r))) (olds n)
        (a_value refl (λ row g. fit (a_row row g)) (joined kind set (row_in news l) (row_in news r)) (joined_fits kind set (row_in news l) (row_in news r) f (row_fits news h l) (row_fits news h r))) o
    value_fits news h n (ForeignKeyJoin l r fk kind set) f o =
        either (changed olds news l) (direct fk (step_key a.item.message) kind set (row_in olds l) (row_in news l) (olds n)) (responded rules kind set (row_in news l) (arrived a (Responses n)) (olds n))
        (directly l r fk kind set f.0 (step_key a.item.message) (row_in olds l) (row_in news l) (olds n) (row_fits news h l) o)
        (by_response l r fk kind set f.0 (row_in news l) (row_fits news h l) (arrived a (Responses n)) (here (Responses n)) (olds n) o)
    value_fits news h n (StreamSource t) f o = o
    value_fits news h n (StreamFilter i x) f o = o
    value_fits news h n (StreamMap i s) f o = o
    value_fits news h n (KeySelected i x) f o = o
    value_fits news h n (Windowed i by w through) f o = o

    values_fit : (news : Values) → ValuesFit news → (n : ℕ) (ks : List Kind) → AtPlace rules p n ks → AllByRecursion FitsKind ks → ValuesFit (values_from rules a items olds news n ks)
    values_fit news h n [] at f = h
    values_fit news h n (k ∷ ks) at f = values_fit (with_number news n (value_at rules a items olds news n k)) (λ c. by c (nat_eq c n) refl) (suc n) ks at.1 f.1
      where
        new : ValueFits (kind_at p n) (value_at rules a items olds news n k)
        new = subst (λ x. ValueFits x (value_at rules a items olds news n k)) (sym at.0) (value_fits news h n k f.0 (subst (λ x. ValueFits x (olds n)) at.0 (old n)))

        by : (c : ℕ) (b : Bool) → nat_eq c n ≡ b → ValueFits (kind_at p c) (cond b (value_at rules a items olds news n k) (news c))
        by c true e = subst (λ m. ValueFits (kind_at p m) (value_at rules a items olds news n k)) (sym ((Decides-eqb c n).0 e)) new
        by c false e = h c

    pub news_fit : FitsPlan p → (key : Option Key) → ValuesFit (news_at rules p a items olds key)
    news_fit f None = old
    news_fit f (Some k) = values_fit olds old 0 p.kinds (at_places rules p [] p.kinds refl 0 refl) f
