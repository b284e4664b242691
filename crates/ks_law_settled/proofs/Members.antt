-- The items that a record gives a node are among the query's.
use Rattle.std.proofs.Common.{◌≡◌, ℕ, suc, ◌≤◌, Bool, true, false, cond, List, [], ◌∷◌, Option, Some, None, refl, sym, ap, ◌∙◌, arith, nat_eq, inl, inr, ⊎_elim}
use Rattle.std.specs.Prelude.{option_map, option_and_then}
use Rattle.std.specs.List.{filter}
use Rattle.std.proofs.lemmas.Bool.{and_parts}
use Rattle.ks_expr.specs.Eval.{Row}
use Rattle.ks_plan.specs.declared.node.Topic.TheVariants.{Input as InputTopic}
use Rattle.ks_plan.specs.Plan.{Plan, Kind, Window}
use Rattle.ks_plan.specs.Plan.Kind.{StreamSource, TableSource, StreamFilter, TableFilter, StreamMap, TableMap, KeySelected, StreamAggregate, TableAggregate, Windowed, KeyJoin, ForeignKeyJoin}
use Rattle.ks_query.specs.Streams.{Key, Input, StreamItem, some_of, with_some, item_of, filter_item, map_item, rekey_item, group_key, grouped}
use Rattle.ks_query.specs.Query.{Answers, with_number, of_topic, answer_node, answer_nodes, no_answers, query}
use Rattle.ks_query.specs.Windows.{windows}
use Rattle.ks_query.specs.Grace.{greatest_time, all_open, all_in_time}
use Rattle.ks_def_tasks.specs.Messages.Message.{Given}
use Rattle.ks_def_tasks.specs.Collision.{In}
use Rattle.ks_def_tasks.specs.Step.{Arrival, item_given, item_at, items_from}
use Rattle.ks_def_tasks.specs.Tasks.{item_of_input}
use Rattle.ks_def_tasks.proofs.Each.{AllOf, all_map}

-- ---- members
pub all_in : {A : Type 0} (xs : List A) → AllOf (λ x. In x xs) xs
all_in [] = tt
all_in (x ∷ xs) = (inl refl, all_map (λ y. In y xs) (λ y. In y (x ∷ xs)) (λ y h. inr h) xs (all_in xs))

some_same : {A : Type 0} {x y : A} → Some x ≡ Some y → x ≡ y
some_same e = cc

in_with : {B : Type 0} (o : Option B) (xs : List B) (y : B) → In y xs → In y (with_some o xs)
in_with None xs y h = h
in_with (Some x) xs y h = inr h

in_first : {B : Type 0} (o : Option B) (xs : List B) (y : B) → o ≡ Some y → In y (with_some o xs)
in_first None xs y e = absurd cc
in_first (Some x) xs y e = inl (sym (some_same e))

pub in_some : {A B : Type 0} (h : A → Option B) (xs : List A) (x : A) → In x xs → (y : B) → h x ≡ Some y → In y (some_of h xs)
in_some h [] x i y e = absurd i
in_some h (v ∷ xs) x i y e = ⊎_elim
    (λ (is : x ≡ v). in_first (h v) (some_of h xs) y (ap h (sym is) ∙ e))
    (λ (j : In x xs). in_with (h v) (some_of h xs) y (in_some h xs x j y e)) i

in_filter : {A : Type 0} (g : A → Bool) (xs : List A) (x : A) → In x xs → g x ≡ true → In x (filter g xs)
in_filter g [] x i e = absurd i
in_filter g (v ∷ xs) x i e = ⊎_elim
    (λ (is : x ≡ v). here (g v) (ap g (sym is) ∙ e) is)
    (λ (j : In x xs). later (g v) (in_filter g xs x j e)) i
  where
    here : (b : Bool) → b ≡ true → x ≡ v → In x (cond b (v ∷ filter g xs) (filter g xs))
    here true f is = inl is
    here false f is = absurd cc

    later : (b : Bool) → In x (filter g xs) → In x (cond b (v ∷ filter g xs) (filter g xs))
    later true h = inr h
    later false h = h

then_some : {A B : Type 0} (h : A → Option B) (o : Option A) (y : B) → option_and_then h o ≡ Some y → (x : A) × (o ≡ Some x) × (h x ≡ Some y)
then_some h None y e = absurd cc
then_some h (Some x) y e = (x, refl, e)

-- ---- of one record, whatever partition its task's subscriptions name: each node's item is among the query's
module _ (records : List Input) (r : Input) (names : ℕ → Option ℕ) (there : In r records) where
  abbrev a : Arrival
  a = record { topic = InputTopic r.topic; item = item_of_input r; names = names }

  abbrev AmongThese : (ℕ → Option StreamItem) → (ℕ → List StreamItem) → Type 0
  AmongThese items lists = (c : ℕ) (y : StreamItem) → items c ≡ Some y → In y (lists c)

  -- a source
  source_has : (t : ℕ) (y : StreamItem) → item_at a (λ n. None) (StreamSource t) ≡ Some y → In y (some_of item_of (of_topic t records))
  source_has t y e = by (nat_eq r.topic t) refl e
    where
      given : (o : Option Row) → item_given r.time (Some (Given r.key o)) ≡ option_map (λ v. record { key = r.key; row = v; time = r.time }) o
      given None = refl
      given (Some v) = refl

      by : (b : Bool) → nat_eq r.topic t ≡ b → item_given r.time (cond b (Some (Given r.key r.value)) None) ≡ Some y → In y (some_of item_of (of_topic t records))
      by true f g = in_some item_of (of_topic t records) r (in_filter (λ x. nat_eq x.topic t) records r there f) y (sym (given r.value) ∙ g)
      by false f g = absurd cc

  -- one more list, and one more item
  both : (items : ℕ → Option StreamItem) (lists : ℕ → List StreamItem) (n : ℕ) (o : Option StreamItem) (xs : List StreamItem) → AmongThese items lists → ((y : StreamItem) → o ≡ Some y → In y xs) → AmongThese (with_number items n o) (with_number lists n xs)
  both items lists n o xs h new c y = by (nat_eq c n)
    where
      by : (b : Bool) → cond b o (items c) ≡ Some y → In y (cond b xs (lists c))
      by true e = new y e
      by false e = h c y e

  alone : (items : ℕ → Option StreamItem) (lists : ℕ → List StreamItem) (n : ℕ) → AmongThese items lists → AmongThese (with_number items n None) lists
  alone items lists n h c y = by (nat_eq c n)
    where
      by : (b : Bool) → cond b None (items c) ≡ Some y → In y (lists c)
      by true e = absurd cc
      by false e = h c y e

  then_in : (items : ℕ → Option StreamItem) (lists : ℕ → List StreamItem) (f : ℕ) (turn : StreamItem → Option StreamItem) → AmongThese items lists → (y : StreamItem) → option_and_then turn (items f) ≡ Some y → In y (some_of turn (lists f))
  then_in items lists f turn h y e = let x = then_some turn (items f) y e in in_some turn (lists f) x.0 (h f x.0 x.1) y x.2

  one_node : (items : ℕ → Option StreamItem) (b : Answers) (n : ℕ) (k : Kind) → AmongThese items b.items → AmongThese (with_number items n (item_at a items k)) (answer_node records b n k).items
  one_node items b n (StreamSource t) h = both items b.items n (item_at a items (StreamSource t)) (some_of item_of (of_topic t records)) h (source_has t)
  one_node items b n (StreamFilter f x) h = both items b.items n (item_at a items (StreamFilter f x)) (some_of (filter_item x) (b.items f)) h (then_in items b.items f (filter_item x) h)
  one_node items b n (StreamMap f s) h = both items b.items n (item_at a items (StreamMap f s)) (some_of (map_item s) (b.items f)) h (then_in items b.items f (map_item s) h)
  one_node items b n (KeySelected f k) h = both items b.items n (item_at a items (KeySelected f k)) (some_of (rekey_item k) (b.items f)) h (then_in items b.items f (rekey_item k) h)
  one_node items b n (TableSource t) h = alone items b.items n h
  one_node items b n (TableFilter f x) h = alone items b.items n h
  one_node items b n (TableMap f s) h = alone items b.items n h
  one_node items b n (StreamAggregate f by field through) h = alone items b.items n h
  one_node items b n (TableAggregate f by field) h = alone items b.items n h
  one_node items b n (Windowed f by w through) h = alone items b.items n h
  one_node items b n (KeyJoin l q kind s) h = alone items b.items n h
  one_node items b n (ForeignKeyJoin l q fk kind s) h = alone items b.items n h

  all_nodes : (items : ℕ → Option StreamItem) (b : Answers) (n : ℕ) (ks : List Kind) → AmongThese items b.items → AmongThese (items_from a items n ks) (answer_nodes records b n ks).items
  all_nodes items b n [] h = h
  all_nodes items b n (k ∷ ks) h = all_nodes (with_number items n (item_at a items k)) (answer_node records b n k) (suc n) ks (one_node items b n k h)

  pub item_in : (p : Plan) (f : ℕ) (y : StreamItem) → items_from a (λ n. None) 0 p.kinds f ≡ Some y → In y ((query p records).items f)
  item_in p f y e = all_nodes (λ n. None) no_answers 0 p.kinds (λ c y e. absurd cc) f y e

-- ---- times of grouped items
-- one of them, with a group
pub record HasTime (by : Option (List ℕ)) (items : List StreamItem) (t : ℕ) : Type 0 where
  pub item : StreamItem
  pub group : Key
  pub among : In (group, item) (grouped by items)
  pub time : item.time ≡ t

pub has_time : (by : Option (List ℕ)) (items : List StreamItem) (y : StreamItem) (g : Key) → In y items → group_key by y ≡ Some g → HasTime by items y.time
has_time by items y g i e = record {
  item = y;
  group = g;
  among = in_some (λ x. option_map (λ g. (g, x)) (group_key by x)) items y i (g, y) (ap (option_map (λ g. (g, y))) e);
  time = refl;
}

greatest_in : (es : List (Key × StreamItem)) (e : Key × StreamItem) → In e es → e.1.time ≤ greatest_time es
greatest_in [] e i = absurd i
greatest_in (x ∷ es) e i = ⊎_elim
    (λ (is : e ≡ x). let same : e.1.time ≡ x.1.time = ap (λ (v : Key × StreamItem). v.1.time) is in omega (arith, same))
    (λ (j : In e es). let more : e.1.time ≤ greatest_time es = greatest_in es e j in omega (arith, more)) i

pub at_most : (by : Option (List ℕ)) (items : List StreamItem) (t : ℕ) → HasTime by items t → t ≤ greatest_time (grouped by items)
at_most by items t h = let le : h.item.time ≤ greatest_time (grouped by items) = greatest_in (grouped by items) (h.group, h.item) h.among in omega (arith, le, h.time)

open_in : (w : Window) (now : ℕ) (es : List (Key × StreamItem)) → all_in_time w now es ≡ true → (e : Key × StreamItem) → In e es → all_open w now (windows w e.1.time) ≡ true
open_in w now [] h e i = absurd i
open_in w now (x ∷ es) h e i =
    let both = and_parts (all_open w now (windows w x.1.time)) (all_in_time w now es) h in
    ⊎_elim
    (λ (is : e ≡ x). ap (λ (v : Key × StreamItem). all_open w now (windows w v.1.time)) is ∙ both.0)
    (λ (j : In e es). open_in w now es both.1 e j) i

pub is_open_then : (w : Window) (by : Option (List ℕ)) (items : List StreamItem) (t : ℕ) → all_in_time w (greatest_time (grouped by items)) (grouped by items) ≡ true → HasTime by items t →
    all_open w (greatest_time (grouped by items)) (windows w t) ≡ true
is_open_then w by items t h i = ap (λ u. all_open w (greatest_time (grouped by items)) (windows w u)) (sym i.time) ∙ open_in w (greatest_time (grouped by items)) (grouped by items) h (i.group, i.item) i.among
