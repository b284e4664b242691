-- What the nodes of a task make of a record: which partitions an arrival says that subscriptions name doesn't matter, since the nodes know it.
use Rattle.std.proofs.Common.{◌≡◌, ℕ, ◌+◌, List, [], ◌∷◌, ◌++◌, map, Option, Some, None, refl, ap, ap₂, ◌∙◌}
use Rattle.std.specs.List.{flat_map}
use Rattle.ks_record.specs.Records.{Record as Rec}
use Rattle.ks_record.specs.declared.record.PartId.{PartId}
use Rattle.ks_plan.specs.Plan.{Kind}
use Rattle.ks_plan.specs.Plan.Kind.{StreamSource, TableSource, StreamFilter, TableFilter, StreamMap, TableMap, KeySelected, StreamAggregate, TableAggregate, Windowed, KeyJoin, ForeignKeyJoin}
use Rattle.ks_query.specs.Streams.{Key, StreamItem}
use Rattle.ks_def_tasks.specs.Messages.{Stored, Rules}
use Rattle.ks_def_tasks.specs.Step.{Arrival, Values, step_key, item_at, value_at}
use Rattle.ks_def_tasks.specs.Bytes.{ByteStores}
use Rattle.ks_def_lookups.specs.Windows.{CountedBytes}
use Rattle.ks_def_lookups.specs.Lists.{item_in, all_items, value_in}
use Rattle.ks_task_nodes.specs.Nodes.{TaskNode, kinds_in}
use Rattle.ks_task_values.specs.Changes.{in_list}
use Rattle.ks_task_values.specs.Values.{old_list, new_from, new_list}
use Rattle.ks_task_processing.specs.Steps.{sends_of, sent_by, all_sends, change_by, counts_by, at_part, hashed_by, all_recs, late_of, late_in, made_with, made_at, made_of}

module _ (a : Arrival) (names : ℕ → Option ℕ) where
  abbrev b : Arrival
  b = record a { names = names }

  item_same : (items : ℕ → Option StreamItem) (k : Kind) → item_at b items k ≡ item_at a items k
  item_same items (StreamSource t) = refl
  item_same items (TableSource t) = refl
  item_same items (StreamFilter f x) = refl
  item_same items (TableFilter f x) = refl
  item_same items (StreamMap f s) = refl
  item_same items (TableMap f s) = refl
  item_same items (KeySelected f x) = refl
  item_same items (StreamAggregate f by field through) = refl
  item_same items (TableAggregate f by field) = refl
  item_same items (Windowed f by w through) = refl
  item_same items (KeyJoin l r kind s) = refl
  item_same items (ForeignKeyJoin l r fk kind s) = refl

  items_same : (xs : List (Option StreamItem)) (ks : List Kind) → all_items b xs ks ≡ all_items a xs ks
  items_same xs [] = refl
  items_same xs (k ∷ ks) = ap (λ i. all_items b (xs ++ i ∷ []) ks) (item_same (item_in xs) k) ∙ items_same (xs ++ item_at a (item_in xs) k ∷ []) ks

  module _ (rules : Rules) (items : ℕ → Option StreamItem) (olds : Values) where
    value_same : (news : Values) (n : ℕ) (k : Kind) → value_at rules b items olds news n k ≡ value_at rules a items olds news n k
    value_same news n (StreamSource t) = refl
    value_same news n (TableSource t) = refl
    value_same news n (StreamFilter f x) = refl
    value_same news n (TableFilter f x) = refl
    value_same news n (StreamMap f s) = refl
    value_same news n (TableMap f s) = refl
    value_same news n (KeySelected f x) = refl
    value_same news n (StreamAggregate f by field through) = refl
    value_same news n (TableAggregate f by field) = refl
    value_same news n (Windowed f by w through) = refl
    value_same news n (KeyJoin l r kind s) = refl
    value_same news n (ForeignKeyJoin l r fk kind s) = refl

    news_same : (news : List (Option Stored)) (nodes : List TaskNode) → new_from rules b items olds news nodes ≡ new_from rules a items olds news nodes
    news_same news [] = refl
    news_same news (x ∷ nodes) =
        ap (λ v. new_from rules b items olds (news ++ v ∷ []) nodes) (value_same (value_in olds news) x.topics.number x.kind)
        ∙ news_same (news ++ value_at rules a items olds (value_in olds news) x.topics.number x.kind ∷ []) nodes

    list_same : (key : Option Key) (nodes : List TaskNode) → new_list rules b items olds key nodes ≡ new_list rules a items olds key nodes
    list_same None nodes = refl
    list_same (Some k) nodes = news_same [] nodes

    module _ (all : List TaskNode) (stores : ByteStores) (part : ℕ) (news : Values) where
      kind_sends : (node : TaskNode) (k : Kind) → sends_of rules all stores part b items olds news node k ≡ sends_of rules all stores part a items olds news node k
      kind_sends node (StreamSource t) = refl
      kind_sends node (TableSource t) = refl
      kind_sends node (StreamFilter f x) = refl
      kind_sends node (TableFilter f x) = refl
      kind_sends node (StreamMap f s) = refl
      kind_sends node (TableMap f s) = refl
      kind_sends node (KeySelected f x) = refl
      kind_sends node (StreamAggregate f by field through) = refl
      kind_sends node (TableAggregate f by field) = refl
      kind_sends node (Windowed f by w through) = refl
      kind_sends node (KeyJoin l r kind s) = refl
      kind_sends node (ForeignKeyJoin l r fk kind s) = refl

      sends_same : (nodes : List TaskNode) → all_sends rules all stores part b items olds news nodes ≡ all_sends rules all stores part a items olds news nodes
      sends_same [] = refl
      sends_same (x ∷ nodes) = ap₂ (λ xs ys. xs ++ ys) (ap (flat_map (sent_by x a.item.time)) (kind_sends x x.kind)) (sends_same nodes)

  module _ (stores : ByteStores) (items : ℕ → Option StreamItem) where
    kind_counts : (node : TaskNode) (k : Kind) → counts_by stores b items node k ≡ counts_by stores a items node k
    kind_counts node (StreamSource t) = refl
    kind_counts node (TableSource t) = refl
    kind_counts node (StreamFilter f x) = refl
    kind_counts node (TableFilter f x) = refl
    kind_counts node (StreamMap f s) = refl
    kind_counts node (TableMap f s) = refl
    kind_counts node (KeySelected f x) = refl
    kind_counts node (StreamAggregate f by field through) = refl
    kind_counts node (TableAggregate f by field) = refl
    kind_counts node (Windowed f by w through) = refl
    kind_counts node (KeyJoin l r kind s) = refl
    kind_counts node (ForeignKeyJoin l r fk kind s) = refl

    recs_same : (part : ℕ) (olds news : Values) (nodes : List TaskNode) → all_recs part stores b items olds news nodes ≡ all_recs part stores a items olds news nodes
    recs_same part olds news [] = refl
    recs_same part olds news (x ∷ nodes) =
        ap₂ (λ (c : CountedBytes) (ys : List (PartId × Rec)). (change_by part a olds news x ++ map (at_part x.topics.changelog part) c.recs ++ hashed_by part stores a x) ++ ys) (kind_counts x x.kind) (recs_same part olds news nodes)

    late_same : (nodes : List TaskNode) → late_of stores b items nodes ≡ late_of stores a items nodes
    late_same [] = refl
    late_same (x ∷ nodes) = ap₂ (λ (c : CountedBytes) (i : ℕ). c.late + i) (kind_counts x x.kind) (late_same nodes)

  module _ (nodes : List TaskNode) (stores : ByteStores) where
    its_items : item_in (all_items b [] (kinds_in nodes)) ≡ item_in (all_items a [] (kinds_in nodes))
    its_items = ap item_in (items_same [] (kinds_in nodes))

    pub made_plain : (rules : Rules) (part : ℕ) → made_of rules nodes stores part b ≡ made_of rules nodes stores part a
    made_plain rules part =
        let key = step_key a.item.message in
        let olds : Values = in_list (old_list stores key nodes) in
        let items : ℕ → Option StreamItem = item_in (all_items a [] (kinds_in nodes)) in
        ap (λ i. made_at rules nodes stores part b i olds key) its_items
        ∙ (ap (λ vs. made_with rules nodes stores part b items olds (value_in olds vs)) (list_same rules items olds key nodes)
        ∙ ap₂ (λ xs ys. xs ++ ys)
        (sends_same rules items olds nodes stores part (value_in olds (new_list rules a items olds key nodes)) nodes)
        (recs_same stores items part olds (value_in olds (new_list rules a items olds key nodes)) nodes))

    pub late_plain : late_in nodes stores b ≡ late_in nodes stores a
    late_plain = ap (λ i. late_of stores b i nodes) its_items ∙ late_same stores (item_in (all_items a [] (kinds_in nodes))) nodes
