-- Nodes that a step doesn't go through make nothing.
use Rattle.std.proofs.Common.{◌≡◌, arith, ℕ, suc, ◌+◌, Bool, true, false, cond, ◌||◌, if◌then◌else◌, ◌==◌, eqb-true, List, [], ◌∷◌, ◌++◌, map, Option, Some, None, refl, sym, ap, ap₂, subst, ◌∙◌, option_map}
use Rattle.std.specs.Prelude.{slice_get}
use Rattle.std.specs.List.{flat_map}
use Rattle.std.proofs.Math.Path.{fun_ext}
use Rattle.std.proofs.lemmas.Bool.{true≢false}
use Rattle.ks_record.specs.Records.{Record as Rec}
use Rattle.ks_record.specs.declared.record.PartId.{PartId}
use Rattle.ks_plan.specs.Plan.{Plan, Kind}
use Rattle.ks_plan.specs.Plan.Kind.{StreamSource, TableSource, StreamFilter, TableFilter, StreamMap, TableMap, KeySelected, StreamAggregate, TableAggregate, Windowed, KeyJoin, ForeignKeyJoin}
use Rattle.ks_query.specs.Streams.{Key, StreamItem}
use Rattle.ks_query.specs.Query.{with_number}
use Rattle.ks_def_tasks.specs.Messages.{Stored, shown, Message, Rules}
use Rattle.ks_def_tasks.specs.Foreign.{subscriptions, answer_all}
use Rattle.ks_def_tasks.specs.Bytes.{ByteStores}
use Rattle.ks_def_tasks.specs.Step.{Arrival, Values, Sent, step_key, row_in, item_at, item_into, items_from, send_subscriptions, send_responses, send_deltas, regroup_rows, value_changes}
use Rattle.ks_def_lookups.specs.Counts.{nothing_counted, counted_item}
use Rattle.ks_def_lookups.specs.Windows.{CountedBytes}
use Rattle.ks_def_lookups.specs.Lists.{item_in, all_items}
use Rattle.ks_def_lookups.proofs.Lists.{nodes_act_as_lists}
use Rattle.ks_def_tasks.proofs.Itself.{nothing_changes}
use Rattle.ks_task_nodes.specs.Nodes.{TaskNode, kinds_in}
use Rattle.ks_task_nodes.specs.Reach.{is_among, live_in, are_numbered, at_numbers, NoItems, SameValues}
use Rattle.ks_task_nodes.proofs.Still.{IsOut, is_out, Closed, live_closed, items_stay, number_is, and_second, or_first, or_second, out_item, no_item, no_change, unchanged, left_of, right_of, none_into, none_sent, none_asked, stays_parts, with_same}
use Rattle.ks_task_nodes.proofs.Going.{goes, chosen, StandAt, all_stand, live_chosen}
use Rattle.ks_task_processing.specs.Steps.{sends_of, sends_by, all_sends, sent_by, join_here, answer_here, named_by, kept_at, recs_by, all_recs, told_by, at_part, counts_by, counts_at, hash_here, hash_told, late_by, late_at_numbers, late_of}
use Rattle.ks_task_step.specs.Streams.{is_stream, is_stream_at, has_live_stream}

-- ---- what it sends
module _ (rules : Rules) (all : List TaskNode) (stores : ByteStores) (part : ℕ) (a : Arrival) (items : ℕ → Option StreamItem) (olds news : Values) (live : List ℕ) where
  sent_nothing : (node : TaskNode) (k : Kind) → IsOut a items olds news live node.topics.number k → sends_of rules all stores part a items olds news node k ≡ []
  sent_nothing node (StreamSource own) out = refl
  sent_nothing node (TableSource own) out = refl
  sent_nothing node (StreamFilter f p) out = refl
  sent_nothing node (TableFilter f p) out = refl
  sent_nothing node (StreamMap f s) out = refl
  sent_nothing node (TableMap f s) out = refl
  sent_nothing node (KeySelected f field) out = refl
  sent_nothing node (KeyJoin l r how s) out = refl
  sent_nothing node (StreamAggregate f by field through) out =
      let n = node.topics.number in
      none_sent a items olds news live n by f through (no_item a items olds news live n (StreamAggregate f by field through) f out out.reached)
  sent_nothing node (Windowed f by w through) out =
      let n = node.topics.number in
      none_sent a items olds news live n by f through (no_item a items olds news live n (Windowed f by w through) f out out.reached)
  sent_nothing node (TableAggregate f by field) out =
      let n = node.topics.number in
      ap (λ (v : Option Stored). regroup_rows by field n (row_in olds f) (option_map shown v)) (no_change a items olds news live n (TableAggregate f by field) f out out.reached)
      ∙ ap (send_deltas n) (stays_parts by field (row_in olds f))
  sent_nothing node (ForeignKeyJoin l r fk how s) out =
      let n = node.topics.number in
      let k = ForeignKeyJoin l r fk how s in
      ap₂ (λ (xs ys : List Sent). xs ++ ys) (join_nothing (step_key a.item.message)) (ap (answer_here all stores n r) (none_asked a items olds news live n k out))
    where
      join_nothing : (key : Option Key) → join_here rules stores part node fk l r olds news key ≡ []
      join_nothing None = refl
      join_nothing (Some q) =
          let n = node.topics.number in
          let k = ForeignKeyJoin l r fk how s in
          ap₂ (λ (b c : Bool). cond b (send_subscriptions n q (subscriptions rules.hash fk q (named_by node part) (row_in olds l) (row_in news l))) []
          ++ cond c (send_responses n (answer_all (row_in news r) (kept_at stores node q))) [])
          (unchanged a items olds news live n k l out (left_of a items olds news live n k l r out.reached))
          (unchanged a items olds news live n k r out (right_of a items olds news live n k l r out.reached))

  no_sends : (node : TaskNode) → IsOut a items olds news live node.topics.number node.kind → is_among node.topics.number live ≡ false → sends_by rules all stores part a items olds news node ≡ []
  no_sends node out apart = ap (flat_map (sent_by node a.item.time)) (sent_nothing node node.kind out)

  sends_are : (nodes : List TaskNode) → flat_map (sends_by rules all stores part a items olds news) nodes ≡ all_sends rules all stores part a items olds news nodes
  sends_are [] = refl
  sends_are (node ∷ nodes) = ap (λ (l : List (PartId × Rec)). sends_by rules all stores part a items olds news node ++ l) (sends_are nodes)

  -- ---- what its changelogs are told
  pub counts_nothing : (node : TaskNode) (k : Kind) → IsOut a items olds news live node.topics.number k → counts_by stores a items node k ≡ nothing_counted (stores node.topics.changelog)
  counts_nothing node (StreamSource own) out = refl
  counts_nothing node (TableSource own) out = refl
  counts_nothing node (StreamFilter f p) out = refl
  counts_nothing node (TableFilter f p) out = refl
  counts_nothing node (StreamMap f s) out = refl
  counts_nothing node (TableMap f s) out = refl
  counts_nothing node (KeySelected f field) out = refl
  counts_nothing node (StreamAggregate f by field through) out = refl
  counts_nothing node (TableAggregate f by field) out = refl
  counts_nothing node (KeyJoin l r how s) out = refl
  counts_nothing node (ForeignKeyJoin l r fk how s) out = refl
  counts_nothing node (Windowed f by w through) out = own node.topics.is_own
    where
      own : (b : Bool) → cond b (counted_item w (stores node.topics.changelog) (item_into a items node.topics.number f through)) (nothing_counted (stores node.topics.changelog)) ≡ nothing_counted (stores node.topics.changelog)
      own true = ap (counted_item w (stores node.topics.changelog)) (none_into a items olds news live node.topics.number (Windowed f by w through) f through out out.reached)
      own false = refl

  no_recs : (node : TaskNode) → IsOut a items olds news live node.topics.number node.kind → is_among node.topics.number live ≡ false → recs_by part stores a items olds news node ≡ []
  no_recs node out apart =
      let n = node.topics.number in
      let key = step_key a.item.message in
      ap₂ (λ (xs ys : List (PartId × Rec)). xs ++ ys)
      (ap₂ (λ (xs ys : List (PartId × Rec)). xs ++ ys)
      (ap (map (told_by node part a.item.time)) (ap (value_changes key (olds n)) (out.same n apart) ∙ nothing_changes key (olds n)))
      (ap (λ (x : CountedBytes). map (at_part node.topics.changelog part) x.recs) (counts_nothing node node.kind out)))
      (ap (λ (m : Option Message). map (hash_told node part a.item.time) (hash_here stores node m)) (none_asked a items olds news live n node.kind out))

  recs_are : (nodes : List TaskNode) → flat_map (recs_by part stores a items olds news) nodes ≡ all_recs part stores a items olds news nodes
  recs_are [] = refl
  recs_are (node ∷ nodes) = ap (λ (l : List (PartId × Rec)). recs_by part stores a items olds news node ++ l) (recs_are nodes)

  -- ---- late pairs
  late_went : (n : ℕ) (nodes : List TaskNode) → StandAt all n nodes → are_numbered n nodes ≡ true → Closed a.topic live n nodes → NoItems live items → SameValues live olds news →
      late_at_numbers stores a items all (chosen live n nodes) ≡ late_of stores a items nodes
  late_went n [] there h c none same = refl
  late_went n (node ∷ nodes) there h c none same =
      by (is_among n live) refl (chosen live (suc n) nodes)
      ∙ ap (λ (m : ℕ). (counts_at stores a items node).late + m) (late_went (suc n) nodes there.1 (and_second (n == node.topics.number) (are_numbered (suc n) nodes) h) c.1 none same)
    where
      none_late : is_among n live ≡ false → (counts_at stores a items node).late ≡ 0
      none_late apart =
          ap (λ (x : CountedBytes). x.late) (counts_nothing node node.kind (subst (λ (x : ℕ). IsOut a items olds news live x node.kind) (number_is n node.topics.number (are_numbered (suc n) nodes) h) (is_out a items olds news live n node.kind none same c.0 apart)))

      by : (b : Bool) → is_among n live ≡ b → (more : List ℕ) → late_at_numbers stores a items all ((if b then n ∷ [] else []) ++ more) ≡ (counts_at stores a items node).late + late_at_numbers stores a items all more
      by true e more = ap (λ (o : Option TaskNode). late_by stores a items o + late_at_numbers stores a items all more) there.0
      by false e more = omega (arith, none_late e)

no_rules : Rules
no_rules = record { part = λ k s. 0; hash = λ r. 0 }

-- ---- over the nodes that a step goes through, or over all
module _ (stores : ByteStores) (part : ℕ) (a : Arrival) (items : ℕ → Option StreamItem) (olds news : Values) (live : List ℕ) (nodes : List TaskNode)
    (h : are_numbered 0 nodes ≡ true) (is : live ≡ live_in a.topic [] nodes) (none : NoItems live items) (same : SameValues live olds news) where
  pub sends_go : (rules : Rules) → at_numbers (sends_by rules nodes stores part a items olds news) nodes live ≡ all_sends rules nodes stores part a items olds news nodes
  sends_go rules =
      goes (sends_by rules nodes stores part a items olds news) a items olds news live nodes h is none same (no_sends rules nodes stores part a items olds news live)
      ∙ sends_are rules nodes stores part a items olds news live nodes

  pub recs_go : at_numbers (recs_by part stores a items olds news) nodes live ≡ all_recs part stores a items olds news nodes
  recs_go =
      goes (recs_by part stores a items olds news) a items olds news live nodes h is none same (no_recs no_rules nodes stores part a items olds news live)
      ∙ recs_are no_rules nodes stores part a items olds news live nodes

  pub late_goes : late_at_numbers stores a items nodes live ≡ late_of stores a items nodes
  late_goes =
      let c : Closed a.topic live 0 nodes = subst (λ (l : List ℕ). Closed a.topic l 0 nodes) (sym is) (live_closed a.topic nodes h) in
      let all : live ≡ chosen live 0 nodes = subst (λ (l : List ℕ). l ≡ chosen l 0 nodes) (sym is) (live_chosen a.topic nodes h) in
      ap (λ (l : List ℕ). late_at_numbers stores a items nodes l) all ∙ late_went no_rules nodes stores part a items olds news live 0 nodes (all_stand nodes) h c none same

-- ---- items
abbrev no_plan : List Kind → Plan
no_plan ks = record { kinds = ks; counts = []; befores = []; print = [] }

items_are : (a : Arrival) (nodes : List TaskNode) → items_from a (λ m. None) 0 (kinds_in nodes) ≡ item_in (all_items a [] (kinds_in nodes))
items_are a nodes = (nodes_act_as_lists no_rules (no_plan (kinds_in nodes)) a (λ n. None)).items

pub no_items : (a : Arrival) (live : List ℕ) (nodes : List TaskNode) → are_numbered 0 nodes ≡ true → live ≡ live_in a.topic [] nodes → NoItems live (item_in (all_items a [] (kinds_in nodes)))
no_items a live nodes h is =
    let c : Closed a.topic live 0 nodes = subst (λ (l : List ℕ). Closed a.topic l 0 nodes) (sym is) (live_closed a.topic nodes h) in
    subst (NoItems live) (items_are a nodes) (items_stay a live 0 nodes (λ m. None) c (λ f apart. refl))

-- a node that is no stream passes nothing on
no_stream : (a : Arrival) (items : ℕ → Option StreamItem) (k : Kind) → is_stream k ≡ false → item_at a items k ≡ None
no_stream a items (StreamSource t) e = absurd (true≢false e)
no_stream a items (StreamFilter f p) e = absurd (true≢false e)
no_stream a items (StreamMap f s) e = absurd (true≢false e)
no_stream a items (KeySelected f k) e = absurd (true≢false e)
no_stream a items (TableSource t) e = refl
no_stream a items (TableFilter f p) e = refl
no_stream a items (TableMap f s) e = refl
no_stream a items (StreamAggregate f by field through) e = refl
no_stream a items (TableAggregate f by field) e = refl
no_stream a items (Windowed f by w through) e = refl
no_stream a items (KeyJoin l r kind set) e = refl
no_stream a items (ForeignKeyJoin l r fk kind set) e = refl

-- a number that is among those that are gone through isn't that of a stream
no_stream_at : (kinds : List Kind) (ns : List ℕ) (n : ℕ) → has_live_stream kinds ns ≡ false → is_among n ns ≡ true → is_stream_at (slice_get kinds n) ≡ false
no_stream_at kinds [] n h e = absurd (true≢false (sym e))
no_stream_at kinds (m ∷ ms) n h e = by (n == m) refl e (no_stream_at kinds ms n (or_second (is_stream_at (slice_get kinds m)) (has_live_stream kinds ms) h))
  where
    by : (b : Bool) → (n == m) ≡ b → (b || is_among n ms) ≡ true → (is_among n ms ≡ true → is_stream_at (slice_get kinds n) ≡ false) → is_stream_at (slice_get kinds n) ≡ false
    by true t f more = subst (λ (i : ℕ). is_stream_at (slice_get kinds i) ≡ false) (sym (eqb-true n m t)) (or_first (is_stream_at (slice_get kinds m)) (has_live_stream kinds ms) h)
    by false t f more = more f

-- these kinds stand among all, the first of them at n
abbrev KindsAt : List Kind → ℕ → List TaskNode → Type 0
KindsAt all n [] = Unit {0}
KindsAt all n (node ∷ nodes) = (slice_get all n ≡ Some node.kind) × KindsAt all (suc n) nodes

kinds_more : (x : Kind) (all : List Kind) (n : ℕ) (nodes : List TaskNode) → KindsAt all n nodes → KindsAt (x ∷ all) (suc n) nodes
kinds_more x all n [] h = tt
kinds_more x all n (node ∷ nodes) h = (h.0, kinds_more x all (suc n) nodes h.1)

kinds_at : (nodes : List TaskNode) → KindsAt (kinds_in nodes) 0 nodes
kinds_at [] = tt
kinds_at (node ∷ nodes) = (refl, kinds_more node.kind (kinds_in nodes) 0 nodes (kinds_at nodes))

none_at_all : (a : Arrival) (live : List ℕ) (all : List Kind) (n : ℕ) (nodes : List TaskNode) (items : ℕ → Option StreamItem) → has_live_stream all live ≡ false → Closed a.topic live n nodes → KindsAt all n nodes →
    ((m : ℕ) → items m ≡ None) → (m : ℕ) → items_from a items n (kinds_in nodes) m ≡ None
none_at_all a live all n [] items e c k none = none
none_at_all a live all n (node ∷ nodes) items e c k none =
    none_at_all a live all (suc n) nodes (with_number items n (item_at a items node.kind)) e c.1 k.1
    (λ m. with_same items n (item_at a items node.kind) None m (λ i. by (is_among n live) refl) (none m))
  where
    by : (b : Bool) → is_among n live ≡ b → item_at a items node.kind ≡ None
    by true t = no_stream a items node.kind (subst (λ (o : Option Kind). is_stream_at o ≡ false) k.0 (no_stream_at all live n e t))
    by false t = out_item a items (λ i. None) (λ i. None) live n node.kind (is_out a items (λ i. None) (λ i. None) live n node.kind (λ f apart. none f) (λ f apart. refl) c.0 t)

-- where a step goes through no stream nothing is passed on
pub nothing_passed : (a : Arrival) (live : List ℕ) (nodes : List TaskNode) → are_numbered 0 nodes ≡ true → live ≡ live_in a.topic [] nodes → has_live_stream (kinds_in nodes) live ≡ false →
    item_in [] ≡ item_in (all_items a [] (kinds_in nodes))
nothing_passed a live nodes h is e =
    let c : Closed a.topic live 0 nodes = subst (λ (l : List ℕ). Closed a.topic l 0 nodes) (sym is) (live_closed a.topic nodes h) in
    fun_ext (λ n. sym (none_at_all a live (kinds_in nodes) 0 nodes (λ m. None) e c (kinds_at nodes) (λ m. refl) n)) ∙ items_are a nodes
