-- What a step leaves of the nodes that its topic can't reach.
use Rattle.std.proofs.Common.{◌≡◌, ℕ, zero, suc, ◌+◌, ◌<◌, ◌≤◌, Bool, true, false, cond, not, ◌||◌, ◌&&◌, ◌==◌, List, [], ◌∷◌, ◌++◌, Option, Some, None, refl, sym, ap, ap₂, subst, ◌∙◌, arith, nat_le, nat_eq, ne_eqb, eqb-true, eq-eqb, leb-false, true≢false, ℤ, option_map, option_and_then}
use Rattle.std.specs.Prelude.{slice_get}
use Rattle.std.specs.Ordering.{is_eq}
use Rattle.std.specs.Cmp.{tied_itself, int_cmp_total}
use Rattle.std.specs.Cmp.Lexicographic.{nat_list_cmp_total}
use Rattle.std.proofs.lemmas.Bool.{and_from}
use Rattle.ks_expr.specs.Eval.{Row, holds, project, joined}
use Rattle.ks_plan.specs.declared.node.Topic.{Topic}
use Rattle.ks_plan.specs.declared.node.Topic.TheVariants.{Input, Repartition, Subscriptions, Responses, Changelog, HashChangelog}
use Rattle.ks_plan.specs.Layout.{same_topic}
use Rattle.ks_plan.specs.Plan.{Kind}
use Rattle.ks_plan.specs.Plan.Kind.{StreamSource, TableSource, StreamFilter, TableFilter, StreamMap, TableMap, KeySelected, StreamAggregate, TableAggregate, Windowed, KeyJoin, ForeignKeyJoin}
use Rattle.ks_def_runs.specs.FinMap as fin
use Rattle.ks_query.specs.Streams.{Key, StreamItem, filter_item, map_item, rekey_item}
use Rattle.ks_query.specs.Query.{with_number}
use Rattle.ks_query.specs.Aggregates.{same_share, share_under, deltas_of, table_parts}
use Rattle.ks_def_tasks.specs.Messages.{Stored, shown, same_option, same_row, Message, Store, Rules}
use Rattle.ks_def_tasks.specs.Foreign.{answer_all, subscriptions}
use Rattle.ks_def_tasks.specs.Windowed.{Counted, count_item, not_counted}
use Rattle.ks_def_tasks.specs.Step.{Arrival, Values, Sent, Written, step_key, arrived, item_given, item_keyed, item_at, item_into, items_from, row_in, changed, of_row, kept_row, taken_row, added, applied, direct, responded, value_at, values_from, counted_at, hash_changes, regroup, regroup_rows, send_deltas, send_subscriptions, send_responses, answer_one, join_sends, sends_at, value_changes, write_all, changes_at}
use Rattle.ks_def_tasks.proofs.Itself.{row_itself, nothing_changes}
use Rattle.ks_task_nodes.specs.Nodes.{TaskNode, kinds_in}
use Rattle.ks_task_nodes.specs.Reach.{is_among, is_named, is_fed, is_reached_by, is_reached, with_reached, live_in, are_numbered, NoItems, SameValues, OutOfReachStays}

-- ---- tests
pub or_first : (a b : Bool) → (a || b) ≡ false → a ≡ false
or_first true b h = absurd (true≢false h)
or_first false b h = refl

pub or_second : (a b : Bool) → (a || b) ≡ false → b ≡ false
or_second true b h = absurd (true≢false h)
or_second false b h = h

and_first : (a b : Bool) → (a && b) ≡ true → a ≡ true
and_first true b h = refl
and_first false b h = absurd (true≢false (sym h))

pub and_second : (a b : Bool) → (a && b) ≡ true → b ≡ true
and_second true b h = h
and_second false b h = absurd (true≢false (sym h))

or_false : (a : Bool) → (a || false) ≡ a
or_false true = refl
or_false false = refl

or_true : (a : Bool) → (a || true) ≡ true
or_true true = refl
or_true false = refl

or_assoc : (a b c : Bool) → (a || (b || c)) ≡ ((a || b) || c)
or_assoc true b c = refl
or_assoc false b c = refl

-- ---- numbers that are among those reached
among_end : (f n : ℕ) (live : List ℕ) → is_among f (live ++ n ∷ []) ≡ (is_among f live || (f == n))
among_end f n [] = or_false (f == n)
among_end f n (m ∷ ms) = ap (λ (b : Bool). (f == m) || b) (among_end f n ms) ∙ or_assoc (f == m) (is_among f ms) (f == n)

kept_before : (f n : ℕ) (live : List ℕ) (b : Bool) → f < n → is_among f (with_reached b live n) ≡ is_among f live
kept_before f n live true lt = among_end f n live ∙ (ap (λ (b : Bool). is_among f live || b) (ne_eqb f n (λ (e : f ≡ n). omega (arith, lt, e))) ∙ or_false (is_among f live))
kept_before f n live false lt = refl

told_at : (n : ℕ) (live : List ℕ) (b : Bool) → is_among n live ≡ false → is_among n (with_reached b live n) ≡ b
told_at n live true none = among_end n n live ∙ (ap (λ (b : Bool). is_among n live || b) (eq-eqb n n refl) ∙ or_true (is_among n live))
told_at n live false none = none

pub none_behind : (m n : ℕ) (live : List ℕ) (b : Bool) → n < m → is_among m live ≡ false → is_among m (with_reached b live n) ≡ false
none_behind m n live true lt none = among_end m n live ∙ ap₂ (λ (x y : Bool). x || y) none (ne_eqb m n (λ (e : m ≡ n). omega (arith, lt, e)))
none_behind m n live false lt none = none

pub number_is : (n m : ℕ) (more : Bool) → ((n == m) && more) ≡ true → n ≡ m
number_is n m more h = eqb-true n m (and_first (n == m) more h)

-- nodes behind a number change nothing of what is before it
pub later : (t : Topic) (f n : ℕ) (live : List ℕ) (nodes : List TaskNode) → f < n → are_numbered n nodes ≡ true → is_among f (live_in t live nodes) ≡ is_among f live
later t f n live [] lt h = refl
later t f n live (node ∷ nodes) lt h =
    let m = node.topics.number in
    let r = is_reached t m node.kind live in
    later t f (suc n) (with_reached r live m) nodes (omega (arith, lt)) (and_second (n == m) (are_numbered (suc n) nodes) h)
    ∙ kept_before f m live r (subst (λ x. f < x) (number_is n m (are_numbered (suc n) nodes) h) lt)

-- ---- whether a node is reached is told by those before it
fed_same : (n f : ℕ) (a b : List ℕ) → ((i : ℕ) → i < n → is_among i b ≡ is_among i a) → is_fed n f a ≡ is_fed n f b
fed_same n f a b same = by (nat_le n f) refl
  where
    by : (c : Bool) → nat_le n f ≡ c → (is_among f a || c) ≡ (is_among f b || c)
    by true e = or_true (is_among f a) ∙ sym (or_true (is_among f b))
    by false e = ap (λ (x : Bool). x || false) (sym (same f (leb-false n f e)))

reached_by_same : (n : ℕ) (k : Kind) (t : Topic) (a b : List ℕ) → ((i : ℕ) → i < n → is_among i b ≡ is_among i a) → is_reached_by n k t a ≡ is_reached_by n k t b
reached_by_same n (StreamSource own) t a b same = refl
reached_by_same n (TableSource own) t a b same = refl
reached_by_same n (StreamFilter f test) t a b same = fed_same n f a b same
reached_by_same n (TableFilter f test) t a b same = fed_same n f a b same
reached_by_same n (StreamMap f set) t a b same = fed_same n f a b same
reached_by_same n (TableMap f set) t a b same = fed_same n f a b same
reached_by_same n (KeySelected f field) t a b same = fed_same n f a b same
reached_by_same n (StreamAggregate f by field through) t a b same = fed_same n f a b same
reached_by_same n (TableAggregate f by field) t a b same = fed_same n f a b same
reached_by_same n (Windowed f by window through) t a b same = fed_same n f a b same
reached_by_same n (KeyJoin l r how set) t a b same = ap₂ (λ (x y : Bool). x || y) (fed_same n l a b same) (fed_same n r a b same)
reached_by_same n (ForeignKeyJoin l r fk how set) t a b same = ap₂ (λ (x y : Bool). x || y) (fed_same n l a b same) (fed_same n r a b same)

-- whether a node is among all that are reached is whether it is reached by those before it
pub number_here : (t : Topic) (n : ℕ) (live : List ℕ) (node : TaskNode) (nodes : List TaskNode) → are_numbered n (node ∷ nodes) ≡ true → ((m : ℕ) → n ≤ m → is_among m live ≡ false) →
    is_among n (live_in t live (node ∷ nodes)) ≡ is_reached t node.topics.number node.kind live
number_here t n live node nodes h none =
    let m = node.topics.number in
    let r = is_reached t m node.kind live in
    let is : n ≡ m = number_is n m (are_numbered (suc n) nodes) h in
    later t n (suc n) (with_reached r live m) nodes (omega arith) (and_second (n == m) (are_numbered (suc n) nodes) h)
    ∙ subst (λ (x : ℕ). is_among n (with_reached r live x) ≡ r) is (told_at n live r (none n (omega arith)))

-- a node is among these exactly where it is reached by these
abbrev pub Closed : Topic → List ℕ → ℕ → List TaskNode → Type 0
Closed t live n [] = Unit {0}
Closed t live n (node ∷ nodes) = (is_among n live ≡ is_reached t n node.kind live) × Closed t live (suc n) nodes

pub closed : (t : Topic) (n : ℕ) (live : List ℕ) (nodes : List TaskNode) → are_numbered n nodes ≡ true → ((m : ℕ) → n ≤ m → is_among m live ≡ false) → Closed t (live_in t live nodes) n nodes
closed t n live [] h none = tt
closed t n live (node ∷ nodes) h none =
    let m = node.topics.number in
    let r = is_reached t m node.kind live in
    let is : n ≡ m = number_is n m (are_numbered (suc n) nodes) h in
    let rest = and_second (n == m) (are_numbered (suc n) nodes) h in
    let one = with_reached r live m in
    let all = live_in t one nodes in
    let here : is_among n all ≡ r = number_here t n live node nodes h none in
    let same : r ≡ is_reached t m node.kind all =
    ap (λ (b : Bool). is_named t m || b) (reached_by_same m node.kind t live all (λ i lt. later t i n live (node ∷ nodes) (subst (λ (x : ℕ). i < x) (sym is) lt) h)) in (
      subst (λ (x : ℕ). is_among n all ≡ is_reached t x node.kind all) (sym is) (here ∙ same),
      closed t (suc n) one nodes rest (λ i le. none_behind i m live r (omega (arith, le, is)) (none i (omega (arith, le)))),
    )

-- ---- a node that isn't reached
-- a topic that isn't its own brings it nothing
flip : (x : Message) (t u : Topic) → same_topic t u ≡ false → cond {A = Option Message} (same_topic t u) (Some x) None ≡ None
flip x t u h = ap (λ b. cond {A = Option Message} b (Some x) None) h

apart_repartition : (t : Topic) (n : ℕ) → is_named t n ≡ false → same_topic t (Repartition n) ≡ false
apart_repartition (Repartition m) n h = h
apart_repartition (Input m) n h = refl
apart_repartition (Subscriptions m) n h = refl
apart_repartition (Responses m) n h = refl
apart_repartition (Changelog m) n h = refl
apart_repartition (HashChangelog m) n h = refl

apart_subscriptions : (t : Topic) (n : ℕ) → is_named t n ≡ false → same_topic t (Subscriptions n) ≡ false
apart_subscriptions (Subscriptions m) n h = h
apart_subscriptions (Input m) n h = refl
apart_subscriptions (Repartition m) n h = refl
apart_subscriptions (Responses m) n h = refl
apart_subscriptions (Changelog m) n h = refl
apart_subscriptions (HashChangelog m) n h = refl

apart_responses : (t : Topic) (n : ℕ) → is_named t n ≡ false → same_topic t (Responses n) ≡ false
apart_responses (Responses m) n h = h
apart_responses (Input m) n h = refl
apart_responses (Repartition m) n h = refl
apart_responses (Subscriptions m) n h = refl
apart_responses (Changelog m) n h = refl
apart_responses (HashChangelog m) n h = refl

-- a row that stays
row_same : (r : Option Row) → same_option same_row r r ≡ true
row_same None = refl
row_same (Some r) = row_itself r

share_same : (s : Option (Key × ℤ)) → same_share s s ≡ true
share_same None = refl
share_same (Some s) = and_from _ _ (ap is_eq (tied_itself nat_list_cmp_total s.0)) (ap is_eq (tied_itself int_cmp_total s.1))

pub stays_unchanged : (olds news : Values) (f : ℕ) → news f ≡ olds f → changed olds news f ≡ false
stays_unchanged olds news f is = ap (λ (v : Option Stored). not (same_option same_row (row_in olds f) (option_map shown v))) is ∙ ap not (row_same (row_in olds f))

pub stays_parts : (by : List ℕ) (field : Option (List ℕ)) (row : Option Row) → table_parts by field row row ≡ []
stays_parts by field row = ap (λ (b : Bool). cond b [] (deltas_of false (share_under by field row) ++ deltas_of true (share_under by field row))) (share_same (share_under by field row))

-- what is known of a node that isn't reached: no item of any node that isn't, and no value of such a one is another
pub record IsOut (a : Arrival) (items : ℕ → Option StreamItem) (olds news : Values) (live : List ℕ) (n : ℕ) (k : Kind) : Type 0 where
  pub named : is_named a.topic n ≡ false
  pub reached : is_reached_by n k a.topic live ≡ false
  pub none : (f : ℕ) → is_among f live ≡ false → items f ≡ None
  pub same : (f : ℕ) → is_among f live ≡ false → news f ≡ olds f

module _ (a : Arrival) (items : ℕ → Option StreamItem) (olds news : Values) (live : List ℕ) (n : ℕ) where
  abbrev Out : Kind → Type 0
  Out k = IsOut a items olds news live n k

  pub no_item : (k : Kind) (f : ℕ) → Out k → is_fed n f live ≡ false → items f ≡ None
  no_item k f out unfed = out.none f (or_first (is_among f live) (nat_le n f) unfed)

  pub no_change : (k : Kind) (f : ℕ) → Out k → is_fed n f live ≡ false → news f ≡ olds f
  no_change k f out unfed = out.same f (or_first (is_among f live) (nat_le n f) unfed)

  pub unchanged : (k : Kind) (f : ℕ) → Out k → is_fed n f live ≡ false → changed olds news f ≡ false
  unchanged k f out unfed = stays_unchanged olds news f (no_change k f out unfed)

  pub left_of : (k : Kind) (l r : ℕ) → (is_fed n l live || is_fed n r live) ≡ false → is_fed n l live ≡ false
  left_of k l r h = or_first (is_fed n l live) (is_fed n r live) h

  pub right_of : (k : Kind) (l r : ℕ) → (is_fed n l live || is_fed n r live) ≡ false → is_fed n r live ≡ false
  right_of k l r h = or_second (is_fed n l live) (is_fed n r live) h

  pub none_regrouped : (k : Kind) → Out k → arrived a (Repartition n) ≡ None
  none_regrouped k out = flip a.item.message a.topic (Repartition n) (apart_repartition a.topic n out.named)

  pub none_asked : (k : Kind) → Out k → arrived a (Subscriptions n) ≡ None
  none_asked k out = flip a.item.message a.topic (Subscriptions n) (apart_subscriptions a.topic n out.named)

  pub none_answered : (k : Kind) → Out k → arrived a (Responses n) ≡ None
  none_answered k out = flip a.item.message a.topic (Responses n) (apart_responses a.topic n out.named)

  pub none_into : (k : Kind) (f : ℕ) (through : Bool) → Out k → is_fed n f live ≡ false → item_into a items n f through ≡ None
  none_into k f true out unfed = ap (item_keyed a.item.time) (none_regrouped k out)
  none_into k f false out unfed = no_item k f out unfed

  -- it passes no item on
  pub out_item : (k : Kind) → Out k → item_at a items k ≡ None
  out_item (StreamSource own) out = ap (item_given a.item.time) (flip a.item.message a.topic (Input own) out.reached)
  out_item (StreamFilter f p) out = ap (option_and_then (filter_item p)) (no_item (StreamFilter f p) f out out.reached)
  out_item (StreamMap f s) out = ap (option_and_then (map_item s)) (no_item (StreamMap f s) f out out.reached)
  out_item (KeySelected f field) out = ap (option_and_then (rekey_item field)) (no_item (KeySelected f field) f out out.reached)
  out_item (TableSource own) out = refl
  out_item (TableFilter f p) out = refl
  out_item (TableMap f s) out = refl
  out_item (StreamAggregate f by field through) out = refl
  out_item (TableAggregate f by field) out = refl
  out_item (Windowed f by w through) out = refl
  out_item (KeyJoin l r how s) out = refl
  out_item (ForeignKeyJoin l r fk how s) out = refl

  -- its value stays
  pub out_value : (rules : Rules) (k : Kind) → Out k → value_at rules a items olds news n k ≡ olds n
  out_value rules (StreamSource own) out = refl
  out_value rules (StreamFilter f p) out = refl
  out_value rules (StreamMap f s) out = refl
  out_value rules (KeySelected f field) out = refl
  out_value rules (Windowed f by w through) out = refl
  out_value rules (TableSource own) out = ap (taken_row (olds n)) (flip a.item.message a.topic (Input own) out.reached)
  out_value rules (TableFilter f p) out =
      ap (λ (b : Bool). cond b (kept_row (λ v. cond (holds p v) (Some v) None) (row_in news f)) (olds n)) (unchanged (TableFilter f p) f out out.reached)
  out_value rules (TableMap f s) out =
      ap (λ (b : Bool). cond b (kept_row (λ v. project s (Some v) None) (row_in news f)) (olds n)) (unchanged (TableMap f s) f out out.reached)
  out_value rules (StreamAggregate f by field through) out = ap (added field (olds n)) (none_into (StreamAggregate f by field through) f through out out.reached)
  out_value rules (TableAggregate f by field) out = ap (applied field (olds n)) (none_regrouped (TableAggregate f by field) out)
  out_value rules (KeyJoin l r how s) out =
      let k = KeyJoin l r how s in
      ap₂ (λ (b c : Bool). cond (b || c) (of_row (joined how s (row_in news l) (row_in news r))) (olds n)) (unchanged k l out (left_of k l r out.reached)) (unchanged k r out (right_of k l r out.reached))
  out_value rules (ForeignKeyJoin l r fk how s) out =
      let k = ForeignKeyJoin l r fk how s in
      ap (λ (b : Bool). cond b (direct fk (step_key a.item.message) how s (row_in olds l) (row_in news l) (olds n)) (responded rules how s (row_in news l) (arrived a (Responses n)) (olds n)))
      (unchanged k l out (left_of k l r out.reached)) ∙ ap (λ (m : Option Message). responded rules how s (row_in news l) m (olds n)) (none_answered k out)

  pub none_sent : (by : Option (List ℕ)) (f : ℕ) (through : Bool) → items f ≡ None → cond through (regroup by n (items f)) [] ≡ []
  none_sent by f true none = ap (regroup by n) none
  none_sent by f false none = refl

  -- it sends nothing
  pub out_sends : (rules : Rules) (st : Store) (k : Kind) → Out k → sends_at rules a items st olds news n k ≡ []
  out_sends rules st (StreamSource own) out = refl
  out_sends rules st (TableSource own) out = refl
  out_sends rules st (StreamFilter f p) out = refl
  out_sends rules st (TableFilter f p) out = refl
  out_sends rules st (StreamMap f s) out = refl
  out_sends rules st (TableMap f s) out = refl
  out_sends rules st (KeySelected f field) out = refl
  out_sends rules st (KeyJoin l r how s) out = refl
  out_sends rules st (StreamAggregate f by field through) out = none_sent by f through (no_item (StreamAggregate f by field through) f out out.reached)
  out_sends rules st (Windowed f by w through) out = none_sent by f through (no_item (Windowed f by w through) f out out.reached)
  out_sends rules st (TableAggregate f by field) out =
      ap (λ (v : Option Stored). regroup_rows by field n (row_in olds f) (option_map shown v)) (no_change (TableAggregate f by field) f out out.reached)
      ∙ ap (send_deltas n) (stays_parts by field (row_in olds f))
  out_sends rules st (ForeignKeyJoin l r fk how s) out =
      let k = ForeignKeyJoin l r fk how s in
      ap₂ (λ (xs ys : List Sent). xs ++ ys) (join_nothing (step_key a.item.message)) (ap (answer_one n st r) (none_asked k out))
    where
      join_nothing : (key : Option Key) → join_sends rules fk (a.names n) n l r st olds news key ≡ []
      join_nothing None = refl
      join_nothing (Some q) =
          let k = ForeignKeyJoin l r fk how s in
          ap₂ (λ (b c : Bool). cond b (send_subscriptions n q (subscriptions rules.hash fk q (a.names n) (row_in olds l) (row_in news l))) []
          ++ cond c (send_responses n (answer_all (row_in news r) (fin.entries (st.hashes n q)))) [])
          (unchanged k l out (left_of k l r out.reached)) (unchanged k r out (right_of k l r out.reached))

  -- it counts nothing
  pub out_counted : (st : Store) (k : Kind) → Out k → counted_at a items st n k ≡ not_counted (st.times n) (st.counts n)
  out_counted st (Windowed f by w through) out = ap (count_item w (st.times n) (st.counts n)) (none_into (Windowed f by w through) f through out out.reached)
  out_counted st (StreamSource own) out = refl
  out_counted st (TableSource own) out = refl
  out_counted st (StreamFilter f p) out = refl
  out_counted st (TableFilter f p) out = refl
  out_counted st (StreamMap f s) out = refl
  out_counted st (TableMap f s) out = refl
  out_counted st (KeySelected f field) out = refl
  out_counted st (StreamAggregate f by field through) out = refl
  out_counted st (TableAggregate f by field) out = refl
  out_counted st (KeyJoin l r how s) out = refl
  out_counted st (ForeignKeyJoin l r fk how s) out = refl

  -- and tells its changelogs nothing
  pub out_changes : (st : Store) (k : Kind) → Out k → is_among n live ≡ false → changes_at a items st olds news n k ≡ []
  out_changes st k out apart =
      ap₂ (λ (xs ys : List Written). xs ++ ys)
      (ap (write_all (Changelog n)) (ap₂ (λ (xs ys : List Message). xs ++ ys)
      (ap (value_changes (step_key a.item.message) (olds n)) (out.same n apart) ∙ nothing_changes (step_key a.item.message) (olds n))
      (ap (λ (x : Counted). x.changes) (out_counted st k out))))
      (ap (λ (m : Option Message). write_all (HashChangelog n) (hash_changes st n m)) (none_asked k out))

-- ---- all nodes
pub is_out : (a : Arrival) (items : ℕ → Option StreamItem) (olds news : Values) (live : List ℕ) (n : ℕ) (k : Kind) →
    NoItems live items → SameValues live olds news → is_among n live ≡ is_reached a.topic n k live → is_among n live ≡ false → IsOut a items olds news live n k
is_out a items olds news live n k nothing stays is apart = record {
  named = or_first (is_named a.topic n) (is_reached_by n k a.topic live) (sym is ∙ apart);
  reached = or_second (is_named a.topic n) (is_reached_by n k a.topic live) (sym is ∙ apart);
  none = nothing;
  same = stays;
}

-- one more number
pub with_same : {A : Type 0} (f : ℕ → A) (n : ℕ) (x y : A) (m : ℕ) → (m ≡ n → x ≡ y) → f m ≡ y → with_number f n x m ≡ y
with_same {A} f n x y m at other = by (nat_eq m n) refl
  where
    by : (b : Bool) → nat_eq m n ≡ b → cond b x (f m) ≡ y
    by true e = at (eqb-true m n e)
    by false e = other

pub items_stay : (a : Arrival) (live : List ℕ) (n : ℕ) (nodes : List TaskNode) (items : ℕ → Option StreamItem) → Closed a.topic live n nodes → NoItems live items → NoItems live (items_from a items n (kinds_in nodes))
items_stay a live n [] items c none = none
items_stay a live n (node ∷ nodes) items c none =
    items_stay a live (suc n) nodes (with_number items n (item_at a items node.kind)) c.1
    (λ f apart. with_same items n (item_at a items node.kind) None f
    (λ (e : f ≡ n). out_item a items (λ m. None) (λ m. None) live n node.kind (is_out a items (λ m. None) (λ m. None) live n node.kind none (λ m h. refl) c.0 (subst (λ m. is_among m live ≡ false) e apart)))
    (none f apart))

pub values_stay : (rules : Rules) (a : Arrival) (live : List ℕ) (items : ℕ → Option StreamItem) (olds : Values) (n : ℕ) (nodes : List TaskNode) (news : Values) →
    Closed a.topic live n nodes → NoItems live items → SameValues live olds news → SameValues live olds (values_from rules a items olds news n (kinds_in nodes))
values_stay rules a live items olds n [] news c none same = same
values_stay rules a live items olds n (node ∷ nodes) news c none same =
    let v = value_at rules a items olds news n node.kind in
    values_stay rules a live items olds (suc n) nodes (with_number news n v) c.1 none
    (λ f apart. with_same news n v (olds f) f
    (λ (e : f ≡ n). out_value a items olds news live n rules node.kind (is_out a items olds news live n node.kind none same c.0 (subst (λ m. is_among m live ≡ false) e apart)) ∙ ap olds (sym e))
    (same f apart))

pub closed_at : (t : Topic) (live : List ℕ) (m n : ℕ) (nodes : List TaskNode) (node : TaskNode) → Closed t live m nodes → slice_get nodes n ≡ Some node → is_among (m + n) live ≡ is_reached t (m + n) node.kind live
closed_at t live m n [] node c e = absurd cc
closed_at t live m zero (x ∷ nodes) node c e =
    let s : x ≡ node = cc in
    let z : m ≡ m + 0 = omega arith in
    subst (λ i. is_among i live ≡ is_reached t i node.kind live) z (subst (λ (y : TaskNode). is_among m live ≡ is_reached t m y.kind live) s c.0)
closed_at t live m (suc n) (x ∷ nodes) node c e =
    let z : suc m + n ≡ m + suc n = omega arith in
    subst (λ i. is_among i live ≡ is_reached t i node.kind live) z (closed_at t live (suc m) n nodes node c.1 e)

pub live_closed : (t : Topic) (nodes : List TaskNode) → are_numbered 0 nodes ≡ true → Closed t (live_in t [] nodes) 0 nodes
live_closed t nodes h = closed t 0 [] nodes h (λ m le. refl)

pub out_of_reach_stays : OutOfReachStays
out_of_reach_stays rules a st olds nodes numbered n node there apart =
    let live = live_in a.topic [] nodes in
    let c = live_closed a.topic nodes numbered in
    let items = items_from a (λ m. None) 0 (kinds_in nodes) in
    let none : NoItems live items = items_stay a live 0 nodes (λ m. None) c (λ m h. refl) in
    let news = values_from rules a items olds olds 0 (kinds_in nodes) in
    let same : SameValues live olds news = values_stay rules a live items olds 0 nodes olds c none (λ m h. refl) in
    let z : 0 + n ≡ n = omega arith in
    let here : is_among n live ≡ is_reached a.topic n node.kind live = subst (λ (i : ℕ). is_among i live ≡ is_reached a.topic i node.kind live) z (closed_at a.topic live 0 n nodes node c there) in
    let out = is_out a items olds news live n node.kind none same here apart in
    record {
      item = none n apart;
      value = same n apart;
      sends = out_sends a items olds news live n rules st node.kind out;
      changes = out_changes a items olds news live n st node.kind out apart;
      late = ap (λ (x : Counted). x.late) (out_counted a items olds news live n st node.kind out);
    }
