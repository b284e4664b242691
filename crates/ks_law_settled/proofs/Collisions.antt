-- A collision of two decided records of a left node's changelog is one of rows in the run, and the search for the first finds any.
use Rattle.std.proofs.Common.{◌≡◌, ℕ, zero, suc, ◌+◌, ◌<◌, ◌≤◌, Bool, true, false, cond, ◌&&◌, not, List, length, [], ◌∷◌, ◌++◌, map, get_or, slice_get, Option, Some, None, refl, sym, ap, ap₂, subst, ◌∙◌, arith, append_assoc, length-append, nat_eq, ⊎_elim, ◌⊎◌, inl, inr}
use Rattle.std.specs.Prelude.{option_map, ◌==◌}
use Rattle.std.specs.Option.{option_or}
use Rattle.std.specs.Ordering.{is_eq}
use Rattle.std.specs.Cmp.{tied_itself}
use Rattle.std.specs.Cmp.Lexicographic.{nat_list_cmp_total}
use Rattle.std.proofs.lemmas.Bool.{and_parts, and_from, eqb-true, true≢false, cases_lt}
use Rattle.std.proofs.lemmas.Bool.Decides.{Decides-eqb}
use Rattle.ks_record.specs.Records.{Record as Rec}
use Rattle.ks_record.specs.declared.record.PartId.{PartId}
use Rattle.ks_record.specs.declared.record.TaskId.{TaskId}
use Rattle.ks_record.specs.Parts.{same_part}
use Rattle.ks_expr.specs.declared.terms.JoinKind.{JoinKind}
use Rattle.ks_expr.specs.Terms.{Set}
use Rattle.ks_expr.specs.Eval.{Row, same_bytes}
use Rattle.ks_expr.specs.declared.terms.Fk.{Fk}
use Rattle.ks_plan.specs.Drafts.{DraftView}
use Rattle.ks_plan.specs.Plan.{Plan, Kind, plan_of, is_stream, is_windowed}
use Rattle.ks_plan.specs.Plan.Kind.{ForeignKeyJoin}
use Rattle.ks_plan.specs.declared.node.Topic.TheVariants.{Input as InputTopic, Changelog}
use Rattle.ks_plan.specs.Layout.{up_to, parts_of, kind_at, no_kind, number_of, topic_at, sub_of}
use Rattle.ks_history.specs.declared.journal.Entry.{Entry}
use Rattle.ks_history.specs.Partition.{Logged, recs, with_offsets}
use Rattle.ks_history.specs.Reads.{decided_records}
use Rattle.ks_history.specs.State.{State}
use Rattle.ks_history.specs.Faithful.{decided}
use Rattle.ks_history.specs.History.{at}
use Rattle.ks_law_exactly_once.specs.Keeping.{FitIn}
use Rattle.ks_law_exactly_once.proofs.Replays.{tells_pasts}
use Rattle.ks_query.specs.Streams.{Key, Input}
use Rattle.ks_def_tasks.specs.Messages.{Place, Item, Stored, shown, Message, Rules, same_row}
use Rattle.ks_def_tasks.specs.Messages.Message.{Given, Keyed, Moved, Asked, Answered, Kept, KeptCount, KeptTime, KeptHash}
use Rattle.ks_def_tasks.specs.Bytes.{rec_of, stored_bytes, records_at, key_bytes, value_bytes}
use Rattle.ks_def_tasks.specs.Tasks.{part_of_key}
use Rattle.ks_def_tasks.specs.Collision.{past, had_in, rows_had, In, NoneCollides, IsNode, Collides, NoCollision}
use Rattle.ks_def_tasks.proofs.Same.{bytes-is, row-is}
use Rattle.ks_def_tasks.proofs.Each.{AllOf, all_left, all_right}
use Rattle.ks_law_quiescence.specs.States.{State as RunOf}
use Rattle.ks_plan.specs.Layout.{spread_of, spread_of_topic, input_topics, by_node, through_topics, changelogs_of}
use Rattle.ks_def_tasks.proofs.Numbered.{length_up_to, get_first, get_up_to, get_map}
use Rattle.std.proofs.lemmas.List.{length-map}
use Rattle.std.proofs.lemmas.Bool.{eq-eqb}
use Rattle.ks_wire.specs.Reading.{long_key_at}
use Rattle.ks_law_topology.specs.Placing.{is_at_group, is_placed, placed_by}
use Rattle.ks_law_settled.specs.Jobs.{produced_part, produced_rec}
use Rattle.ks_law_fk_quiescence.specs.AtRest.{is_table}
use Rattle.ks_law_fk_quiescence.proofs.TableInputs.{is_table_at, TableInputs, EachInputs, table_inputs}
use Rattle.ks_history.proofs.Names.{same_part-is}
use Rattle.ks_law_topology.specs.Work.{setup_of}
use Rattle.ks_law_topology.specs.Placing.{stands}
use Rattle.ks_law_topology.proofs.Placing.{decided_stand}
use Rattle.ks_law_topology.proofs.Networks.{works_are_networks}
use Rattle.ks_def_tasks.proofs.Itself.{row_itself}
use Rattle.ks_law_settled.specs.Folded.{log_part}
use Rattle.ks_law_settled.specs.Jobs.{produced_of, FitInputs, FitsInput}
use Rattle.ks_law_settled.proofs.Lists.{at_node, all_up_to}
use Rattle.ks_law_settled.proofs.Inputs.{produced_is}
use Rattle.ks_law_settled.specs.Settled.{IsRunOf}
use Rattle.ks_law_settled.specs.Collision.{row_by, same_keys, rows_collide, collide, earlier, OffsetPair, pair_at, first_from, first_in, in_parts, NodePair, of_node, of_nodes, first_pair, NoneWith, NonePaired, NoneInJournal}
use Rattle.ks_law_settled.proofs.Spelled.{FitsStored, stored_again}
use Rattle.ks_law_settled.proofs.WholeNodes.{Whole, NodeIs, nodes_are, IsOwned}
use Rattle.ks_law_settled.proofs.Steps.{FitsLog}
use Rattle.ks_law_settled.proofs.Agreement.{table_owned}
use Rattle.ks_law_settled.proofs.Tables as answer

same_some : {A : Type 0} {x y : A} → Some x ≡ Some y → x ≡ y
same_some e = cc

none_some : {A : Type 0} {x : A} → None ≡ Some x → ⊥
none_some e = cc

bytes_itself : (k : List ℕ) → same_bytes k k ≡ true
bytes_itself k = ap is_eq (tied_itself nat_list_cmp_total k)

-- ---- what a key has had, and the records that say so
-- one of these records, of this key and with this row
pub record Says (kind : Kind) (k : Key) (v : Row) (rs : List Rec) : Type 0 where
  pub says : Rec
  pub among : In says rs
  pub key : says.key ≡ Some k
  pub row : row_by kind says.value ≡ Some v

says_more : (kind : Kind) (k : Key) (v : Row) (r : Rec) (rs : List Rec) → Says kind k v rs → Says kind k v (r ∷ rs)
says_more kind k v r rs h = record { says = h.says; among = inr h.among; key = h.key; row = h.row }

module _ (rules : Rules) (p : Plan) (l : ℕ) (plain : is_windowed (kind_at p l) ≡ false) where
  abbrev kind : Kind
  kind = kind_at p l

  -- each record is a key's value, which is read again
  abbrev Fit : Item → Type 0
  Fit x = FitsLog rules p (Changelog l) x.message

  windowed_not : {A : Type 0} → is_windowed kind ≡ true → A
  windowed_not w = absurd (true≢false (sym w ∙ plain))

  row_again : (w : Stored) → FitsStored kind w → row_by kind (Some (stored_bytes w)) ≡ Some (shown w)
  row_again w h = ap (option_map shown) (stored_again kind w h)

  had_says : (k : Key) (v : Row) (xs : List Item) → AllOf Fit xs → In v (rows_had k xs) → Says kind k v (map rec_of xs)
  had_says k v [] h i = absurd i
  had_says k v (x ∷ xs) h i = by (λ j. says_more kind k v (rec_of x) (map rec_of xs) (had_says k v xs h.1 j)) x.message refl h.0 i
    where
      one : (In v (rows_had k xs) → Says kind k v (map rec_of (x ∷ xs))) → (q : Key) (w : Stored) → x.message ≡ Kept q (Some w) → FitsStored kind w → (b : Bool) → same_bytes q k ≡ b → In v (cond b (shown w ∷ rows_had k xs) (rows_had k xs)) → Says kind k v (map rec_of (x ∷ xs))
      one more q w is f true e j = ⊎_elim
          (λ (same : v ≡ shown w). record {
            says = rec_of x;
            among = inl refl;
            key = ap key_bytes is ∙ ap (λ c. Some c) (bytes-is q k e);
            row = ap (λ m. row_by kind (value_bytes m)) is ∙ row_again w f ∙ ap (λ r. Some r) (sym same);
          })
          more j
      one more q w is f false e j = more j

      by : (In v (rows_had k xs) → Says kind k v (map rec_of (x ∷ xs))) → (m : Message) → x.message ≡ m → FitsLog rules p (Changelog l) m → In v (had_in k m (rows_had k xs)) → Says kind k v (map rec_of (x ∷ xs))
      by more (Kept q (Some w)) is f j = one more q w is f.1 (same_bytes q k) refl j
      by more (Kept q None) is f j = more j
      by more (Given c y) is f j = more j
      by more (Keyed c y) is f j = more j
      by more (Moved c y) is f j = more j
      by more (Asked c y s) is f j = more j
      by more (Answered c y) is f j = more j
      by more (KeptCount c y) is f j = more j
      by more (KeptTime u) is f j = more j
      by more (KeptHash b c y) is f j = more j

  -- and the other way
  says_had : (k : Key) (v : Row) (r : Rec) (xs : List Item) → AllOf Fit xs → In r (map rec_of xs) → r.key ≡ Some k → row_by kind r.value ≡ Some v → In v (rows_had k xs)
  says_had k v r [] h i key row = absurd i
  says_had k v r (x ∷ xs) h i key row = ⊎_elim
      (λ (is : r ≡ rec_of x). here x.message h.0 (ap (λ (y : Rec). y.key) (sym is) ∙ key) (ap (λ (y : Rec). row_by kind y.value) (sym is) ∙ row))
      (λ (j : In r (map rec_of xs)). later x.message (says_had k v r xs h.1 j key row)) i
    where
      later : (m : Message) → In v (rows_had k xs) → In v (had_in k m (rows_had k xs))
      later (Kept q (Some w)) j = by (same_bytes q k)
        where
          by : (b : Bool) → In v (cond b (shown w ∷ rows_had k xs) (rows_had k xs))
          by true = inr j
          by false = j
      later (Kept q None) j = j
      later (Given c y) j = j
      later (Keyed c y) j = j
      later (Moved c y) j = j
      later (Asked c y s) j = j
      later (Answered c y) j = j
      later (KeptCount c y) j = j
      later (KeptTime u) j = j
      later (KeptHash b c y) j = j

      here : (m : Message) → FitsLog rules p (Changelog l) m → key_bytes m ≡ Some k → row_by kind (value_bytes m) ≡ Some v → In v (had_in k m (rows_had k xs))
      here (Kept q (Some w)) f e g =
          let same : shown w ≡ v = same_some (sym (row_again w f.1) ∙ g) in
          subst (λ b. In v (cond b (shown w ∷ rows_had k xs) (rows_had k xs))) (sym (ap (λ c. same_bytes c k) (same_some e) ∙ bytes_itself k)) (inl (sym same))
      here (Kept q None) f e g = absurd (none_some g)
      here (Given c y) f e g = windowed_not f
      here (Keyed c y) f e g = windowed_not f
      here (Moved c y) f e g = windowed_not f
      here (Asked c y s) f e g = windowed_not f
      here (Answered c y) f e g = windowed_not f
      here (KeptCount c y) f e g = windowed_not f
      here (KeptTime u) f e g = windowed_not f
      here (KeptHash b c y) f e g = windowed_not f

-- ---- among decided records
abbrev recs_of : List (ℕ × Rec) → List Rec
recs_of xs = map (λ e. e.1) xs

same_recs : (xs : List Logged) → recs_of (with_offsets xs) ≡ recs xs
same_recs [] = refl
same_recs (x ∷ xs) = ap (λ l. x.rec ∷ l) (same_recs xs)

in_recs : (xs : List (ℕ × Rec)) (r : Rec) → In r (recs_of xs) → (x : ℕ × Rec) × (In x xs) × (x.1 ≡ r)
in_recs [] r i = absurd i
in_recs (x ∷ xs) r i = ⊎_elim
    (λ (is : r ≡ x.1). (x, inl refl, sym is))
    (λ (j : In r (recs_of xs)). let y = in_recs xs r j in (y.0, inr y.1, y.2)) i

recs_in : (xs : List (ℕ × Rec)) (x : ℕ × Rec) → In x xs → In x.1 (recs_of xs)
recs_in [] x i = absurd i
recs_in (y ∷ ys) x i = ⊎_elim (λ (is : x ≡ y). inl (ap (λ (z : ℕ × Rec). z.1) is)) (λ (j : In x ys). inr (recs_in ys x j)) i

none_with : (hash : Row → ℕ) (knd : Kind) (x : ℕ × Rec) (ys : List (ℕ × Rec)) → NoneWith hash knd x ys → (y : ℕ × Rec) → In y ys → collide hash knd x.1 y.1 ≡ false
none_with hash knd x [] h y i = absurd i
none_with hash knd x (z ∷ zs) h y i = ⊎_elim (λ (is : y ≡ z). ap (λ (w : ℕ × Rec). collide hash knd x.1 w.1) is ∙ h.0) (λ (j : In y zs). none_with hash knd x zs h.1 y j) i

-- of two of them: they are one, or neither order collides
one_order : (hash : Row → ℕ) (knd : Kind) (xs : List (ℕ × Rec)) → NonePaired hash knd xs → (x y : ℕ × Rec) → In x xs → In y xs → (x ≡ y) ⊎ ((collide hash knd x.1 y.1 ≡ false) ⊎ (collide hash knd y.1 x.1 ≡ false))
one_order hash knd [] h x y i j = absurd i
one_order hash knd (z ∷ zs) h x y i j = ⊎_elim
    (λ (a : x ≡ z). ⊎_elim
    (λ (b : y ≡ z). inl (a ∙ sym b))
    (λ (b : In y zs). inr (inl (ap (λ (w : ℕ × Rec). collide hash knd w.1 y.1) a ∙ none_with hash knd z zs h.0 y b))) j)
    (λ (a : In x zs). ⊎_elim
    (λ (b : y ≡ z). inr (inr (ap (λ (w : ℕ × Rec). collide hash knd w.1 x.1) b ∙ none_with hash knd z zs h.0 x a)))
    (λ (b : In y zs). one_order hash knd zs h.1 x y a b) j) i

-- rows that don't collide and have one hash are one
told_same : (hash : Row → ℕ) (knd : Kind) (a b : Rec) (k : Key) (v w : Row) → a.key ≡ Some k → b.key ≡ Some k → row_by knd a.value ≡ Some v → row_by knd b.value ≡ Some w → hash v ≡ hash w → collide hash knd a b ≡ false → v ≡ w
told_same hash knd a b k v w ka kb ra rb e c = by (same_row v w) refl
  where
    told : collide hash knd a b ≡ (same_bytes k k && (not (same_row v w) && nat_eq (hash v) (hash w)))
    told = ap₂ (λ x y. same_keys x y && rows_collide hash (row_by knd a.value) (row_by knd b.value)) ka kb ∙ ap₂ (λ x y. same_bytes k k && rows_collide hash x y) ra rb

    by : (s : Bool) → same_row v w ≡ s → v ≡ w
    by true f = row-is v w f
    by false f =
        let all : (same_bytes k k && (not (same_row v w) && nat_eq (hash v) (hash w))) ≡ true =
        and_from (same_bytes k k) _ (bytes_itself k) (and_from (not (same_row v w)) (nat_eq (hash v) (hash w)) (ap not f) ((Decides-eqb (hash v) (hash w)).1 e)) in
        absurd (true≢false (sym all ∙ sym told ∙ c))

-- ---- the search for the first pair
none_of : {A : Type 0} (x y : Option A) → option_or x y ≡ None → (x ≡ None) × (y ≡ None)
none_of None y e = (refl, e)
none_of (Some x) y e = cc

nothing_mapped : {A B : Type 0} (f : A → B) (o : Option A) → option_map f o ≡ None → o ≡ None
nothing_mapped f None e = refl
nothing_mapped f (Some x) e = cc

module _ (hash : Row → ℕ) (knd : Kind) where
  -- with each of these earlier ones
  abbrev NoneBefore : List (ℕ × Rec) → ℕ × Rec → Type 0
  NoneBefore xs y = AllOf (λ x. collide hash knd x.1 y.1 ≡ false) xs

  none_earlier : (y : ℕ × Rec) (xs : List (ℕ × Rec)) → pair_at y (earlier hash knd y.1 xs) ≡ None → NoneBefore xs y
  none_earlier y [] e = tt
  none_earlier y (x ∷ xs) e = by (collide hash knd x.1 y.1) refl e (λ f. none_earlier y xs f)
    where
      by : (b : Bool) → collide hash knd x.1 y.1 ≡ b → pair_at y (cond b (Some x.0) (earlier hash knd y.1 xs)) ≡ None → (pair_at y (earlier hash knd y.1 xs) ≡ None → NoneBefore xs y) → NoneBefore (x ∷ xs) y
      by true c f more = absurd cc
      by false c f more = (c, more f)

  with_all : (y : ℕ × Rec) (before zs : List (ℕ × Rec)) → AllOf (λ z. NoneBefore (before ++ y ∷ []) z) zs → AllOf (NoneBefore before) zs × NoneWith hash knd y zs
  with_all y before [] h = (tt, tt)
  with_all y before (z ∷ zs) h =
      let more = with_all y before zs h.1 in
      ((all_left (λ x. collide hash knd x.1 z.1 ≡ false) before (y ∷ []) h.0, more.0), ((all_right (λ x. collide hash knd x.1 z.1 ≡ false) before (y ∷ []) h.0).0, more.1))

  none_from : (before xs : List (ℕ × Rec)) → first_from hash knd before xs ≡ None → AllOf (NoneBefore before) xs × NonePaired hash knd xs
  none_from before [] e = (tt, tt)
  none_from before (y ∷ ys) e =
      let both = none_of (pair_at y (earlier hash knd y.1 before)) (first_from hash knd (before ++ y ∷ []) ys) e in
      let more = none_from (before ++ y ∷ []) ys both.1 in
      let apart = with_all y before ys more.0 in
      ((none_earlier y before both.0, apart.0), (apart.1, more.1))

  pub none_first : (xs : List (ℕ × Rec)) → first_in hash knd xs ≡ None → NonePaired hash knd xs
  none_first xs e = (none_from [] xs e).1

  -- what is found is a pair
  pub record IsFound (before xs : List (ℕ × Rec)) (pair : OffsetPair) : Type 0 where
    pub first : ℕ × Rec
    pub second : ℕ × Rec
    pub first_in : In first before ⊎ In first xs
    pub second_in : In second xs
    pub collides : collide hash knd first.1 second.1 ≡ true
    pub key : pair.key ≡ second.1.key
    pub first_at : pair.first ≡ first.0
    pub second_at : pair.second ≡ second.0

  earlier_is : (r : Rec) (xs : List (ℕ × Rec)) (n : ℕ) → earlier hash knd r xs ≡ Some n → (x : ℕ × Rec) × (In x xs) × (collide hash knd x.1 r ≡ true) × (x.0 ≡ n)
  earlier_is r [] n e = absurd (none_some e)
  earlier_is r (x ∷ xs) n e = by (collide hash knd x.1 r) refl e (λ f. earlier_is r xs n f)
    where
      by : (b : Bool) → collide hash knd x.1 r ≡ b → cond b (Some x.0) (earlier hash knd r xs) ≡ Some n → (earlier hash knd r xs ≡ Some n → (y : ℕ × Rec) × (In y xs) × (collide hash knd y.1 r ≡ true) × (y.0 ≡ n)) →
          (y : ℕ × Rec) × (In y (x ∷ xs)) × (collide hash knd y.1 r ≡ true) × (y.0 ≡ n)
      by true c f more = (x, inl refl, c, same_some f)
      by false c f more = let y = more f in (y.0, inr y.1, y.2, y.3)

  found_from : (before xs : List (ℕ × Rec)) (pair : OffsetPair) → first_from hash knd before xs ≡ Some pair → IsFound before xs pair
  found_from before [] pair e = absurd (none_some e)
  found_from before (y ∷ ys) pair e = by (earlier hash knd y.1 before) refl e (λ f. found_from (before ++ y ∷ []) ys pair f)
    where
      within : (before : List (ℕ × Rec)) (x : ℕ × Rec) → In x (before ++ y ∷ []) → In x before ⊎ (x ≡ y)
      within [] x i = ⊎_elim (λ (e : x ≡ y). inr e) (λ (j : In x []). absurd j) i
      within (z ∷ zs) x i = ⊎_elim (λ (e : x ≡ z). inl (inl e)) (λ (j : In x (zs ++ y ∷ [])). ⊎_elim (λ (k : In x zs). inl (inr k)) (λ (k : x ≡ y). inr k) (within zs x j)) i

      by : (o : Option ℕ) → earlier hash knd y.1 before ≡ o → option_or (pair_at y o) (first_from hash knd (before ++ y ∷ []) ys) ≡ Some pair → (first_from hash knd (before ++ y ∷ []) ys ≡ Some pair → IsFound (before ++ y ∷ []) ys pair) → IsFound before (y ∷ ys) pair
      by (Some n) f g more =
          let x = earlier_is y.1 before n f in
          let is : record { key = y.1.key; first = n; second = y.0 } ≡ pair = same_some g in
          record {
            first = x.0;
            second = y;
            first_in = inl x.1;
            second_in = inl refl;
            collides = x.2;
            key = ap (λ (q : OffsetPair). q.key) (sym is);
            first_at = ap (λ (q : OffsetPair). q.first) (sym is) ∙ sym x.3;
            second_at = ap (λ (q : OffsetPair). q.second) (sym is);
          }
      by None f g more =
          let h = more g in
          record {
            first = h.first;
            second = h.second;
            first_in = ⊎_elim
                (λ (i : In h.first (before ++ y ∷ [])). ⊎_elim (λ (j : In h.first before). inl j) (λ (e : h.first ≡ y). inr (inl e)) (within before h.first i))
                (λ (i : In h.first ys). inr (inr i)) h.first_in;
            second_in = inr h.second_in;
            collides = h.collides;
            key = h.key;
            first_at = h.first_at;
            second_at = h.second_at;
          }

  pub found_first : (xs : List (ℕ × Rec)) (pair : OffsetPair) → first_in hash knd xs ≡ Some pair → IsFound [] xs pair
  found_first xs pair e = found_from [] xs pair e

-- ---- tables on the left of joins
table_before : (xs ys : List Kind) (l : ℕ) → is_table_at xs l ≡ true → get_or (xs ++ ys) l no_kind ≡ get_or xs l no_kind
table_before [] ys l e = absurd (true≢false (sym e))
table_before (x ∷ xs) ys zero e = refl
table_before (x ∷ xs) ys (suc l) e = table_before xs ys l e

left_among : (before ks : List Kind) → EachInputs before ks → (n l r : ℕ) (fk : Fk) (kind : JoinKind) (set : Set) → slice_get ks n ≡ Some (ForeignKeyJoin l r fk kind set) → is_table_at (before ++ ks) l ≡ true
left_among before [] h n l r fk kind set e = absurd (none_some e)
left_among before (k ∷ ks) h zero l r fk kind set e =
    let is : k ≡ ForeignKeyJoin l r fk kind set = same_some e in
    let left : is_table_at before l ≡ true = (subst (TableInputs before) is h.0).0 in
    ap is_table (table_before before (k ∷ ks) l left) ∙ left
left_among before (k ∷ ks) h (suc n) l r fk kind set e = subst (λ xs. is_table_at xs l ≡ true) (append_assoc before (k ∷ []) ks) (left_among (before ++ k ∷ []) ks h.1 n l r fk kind set e)

-- ---- of a job's journal
module _ (rules : Rules) (d : DraftView) (records : List Input) (journal : List Entry) (ended : IsRunOf rules d records journal) where
  abbrev p : Plan
  p = plan_of d

  abbrev s : State
  s = at (setup_of rules p) journal

  abbrev run : RunOf
  run = answer.run rules d records journal ended

  whole : Whole p
  whole = answer.whole rules d records journal ended

  module _ (n l r : ℕ) (fk : Fk) (kind : JoinKind) (set : Set) (is : IsNode p n (ForeignKeyJoin l r fk kind set)) where
    pub left_is : is_table (kind_at p l) ≡ true
    left_is = left_among [] p.kinds (table_inputs d ended.job.well) n l r fk kind set is

    tables : (is_stream (kind_at p l) ≡ false) × (is_windowed (kind_at p l) ≡ false)
    tables = let both = and_parts (not (is_stream (kind_at p l))) (not (is_windowed (kind_at p l))) left_is in (of_not _ both.0, of_not _ both.1)
      where
        of_not : (b : Bool) → not b ≡ true → b ≡ false
        of_not false e = refl
        of_not true e = cc

    node : NodeIs p whole n (ForeignKeyJoin l r fk kind set)
    node = at_node (NodeIs p whole) p.kinds (nodes_are p whole) n (ForeignKeyJoin l r fk kind set) is

    within : l < length p.kinds
    within = let b = node.fits.0 in omega (arith, b.before, node.within)

    log : IsOwned p whole (Changelog l)
    log = table_owned rules p whole ended.job.parts ended.job.have ended.job.hashes l within tables.0

    module _ (part : ℕ) where
      abbrev task : TaskId
      task = record { sub = sub_of p l; part = part }

      abbrev place : Place
      place = record { topic = Changelog l; part = part }

      -- what is decided is what the run's task wrote, spelled
      decided_are : recs_of (decided_records s (log_part p l part)) ≡ map rec_of (past p run l part)
      decided_are =
          same_recs (decided s (log_part p l part))
          ∙ sym (tells_pasts (setup_of rules p) journal (works_are_networks rules p) ended.done.history task (number_of p (Changelog l)) log.own).0
          ∙ (answer.same_run rules d records journal ended).logged (Some task) place log.there refl

      past_fits : AllOf (λ x. FitsLog rules p (Changelog l) x.message) (past p run l part)
      past_fits = (answer.same_run rules d records journal ended).kept (Some task) place refl

      -- one of the rows that a key has had is told by a decided record
      told : (k : Key) (v : Row) → In v (rows_had k (past p run l part)) → (x : ℕ × Rec) × (In x (decided_records s (log_part p l part))) × (x.1.key ≡ Some k) × (row_by (kind_at p l) x.1.value ≡ Some v)
      told k v i =
          let h = had_says rules p l tables.1 k v (past p run l part) past_fits i in
          let x = in_recs (decided_records s (log_part p l part)) h.says (subst (In h.says) (sym decided_are) h.among) in
          (x.0, x.1, ap (λ (y : Rec). y.key) x.2 ∙ h.key, ap (λ (y : Rec). row_by (kind_at p l) y.value) x.2 ∙ h.row)

      none_collides : NonePaired rules.hash (kind_at p l) (decided_records s (log_part p l part)) → (k : Key) → NoneCollides rules.hash (rows_had k (past p run l part))
      none_collides none k v w i j e =
          let x = told k v i in
          let y = told k w j in
          ⊎_elim
          (λ (same : x.0 ≡ y.0). same_some (sym x.3 ∙ ap (λ (z : ℕ × Rec). row_by (kind_at p l) z.1.value) same ∙ y.3))
          (λ (either : (collide rules.hash (kind_at p l) x.0.1 y.0.1 ≡ false) ⊎ (collide rules.hash (kind_at p l) y.0.1 x.0.1 ≡ false)). ⊎_elim
          (λ (f : collide rules.hash (kind_at p l) x.0.1 y.0.1 ≡ false). told_same rules.hash (kind_at p l) x.0.1 y.0.1 k v w x.2 y.2 x.3 y.3 e f)
          (λ (f : collide rules.hash (kind_at p l) y.0.1 x.0.1 ≡ false). sym (told_same rules.hash (kind_at p l) y.0.1 x.0.1 k w v y.2 x.2 y.3 x.3 (sym e) f)) either)
          (one_order rules.hash (kind_at p l) (decided_records s (log_part p l part)) none x.0 y.0 x.1 y.1)

  -- without a collision in the journal there is none in the run
  pub none_in_run : NoneInJournal rules.hash p s → NoCollision rules p run
  none_in_run none n l r fk kind set is part k = none_collides n l r fk kind set is part (none n l r fk kind set is part) k

  -- ---- partitions that there aren't have no decided record
  input_at : (t : ℕ) → t < length p.counts → topic_at p t ≡ Some (InputTopic t)
  input_at t lt =
      let long : length (input_topics p) ≡ length p.counts = length-map (up_to (length p.counts)) InputTopic ∙ length_up_to (length p.counts) in
      get_first (input_topics p ++ by_node through_topics 0 p.kinds) (by_node changelogs_of 0 p.kinds) t (omega (arith, lt, long, length-append (input_topics p) (by_node through_topics 0 p.kinds)))
      ∙ get_first (input_topics p) (by_node through_topics 0 p.kinds) t (omega (arith, lt, long))
      ∙ get_map InputTopic (up_to (length p.counts)) t t (get_up_to (length p.counts) t lt)

  one_stands : (r : Input) → FitsInput p r → stands rules p (produced_part rules p r) (produced_rec r) ≡ true
  one_stands r h = ap (placed_by rules p (part_of_key rules p (InputTopic r.topic) r.key) (produced_rec r)) (input_at r.topic h.topic) ∙ by r.key
    where
      by : (o : Option Key) → is_placed rules p (InputTopic r.topic) (part_of_key rules p (InputTopic r.topic) o) o (produced_rec r).value ≡ true
      by None = refl
      by (Some k) = eq-eqb (rules.part k (spread_of_topic p (InputTopic r.topic))) (rules.part k (spread_of_topic p (InputTopic r.topic))) refl

  all_stand : (q : PartId) (rs : List Input) → FitInputs p rs → FitIn (stands rules p) q (records_at q (map (produced_of rules p) rs))
  all_stand q [] h = tt
  all_stand q (r ∷ rs) h = by (same_part q (produced_part rules p r)) refl (all_stand q rs h.1)
    where
      by : (b : Bool) → same_part q (produced_part rules p r) ≡ b → FitIn (stands rules p) q (records_at q (map (produced_of rules p) rs)) →
          FitIn (stands rules p) q (cond b (produced_rec r ∷ records_at q (map (produced_of rules p) rs)) (records_at q (map (produced_of rules p) rs)))
      by true e more = (subst (λ w. stands rules p w (produced_rec r) ≡ true) (sym (same_part-is q (produced_part rules p r) e)) (one_stands r h.0), more)
      by false e more = more

  decided_stands : (q : PartId) → FitIn (stands rules p) q (recs (decided s q))
  decided_stands = decided_stand rules d journal ended.job.well (record { keys = ended.job.parts; nodes = ended.job.have }) ended.done.history
      (λ q. subst (FitIn (stands rules p) q) (sym (produced_is journal q ∙ ap (records_at q) ended.done.produced)) (all_stand q records ended.job.inputs))

  none_beyond : (l : ℕ) → l < length p.kinds → is_stream (kind_at p l) ≡ false → is_windowed (kind_at p l) ≡ false → (part : ℕ) → parts_of p l ≤ part → decided_records s (log_part p l part) ≡ []
  none_beyond l within table plain part le = ap with_offsets (by (decided s (log_part p l part)) (decided_stands (log_part p l part)))
    where
      there : topic_at p (number_of p (Changelog l)) ≡ Some (Changelog l)
      there = (table_owned rules p whole ended.job.parts ended.job.have ended.job.hashes l within table).there

      at_key : (o value : Option (List ℕ)) → is_placed rules p (Changelog l) part o value ≡ true → ⊥
      at_key None value e = absurd (true≢false (sym e))
      at_key (Some k) value e =
          let is : part ≡ rules.part k (spread_of p l) = eqb-true part (rules.part k (spread_of p l)) (sym (ap (λ w. cond w (is_at_group rules p l part k (long_key_at k)) (part == rules.part k (spread_of p l))) plain) ∙ e) in
          let below : rules.part k (spread_of p l) < parts_of p l = ended.job.parts k (spread_of p l) (ended.job.have l within) in
          absurd (omega (arith, is, below, le))

      by : (xs : List Logged) → FitIn (stands rules p) (log_part p l part) (recs xs) → xs ≡ []
      by [] h = refl
      by (x ∷ xs) h = absurd (at_key x.rec.key x.rec.value (sym (ap (placed_by rules p part x.rec) there) ∙ h.0))

  -- ---- where the search finds nothing there is nothing
  none_in_parts : (l : ℕ) (parts : List ℕ) → in_parts rules.hash p s l parts ≡ None → AllOf (λ part. NonePaired rules.hash (kind_at p l) (decided_records s (log_part p l part))) parts
  none_in_parts l [] e = tt
  none_in_parts l (part ∷ parts) e =
      let both = none_of (first_in rules.hash (kind_at p l) (decided_records s (log_part p l part))) (in_parts rules.hash p s l parts) e in
      (none_first rules.hash (kind_at p l) (decided_records s (log_part p l part)) both.0, none_in_parts l parts both.1)

  none_of_nodes : (m : ℕ) (ks : List Kind) → of_nodes rules.hash p s m ks ≡ None → (i l r : ℕ) (fk : Fk) (kind : JoinKind) (set : Set) → slice_get ks i ≡ Some (ForeignKeyJoin l r fk kind set) → in_parts rules.hash p s l (up_to (parts_of p l)) ≡ None
  none_of_nodes m [] e i l r fk kind set is = absurd (none_some is)
  none_of_nodes m (k ∷ ks) e zero l r fk kind set is =
      let both = none_of (of_node rules.hash p s m k) (of_nodes rules.hash p s (suc m) ks) e in
      nothing_mapped (λ pair. record { node = m; pair = pair }) (in_parts rules.hash p s l (up_to (parts_of p l))) (ap (of_node rules.hash p s m) (sym (same_some is)) ∙ both.0)
  none_of_nodes m (k ∷ ks) e (suc i) l r fk kind set is =
      let both = none_of (of_node rules.hash p s m k) (of_nodes rules.hash p s (suc m) ks) e in
      none_of_nodes (suc m) ks both.1 i l r fk kind set is

  pub none_found : first_pair rules.hash p s ≡ None → NoneInJournal rules.hash p s
  none_found e n l r fk kind set is part = ⊎_elim
      (λ (lt : part < parts_of p l). all_up_to (λ part. NonePaired rules.hash (kind_at p l) (decided_records s (log_part p l part))) (parts_of p l) (none_in_parts l (up_to (parts_of p l)) (none_of_nodes 0 p.kinds e n l r fk kind set is)) part lt)
      (λ (le : parts_of p l ≤ part). subst (NonePaired rules.hash (kind_at p l)) (sym (none_beyond l (within n l r fk kind set is) (tables n l r fk kind set is).0 (tables n l r fk kind set is).1 part le)) tt)
      (cases_lt part (parts_of p l))

  -- ---- what the search finds is a collision, of the journal and of the run
  part_found : (l : ℕ) (parts : List ℕ) (pair : OffsetPair) → in_parts rules.hash p s l parts ≡ Some pair → (part : ℕ) × (first_in rules.hash (kind_at p l) (decided_records s (log_part p l part)) ≡ Some pair)
  part_found l [] pair e = absurd (none_some e)
  part_found l (part ∷ parts) pair e = by (first_in rules.hash (kind_at p l) (decided_records s (log_part p l part))) refl e (λ f. part_found l parts pair f)
    where
      by : (o : Option OffsetPair) → first_in rules.hash (kind_at p l) (decided_records s (log_part p l part)) ≡ o → option_or o (in_parts rules.hash p s l parts) ≡ Some pair →
          (in_parts rules.hash p s l parts ≡ Some pair → (part : ℕ) × (first_in rules.hash (kind_at p l) (decided_records s (log_part p l part)) ≡ Some pair)) → (part : ℕ) × (first_in rules.hash (kind_at p l) (decided_records s (log_part p l part)) ≡ Some pair)
      by (Some x) f g more = (part, f ∙ g)
      by None f g more = more g

  pub record NodeFound (m : ℕ) (ks : List Kind) (c : NodePair) : Type 0 where
    pub i : ℕ
    pub l : ℕ
    pub r : ℕ
    pub fk : Fk
    pub kind : JoinKind
    pub set : Set
    pub is : slice_get ks i ≡ Some (ForeignKeyJoin l r fk kind set)
    pub number : c.node ≡ m + i
    pub found : in_parts rules.hash p s l (up_to (parts_of p l)) ≡ Some c.pair

  node_found : (m : ℕ) (ks : List Kind) (c : NodePair) → of_nodes rules.hash p s m ks ≡ Some c → NodeFound m ks c
  node_found m [] c e = absurd (none_some e)
  node_found m (k ∷ ks) c e = by (of_node rules.hash p s m k) refl e (λ f. node_found (suc m) ks c f)
    where
      of_join : (k : Kind) (pair : NodePair) → of_node rules.hash p s m k ≡ Some pair → NodeFound m (k ∷ ks) pair
      of_join (ForeignKeyJoin l r fk kind set) pair f = inner (in_parts rules.hash p s l (up_to (parts_of p l))) refl f
        where
          inner : (o : Option OffsetPair) → in_parts rules.hash p s l (up_to (parts_of p l)) ≡ o → option_map (λ pair. record { node = m; pair = pair }) o ≡ Some pair → NodeFound m (ForeignKeyJoin l r fk kind set ∷ ks) pair
          inner None g h = absurd (none_some h)
          inner (Some x) g h =
              let same : record { node = m; pair = x } ≡ pair = same_some h in
              record { i = 0; l = l; r = r; fk = fk; kind = kind; set = set; is = refl; number = ap (λ (c : NodePair). c.node) (sym same) ∙ omega arith; found = g ∙ ap (λ (c : NodePair). Some c.pair) same }
      of_join _ pair f = absurd cc

      by : (o : Option NodePair) → of_node rules.hash p s m k ≡ o → option_or o (of_nodes rules.hash p s (suc m) ks) ≡ Some c → (of_nodes rules.hash p s (suc m) ks ≡ Some c → NodeFound (suc m) ks c) → NodeFound m (k ∷ ks) c
      by (Some x) f g more = subst (NodeFound m (k ∷ ks)) (same_some g) (of_join k x f)
      by None f g more =
          let h = more g in
          record { i = suc h.i; l = h.l; r = h.r; fk = h.fk; kind = h.kind; set = h.set; is = h.is; number = h.number ∙ omega arith; found = h.found }

  -- keys and rows of two records that collide
  pub record Rows (knd : Kind) (a b : Rec) : Type 0 where
    pub k : Key
    pub v : Row
    pub w : Row
    pub key_a : a.key ≡ Some k
    pub key_b : b.key ≡ Some k
    pub row_a : row_by knd a.value ≡ Some v
    pub row_b : row_by knd b.value ≡ Some w
    pub differ : v ≡ w → ⊥
    pub same : rules.hash v ≡ rules.hash w

  rows_of : (knd : Kind) (a b : Rec) → collide rules.hash knd a b ≡ true → Rows knd a b
  rows_of knd a b e =
      let both = and_parts (same_keys a.key b.key) (rows_collide rules.hash (row_by knd a.value) (row_by knd b.value)) e in
      of_rows (row_by knd a.value) (row_by knd b.value) refl refl both.1 (of_keys a.key b.key both.0)
    where
      of_keys : (x y : Option (List ℕ)) → same_keys x y ≡ true → (k : Key) × (x ≡ Some k) × (y ≡ Some k)
      of_keys (Some x) (Some y) f = (x, refl, ap (λ k. Some k) (sym (bytes-is x y f)))
      of_keys (Some x) None f = absurd (true≢false (sym f))
      of_keys None y f = absurd (true≢false (sym f))

      of_rows : (x y : Option Row) → row_by knd a.value ≡ x → row_by knd b.value ≡ y → rows_collide rules.hash x y ≡ true → (k : Key) × (a.key ≡ Some k) × (b.key ≡ Some k) → Rows knd a b
      of_rows (Some v) (Some w) f g c k =
          let both = and_parts (not (same_row v w)) (nat_eq (rules.hash v) (rules.hash w)) c in
          record {
            k = k.0;
            v = v;
            w = w;
            key_a = k.1;
            key_b = k.2;
            row_a = f;
            row_b = g;
            differ = λ is. absurd (true≢false (sym both.0 ∙ ap not (subst (λ z. same_row v z ≡ true) is (row_itself v))));
            same = (Decides-eqb (rules.hash v) (rules.hash w)).0 both.1;
          }
      of_rows (Some v) None f g c k = absurd (true≢false (sym c))
      of_rows None y f g c k = absurd (true≢false (sym c))

  pub found_collides : (c : NodePair) → first_pair rules.hash p s ≡ Some c → Collides rules p run
  found_collides c e =
      let h = node_found 0 p.kinds c e in
      let at = part_found h.l (up_to (parts_of p h.l)) c.pair h.found in
      let f = found_first rules.hash (kind_at p h.l) (decided_records s (log_part p h.l at.0)) c.pair at.1 in
      let first : In f.first (decided_records s (log_part p h.l at.0)) = ⊎_elim (λ (i : In f.first []). absurd i) (λ (i : In f.first (decided_records s (log_part p h.l at.0))). i) f.first_in in
      let rows = rows_of (kind_at p h.l) f.first.1 f.second.1 f.collides in
      let plain = (tables h.i h.l h.r h.fk h.kind h.set h.is).1 in
      let in_past : (x : ℕ × Rec) → In x (decided_records s (log_part p h.l at.0)) → In x.1 (map rec_of (past p run h.l at.0)) = λ x i. subst (In x.1) (decided_are h.i h.l h.r h.fk h.kind h.set h.is at.0) (recs_in (decided_records s (log_part p h.l at.0)) x i) in
      let fits = past_fits h.i h.l h.r h.fk h.kind h.set h.is at.0 in
      record {
        node = h.i;
        left = h.l;
        right = h.r;
        fk = h.fk;
        kind = h.kind;
        set = h.set;
        is_join = h.is;
        part = at.0;
        key = rows.k;
        one = rows.v;
        other = rows.w;
        pair = record {
          first = says_had rules p h.l plain rows.k rows.v f.first.1 (past p run h.l at.0) fits (in_past f.first first) rows.key_a rows.row_a;
          second = says_had rules p h.l plain rows.k rows.w f.second.1 (past p run h.l at.0) fits (in_past f.second f.second_in) rows.key_b rows.row_b;
          differ = rows.differ;
          same_hash = rows.same;
        };
      }
