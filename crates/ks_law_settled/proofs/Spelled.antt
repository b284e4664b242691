-- Messages and stored values of all kinds have spellings, and are read again from them.
use Rattle.std.proofs.Common.{◌≡◌, ℕ, zero, suc, ◌≤◌, ◌<◌, Bool, true, false, cond, List, Option, Some, None, refl, sym, ap, ◌∙◌, arith, slice_index}
use Rattle.std.specs.Str.{IsUtf8}
use Rattle.std.proofs.lemmas.Str.{IsUtf8-from_ascii}
use Rattle.std.specs.Prelude.{option_map, is_none}
use Rattle.std.proofs.lemmas.Bool.{and_from}
use Rattle.ks_record.specs.Texts.{IsKey, key_from}
use Rattle.ks_row.specs.Reading.{row_from}
use Rattle.ks_row.specs.Spelling.{FitsRow, spelling}
use Rattle.ks_row.proofs.Spelled.{key_again, row_again}
use Rattle.ks_wire.specs.Spelling.{FitsAgg, FitsDelta, FitsHash, FitsResponse, agg_bytes, delta_bytes, subscription_bytes, response_bytes}
use Rattle.ks_wire.specs.Reading.{agg_from, subscription_from, response_from}
use Rattle.ks_wire.specs.declared.values.Agg.{Agg}
use Rattle.ks_wire.specs.declared.values.Delta.{Delta}
use Rattle.ks_wire.specs.declared.values.Response.{Response}
use Rattle.ks_wire.proofs.Wired.{delta_codec, agg_codec, subscription_codec, response_codec}
use Rattle.ks_expr.specs.declared.terms.JoinKind.{JoinKind}
use Rattle.ks_expr.specs.Terms.{Set}
use Rattle.ks_expr.specs.Eval.{Row, joined}
use Rattle.ks_expr.specs.declared.terms.Fk.{Fk}
use Rattle.ks_plan.specs.declared.node.Topic.{Topic}
use Rattle.ks_plan.specs.declared.node.Topic.TheVariants.{Input, Repartition, Subscriptions, Responses}
use Rattle.ks_plan.specs.Plan.{Plan, Kind}
use Rattle.ks_plan.specs.Plan.Kind.{TableSource, TableFilter, TableMap, StreamAggregate, TableAggregate, Windowed, KeyJoin, ForeignKeyJoin}
use Rattle.ks_plan.specs.Layout.{kind_at}
use Rattle.ks_query.specs.Streams.{Key, StreamItem}
use Rattle.ks_query.specs.Aggregates.{table_apply, agg_row, count_name, sum_name}
use Rattle.ks_def_tasks.specs.Messages.{Stored, shown, agg_of, Instruction, Subscription, Message, value_of, subscription_of, number_of, instruction_of}
use Rattle.ks_def_tasks.specs.Messages.Instruction.{Delete, DeleteAndAnswer, Answer, AnswerIfThere}
use Rattle.ks_def_tasks.specs.Messages.Stored.{OfRow, OfAgg}
use Rattle.ks_def_tasks.specs.Messages.Message.{Given, Keyed, Moved, Asked, Answered}
use Rattle.ks_def_tasks.specs.Bytes.{rec_of, if_there, regrouped_in, message_in, stored_from, stored_bytes, key_bytes, value_bytes, of_both}
use Rattle.ks_def_tasks.specs.Foreign.{is_direct, direct_row, is_present}
use Rattle.ks_def_tasks.specs.Step.{of_row, kept_row, taken_row, added, applied, direct, set_result, responded}
use Rattle.ks_law_topology.specs.Spelled.{IfThere, FitsSet}
use Rattle.ks_law_topology.proofs.Rows.{apply_fits, stream_fits, joined_fits}
use Rattle.ks_law_kinds.specs.OfKind.{spells, may_have, is_regrouped, is_of_topic}
use Rattle.ks_law_kinds.proofs.Spells.{spells_key, spells_row, spells_subscription, spells_response, spells_delta}
use Rattle.ks_law_kinds.proofs.Arriving.{MessageFits}
use Rattle.ks_law_kinds.proofs.Values.{if_some}
use Rattle.ks_wire.specs.Values.{IsPart}
use Rattle.ks_law_topology.specs.Work.{IsOfJoin}

-- ---- what a message of a topic is
abbrev pub TakesDeltas : Kind → Type 0
TakesDeltas (TableAggregate f by field) = Unit {0}
TakesDeltas _ = ⊥

abbrev pub TakesRows : Kind → Type 0
TakesRows (StreamAggregate f by field through) = Unit {0}
TakesRows (Windowed f by w through) = Unit {0}
TakesRows _ = ⊥

abbrev pub Joins : Kind → Type 0
Joins (ForeignKeyJoin l r fk kind s) = Unit {0}
Joins _ = ⊥

abbrev pub FitsMessage : Plan → Topic → Message → Type 0
FitsMessage p (Input t) (Given k v) = IfThere IsKey k × IfThere FitsRow v
FitsMessage p (Repartition n) (Moved g d) = TakesDeltas (kind_at p n) × IsKey g × FitsDelta d
FitsMessage p (Repartition n) (Keyed g row) = TakesRows (kind_at p n) × IsKey g × FitsRow row
FitsMessage p (Subscriptions n) (Asked b k s) = Joins (kind_at p n) × IsKey b × IsKey k × FitsHash s.hash × IsPart s.part × IsOfJoin p n s.part
FitsMessage p (Responses n) (Answered k r) = IsKey k × FitsResponse r
FitsMessage p t m = ⊥

-- ---- it is read again
key_there : (k : Option Key) → IfThere IsKey k → if_there key_from k ≡ Some k
key_there None h = refl
key_there (Some k) h = ap (option_map (λ (x : Key). Some x)) (key_again k h)

row_there : (v : Option Row) → IfThere FitsRow v → if_there row_from (option_map spelling v) ≡ Some v
row_there None h = refl
row_there (Some v) h = ap (option_map (λ (x : Row). Some x)) (row_again v h)

moved_again : (k : Kind) → TakesDeltas k → (g : Key) (d : Delta) (time : ℕ) → IsKey g → FitsDelta d → regrouped_in k (rec_of (record { message = Moved g d; time = time })) ≡ Some (Moved g d)
moved_again (TableAggregate f by field) a g d time key fits = rw (key_again g key, delta_codec.again d fits) refl
moved_again _ a g d time key fits = absurd a

keyed_again : (k : Kind) → TakesRows k → (g : Key) (row : Row) (time : ℕ) → IsKey g → FitsRow row → regrouped_in k (rec_of (record { message = Keyed g row; time = time })) ≡ Some (Keyed g row)
keyed_again (StreamAggregate f by field through) a g row time key fits = rw (key_again g key, row_again row fits) refl
keyed_again (Windowed f by w through) a g row time key fits = rw (key_again g key, row_again row fits) refl
keyed_again _ a g row time key fits = absurd a

few : (i : Instruction) → number_of i ≤ 3
few Delete = omega arith
few DeleteAndAnswer = omega arith
few Answer = omega arith
few AnswerIfThere = omega arith

instruction_again : (i : Instruction) → instruction_of (number_of i) ≡ i
instruction_again Delete = refl
instruction_again DeleteAndAnswer = refl
instruction_again Answer = refl
instruction_again AnswerIfThere = refl

subscription_again : (k : Key) (s : Subscription) → subscription_of (value_of k s) ≡ s
subscription_again k s = λ i. record { hash = s.hash; instruction = instruction_again s.instruction i; part = s.part }

asked_again : (b k : Key) (s : Subscription) (time : ℕ) → IsKey b → IsKey k → FitsHash s.hash → IsPart s.part →
    of_both key_from subscription_from (λ b v. Asked b v.left (subscription_of v)) (rec_of (record { message = Asked b k s; time = time })) ≡ Some (Asked b k s)
asked_again b k s time is left hash part =
    let read : subscription_from (subscription_bytes (value_of k s)) ≡ Some (value_of k s) = subscription_codec.again (value_of k s) (record { hash = hash; instruction = few s.instruction; left = left; part = part }) in
    rw (key_again b is, read) (ap (λ (x : Subscription). Some (Asked b k x)) (subscription_again k s))

answered_again : (k : Key) (r : Response) (time : ℕ) → IsKey k → FitsResponse r → of_both key_from response_from Answered (rec_of (record { message = Answered k r; time = time })) ≡ Some (Answered k r)
answered_again k r time is fits = rw (key_again k is, response_codec.again r fits) refl

pub message_again : (p : Plan) (t : Topic) (m : Message) (time : ℕ) → FitsMessage p t m → message_in p t (rec_of (record { message = m; time = time })) ≡ Some m
message_again p (Input t) (Given k v) time h = rw (key_there k h.0, row_there v h.1) refl
message_again p (Repartition n) (Moved g d) time h = moved_again (kind_at p n) h.0 g d time h.1 h.2
message_again p (Repartition n) (Keyed g row) time h = keyed_again (kind_at p n) h.0 g row time h.1 h.2
message_again p (Subscriptions n) (Asked b k s) time h = asked_again b k s time h.1 h.2 h.3 h.4
message_again p (Responses n) (Answered k r) time h = answered_again k r time h.0 h.1
message_again p _ _ time h = absurd h

-- ---- and is of its topic's kind
key_of_kind : (k : Option Key) → IfThere IsKey k → may_have (spells key_from) k ≡ true
key_of_kind None h = refl
key_of_kind (Some k) h = spells_key k h

row_of_kind : (v : Option Row) → IfThere FitsRow v → may_have (spells row_from) (option_map spelling v) ≡ true
row_of_kind None h = refl
row_of_kind (Some v) h = spells_row v h

delta_of_kind : (k : Kind) → TakesDeltas k → (d : Delta) → FitsDelta d → is_regrouped k (delta_bytes d) ≡ true
delta_of_kind (TableAggregate f by field) a d h = spells_delta d h
delta_of_kind _ a d h = absurd a

keyed_of_kind : (k : Kind) → TakesRows k → (row : Row) → FitsRow row → is_regrouped k (spelling row) ≡ true
keyed_of_kind (StreamAggregate f by field through) a row h = spells_row row h
keyed_of_kind (Windowed f by w through) a row h = spells_row row h
keyed_of_kind _ a row h = absurd a

pub of_kind : (p : Plan) (t : Topic) (m : Message) → FitsMessage p t m → is_of_topic p t (key_bytes m) (value_bytes m) ≡ true
of_kind p (Input t) (Given k v) h = and_from (may_have (spells key_from) k) (may_have (spells row_from) (option_map spelling v)) (key_of_kind k h.0) (row_of_kind v h.1)
of_kind p (Repartition n) (Moved g d) h = and_from (spells key_from g) (is_regrouped (kind_at p n) (delta_bytes d)) (spells_key g h.1) (delta_of_kind (kind_at p n) h.0 d h.2)
of_kind p (Repartition n) (Keyed g row) h = and_from (spells key_from g) (is_regrouped (kind_at p n) (spelling row)) (spells_key g h.1) (keyed_of_kind (kind_at p n) h.0 row h.2)
of_kind p (Subscriptions n) (Asked b k s) h = and_from (spells key_from b) (spells subscription_from (subscription_bytes (value_of k s))) (spells_key b h.1)
    (spells_subscription (value_of k s) (record { hash = h.3; instruction = few s.instruction; left = h.2; part = h.4 }))
of_kind p (Responses n) (Answered k r) h = and_from (spells key_from k) (spells response_from (response_bytes r)) (spells_key k h.0) (spells_response r h.1)
of_kind p _ _ h = absurd h

-- its parts have spellings
pub parts_fit : (p : Plan) (t : Topic) (m : Message) → FitsMessage p t m → MessageFits m
parts_fit p (Input t) (Given k v) h = h
parts_fit p (Repartition n) (Moved g d) h = h.1
parts_fit p (Repartition n) (Keyed g row) h = (h.1, h.2)
parts_fit p (Subscriptions n) (Asked b k s) h = (h.1, h.2, h.3, h.4)
parts_fit p (Responses n) (Answered k r) h = h
parts_fit p _ _ h = absurd h

-- ---- what a node stores
abbrev pub FitsStored : Kind → Stored → Type 0
FitsStored (TableSource t) (OfRow row) = FitsRow row
FitsStored (TableFilter f x) (OfRow row) = FitsRow row
FitsStored (TableMap f s) (OfRow row) = FitsRow row
FitsStored (KeyJoin l r kind s) (OfRow row) = FitsRow row
FitsStored (ForeignKeyJoin l r fk kind s) (OfRow row) = FitsRow row
FitsStored (StreamAggregate f by field through) (OfAgg c a) = (c ≡ is_none field) × FitsAgg a
FitsStored (TableAggregate f by field) (OfAgg c a) = (c ≡ is_none field) × FitsAgg a
FitsStored k x = ⊥

agg_again : (field : Option (List ℕ)) (c : Bool) (a : Agg) → c ≡ is_none field → FitsAgg a → option_map (OfAgg (is_none field)) (agg_from (agg_bytes a)) ≡ Some (OfAgg c a)
agg_again field c a e h = ap (option_map (OfAgg (is_none field))) (agg_codec.again a h) ∙ ap (λ b. Some (OfAgg b a)) (sym e)

pub stored_again : (k : Kind) (x : Stored) → FitsStored k x → stored_from k (stored_bytes x) ≡ Some x
stored_again (TableSource t) (OfRow row) h = ap (option_map OfRow) (row_again row h)
stored_again (TableFilter f x) (OfRow row) h = ap (option_map OfRow) (row_again row h)
stored_again (TableMap f s) (OfRow row) h = ap (option_map OfRow) (row_again row h)
stored_again (KeyJoin l r kind s) (OfRow row) h = ap (option_map OfRow) (row_again row h)
stored_again (ForeignKeyJoin l r fk kind s) (OfRow row) h = ap (option_map OfRow) (row_again row h)
stored_again (StreamAggregate f by field through) (OfAgg c a) h = agg_again field c a h.0 h.1
stored_again (TableAggregate f by field) (OfAgg c a) h = agg_again field c a h.0 h.1
stored_again _ _ h = absurd h

count_utf8 : IsUtf8 count_name
count_utf8 = IsUtf8-from_ascii count_name ascii
  where
    ascii : (i : ℕ) → slice_index count_name i < 128
    ascii zero = omega arith
    ascii (suc zero) = omega arith
    ascii (suc (suc zero)) = omega arith
    ascii (suc (suc (suc zero))) = omega arith
    ascii (suc (suc (suc (suc zero)))) = omega arith
    ascii (suc (suc (suc (suc (suc i))))) = omega arith

sum_utf8 : IsUtf8 sum_name
sum_utf8 = IsUtf8-from_ascii sum_name ascii
  where
    ascii : (i : ℕ) → slice_index sum_name i < 128
    ascii zero = omega arith
    ascii (suc zero) = omega arith
    ascii (suc (suc zero)) = omega arith
    ascii (suc (suc (suc i))) = omega arith

pub agg_row_fits : (c : Bool) (a : Agg) → FitsAgg a → FitsRow (agg_row c a)
agg_row_fits true a h = record { row = refl; members = (record { name = record { some = omega arith; most = omega arith; utf8 = count_utf8 }; field = h.members }, tt) }
agg_row_fits false a h = record { row = refl; members = (record { name = record { some = omega arith; most = omega arith; utf8 = sum_utf8 }; field = h.total }, tt) }

pub shown_fits : (k : Kind) (x : Stored) → FitsStored k x → FitsRow (shown x)
shown_fits (TableSource t) (OfRow row) h = h
shown_fits (TableFilter f x) (OfRow row) h = h
shown_fits (TableMap f s) (OfRow row) h = h
shown_fits (KeyJoin l r kind s) (OfRow row) h = h
shown_fits (ForeignKeyJoin l r fk kind s) (OfRow row) h = h
shown_fits (StreamAggregate f by field through) (OfAgg c a) h = agg_row_fits c a h.1
shown_fits (TableAggregate f by field) (OfAgg c a) h = agg_row_fits c a h.1
shown_fits _ _ h = absurd h

-- ---- what records make of what is stored
pub taken_fits : (t : ℕ) (p : Plan) (old : Option Stored) (m : Option Message) → IfThere (FitsStored (TableSource t)) old → IfThere (FitsMessage p (Input t)) m → IfThere (FitsStored (TableSource t)) (taken_row old m)
taken_fits t p old None h f = h
taken_fits t p old (Some (Given k None)) h f = tt
taken_fits t p old (Some (Given k (Some v))) h f = f.1
taken_fits t p old (Some _) h f = absurd f

agg_fits : (field : Option (List ℕ)) (P : Stored → Type 0) → ((a : Agg) → FitsAgg a → P (OfAgg (is_none field) a)) → (o : Option Agg) → IfThere FitsAgg o → IfThere P (option_map (OfAgg (is_none field)) o)
agg_fits field P f None e = tt
agg_fits field P f (Some a) e = f a e

pub applied_fits : (n f : ℕ) (by : List ℕ) (field : Option (List ℕ)) (p : Plan) (old : Option Stored) (m : Option Message) → IfThere (FitsStored (TableAggregate f by field)) old →
    IfThere (FitsMessage p (Repartition n)) m → IfThere (FitsStored (TableAggregate f by field)) (applied field old m)
applied_fits n f by field p old None h g = h
applied_fits n f by field p old (Some (Moved k d)) h g = agg_fits field (FitsStored (TableAggregate f by field)) (λ a e. (refl, e)) (table_apply (agg_of old) d) (apply_fits (agg_of old) d)
applied_fits n f by field p old (Some (Keyed k row)) h g = h
applied_fits n f by field p old (Some _) h g = absurd g

pub added_fits : (f : ℕ) (by field : Option (List ℕ)) (through : Bool) (old : Option Stored) (x : Option StreamItem) → IfThere (FitsStored (StreamAggregate f by field through)) old →
    IfThere (FitsStored (StreamAggregate f by field through)) (added field old x)
added_fits f by field through old None h = h
added_fits f by field through old (Some x) h = (refl, stream_fits field (agg_of old) x.row)

pub rows_fit : (P : Stored → Type 0) → ((row : Row) → FitsRow row → P (OfRow row)) → (o : Option Row) → IfThere FitsRow o → IfThere P (of_row o)
rows_fit P f None h = tt
rows_fit P f (Some row) h = f row h

pub kept_fits : (P : Stored → Type 0) → ((row : Row) → FitsRow row → P (OfRow row)) → (make : Row → Option Row) → ((row : Row) → FitsRow row → IfThere FitsRow (make row)) → (o : Option Row) → IfThere FitsRow o → IfThere P (kept_row make o)
kept_fits P f make h None g = tt
kept_fits P f make h (Some row) g = rows_fit P f (make row) (h row g)

pub test_fits : (b : Bool) (row : Row) → FitsRow row → IfThere FitsRow (cond b (Some row) None)
test_fits true row h = h
test_fits false row h = tt

-- of a join on a foreign key
module _ (l r : ℕ) (fk : Fk) (kind : JoinKind) (set : Set) (fits : FitsSet set) where
  abbrev this : Kind
  this = ForeignKeyJoin l r fk kind set

  either : (b : Bool) (x y : Option Stored) → IfThere (FitsStored this) x → IfThere (FitsStored this) y → IfThere (FitsStored this) (cond b x y)
  either true x y f g = f
  either false x y f g = g

  of_direct : (new : Option Row) → IfThere FitsRow new → IfThere FitsRow (direct_row kind set new)
  of_direct None h = tt
  of_direct (Some v) h = joined_fits kind set (Some v) None fits h tt

  pub direct_fits : (key : Option Key) (old new : Option Row) (result : Option Stored) → IfThere FitsRow new → IfThere (FitsStored this) result → IfThere (FitsStored this) (direct fk key kind set old new result)
  direct_fits None old new result h g = g
  direct_fits (Some k) old new result h g = either (is_direct fk k old new) (of_row (direct_row kind set new)) result (rows_fit (FitsStored this) (λ row e. e) (direct_row kind set new) (of_direct new h)) g

  set_to : (b : Bool) (row : Option Row) (result : Option Stored) → IfThere FitsRow row → IfThere (FitsStored this) result → IfThere (FitsStored this) (set_result (cond b (Some row) None) result)
  set_to true row result h g = rows_fit (FitsStored this) (λ row e. e) row h
  set_to false row result h g = g

  pub responded_fits : (rules : _) (p : Plan) (n : ℕ) (left : Option Row) → IfThere FitsRow left → (m : Option Message) → IfThere (FitsMessage p (Responses n)) m → (result : Option Stored) →
      IfThere (FitsStored this) result → IfThere (FitsStored this) (responded rules kind set left m result)
  responded_fits rules p n left h None m result g = g
  responded_fits rules p n left h (Some (Answered q x)) m result g =
      set_to (is_present rules.hash left x) (joined kind set left x.right) result (joined_fits kind set left x.right fits h (if_some FitsRow x.right m.1.right)) g
  responded_fits rules p n left h (Some _) m result g = absurd m
