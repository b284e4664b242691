-- What a record spells that is of its topic's kind: a message whose parts have spellings.
use Rattle.std.proofs.Common.{◌≡◌, ℕ, true, false, List, Option, Some, None, refl, sym, ap, subst, ◌∙◌}
use Rattle.std.specs.Prelude.{is_some, option_map}
use Rattle.std.proofs.lemmas.Bool.{and_parts, true≢false}
use Rattle.ks_record.specs.Records.{Record as Rec}
use Rattle.ks_record.specs.Texts.{IsKey, key_from}
use Rattle.ks_row.specs.Spelling.{FitsRow}
use Rattle.ks_row.specs.Reading.{◌>>=◌, row_from}
use Rattle.ks_row.proofs.Fields.{bind_some, some_is}
use Rattle.ks_row.proofs.Spelled.{key_takes, row_codec}
use Rattle.ks_wire.specs.Values.{SubscriptionValue, IsPart}
use Rattle.ks_wire.specs.Spelling.{FitsHash, FitsResponse}
use Rattle.ks_wire.specs.Reading.{subscription_from, response_from, delta_from}
use Rattle.ks_wire.proofs.Wired.{subscription_codec, response_codec}
use Rattle.ks_expr.specs.Eval.{Row}
use Rattle.ks_plan.specs.Plan.{Plan, Kind}
use Rattle.ks_plan.specs.Plan.Kind.{StreamSource, TableSource, StreamFilter, TableFilter, StreamMap, TableMap, KeySelected, StreamAggregate, TableAggregate, Windowed, KeyJoin, ForeignKeyJoin}
use Rattle.ks_plan.specs.declared.node.Topic.{Topic}
use Rattle.ks_plan.specs.declared.node.Topic.TheVariants.{Input, Repartition, Subscriptions, Responses, Changelog, HashChangelog}
use Rattle.ks_plan.specs.Layout.{kind_at}
use Rattle.ks_query.specs.Streams.{Key}
use Rattle.ks_def_tasks.specs.Messages.{Message, subscription_of}
use Rattle.ks_def_tasks.specs.Messages.Message.{Given, Keyed, Moved, Asked, Answered}
use Rattle.ks_def_tasks.specs.Bytes.{if_there, of_both, given_in, regrouped_in, message_in}
use Rattle.ks_law_topology.specs.Spelled.{IfThere}
use Rattle.ks_law_kinds.specs.OfKind.{are_bytes, spells, has, may_have, is_regrouped, is_of_topic, KindsAreRead}
use Rattle.ks_law_kinds.proofs.Stores.{bytes_in, mapped}

abbrev pub MessageFits : Message → Type 0
MessageFits (Given k v) = IfThere IsKey k × IfThere FitsRow v
MessageFits (Keyed g row) = IsKey g × FitsRow row
MessageFits (Moved g d) = IsKey g
MessageFits (Asked b p s) = IsKey b × IsKey p × FitsHash s.hash × IsPart s.part
MessageFits (Answered p r) = IsKey p × FitsResponse r
MessageFits _ = Unit {0}

pub a_key : (bytes key : List ℕ) → key_from bytes ≡ Some key → IsKey key
a_key bytes key e = let t = key_takes bytes key e in subst IsKey t.0 t.1

-- ---- inputs
key_there : (o : Option (List ℕ)) (k : Option Key) → if_there key_from o ≡ Some k → IfThere IsKey k
key_there None k e = subst (IfThere IsKey) (some_is None k e) tt
key_there (Some b) k e =
    let x = mapped Some (key_from b) k e in
    subst (IfThere IsKey) x.2 (a_key b x.0 x.1)

row_there : (o : Option (List ℕ)) (v : Option Row) → may_have (spells row_from) o ≡ true → if_there row_from o ≡ Some v → IfThere FitsRow v
row_there None v h e = subst (IfThere FitsRow) (some_is None v e) tt
row_there (Some b) v h e =
    let x = mapped Some (row_from b) v e in
    subst (IfThere FitsRow) x.2 (row_codec.back b x.0 (bytes_in row_from b h) x.1).0

given_fits : (r : Rec) (m : Message) → may_have (spells row_from) r.value ≡ true → given_in r ≡ Some m → MessageFits m
given_fits r m h e =
    let a = bind_some (if_there key_from r.key) (λ key. if_there row_from r.value >>= λ value. Some (Given key value)) m e in
    let b = bind_some (if_there row_from r.value) (λ value. Some (Given a.0 value)) m a.2 in
    subst MessageFits (some_is (Given a.0 b.0) m b.2) (key_there r.key a.0 a.1, row_there r.value b.0 h b.1)

-- ---- of a key and a value
module _ {A B : Type 0} (key : List ℕ → Option A) (value : List ℕ → Option B) (make : A → B → Message) where
  record Both (r : Rec) (m : Message) : Type 0 where
    k : List ℕ
    v : List ℕ
    a : A
    b : B
    has_value : r.value ≡ Some v
    key_is : key k ≡ Some a
    value_is : value v ≡ Some b
    is : make a b ≡ m

  both_in : (r : Rec) (m : Message) → of_both key value make r ≡ Some m → Both r m
  both_in r m e =
      let x = bind_some r.key (λ k. r.value >>= λ v. key k >>= λ a. value v >>= λ b. Some (make a b)) m e in
      let y = bind_some r.value (λ v. key x.0 >>= λ a. value v >>= λ b. Some (make a b)) m x.2 in
      let z = bind_some (key x.0) (λ a. value y.0 >>= λ b. Some (make a b)) m y.2 in
      let w = bind_some (value y.0) (λ b. Some (make z.0 b)) m z.2 in
      record { k = x.0; v = y.0; a = z.0; b = w.0; has_value = y.1; key_is = z.1; value_is = w.1; is = some_is (make z.0 w.0) m w.2 }

value_spells : {B : Type 0} (read : List ℕ → Option B) (o : Option (List ℕ)) (v : List ℕ) → has (spells read) o ≡ true → o ≡ Some v → spells read v ≡ true
value_spells read o v h e = subst (λ x. has (spells read) x ≡ true) e h

keyed_fits : (r : Rec) (m : Message) → has (spells row_from) r.value ≡ true → of_both key_from row_from Keyed r ≡ Some m → MessageFits m
keyed_fits r m h e =
    let x = both_in key_from row_from Keyed r m e in
    subst MessageFits x.is (a_key x.k x.a x.key_is, (row_codec.back x.v x.b (bytes_in row_from x.v (value_spells row_from r.value x.v h x.has_value)) x.value_is).0)

moved_fits : (r : Rec) (m : Message) → of_both key_from delta_from Moved r ≡ Some m → MessageFits m
moved_fits r m e =
    let x = both_in key_from delta_from Moved r m e in
    subst MessageFits x.is (a_key x.k x.a x.key_is)

regrouped_fits : (k : Kind) (r : Rec) (m : Message) → has (is_regrouped k) r.value ≡ true → regrouped_in k r ≡ Some m → MessageFits m
regrouped_fits (StreamSource t) r m h e = absurd cc
regrouped_fits (TableSource t) r m h e = absurd cc
regrouped_fits (StreamFilter f x) r m h e = absurd cc
regrouped_fits (TableFilter f x) r m h e = absurd cc
regrouped_fits (StreamMap f s) r m h e = absurd cc
regrouped_fits (TableMap f s) r m h e = absurd cc
regrouped_fits (KeySelected f k) r m h e = absurd cc
regrouped_fits (StreamAggregate f by field through) r m h e = keyed_fits r m h e
regrouped_fits (TableAggregate f by field) r m h e = moved_fits r m e
regrouped_fits (Windowed f by w through) r m h e = keyed_fits r m h e
regrouped_fits (KeyJoin l x kind s) r m h e = absurd cc
regrouped_fits (ForeignKeyJoin l x fk kind s) r m h e = absurd cc

asked_fits : (r : Rec) (m : Message) → has (spells subscription_from) r.value ≡ true → of_both key_from subscription_from (λ b v. Asked b v.left (subscription_of v)) r ≡ Some m → MessageFits m
asked_fits r m h e =
    let x = both_in key_from subscription_from (λ (b : Key) (v : SubscriptionValue). Asked b v.left (subscription_of v)) r m e in
    let f = (subscription_codec.back x.v x.b (bytes_in subscription_from x.v (value_spells subscription_from r.value x.v h x.has_value)) x.value_is).0 in
    subst MessageFits x.is (a_key x.k x.a x.key_is, f.left, f.hash, f.part)

answered_fits : (r : Rec) (m : Message) → has (spells response_from) r.value ≡ true → of_both key_from response_from Answered r ≡ Some m → MessageFits m
answered_fits r m h e =
    let x = both_in key_from response_from Answered r m e in
    subst MessageFits x.is (a_key x.k x.a x.key_is, (response_codec.back x.v x.b (bytes_in response_from x.v (value_spells response_from r.value x.v h x.has_value)) x.value_is).0)

pub message_fits : (p : Plan) (topic : Topic) (r : Rec) (m : Message) → is_of_topic p topic r.key r.value ≡ true → message_in p topic r ≡ Some m → MessageFits m
message_fits p (Input t) r m h e = given_fits r m (and_parts (may_have (spells key_from) r.key) (may_have (spells row_from) r.value) h).1 e
message_fits p (Repartition n) r m h e = regrouped_fits (kind_at p n) r m (and_parts (has (spells key_from) r.key) (has (is_regrouped (kind_at p n)) r.value) h).1 e
message_fits p (Subscriptions n) r m h e = asked_fits r m (and_parts (has (spells key_from) r.key) (has (spells subscription_from) r.value) h).1 e
message_fits p (Responses n) r m h e = answered_fits r m (and_parts (has (spells key_from) r.key) (has (spells response_from) r.value) h).1 e
message_fits p (Changelog n) r m h e = absurd cc
message_fits p (HashChangelog n) r m h e = absurd cc

-- ---- and such a message is there
there : {A : Type 0} (read : List ℕ → Option A) (bytes : List ℕ) → spells read bytes ≡ true → (v : A) × (read bytes ≡ Some v)
there {A = A} read bytes h = by (read bytes) refl (and_parts (are_bytes bytes) (is_some (read bytes)) h).1
  where
    by : (o : Option A) → read bytes ≡ o → is_some o ≡ true → (v : A) × (read bytes ≡ Some v)
    by None e g = absurd (true≢false (sym g))
    by (Some v) e g = (v, e)

all_there : {A : Type 0} (read : List ℕ → Option A) (o : Option (List ℕ)) → may_have (spells read) o ≡ true → (v : Option A) × (if_there read o ≡ Some v)
all_there read None h = (None, refl)
all_there read (Some bytes) h = let x = there read bytes h in (Some x.0, ap (option_map Some) x.1)

given_read : (r : Rec) → may_have (spells key_from) r.key ≡ true → may_have (spells row_from) r.value ≡ true → is_some (given_in r) ≡ true
given_read r h g =
    let k = all_there key_from r.key h in
    let v = all_there row_from r.value g in
    ap (λ o. is_some (o >>= λ key. if_there row_from r.value >>= λ value. Some (Given key value))) k.1
    ∙ ap (λ o. is_some (o >>= λ value. Some (Given k.0 value))) v.1

module _ {A B : Type 0} (key : List ℕ → Option A) (value : List ℕ → Option B) (make : A → B → Message) where
  both_read : (k v : Option (List ℕ)) → has (spells key) k ≡ true → has (spells value) v ≡ true →
      is_some (k >>= λ k. v >>= λ v. key k >>= λ a. value v >>= λ b. Some (make a b)) ≡ true
  both_read None v h g = absurd (true≢false (sym h))
  both_read (Some k) None h g = absurd (true≢false (sym g))
  both_read (Some k) (Some v) h g =
      let x = there key k h in
      let y = there value v g in
      ap (λ o. is_some (o >>= λ a. value v >>= λ b. Some (make a b))) x.1 ∙ ap (λ o. is_some (o >>= λ b. Some (make x.0 b))) y.1

none_has : (o : Option (List ℕ)) → has (λ bytes. false) o ≡ true → false ≡ true
none_has None h = h
none_has (Some x) h = h

regrouped_read : (k : Kind) (r : Rec) → has (spells key_from) r.key ≡ true → has (is_regrouped k) r.value ≡ true → is_some (regrouped_in k r) ≡ true
regrouped_read (StreamSource t) r h g = none_has r.value g
regrouped_read (TableSource t) r h g = none_has r.value g
regrouped_read (StreamFilter f x) r h g = none_has r.value g
regrouped_read (TableFilter f x) r h g = none_has r.value g
regrouped_read (StreamMap f s) r h g = none_has r.value g
regrouped_read (TableMap f s) r h g = none_has r.value g
regrouped_read (KeySelected f k) r h g = none_has r.value g
regrouped_read (StreamAggregate f by field through) r h g = both_read key_from row_from Keyed r.key r.value h g
regrouped_read (TableAggregate f by field) r h g = both_read key_from delta_from Moved r.key r.value h g
regrouped_read (Windowed f by w through) r h g = both_read key_from row_from Keyed r.key r.value h g
regrouped_read (KeyJoin l x kind s) r h g = none_has r.value g
regrouped_read (ForeignKeyJoin l x fk kind s) r h g = none_has r.value g

pub kinds_are_read : KindsAreRead
kinds_are_read p (Input t) r free h = let a = and_parts (may_have (spells key_from) r.key) (may_have (spells row_from) r.value) h in given_read r a.0 a.1
kinds_are_read p (Repartition n) r free h = let a = and_parts (has (spells key_from) r.key) (has (is_regrouped (kind_at p n)) r.value) h in regrouped_read (kind_at p n) r a.0 a.1
kinds_are_read p (Subscriptions n) r free h =
    let a = and_parts (has (spells key_from) r.key) (has (spells subscription_from) r.value) h in
    both_read key_from subscription_from (λ (b : Key) (v : SubscriptionValue). Asked b v.left (subscription_of v)) r.key r.value a.0 a.1
kinds_are_read p (Responses n) r free h =
    let a = and_parts (has (spells key_from) r.key) (has (spells response_from) r.value) h in
    both_read key_from response_from Answered r.key r.value a.0 a.1
kinds_are_read p (Changelog n) r free h = absurd (true≢false free)
kinds_are_read p (HashChangelog n) r free h = absurd (true≢false free)
