-- A record of bytes that spells a message of its topic is of its topic's kind.
use Rattle.std.proofs.Common.{◌∙◌, false, sym, subst, ◌<◌, ◌≡◌, ℕ, suc, true, List, [], ◌∷◌, Option, Some, None, refl, ap, nat_lt}
use Rattle.std.specs.Prelude.{is_some}
use Rattle.std.proofs.lemmas.Bool.{and_from, lt-ltb}
use Rattle.ks_record.specs.Records.{Record as Rec}
use Rattle.ks_record.specs.Bytes.{IsBytes}
use Rattle.ks_record.specs.Texts.{key_from}
use Rattle.ks_row.specs.Reading.{◌>>=◌, row_from}
use Rattle.ks_row.proofs.Fields.{bind_some}
use Rattle.ks_wire.specs.Reading.{subscription_from, response_from, delta_from}
use Rattle.ks_wire.specs.Values.{SubscriptionValue}
use Rattle.ks_plan.specs.Plan.{Plan, Kind}
use Rattle.ks_plan.specs.Plan.Kind.{StreamSource, TableSource, StreamFilter, TableFilter, StreamMap, TableMap, KeySelected, StreamAggregate, TableAggregate, Windowed, KeyJoin, ForeignKeyJoin}
use Rattle.ks_plan.specs.declared.node.Topic.{Topic}
use Rattle.ks_plan.specs.declared.node.Topic.TheVariants.{Input, Repartition, Subscriptions, Responses, Changelog, HashChangelog}
use Rattle.ks_plan.specs.Layout.{kind_at}
use Rattle.ks_query.specs.Streams.{Key}
use Rattle.ks_def_tasks.specs.Messages.{Message, subscription_of}
use Rattle.ks_def_tasks.specs.Messages.Message.{Given, Keyed, Moved, Asked, Answered}
use Rattle.ks_def_tasks.specs.Bytes.{if_there, regrouped_in, message_in}
use Rattle.ks_law_topology.specs.Spelled.{IfThere}
use Rattle.ks_law_kinds.specs.OfKind.{are_bytes, spells, has, may_have, is_regrouped, is_of_topic}
use Rattle.ks_law_kinds.proofs.Stores.{mapped}
use Rattle.ks_law_kinds.proofs.Arriving.{MessageFits, message_fits}
use Rattle.std.specs.Prelude.{Bool, cond, ◌^◌}
use Rattle.std.specs.Ordering.{eq_by_cmp}
use Rattle.std.specs.FinMap.Entries.{find}
use Rattle.ks_def_runs.specs.FinMap as fin
use Rattle.ks_def_runs.specs.Bytes.{by_bytes, Store}
use Rattle.ks_wire.specs.Spelling.{time_key}
use Rattle.ks_wire.specs.Reading.{time_from}
use Rattle.ks_wire.proofs.Wired.{time_codec}
use Rattle.ks_def_tasks.specs.Laws.{AreBytes}
use Rattle.ks_def_lookups.specs.Windows.{time_in}
use Rattle.ks_def_runs.specs.Pairs.{ArePairs}
use Rattle.ks_law_step.specs.Whole.{IsRecord}

bytes_are : (b : List ℕ) → IsBytes b → are_bytes b ≡ true
bytes_are [] h = refl
bytes_are (x ∷ xs) h = and_from (nat_lt x 256) (are_bytes xs) (lt-ltb x 256 (h 0)) (bytes_are xs (λ i. h (suc i)))

spelled : {A : Type 0} (read : List ℕ → Option A) (b : List ℕ) (v : A) → IsBytes b → read b ≡ Some v → spells read b ≡ true
spelled read b v h e = and_from (are_bytes b) (is_some (read b)) (bytes_are b h) (ap is_some e)

may : {A : Type 0} (read : List ℕ → Option A) (o : Option (List ℕ)) (v : Option A) → IfThere IsBytes o → if_there read o ≡ Some v → may_have (spells read) o ≡ true
may read None v h e = refl
may read (Some b) v h e = let x = mapped Some (read b) v e in spelled read b x.0 h x.1

module _ {A B : Type 0} (key : List ℕ → Option A) (value : List ℕ → Option B) (make : A → B → Message) where
  both_have : (k v : Option (List ℕ)) (m : Message) → IfThere IsBytes k → IfThere IsBytes v → (k >>= λ k. v >>= λ v. key k >>= λ a. value v >>= λ b. Some (make a b)) ≡ Some m →
      (has (spells key) k ≡ true) × (has (spells value) v ≡ true)
  both_have None v m h g e = absurd cc
  both_have (Some k) None m h g e = absurd cc
  both_have (Some k) (Some v) m h g e =
      let x = bind_some (key k) (λ a. value v >>= λ b. Some (make a b)) m e in
      let y = bind_some (value v) (λ b. Some (make x.0 b)) m x.2 in
      (spelled key k x.0 h x.1, spelled value v y.0 g y.1)

regrouped_of : (k : Kind) (r : Rec) (m : Message) → IsRecord r → regrouped_in k r ≡ Some m → (has (spells key_from) r.key ≡ true) × (has (is_regrouped k) r.value ≡ true)
regrouped_of (StreamAggregate f by field through) r m h e = both_have key_from row_from Keyed r.key r.value m h.key h.value e
regrouped_of (TableAggregate f by field) r m h e = both_have key_from delta_from Moved r.key r.value m h.key h.value e
regrouped_of (Windowed f by w through) r m h e = both_have key_from row_from Keyed r.key r.value m h.key h.value e
regrouped_of (StreamSource t) r m h e = absurd cc
regrouped_of (TableSource t) r m h e = absurd cc
regrouped_of (StreamFilter f x) r m h e = absurd cc
regrouped_of (TableFilter f x) r m h e = absurd cc
regrouped_of (StreamMap f s) r m h e = absurd cc
regrouped_of (TableMap f s) r m h e = absurd cc
regrouped_of (KeySelected f k) r m h e = absurd cc
regrouped_of (KeyJoin l x kind s) r m h e = absurd cc
regrouped_of (ForeignKeyJoin l x fk kind s) r m h e = absurd cc

of_topic : (p : Plan) (topic : Topic) (r : Rec) (m : Message) → IsRecord r → message_in p topic r ≡ Some m → is_of_topic p topic r.key r.value ≡ true
of_topic p (Input t) r m h e =
    let x = bind_some (if_there key_from r.key) (λ key. if_there row_from r.value >>= λ value. Some (Given key value)) m e in
    let y = bind_some (if_there row_from r.value) (λ value. Some (Given x.0 value)) m x.2 in
    and_from (may_have (spells key_from) r.key) (may_have (spells row_from) r.value) (may key_from r.key x.0 h.key x.1) (may row_from r.value y.0 h.value y.1)
of_topic p (Repartition n) r m h e = let x = regrouped_of (kind_at p n) r m h e in and_from (has (spells key_from) r.key) (has (is_regrouped (kind_at p n)) r.value) x.0 x.1
of_topic p (Subscriptions n) r m h e =
    let x = both_have key_from subscription_from (λ (b : Key) (v : SubscriptionValue). Asked b v.left (subscription_of v)) r.key r.value m h.key h.value e in
    and_from (has (spells key_from) r.key) (has (spells subscription_from) r.value) x.0 x.1
of_topic p (Responses n) r m h e =
    let x = both_have key_from response_from Answered r.key r.value m h.key h.value e in
    and_from (has (spells key_from) r.key) (has (spells response_from) r.value) x.0 x.1
of_topic p (Changelog n) r m h e = absurd cc
of_topic p (HashChangelog n) r m h e = absurd cc

pub read_fits : (p : Plan) (topic : Topic) (r : Rec) (m : Message) → IsRecord r → message_in p topic r ≡ Some m → MessageFits m
read_fits p topic r m h e = message_fits p topic r m (of_topic p topic r m h e) e

-- ---- stores of bytes
pub keys_are : (es : List (List ℕ × List ℕ)) → ArePairs es → AreBytes es
keys_are [] h = tt
keys_are (e ∷ es) h = (h.0.0, keys_are es h.1)

value_is : (k v : List ℕ) (es : List (List ℕ × List ℕ)) → ArePairs es → find by_bytes k es ≡ Some v → IsBytes v
value_is k v [] h e = absurd cc
value_is k v (x ∷ es) h e = by (eq_by_cmp by_bytes k x.0) e (λ f. value_is k v es h.1 f)
  where
    by : (b : Bool) → cond b (Some x.1) (find by_bytes k es) ≡ Some v → (find by_bytes k es ≡ Some v → IsBytes v) → IsBytes v
    by true f more = let same : x.1 ≡ v = cc in subst IsBytes same h.0.1
    by false f more = more f

-- so the greatest time has 64 bits
pub time_fits : (m : Store) → ArePairs (fin.entries m) → IfThere (λ s. s < 2 ^ 64) (time_in m)
time_fits m h = by (fin.get m time_key) refl
  where
    read : (v : List ℕ) → IsBytes v → (o : Option ℕ) → time_from v ≡ o → IfThere (λ s. s < 2 ^ 64) o
    read v b None e = tt
    read v b (Some s) e = (time_codec.back v s b e).0

    by : (o : Option (List ℕ)) → fin.get m time_key ≡ o → IfThere (λ s. s < 2 ^ 64) (o >>= time_from)
    by None e = tt
    by (Some v) e = read v (value_is time_key v (fin.entries m) h (sym (fin.get-entries m time_key) ∙ e)) (time_from v) refl
