-- What a step sends and writes into its changelogs is of the kinds of its topics.
use Rattle.std.proofs.Common.{◌≡◌, ℕ, ℤ, pos, zero, suc, ◌+◌, ◌<◌, ◌≤◌, ◌^◌, Bool, true, false, cond, nat_eq, List, [], ◌∷◌, ◌++◌, fold, Option, Some, None, refl, sym, ap, subst, ◌∙◌, arith}
use Rattle.std.specs.Cmp.Lexicographic.{pointwise}
use Rattle.std.specs.Prelude.{◌==◌, ◌*◌, ◌/◌, ◌&&◌, nat_lt, option_map, IfSome}
use Rattle.std.specs.List.{filter, AllByRecursion}
use Rattle.std.specs.Int.{w64}
use Rattle.std.specs.Int.RustNames.{FitsSigned}
use Rattle.std.specs.Ordering.{is_eq}
use Rattle.std.specs.Cmp.{tied_itself}
use Rattle.std.specs.Cmp.Lexicographic.{nat_list_cmp_total}
use Rattle.std.proofs.Math.Nat.{div-mul-le_self, mul-le-mul_right}
use Rattle.std.proofs.lemmas.Int.{to_z-of_z, fits_signed_from_abs}
use Rattle.std.proofs.lemmas.Bool.{and_from, or_left, or_right}
use Rattle.ks_record.specs.Texts.{IsKey, key_from}
use Rattle.ks_row.specs.Rows.{Member, field_of}
use Rattle.ks_row.specs.Spelling.{FitsRow, FitsField, FitsMember, spelling}
use Rattle.ks_row.specs.FieldKeys.{field_key}
use Rattle.ks_row.specs.declared.row.Field.{Field}
use Rattle.ks_row.specs.declared.row.Field.TheVariants.{Int, Text}
use Rattle.ks_wire.specs.declared.values.Agg.{Agg}
use Rattle.ks_wire.specs.declared.values.Delta.{Delta}
use Rattle.ks_wire.specs.declared.values.Response.{Response}
use Rattle.ks_wire.specs.declared.values.Subscriber.{Subscriber}
use Rattle.ks_wire.specs.Values.{IsPart}
use Rattle.ks_wire.specs.Spelling.{FitsHash, FitsSubscriber, FitsResponse, FitsDelta, FitsAgg, subscription_bytes, subscriber_bytes, response_bytes, delta_bytes, agg_bytes, time_bytes, time_key, window_key, subscription_key}
use Rattle.ks_wire.specs.Reading.{agg_from, delta_from, subscriber_from, time_from, window_key_from, subscription_from, response_from, subscription_key_from}
use Rattle.ks_expr.specs.Eval.{Row, same_bytes}
use Rattle.ks_expr.specs.declared.terms.Fk.{Fk}
use Rattle.ks_expr.specs.declared.terms.Fk.TheVariants.{Field as OfField, Whole, Before}
use Rattle.ks_expr.specs.Keys.{front_of, fk_of}
use Rattle.ks_expr.proofs.Fronts.{front_is_key}
use Rattle.ks_plan.specs.Plan.{Plan, Kind, Window, is_windowed}
use Rattle.ks_plan.specs.Plan.Kind.{StreamSource, TableSource, StreamFilter, TableFilter, StreamMap, TableMap, KeySelected, StreamAggregate, TableAggregate, Windowed, KeyJoin, ForeignKeyJoin}
use Rattle.ks_plan.specs.declared.node.Topic.{Topic}
use Rattle.ks_plan.specs.declared.node.Topic.TheVariants.{Subscriptions, Changelog, HashChangelog}
use Rattle.ks_plan.specs.Layout.{kind_at}
use Rattle.ks_def_runs.specs.FinMap as fin
use Rattle.ks_def_runs.specs.FinMap.{FinMap}
use Rattle.ks_query.specs.Streams.{Key, StreamItem, group_key}
use Rattle.ks_query.specs.Windows.{by_window, windows, multiples}
use Rattle.ks_query.specs.Grace.{is_open}
use Rattle.ks_query.specs.Aggregates.{stream_add, table_parts, share_under, with_amount, amount_in, int_of, deltas_of, same_share}
use Rattle.ks_def_tasks.specs.Messages.{Stored, shown, Message, Subscription, Instruction, Store, Rules, value_of, number_of, same_option, same_stored, same_subscriber}
use Rattle.ks_def_tasks.specs.Messages.Instruction.{Delete, DeleteAndAnswer, Answer, AnswerIfThere}
use Rattle.ks_def_tasks.specs.Messages.Message.{Given, Keyed, Moved, Asked, Answered, Kept, KeptCount, KeptTime, KeptHash}
use Rattle.ks_def_tasks.specs.Foreign.{Sending, key_of_row, subscribe, subscriptions, subscribed, answer_to, answer_all}
use Rattle.ks_def_tasks.specs.Windowed.{Counted, greater, count_window, time_changes, count_group, count_item}
use Rattle.ks_def_tasks.specs.Step.{Arrival, Sent, Written, Values, arrived, step_key, item_into, row_in, changed, keyed_to, regroup, send_deltas, send_subscriptions, send_responses, answer_of, answer_one, join_sends, sends_at, write_all, value_changes, counted_at, hash_changes, changes_at, over_nodes}
use Rattle.ks_def_tasks.specs.Bytes.{key_bytes, value_bytes, stored_bytes}
use Rattle.ks_law_topology.specs.Spelled.{IfThere}
use Rattle.ks_law_topology.proofs.Rows.{field_key_fits, stream_fits}
use Rattle.ks_law_topology.proofs.Placing.{AtPlace}
use Rattle.ks_law_kinds.specs.OfKind.{spells, may_have, is_regrouped, is_stored, is_counted, is_of_topic}
use Rattle.ks_law_topology.specs.Work.{FitsRules}
use Rattle.ks_law_kinds.specs.Fitting.{FitsFk, FitsKind}
use Rattle.ks_law_kinds.proofs.Spells.{spells_key, spells_row, spells_subscription, spells_response, spells_delta, spells_agg, spells_subscriber, spells_time, spells_keys, spells_window}
use Rattle.ks_law_topology.proofs.Every.{Every}
use Rattle.ks_law_kinds.proofs.Stores.{StoredFits, ValueFits, StoreFits}
use Rattle.ks_law_kinds.proofs.Arriving.{MessageFits}
use Rattle.ks_law_kinds.proofs.Values.{if_some, mapped_fits, then_fits, ItemFits, ItemsFit, ValuesFit, here, into_fits, row_fits}

-- ---- amounts
zero_fits : FitsSigned w64 (pos 0)
zero_fits = fits_signed_from_abs w64 (pos 0) (omega arith)

field_fits : (name : List ℕ) (ms : List Member) → AllByRecursion FitsMember ms → IfThere FitsField (field_of name ms)
field_fits name [] h = tt
field_fits name (m ∷ ms) h = by (pointwise ◌==◌ m.0 name) (field_fits name ms h.1)
  where
    by : (b : Bool) → IfThere FitsField (field_of name ms) → IfThere FitsField (cond b (Some m.1) (field_of name ms))
    by true more = h.0.field
    by false more = more

int_fits : (f : Option Field) → IfThere FitsField f → FitsSigned w64 (int_of f)
int_fits None h = zero_fits
int_fits (Some (Int z)) h = h
int_fits (Some (Text s)) h = zero_fits

pub amount_fits : (field : Option (List ℕ)) (row : Row) → FitsRow row → FitsSigned w64 (amount_in field row)
amount_fits None row h = zero_fits
amount_fits (Some field) row h =
    let f = int_fits (field_of field row) (field_fits field row h.members) in
    subst (FitsSigned w64) (sym (to_z-of_z w64 (int_of (field_of field row)) f)) f

-- ---- starts of windows
abbrev pub AllUpTo : ℕ → List ℕ → Type 0
AllUpTo t [] = Unit {0}
AllUpTo t (s ∷ ss) = (s ≤ t) × AllUpTo t ss

up-append : (t : ℕ) (xs ys : List ℕ) → AllUpTo t xs → AllUpTo t ys → AllUpTo t (xs ++ ys)
up-append t [] ys a b = b
up-append t (x ∷ xs) ys a b = (a.0, up-append t xs ys a.1 b)

-- the first m multiples, where the one before last is at most k
all_up : (t a m k : ℕ) → m ≤ k + 1 → k * a ≤ t → AllUpTo t (multiples a m)
all_up t a zero k le h = tt
all_up t a (suc m) k le h = up-append t (multiples a m) (m * a ∷ []) (all_up t a m k (omega arith) h) (
  let most : m * a ≤ k * a = mul-le-mul_right a (omega (arith, le)) in
      omega (arith, most, h),
  tt,
)

up_filter : (t : ℕ) (f : ℕ → Bool) (ss : List ℕ) → AllUpTo t ss → AllUpTo t (filter f ss)
up_filter t f [] h = tt
up_filter t f (s ∷ ss) h = by (f s) (up_filter t f ss h.1)
  where
    by : (b : Bool) → AllUpTo t (filter f ss) → AllUpTo t (cond b (s ∷ filter f ss) (filter f ss))
    by true g = (h.0, g)
    by false g = g

pub starts_up : (w : Window) (t : ℕ) → AllUpTo t (windows w t)
starts_up w t = up_filter t (λ s. nat_lt t (s + w.size)) (multiples w.advance (t / w.advance + 1)) (all_up t w.advance (t / w.advance + 1) (t / w.advance) (omega arith) (div-mul-le_self t w.advance))

module _ (p : Plan) where
  -- ---- what is sent
  abbrev pub SentFits : Sent → Type 0
  SentFits s = is_of_topic p s.topic (key_bytes s.message) (value_bytes s.message) ≡ true

  abbrev pub AllSent : List Sent → Type 0
  AllSent [] = Unit {0}
  AllSent (s ∷ ss) = SentFits s × AllSent ss

  sent-append : (xs ys : List Sent) → AllSent xs → AllSent ys → AllSent (xs ++ ys)
  sent-append [] ys a b = b
  sent-append (x ∷ xs) ys a b = (a.0, sent-append xs ys a.1 b)

  sent-cond : (b : Bool) (xs : List Sent) → AllSent xs → AllSent (cond b xs [])
  sent-cond true xs h = h
  sent-cond false xs h = tt

  -- to repartition topics
  keyed_sent : (n : ℕ) → ((row : Row) → FitsRow row → is_regrouped (kind_at p n) (spelling row) ≡ true) → (row : Row) → FitsRow row → (g : Option Key) → IfThere IsKey g → AllSent (keyed_to n row g)
  keyed_sent n read row f None h = tt
  keyed_sent n read row f (Some g) h = (and_from (spells key_from g) (is_regrouped (kind_at p n) (spelling row)) (spells_key g h) (read row f), tt)

  pub group_fits : (by : Option (List ℕ)) (x : StreamItem) → ItemFits x → IfThere IsKey (group_key by x)
  group_fits None x h = h.key
  group_fits (Some name) x h = field_key_fits name x.row h.row

  regroup_sent : (by : Option (List ℕ)) (n : ℕ) → ((row : Row) → FitsRow row → is_regrouped (kind_at p n) (spelling row) ≡ true) → (x : Option StreamItem) → IfThere ItemFits x → AllSent (regroup by n x)
  regroup_sent by n read None h = tt
  regroup_sent by n read (Some x) h = keyed_sent n read x.row h.row (group_key by x) (group_fits by x h)

  abbrev pub AllDeltas : List (Key × Delta) → Type 0
  AllDeltas [] = Unit {0}
  AllDeltas (d ∷ ds) = (IsKey d.0 × FitsDelta d.1) × AllDeltas ds

  deltas-append : (xs ys : List (Key × Delta)) → AllDeltas xs → AllDeltas ys → AllDeltas (xs ++ ys)
  deltas-append [] ys a b = b
  deltas-append (x ∷ xs) ys a b = (a.0, deltas-append xs ys a.1 b)

  share_fits : (by : List ℕ) (field : Option (List ℕ)) (row : Option Row) → IfThere FitsRow row → IfThere (λ s. IsKey s.0 × FitsSigned w64 s.1) (share_under by field row)
  share_fits by field None h = tt
  share_fits by field (Some row) h = with (field_key by row) (field_key_fits by row h)
    where
      with : (g : Option Key) → IfThere IsKey g → IfThere (λ s. IsKey s.0 × FitsSigned w64 s.1) (with_amount (amount_in field row) g)
      with None k = tt
      with (Some g) k = (k, amount_fits field row h)

  deltas_fit : (add : Bool) (s : Option (Key × ℤ)) → IfThere (λ s. IsKey s.0 × FitsSigned w64 s.1) s → AllDeltas (deltas_of add s)
  deltas_fit add None h = tt
  deltas_fit add (Some s) h = (h, tt)

  pub parts_fit : (by : List ℕ) (field : Option (List ℕ)) (old new : Option Row) → IfThere FitsRow old → IfThere FitsRow new → AllDeltas (table_parts by field old new)
  parts_fit by field old new h g = either (same_share (share_under by field old) (share_under by field new))
    where
      both : AllDeltas (deltas_of false (share_under by field old) ++ deltas_of true (share_under by field new))
      both = deltas-append (deltas_of false (share_under by field old)) (deltas_of true (share_under by field new)) (deltas_fit false (share_under by field old) (share_fits by field old h)) (deltas_fit true (share_under by field new) (share_fits by field new g))

      either : (b : Bool) → AllDeltas (cond b [] (deltas_of false (share_under by field old) ++ deltas_of true (share_under by field new)))
      either true = tt
      either false = both

  deltas_sent : (n f : ℕ) (by : List ℕ) (field : Option (List ℕ)) → kind_at p n ≡ TableAggregate f by field → (ds : List (Key × Delta)) → AllDeltas ds → AllSent (send_deltas n ds)
  deltas_sent n f by field at [] h = tt
  deltas_sent n f by field at (d ∷ ds) h = (
    subst (λ k. (spells key_from d.0 && is_regrouped k (delta_bytes d.1)) ≡ true) (sym at) (and_from (spells key_from d.0) (spells delta_from (delta_bytes d.1)) (spells_key d.0 h.0.0) (spells_delta d.1 h.0.1)),
    deltas_sent n f by field at ds h.1,
  )

  -- to subscription topics
  few : (i : Instruction) → number_of i ≤ 3
  few Delete = omega arith
  few DeleteAndAnswer = omega arith
  few Answer = omega arith
  few AnswerIfThere = omega arith

  abbrev pub AllAsked : List (Key × Subscription) → Type 0
  AllAsked [] = Unit {0}
  AllAsked (s ∷ ss) = (IsKey s.0 × FitsHash s.1.hash × IsPart s.1.part) × AllAsked ss

  asked-append : (xs ys : List (Key × Subscription)) → AllAsked xs → AllAsked ys → AllAsked (xs ++ ys)
  asked-append [] ys a b = b
  asked-append (x ∷ xs) ys a b = (a.0, asked-append xs ys a.1 b)

  one_asked : (b : Option Key) (s : Subscription) → IfThere IsKey b → FitsHash s.hash → IsPart s.part → AllAsked (subscribe b s)
  one_asked None s h f g = tt
  one_asked (Some b) s h f g = ((h, f, g), tt)

  -- a foreign key is a key
  fk_fits : (fk : Fk) → FitsFk fk → (k : Key) → IsKey k → (row : Row) → FitsRow row → IfThere IsKey (fk_of fk k row)
  fk_fits (OfField name) f k is row h = field_key_fits name row h
  fk_fits Whole f k is row h = is
  fk_fits (Before s) f k is row h = if_some IsKey (front_of s k) (front_is_key s k f is)

  row_key : (fk : Fk) → FitsFk fk → (k : Key) → IsKey k → (row : Option Row) → IfThere FitsRow row → IfThere IsKey (key_of_row fk k row)
  row_key fk f k is row h = then_fits FitsRow IsKey (fk_of fk k) (λ v g. fk_fits fk f k is v g) row h

  pub asked_fit : (rules : Rules) → FitsRules rules → (fk : Fk) → FitsFk fk → (k : Key) → IsKey k → (part : Option ℕ) → IsPart part → (old new : Option Row) → IfThere FitsRow old → IfThere FitsRow new → AllAsked (subscriptions rules.hash fk k part old new)
  asked_fit rules good fk f k is part one old None h g = one_asked (key_of_row fk k old) (record { hash = None; instruction = DeleteAndAnswer; part = part }) (row_key fk f k is old h) tt one
  asked_fit rules good fk f k is part one old (Some v) h g = asked-append
      (cond (same_option same_bytes (key_of_row fk k old) (fk_of fk k v)) [] (subscribe (key_of_row fk k old) (record { hash = Some (rules.hash v); instruction = Delete; part = part })))
      (subscribe (fk_of fk k v) (record { hash = Some (rules.hash v); instruction = Answer; part = part }))
      (first (same_option same_bytes (key_of_row fk k old) (fk_of fk k v)))
      (one_asked (fk_of fk k v) (record { hash = Some (rules.hash v); instruction = Answer; part = part }) (fk_fits fk f k is v g) (good v) one)
    where
      first : (b : Bool) → AllAsked (cond b [] (subscribe (key_of_row fk k old) (record { hash = Some (rules.hash v); instruction = Delete; part = part })))
      first true = tt
      first false = one_asked (key_of_row fk k old) (record { hash = Some (rules.hash v); instruction = Delete; part = part }) (row_key fk f k is old h) (good v) one

  asked_sent : (n : ℕ) (k : Key) → IsKey k → (ss : List (Key × Subscription)) → AllAsked ss → AllSent (send_subscriptions n k ss)
  asked_sent n k is [] h = tt
  asked_sent n k is (s ∷ ss) h = (
    and_from (spells key_from s.0) (spells subscription_from (subscription_bytes (value_of k s.1))) (spells_key s.0 h.0.0)
        (spells_subscription (value_of k s.1) (record { hash = h.0.1; instruction = few s.1.instruction; left = is; part = h.0.2 })),
    asked_sent n k is ss h.1,
  )

  -- to response topics
  abbrev pub AllAnswers : List Sending → Type 0
  AllAnswers [] = Unit {0}
  AllAnswers (r ∷ rs) = (IsKey r.0 × FitsResponse r.1) × AllAnswers rs

  answers_sent : (n : ℕ) (rs : List Sending) → AllAnswers rs → AllSent (send_responses n rs)
  answers_sent n [] h = tt
  answers_sent n (r ∷ rs) h = (and_from (spells key_from r.0) (spells response_from (response_bytes r.1)) (spells_key r.0 h.0.0) (spells_response r.1 h.0.1), answers_sent n rs h.1)

  some_if : {A : Type 0} (P : A → Type 0) (o : Option A) → IfThere P o → IfSome o P
  some_if P None h = tt
  some_if P (Some x) h = h

  pub all_answers : (right : Option Row) → IfThere FitsRow right → (es : List (Key × Subscriber)) → Every (λ k s. IsKey k × FitsSubscriber s) es → AllAnswers (answer_all right es)
  all_answers right f [] h = tt
  all_answers right f (e ∷ es) h = ((h.0.0, record { hash = h.0.1.hash; right = some_if FitsRow right f }), all_answers right f es h.1)

  pub answer_fits : (s : Subscription) → FitsHash s.hash → (right : Option Row) → IfThere FitsRow right → IfThere FitsResponse (answer_to s right)
  answer_fits s h right f = by s.instruction
    where
      by : (i : Instruction) → IfThere FitsResponse (answer_to (record { hash = s.hash; instruction = i; part = s.part }) right)
      by Delete = tt
      by DeleteAndAnswer = record { hash = tt; right = tt }
      by Answer = record { hash = h; right = some_if FitsRow right f }
      by AnswerIfThere = mapped_fits FitsRow FitsResponse (λ (row : Row). record { hash = s.hash; right = Some row }) (λ row g. record { hash = h; right = g }) right f

  pub one_answer : (k : Key) → IsKey k → (part : Option ℕ) (r : Option Response) → IfThere FitsResponse r → AllAnswers (answer_of k part r)
  one_answer k is part None h = tt
  one_answer k is part (Some r) h = ((is, h), tt)

  -- ---- what is written into changelogs
  abbrev pub WrittenFits : Written → Type 0
  WrittenFits w = is_of_topic p w.topic (key_bytes w.message) (value_bytes w.message) ≡ true

  abbrev pub AllWritten : List Written → Type 0
  AllWritten [] = Unit {0}
  AllWritten (w ∷ ws) = WrittenFits w × AllWritten ws

  written-append : (xs ys : List Written) → AllWritten xs → AllWritten ys → AllWritten (xs ++ ys)
  written-append [] ys a b = b
  written-append (x ∷ xs) ys a b = (a.0, written-append xs ys a.1 b)

  write_all-append : (t : Topic) (xs ys : List Message) → AllWritten (write_all t xs) → AllWritten (write_all t ys) → AllWritten (write_all t (xs ++ ys))
  write_all-append t [] ys a b = b
  write_all-append t (x ∷ xs) ys a b = (a.0, write_all-append t xs ys a.1 b)

  -- tables
  plain_change : (n : ℕ) (c : Key) (new : Option Stored) → IsKey c → ValueFits (kind_at p n) new → is_windowed (kind_at p n) ≡ false → is_of_topic p (Changelog n) (Some c) (option_map stored_bytes new) ≡ true
  plain_change n c new is f plain =
      ap (λ b. cond b (is_counted (Some c) (option_map stored_bytes new)) (spells key_from c && may_have (is_stored (kind_at p n)) (option_map stored_bytes new))) plain
      ∙ and_from (spells key_from c) (may_have (is_stored (kind_at p n)) (option_map stored_bytes new)) (spells_key c is) (value new f.there)
    where
      value : (o : Option Stored) → IfThere (StoredFits (kind_at p n)) o → may_have (is_stored (kind_at p n)) (option_map stored_bytes o) ≡ true
      value None h = refl
      value (Some w) h = h.bytes

  table_changes : (n : ℕ) (key : Option Key) (old new : Option Stored) → IfThere IsKey key → ValueFits (kind_at p n) old → ValueFits (kind_at p n) new → AllWritten (write_all (Changelog n) (value_changes key old new))
  table_changes n None old new is f g = tt
  table_changes n (Some c) old new is f g = by (is_windowed (kind_at p n)) refl
    where
      one : (b : Bool) → is_windowed (kind_at p n) ≡ false → AllWritten (write_all (Changelog n) (cond b [] (Kept c new ∷ [])))
      one true plain = tt
      one false plain = (plain_change n c new is g plain, tt)

      by : (b : Bool) → is_windowed (kind_at p n) ≡ b → AllWritten (write_all (Changelog n) (value_changes (Some c) old new))
      by true e = subst (λ o. AllWritten (write_all (Changelog n) (value_changes (Some c) o new))) (sym (f.none e))
          (subst (λ o. AllWritten (write_all (Changelog n) (value_changes (Some c) None o))) (sym (g.none e)) tt)
      by false e = one (same_option same_stored old new) e

  -- windowed counts
  module _ (n : ℕ) (windowed : is_windowed (kind_at p n) ≡ true) where
    counted_change : (key value : List ℕ) → is_counted (Some key) (Some value) ≡ true → is_of_topic p (Changelog n) (Some key) (Some value) ≡ true
    counted_change key value h = ap (λ b. cond b (is_counted (Some key) (Some value)) (spells key_from key && is_stored (kind_at p n) value)) windowed ∙ h

    window_change : (g : Key) (s : ℕ) (x : Agg) → IsKey g → s < 2 ^ 64 → FitsAgg x → is_of_topic p (Changelog n) (Some (window_key g s)) (Some (agg_bytes x)) ≡ true
    window_change g s x is lt f = counted_change (window_key g s) (agg_bytes x) (or_left
        (spells window_key_from (window_key g s) && spells agg_from (agg_bytes x)) (same_bytes time_key (window_key g s) && spells time_from (agg_bytes x))
        (and_from (spells window_key_from (window_key g s)) (spells agg_from (agg_bytes x)) (spells_window g s is lt) (spells_agg x f)))

    time_change : (t : ℕ) → t < 2 ^ 64 → is_of_topic p (Changelog n) (Some time_key) (Some (time_bytes t)) ≡ true
    time_change t lt = counted_change time_key (time_bytes t) (or_right
        (spells window_key_from time_key && spells agg_from (time_bytes t)) (same_bytes time_key time_key && spells time_from (time_bytes t))
        (and_from (same_bytes time_key time_key) (spells time_from (time_bytes t)) (ap is_eq (tied_itself nat_list_cmp_total time_key)) (spells_time t lt)))

    over_windows : (w : Window) (now t : ℕ) (g : Key) → IsKey g → t < 2 ^ 64 → (ss : List ℕ) → AllUpTo t ss → (c : Counted) → AllWritten (write_all (Changelog n) c.changes) →
        AllWritten (write_all (Changelog n) (fold (count_window w now g) c ss).changes)
    over_windows w now t g is lt [] up c h = h
    over_windows w now t g is lt (s ∷ ss) up c h = over_windows w now t g is lt ss up.1 (count_window w now g c s) (one (is_open w now s))
      where
        new : Agg
        new = stream_add None (fin.get c.counts (g, s)) []

        one : (b : Bool) → AllWritten (write_all (Changelog n) (cond b
            (record c { counts = fin.insert c.counts (g, s) (stream_add None (fin.get c.counts (g, s)) []); changes = c.changes ++ KeptCount (g, s) (stream_add None (fin.get c.counts (g, s)) []) ∷ [] })
            (record c { late = c.late + 1 })).changes)
        one true = write_all-append (Changelog n) c.changes (KeptCount (g, s) (stream_add None (fin.get c.counts (g, s)) []) ∷ []) h
            (window_change g s (stream_add None (fin.get c.counts (g, s)) []) is (omega (arith, up.0, lt)) (stream_fits None (fin.get c.counts (g, s)) []), tt)
        one false = h

    greater_fits : (old : Option ℕ) (t : ℕ) → IfThere (λ s. s < 2 ^ 64) old → t < 2 ^ 64 → greater old t < 2 ^ 64
    greater_fits None t h lt = lt
    greater_fits (Some s) t h lt = omega (arith, h, lt)

    time_changed : (old : Option ℕ) (now : ℕ) → now < 2 ^ 64 → AllWritten (write_all (Changelog n) (time_changes old now))
    time_changed old now lt = by (same_option nat_eq old (Some now))
      where
        by : (b : Bool) → AllWritten (write_all (Changelog n) (cond b [] (KeptTime now ∷ [])))
        by true = tt
        by false = (time_change now lt, tt)

    of_group : (w : Window) (old : Option ℕ) (counts : FinMap by_window Agg) (t : ℕ) (g : Option Key) → IfThere IsKey g → t < 2 ^ 64 → IfThere (λ s. s < 2 ^ 64) old →
        AllWritten (write_all (Changelog n) (count_group w old counts t g).changes)
    of_group w old counts t None is lt h = tt
    of_group w old counts t (Some g) is lt h = over_windows w (greater old t) t g is lt (windows w t) (starts_up w t)
        (record { time = Some (greater old t); counts = counts; late = 0; changes = time_changes old (greater old t) }) (time_changed old (greater old t) (greater_fits old t h lt))

    of_item : (w : Window) (old : Option ℕ) (counts : FinMap by_window Agg) (x : Option StreamItem) → IfThere ItemFits x → IfThere (λ s. s < 2 ^ 64) old →
        AllWritten (write_all (Changelog n) (count_item w old counts x).changes)
    of_item w old counts None f h = tt
    of_item w old counts (Some x) f h = of_group w old counts x.time x.key f.key f.time h

  -- subscription stores
  kept_subscriber : (s : Subscription) → FitsHash s.hash → IsPart s.part → may_have (spells subscriber_from) (option_map subscriber_bytes (subscribed s)) ≡ true
  kept_subscriber s h g = by s.instruction
    where
      told : (o : Option ℕ) → FitsHash o → may_have (spells subscriber_from) (option_map subscriber_bytes (option_map (λ x. record { hash = x; part = s.part }) o)) ≡ true
      told None f = refl
      told (Some x) f = spells_subscriber (record { hash = x; part = s.part }) (record { hash = f; part = g })

      by : (i : Instruction) → may_have (spells subscriber_from) (option_map subscriber_bytes (subscribed (record { hash = s.hash; instruction = i; part = s.part }))) ≡ true
      by Delete = refl
      by DeleteAndAnswer = refl
      by Answer = told s.hash h
      by AnswerIfThere = told s.hash h

  hashes_written : (st : Store) (n : ℕ) (m : Option Message) → IfThere MessageFits m → AllWritten (write_all (HashChangelog n) (hash_changes st n m))
  hashes_written st n None f = tt
  hashes_written st n (Some (Given k v)) f = tt
  hashes_written st n (Some (Keyed g row)) f = tt
  hashes_written st n (Some (Moved g d)) f = tt
  hashes_written st n (Some (Asked b q s)) f = by (same_option same_subscriber (fin.get (st.hashes n b) q) (subscribed s))
    where
      by : (c : Bool) → AllWritten (write_all (HashChangelog n) (cond c [] (KeptHash b q (subscribed s) ∷ [])))
      by true = tt
      by false = (and_from (spells subscription_key_from (subscription_key b q)) (may_have (spells subscriber_from) (option_map subscriber_bytes (subscribed s))) (spells_keys b q f.0 f.1) (kept_subscriber s f.2 f.3), tt)
  hashes_written st n (Some (Answered q r)) f = tt
  hashes_written st n (Some (Kept k w)) f = tt
  hashes_written st n (Some (KeptCount w g)) f = tt
  hashes_written st n (Some (KeptTime t)) f = tt
  hashes_written st n (Some (KeptHash b q g)) f = tt

-- ---- a whole step
module _ (rules : Rules) (good : FitsRules rules) (p : Plan) (a : Arrival) (arrives : MessageFits a.item.message) (in_time : a.item.time < 2 ^ 64) (st : Store) (held : StoreFits p st)
    (items : ℕ → Option StreamItem) (itemly : ItemsFit rules p a arrives in_time items) (olds news : Values) (old : ValuesFit rules p a arrives in_time olds) (new : ValuesFit rules p a arrives in_time news)
    (named : (n : ℕ) → IsPart (a.names n)) where
  key_fits : IfThere IsKey (step_key a.item.message)
  key_fits = by a.item.message arrives
    where
      by : (m : Message) → MessageFits m → IfThere IsKey (step_key m)
      by (Given k v) f = f.0
      by (Keyed g row) f = f.0
      by (Moved g d) f = f
      by (Asked b q s) f = tt
      by (Answered q r) f = f.0
      by (Kept k w) f = tt
      by (KeptCount w g) f = tt
      by (KeptTime t) f = tt
      by (KeptHash b q g) f = tt

  row_now : (n : ℕ) → IfThere FitsRow (row_in news n)
  row_now n = row_fits rules p a arrives in_time news new n

  row_then : (n : ℕ) → IfThere FitsRow (row_in olds n)
  row_then n = row_fits rules p a arrives in_time olds old n

  join_sent : (fk : Fk) → FitsFk fk → (n l r : ℕ) (k : Option Key) → IfThere IsKey k → AllSent p (join_sends rules fk (a.names n) n l r st olds news k)
  join_sent fk f n l r None is = tt
  join_sent fk f n l r (Some k) is =
      let asks = subscriptions rules.hash fk k (a.names n) (row_in olds l) (row_in news l) in
      let answers = answer_all (row_in news r) (fin.entries (st.hashes n k)) in
      sent-append p (cond (changed olds news l) (send_subscriptions n k asks) []) (cond (changed olds news r) (send_responses n answers) [])
      (sent-cond p (changed olds news l) (send_subscriptions n k asks)
      (asked_sent p n k is asks (asked_fit p rules good fk f k is (a.names n) (named n) (row_in olds l) (row_in news l) (row_then l) (row_now l))))
      (sent-cond p (changed olds news r) (send_responses n answers)
      (answers_sent p n answers (all_answers p (row_in news r) (row_now r) (fin.entries (st.hashes n k)) (held.hashes n k))))

  answer_sent : (n r : ℕ) (m : Option Message) → IfThere MessageFits m → AllSent p (answer_one n st r m)
  answer_sent n r None f = tt
  answer_sent n r (Some (Given k v)) f = tt
  answer_sent n r (Some (Keyed g row)) f = tt
  answer_sent n r (Some (Moved g d)) f = tt
  answer_sent n r (Some (Asked b q s)) f =
      let right = option_map shown (fin.get (st.tables r) b) in
      let right_fits : IfThere FitsRow right = mapped_fits (StoredFits (kind_at p r)) FitsRow shown (λ w g. g.row) (fin.get (st.tables r) b) (held.tables r b).there in
      answers_sent p n (answer_of q s.part (answer_to s right)) (one_answer p q f.1 s.part (answer_to s right) (answer_fits p s f.2 right right_fits))
  answer_sent n r (Some (Answered q x)) f = tt
  answer_sent n r (Some (Kept k w)) f = tt
  answer_sent n r (Some (KeptCount w g)) f = tt
  answer_sent n r (Some (KeptTime t)) f = tt
  answer_sent n r (Some (KeptHash b q g)) f = tt

  node_sent : (n : ℕ) (k : Kind) → FitsKind k → kind_at p n ≡ k → AllSent p (sends_at rules a items st olds news n k)
  node_sent n (StreamAggregate f by field through) fit at = sent-cond p through (regroup by n (items f))
      (regroup_sent p by n (λ row g. subst (λ x. is_regrouped x (spelling row) ≡ true) (sym at) (spells_row row g)) (items f) (itemly f))
  node_sent n (Windowed f by w through) fit at = sent-cond p through (regroup by n (items f))
      (regroup_sent p by n (λ row g. subst (λ x. is_regrouped x (spelling row) ≡ true) (sym at) (spells_row row g)) (items f) (itemly f))
  node_sent n (TableAggregate f by field) fit at =
      deltas_sent p n f by field at (table_parts by field (row_in olds f) (row_in news f)) (parts_fit p by field (row_in olds f) (row_in news f) (row_then f) (row_now f))
  node_sent n (ForeignKeyJoin l r fk kind set) fit at = sent-append p (join_sends rules fk (a.names n) n l r st olds news (step_key a.item.message)) (answer_one n st r (arrived a (Subscriptions n)))
      (join_sent fk fit.1 n l r (step_key a.item.message) key_fits) (answer_sent n r (arrived a (Subscriptions n)) (here rules p a arrives in_time (Subscriptions n)))
  node_sent n (StreamSource t) fit at = tt
  node_sent n (TableSource t) fit at = tt
  node_sent n (StreamFilter f x) fit at = tt
  node_sent n (TableFilter f x) fit at = tt
  node_sent n (StreamMap f s) fit at = tt
  node_sent n (TableMap f s) fit at = tt
  node_sent n (KeySelected f k) fit at = tt
  node_sent n (KeyJoin l r kind s) fit at = tt

  pub all_sent : (n : ℕ) (ks : List Kind) → AllByRecursion FitsKind ks → AtPlace rules p n ks → AllSent p (over_nodes (sends_at rules a items st olds news) n ks)
  all_sent n [] fit at = tt
  all_sent n (k ∷ ks) fit at = sent-append p (sends_at rules a items st olds news n k) (over_nodes (sends_at rules a items st olds news) (suc n) ks) (node_sent n k fit.0 at.0) (all_sent (suc n) ks fit.1 at.1)

  node_counted : (n : ℕ) (k : Kind) → kind_at p n ≡ k → AllWritten p (write_all (Changelog n) (counted_at a items st n k).changes)
  node_counted n (Windowed f by w through) at = of_item p n (ap is_windowed at) w (st.times n) (st.counts n) (item_into a items n f through) (into_fits rules p a arrives in_time items itemly n f through) (held.times n)
  node_counted n (StreamSource t) at = tt
  node_counted n (TableSource t) at = tt
  node_counted n (StreamFilter f x) at = tt
  node_counted n (TableFilter f x) at = tt
  node_counted n (StreamMap f s) at = tt
  node_counted n (TableMap f s) at = tt
  node_counted n (KeySelected f k) at = tt
  node_counted n (StreamAggregate f by field through) at = tt
  node_counted n (TableAggregate f by field) at = tt
  node_counted n (KeyJoin l r kind s) at = tt
  node_counted n (ForeignKeyJoin l r fk kind s) at = tt

  node_written : (n : ℕ) (k : Kind) → kind_at p n ≡ k → AllWritten p (changes_at a items st olds news n k)
  node_written n k at =
      let key = step_key a.item.message in
      written-append p (write_all (Changelog n) (value_changes key (olds n) (news n) ++ (counted_at a items st n k).changes)) (write_all (HashChangelog n) (hash_changes st n (arrived a (Subscriptions n))))
      (write_all-append p (Changelog n) (value_changes key (olds n) (news n)) (counted_at a items st n k).changes (table_changes p n key (olds n) (news n) key_fits (old n) (new n)) (node_counted n k at))
      (hashes_written p st n (arrived a (Subscriptions n)) (here rules p a arrives in_time (Subscriptions n)))

  pub all_written : (n : ℕ) (ks : List Kind) → AtPlace rules p n ks → AllWritten p (over_nodes (changes_at a items st olds news) n ks)
  all_written n [] at = tt
  all_written n (k ∷ ks) at = written-append p (changes_at a items st olds news n k) (over_nodes (changes_at a items st olds news) (suc n) ks) (node_written n k at.0) (all_written (suc n) ks at.1)
