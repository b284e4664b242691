-- A subscription store that is read from the bytes after a step is the one after the decoded step.
use Rattle.std.proofs.Common.{◌≡◌, ℕ, Bool, true, false, cond, nat_eq, List, [], ◌∷◌, map, Option, Some, None, refl, sym, ap, ap₂, subst, ◌∙◌}
use Rattle.std.specs.Prelude.{slice_get, option_map, IfSome, ◌<◌, ◌^◌}
use Rattle.std.proofs.lemmas.Bool.{and_parts}
use Rattle.std.proofs.lemmas.Bool.Decides.{Decides-eqb}
use Rattle.std.specs.Ordering.{is_eq}
use Rattle.std.specs.Cmp.{tied_itself}
use Rattle.std.specs.Cmp.Lexicographic.{nat_list_cmp_total}
use Rattle.std.specs.FinMap.{slice_cmp-IsAntisymmetric, nat_cmp-IsAntisymmetric}
use Rattle.ks_record.specs.Records.{Record as Rec}
use Rattle.ks_record.specs.declared.record.PartId.{PartId}
use Rattle.ks_record.specs.declared.record.TaskId.{TaskId}
use Rattle.ks_wire.specs.declared.values.Subscriber.{Subscriber}
use Rattle.ks_wire.specs.Spelling.{subscription_key, subscriber_bytes, FitsSubscriber}
use Rattle.ks_wire.specs.Reading.{subscription_key_from, subscriber_from}
use Rattle.ks_wire.proofs.Wired.{subscription_key_codec, subscriber_codec}
use Rattle.ks_expr.specs.Eval.{same_bytes}
use Rattle.ks_plan.specs.Plan.{Plan, Kind}
use Rattle.ks_plan.specs.declared.node.Topic.{Topic}
use Rattle.ks_plan.specs.declared.node.Topic.TheVariants.{Subscriptions, HashChangelog}
use Rattle.ks_plan.specs.Layout.{same_topic, number_of}
use Rattle.ks_def_runs.specs.FinMap as fin
use Rattle.ks_def_runs.specs.FinMap.{FinMap}
use Rattle.ks_def_runs.specs.Bytes.{by_bytes, Store as ByteStore}
use Rattle.ks_def_runs.specs.Table.{write}
use Rattle.ks_def_runs.proofs.Tables.{write_same}
use Rattle.ks_query.specs.Streams.{Key}
use Rattle.ks_def_tasks.specs.Messages.{Subscription, Message, Store, Rules, same_option, same_subscriber}
use Rattle.ks_def_tasks.specs.Messages.Message.{Given, Keyed, Moved, Asked, Answered, Kept, KeptCount, KeptTime, KeptHash}
use Rattle.ks_def_tasks.specs.Messages.Instruction.{Delete, DeleteAndAnswer, Answer, AnswerIfThere}
use Rattle.ks_def_tasks.specs.Foreign.{subscribed, hash_by}
use Rattle.ks_def_tasks.specs.Step.{arrived, hash_changes, subscribe_at}
use Rattle.ks_def_tasks.specs.Bytes.{ByteStores, byte_step, is_own_number, rec_of, keep_all, map_from, left_at, hashes_from}
use Rattle.ks_def_tasks.specs.Laws.{IsTakenBy, AreBytes, FitsAsked}
use Rattle.ks_def_tasks.proofs.Same.{bytes-is, option-is}
use Rattle.ks_def_tasks.proofs.Shown.{Alone, IsAgain, shown_write, shown_same}
use Rattle.ks_def_tasks.proofs.Picked.{hash_logged}
use Rattle.ks_def_tasks.proofs.Agree.{st, a, decoded, items, olds, news, at_own, store_is}

-- ---- the hashes at a foreign key, as they are read
abbrev readk : Key → List ℕ → Option Key
readk b k = left_at b (subscription_key_from k)

abbrev shown : Key → ByteStore → FinMap by_bytes Subscriber
shown b m = map_from by_bytes (readk b) subscriber_from (fin.entries m)

subscriber-is : (x y : Subscriber) → same_subscriber x y ≡ true → x ≡ y
subscriber-is x y e =
    let both = and_parts (nat_eq x.hash y.hash) (same_option nat_eq x.part y.part) e in
    ap₂ (λ (h : ℕ) (i : Option ℕ). record { hash = h; part = i }) ((Decides-eqb x.hash y.hash).0 both.0) (option-is nat_eq (λ a b f. (Decides-eqb a b).0 f) x.part y.part both.1)

same_itself : (k : List ℕ) → same_bytes k k ≡ true
same_itself k = ap is_eq (tied_itself nat_list_cmp_total k)

left-is : (b c : Key) (d : Option (Key × Key)) (f : Key) → same_bytes b c ≡ true → left_at b d ≡ Some f → d ≡ Some (c, f)
left-is b c None f s e = absurd (cc)
left-is b c (Some x) f s e = elim (same_bytes b x.0) as (λ t. same_bytes b x.0 ≡ t → cond t (Some x.1) None ≡ Some f → Some x ≡ Some (c, f)) [
  | true ↦ λ t g.
      let first : x.0 ≡ c = sym (bytes-is b x.0 t) ∙ bytes-is b c s in
      let second : x.1 ≡ f = cc in
      ap Some (ap₂ (λ y z. (y, z)) first second)
  | false ↦ λ t g. absurd (cc)
] refl e

-- no other key of these spells the foreign key and the left key
alone : (b c f : Key) → same_bytes b c ≡ true → (es : List (List ℕ × List ℕ)) → AreBytes es → Alone by_bytes nat_list_cmp_total (slice_cmp-IsAntisymmetric nat_cmp-IsAntisymmetric) (readk b) subscriber_from f (subscription_key c f) es
alone b c f s [] h = tt
alone b c f s (e ∷ es) h = (
  λ g read tied.
      let same : f ≡ g = bytes-is f g tied in
      let keys : subscription_key_from e.0 ≡ Some (c, g) = left-is b c (subscription_key_from e.0) g s read in
      (subscription_key_codec.back e.0 (c, g) h.0 keys).1 ∙ ap (subscription_key c) (sym same),
  alone b c f s es h.1,
)

again : (w : Option Subscriber) → IfSome w FitsSubscriber → IsAgain by_bytes nat_list_cmp_total (slice_cmp-IsAntisymmetric nat_cmp-IsAntisymmetric) (readk []) subscriber_from subscriber_bytes w
again None h = tt
again (Some x) h = subscriber_codec.again x h

-- one subscription
module _ (m : ByteStore) (bytes : AreBytes (fin.entries m)) (time : ℕ) (c f : Key) (s : Subscription) (fits : FitsAsked (Asked c f s)) where
  kept_hash : IfSome (subscribed s) FitsSubscriber
  kept_hash = with_part (hash_by s.instruction s.hash) (by_instruction s.instruction)
    where
      by_instruction : (i : _) → IfSome (hash_by i s.hash) (λ h. h < 2 ^ 128)
      by_instruction Delete = tt
      by_instruction DeleteAndAnswer = tt
      by_instruction Answer = fits.1
      by_instruction AnswerIfThere = fits.1

      with_part : (h : Option ℕ) → IfSome h (λ h. h < 2 ^ 128) → IfSome (option_map (λ h. record { hash = h; part = s.part }) h) FitsSubscriber
      with_part None g = tt
      with_part (Some h) g = record { hash = g; part = fits.2 }

  read_here : (b : Key) (t : Bool) → same_bytes b c ≡ t → readk b (subscription_key c f) ≡ cond t (Some f) None
  read_here b t e = ap (left_at b) (subscription_key_codec.again (c, f) fits.0) ∙ ap (λ x. cond x (Some f) None) e

  one_hash : (b : Key) → shown b (keep_all m (map rec_of (map (λ x. record { message = x; time = time }) (cond (same_option same_subscriber (fin.get (shown c m) f) (subscribed s)) [] (KeptHash c f (subscribed s) ∷ [])))))
      ≡ cond (same_bytes b c) (write by_bytes (shown b m) f (subscribed s)) (shown b m)
  one_hash b = elim (same_option same_subscriber (fin.get (shown c m) f) (subscribed s)) as (λ u. same_option same_subscriber (fin.get (shown c m) f) (subscribed s) ≡ u →
      shown b (keep_all m (map rec_of (map (λ x. record { message = x; time = time }) (cond u [] (KeptHash c f (subscribed s) ∷ [])))))
      ≡ cond (same_bytes b c) (write by_bytes (shown b m) f (subscribed s)) (shown b m)) [
        | true ↦ λ u. elim (same_bytes b c) as (λ t. same_bytes b c ≡ t → shown b m ≡ cond t (write by_bytes (shown b m) f (subscribed s)) (shown b m)) [
          | true ↦ λ t.
              let same : b ≡ c = bytes-is b c t in
              let there : fin.get (shown b m) f ≡ subscribed s = ap (λ k. fin.get (shown k m) f) same ∙ option-is same_subscriber subscriber-is (fin.get (shown c m) f) (subscribed s) u in
              sym (write_same nat_list_cmp_total (slice_cmp-IsAntisymmetric nat_cmp-IsAntisymmetric) (shown b m) f (subscribed s) there)
          | false ↦ λ t. refl
        ] refl
        | false ↦ λ u. elim (same_bytes b c) as (λ t. same_bytes b c ≡ t →
            shown b (write by_bytes m (subscription_key c f) (option_map subscriber_bytes (subscribed s))) ≡ cond t (write by_bytes (shown b m) f (subscribed s)) (shown b m)) [
              | true ↦ λ t. shown_write by_bytes nat_list_cmp_total (slice_cmp-IsAntisymmetric nat_cmp-IsAntisymmetric) (readk b) subscriber_from subscriber_bytes m f (subscription_key c f) (subscribed s)
                  (read_here b true t) (again (subscribed s) kept_hash) (alone b c f t (fin.entries m) bytes)
              | false ↦ λ t. shown_same by_bytes nat_list_cmp_total (slice_cmp-IsAntisymmetric nat_cmp-IsAntisymmetric) (readk b) subscriber_from subscriber_bytes m (subscription_key c f) (option_map subscriber_bytes (subscribed s)) (read_here b false t)
            ] refl
      ] refl

module _ (rules : Rules) (p : Plan) (t : TaskId) (stores : ByteStores) (q : PartId) (r : Rec) (topic : Topic) (message : Message) (taken : IsTakenBy p t q r topic message)
    (n : ℕ) (kind : Kind) (node : slice_get p.kinds n ≡ Some kind) (owned : is_own_number p t.sub (number_of p (HashChangelog n)) ≡ true)
    (bytes : AreBytes (fin.entries (stores (number_of p (HashChangelog n))))) (fits : FitsAsked message) where
  abbrev number : ℕ
  number = number_of p (HashChangelog n)

  abbrev before : Store
  before = st rules p t stores q r topic message taken

  hashes_are : (b : ByteStores) (k : Key) → hashes_from p t.sub b n k ≡ shown k (b number)
  hashes_are b k = ap (λ c. map_from by_bytes (readk k) subscriber_from (cond c (fin.entries (b number)) [])) (at_own rules p t stores q r topic message taken (HashChangelog n) owned refl).1

  -- by what came to the subscription topic
  by_message : (x : Option Message) → ((m : Message) → x ≡ Some m → FitsAsked m) → (k : Key) →
      shown k (keep_all (stores number) (map rec_of (map (λ y. record { message = y; time = r.ts }) (hash_changes before n x)))) ≡ subscribe_at x (before.hashes n) k
  by_message None h k = sym (hashes_are stores k)
  by_message (Some (Given y v)) h k = sym (hashes_are stores k)
  by_message (Some (Keyed g row)) h k = sym (hashes_are stores k)
  by_message (Some (Moved g d)) h k = sym (hashes_are stores k)
  by_message (Some (Asked c f s)) h k =
      ap (λ (m : FinMap by_bytes Subscriber). shown k (keep_all (stores number) (map rec_of (map (λ y. record { message = y; time = r.ts }) (cond (same_option same_subscriber (fin.get m f) (subscribed s)) [] (KeptHash c f (subscribed s) ∷ [])))))) (hashes_are stores c)
      ∙ one_hash (stores number) bytes r.ts c f s (h (Asked c f s) refl) k
      ∙ ap (λ (m : FinMap by_bytes Subscriber). cond (same_bytes k c) (write by_bytes m f (subscribed s)) m) (sym (hashes_are stores k))
  by_message (Some (Answered y x)) h k = sym (hashes_are stores k)
  by_message (Some (Kept y w)) h k = sym (hashes_are stores k)
  by_message (Some (KeptCount w x)) h k = sym (hashes_are stores k)
  by_message (Some (KeptTime x)) h k = sym (hashes_are stores k)
  by_message (Some (KeptHash b y x)) h k = sym (hashes_are stores k)

  arrived_fits : (b : Bool) (m : Message) → cond b (Some message) None ≡ Some m → FitsAsked m
  arrived_fits true m e = let same : message ≡ m = cc in subst FitsAsked same fits
  arrived_fits false m e = absurd (cc)

  pub hashes_agree : (k : Key) → hashes_from p t.sub (byte_step rules p t stores q r).store n k ≡ (decoded rules p t stores q r topic message taken).store.hashes n k
  hashes_agree k =
      let arrival = a rules p t stores q r topic message taken in
      let own = hash_logged rules arrival (items rules p t stores q r topic message taken) before (olds rules p t stores q r topic message taken) (news rules p t stores q r topic message taken) n t.part p.kinds kind node in
      hashes_are (byte_step rules p t stores q r).store k
      ∙ ap (shown k) (store_is rules p t stores q r topic message taken (HashChangelog n) owned refl ∙ ap (λ xs. keep_all (stores number) (map rec_of xs)) own)
      ∙ by_message (arrived arrival (Subscriptions n)) (λ m e. arrived_fits (same_topic topic (Subscriptions n)) m e) k
