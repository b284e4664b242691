-- The key of a step is a key: it was read.
use Rattle.std.proofs.Common.{◌≡◌, ℕ, List, Option, Some, None, refl, sym, ap, subst, ◌∙◌}
use Rattle.std.specs.Prelude.{option_map}
use Rattle.ks_record.specs.Texts.{key_from}
use Rattle.ks_row.specs.Reading.{◌>>=◌, row_from}
use Rattle.ks_record.specs.Records.{Record as Rec}
use Rattle.ks_wire.specs.Reading.{subscription_from, response_from, delta_from}
use Rattle.ks_expr.specs.Eval.{Row}
use Rattle.ks_plan.specs.Plan.{Plan, Kind}
use Rattle.ks_plan.specs.Plan.Kind.{StreamSource, TableSource, StreamFilter, TableFilter, StreamMap, TableMap, KeySelected, StreamAggregate, TableAggregate, Windowed, KeyJoin, ForeignKeyJoin}
use Rattle.ks_plan.specs.declared.node.Topic.{Topic}
use Rattle.ks_plan.specs.declared.node.Topic.TheVariants.{Input, Repartition, Subscriptions, Responses, Changelog, HashChangelog}
use Rattle.ks_plan.specs.Layout.{kind_at}
use Rattle.ks_query.specs.Streams.{Key}
use Rattle.ks_def_tasks.specs.Messages.{Message, subscription_of}
use Rattle.ks_def_tasks.specs.Messages.Message.{Given, Keyed, Moved, Asked, Answered}
use Rattle.ks_def_tasks.specs.Step.{step_key}
use Rattle.ks_def_tasks.specs.Bytes.{if_there, regrouped_in, message_in}
use Rattle.ks_def_tasks.proofs.Pairs.{key_from-is}

-- what is read as a key is read as it again
again : (s k : List ℕ) → key_from s ≡ Some k → key_from k ≡ Some k
again s k e = subst (λ b. key_from b ≡ Some k) (sym (key_from-is s k e)) e

there : (ko : Option (List ℕ)) (k : Key) → if_there key_from ko ≡ Some (Some k) → key_from k ≡ Some k
there None k e = absurd (cc)
there (Some b) k e = inner (key_from b) refl e
  where
    inner : (o : Option (List ℕ)) → key_from b ≡ o → option_map Some o ≡ Some (Some k) → key_from k ≡ Some k
    inner None f g = absurd (cc)
    inner (Some c) f g = let same : c ≡ k = cc in again b k (f ∙ ap Some same)

given_key : (ko : Option (List ℕ)) (ok : Option (Option Key)) (ov : Option (Option Row)) (m : Message) (c : Key) → if_there key_from ko ≡ ok →
    (ok >>= (λ key. ov >>= (λ value. Some (Given key value)))) ≡ Some m → step_key m ≡ Some c → key_from c ≡ Some c
given_key ko None ov m c e f g = absurd (cc)
given_key ko (Some k) None m c e f g = absurd (cc)
given_key ko (Some None) (Some v) m c e f g =
    let h : Some (step_key (Given None v)) ≡ Some (step_key m) = ap (option_map step_key) f in
    absurd (cc)
given_key ko (Some (Some k)) (Some v) m c e f g =
    let h : Some (step_key (Given (Some k) v)) ≡ Some (step_key m) = ap (option_map step_key) f in
    let same : k ≡ c = cc in
    there ko c (e ∙ ap (λ x. Some (Some x)) same)

-- of a key and a value: the message's key is the record's, or the message has none
module _ {B : Type 0} (value : List ℕ → Option B) (make : Key → B → Message) where
  both_key : (ko vo : Option (List ℕ)) (m : Message) (c : Key) → ((k : Key) (b : B) → step_key (make k b) ≡ Some k) →
      (ko >>= (λ k. vo >>= (λ v. key_from k >>= (λ a. value v >>= (λ b. Some (make a b)))))) ≡ Some m → step_key m ≡ Some c → key_from c ≡ Some c
  both_key None vo m c keyed f g = absurd (cc)
  both_key (Some k) None m c keyed f g = absurd (cc)
  both_key (Some k) (Some v) m c keyed f g = inner (key_from k) (value v) refl f
    where
      inner : (o : Option (List ℕ)) (w : Option B) → key_from k ≡ o → (o >>= (λ a. w >>= (λ b. Some (make a b)))) ≡ Some m → key_from c ≡ Some c
      inner None w e h = absurd (cc)
      inner (Some a) None e h = absurd (cc)
      inner (Some a) (Some b) e h =
          let i : Some (step_key (make a b)) ≡ Some (step_key m) = ap (option_map step_key) h in
          let j = keyed a b in
          let same : a ≡ c = cc in
          again k c (e ∙ ap Some same)

  no_key : (ko vo : Option (List ℕ)) (m : Message) (c : Key) → ((k : Key) (b : B) → step_key (make k b) ≡ None) →
      (ko >>= (λ k. vo >>= (λ v. key_from k >>= (λ a. value v >>= (λ b. Some (make a b)))))) ≡ Some m → step_key m ≡ Some c → key_from c ≡ Some c
  no_key None vo m c none f g = absurd (cc)
  no_key (Some k) None m c none f g = absurd (cc)
  no_key (Some k) (Some v) m c none f g = inner (key_from k) (value v) f
    where
      inner : (o : Option (List ℕ)) (w : Option B) → (o >>= (λ a. w >>= (λ b. Some (make a b)))) ≡ Some m → key_from c ≡ Some c
      inner None w h = absurd (cc)
      inner (Some a) None h = absurd (cc)
      inner (Some a) (Some b) h =
          let i : Some (step_key (make a b)) ≡ Some (step_key m) = ap (option_map step_key) h in
          let j = none a b in
          absurd (cc)

regrouped_key : (k : Kind) (r : Rec) (m : Message) (c : Key) → regrouped_in k r ≡ Some m → step_key m ≡ Some c → key_from c ≡ Some c
regrouped_key (StreamSource t) r m c e f = absurd (cc)
regrouped_key (TableSource t) r m c e f = absurd (cc)
regrouped_key (StreamFilter x y) r m c e f = absurd (cc)
regrouped_key (TableFilter x y) r m c e f = absurd (cc)
regrouped_key (StreamMap x s) r m c e f = absurd (cc)
regrouped_key (TableMap x s) r m c e f = absurd (cc)
regrouped_key (KeySelected x y) r m c e f = absurd (cc)
regrouped_key (StreamAggregate x by field through) r m c e f = both_key row_from Keyed r.key r.value m c (λ k b. refl) e f
regrouped_key (TableAggregate x by field) r m c e f = both_key delta_from Moved r.key r.value m c (λ k b. refl) e f
regrouped_key (Windowed x by w through) r m c e f = both_key row_from Keyed r.key r.value m c (λ k b. refl) e f
regrouped_key (KeyJoin l x kind s) r m c e f = absurd (cc)
regrouped_key (ForeignKeyJoin l x fk kind s) r m c e f = absurd (cc)

pub key_read : (p : Plan) (topic : Topic) (r : Rec) (m : Message) (c : Key) → message_in p topic r ≡ Some m → step_key m ≡ Some c → key_from c ≡ Some c
key_read p (Input t) r m c e f = given_key r.key (if_there key_from r.key) (if_there row_from r.value) m c refl e f
key_read p (Repartition n) r m c e f = regrouped_key (kind_at p n) r m c e f
key_read p (Subscriptions n) r m c e f = no_key subscription_from (λ b v. Asked b v.left (subscription_of v)) r.key r.value m c (λ k b. refl) e f
key_read p (Responses n) r m c e f = both_key response_from Answered r.key r.value m c (λ k b. refl) e f
key_read p (Changelog n) r m c e f = absurd (cc)
key_read p (HashChangelog n) r m c e f = absurd (cc)
