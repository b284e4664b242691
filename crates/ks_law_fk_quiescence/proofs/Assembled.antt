-- States of the protocol of one left key, put together field by field.
use Rattle.std.proofs.Common.{◌≡◌, ℕ, Bool, true, false, cond, ◌&&◌, List, [], ◌∷◌, ◌++◌, Option, Some, None, fold, refl, sym, ap, ◌∙◌, nat_eq, append-nil}
use Rattle.std.specs.Prelude.{option_map, is_none}
use Rattle.std.proofs.lemmas.Bool.Decides.{Decides-eqb}
use Rattle.ks_record.specs.Parts.{same_task}
use Rattle.ks_expr.specs.declared.terms.JoinKind.{JoinKind}
use Rattle.ks_expr.specs.declared.terms.JoinKind.TheVariants.{Inner, Left as LeftJoin, Outer}
use Rattle.ks_expr.specs.Terms.{Set}
use Rattle.ks_expr.specs.Eval.{Row, same_bytes, joined}
use Rattle.ks_wire.specs.declared.values.Response.{Response as Answer}
use Rattle.ks_plan.specs.Layout.{sub_of}
use Rattle.ks_query.specs.Streams.{Key}
use Rattle.ks_def_tasks.specs.Messages.{Stored, shown, Instruction, same_option}
use Rattle.ks_def_tasks.specs.Messages.Instruction.{Delete, DeleteAndAnswer, Answer as AnswerAlways, AnswerIfThere}
use Rattle.ks_def_tasks.specs.Foreign.{respond, hash_by}
use Rattle.ks_def_tasks.specs.Step.{of_row, direct as direct_value, set_result}
use Rattle.ks_law_quiescence.specs.ForeignJoin.{Subscription, Response, Event, with_at, same_key, apply, sent_to_key, direct, now_had, answer, answer_to, accept, subscription_comes, response_comes, happens}
use Rattle.ks_law_quiescence.specs.ForeignJoin.Event.{LeftChanges, RightChanges, SubscriptionComes, ResponseComes}
use Rattle.ks_law_quiescence.proofs.Derived.{shown_row}
use Rattle.ks_law_fk_quiescence.specs.KeyJoins.{JoinAt, protocol_of, asking, answers, key_task, right_task, key_part, KeyJoin}
use Rattle.ks_law_fk_quiescence.specs.Joins.{IsAsking, IsAnswer}
use Rattle.ks_expr.specs.Keys.{fk_of}

pub appended_at : {A : Type 0} (f : ℕ → List A) (i : ℕ) (xs : List A) (j : ℕ) → f j ++ cond (nat_eq j i) xs [] ≡ with_at nat_eq f i (f i ++ xs) j
appended_at f i xs j = elim (nat_eq j i) as (λ b. nat_eq j i ≡ b → f j ++ cond b xs [] ≡ cond b (f i ++ xs) (f j)) [
  | true ↦ λ b. ap (λ n. f n ++ xs) ((Decides-eqb j i).0 b)
  | false ↦ λ b. append-nil (f j)
] refl

pub same_right : (at : JoinAt) (j : ℕ) (c : Key) → same_task (right_task at j) (key_task at c) ≡ nat_eq j (key_part at c)
same_right at j c = ap (λ b. b && nat_eq j (key_part at c)) ((Decides-eqb (sub_of at.plan at.right) (sub_of at.plan at.right)).1 refl)

nothing_joined : (kind : JoinKind) (set : Set) → joined kind set None None ≡ None
nothing_joined Inner set = refl
nothing_joined LeftJoin set = refl
nothing_joined Outer set = refl

module _ (at : JoinAt) (own : Key) where
  abbrev pub happen : KeyJoin → Event Key Row Row → KeyJoin
  happen j e = happens (protocol_of at own) j e

  -- a step that changes rows: the left one, then the right one
  abbrev pub both_events : Bool → Bool → Option Row → Key → Option Row → List (Event Key Row Row)
  both_events left right w c y = cond left (LeftChanges w ∷ []) [] ++ cond right (RightChanges c y ∷ []) []

  abbrev pub left_sent : Option Row → Option Row → Key → List Subscription
  left_sent old w b = sent_to_key (protocol_of at own) old w b

  abbrev pub left_result : Option Row → Option Row → Option Row → Option Row
  left_result old w result = direct (protocol_of at own) old w result

  pub rows_change : (left right : Bool) (j k : KeyJoin) (w : Option Row) (c : Key) (y : Option Row) →
      k.row ≡ cond left w j.row → k.result ≡ cond left (left_result j.row w j.result) j.result → k.had ≡ cond left (now_had w j.had) j.had →
      ((b : Key) → k.right b ≡ cond (right && same_bytes b c) y (j.right b)) → ((b : Key) → k.stored b ≡ j.stored b) →
      ((b : Key) → k.subscriptions b ≡ j.subscriptions b ++ cond left (left_sent j.row w b) []) →
      ((i : ℕ) → k.responses i ≡ j.responses i ++ cond (right && nat_eq i (key_part at c)) (answer (j.stored c) y) []) →
      k ≡ fold happen j (both_events left right w c y)
  rows_change true true j k w c y row result had rights stored asked answered = λ i. record {
    row = row i;
    result = result i;
    had = had i;
    right = λ b. rights b i;
    stored = λ b. stored b i;
    subscriptions = λ b. asked b i;
    responses = λ n. (answered n ∙ appended_at j.responses (key_part at c) (answer (j.stored c) y) n) i;
  }
  rows_change true false j k w c y row result had rights stored asked answered = λ i. record {
    row = row i;
    result = result i;
    had = had i;
    right = λ b. rights b i;
    stored = λ b. stored b i;
    subscriptions = λ b. asked b i;
    responses = λ n. (answered n ∙ append-nil (j.responses n)) i;
  }
  rows_change false true j k w c y row result had rights stored asked answered = λ i. record {
    row = row i;
    result = result i;
    had = had i;
    right = λ b. rights b i;
    stored = λ b. stored b i;
    subscriptions = λ b. (asked b ∙ append-nil (j.subscriptions b)) i;
    responses = λ n. (answered n ∙ appended_at j.responses (key_part at c) (answer (j.stored c) y) n) i;
  }
  rows_change false false j k w c y row result had rights stored asked answered = λ i. record {
    row = row i;
    result = result i;
    had = had i;
    right = λ b. rights b i;
    stored = λ b. stored b i;
    subscriptions = λ b. (asked b ∙ append-nil (j.subscriptions b)) i;
    responses = λ n. (answered n ∙ append-nil (j.responses n)) i;
  }

  -- a step that changes nothing of the key's
  pub nothing_happens : (j k : KeyJoin) → k.row ≡ j.row → k.result ≡ j.result → k.had ≡ j.had → ((b : Key) → k.right b ≡ j.right b) → ((b : Key) → k.stored b ≡ j.stored b) →
      ((b : Key) → k.subscriptions b ≡ j.subscriptions b) → ((i : ℕ) → k.responses i ≡ j.responses i) → k ≡ j
  nothing_happens j k row result had rights stored asked answered = λ i. record {
    row = row i;
    result = result i;
    had = had i;
    right = λ b. rights b i;
    stored = λ b. stored b i;
    subscriptions = λ b. asked b i;
    responses = λ n. answered n i;
  }

  -- a response comes
  pub response_happens : (j k : KeyJoin) (n : ℕ) (y : Response Row) (rest : List (Response Row)) → j.responses n ≡ y ∷ rest →
      k.row ≡ j.row → k.result ≡ accept (protocol_of at own) j.row j.result y → k.had ≡ j.had →
      ((b : Key) → k.right b ≡ j.right b) → ((b : Key) → k.stored b ≡ j.stored b) → ((b : Key) → k.subscriptions b ≡ j.subscriptions b) →
      ((i : ℕ) → k.responses i ≡ with_at nat_eq j.responses n rest i) → k ≡ happen j (ResponseComes n)
  response_happens j k n y rest e row result had rights stored asked answered =
      let first : k ≡ response_comes (protocol_of at own) j n (y ∷ rest) = λ i. record {
        row = row i;
        result = result i;
        had = had i;
        right = λ b. rights b i;
        stored = λ b. stored b i;
        subscriptions = λ b. asked b i;
        responses = λ n. answered n i;
      } in
      first ∙ ap (response_comes (protocol_of at own) j n) (sym e)

  -- a subscription comes
  pub subscription_happens : (j k : KeyJoin) (c : Key) (y : Subscription) (rest : List Subscription) → j.subscriptions c ≡ y ∷ rest →
      k.row ≡ j.row → k.result ≡ j.result → k.had ≡ j.had → ((b : Key) → k.right b ≡ j.right b) →
      ((b : Key) → k.stored b ≡ with_at same_bytes j.stored c (apply (j.stored c) y) b) → ((b : Key) → k.subscriptions b ≡ with_at same_bytes j.subscriptions c rest b) →
      ((i : ℕ) → k.responses i ≡ j.responses i ++ cond (nat_eq i (key_part at c)) (answer_to y (j.right c)) []) →
      k ≡ happen j (SubscriptionComes c)
  subscription_happens j k c y rest e row result had rights stored asked answered =
      let sent = answer_to y (j.right c) in
      let first : k ≡ subscription_comes (protocol_of at own) j c (y ∷ rest) = λ i. record {
        row = row i;
        result = result i;
        had = had i;
        right = λ b. rights b i;
        stored = λ b. stored b i;
        subscriptions = λ b. asked b i;
        responses = λ n. (answered n ∙ appended_at j.responses (key_part at c) sent n) i;
      } in
      first ∙ ap (subscription_comes (protocol_of at own) j c) (sym e)

  -- ---- results
  at_once : (k : Option Key) (w : Option Row) (result : Option Stored) → option_map shown (cond (is_none k) (of_row w) result) ≡ cond (same_key same_bytes k None) w (option_map shown result)
  at_once None w result = shown_row w
  at_once (Some b) w result = refl

  pub direct_shown : (old new : Option Row) (result : Option Stored) → option_map shown (direct_value at.fk (Some own) at.kind at.set old new result) ≡ left_result old new (option_map shown result)
  direct_shown None None result = refl
  direct_shown (Some u) None result = at_once (fk_of at.fk own u) None result
  direct_shown None (Some v) result = at_once (fk_of at.fk own v) (joined at.kind at.set (Some v) None) result
  direct_shown (Some u) (Some v) result = at_once (fk_of at.fk own v) (joined at.kind at.set (Some v) None) result

  pub respond_shown : (left : Option Row) (y : Answer) (result : Option Stored) → IsAnswer y.hash y.right →
      option_map shown (set_result (respond at.rules.hash at.kind at.set left y) result) ≡ accept (protocol_of at own) left (option_map shown result) (answers y)
  respond_shown left y result is = by_hash left y.hash y.right is
    where
      by_hash : (left : Option Row) (h : Option ℕ) (right : Option Row) → IsAnswer h right →
          option_map shown (set_result (cond (same_option nat_eq (option_map at.rules.hash left) h) (Some (joined at.kind at.set left right)) None) result)
          ≡ accept (protocol_of at own) left (option_map shown result) (record { hash = h; row = right })
      by_hash None None None is = shown_row (joined at.kind at.set None None) ∙ nothing_joined at.kind at.set
      by_hash None None (Some y) is = absurd is
      by_hash None (Some h) right is = refl
      by_hash (Some v) None right is = refl
      by_hash (Some v) (Some h) right is = elim (nat_eq (at.rules.hash v) h) as (λ b. option_map shown (set_result (cond b (Some (joined at.kind at.set (Some v) right)) None) result) ≡ cond b (joined at.kind at.set (Some v) right) (option_map shown result)) [
        | true ↦ shown_row (joined at.kind at.set (Some v) right)
        | false ↦ refl
      ]

  pub applied_is : (stored : Option ℕ) (i : Instruction) (h : Option ℕ) → IsAsking i h → apply stored (asking i h) ≡ hash_by i h
  applied_is stored Delete h e = refl
  applied_is stored DeleteAndAnswer h e = refl
  applied_is stored AnswerAlways None e = absurd e
  applied_is stored AnswerAlways (Some h) e = refl
  applied_is stored AnswerIfThere h e = absurd e
