-- What the parts of a join send, as one left key sees it.
use Rattle.std.proofs.Common.{◌≡◌, ℕ, Bool, true, false, cond, ◌&&◌, List, [], ◌∷◌, ◌++◌, T, Option, Some, None, refl, sym, ap, ap₂, ◌∙◌, nat_eq, append-nil}
use Rattle.std.proofs.lemmas.Bool.Decides.{Decides-eqb}
use Rattle.std.specs.Cmp.{eq_by_cmp_equiv}
use Rattle.std.specs.Cmp.Lexicographic.{nat_list_cmp_total}
use Rattle.std.specs.FinMap.Entries.{find, is_sorted}
use Rattle.ks_expr.specs.Eval.{Row, same_bytes}
use Rattle.ks_plan.specs.declared.node.Topic.TheVariants.{Subscriptions, Responses}
use Rattle.ks_plan.specs.Layout.{parts_of, before_of, spread_of, spread_of_topic}
use Rattle.ks_def_runs.specs.FinMap as fin
use Rattle.ks_def_runs.specs.FinMap.{FinMap}
use Rattle.ks_def_runs.specs.Bytes.{by_bytes}
use Rattle.ks_def_runs.proofs.Tables.{find_below, head_of, tail_of}
use Rattle.ks_query.specs.Streams.{Key}
use Rattle.ks_def_tasks.specs.Messages.{Place, same_place, same_option, Instruction, Message, Subscription as Asking}
use Rattle.ks_def_tasks.specs.Messages.Instruction.{Delete, DeleteAndAnswer, Answer as AnswerAlways, AnswerIfThere}
use Rattle.ks_def_tasks.specs.Messages.Message.{Given, Keyed, Moved, Asked, Answered, Kept, KeptCount, KeptTime, KeptHash}
use Rattle.ks_def_tasks.specs.Foreign.{key_of_row, subscribe, subscriptions, answer_all, answer_by, Sending}
use Rattle.ks_def_tasks.specs.Step.{send_subscriptions, send_responses, answer_of}
use Rattle.ks_law_quiescence.specs.ForeignJoin.{Subscription, Response, same_key, sent_to_key, answer, answer_to}
use Rattle.ks_law_quiescence.specs.ForeignJoin.Subscription.{Forget, ForgetAndAnswer, Ask}
use Rattle.ks_law_topology.proofs.Mixed.{picked}
use Rattle.ks_law_quiescence.proofs.OneKey.{same_key-is, keys_decided}
use Rattle.ks_law_fk_quiescence.specs.KeyJoins.{asking, asks, answers, asked_by, answered_to, asking_place, answers_place, JoinAt, protocol_of, left_part, named_at}
use Rattle.ks_law_fk_quiescence.specs.Joins.{IsAsking}
use Rattle.ks_expr.specs.Keys.{fk_of}
use Rattle.ks_wire.specs.declared.values.Subscriber.{Subscriber}
use Rattle.std.specs.Prelude.{option_map}
use Rattle.ks_plan.specs.Drafts.{Name}
use Rattle.ks_def_tasks.specs.Tasks.{to_part}
use Rattle.ks_def_tasks.specs.Step.To.{Named}
use Rattle.ks_law_topology.proofs.Each.{Each, each_parts}

pub same_turned : (a b : Key) → same_bytes a b ≡ same_bytes b a
same_turned a b = (eq_by_cmp_equiv nat_list_cmp_total).symm a b

pub same_itself : (a : Key) → same_bytes a a ≡ true
same_itself a = (keys_decided a a).1 refl

pub asked-append : (b k : Key) (xs ys : List Message) → asked_by b k (xs ++ ys) ≡ asked_by b k xs ++ asked_by b k ys
asked-append b k [] ys = refl
asked-append b k (Asked c q s ∷ xs) ys = elim (same_bytes c b && same_bytes k q) as (λ t. cond t (asks s ∷ asked_by b k (xs ++ ys)) (asked_by b k (xs ++ ys)) ≡ cond t (asks s ∷ asked_by b k xs) (asked_by b k xs) ++ asked_by b k ys) [
  | true ↦ ap (λ l. asks s ∷ l) (asked-append b k xs ys)
  | false ↦ asked-append b k xs ys
]
asked-append b k (Given g v ∷ xs) ys = asked-append b k xs ys
asked-append b k (Keyed g v ∷ xs) ys = asked-append b k xs ys
asked-append b k (Moved g v ∷ xs) ys = asked-append b k xs ys
asked-append b k (Answered g v ∷ xs) ys = asked-append b k xs ys
asked-append b k (Kept g v ∷ xs) ys = asked-append b k xs ys
asked-append b k (KeptCount g v ∷ xs) ys = asked-append b k xs ys
asked-append b k (KeptTime v ∷ xs) ys = asked-append b k xs ys
asked-append b k (KeptHash c g v ∷ xs) ys = asked-append b k xs ys

pub answered-append : (k : Key) (xs ys : List Message) → answered_to k (xs ++ ys) ≡ answered_to k xs ++ answered_to k ys
answered-append k [] ys = refl
answered-append k (Answered q r ∷ xs) ys = elim (same_bytes k q) as (λ t. cond t (answers r ∷ answered_to k (xs ++ ys)) (answered_to k (xs ++ ys)) ≡ cond t (answers r ∷ answered_to k xs) (answered_to k xs) ++ answered_to k ys) [
  | true ↦ ap (λ l. answers r ∷ l) (answered-append k xs ys)
  | false ↦ answered-append k xs ys
]
answered-append k (Given g v ∷ xs) ys = answered-append k xs ys
answered-append k (Keyed g v ∷ xs) ys = answered-append k xs ys
answered-append k (Moved g v ∷ xs) ys = answered-append k xs ys
answered-append k (Asked c g v ∷ xs) ys = answered-append k xs ys
answered-append k (Kept g v ∷ xs) ys = answered-append k xs ys
answered-append k (KeptCount g v ∷ xs) ys = answered-append k xs ys
answered-append k (KeptTime v ∷ xs) ys = answered-append k xs ys
answered-append k (KeptHash c g v ∷ xs) ys = answered-append k xs ys

-- ---- subscriptions, of those that the foreign key b gets
abbrev pub for_key : Key → Bool → List (Key × Asking) → List Subscription
for_key b t [] = []
for_key b t (s ∷ ss) = cond (same_bytes s.0 b && t) (asks s.1 ∷ for_key b t ss) (for_key b t ss)

for_key-append : (b : Key) (t : Bool) (xs ys : List (Key × Asking)) → for_key b t (xs ++ ys) ≡ for_key b t xs ++ for_key b t ys
for_key-append b t [] ys = refl
for_key-append b t (s ∷ xs) ys = elim (same_bytes s.0 b && t) as (λ c. cond c (asks s.1 ∷ for_key b t (xs ++ ys)) (for_key b t (xs ++ ys)) ≡ cond c (asks s.1 ∷ for_key b t xs) (for_key b t xs) ++ for_key b t ys) [
  | true ↦ ap (λ l. asks s.1 ∷ l) (for_key-append b t xs ys)
  | false ↦ for_key-append b t xs ys
]

pub for_other : (b : Key) (ss : List (Key × Asking)) → for_key b false ss ≡ []
for_other b [] = refl
for_other b (s ∷ ss) = elim (same_bytes s.0 b) as (λ c. cond (c && false) (asks s.1 ∷ for_key b false ss) (for_key b false ss) ≡ []) [ true ↦ for_other b ss | false ↦ for_other b ss ]

one_key : (b : Key) (k : Option Key) (s : Asking) → for_key b true (subscribe k s) ≡ cond (same_key same_bytes k (Some b)) (asks s ∷ []) []
one_key b None s = refl
one_key b (Some c) s = elim (same_bytes c b) as (λ t. cond (t && true) (asks s ∷ []) [] ≡ cond t (asks s ∷ []) []) [ true ↦ refl | false ↦ refl ]

both_keys : (old new : Option Key) (b : Key) (h : ℕ) → cond (same_option same_bytes old new) [] (cond (same_key same_bytes old (Some b)) (Forget ∷ []) []) ++ cond (same_key same_bytes new (Some b)) (Ask h ∷ []) []
    ≡ cond (same_key same_bytes new (Some b)) (Ask h ∷ []) (cond (same_key same_bytes old (Some b)) (Forget ∷ []) [])
both_keys old new b h = by_tests (same_option same_bytes old new) (same_key same_bytes new (Some b)) (same_key same_bytes old (Some b)) refl refl refl
  where
    option_key : (x y : Option Key) → same_option same_bytes x y ≡ true → x ≡ y
    option_key None None e = refl
    option_key (Some x) (Some y) e = ap (λ k. Some k) ((keys_decided x y).0 e)
    option_key None (Some y) e = cc
    option_key (Some x) None e = cc

    by_tests : (d u t : Bool) → same_option same_bytes old new ≡ d → same_key same_bytes new (Some b) ≡ u → same_key same_bytes old (Some b) ≡ t →
        cond d [] (cond t (Forget ∷ []) []) ++ cond u (Ask h ∷ []) [] ≡ cond u (Ask h ∷ []) (cond t (Forget ∷ []) [])
    by_tests true true t x y z = refl
    by_tests true false true x y z = let e : false ≡ true = sym y ∙ ap (λ k. same_key same_bytes k (Some b)) (sym (option_key old new x)) ∙ z in cc
    by_tests true false false x y z = refl
    by_tests false true true x y z = let e : false ≡ true = sym x ∙ ap₂ (same_option same_bytes) (same_key-is same_bytes keys_decided old (Some b) z) (same_key-is same_bytes keys_decided new (Some b) y) ∙ same_itself b in cc
    by_tests false true false x y z = refl
    by_tests false false t x y z = append-nil _

module _ (at : JoinAt) (spread : spread_of_topic at.plan (Subscriptions at.node) ≡ spread_of at.plan at.right) where
  pub asked_sent : (b k c : Key) (ss : List (Key × Asking)) → asked_by b k (picked at.rules at.plan (asking_place at b) (send_subscriptions at.node c ss)) ≡ for_key b (same_bytes k c) ss
  asked_sent b k c [] = refl
  asked_sent b k c (s ∷ ss) =
      let more = picked at.rules at.plan (asking_place at b) (send_subscriptions at.node c ss) in
      let to : Place = record { topic = Subscriptions at.node; part = at.rules.part s.0 (spread_of_topic at.plan (Subscriptions at.node)) } in
      elim (same_bytes s.0 b) as (λ t. same_bytes s.0 b ≡ t → asked_by b k (cond (same_place (asking_place at b) to) (Asked s.0 c s.1 ∷ more) more) ≡ cond (t && same_bytes k c) (asks s.1 ∷ for_key b (same_bytes k c) ss) (for_key b (same_bytes k c) ss)) [
        | true ↦ λ e.
            let is : s.0 ≡ b = (keys_decided s.0 b).0 e in
            let here : nat_eq (at.rules.part b (spread_of at.plan at.right)) (at.rules.part s.0 (spread_of_topic at.plan (Subscriptions at.node))) ≡ true = (Decides-eqb _ _).1 (ap₂ at.rules.part (sym is) (sym spread)) in
            let place : same_place (asking_place at b) to ≡ true = ap₂ (λ x y. x && y) ((Decides-eqb at.node at.node).1 refl) here in
            ap (λ t. asked_by b k (cond t (Asked s.0 c s.1 ∷ more) more)) place
            ∙ ap (λ t. cond (t && same_bytes k c) (asks s.1 ∷ asked_by b k more) (asked_by b k more)) e
            ∙ ap (λ l. cond (same_bytes k c) (asks s.1 ∷ l) l) (asked_sent b k c ss)
        | false ↦ λ e. elim (same_place (asking_place at b) to) as (λ t. asked_by b k (cond t (Asked s.0 c s.1 ∷ more) more) ≡ for_key b (same_bytes k c) ss) [
          | true ↦ ap (λ t. cond (t && same_bytes k c) (asks s.1 ∷ asked_by b k more) (asked_by b k more)) e ∙ asked_sent b k c ss
          | false ↦ asked_sent b k c ss
        ]
      ] refl

  module _ (own : Key) (part : Option ℕ) where
    abbrev sent : Key → Option Key → Option Row → List Subscription
    sent b k None = cond (same_key same_bytes k (Some b)) (ForgetAndAnswer ∷ []) []
    sent b k (Some v) = cond (same_key same_bytes (fk_of at.fk own v) (Some b)) (Ask (at.rules.hash v) ∷ []) (cond (same_key same_bytes k (Some b)) (Forget ∷ []) [])

    pub for_own : (b : Key) (old new : Option Row) → for_key b true (subscriptions at.rules.hash at.fk own part old new) ≡ sent_to_key (protocol_of at own) old new b
    for_own b old new = by_new new ∙ by_old old new
      where
        by_new : (new : Option Row) → for_key b true (subscriptions at.rules.hash at.fk own part old new) ≡ sent b (key_of_row at.fk own old) new
        by_new None = one_key b (key_of_row at.fk own old) (record { hash = None; instruction = DeleteAndAnswer; part = part })
        by_new (Some v) =
            let d = same_option same_bytes (key_of_row at.fk own old) (fk_of at.fk own v) in
            let gone : Asking = record { hash = Some (at.rules.hash v); instruction = Delete; part = part } in
            let asks : Asking = record { hash = Some (at.rules.hash v); instruction = AnswerAlways; part = part } in
            let first = subscribe (key_of_row at.fk own old) gone in
            for_key-append b true (cond d [] first) (subscribe (fk_of at.fk own v) asks)
            ∙ ap₂ (λ xs ys. xs ++ ys)
            (elim d as (λ t. for_key b true (cond t [] first) ≡ cond t [] (cond (same_key same_bytes (key_of_row at.fk own old) (Some b)) (Forget ∷ []) [])) [ true ↦ refl | false ↦ one_key b (key_of_row at.fk own old) gone ])
            (one_key b (fk_of at.fk own v) asks)
            ∙ both_keys (key_of_row at.fk own old) (fk_of at.fk own v) b (at.rules.hash v)

        by_old : (old new : Option Row) → sent b (key_of_row at.fk own old) new ≡ sent_to_key (protocol_of at own) old new b
        by_old None None = refl
        by_old None (Some v) = refl
        by_old (Some u) None = refl
        by_old (Some u) (Some v) = refl

-- ---- responses, of those that go to the left key k
abbrev pub to_left : Key → List Sending → List (Response Row)
to_left k [] = []
to_left k (e ∷ es) = cond (same_bytes k e.0) (answers e.1 ∷ to_left k es) (to_left k es)

module _ (at : JoinAt) where
  -- a partition that is named is the left key's
  named_home : (k : Key) (part : Option ℕ) → part ≡ named_at at k → to_part at.rules at.plan (Responses at.node) k (Named part) ≡ left_part at k
  named_home k part e = by (before_of at.plan at.node) refl part e
    where
      by : (b : Option Name) → before_of at.plan at.node ≡ b → (part : Option ℕ) → part ≡ option_map (λ s. left_part at k) b → to_part at.rules at.plan (Responses at.node) k (Named part) ≡ left_part at k
      by None plain part is = ap (λ o. to_part at.rules at.plan (Responses at.node) k (Named o)) is ∙ ap (λ b. at.rules.part k (record { parts = parts_of at.plan at.node; before = b })) (sym plain)
      by (Some s) stated part is = ap (λ o. to_part at.rules at.plan (Responses at.node) k (Named o)) is

  abbrev pub NamesLeft : Sending → Type 0
  NamesLeft e = e.2 ≡ named_at at e.0

  pub answered_sent : (k : Key) (es : List Sending) → Each NamesLeft es → answered_to k (picked at.rules at.plan (answers_place at k) (send_responses at.node es)) ≡ to_left k es
  answered_sent k [] names = refl
  answered_sent k (e ∷ es) names =
      let both = each_parts NamesLeft e es names in
      let more = picked at.rules at.plan (answers_place at k) (send_responses at.node es) in
      let to : Place = record { topic = Responses at.node; part = to_part at.rules at.plan (Responses at.node) e.0 (Named e.2) } in
      elim (same_bytes k e.0) as (λ t. same_bytes k e.0 ≡ t → answered_to k (cond (same_place (answers_place at k) to) (Answered e.0 e.1 ∷ more) more) ≡ cond t (answers e.1 ∷ to_left k es) (to_left k es)) [
        | true ↦ λ t.
            let is : k ≡ e.0 = (keys_decided k e.0).0 t in
            let home : left_part at k ≡ to.part = ap (left_part at) is ∙ sym (named_home e.0 e.2 both.0) in
            let place : same_place (answers_place at k) to ≡ true = ap₂ (λ x y. x && y) ((Decides-eqb at.node at.node).1 refl) ((Decides-eqb (left_part at k) to.part).1 home) in
            ap (λ t. answered_to k (cond t (Answered e.0 e.1 ∷ more) more)) place
            ∙ ap (λ t. cond t (answers e.1 ∷ answered_to k more) (answered_to k more)) t
            ∙ ap (λ l. answers e.1 ∷ l) (answered_sent k es both.1)
        | false ↦ λ t. elim (same_place (answers_place at k) to) as (λ u. answered_to k (cond u (Answered e.0 e.1 ∷ more) more) ≡ to_left k es) [
          | true ↦ ap (λ u. cond u (answers e.1 ∷ answered_to k more) (answered_to k more)) t ∙ answered_sent k es both.1
          | false ↦ answered_sent k es both.1
        ]
      ] refl

  abbrev kept_hash : Option Subscriber → Option ℕ
  kept_hash o = option_map (λ (s : Subscriber). s.hash) o

  found_answers : (k : Key) (y : Option Row) (es : List (Key × Subscriber)) → T (is_sorted by_bytes es) → to_left k (answer_all y es) ≡ answer (kept_hash (find by_bytes k es)) y
  found_answers k y [] s = refl
  found_answers k y (e ∷ es) s =
      elim (same_bytes k e.0) as (λ t. same_bytes k e.0 ≡ t → cond t (record { hash = Some e.1.hash; row = y } ∷ to_left k (answer_all y es)) (to_left k (answer_all y es)) ≡ answer (kept_hash (cond t (Some e.1) (find by_bytes k es))) y) [
        | true ↦ λ t.
            let is : k ≡ e.0 = (keys_decided k e.0).0 t in
            let none : find by_bytes k es ≡ None = ap (λ q. find by_bytes q es) is ∙ find_below nat_list_cmp_total (λ x. 0) e.0 es (head_of _ _ s) in
            ap (λ l. record { hash = Some e.1.hash; row = y } ∷ l) (found_answers k y es (tail_of _ _ s) ∙ ap (λ w. answer (kept_hash w) y) none)
        | false ↦ λ t. found_answers k y es (tail_of _ _ s)
      ] refl

  pub all_answers : (k : Key) (y : Option Row) (m : FinMap by_bytes Subscriber) → to_left k (answer_all y (fin.entries m)) ≡ answer (option_map (λ (s : Subscriber). s.hash) (fin.get m k)) y
  all_answers k y m = found_answers k y (fin.entries m) (fin.entries_sorted m) ∙ ap (λ w. answer (kept_hash w) y) (sym (fin.get-entries m k))

  -- the answer to one subscription
  pub one_answers : (k c : Key) (part : Option ℕ) (i : Instruction) (h : Option ℕ) (y : Option Row) → IsAsking i h →
      to_left k (answer_of c part (answer_by i h y)) ≡ cond (same_bytes k c) (answer_to (asking i h) y) []
  one_answers k c part Delete h y e = elim (same_bytes k c) as (λ t. [] ≡ cond {A = List (Response Row)} t [] []) [ true ↦ refl | false ↦ refl ]
  one_answers k c part DeleteAndAnswer h y e = refl
  one_answers k c part AnswerAlways None y e = absurd e
  one_answers k c part AnswerAlways (Some h) y e = refl
  one_answers k c part AnswerIfThere h y e = absurd e
