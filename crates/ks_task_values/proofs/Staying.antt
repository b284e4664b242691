-- Values that stay in a step.
use Rattle.std.proofs.Common.{◌≡◌, ℕ, Bool, true, false, cond, not, ◌||◌, Option, Some, None, is_some, List, refl, sym, ap, ◌∙◌, nat_eq, eqb-true}
use Rattle.std.proofs.Math.Path.{fun_ext}
use Rattle.ks_expr.specs.Terms.{Set}
use Rattle.ks_expr.specs.Eval.{Row}
use Rattle.ks_expr.specs.declared.terms.JoinKind.{JoinKind}
use Rattle.ks_expr.specs.declared.terms.Fk.{Fk}
use Rattle.ks_plan.specs.Plan.{Kind}
use Rattle.ks_plan.specs.Plan.Kind.{StreamSource, TableSource, StreamFilter, TableFilter, StreamMap, TableMap, KeySelected, StreamAggregate, TableAggregate, Windowed, KeyJoin, ForeignKeyJoin}
use Rattle.ks_plan.specs.Layout.{same_topic}
use Rattle.ks_plan.specs.declared.node.Topic.TheVariants.{Input, Repartition, Responses}
use Rattle.ks_query.specs.Query.{with_number}
use Rattle.ks_query.specs.Streams.{Key, StreamItem}
use Rattle.ks_def_tasks.specs.Messages.{Stored, Message, Rules}
use Rattle.ks_def_tasks.specs.Foreign.{is_direct, direct_row}
use Rattle.ks_def_tasks.specs.Step.{Arrival, Values, arrived, changed, row_in, step_key, of_row, taken_row, applied, direct, responded, value_at}
use Rattle.ks_task_values.specs.declared.live.LiveValue.{LiveValue}
use Rattle.ks_task_values.specs.Values.{live_at, new_or, live_olds, live_news, is_awaited, stays_at, is_still}

-- of a test that isn't so
other : {A : Type 0} (b : Bool) (x y : A) → not b ≡ true → cond b x y ≡ y
other true x y e = absurd cc
other false x y e = refl

awaited_stays : (fk : Fk) (key : Option Key) (kind : JoinKind) (set : Set) (old new : Option Row) (result : Option Stored) → is_awaited fk key old new ≡ true → direct fk key kind set old new result ≡ result
awaited_stays fk None kind set old new result e = refl
awaited_stays fk (Some k) kind set old new result e = other (is_direct fk k old new) (of_row (direct_row kind set new)) result e

joined_stays : (c : Bool) (rules : Rules) (a : Arrival) (olds news : Values) (n l : ℕ) (fk : Fk) (kind : JoinKind) (set : Set) →
    cond c (is_awaited fk (step_key a.item.message) (row_in olds l) (row_in news l)) (not (same_topic a.topic (Responses n))) ≡ true →
    cond c (direct fk (step_key a.item.message) kind set (row_in olds l) (row_in news l) (olds n)) (responded rules kind set (row_in news l) (arrived a (Responses n)) (olds n)) ≡ olds n
joined_stays true rules a olds news n l fk kind set e = awaited_stays fk (step_key a.item.message) kind set (row_in olds l) (row_in news l) (olds n) e
joined_stays false rules a olds news n l fk kind set e =
    ap (λ (m : Option Message). responded rules kind set (row_in news l) m (olds n)) (other (same_topic a.topic (Responses n)) (Some a.item.message) None e)

pub value_stays : (rules : Rules) (a : Arrival) (items : ℕ → Option StreamItem) (olds news : Values) (n : ℕ) (kind : Kind) → stays_at a olds news n kind ≡ true → value_at rules a items olds news n kind ≡ olds n
value_stays rules a items olds news n (TableSource t) e = ap (taken_row (olds n)) (other (same_topic a.topic (Input t)) (Some a.item.message) None e)
value_stays rules a items olds news n (TableFilter f test) e = other (changed olds news f) _ (olds n) e
value_stays rules a items olds news n (TableMap f set) e = other (changed olds news f) _ (olds n) e
value_stays rules a items olds news n (TableAggregate f by field) e = ap (applied field (olds n)) (other (same_topic a.topic (Repartition n)) (Some a.item.message) None e)
value_stays rules a items olds news n (KeyJoin l r kind set) e = other (changed olds news l || changed olds news r) _ (olds n) e
value_stays rules a items olds news n (ForeignKeyJoin l r fk kind set) e = joined_stays (changed olds news l) rules a olds news n l fk kind set e
value_stays rules a items olds news n (StreamSource t) e = absurd cc
value_stays rules a items olds news n (StreamFilter f test) e = absurd cc
value_stays rules a items olds news n (StreamMap f set) e = absurd cc
value_stays rules a items olds news n (KeySelected f field) e = absurd cc
value_stays rules a items olds news n (StreamAggregate f by field through) e = absurd cc
value_stays rules a items olds news n (Windowed f by window through) e = absurd cc

-- a node that wasn't gone through
same_number : (olds : Values) (xs : List LiveValue) (n : ℕ) (v : Option Stored) → live_at n xs ≡ None → v ≡ olds n → live_news olds xs ≡ with_number (live_news olds xs) n v
same_number olds xs n v none is = fun_ext (λ m. by m (nat_eq m n) refl)
  where
    by : (m : ℕ) (b : Bool) → nat_eq m n ≡ b → live_news olds xs m ≡ cond b v (live_news olds xs m)
    by m true e = ap (live_news olds xs) (eqb-true m n e) ∙ (ap (new_or (olds n)) none ∙ sym is)
    by m false e = refl

not_through : (o : Option LiveValue) (b : Bool) → cond (is_some o) false b ≡ true → o ≡ None
not_through None b e = refl
not_through (Some x) b e = absurd cc

not_through_stays : (o : Option LiveValue) (b : Bool) → cond (is_some o) false b ≡ true → b ≡ true
not_through_stays None b e = e
not_through_stays (Some x) b e = absurd cc

pub news_stay : (rules : Rules) (a : Arrival) (items : ℕ → Option StreamItem) (olds : Values) (xs : List LiveValue) (n : ℕ) (kind : Kind) → live_olds olds xs ≡ olds → is_still a olds xs n kind ≡ true →
    live_news olds xs ≡ with_number (live_news olds xs) n (value_at rules a items olds (live_news olds xs) n kind)
news_stay rules a items olds xs n kind same e =
    let news = live_news olds xs in
    let stays : stays_at a (live_olds olds xs) news n kind ≡ true = not_through_stays (live_at n xs) _ e in
    same_number olds xs n _ (not_through (live_at n xs) _ e) (value_stays rules a items olds news n kind (ap (λ (o : Values). stays_at a o news n kind) (sym same) ∙ stays))
