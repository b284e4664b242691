-- Each whole step of a mixed task keeps that its derived tables follow their inputs.
use Rattle.std.proofs.Common.{◌≡◌, ◌≢◌, ℕ, suc, ◌<◌, ◌≤◌, Bool, true, false, cond, not, ◌&&◌, ◌||◌, List, [], ◌∷◌, Option, Some, None, refl, sym, ap, ap₂, subst, ◌∙◌, arith, ne_eqb, ⊎_elim}
use Rattle.std.proofs.lemmas.Bool.{and_parts}
use Rattle.std.proofs.lemmas.Bool.Decides.{Decides-eqb}
use Rattle.std.specs.Ordering.{eq_by_cmp}
use Rattle.std.specs.Cmp.Lexicographic.{nat_list_cmp_total}
use Rattle.std.specs.FinMap.{slice_cmp-IsAntisymmetric, nat_cmp-IsAntisymmetric, int_cmp-IsAntisymmetric}
use Rattle.ks_row.specs.declared.row.Field.{Field}
use Rattle.ks_row.specs.declared.row.Field.TheVariants.{Int, Text}
use Rattle.ks_expr.specs.declared.terms.JoinKind.{JoinKind}
use Rattle.ks_expr.specs.declared.terms.JoinKind.TheVariants.{Inner, Left as LeftJoin, Outer}
use Rattle.ks_expr.specs.Terms.{Set}
use Rattle.ks_expr.specs.Eval.{Row, same_bytes, same_field, joined, holds, project}
use Rattle.ks_query.specs.Streams.{Key}
use Rattle.ks_expr.specs.declared.terms.Fk.{Fk}
use Rattle.ks_plan.specs.Plan.{Plan, Kind}
use Rattle.ks_plan.specs.Plan.Kind.{TableFilter, TableMap, StreamAggregate, TableAggregate, KeyJoin, ForeignKeyJoin}
use Rattle.ks_def_runs.specs.FinMap as map
use Rattle.ks_query.specs.Query.{with_number}
use Rattle.ks_def_runs.specs.Bytes.{by_bytes}
use Rattle.ks_query.specs.Streams.{StreamItem}
use Rattle.ks_def_runs.specs.Run.{RunState, take_first, initial, run}
use Rattle.ks_record.specs.declared.record.TaskId.{TaskId}
use Rattle.ks_record.specs.Parts.{same_task}
use Rattle.ks_def_tasks.specs.Messages.{Place, Stored, Item, Store, Rules, same_row, same_option}
use Rattle.ks_def_tasks.specs.Step.{Arrival, Values, row_in, changed, kept_row, of_row, value_at, values_from, whole_step, step_key, items_from, tables_after, news_at, olds_at, applied, added, arrived, item_into, responded, direct}
use Rattle.ks_def_tasks.specs.Tasks.{arrival, machine, step}
use Rattle.ks_law_quiescence.proofs.Following.{EachFollows, values_of, InOrder}
use Rattle.ks_def_runs.proofs.Tables.{equal, get-write}
use Rattle.ks_def_runs.proofs.Runs.{kept_by_run}
use Rattle.ks_law_topology.proofs.Mixed.{Stands_at}
use Rattle.ks_plan.specs.declared.node.Topic.TheVariants.{Repartition, Responses}

bytes-is : (a b : List ℕ) → same_bytes a b ≡ true → a ≡ b
bytes-is a b e = slice_cmp-IsAntisymmetric nat_cmp-IsAntisymmetric a b (equal _ e)

field-is : (a b : Field) → same_field a b ≡ true → a ≡ b
field-is (Int a) (Int b) e = ap Int (int_cmp-IsAntisymmetric a b (equal _ e))
field-is (Text a) (Text b) e = ap Text (bytes-is a b e)
field-is (Int a) (Text b) e = cc
field-is (Text a) (Int b) e = cc

pub row-is : (a b : Row) → same_row a b ≡ true → a ≡ b
row-is [] [] e = refl
row-is [] (n ∷ ns) e = cc
row-is (m ∷ ms) [] e = cc
row-is (m ∷ ms) (n ∷ ns) e =
    let p = and_parts (same_bytes m.0 n.0 && same_field m.1 n.1) (same_row ms ns) e in
    let q = and_parts (same_bytes m.0 n.0) (same_field m.1 n.1) p.0 in
    let head : m ≡ n = ap₂ (λ a b. (a, b)) (bytes-is m.0 n.0 q.0) (field-is m.1 n.1 q.1) in
    ap₂ (λ x xs. x ∷ xs) head (row-is ms ns p.1)

rows-are : (a b : Option Row) → same_option same_row a b ≡ true → a ≡ b
rows-are None None e = refl
rows-are (Some a) (Some b) e = ap (λ r. Some r) (row-is a b e)
rows-are None (Some b) e = cc
rows-are (Some a) None e = cc

unchanged : (olds news : Values) (n : ℕ) → changed olds news n ≡ false → row_in olds n ≡ row_in news n
unchanged olds news n e = rows-are (row_in olds n) (row_in news n) (of_not _ e)
  where
    of_not : (b : Bool) → not b ≡ false → b ≡ true
    of_not true e = refl
    of_not false e = cc

either_false : (a b : Bool) → (a || b) ≡ false → (a ≡ false) × (b ≡ false)
either_false false b e = (refl, e)
either_false true b e = cc

module _ (rules : Rules) (x : Arrival) (items : ℕ → Option StreamItem) (olds : Values) where
  number_here : (values : Values) (n : ℕ) (v : Option Stored) → with_number values n v n ≡ v
  number_here values n v = ap (λ b. cond b v (values n)) ((Decides-eqb n n).1 refl)

  number_other : (values : Values) (n : ℕ) (v : Option Stored) (c : ℕ) → c ≢ n → with_number values n v c ≡ values c
  number_other values n v c ne = ap (λ b. cond b v (values c)) (ne_eqb c n ne)

  -- nodes before the next stay
  stays : (news : Values) (n : ℕ) (ks : List Kind) (c : ℕ) → c < n → values_from rules x items olds news n ks c ≡ news c
  stays news n [] c lt = refl
  stays news n (k ∷ ks) c lt = stays (with_number news n (value_at rules x items olds news n k)) (suc n) ks c (omega arith) ∙ number_other news n _ c (λ e. omega arith)

  one_input : (f : Option Row → Option Stored) (old : Option Stored) (news : Values) (n : ℕ) → old ≡ f (row_in olds n) → cond (changed olds news n) (f (row_in news n)) old ≡ f (row_in news n)
  one_input f old news n h = elim (changed olds news n) as (λ b. changed olds news n ≡ b → cond b (f (row_in news n)) old ≡ f (row_in news n)) [
    | true ↦ λ e. refl
    | false ↦ λ e. h ∙ ap f (unchanged olds news n e)
  ] refl

  two_inputs : (f : Option Row → Option Row → Option Stored) (old : Option Stored) (news : Values) (l r : ℕ) → old ≡ f (row_in olds l) (row_in olds r) →
      cond (changed olds news l || changed olds news r) (f (row_in news l) (row_in news r)) old ≡ f (row_in news l) (row_in news r)
  two_inputs f old news l r h = elim (changed olds news l || changed olds news r) as (λ b. (changed olds news l || changed olds news r) ≡ b → cond b (f (row_in news l) (row_in news r)) old ≡ f (row_in news l) (row_in news r)) [
    | true ↦ λ e. refl
    | false ↦ λ e. let p = either_false _ _ e in h ∙ ap₂ f (unchanged olds news l p.0) (unchanged olds news r p.1)
  ] refl

  -- a node's value and those of earlier nodes, at the end
  value_here : (news : Values) (n : ℕ) (k : Kind) (ks : List Kind) → values_from rules x items olds news n (k ∷ ks) n ≡ value_at rules x items olds news n k
  value_here news n k ks = stays (with_number news n (value_at rules x items olds news n k)) (suc n) ks n (omega arith) ∙ number_here news n _

  value_before : (news : Values) (n : ℕ) (k : Kind) (ks : List Kind) (c : ℕ) → c < n → values_from rules x items olds news n (k ∷ ks) c ≡ news c
  value_before news n k ks c lt = stays news n (k ∷ ks) c lt

  follow : (news : Values) (n : ℕ) (ks : List Kind) → InOrder n ks → EachFollows olds n ks → ((c : ℕ) → n ≤ c → news c ≡ olds c) → EachFollows (values_from rules x items olds news n ks) n ks
  follow news n [] i h same = tt
  follow news n (TableFilter f p ∷ ks) i h same = (
    value_here news n (TableFilter f p) ks ∙ one_input (kept_row (λ v. cond (holds p v) (Some v) None)) (olds n) news f h.0
        ∙ ap (λ v. kept_row (λ v. cond (holds p v) (Some v) None) (row_in (λ m. v) f)) (sym (value_before news n (TableFilter f p) ks f i.0)),
    follow (with_number news n (value_at rules x items olds news n (TableFilter f p))) (suc n) ks i.1 h.1 (λ c le. number_other news n _ c (λ e. omega arith) ∙ same c (omega arith)),
  )
  follow news n (TableMap f s ∷ ks) i h same = (
    value_here news n (TableMap f s) ks ∙ one_input (kept_row (λ v. project s (Some v) None)) (olds n) news f h.0
        ∙ ap (λ v. kept_row (λ v. project s (Some v) None) (row_in (λ m. v) f)) (sym (value_before news n (TableMap f s) ks f i.0)),
    follow (with_number news n (value_at rules x items olds news n (TableMap f s))) (suc n) ks i.1 h.1 (λ c le. number_other news n _ c (λ e. omega arith) ∙ same c (omega arith)),
  )
  follow news n (KeyJoin l r kind s ∷ ks) i h same = (
    value_here news n (KeyJoin l r kind s) ks ∙ two_inputs (λ a b. of_row (joined kind s a b)) (olds n) news l r h.0
        ∙ ap₂ (λ v w. of_row (joined kind s (row_in (λ m. v) l) (row_in (λ m. w) r))) (sym (value_before news n (KeyJoin l r kind s) ks l i.left)) (sym (value_before news n (KeyJoin l r kind s) ks r i.right)),
    follow (with_number news n (value_at rules x items olds news n (KeyJoin l r kind s))) (suc n) ks i.rest h.1 (λ c le. number_other news n _ c (λ e. omega arith) ∙ same c (omega arith)),
  )
  follow news n (k ∷ ks) i h same =
      (tt, follow (with_number news n (value_at rules x items olds news n k)) (suc n) ks i h.1 (λ c le. number_other news n _ c (λ e. omega arith) ∙ same c (omega arith)))

  -- each node's value at the end is its row of the table, over the values that earlier nodes have at the end
  pub value_is : (news : Values) (n : ℕ) (ks : List Kind) (a : ℕ) (k : Kind) → Stands_at a k n ks →
      (then : Values) × (values_from rules x items olds news n ks a ≡ value_at rules x items olds then a k) × ((c : ℕ) → c < a → then c ≡ values_from rules x items olds news n ks c)
  value_is news n [] a k s = absurd s
  value_is news n (y ∷ ys) a k s = ⊎_elim
      (λ (e : (n ≡ a) × (y ≡ k)). subst (λ m. (then : Values) × (values_from rules x items olds news n (y ∷ ys) m ≡ value_at rules x items olds then m k) × ((c : ℕ) → c < m → then c ≡ values_from rules x items olds news n (y ∷ ys) c)) e.0
      (news, value_here news n y ys ∙ ap (value_at rules x items olds news n) e.1, λ c lt. sym (value_before news n y ys c lt)))
      (λ (e : (n < a) × Stands_at a k (suc n) ys). value_is (with_number news n (value_at rules x items olds news n y)) (suc n) ys a k e.1) s

  -- a table aggregate's value changes by what arrives at its topic alone
  pub aggregate_receives : (news : Values) (n : ℕ) (ks : List Kind) (a f : ℕ) (by : List ℕ) (field : Option (List ℕ)) → Stands_at a (TableAggregate f by field) n ks →
      values_from rules x items olds news n ks a ≡ applied field (olds a) (arrived x (Repartition a))
  aggregate_receives news n ks a f by field s = (value_is news n ks a (TableAggregate f by field) s).1

  -- a stream aggregate's: by the item of its topic, or of its input
  pub stream_receives : (news : Values) (n : ℕ) (ks : List Kind) (a f : ℕ) (by field : Option (List ℕ)) (through : Bool) → Stands_at a (StreamAggregate f by field through) n ks →
      values_from rules x items olds news n ks a ≡ added field (olds a) (item_into x items a f through)
  stream_receives news n ks a f by field through s = (value_is news n ks a (StreamAggregate f by field through) s).1

  -- a foreign-key join's result, where its left row didn't change
  pub result_receives : (news : Values) (n : ℕ) (ks : List Kind) (a l r : ℕ) (fk : Fk) (kind : JoinKind) (set : Set) → Stands_at a (ForeignKeyJoin l r fk kind set) n ks → l < a →
      changed olds (values_from rules x items olds news n ks) l ≡ false →
      values_from rules x items olds news n ks a ≡ responded rules kind set (row_in (values_from rules x items olds news n ks) l) (arrived x (Responses a)) (olds a)
  result_receives news n ks a l r fk kind set s lt e =
      let v = value_is news n ks a (ForeignKeyJoin l r fk kind set) s in
      let last = values_from rules x items olds news n ks in
      let same : row_in v.0 l ≡ row_in last l = ap (λ w. row_in (λ m. w) l) (v.2 l lt) in
      v.1 ∙ ap (λ row. cond (not (same_option same_row (row_in olds l) row)) (direct fk (step_key x.item.message) kind set (row_in olds l) row (olds a)) (responded rules kind set row (arrived x (Responses a)) (olds a))) same
      ∙ ap (λ b. cond b (direct fk (step_key x.item.message) kind set (row_in olds l) (row_in last l) (olds a)) (responded rules kind set (row_in last l) (arrived x (Responses a)) (olds a))) e

module _ (rules : Rules) (p : Plan) (order : InOrder 0 p.kinds) where
  abbrev pub FollowsAll : Store → Type 0
  FollowsAll st = (q : Key) → EachFollows (values_of st q) 0 p.kinds

  step_follows : (st : Store) (x : Arrival) → FollowsAll st → FollowsAll (whole_step rules p st x).store
  step_follows st x h = by_key (step_key x.item.message)
    where
      items : ℕ → Option StreamItem
      items = items_from x (λ n. None) 0 p.kinds

      after_key : (key : Option Key) (q : Key) → Values
      after_key key q n = map.get (tables_after st (news_at rules p x items (olds_at st key) key) key n) q

      by_key : (key : Option Key) (q : Key) → EachFollows (after_key key q) 0 p.kinds
      by_key None q = h q
      by_key (Some k) q =
          let news : Values = values_from rules x items (olds_at st (Some k)) (olds_at st (Some k)) 0 p.kinds in
          subst (λ values. EachFollows values 0 p.kinds) (λ i n. sym (get-write nat_list_cmp_total (st.tables n) k (news n) q) i)
          (elim (eq_by_cmp by_bytes q k) as (λ b. EachFollows (λ n. cond b (news n) (map.get (st.tables n) q)) 0 p.kinds) [
            | true ↦ follow rules x items (olds_at st (Some k)) (olds_at st (Some k)) 0 p.kinds order (h k) (λ c le. refl)
            | false ↦ h q
          ])

  nothing_follows : (n : ℕ) (ks : List Kind) → EachFollows (λ n. None) n ks
  nothing_follows n [] = tt
  nothing_follows n (TableFilter f p ∷ ks) = (refl, nothing_follows (suc n) ks)
  nothing_follows n (TableMap f s ∷ ks) = (refl, nothing_follows (suc n) ks)
  nothing_follows n (KeyJoin l r Inner s ∷ ks) = (refl, nothing_follows (suc n) ks)
  nothing_follows n (KeyJoin l r LeftJoin s ∷ ks) = (refl, nothing_follows (suc n) ks)
  nothing_follows n (KeyJoin l r Outer s ∷ ks) = (refl, nothing_follows (suc n) ks)
  nothing_follows n (k ∷ ks) = (tt, nothing_follows (suc n) ks)

  taken_follows : (st : RunState TaskId Place Store Item) (s : Option TaskId) (q : Place) (xs : List Item) → ((u : TaskId) → FollowsAll (st.stores u)) → (u : TaskId) → FollowsAll ((take_first (machine rules p) st s q xs).stores u)
  taken_follows st s q [] h u = h u
  taken_follows st s q (x ∷ rest) h u =
      let t : TaskId = (machine rules p).reader q in
      let out = step rules p t (st.stores t) q x in
      elim (same_task u t) as (λ b. FollowsAll (cond b out.store (st.stores u))) [
        | true ↦ step_follows (st.stores t) (arrival p q x) (h t)
        | false ↦ h u
      ]

  pub derived_follow : (inputs : Place → List Item) (schedule : List (Option TaskId × Place)) (u : TaskId) → FollowsAll ((run (machine rules p) inputs schedule).stores u)
  derived_follow inputs schedule = kept_by_run (machine rules p) (λ st. (u : TaskId) → FollowsAll (st.stores u))
      (λ st c h. taken_follows st c.0 c.1 (st.waiting c.0 c.1) h) (initial (machine rules p) inputs)
      (λ u q. subst (λ values. EachFollows values 0 p.kinds) (λ i n. sym (map.get-empty by_bytes q) i) (nothing_follows 0 p.kinds)) schedule
