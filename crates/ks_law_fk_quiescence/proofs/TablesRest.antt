-- All tables that aren't windowed counts rest at the query, node by node.
use Rattle.std.proofs.Common.{◌≡◌, ℕ, zero, suc, ◌+◌, ◌<◌, ◌≤◌, true, List, length, [], ◌∷◌, ◌++◌, get_or, Option, refl, sym, ap, subst, ◌∙◌, arith, append-nil, append_assoc, ⊎_elim}
use Rattle.std.proofs.lemmas.Bool.{cases_lt}
use Rattle.ks_record.specs.declared.record.TaskId.{TaskId}
use Rattle.ks_plan.specs.Plan.{Plan, Kind}
use Rattle.ks_plan.specs.Plan.Kind.{StreamSource, TableSource, StreamFilter, TableFilter, StreamMap, TableMap, KeySelected, StreamAggregate, TableAggregate, Windowed, KeyJoin, ForeignKeyJoin}
use Rattle.ks_plan.specs.Layout.{no_kind}
use Rattle.ks_query.specs.Streams.{Input}
use Rattle.ks_def_tasks.specs.Messages.{Place, Rules}
use Rattle.ks_def_tasks.specs.Rest.{IsAtRest}
use Rattle.ks_law_quiescence.specs.AtRest.{IsQuery}
use Rattle.ks_law_quiescence.specs.States.{state_of}
use Rattle.ks_law_quiescence.proofs.AtRest.{everywhere, source_is_query, filter_is_query, map_is_query, join_is_query}
use Rattle.ks_law_topology.proofs.Fits.{Fits, NodeFits, each_at, stands_after, stands_within}
use Rattle.ks_law_quiescence.proofs.StreamsRest.{stream_rests}
use Rattle.ks_law_quiescence.proofs.GroupsRest.{group_rests}
use Rattle.ks_law_topology.proofs.Mixed.{Stands_at}
use Rattle.ks_law_fk_quiescence.specs.AtRest.{is_table}
use Rattle.ks_law_fk_quiescence.proofs.TableInputs.{is_table_at, TableInputs, EachInputs}
use Rattle.ks_law_fk_quiescence.proofs.JoinsRest.{join_rests}

kind_before : (xs ys : List Kind) (n : ℕ) → n < length xs → get_or (xs ++ ys) n no_kind ≡ get_or xs n no_kind
kind_before [] ys n lt = absurd (omega arith)
kind_before (x ∷ xs) ys zero lt = refl
kind_before (x ∷ xs) ys (suc n) lt = kind_before xs ys n (omega arith)

kind_after : (xs : List Kind) (k : Kind) (n : ℕ) → is_table_at (xs ++ k ∷ []) n ≡ true → length xs ≤ n → (n ≡ length xs) × (is_table k ≡ true)
kind_after [] k zero e le = (refl, e)
kind_after [] k (suc n) e le = cc
kind_after (x ∷ xs) k zero e le = absurd (omega arith)
kind_after (x ∷ xs) k (suc n) e le = let more = kind_after xs k n e (omega arith) in (ap suc more.0, more.1)

module _ (rules : Rules) (p : Plan) (fits : Fits p) (records : List Input) (schedule : List (Option TaskId × Place)) (rest : IsAtRest rules p (state_of rules p records schedule)) where
  abbrev Rests : ℕ → Type 0
  Rests n = IsQuery rules p records (state_of rules p records schedule) n

  -- the tables among the first nodes rest
  abbrev Settled : List Kind → Type 0
  Settled ks = (c : ℕ) → is_table_at ks c ≡ true → Rests c

  node_rests : (n : ℕ) (ks : List Kind) (k : Kind) → Stands_at n k 0 p.kinds → NodeFits p n k → TableInputs ks k → Settled ks → is_table k ≡ true → Rests n
  node_rests n ks (TableSource t) s f i h e = source_is_query rules p fits records schedule n t s f rest.drained
  node_rests n ks (TableFilter g test) s f i h e = filter_is_query rules p fits records schedule n g test s f (h g i)
  node_rests n ks (TableMap g set) s f i h e = map_is_query rules p fits records schedule n g set s f (h g i)
  node_rests n ks (KeyJoin l r kind set) s f i h e = join_is_query rules p fits records schedule n l r kind set s f.0 f.1 (h l i.0) (h r i.1)
  node_rests n ks (TableAggregate g by field) s f i h e = everywhere rules p fits records schedule n (λ k. group_rests rules p fits records schedule n g by field s f rest.drained rest.few (h g i) k)
  node_rests n ks (StreamAggregate g by field through) s f i h e =
      let before : g < n = f.0 in
      let within : g < 0 + length p.kinds = stands_within 0 p.kinds n (StreamAggregate g by field through) s before in
      everywhere rules p fits records schedule n (λ k. stream_rests rules p fits records schedule n g by field through s (omega arith) before rest.drained k)
  node_rests n ks (ForeignKeyJoin l r fk kind set) s f i h e = join_rests rules p fits n l r fk kind set s records schedule rest.drained rest.none_collides (h l i.0) (h r i.1)
  node_rests n ks (StreamSource t) s f i h e = cc
  node_rests n ks (StreamFilter g test) s f i h e = cc
  node_rests n ks (StreamMap g set) s f i h e = cc
  node_rests n ks (KeySelected g k) s f i h e = cc
  node_rests n ks (Windowed g by w through) s f i h e = cc

  nodes_rest : (before ks : List Kind) → p.kinds ≡ before ++ ks → EachInputs before ks → Settled before → Settled p.kinds
  nodes_rest before [] all i h = subst Settled (sym (all ∙ append-nil before)) h
  nodes_rest before (k ∷ ks) all i h =
      let n = length before in
      let stands : Stands_at n k 0 p.kinds = subst (Stands_at n k 0) (sym all) (subst (λ m. Stands_at m k 0 (before ++ k ∷ ks)) (omega arith) (stands_after 0 before k ks)) in
      let next : Settled (before ++ k ∷ []) = λ c e. ⊎_elim
      (λ (less : c < n). h c (ap is_table (sym (kind_before before (k ∷ []) c less)) ∙ e))
      (λ ge. let at = kind_after before k c e ge in subst Rests (sym at.0) (node_rests n before k stands (each_at p 0 p.kinds n k fits stands) i.0 h at.1))
      (cases_lt c n) in
      nodes_rest (before ++ k ∷ []) ks (all ∙ sym (append_assoc before (k ∷ []) ks)) i.1 next

  pub tables_rest : EachInputs [] p.kinds → (n : ℕ) → is_table_at p.kinds n ≡ true → Rests n
  tables_rest inputs n e = nodes_rest [] p.kinds refl inputs (λ c e. cc) n e
