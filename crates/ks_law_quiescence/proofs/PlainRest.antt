-- Tables made plainly rest at the query, node by node.
use Rattle.std.proofs.Common.{◌≡◌, ℕ, zero, suc, ◌+◌, ◌<◌, ◌^◌, Bool, true, false, List, length, [], ◌∷◌, ◌++◌, get_or, Option, fold, refl, sym, ap, subst, ◌∙◌, arith, append-nil, append_assoc, length-append, ⊎_elim}
use Rattle.std.proofs.lemmas.Bool.{and_parts, cases_lt}
use Rattle.std.proofs.lemmas.List.Sums.{fold-append}
use Rattle.ks_record.specs.declared.record.TaskId.{TaskId}
use Rattle.ks_plan.specs.Plan.{Plan, Kind}
use Rattle.ks_plan.specs.Plan.Kind.{StreamSource, TableSource, StreamFilter, TableFilter, StreamMap, TableMap, KeySelected, StreamAggregate, TableAggregate, Windowed, KeyJoin, ForeignKeyJoin}
use Rattle.ks_query.specs.Streams.{Input}
use Rattle.ks_def_tasks.specs.Messages.{Place, Rules}
use Rattle.ks_def_tasks.specs.Rest.{IsDrained}
use Rattle.ks_law_quiescence.specs.AtRest.{IsQuery, made_plainly, IsPlain}
use Rattle.ks_law_quiescence.specs.States.{state_of}
use Rattle.ks_law_quiescence.proofs.AtRest.{everywhere, source_is_query, filter_is_query, map_is_query, join_is_query}
use Rattle.ks_law_topology.proofs.Fits.{Fits, NodeFits, each_at, stands_after, stands_within}
use Rattle.ks_law_quiescence.proofs.StreamsRest.{stream_rests}
use Rattle.ks_law_quiescence.proofs.GroupsRest.{group_rests}
use Rattle.ks_law_topology.proofs.Mixed.{Stands_at}

-- ---- flags in lists that grow at their end
flag_before : (xs ys : List Bool) (n : ℕ) → n < length xs → get_or (xs ++ ys) n false ≡ get_or xs n false
flag_before [] ys n lt = absurd (omega arith)
flag_before (x ∷ xs) ys zero lt = refl
flag_before (x ∷ xs) ys (suc n) lt = flag_before xs ys n (omega arith)

flag_end : (xs : List Bool) (x : Bool) → get_or (xs ++ x ∷ []) (length xs) false ≡ x
flag_end [] x = refl
flag_end (y ∷ xs) x = flag_end xs x

abbrev grow : List Bool → Kind → List Bool
grow bs k = bs ++ made_plainly bs k ∷ []

grown_length : (bs : List Bool) (ks : List Kind) → length (fold grow bs ks) ≡ length bs + length ks
grown_length bs [] = omega arith
grown_length bs (k ∷ ks) = omega (arith, grown_length (grow bs k) ks, length-append bs (made_plainly bs k ∷ []))

flag_stays : (bs : List Bool) (ks : List Kind) (n : ℕ) → n < length bs → get_or (fold grow bs ks) n false ≡ get_or bs n false
flag_stays bs [] n lt = refl
flag_stays bs (k ∷ ks) n lt = flag_stays (grow bs k) ks n (omega (arith, length-append bs (made_plainly bs k ∷ []))) ∙ flag_before bs _ n lt

present : (bs : List Bool) (n : ℕ) → get_or bs n false ≡ true → n < length bs
present [] n e = cc
present (b ∷ bs) zero e = omega arith
present (b ∷ bs) (suc n) e = omega (arith, present bs n e)

module _ (rules : Rules) (p : Plan) (fits : Fits p) (records : List Input) (schedule : List (Option TaskId × Place)) (drained : IsDrained (state_of rules p records schedule)) (few : length (state_of rules p records schedule).taken < 2 ^ 48) where
  abbrev Rests : ℕ → Type 0
  Rests n = IsQuery rules p records (state_of rules p records schedule) n

  -- the plain nodes among the first ones rest
  abbrev Settled : List Bool → Type 0
  Settled bs = (c : ℕ) → c < length bs → get_or bs c false ≡ true → Rests c

  node_rests : (bs : List Bool) (k : Kind) → Stands_at (length bs) k 0 p.kinds → NodeFits p (length bs) k → Settled bs → made_plainly bs k ≡ true → Rests (length bs)
  node_rests bs (TableSource t) s f h e = source_is_query rules p fits records schedule (length bs) t s f drained
  node_rests bs (TableFilter g test) s f h e = filter_is_query rules p fits records schedule (length bs) g test s f (h g f.before e)
  node_rests bs (TableMap g set) s f h e = map_is_query rules p fits records schedule (length bs) g set s f (h g f.before e)
  node_rests bs (KeyJoin l r kind set) s f h e =
      let both = and_parts (get_or bs l false) (get_or bs r false) e in
      join_is_query rules p fits records schedule (length bs) l r kind set s f.0 f.1 (h l f.0.before both.0) (h r f.1.before both.1)
  node_rests bs (TableAggregate g by field) s f h e = everywhere rules p fits records schedule (length bs) (λ k. group_rests rules p fits records schedule (length bs) g by field s f drained few (h g f e) k)
  node_rests bs (StreamSource t) s f h e = cc
  node_rests bs (StreamFilter g test) s f h e = cc
  node_rests bs (StreamMap g set) s f h e = cc
  node_rests bs (KeySelected g k) s f h e = cc
  node_rests bs (StreamAggregate g by field through) s f h e =
      let before : g < length bs = f.0 in
      let within : g < 0 + length p.kinds = stands_within 0 p.kinds (length bs) (StreamAggregate g by field through) s before in
      everywhere rules p fits records schedule (length bs) (λ k. stream_rests rules p fits records schedule (length bs) g by field through s (omega arith) before drained k)
  node_rests bs (Windowed g by w through) s f h e = cc
  node_rests bs (ForeignKeyJoin l r fk kind set) s f h e = cc

  nodes_rest : (before : List Kind) (ks : List Kind) → p.kinds ≡ before ++ ks → Settled (fold grow [] before) → Settled (fold grow [] p.kinds)
  nodes_rest before [] all h = subst (λ l. Settled (fold grow [] l)) (sym (all ∙ append-nil before)) h
  nodes_rest before (k ∷ ks) all h =
      let bs = fold grow [] before in
      let count : length bs ≡ 0 + length before = grown_length [] before in
      let n : length bs ≡ length before = omega arith in
      let stands : Stands_at (length before) k 0 p.kinds = subst (Stands_at (length before) k 0) (sym all) (subst (λ m. Stands_at m k 0 (before ++ k ∷ ks)) (omega arith) (stands_after 0 before k ks)) in
      let here : Stands_at (length bs) k 0 p.kinds = subst (λ m. Stands_at m k 0 p.kinds) (sym n) stands in
      let next : Settled (grow bs k) = λ c lt e. ⊎_elim
      (λ (less : c < length bs). h c less (sym (flag_before bs (made_plainly bs k ∷ []) c less) ∙ e))
      (λ ge.
      let is : c ≡ length bs = omega (arith, length-append bs (made_plainly bs k ∷ [])) in
      let plain : made_plainly bs k ≡ true = sym (flag_end bs (made_plainly bs k)) ∙ ap (λ m. get_or (grow bs k) m false) (sym is) ∙ e in
      subst Rests (sym is) (node_rests bs k here (each_at p 0 p.kinds (length bs) k fits here) h plain))
      (cases_lt c (length bs)) in
      nodes_rest (before ++ k ∷ []) ks (all ∙ sym (append_assoc before (k ∷ []) ks)) (subst Settled (sym (fold-append grow [] before (k ∷ []))) next)

  -- each plain node rests
  pub plain_rests : (n : ℕ) → IsPlain p n → Rests n
  plain_rests n e = nodes_rest [] p.kinds refl (λ c lt e. absurd (omega arith)) n (present (fold grow [] p.kinds) n e) e
