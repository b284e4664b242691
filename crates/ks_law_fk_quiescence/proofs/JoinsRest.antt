-- Joins on a foreign key at rest.
use Rattle.std.proofs.Common.{◌≡◌, ℕ, true, false, cond, List, [], slice_get, Option, Some, None, refl, sym, ap, ap₂, ◌∙◌, arith}
use Rattle.std.specs.Prelude.{option_and_then, option_map}
use Rattle.std.specs.Cmp.Lexicographic.{nat_list_cmp_total}
use Rattle.std.specs.FinMap.{slice_cmp-IsAntisymmetric, nat_cmp-IsAntisymmetric}
use Rattle.ks_record.specs.declared.record.TaskId.{TaskId}
use Rattle.ks_record.specs.Parts.{same_task}
use Rattle.ks_expr.specs.declared.terms.JoinKind.{JoinKind}
use Rattle.ks_expr.specs.Terms.{Set}
use Rattle.ks_expr.specs.Eval.{Row, same_bytes, joined}
use Rattle.ks_expr.specs.declared.terms.Fk.{Fk}
use Rattle.ks_plan.specs.Plan.{Plan}
use Rattle.ks_plan.specs.Plan.Kind.{ForeignKeyJoin}
use Rattle.ks_def_runs.specs.FinMap as fin
use Rattle.ks_query.specs.Streams.{Key, Input}
use Rattle.ks_query.specs.Query.{Table, right_row, query}
use Rattle.ks_def_tasks.specs.Messages.{Place, Rules, same_option}
use Rattle.ks_def_tasks.specs.Collision.{NoneCollides, NoCollision}
use Rattle.ks_def_tasks.specs.Rest.{IsDrained, home, named}
use Rattle.ks_def_tasks.proofs.Names.{same_task-is}
use Rattle.ks_law_quiescence.specs.AtRest.{IsQuery}
use Rattle.ks_law_quiescence.specs.States.{State, state_of, row_at, home_task}
use Rattle.ks_law_topology.specs.Taken.{messages}
use Rattle.ks_law_quiescence.specs.ForeignJoin as join
use Rattle.ks_law_quiescence.proofs.AtRest.{everywhere, at_home}
use Rattle.ks_law_topology.proofs.Fits.{Fits, each_at}
use Rattle.ks_law_topology.proofs.Mixed.{Stands_at}
use Rattle.ks_law_quiescence.proofs.OneKey.{keys_decided, stored_at_rest, result_at_rest}
use Rattle.ks_query.proofs.Pointwise.{get-map_rows}
use Rattle.ks_law_quiescence.proofs.Queries.{query_at, given_here}
use Rattle.ks_law_fk_quiescence.specs.KeyJoins.{JoinAt, join_at, protocol_of, KeyJoin, asked_by, answered_to, asking_place, answers_place, right_task}
use Rattle.ks_law_fk_quiescence.specs.AtRest.{hash_for, subscriber_for}
use Rattle.ks_law_fk_quiescence.proofs.Waits.{beside, left_home}
use Rattle.ks_law_fk_quiescence.proofs.Simulated.{see, left_past}
use Rattle.ks_law_fk_quiescence.proofs.Seeing.{Sees, sees_run, sees_sound, node_is}
use Rattle.ks_law_fk_quiescence.proofs.HashesPlaced.{hashes_run}
use Rattle.ks_expr.specs.Keys.{fk_of}
use Rattle.ks_wire.specs.declared.values.Subscriber.{Subscriber}
use Rattle.ks_law_topology.proofs.Placed.{Placed, placed_run}

module _ (rules : Rules) (p : Plan) (fits : Fits p) (a l r : ℕ) (fk : Fk) (kind : JoinKind) (set : Set) (stands : Stands_at a (ForeignKeyJoin l r fk kind set) 0 p.kinds) (records : List Input) (schedule : List (Option TaskId × Place)) where
  abbrev site : JoinAt
  site = join_at rules p a l r fk kind set

  abbrev st : State
  st = state_of rules p records schedule

  pub none_here : NoCollision rules p st → (k : Key) → NoneCollides rules.hash (left_past rules p fits a l r fk kind set stands k st)
  none_here none k =
      let n = node_is 0 p.kinds a (ForeignKeyJoin l r fk kind set) stands in
      let is : a ≡ n.0 = (let e = n.1 in omega arith) in
      none a l r fk kind set (ap (slice_get p.kinds) is ∙ n.2) (home rules p l k) k

  module _ (drained : IsDrained st) (none : NoCollision rules p st) (k : Key) where
    abbrev sees : Sees rules p fits a l r fk kind set stands k st
    sees = sees_run rules p fits a l r fk kind set stands k records schedule

    abbrev mine : KeyJoin
    mine = see rules p fits a l r fk kind set stands k sees.had st

    no_asking : (b : Key) → mine.subscriptions b ≡ []
    no_asking b = ap (λ xs. asked_by b k (messages xs)) (drained (Some (home_task rules p a k)) (asking_place site b) refl)

    no_answers : (j : ℕ) → mine.responses j ≡ []
    no_answers j = ap (λ xs. answered_to k (messages xs)) (drained (Some (right_task site j)) (answers_place site k) refl)

    abbrev wanted : Key → Option ℕ
    wanted b = join.wanted (protocol_of site k) mine.row b

    pub stored_rests : (b : Key) → mine.stored b ≡ wanted b
    stored_rests b = stored_at_rest (protocol_of site k) keys_decided mine (sees_sound rules p fits a l r fk kind set stands k st sees (none_here none k)) no_asking b

    pub result_rests : mine.result ≡ join.query (protocol_of site k) mine.row mine.right
    result_rests = result_at_rest (protocol_of site k) keys_decided mine (sees_sound rules p fits a l r fk kind set stands k st sees (none_here none k)) no_asking no_answers

  pub wanted_is : (k : Key) (row : Option Row) (b : Key) → join.wanted (protocol_of site k) row b ≡ option_and_then (hash_for rules fk b k) row
  wanted_is k None b = refl
  wanted_is k (Some v) b = by_key (fk_of fk k v)
    where
      by_key : (c : Option Key) → cond (join.same_key same_bytes c (Some b)) (Some (rules.hash v)) None ≡ cond (same_option same_bytes c (Some b)) (Some (rules.hash v)) None
      by_key None = refl
      by_key (Some c) = refl

  -- what is kept is the hash with the partition that it names
  with_named : (k : Key) (o : Option Subscriber) → ((x : Subscriber) → o ≡ Some x → x.part ≡ named rules p a k) → o ≡ option_map (λ h. record { hash = h; part = named rules p a k }) (option_map (λ (x : Subscriber). x.hash) o)
  with_named k None names = refl
  with_named k (Some x) names = ap (λ part. Some (record { hash = x.hash; part = part })) (names x refl)

  subscriber_is : (b k : Key) (row : Option Row) → option_map (λ h. record { hash = h; part = named rules p a k }) (option_and_then (hash_for rules fk b k) row) ≡ option_and_then (subscriber_for rules p a fk b k) row
  subscriber_is b k None = refl
  subscriber_is b k (Some v) = refl

  -- each subscription store
  pub hashes_rest : IsDrained st → NoCollision rules p st → (u : TaskId) (b k : Key) →
      fin.get ((st.stores u).hashes a b) k ≡ cond (same_task u (home_task rules p r b)) (option_and_then (subscriber_for rules p a fk b k) (row_at st (home_task rules p l k) l k)) None
  hashes_rest drained none u b k =
      elim (same_task u (home_task rules p r b)) as (λ t. same_task u (home_task rules p r b) ≡ t → fin.get ((st.stores u).hashes a b) k ≡ cond t (option_and_then (subscriber_for rules p a fk b k) (row_at st (home_task rules p l k) l k)) None) [
        | true ↦ λ t. ap (λ v. fin.get ((st.stores v).hashes a b) k) ((same_task-is u (home_task rules p r b)).0 t)
            ∙ with_named k (fin.get ((st.stores (home_task rules p r b)).hashes a b) k) (λ x e. placed.stored (home_task rules p r b) a b k x e)
            ∙ ap (option_map (λ h. record { hash = h; part = named rules p a k }))
            (stored_rests drained none k b ∙ wanted_is k (row_at st (home_task rules p a k) l k) b ∙ ap (λ v. option_and_then (hash_for rules fk b k) (row_at st v l k)) (sym (left_home rules p fits a l r fk kind set stands k)))
            ∙ subscriber_is b k (row_at st (home_task rules p l k) l k)
        | false ↦ λ t. absent t (fin.get ((st.stores u).hashes a b) k) refl
      ] refl
    where
      placed : Placed rules p st
      placed = placed_run rules p fits records schedule

      absent : same_task u (home_task rules p r b) ≡ false → (w : Option Subscriber) → fin.get ((st.stores u).hashes a b) k ≡ w → w ≡ None
      absent t None e = refl
      absent t (Some h) e =
          let is : u ≡ home_task rules p r b = (hashes_run rules p fits a l r fk kind set stands records schedule).placed u b k h e in
          let yes : same_task u (home_task rules p r b) ≡ true = (same_task-is u (home_task rules p r b)).1 is in
          cc

  -- ---- the table
  joined_rows : (k : Key) (row : Option Row) (right : Key → Option Row) (t : Table) → ((b : Key) → right b ≡ fin.get t b) →
      join.query (protocol_of site k) row right ≡ option_and_then (λ v. joined kind set (Some v) (right_row t (fk_of fk k v))) row
  joined_rows k None right t same = refl
  joined_rows k (Some v) right t same = ap (joined kind set (Some v)) (by_key (fk_of fk k v))
    where
      by_key : (c : Option Key) → join.right_of right c ≡ right_row t c
      by_key None = refl
      by_key (Some c) = same c

  pub join_rests : IsDrained st → NoCollision rules p st → IsQuery rules p records st l → IsQuery rules p records st r → IsQuery rules p records st a
  join_rests drained none hl hr = everywhere rules p fits records schedule a (λ k.
      let answer = query_at records p a (ForeignKeyJoin l r fk kind set) stands in
      let before = beside rules p fits a l r fk kind set stands in
      let f : Row → Option Row = λ v. joined kind set (Some v) (right_row ((query p records).tables r) (fk_of fk k v)) in
      result_rests drained none k
      ∙ joined_rows k (row_at st (home_task rules p a k) l k) (λ b. row_at st (home_task rules p r b) r b) ((query p records).tables r) (λ b. at_home rules p fits records schedule r hr b)
      ∙ ap (option_and_then f) (ap (λ u. row_at st u l k) (sym (left_home rules p fits a l r fk kind set stands k)) ∙ at_home rules p fits records schedule l hl k)
      ∙ sym (ap (λ t. fin.get t k) (answer.table ∙ given_here records answer.then.tables a _)
      ∙ get-map_rows nat_list_cmp_total (slice_cmp-IsAntisymmetric nat_cmp-IsAntisymmetric) (λ k v. joined kind set (Some v) (right_row (answer.then.tables r) (fk_of fk k v))) (answer.then.tables l) k
      ∙ ap₂ (λ t u. option_and_then (λ v. joined kind set (Some v) (right_row u (fk_of fk k v))) (fin.get t k)) (answer.before.tables l before.before) (answer.before.tables r (each_at p 0 p.kinds a (ForeignKeyJoin l r fk kind set) fits stands).1)))
