-- Each topic of the drain order is read by the subtopology of one node, and has the node's partitions.
use Rattle.std.proofs.Common.{◌≡◌, ℕ, suc, ◌+◌, ◌<◌, Bool, true, false, cond, inl, inr, List, [], ◌∷◌, ◌++◌, length, map, Some, slice_get, refl, sym, ap, subst, ◌∙◌, arith, nat_eq, ⊎_elim}
use Rattle.std.specs.List.{filter}
use Rattle.std.proofs.lemmas.Bool.{or_cases, true≢false}
use Rattle.std.proofs.lemmas.Bool.Decides.{Decides-eqb}
use Rattle.std.proofs.lemmas.Option.{slice_get_within, get_or_from_slice_get}
use Rattle.ks_plan.specs.declared.node.Topic.{Topic}
use Rattle.ks_plan.specs.declared.node.Topic.TheVariants.{Input as InputTopic, Repartition}
use Rattle.ks_plan.specs.Plan.{Plan, Kind, plan_of}
use Rattle.ks_plan.specs.Plan.Kind.{StreamSource, TableSource, StreamFilter, TableFilter, StreamMap, TableMap, KeySelected, StreamAggregate, TableAggregate, Windowed, KeyJoin, ForeignKeyJoin}
use Rattle.ks_plan.specs.Layout.{at, up_to, sub_of, sub_count, parts_of, parts_of_topic, through_topics, by_node, input_topics, drain_order, is_drained, number_of, reads, tasks, kind_at, no_kind, right_of, is_source_of, any_source_of, is_read, source_of}
use Rattle.ks_plan.specs.Infos.{input_numbers}
use Rattle.ks_history.specs.Machine.{has_topic}
use Rattle.ks_history.specs.State.{has_task}
use Rattle.ks_law_topology.proofs.Fits.{Fits, NodeFits, EachFits, Sourced, each_at, node_stands}
use Rattle.ks_law_topology.proofs.WellFormed.{well_formed_fits}
use Rattle.ks_law_settled.proofs.Tasks.{has_node_task}
use Rattle.ks_law_settled.specs.Routes.{PartitionsAreRead}
use Rattle.ks_law_settled.proofs.Nodes.{Among, among_either, among_at, named, Located, located}

among_kept : (f : Topic → Bool) (t : Topic) (xs : List Topic) → Among t (filter f xs) → Among t xs × (f t ≡ true)
among_kept f t [] h = absurd h
among_kept f t (x ∷ xs) h = by (f x) refl h (λ g. among_kept f t xs g)
  where
    by : (b : Bool) → f x ≡ b → Among t (cond b (x ∷ filter f xs) (filter f xs)) → (Among t (filter f xs) → Among t xs × (f t ≡ true)) → Among t (x ∷ xs) × (f t ≡ true)
    by true e (inl is) more = (inl is, ap f (sym is) ∙ e)
    by true e (inr g) more = let rest = more g in (inr rest.0, rest.1)
    by false e g more = let rest = more g in (inr rest.0, rest.1)

an_input : (t : Topic) (xs : List ℕ) → Among t (map InputTopic xs) → (a : ℕ) × (InputTopic a ≡ t)
an_input t [] h = absurd h
an_input t (x ∷ xs) (inl e) = (x, e)
an_input t (x ∷ xs) (inr h) = an_input t xs h

module _ (p : Plan) where
  -- the source of a topic that is read, among nodes
  record SourceOf (t n long : ℕ) : Type 0 where
    node : ℕ
    below : node < n + long
    sub : sub_of p (source_of p t) ≡ sub_of p node
    parts : at p.counts t ≡ parts_of p node

  find_source : (t n : ℕ) (ks : List Kind) → EachFits p n ks → any_source_of t ks ≡ true → SourceOf t n (length ks)
  find_source t n [] fit h = absurd (true≢false (sym h))
  find_source t n (k ∷ ks) fit h =
      ⊎_elim (λ (e : is_source_of t k ≡ true). here k fit.0 e)
      (λ (g : any_source_of t ks ≡ true). later (find_source t (suc n) ks fit.1 g))
      (or_cases (is_source_of t k) (any_source_of t ks) h)
    where
      later : SourceOf t (suc n) (length ks) → SourceOf t n (suc (length ks))
      later s = record { node = s.node; below = omega (arith, s.below); sub = s.sub; parts = s.parts }

      found : (u : ℕ) → Sourced p u n → nat_eq u t ≡ true → SourceOf t n (suc (length ks))
      found u f e = subst (λ v. SourceOf v n (suc (length ks))) ((Decides-eqb u t).0 e) (record { node = n; below = omega arith; sub = f.sub; parts = f.parts })

      here : (k : Kind) → NodeFits p n k → is_source_of t k ≡ true → SourceOf t n (suc (length ks))
      here (StreamSource u) f e = found u f e
      here (TableSource u) f e = found u f e
      here _ f e = absurd cc

  -- a topic that the node's own parts read
  record Passed (t : Topic) : Type 0 where
    node : ℕ
    kind : Kind
    stands : slice_get p.kinds node ≡ Some kind
    among : Among t (through_topics node kind)

  passed : (t : Topic) (n : ℕ) (ks : List Kind) → Located p n ks → Among t (by_node through_topics n ks) → Passed t
  passed t n [] at h = absurd h
  passed t n (k ∷ ks) at h = ⊎_elim
      (λ (a : Among t (through_topics n k)). record { node = n; kind = k; stands = at.0; among = a })
      (λ (b : Among t (by_node through_topics (suc n) ks)). passed t (suc n) ks at.1 b)
      (among_either t (through_topics n k) (by_node through_topics (suc n) ks) h)

  -- a topic with its reader
  pub record ReadBy (t : Topic) : Type 0 where
    pub node : ℕ
    pub below : node < length p.kinds
    pub sub : reads p t ≡ sub_of p node
    pub parts : parts_of_topic p t ≡ parts_of p node

  own_reads : (n : ℕ) → n < length p.kinds → (t : Topic) → Among t (Repartition n ∷ []) → ReadBy t
  own_reads n lt t (inl e) = subst ReadBy e (record { node = n; below = lt; sub = refl; parts = refl })
  own_reads n lt t (inr h) = absurd h

  may_read : (n : ℕ) → n < length p.kinds → (t : Topic) (through : Bool) → Among t (cond through (Repartition n ∷ []) []) → ReadBy t
  may_read n lt t true h = own_reads n lt t h
  may_read n lt t false h = absurd h

  node_reads : (n : ℕ) (k : Kind) → slice_get p.kinds n ≡ Some k → n < length p.kinds → NodeFits p n k → (t : Topic) → Among t (through_topics n k) → ReadBy t
  node_reads n (StreamAggregate f by field through) e lt fit t h = may_read n lt t through h
  node_reads n (Windowed f by w through) e lt fit t h = may_read n lt t through h
  node_reads n (TableAggregate f by field) e lt fit t h = own_reads n lt t h
  node_reads n (ForeignKeyJoin l r fk kind s) e lt fit t (inl is) =
      let k : kind_at p n ≡ ForeignKeyJoin l r fk kind s = get_or_from_slice_get p.kinds n (ForeignKeyJoin l r fk kind s) no_kind e in
      subst ReadBy is (record { node = r; below = omega (arith, fit.1, lt); sub = ap (λ x. sub_of p (right_of x)) k; parts = ap (λ x. parts_of p (right_of x)) k })
  node_reads n (ForeignKeyJoin l r fk kind s) e lt fit t (inr (inl is)) = subst ReadBy is (record { node = n; below = lt; sub = refl; parts = refl })
  node_reads n (ForeignKeyJoin l r fk kind s) e lt fit t (inr (inr h)) = absurd h
  node_reads n (StreamSource u) e lt fit t h = absurd h
  node_reads n (TableSource u) e lt fit t h = absurd h
  node_reads n (StreamFilter f x) e lt fit t h = absurd h
  node_reads n (TableFilter f x) e lt fit t h = absurd h
  node_reads n (StreamMap f s) e lt fit t h = absurd h
  node_reads n (TableMap f s) e lt fit t h = absurd h
  node_reads n (KeySelected f c) e lt fit t h = absurd h
  node_reads n (KeyJoin l r kind s) e lt fit t h = absurd h

  module _ (fits : Fits p) where
    source_reads : (a : ℕ) → is_read p a ≡ true → ReadBy (InputTopic a)
    source_reads a e =
        let s = find_source a 0 p.kinds fits e in
        record { node = s.node; below = omega (arith, s.below); sub = ap (λ b. cond b (sub_of p (source_of p a)) (sub_count p)) e ∙ s.sub; parts = s.parts }

    input_reads : (t : Topic) → is_drained p t ≡ true → (a : ℕ) × (InputTopic a ≡ t) → ReadBy t
    input_reads t e is = subst ReadBy is.1 (source_reads is.0 (ap (is_drained p) is.1 ∙ e))

    passed_reads : (t : Topic) → Passed t → ReadBy t
    passed_reads t h = node_reads h.node h.kind h.stands (slice_get_within p.kinds h.node h.kind h.stands) (each_at p 0 p.kinds h.node h.kind fits (node_stands p h.node h.kind h.stands)) t h.among

    pub read_by : (t : Topic) → Among t (drain_order p) → ReadBy t
    read_by t h =
        let kept = among_kept (is_drained p) t (input_topics p ++ by_node through_topics 0 p.kinds) h in
        ⊎_elim
        (λ (a : Among t (input_topics p)). input_reads t kept.1 (an_input t (up_to (length p.counts)) a))
        (λ (b : Among t (by_node through_topics 0 p.kinds)). passed_reads t (passed t 0 p.kinds (located p [] p.kinds refl 0 refl) b))
        (among_either t (input_topics p) (by_node through_topics 0 p.kinds) kept.0)

    pub is_task : (t : Topic) (part : ℕ) → Among t (drain_order p) → part < parts_of_topic p t → has_task (record { sub = reads p t; part = part }) (tasks p) ≡ true
    is_task t part h lt =
        let r = read_by t h in
        subst (λ s. has_task (record { sub = s; part = part }) (tasks p) ≡ true) (sym r.sub) (has_node_task p fits r.node part r.below (omega (arith, lt, r.parts)))

  pub is_input : (t : Topic) → Among t (drain_order p) → has_topic (number_of p t) (input_numbers p (reads p t)) ≡ true
  is_input t h = named (number_of p) (λ u. nat_eq (reads p u) (reads p t)) t (drain_order p) h ((Decides-eqb (reads p t) (reads p t)).1 refl)

pub partitions_are_read : PartitionsAreRead
partitions_are_read d good i t part e lt =
    let p = plan_of d in
    let there = among_at t (drain_order p) i e in
    record { task = is_task p (well_formed_fits d good) t part there lt; input = is_input p t there }
