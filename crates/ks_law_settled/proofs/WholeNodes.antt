-- The nodes of a plan of any kinds, and their changelogs by number.
use Rattle.std.proofs.Common.{◌≡◌, ℕ, suc, ◌<◌, Bool, true, false, List, length, [], ◌∷◌, ◌++◌, map, get_or, slice_get, Some, refl, sym, ap, subst, ◌∙◌, arith, nat_eq, length-append}
use Rattle.std.specs.List.{filter, AllByRecursion}
use Rattle.std.proofs.lemmas.Bool.{true≢false}
use Rattle.std.proofs.lemmas.Bool.Decides.{Decides-eqb}
use Rattle.ks_plan.specs.declared.node.Topic.{Topic}
use Rattle.ks_plan.specs.declared.node.Topic.TheVariants.{Changelog, HashChangelog}
use Rattle.ks_plan.specs.Plan.{Plan, Kind, is_stream}
use Rattle.ks_plan.specs.Plan.Kind.{StreamSource, TableSource, StreamFilter, TableFilter, StreamMap, TableMap, KeySelected, StreamAggregate, TableAggregate, Windowed, KeyJoin, ForeignKeyJoin}
use Rattle.ks_plan.specs.Layout.{number_of, kind_at, no_kind, reads, by_node, changelogs, changelogs_of}
use Rattle.ks_plan.specs.Infos.{changelog_numbers}
use Rattle.ks_history.specs.Machine.{has_topic}
use Rattle.ks_def_tasks.specs.Bytes.{is_own_number}
use Rattle.ks_def_tasks.proofs.Each.{AllOf, all_filter, all_both}
use Rattle.ks_law_topology.proofs.Fits.{Fits, NodeFits, EachFits}
use Rattle.ks_law_kinds.specs.Fitting.{FitsKind, FitsPlan}
use Rattle.ks_law_settled.proofs.Lists.{EachNode, each_node, each_both, each_map, of_nodes, by_nodes, all_numbered, Numbered, numbered}
use Rattle.ks_law_settled.proofs.Topics.{At, found_logs, same_number, number_is}
use Rattle.ks_law_settled.proofs.Spelled.{Joins}
use Rattle.ks_law_topology.specs.Work.{HaveFewParts}

-- what a plan must be: shaped as a well-formed draft's, with names and constants that can be spelled, and at most 64 partitions of each topic
pub record Whole (p : Plan) : Type 0 where
  pub spelled : FitsPlan p
  pub fits : Fits p
  pub few : HaveFewParts p

get_end : (xs : List Kind) (x : Kind) (ys : List Kind) → get_or (xs ++ x ∷ ys) (length xs) no_kind ≡ x
get_end [] x ys = refl
get_end (y ∷ xs) x ys = get_end xs x ys

each_fits : (p : Plan) (n : ℕ) (ks : List Kind) → EachFits p n ks → EachNode (NodeFits p) n ks
each_fits p n [] h = tt
each_fits p n (k ∷ ks) h = (h.0, each_fits p (suc n) ks h.1)

fits_at : (before : List Kind) (k : Kind) (rest : List Kind) → AllByRecursion FitsKind (before ++ k ∷ rest) → FitsKind k
fits_at [] k rest h = h.0
fits_at (x ∷ before) k rest h = fits_at before k rest h.1

get_at : (before : List Kind) (k : Kind) (rest : List Kind) → slice_get (before ++ k ∷ rest) (length before) ≡ Some k
get_at [] k rest = refl
get_at (x ∷ before) k rest = get_at before k rest

module _ (p : Plan) (whole : Whole p) where
  pub record NodeIs (n : ℕ) (k : Kind) : Type 0 where
    pub kind : kind_at p n ≡ k
    pub there : slice_get p.kinds n ≡ Some k
    pub within : n < length p.kinds
    pub spelled : FitsKind k
    pub fits : NodeFits p n k

  abbrev OneNode : ℕ → Kind → Type 0
  OneNode n k = (kind_at p n ≡ k) × (slice_get p.kinds n ≡ Some k) × (n < length p.kinds) × FitsKind k

  pub nodes_are : EachNode NodeIs 0 p.kinds
  nodes_are = each_map (λ n k. OneNode n k × NodeFits p n k) NodeIs
      (λ n k h. record { kind = h.0.0; there = h.0.1; within = h.0.2; spelled = h.0.3; fits = h.1 }) 0 p.kinds
      (each_both OneNode (NodeFits p) 0 p.kinds
      (each_node OneNode p.kinds
      (λ before k rest e. (
        ap (λ l. get_or l (length before) no_kind) e ∙ get_end before k rest,
        ap (λ (l : List Kind). slice_get l (length before)) e ∙ get_at before k rest,
        omega (arith, ap (λ (l : List Kind). length l) e, length-append before (k ∷ rest)),
        fits_at before k rest (subst (AllByRecursion FitsKind) e whole.spelled),
      )))
      (each_fits p 0 p.kinds whole.fits))

  -- what a changelog is of: a table or a windowed count, or the subscriptions of a join
  abbrev pub IsLog : Topic → Type 0
  IsLog (Changelog n) = (n < length p.kinds) × (is_stream (kind_at p n) ≡ false)
  IsLog (HashChangelog n) = (n < length p.kinds) × Joins (kind_at p n)
  IsLog _ = ⊥

  node_logs : (n : ℕ) (k : Kind) → NodeIs n k → AllOf IsLog (changelogs_of n k)
  node_logs n (TableSource t) h = ((h.within, ap is_stream h.kind), tt)
  node_logs n (TableFilter f x) h = ((h.within, ap is_stream h.kind), tt)
  node_logs n (TableMap f s) h = ((h.within, ap is_stream h.kind), tt)
  node_logs n (StreamAggregate f by field through) h = ((h.within, ap is_stream h.kind), tt)
  node_logs n (TableAggregate f by field) h = ((h.within, ap is_stream h.kind), tt)
  node_logs n (KeyJoin l r kind s) h = ((h.within, ap is_stream h.kind), tt)
  node_logs n (Windowed f by w through) h = ((h.within, ap is_stream h.kind), tt)
  node_logs n (ForeignKeyJoin l r fk kind s) h = ((h.within, ap is_stream h.kind), ((h.within, subst Joins (sym h.kind) tt), tt))
  node_logs n (StreamSource t) h = tt
  node_logs n (StreamFilter f x) h = tt
  node_logs n (StreamMap f s) h = tt
  node_logs n (KeySelected f x) h = tt

  logs_are : AllOf IsLog (by_node changelogs_of 0 p.kinds)
  logs_are = by_nodes IsLog changelogs_of 0 p.kinds (each_map NodeIs (λ n k. AllOf IsLog (changelogs_of n k)) node_logs 0 p.kinds nodes_are)

  -- of a number of an own changelog
  pub own_log : (sub : ℕ) (t : Topic) → is_own_number p sub (number_of p t) ≡ true → IsLog t
  own_log sub t h =
      let x : Numbered (λ u. (At p u × IsLog u) × (nat_eq (reads p u) sub ≡ true)) (number_of p) (number_of p t) =
      numbered (λ u. (At p u × IsLog u) × (nat_eq (reads p u) sub ≡ true)) (number_of p) (number_of p t) (changelogs p sub)
      (all_filter (λ u. At p u × IsLog u) (λ u. nat_eq (reads p u) sub) (by_node changelogs_of 0 p.kinds) (all_both (At p) IsLog (by_node changelogs_of 0 p.kinds) (found_logs p) logs_are))
      (sym (number_is (number_of p t) (changelog_numbers p sub)) ∙ h) in
      subst IsLog (same_number p x.member t x.holds.0.0 (sym x.is)) x.holds.0.1

  -- a changelog is its subtopology's, and a topic of the plan
  pub record IsOwned (t : Topic) : Type 0 where
    pub there : At p t
    pub own : has_topic (number_of p t) (changelog_numbers p (reads p t)) ≡ true

  abbrev Numbers : Topic → Type 0
  Numbers t = (g : Topic → Bool) → g t ≡ true → has_topic (number_of p t) (map (number_of p) (filter g (by_node changelogs_of 0 p.kinds))) ≡ true

  pub owned : EachNode (λ n k. AllOf IsOwned (changelogs_of n k)) 0 p.kinds
  owned = of_nodes IsOwned changelogs_of 0 p.kinds (each (by_node changelogs_of 0 p.kinds) (all_both (At p) Numbers (by_node changelogs_of 0 p.kinds) (found_logs p) (all_numbered (number_of p) (by_node changelogs_of 0 p.kinds))))
    where
      each : (ts : List Topic) → AllOf (λ t. At p t × Numbers t) ts → AllOf IsOwned ts
      each [] h = tt
      each (t ∷ ts) h = (record { there = h.0.0; own = h.0.1 (λ u. nat_eq (reads p u) (reads p t)) ((Decides-eqb (reads p t) (reads p t)).1 refl) }, each ts h.1)

  -- of a table or a windowed count
  pub table_log : (n : ℕ) (k : Kind) → is_stream k ≡ false → AllOf IsOwned (changelogs_of n k) → IsOwned (Changelog n)
  table_log n (TableSource t) e h = h.0
  table_log n (TableFilter f x) e h = h.0
  table_log n (TableMap f s) e h = h.0
  table_log n (StreamAggregate f by field through) e h = h.0
  table_log n (TableAggregate f by field) e h = h.0
  table_log n (KeyJoin l r kind s) e h = h.0
  table_log n (Windowed f by w through) e h = h.0
  table_log n (ForeignKeyJoin l r fk kind s) e h = h.0
  table_log n _ e h = absurd (true≢false e)

  -- of the subscriptions of a join
  pub hash_log : (n : ℕ) (k : Kind) → Joins k → AllOf IsOwned (changelogs_of n k) → IsOwned (HashChangelog n)
  hash_log n (ForeignKeyJoin l r fk kind s) e h = h.1.0
  hash_log n _ e h = absurd e
