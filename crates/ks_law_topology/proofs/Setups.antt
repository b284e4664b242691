-- A cluster of a well-formed topology can be made.
use Rattle.std.proofs.Common.{◌≡◌, ℕ, zero, suc, ◌+◌, ◌<◌, ◌≤◌, Bool, true, false, cond, List, length, [], ◌∷◌, ◌++◌, map, Some, refl, sym, ap, subst, ◌∙◌, arith, nat_eq, slice_get, length-append, append-nil, append_assoc, ⊎_elim, ◌⊎◌, inl, inr}
use Rattle.std.specs.Prelude.{◌==◌, slice_index}
use Rattle.std.specs.List.{filter, flat_map}
use Rattle.std.proofs.lemmas.List.{length-map}
use Rattle.std.proofs.lemmas.List.Concat.{flat_map-cons}
use Rattle.std.proofs.lemmas.Option.{slice_get_within, get_or_from_slice_get}
use Rattle.std.proofs.lemmas.Bool.{eqb-true, true≢false, or_cases, or_left, or_right}
use Rattle.std.proofs.lemmas.Bool.Decides.{Decides-eqb}
use Rattle.ks_record.specs.declared.record.TaskId.{TaskId}
use Rattle.ks_record.specs.Parts.{same_task}
use Rattle.ks_plan.specs.declared.node.Topic.{Topic}
use Rattle.ks_plan.specs.declared.node.Topic.TheVariants.{Input as InputTopic, Repartition, Subscriptions, Responses, Changelog, HashChangelog}
use Rattle.ks_plan.specs.Drafts.{DraftView}
use Rattle.ks_plan.specs.Plan.{Plan, Kind, plan_of}
use Rattle.ks_plan.specs.Plan.Kind.{StreamSource, TableSource, StreamFilter, TableFilter, StreamMap, TableMap, KeySelected, StreamAggregate, TableAggregate, Windowed, KeyJoin, ForeignKeyJoin}
use Rattle.ks_plan.specs.Layout.{same_topic, up_to, through_topics, changelogs_of, by_node, input_topics, topics_of, place_of, number_of, is_drained, drain_order, inputs, changelogs, reads, sub_of, sub_count, parts_of, parts_of_topic, kind_at, right_of, at, is_source_of, any_source_of, is_read, source_of, subs, first_in, sub_parts, tasks_in, tasks}
use Rattle.ks_def_tasks.specs.Messages.{Rules}
use Rattle.ks_history.specs.Machine.{has_topic, part_of}
use Rattle.ks_history.specs.State.{IsSetup, IsPart, has_task, are_once}
use Rattle.ks_history.proofs.Names.{same_task-is, same_task-refl}
use Rattle.ks_law_topology.proofs.Fits.{Fits, NodeFits, EachFits}
use Rattle.ks_law_topology.proofs.Placed.{topic-is}
use Rattle.ks_law_topology.proofs.WellFormed.{well_formed_fits}
use Rattle.ks_law_topology.specs.Work.{setup_of, SetupsAreMade}
use Rattle.ks_law_topology.proofs.Labels.{one_count}
use Rattle.ks_law_topology.proofs.Placing.{AtPlace, at_places}
use Rattle.ks_law_topology.specs.WellFormed.{IsWellFormed}
use Rattle.ks_law_topology.proofs.Few.{node_few}
use Rattle.ks_def_tasks.proofs.Numbered.{length_up_to, get_up_to, get_map, first_has}

-- ---- a subtopology's tasks
module _ (p : Plan) (fits : Fits p) where
  nodes_get : (i : ℕ) → i < length p.kinds → slice_get (subs p) i ≡ Some (sub_of p i)
  nodes_get i lt = get_map (sub_of p) (up_to (length p.kinds)) i i (get_up_to (length p.kinds) i lt)

  -- as many as each of its nodes has partitions
  parts_are : (m : ℕ) → m < length p.kinds → sub_parts p (sub_of p m) ≡ parts_of p m
  parts_are m lt =
      let first = first_in (sub_of p m) (subs p) in
      let there : slice_get (subs p) first ≡ Some (sub_of p m) = first_has (sub_of p m) (subs p) m (nodes_get m lt) in
      let long : length (subs p) ≡ length p.kinds = length-map (up_to (length p.kinds)) (sub_of p) ∙ length_up_to (length p.kinds) in
      let within : first < length p.kinds = omega (arith, slice_get_within (subs p) first (sub_of p m) there, long) in
      one_count p fits first m within lt (same_some (sub_of p first) (sub_of p m) (sym (nodes_get first within) ∙ there))
    where
      same_some : (a b : ℕ) → Some a ≡ Some b → a ≡ b
      same_some a b e = cc

-- ---- tasks
task_either : (t : TaskId) (xs ys : List TaskId) → has_task t (xs ++ ys) ≡ true → (has_task t xs ≡ true) ⊎ (has_task t ys ≡ true)
task_either t [] ys h = inr h
task_either t (x ∷ xs) ys h = ⊎_elim (λ (e : same_task t x ≡ true). inl (or_left (same_task t x) _ e))
    (λ (g : has_task t (xs ++ ys) ≡ true). ⊎_elim (λ (a : has_task t xs ≡ true). inl (or_right (same_task t x) _ a)) (λ (b : has_task t ys ≡ true). inr b) (task_either t xs ys g))
    (or_cases (same_task t x) (has_task t (xs ++ ys)) h)

abbrev in_sub : ℕ → ℕ → TaskId
in_sub sub part = record { sub = sub; part = part }

map_last : (sub n : ℕ) (xs : List ℕ) → map (in_sub sub) (xs ++ n ∷ []) ≡ map (in_sub sub) xs ++ in_sub sub n ∷ []
map_last sub n [] = refl
map_last sub n (x ∷ xs) = ap (λ (l : List TaskId). in_sub sub x ∷ l) (map_last sub n xs)

-- which tasks stand among those of one subtopology
within_sub : (t : TaskId) (sub n : ℕ) → has_task t (map (in_sub sub) (up_to n)) ≡ true → (t.sub ≡ sub) × (t.part < n)
within_sub t sub zero h = absurd (true≢false (sym h))
within_sub t sub (suc n) h = ⊎_elim
    (λ (a : has_task t (map (in_sub sub) (up_to n)) ≡ true). let r = within_sub t sub n a in (r.0, omega (arith, r.1)))
    (λ (b : has_task t (in_sub sub n ∷ []) ≡ true).
    ⊎_elim (λ (e : same_task t (in_sub sub n) ≡ true).
    let s : t ≡ in_sub sub n = same_task-is t (in_sub sub n) e in
    (ap (λ (u : TaskId). u.sub) s, omega (arith, ap (λ (u : TaskId). u.part) s)))
    (λ (f : false ≡ true). absurd (true≢false (sym f)))
    (or_cases (same_task t (in_sub sub n)) false b))
    (task_either t (map (in_sub sub) (up_to n)) (in_sub sub n ∷ []) (ap (has_task t) (sym (map_last sub n (up_to n))) ∙ h))

module _ (p : Plan) where
  flat_last : (n : ℕ) (xs : List ℕ) → flat_map (tasks_in p) (xs ++ n ∷ []) ≡ flat_map (tasks_in p) xs ++ tasks_in p n
  flat_last n [] = flat_map-cons (tasks_in p) n [] ∙ append-nil (tasks_in p n)
  flat_last n (x ∷ xs) = flat_map-cons (tasks_in p) x (xs ++ n ∷ []) ∙ ap (λ l. tasks_in p x ++ l) (flat_last n xs) ∙ sym (append_assoc (tasks_in p x) (flat_map (tasks_in p) xs) (tasks_in p n))
      ∙ ap (λ l. l ++ tasks_in p n) (sym (flat_map-cons (tasks_in p) x xs))

  within_tasks : (t : TaskId) (n : ℕ) → has_task t (flat_map (tasks_in p) (up_to n)) ≡ true → (t.sub < n) × (t.part < sub_parts p t.sub)
  within_tasks t zero h = absurd (true≢false (sym h))
  within_tasks t (suc n) h = ⊎_elim
      (λ (a : has_task t (flat_map (tasks_in p) (up_to n)) ≡ true). let r = within_tasks t n a in (omega (arith, r.0), r.1))
      (λ (b : has_task t (tasks_in p n) ≡ true). let r = within_sub t n (sub_parts p n) b in (omega (arith, r.0), subst (λ k. t.part < sub_parts p k) (sym r.0) r.1))
      (task_either t (flat_map (tasks_in p) (up_to n)) (tasks_in p n) (ap (has_task t) (sym (flat_last n (up_to n))) ∙ h))

-- ---- no task twice
once-append : (xs ys : List TaskId) → are_once xs ≡ true → are_once ys ≡ true → ((t : TaskId) → has_task t xs ≡ true → has_task t ys ≡ false) → are_once (xs ++ ys) ≡ true
once-append [] ys a b apart = b
once-append (x ∷ xs) ys a b apart = by (has_task x xs) refl a (λ g. once-append xs ys g b (λ t h. apart t (or_right (same_task t x) _ h)))
  where
    none : has_task x xs ≡ false → has_task x (xs ++ ys) ≡ false
    none e = elim (has_task x (xs ++ ys)) as (λ c. has_task x (xs ++ ys) ≡ c → c ≡ false) [
      | true ↦ λ h. absurd (⊎_elim (λ (l : has_task x xs ≡ true). true≢false (sym l ∙ e)) (λ (r : has_task x ys ≡ true). true≢false (sym r ∙ apart x (or_left (same_task x x) (has_task x xs) (same_task-refl x)))) (task_either x xs ys h))
      | false ↦ λ h. refl
    ] refl

    by : (c : Bool) → has_task x xs ≡ c → cond c false (are_once xs) ≡ true → (are_once xs ≡ true → are_once (xs ++ ys) ≡ true) → cond (has_task x (xs ++ ys)) false (are_once (xs ++ ys)) ≡ true
    by true e h f = absurd (true≢false (sym h))
    by false e h f = ap (λ c. cond c false (are_once (xs ++ ys))) (none e) ∙ f h

one_alone : (t : TaskId) → are_once (t ∷ []) ≡ true
one_alone t = refl

not_there : (t : TaskId) (ts : List TaskId) → (has_task t ts ≡ true → ⊥) → has_task t ts ≡ false
not_there t ts f = elim (has_task t ts) as (λ b. has_task t ts ≡ b → b ≡ false) [ true ↦ λ e. absurd (f e) | false ↦ λ e. refl ] refl

once_in : (sub n : ℕ) → are_once (map (in_sub sub) (up_to n)) ≡ true
once_in sub zero = refl
once_in sub (suc n) = ap are_once (map_last sub n (up_to n))
    ∙ once-append (map (in_sub sub) (up_to n)) (in_sub sub n ∷ []) (once_in sub n) refl
    (λ t h. not_there t (in_sub sub n ∷ []) (λ g.
    let low = within_sub t sub n h in
    ⊎_elim (λ (e : same_task t (in_sub sub n) ≡ true). let s : t ≡ in_sub sub n = same_task-is t (in_sub sub n) e in omega (arith, low.1, ap (λ (u : TaskId). u.part) s))
    (λ (f : false ≡ true). true≢false (sym f)) (or_cases (same_task t (in_sub sub n)) false g)))

once_all : (p : Plan) (n : ℕ) → are_once (flat_map (tasks_in p) (up_to n)) ≡ true
once_all p zero = refl
once_all p (suc n) = ap are_once (flat_last p n (up_to n))
    ∙ once-append (flat_map (tasks_in p) (up_to n)) (tasks_in p n) (once_all p n) (once_in n (sub_parts p n))
    (λ t h. not_there t (tasks_in p n) (λ g. omega (arith, (within_tasks p t n h).0, (within_sub t n (sub_parts p n) g).0)))

-- ---- topics and the nodes that they go with
abbrev Each : (Topic → Type 0) → List Topic → Type 0
Each P [] = Unit {0}
Each P (t ∷ ts) = P t × Each P ts

each-append : (P : Topic → Type 0) (xs ys : List Topic) → Each P xs → Each P ys → Each P (xs ++ ys)
each-append P [] ys a b = b
each-append P (x ∷ xs) ys a b = (a.0, each-append P xs ys a.1 b)

each-left : (P : Topic → Type 0) (xs ys : List Topic) → Each P (xs ++ ys) → Each P xs
each-left P [] ys h = tt
each-left P (x ∷ xs) ys h = (h.0, each-left P xs ys h.1)

each-right : (P : Topic → Type 0) (xs ys : List Topic) → Each P (xs ++ ys) → Each P ys
each-right P [] ys h = h
each-right P (x ∷ xs) ys h = each-right P xs ys h.1

each-map : (P Q : Topic → Type 0) → ((t : Topic) → P t → Q t) → (xs : List Topic) → Each P xs → Each Q xs
each-map P Q f [] h = tt
each-map P Q f (x ∷ xs) h = (f x h.0, each-map P Q f xs h.1)

each-both : (P Q : Topic → Type 0) (xs : List Topic) → Each P xs → Each Q xs → Each (λ t. P t × Q t) xs
each-both P Q [] a b = tt
each-both P Q (x ∷ xs) a b = ((a.0, b.0), each-both P Q xs a.1 b.1)

each-filter : (P : Topic → Type 0) (f : Topic → Bool) (xs : List Topic) → Each P xs → Each (λ t. P t × (f t ≡ true)) (filter f xs)
each-filter P f [] h = tt
each-filter P f (x ∷ xs) h = by (f x) refl (each-filter P f xs h.1)
  where
    by : (b : Bool) → f x ≡ b → Each (λ t. P t × (f t ≡ true)) (filter f xs) → Each (λ t. P t × (f t ≡ true)) (cond b (x ∷ filter f xs) (filter f xs))
    by true e more = ((h.0, e), more)
    by false e more = more

abbrev Found : List Topic → Topic → Type 0
Found us t = slice_get us (place_of us t) ≡ Some t

topic_itself : (t : Topic) → same_topic t t ≡ true
topic_itself (InputTopic n) = (Decides-eqb n n).1 refl
topic_itself (Repartition n) = (Decides-eqb n n).1 refl
topic_itself (Subscriptions n) = (Decides-eqb n n).1 refl
topic_itself (Responses n) = (Decides-eqb n n).1 refl
topic_itself (Changelog n) = (Decides-eqb n n).1 refl
topic_itself (HashChangelog n) = (Decides-eqb n n).1 refl

found_more : (y : Topic) (us : List Topic) (t : Topic) → Found us t → Found (y ∷ us) t
found_more y us t h = elim (same_topic y t) as (λ b. same_topic y t ≡ b → slice_get (y ∷ us) (cond b 0 (suc (place_of us t))) ≡ Some t) [
  | true ↦ λ e. ap (λ (v : Topic). Some v) (topic-is y t e)
  | false ↦ λ e. h
] refl

all_found : (us : List Topic) → Each (Found us) us
all_found [] = tt
all_found (y ∷ us) = (ap (λ b. slice_get (y ∷ us) (cond b 0 (suc (place_of us y)))) (topic_itself y), each-map (Found us) (Found (y ∷ us)) (found_more y us) us (all_found us))

module _ (p : Plan) (fits : Fits p) where
  -- a node of the plan with a topic's tasks and partitions
  record HasNode (t : Topic) : Type 0 where
    node : ℕ
    within : node < length p.kinds
    sub : reads p t ≡ sub_of p node
    parts : parts_of_topic p t ≡ parts_of p node

  -- the source of a topic
  record IsSource (t n len : ℕ) : Type 0 where
    node : ℕ
    below : node < n + len
    sub : sub_of p (source_of p t) ≡ sub_of p node
    parts : at p.counts t ≡ parts_of p node

  later : (t n len : ℕ) → IsSource t (suc n) len → IsSource t n (suc len)
  later t n len s = record { node = s.node; below = omega (arith, s.below); sub = s.sub; parts = s.parts }

  source_here : (t u n len : ℕ) → nat_eq u t ≡ true → (sub_of p (source_of p u) ≡ sub_of p n) × (at p.counts u ≡ parts_of p n) → IsSource t n (suc len)
  source_here t u n len e s =
      let is : u ≡ t = (Decides-eqb u t).0 e in
      record { node = n; below = omega arith; sub = subst (λ x. sub_of p (source_of p x) ≡ sub_of p n) is s.0; parts = subst (λ x. at p.counts x ≡ parts_of p n) is s.1 }

  find_source : (t n : ℕ) (ks : List Kind) → EachFits p n ks → any_source_of t ks ≡ true → IsSource t n (length ks)
  find_source t n [] fit h = absurd (true≢false (sym h))
  find_source t n (k ∷ ks) fit h = ⊎_elim (λ (e : is_source_of t k ≡ true). here k fit.0 e) (λ (g : any_source_of t ks ≡ true). later t n (length ks) (find_source t (suc n) ks fit.1 g)) (or_cases (is_source_of t k) (any_source_of t ks) h)
    where
      here : (k : Kind) → NodeFits p n k → is_source_of t k ≡ true → IsSource t n (suc (length ks))
      here (StreamSource u) f e = source_here t u n (length ks) e (f.sub, f.parts)
      here (TableSource u) f e = source_here t u n (length ks) e (f.sub, f.parts)
      here (StreamFilter g x) f e = absurd (true≢false (sym e))
      here (TableFilter g x) f e = absurd (true≢false (sym e))
      here (StreamMap g s) f e = absurd (true≢false (sym e))
      here (TableMap g s) f e = absurd (true≢false (sym e))
      here (KeySelected g c) f e = absurd (true≢false (sym e))
      here (StreamAggregate g by field through) f e = absurd (true≢false (sym e))
      here (TableAggregate g by field) f e = absurd (true≢false (sym e))
      here (Windowed g by w through) f e = absurd (true≢false (sym e))
      here (KeyJoin l r kind s) f e = absurd (true≢false (sym e))
      here (ForeignKeyJoin l r fk kind s) f e = absurd (true≢false (sym e))

  drawn_inputs : (xs : List ℕ) → Each HasNode (filter (is_drained p) (map InputTopic xs))
  drawn_inputs [] = tt
  drawn_inputs (x ∷ xs) = by (is_read p x) refl (drawn_inputs xs)
    where
      by : (b : Bool) → is_read p x ≡ b → Each HasNode (filter (is_drained p) (map InputTopic xs)) → Each HasNode (cond b (InputTopic x ∷ filter (is_drained p) (map InputTopic xs)) (filter (is_drained p) (map InputTopic xs)))
      by true e more =
          let s = find_source x 0 p.kinds fits e in
          (record { node = s.node; within = omega (arith, s.below); sub = ap (λ b. cond b (sub_of p (source_of p x)) (sub_count p)) e ∙ s.sub; parts = s.parts }, more)
      by false e more = more

  mine : (t : Topic) (n : ℕ) → n < length p.kinds → reads p t ≡ sub_of p n → parts_of_topic p t ≡ parts_of p n → HasNode t
  mine t n lt a b = record { node = n; within = lt; sub = a; parts = b }

  right_within : (n l r : ℕ) (kind : Kind) → kind_at p n ≡ kind → r ≡ right_of kind → r < n → n < length p.kinds → right_of (kind_at p n) < length p.kinds
  right_within n l r kind e is lt within = omega (arith, ap right_of e, is, lt, within)

  through_nodes : (n : ℕ) (k : Kind) → n < length p.kinds → kind_at p n ≡ k → NodeFits p n k → Each HasNode (through_topics n k)
  through_nodes n (StreamAggregate f by field true) lt e fit = (mine (Repartition n) n lt refl refl, tt)
  through_nodes n (StreamAggregate f by field false) lt e fit = tt
  through_nodes n (TableAggregate f by field) lt e fit = (mine (Repartition n) n lt refl refl, tt)
  through_nodes n (Windowed f by w true) lt e fit = (mine (Repartition n) n lt refl refl, tt)
  through_nodes n (Windowed f by w false) lt e fit = tt
  through_nodes n (ForeignKeyJoin l r fk kind s) lt e fit =
      (mine (Subscriptions n) (right_of (kind_at p n)) (right_within n l r (ForeignKeyJoin l r fk kind s) e refl fit.1 lt) refl refl, (mine (Responses n) n lt refl refl, tt))
  through_nodes n (StreamSource t) lt e fit = tt
  through_nodes n (TableSource t) lt e fit = tt
  through_nodes n (StreamFilter f x) lt e fit = tt
  through_nodes n (TableFilter f x) lt e fit = tt
  through_nodes n (StreamMap f s) lt e fit = tt
  through_nodes n (TableMap f s) lt e fit = tt
  through_nodes n (KeySelected f c) lt e fit = tt
  through_nodes n (KeyJoin l r kind s) lt e fit = tt

  log_nodes : (n : ℕ) (k : Kind) → n < length p.kinds → kind_at p n ≡ k → NodeFits p n k → Each HasNode (changelogs_of n k)
  log_nodes n (ForeignKeyJoin l r fk kind s) lt e fit =
      (mine (Changelog n) n lt refl refl, (mine (HashChangelog n) (right_of (kind_at p n)) (right_within n l r (ForeignKeyJoin l r fk kind s) e refl fit.1 lt) refl refl, tt))
  log_nodes n (StreamSource t) lt e fit = tt
  log_nodes n (StreamFilter f x) lt e fit = tt
  log_nodes n (StreamMap f s) lt e fit = tt
  log_nodes n (KeySelected f c) lt e fit = tt
  log_nodes n (TableSource t) lt e fit = (mine (Changelog n) n lt refl refl, tt)
  log_nodes n (TableFilter f x) lt e fit = (mine (Changelog n) n lt refl refl, tt)
  log_nodes n (TableMap f s) lt e fit = (mine (Changelog n) n lt refl refl, tt)
  log_nodes n (StreamAggregate f by field through) lt e fit = (mine (Changelog n) n lt refl refl, tt)
  log_nodes n (TableAggregate f by field) lt e fit = (mine (Changelog n) n lt refl refl, tt)
  log_nodes n (Windowed f by w through) lt e fit = (mine (Changelog n) n lt refl refl, tt)
  log_nodes n (KeyJoin l r kind s) lt e fit = (mine (Changelog n) n lt refl refl, tt)

  nodes_all : (rules : Rules) (f : ℕ → Kind → List Topic) → ((n : ℕ) (k : Kind) → n < length p.kinds → kind_at p n ≡ k → NodeFits p n k → Each HasNode (f n k)) →
      (n : ℕ) (ks : List Kind) → n + length ks ≡ length p.kinds → AtPlace rules p n ks → EachFits p n ks → Each HasNode (by_node f n ks)
  nodes_all rules f each n [] e at fit = tt
  nodes_all rules f each n (k ∷ ks) e at fit =
      each-append HasNode (f n k) (by_node f (suc n) ks) (each n k (omega (arith, e)) at.0 fit.0) (nodes_all rules f each (suc n) ks (omega (arith, e)) at.1 fit.1)

  filter-append : (f : Topic → Bool) (xs ys : List Topic) → filter f (xs ++ ys) ≡ filter f xs ++ filter f ys
  filter-append f [] ys = refl
  filter-append f (x ∷ xs) ys = by (f x) (filter-append f xs ys)
    where
      by : (b : Bool) → filter f (xs ++ ys) ≡ filter f xs ++ filter f ys → cond b (x ∷ filter f (xs ++ ys)) (filter f (xs ++ ys)) ≡ cond b (x ∷ filter f xs) (filter f xs) ++ filter f ys
      by true e = ap (λ l. x ∷ l) e
      by false e = e

  -- the topics that are read, and the changelogs
  abbrev Good : Topic → Type 0
  Good t = HasNode t × Found (topics_of p) t

  module _ (rules : Rules) where
    places : AtPlace rules p 0 p.kinds
    places = at_places rules p [] p.kinds refl 0 refl

    good_drawn : Each Good (drain_order p)
    good_drawn =
        let first = input_topics p in
        let second = by_node through_topics 0 p.kinds in
        let through : Each HasNode second = nodes_all rules through_topics through_nodes 0 p.kinds (omega arith) places fits in
        let nodes : Each HasNode (filter (is_drained p) (first ++ second)) =
        subst (Each HasNode) (sym (filter-append (is_drained p) first second))
        (each-append HasNode (filter (is_drained p) first) _ (drawn_inputs (up_to (length p.counts)))
        (each-map (λ t. HasNode t × (is_drained p t ≡ true)) HasNode (λ t h. h.0) (filter (is_drained p) second) (each-filter HasNode (is_drained p) second through))) in
        let found : Each (Found (topics_of p)) (first ++ second) = each-left (Found (topics_of p)) (first ++ second) (by_node changelogs_of 0 p.kinds) (all_found (topics_of p)) in
        each-both HasNode (Found (topics_of p)) (drain_order p) nodes
        (each-map (λ t. Found (topics_of p) t × (is_drained p t ≡ true)) (Found (topics_of p)) (λ t h. h.0) (drain_order p) (each-filter (Found (topics_of p)) (is_drained p) (first ++ second) found))

    good_logs : Each Good (by_node changelogs_of 0 p.kinds)
    good_logs = each-both HasNode (Found (topics_of p)) (by_node changelogs_of 0 p.kinds)
        (nodes_all rules changelogs_of log_nodes 0 p.kinds (omega arith) places fits)
        (each-right (Found (topics_of p)) (input_topics p ++ by_node through_topics 0 p.kinds) (by_node changelogs_of 0 p.kinds) (all_found (topics_of p)))

    -- a topic of a subtopology by its number
    record IsOf (sub n : ℕ) : Type 0 where
      topic : Topic
      good : Good topic
      reader : nat_eq (reads p topic) sub ≡ true
      number : n ≡ number_of p topic

    named : (sub n : ℕ) (xs : List Topic) → Each (λ t. Good t × (nat_eq (reads p t) sub ≡ true)) xs → has_topic n (map (number_of p) xs) ≡ true → IsOf sub n
    named sub n [] h there = absurd (true≢false (sym there))
    named sub n (x ∷ xs) h there = ⊎_elim
        (λ (e : (n == number_of p x) ≡ true). record { topic = x; good = h.0.0; reader = h.0.1; number = eqb-true n (number_of p x) e })
        (λ (g : has_topic n (map (number_of p) xs) ≡ true). named sub n xs h.1 g)
        (or_cases (n == number_of p x) (has_topic n (map (number_of p) xs)) there)

    is_part : (t : TaskId) (n : ℕ) → has_task t (tasks p) ≡ true → IsOf t.sub n → IsPart (setup_of rules p) (part_of n t)
    is_part t n there x =
        let node : HasNode x.topic = x.good.0 in
        let at : slice_get (topics_of p) n ≡ Some x.topic = ap (slice_get (topics_of p)) x.number ∙ x.good.1 in
        let inside : n < length (topics_of p) = slice_get_within (topics_of p) n x.topic at in
        let mapped : slice_get (map (parts_of_topic p) (topics_of p)) n ≡ Some (parts_of_topic p x.topic) = get_map (parts_of_topic p) (topics_of p) n x.topic at in
        let value : slice_index (map (parts_of_topic p) (topics_of p)) n ≡ parts_of_topic p x.topic = get_or_from_slice_get (map (parts_of_topic p) (topics_of p)) n (parts_of_topic p x.topic) 0 mapped in
        let sub : sub_of p node.node ≡ t.sub = sym node.sub ∙ (Decides-eqb (reads p x.topic) t.sub).0 x.reader in
        let parts : sub_parts p t.sub ≡ parts_of_topic p x.topic = ap (sub_parts p) (sym sub) ∙ parts_are p fits node.node node.within ∙ sym node.parts in
        record {
          topic = omega (arith, inside, length-map (topics_of p) (parts_of_topic p));
          part = omega (arith, (within_tasks p t (sub_count p) there).1, parts, value);
        }

    length_inputs : length (map InputTopic (up_to (length p.counts))) ≡ length p.counts
    length_inputs = length-map (up_to (length p.counts)) InputTopic ∙ length_up_to (length p.counts)

    is_setup : IsSetup (setup_of rules p)
    is_setup = record {
      once = once_all p (sub_count p);
      sources = omega (
        arith,
        length-map (topics_of p) (parts_of_topic p),
        length_inputs,
        length-append (input_topics p ++ by_node through_topics 0 p.kinds) (by_node changelogs_of 0 p.kinds),
        length-append (input_topics p) (by_node through_topics 0 p.kinds),
      );
      inputs = λ t n there h. is_part t n there (named t.sub n (inputs p t.sub) (each-filter Good (λ t'. nat_eq (reads p t') t.sub) (drain_order p) good_drawn) h);
      changelogs = λ t n there h. is_part t n there (named t.sub n (changelogs p t.sub) (each-filter Good (λ t'. nat_eq (reads p t') t.sub) (by_node changelogs_of 0 p.kinds) good_logs) h);
    }

pub setups_are_made : SetupsAreMade
setups_are_made rules d well = is_setup (plan_of d) (well_formed_fits d well) rules

-- a task's partition is one of 64
pub task_few : (d : DraftView) (t : TaskId) → IsWellFormed d → has_task t (tasks (plan_of d)) ≡ true → t.part ≤ 63
task_few d t e there =
    let p = plan_of d in
    omega (arith, (within_tasks p t (sub_count p) there).1, node_few d e (first_in t.sub (subs p)))
