-- The tasks of a plan: each partition of each node has one.
use Rattle.std.proofs.Common.{◌≡◌, ℕ, zero, suc, ◌<◌, Bool, true, false, List, length, [], ◌∷◌, ◌++◌, map, slice_get, Some, refl, sym, ap, subst, ◌∙◌, arith, ⊎_elim}
use Rattle.std.specs.Prelude.{◌==◌}
use Rattle.std.specs.List.{flat_map}
use Rattle.std.proofs.lemmas.List.{length-map}
use Rattle.std.proofs.lemmas.List.Concat.{flat_map-cons}
use Rattle.std.proofs.lemmas.Option.{slice_get_within}
use Rattle.std.proofs.lemmas.Bool.{eqb-true, eq-eqb, true≢false, or_cases, or_left, or_right}
use Rattle.ks_record.specs.declared.record.TaskId.{TaskId}
use Rattle.ks_record.specs.Parts.{same_task}
use Rattle.ks_plan.specs.Plan.{Plan}
use Rattle.ks_plan.specs.Layout.{up_to, sub_of, sub_count, parts_of, subs, first_in, sub_parts, tasks_in, tasks}
use Rattle.ks_history.specs.Machine.{has_topic}
use Rattle.ks_history.specs.State.{has_task}
use Rattle.ks_history.proofs.Names.{same_task-refl}
use Rattle.ks_law_topology.proofs.Fits.{Fits}
use Rattle.ks_law_topology.proofs.Labels.{one_count, sub_within}
use Rattle.ks_def_tasks.proofs.Numbered.{length_up_to, get_up_to, get_map, first_has}

in_last : (i n : ℕ) (xs : List ℕ) → has_topic i xs ≡ true → has_topic i (xs ++ n ∷ []) ≡ true
in_last i n [] h = absurd (true≢false (sym h))
in_last i n (x ∷ xs) h = ⊎_elim (λ (e : (i == x) ≡ true). or_left (i == x) _ e) (λ (g : has_topic i xs ≡ true). or_right (i == x) _ (in_last i n xs g)) (or_cases (i == x) (has_topic i xs) h)

is_last : (n : ℕ) (xs : List ℕ) → has_topic n (xs ++ n ∷ []) ≡ true
is_last n [] = or_left (n == n) false (eq-eqb n n refl)
is_last n (x ∷ xs) = or_right (n == x) _ (is_last n xs)

in_up_to : (n i : ℕ) → i < n → has_topic i (up_to n) ≡ true
in_up_to zero i lt = absurd (omega (arith, lt))
in_up_to (suc n) i lt = by (i == n) refl (λ less. in_up_to n i less)
  where
    by : (b : Bool) → (i == n) ≡ b → (i < n → has_topic i (up_to n) ≡ true) → has_topic i (up_to n ++ n ∷ []) ≡ true
    by true e more = subst (λ j. has_topic j (up_to n ++ n ∷ []) ≡ true) (sym (eqb-true i n e)) (is_last n (up_to n))
    by false e more =
        let ne : i ≡ n → ⊥ = λ is. true≢false (sym (eq-eqb i n is) ∙ e) in
        in_last i n (up_to n) (more (omega (arith, lt)))

-- ---- tasks
abbrev in_sub : ℕ → ℕ → TaskId
in_sub sub part = record { sub = sub; part = part }

task_of : (sub part : ℕ) (xs : List ℕ) → has_topic part xs ≡ true → has_task (in_sub sub part) (map (in_sub sub) xs) ≡ true
task_of sub part [] h = absurd (true≢false (sym h))
task_of sub part (x ∷ xs) h = ⊎_elim
    (λ (e : (part == x) ≡ true). or_left (same_task (in_sub sub part) (in_sub sub x)) _ (subst (λ y. same_task (in_sub sub part) (in_sub sub y) ≡ true) (eqb-true part x e) (same_task-refl (in_sub sub part))))
    (λ (g : has_topic part xs ≡ true). or_right (same_task (in_sub sub part) (in_sub sub x)) _ (task_of sub part xs g))
    (or_cases (part == x) (has_topic part xs) h)

task_left : (t : TaskId) (xs ys : List TaskId) → has_task t xs ≡ true → has_task t (xs ++ ys) ≡ true
task_left t [] ys h = absurd (true≢false (sym h))
task_left t (x ∷ xs) ys h = ⊎_elim (λ (e : same_task t x ≡ true). or_left (same_task t x) _ e) (λ (g : has_task t xs ≡ true). or_right (same_task t x) _ (task_left t xs ys g)) (or_cases (same_task t x) (has_task t xs) h)

task_right : (t : TaskId) (xs ys : List TaskId) → has_task t ys ≡ true → has_task t (xs ++ ys) ≡ true
task_right t [] ys h = h
task_right t (x ∷ xs) ys h = or_right (same_task t x) _ (task_right t xs ys h)

module _ (p : Plan) where
  task_among : (t : TaskId) (sub : ℕ) (xs : List ℕ) → has_topic sub xs ≡ true → has_task t (tasks_in p sub) ≡ true → has_task t (flat_map (tasks_in p) xs) ≡ true
  task_among t sub [] h g = absurd (true≢false (sym h))
  task_among t sub (x ∷ xs) h g = ap (has_task t) (flat_map-cons (tasks_in p) x xs) ∙ ⊎_elim
      (λ (e : (sub == x) ≡ true). task_left t (tasks_in p x) (flat_map (tasks_in p) xs) (subst (λ s. has_task t (tasks_in p s) ≡ true) (eqb-true sub x e) g))
      (λ (m : has_topic sub xs ≡ true). task_right t (tasks_in p x) (flat_map (tasks_in p) xs) (task_among t sub xs m g))
      (or_cases (sub == x) (has_topic sub xs) h)

  module _ (fits : Fits p) where
    nodes_get : (i : ℕ) → i < length p.kinds → slice_get (subs p) i ≡ Some (sub_of p i)
    nodes_get i lt = get_map (sub_of p) (up_to (length p.kinds)) i i (get_up_to (length p.kinds) i lt)

    -- a subtopology has as many tasks as each of its nodes has partitions
    parts_are : (m : ℕ) → m < length p.kinds → sub_parts p (sub_of p m) ≡ parts_of p m
    parts_are m lt =
        let first = first_in (sub_of p m) (subs p) in
        let there : slice_get (subs p) first ≡ Some (sub_of p m) = first_has (sub_of p m) (subs p) m (nodes_get m lt) in
        let long : length (subs p) ≡ length p.kinds = length-map (up_to (length p.kinds)) (sub_of p) ∙ length_up_to (length p.kinds) in
        let within : first < length p.kinds = omega (arith, slice_get_within (subs p) first (sub_of p m) there, long) in
        one_count p fits first m within lt (same_some (sub_of p first) (sub_of p m) (sym (nodes_get first within) ∙ there))
      where
        same_some : (a b : ℕ) → Some a ≡ Some b → a ≡ b
        same_some a b e = cc

    pub has_node_task : (m part : ℕ) → m < length p.kinds → part < parts_of p m → has_task (in_sub (sub_of p m) part) (tasks p) ≡ true
    has_node_task m part lt below = task_among (in_sub (sub_of p m) part) (sub_of p m) (up_to (sub_count p)) (in_up_to (sub_count p) (sub_of p m) (sub_within p fits m lt))
        (task_of (sub_of p m) part (up_to (sub_parts p (sub_of p m))) (in_up_to (sub_parts p (sub_of p m)) part (omega (arith, below, parts_are m lt))))
