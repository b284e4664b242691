-- A cluster is settled exactly where nothing is pending and nothing that its tasks read is behind.
use Rattle.std.proofs.Common.{◌≡◌, ℕ, zero, suc, ◌+◌, ◌<◌, ◌≤◌, Bool, true, false, cond, not, ◌&&◌, ◌||◌, List, length, [], ◌∷◌, ◌++◌, map, get_or, Option, Some, None, refl, sym, ap, ap₂, subst, ◌∙◌, arith, ⊎_elim, append_assoc}
use Rattle.std.specs.Prelude.{◌==◌}
use Rattle.std.specs.List.{filter}
use Rattle.std.proofs.lemmas.Bool.{and_parts, and_from, or_cases, eq-eqb, eqb-true, true≢false, cases_lt}
use Rattle.std.proofs.lemmas.List.{length-map}
use Rattle.std.proofs.lemmas.Option.{get_or_from_slice_get}
use Rattle.ks_record.specs.declared.record.TaskId.{TaskId}
use Rattle.ks_record.specs.declared.assignment.Marker.{Marker}
use Rattle.ks_record.specs.Parts.{same_task}
use Rattle.ks_plan.specs.declared.node.Topic.{Topic}
use Rattle.ks_plan.specs.Plan.{Plan}
use Rattle.ks_plan.specs.Layout.{up_to, sub_count, drain_order, number_of, reads}
use Rattle.ks_plan.specs.Infos.{input_numbers, inputs_by_sub, drain_numbers}
use Rattle.ks_topo.specs.declared.built.Topology.{Topology}
use Rattle.ks_topo.specs.Topologies.{plan_in}
use Rattle.ks_history.specs.declared.transaction.Transaction.{Transaction}
use Rattle.ks_history.specs.Machine.{has_topic, part_of}
use Rattle.ks_history.specs.State.{State, Setup, has_task}
use Rattle.ks_history.specs.Step.{is_undecided}
use Rattle.ks_history.specs.Reads.{end_of, is_some_waiting, pending_from, pending_producers}
use Rattle.ks_history.specs.Settled.{IsSettled}
use Rattle.ks_history.proofs.Names.{same_task-is, same_task-refl}
use Rattle.ks_def_tasks.proofs.Numbered.{length_up_to, get_up_to, get_map}
use Rattle.ks_settle_report.specs.declared.lags.Lag.{Lag}
use Rattle.ks_settle_report.specs.Report.{IsOf, lag_at, is_behind, task_lags, lags_of, is_at_rest}

-- ---- lags of a list of tasks, one after another
pub one_task : (setup : Setup) (s : State) (topic : ℕ) (t : TaskId) (ts : List TaskId) → task_lags setup s topic (t ∷ ts) ≡ task_lags setup s topic (t ∷ []) ++ task_lags setup s topic ts
one_task setup s topic t ts = by (has_topic topic (setup.plan.inputs t.sub))
  where
    behind : (b : Bool) → cond b (lag_at s topic t ∷ task_lags setup s topic ts) (task_lags setup s topic ts) ≡ cond b (lag_at s topic t ∷ []) [] ++ task_lags setup s topic ts
    behind true = refl
    behind false = refl

    by : (b : Bool) → filter is_behind (map (lag_at s topic) (cond b (t ∷ filter (λ t. has_topic topic (setup.plan.inputs t.sub)) ts) (filter (λ t. has_topic topic (setup.plan.inputs t.sub)) ts)))
        ≡ filter is_behind (map (lag_at s topic) (cond b (t ∷ []) [])) ++ task_lags setup s topic ts
    by true = behind (is_behind (lag_at s topic t))
    by false = refl

pub one_task_more : (setup : Setup) (s : State) (topic : ℕ) (t : TaskId) (ts : List TaskId) (old new all : List Lag) → new ≡ old ++ task_lags setup s topic (t ∷ []) →
    old ++ task_lags setup s topic (t ∷ ts) ≡ all → new ++ task_lags setup s topic ts ≡ all
one_task_more setup s topic t ts old new all made was =
    ap (λ l. l ++ task_lags setup s topic ts) made ∙ append_assoc old (task_lags setup s topic (t ∷ [])) (task_lags setup s topic ts)
    ∙ ap (λ l. old ++ l) (sym (one_task setup s topic t ts)) ∙ was

pub one_topic_more : (setup : Setup) (s : State) (topic : ℕ) (topics : List ℕ) (old new all : List Lag) → new ≡ old ++ task_lags setup s topic setup.tasks →
    old ++ lags_of setup s (topic ∷ topics) ≡ all → new ++ lags_of setup s topics ≡ all
one_topic_more setup s topic topics old new all made was = ap (λ l. l ++ lags_of setup s topics) made ∙ append_assoc old (task_lags setup s topic setup.tasks) (lags_of setup s topics) ∙ was

-- of one task
pub reads_it : (setup : Setup) (s : State) (topic : ℕ) (t : TaskId) (lag : Lag) → has_topic topic (setup.plan.inputs t.sub) ≡ true → lag ≡ lag_at s topic t → filter is_behind (lag ∷ []) ≡ task_lags setup s topic (t ∷ [])
reads_it setup s topic t lag e is =
    ap (λ l. filter is_behind (l ∷ [])) is ∙ sym (ap (λ b. filter is_behind (map (lag_at s topic) (cond b (t ∷ []) []))) e)

pub reads_not : (setup : Setup) (s : State) (topic : ℕ) (t : TaskId) → has_topic topic (setup.plan.inputs t.sub) ≡ false → task_lags setup s topic (t ∷ []) ≡ []
reads_not setup s topic t e = ap (λ b. filter is_behind (map (lag_at s topic) (cond b (t ∷ []) []))) e

-- ---- the first of the tasks that are left is a task
pub first_there : (t : TaskId) (ts : List TaskId) → has_task t (t ∷ ts) ≡ true
first_there t ts = ap (λ b. b || has_task t ts) (same_task-refl t)

pub rest_there : (u t : TaskId) (ts : List TaskId) → has_task u ts ≡ true → has_task u (t ∷ ts) ≡ true
rest_there u t ts h = by (same_task u t)
  where
    by : (b : Bool) → (b || has_task u ts) ≡ true
    by true = refl
    by false = h

-- ---- nothing is behind
nothing_left : (xs ys : List Lag) → xs ++ ys ≡ [] → (xs ≡ []) × (ys ≡ [])
nothing_left [] ys e = (refl, e)
nothing_left (x ∷ xs) ys e = cc

eq_not : (b : Bool) → not b ≡ false → b ≡ true
eq_not true e = refl
eq_not false e = cc

one_behind : (lag : Lag) → filter is_behind (lag ∷ []) ≡ [] → lag.committed ≡ lag.end
one_behind lag e = by (lag.committed == lag.end) refl e
  where
    by : (b : Bool) → (lag.committed == lag.end) ≡ b → cond (not b) (lag ∷ []) [] ≡ [] → lag.committed ≡ lag.end
    by true f g = eqb-true lag.committed lag.end f
    by false f g = cc

none_behind : (lag : Lag) → lag.committed ≡ lag.end → filter is_behind (lag ∷ []) ≡ []
none_behind lag e = ap (λ b. cond (not b) (lag ∷ []) []) (eq-eqb lag.committed lag.end e)

module _ (setup : Setup) (s : State) where
  at_topic : (topic : ℕ) (ts : List TaskId) → task_lags setup s topic ts ≡ [] → (t : TaskId) → has_task t ts ≡ true → has_topic topic (setup.plan.inputs t.sub) ≡ true → s.committed t topic ≡ end_of s (part_of topic t)
  at_topic topic [] none t there reads = absurd (true≢false (sym there))
  at_topic topic (u ∷ us) none t there reads =
      let both = nothing_left (task_lags setup s topic (u ∷ [])) (task_lags setup s topic us) (sym (one_task setup s topic u us) ∙ none) in
      ⊎_elim
      (λ (e : same_task t u ≡ true).
      let is : t ≡ u = same_task-is t u e in
      let here : has_topic topic (setup.plan.inputs u.sub) ≡ true = subst (λ (v : TaskId). has_topic topic (setup.plan.inputs v.sub) ≡ true) is reads in
      subst (λ (v : TaskId). s.committed v topic ≡ end_of s (part_of topic v)) (sym is) (one_behind (lag_at s topic u) (reads_it setup s topic u (lag_at s topic u) here refl ∙ both.0)))
      (λ (e : has_task t us ≡ true). at_topic topic us both.1 t e reads)
      (or_cases (same_task t u) (has_task t us) there)

  in_topics : (topics : List ℕ) → lags_of setup s topics ≡ [] → (topic : ℕ) → has_topic topic topics ≡ true → task_lags setup s topic setup.tasks ≡ []
  in_topics [] none topic there = absurd (true≢false (sym there))
  in_topics (u ∷ us) none topic there =
      let both = nothing_left (task_lags setup s u setup.tasks) (lags_of setup s us) none in
      ⊎_elim
      (λ (e : (topic == u) ≡ true). subst (λ v. task_lags setup s v setup.tasks ≡ []) (sym (eqb-true topic u e)) both.0)
      (λ (e : has_topic topic us ≡ true). in_topics us both.1 topic e)
      (or_cases (topic == u) (has_topic topic us) there)

  -- and the other way
  none_at : (topic : ℕ) (ts : List TaskId) → ((t : TaskId) → has_task t ts ≡ true → has_topic topic (setup.plan.inputs t.sub) ≡ true → s.committed t topic ≡ end_of s (part_of topic t)) → task_lags setup s topic ts ≡ []
  none_at topic [] h = refl
  none_at topic (u ∷ us) h = one_task setup s topic u us ∙ ap₂ (λ (a b : List Lag). a ++ b) (one (has_topic topic (setup.plan.inputs u.sub)) refl) (none_at topic us (λ t there reads. h t (rest_there t u us there) reads))
    where
      one : (b : Bool) → has_topic topic (setup.plan.inputs u.sub) ≡ b → task_lags setup s topic (u ∷ []) ≡ []
      one true e = sym (reads_it setup s topic u (lag_at s topic u) e refl) ∙ none_behind (lag_at s topic u) (h u (first_there u us) e)
      one false e = reads_not setup s topic u e

  none_in : (topics : List ℕ) → ((t : TaskId) (topic : ℕ) → has_task t setup.tasks ≡ true → has_topic topic (setup.plan.inputs t.sub) ≡ true → s.committed t topic ≡ end_of s (part_of topic t)) → lags_of setup s topics ≡ []
  none_in [] h = refl
  none_in (topic ∷ topics) h = ap₂ (λ (a b : List Lag). a ++ b) (none_at topic setup.tasks (λ t there reads. h t topic there reads)) (none_in topics h)

-- ---- nothing is pending
module _ (s : State) where
  abbrev Rests : ℕ → Type 0
  Rests w = ((s.producer w).undecided ≡ None) × ((s.producer w).waiting ≡ [])

  undecided_none : (o : Option Transaction) → elim o [ None ↦ false | Some tx ↦ true ] ≡ false → o ≡ None
  undecided_none None e = refl
  undecided_none (Some tx) e = cc

  waiting_none : (ms : List Marker) → is_some_waiting ms ≡ false → ms ≡ []
  waiting_none [] e = refl
  waiting_none (m ∷ ms) e = cc

  or_none : (a b : Bool) → (a || b) ≡ false → (a ≡ false) × (b ≡ false)
  or_none false b e = (refl, e)
  or_none true b e = cc

  none_pending : (w left : ℕ) → pending_from s w left ≡ 0 → (v : ℕ) → w ≤ v → v < w + left → Rests v
  none_pending w zero e v low high = absurd (omega (arith, low, high))
  none_pending w (suc left) e v low high = by (is_undecided (s.producer w) || is_some_waiting (s.producer w).waiting) refl e (λ f. none_pending (w + 1) left f)
    where
      by : (b : Bool) → (is_undecided (s.producer w) || is_some_waiting (s.producer w).waiting) ≡ b → cond b (suc (pending_from s (w + 1) left)) (pending_from s (w + 1) left) ≡ 0 →
          (pending_from s (w + 1) left ≡ 0 → (v : ℕ) → w + 1 ≤ v → v < w + 1 + left → Rests v) → Rests v
      by true f g more = absurd (omega (arith, g))
      by false f g more = here (v == w) refl
        where
          here : (b : Bool) → (v == w) ≡ b → Rests v
          here true h =
              let is : v ≡ w = eqb-true v w h in
              let both = or_none (is_undecided (s.producer w)) (is_some_waiting (s.producer w).waiting) f in
              subst Rests (sym is) (undecided_none (s.producer w).undecided both.0, waiting_none (s.producer w).waiting both.1)
          here false h =
              let other : v ≡ w → ⊥ = λ is. true≢false (sym (eq-eqb v w is) ∙ h) in
              more g v (omega (arith, low, other)) (omega (arith, high))

  all_rest : (w left : ℕ) → ((v : ℕ) → w ≤ v → v < w + left → Rests v) → pending_from s w left ≡ 0
  all_rest w zero h = refl
  all_rest w (suc left) h =
      let here = h w (omega arith) (omega arith) in
      ap (λ b. cond b (suc (pending_from s (w + 1) left)) (pending_from s (w + 1) left))
      (ap₂ (λ (o : Option Transaction) (ms : List Marker). elim o [ None ↦ false | Some tx ↦ true ] || is_some_waiting ms) here.0 here.1)
      ∙ all_rest (w + 1) left (λ v low high. h v (omega (arith, low)) (omega (arith, high)))

-- ---- what a subtopology reads is drained
has_filtered : (u : ℕ) (g : Topic → ℕ) (f : Topic → Bool) (xs : List Topic) → has_topic u (map g (filter f xs)) ≡ true → has_topic u (map g xs) ≡ true
has_filtered u g f [] h = h
has_filtered u g f (x ∷ xs) h = by (f x) h (λ m. has_filtered u g f xs m)
  where
    or_right : (a b : Bool) → b ≡ true → (a || b) ≡ true
    or_right true b e = refl
    or_right false b e = e

    both : (a b c : Bool) → (b ≡ true → c ≡ true) → (a || b) ≡ true → (a || c) ≡ true
    both true b c k e = refl
    both false b c k e = k e

    by : (b : Bool) → has_topic u (map g (cond b (x ∷ filter f xs) (filter f xs))) ≡ true → (has_topic u (map g (filter f xs)) ≡ true → has_topic u (map g xs) ≡ true) → ((u == g x) || has_topic u (map g xs)) ≡ true
    by true m more = both (u == g x) (has_topic u (map g (filter f xs))) (has_topic u (map g xs)) more m
    by false m more = or_right (u == g x) (has_topic u (map g xs)) (more m)

past_end : (xs : List (List ℕ)) (i : ℕ) → length xs ≤ i → get_or xs i [] ≡ []
past_end [] i le = refl
past_end (x ∷ xs) zero le = absurd (omega (arith, le))
past_end (x ∷ xs) (suc i) le = past_end xs i (omega (arith, le))

in_drained : (p : Plan) (sub topic : ℕ) → has_topic topic (get_or (inputs_by_sub p) sub []) ≡ true → has_topic topic (drain_numbers p) ≡ true
in_drained p sub topic h = ⊎_elim
    (λ (lt : sub < sub_count p).
    let is : get_or (inputs_by_sub p) sub [] ≡ input_numbers p sub = get_or_from_slice_get (inputs_by_sub p) sub (input_numbers p sub) [] (get_map (input_numbers p) (up_to (sub_count p)) sub sub (get_up_to (sub_count p) sub lt)) in
    has_filtered topic (number_of p) (λ t. Rattle.std.proofs.Common.nat_eq (reads p t) sub) (drain_order p) (sym (ap (has_topic topic) is) ∙ h))
    (λ (le : sub_count p ≤ sub).
    let none : get_or (inputs_by_sub p) sub [] ≡ [] = past_end (inputs_by_sub p) sub (omega (arith, le, length-map (up_to (sub_count p)) (input_numbers p), length_up_to (sub_count p))) in
    absurd (true≢false (sym (sym (ap (has_topic topic) none) ∙ h))))
    (cases_lt sub (sub_count p))

-- ---- settled
module _ (topology : Topology) (setup : Setup) (s : State) (of : IsOf topology setup) (pending : ℕ) (lags : List Lag) (count : pending ≡ pending_producers s) (all : lags ≡ lags_of setup s (drain_numbers (plan_in topology))) where
  length_none : (xs : List Lag) → length xs ≡ 0 → xs ≡ []
  length_none [] e = refl
  length_none (x ∷ xs) e = absurd (omega (arith, e))

  pub settled_then : (r : Bool) → r ≡ is_at_rest pending lags → r ≡ true → IsSettled setup s
  settled_then r is e =
      let both = and_parts (pending == 0) (length lags == 0) (sym is ∙ e) in
      let none : pending_producers s ≡ 0 = sym count ∙ eqb-true pending 0 both.0 in
      let left : lags_of setup s (drain_numbers (plan_in topology)) ≡ [] = sym all ∙ length_none lags (eqb-true (length lags) 0 both.1) in
      record {
        undecided = λ w le. (none_pending s 0 17 none w (omega arith) (omega (arith, le))).0;
        waiting = λ w le. (none_pending s 0 17 none w (omega arith) (omega (arith, le))).1;
        committed = λ t topic there reads. at_topic setup s topic setup.tasks
            (in_topics setup s (drain_numbers (plan_in topology)) left topic (in_drained (plan_in topology) t.sub topic (ap (has_topic topic) (of.inputs t.sub) ∙ reads))) t there reads;
      }

  pub then_settled : (r : Bool) → r ≡ is_at_rest pending lags → IsSettled setup s → r ≡ true
  then_settled r is h =
      let none : pending ≡ 0 = count ∙ all_rest s 0 17 (λ v low high. (h.undecided v (omega (arith, high)), h.waiting v (omega (arith, high)))) in
      let left : lags ≡ [] = all ∙ none_in setup s (drain_numbers (plan_in topology)) h.committed in
      is ∙ and_from (pending == 0) (length lags == 0) (eq-eqb pending 0 none) (eq-eqb (length lags) 0 (ap (λ (l : List Lag). length l) left))
