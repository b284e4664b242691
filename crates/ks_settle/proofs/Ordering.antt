-- Topics one after another, in the order in which they are drained.
use Rattle.std.proofs.Common.{◌≡◌, ℕ, zero, suc, ◌+◌, ◌<◌, ◌≤◌, ◌||◌, Bool, true, false, cond, List, [], ◌∷◌, length, get_or, map, refl, sym, ap, subst, ◌∙◌, arith}
use Rattle.std.specs.Prelude.{◌==◌, ◌-◌, nat_lt, slice_index, nat_eq}
use Rattle.std.specs.List.{All, filter}
use Rattle.std.specs.List.Sorted.{IsStrictlyIncreasing}
use Rattle.std.proofs.lemmas.Bool.{true≢false, eqb-true, eqb-false}
use Rattle.std.proofs.lemmas.Bool.Decides.{nat_tests}
use Rattle.ks_record.specs.declared.record.TaskId.{TaskId}
use Rattle.ks_plan.specs.Drafts.{DraftView}
use Rattle.ks_plan.specs.Plan.{Plan as Topology, plan_of}
use Rattle.ks_plan.specs.declared.node.Topic.{Topic}
use Rattle.ks_plan.specs.Layout.{number_of, drain_order, reads}
use Rattle.ks_plan.specs.Infos.{input_numbers, drain_numbers}
use Rattle.ks_def_tasks.specs.Messages.{Rules}
use Rattle.ks_history.specs.Machine.{TaskPlan, has_topic}
use Rattle.ks_history.specs.State.{Setup}
use Rattle.ks_history.specs.Settled.{IsSettled}
use Rattle.ks_law_topology.specs.WellFormed.{IsWellFormed}
use Rattle.ks_law_topology.specs.Work.{setup_of as topology_setup}
use Rattle.ks_law_topology.proofs.Order.{drain_rises}
use Rattle.ks_law_topology.proofs.Caused.{made_in_order}
use Rattle.ks_law_topology.proofs.Setups.{setups_are_made}
use Rattle.ks_law_topology.proofs.Networks.{works_are_networks}
use Rattle.ks_law_settled.proofs.Once.{inputs_once}
use Rattle.ks_law_settled.proofs.Inside.{topologies_send_inside}
use Rattle.ks_cluster.specs.View.{ClusterView, setup_of, state_of}
use Rattle.ks_commit.specs.declared.publisher.Publisher.{Publisher}
use Rattle.ks_def_tasks.specs.Rules.{rules_of}
use Rattle.ks_task.specs.declared.task.Task.{Task}
use Rattle.ks_task.specs.Tasks.{task_view}
use Rattle.ks_settle.specs.Drained.{MayDrain, ids, caches_in, IsDrainedTo, AreResting, IsDraining, DrainsOn}
use Rattle.ks_settle.proofs.Topics.{raised, settled}
use Rattle.ks_settle.proofs.Publishing.{drains_none, drains_both, same_setup}

-- ---- a topology's tasks keep what draining asks
pub may_drain : (hash : List ℕ → ℕ) (d : DraftView) → IsWellFormed d → MayDrain (topology_setup (rules_of hash) (plan_of d))
may_drain hash d well = record {
  made = setups_are_made (rules_of hash) d well;
  network = works_are_networks (rules_of hash) (plan_of d);
  sends = made_in_order (rules_of hash) d well;
  inside = topologies_send_inside (rules_of hash) d well;
  once = inputs_once (plan_of d);
}

-- ---- inputs stand in the drain order
has_filtered : (u : ℕ) (g : Topic → ℕ) (f : Topic → Bool) (xs : List Topic) → has_topic u (map g (filter f xs)) ≡ true → has_topic u (map g xs) ≡ true
has_filtered u g f [] h = h
has_filtered u g f (x ∷ xs) h = by (f x) h (λ m. has_filtered u g f xs m)
  where
    or_right : (a b : Bool) → b ≡ true → (a || b) ≡ true
    or_right true b e = refl
    or_right false b e = e

    both : (a b c : Bool) → (b ≡ true → c ≡ true) → (a || b) ≡ true → (a || c) ≡ true
    both true b c k e = refl
    both false b c k e = k e

    by : (b : Bool) → has_topic u (map g (cond b (x ∷ filter f xs) (filter f xs))) ≡ true → (has_topic u (map g (filter f xs)) ≡ true → has_topic u (map g xs) ≡ true) → ((u == g x) || has_topic u (map g xs)) ≡ true
    by true m more = both (u == g x) (has_topic u (map g (filter f xs))) (has_topic u (map g xs)) more m
    by false m more = or_right (u == g x) (has_topic u (map g xs)) (more m)

pub place_of_number : (u : ℕ) (ns : List ℕ) → has_topic u ns ≡ true → (k : ℕ) × (k < length ns) × (slice_index ns k ≡ u)
place_of_number u [] h = absurd (true≢false (sym h))
place_of_number u (n ∷ ns) h = by (u == n) refl h (λ m. place_of_number u ns m)
  where
    by : (b : Bool) → (u == n) ≡ b → (b || has_topic u ns) ≡ true → (has_topic u ns ≡ true → (k : ℕ) × (k < length ns) × (slice_index ns k ≡ u)) → (k : ℕ) × (k < suc (length ns)) × (slice_index (n ∷ ns) k ≡ u)
    by true e m more = (0, omega arith, sym (eqb-true u n e))
    by false e m more = let r = more m in (suc (r.0), omega (arith, r.1), r.2)

in_order : (p : Topology) (sub u : ℕ) → has_topic u (input_numbers p sub) ≡ true → (k : ℕ) × (k < length (drain_numbers p)) × (slice_index (drain_numbers p) k ≡ u)
in_order p sub u h = place_of_number u (drain_numbers p) (has_filtered u (number_of p) (λ t. nat_eq (reads p t) sub) (drain_order p) h)

rises : (xs : List ℕ) (i n : ℕ) → IsStrictlyIncreasing xs → i + 1 + n < length xs → slice_index xs i < slice_index xs (i + 1 + n)
rises xs i zero up h = let e : i + 1 + 0 ≡ i + 1 = omega arith in subst (λ k. slice_index xs i < slice_index xs k) (sym e) (up i (omega arith))
rises xs i (suc n) up h =
    let e : i + 1 + suc n ≡ (i + 1 + n) + 1 = omega arith in
    let less : slice_index xs i < slice_index xs (i + 1 + n) = rises xs i n up (omega (arith, h)) in
    let more : slice_index xs (i + 1 + n) < slice_index xs ((i + 1 + n) + 1) = up (i + 1 + n) (omega (arith, h)) in
    subst (λ k. slice_index xs i < slice_index xs k) (sym e) (omega (arith, less, more))

later : (xs : List ℕ) (i k : ℕ) → IsStrictlyIncreasing xs → i < k → k < length xs → slice_index xs i < slice_index xs k
later xs i k up lt h =
    let e : i + 1 + (k - (i + 1)) ≡ k = omega (arith, lt) in
    subst (λ j. slice_index xs i < slice_index xs j) e (rises xs i (k - (i + 1)) up (omega (arith, e, h)))

-- ---- one topic after another
module _ {W : Type 0} (plan : W → TaskPlan) (rules : Rules) (d : DraftView) (first : ClusterView W) (is : setup_of plan first ≡ topology_setup rules (plan_of d)) where
  inputs_of : (n : ℕ) (c : ClusterView W) → DrainsOn n first c → (sub u : ℕ) → has_topic u ((setup_of plan c).plan.inputs sub) ≡ true → has_topic u (input_numbers (plan_of d) sub) ≡ true
  inputs_of n c on sub u h = subst (λ (s : Setup). has_topic u (s.plan.inputs sub) ≡ true) (same_setup plan n first c on ∙ is) h

  pub draining_first : (publisher : Publisher) (order : List ℕ) (ts : List Task) → AreResting plan first publisher d 0 ts → IsDraining plan first first publisher d (caches_in ts) order 0 ts
  draining_first publisher order ts r = record {
    on = drains_none 0 first;
    within = omega arith;
    bound = 0;
    below = λ k h. absurd (omega (arith, h));
    above = λ k low h. omega arith;
    rest = r;
    caches = refl;
  }

  pub resting_at : (c : ClusterView W) (publisher : Publisher) (i topic : ℕ) (cs order : List ℕ) (ts : List Task) → IsDraining plan first c publisher d cs order i ts → order ≡ drain_numbers (plan_of d) → i < length order → topic ≡ slice_index order i →
      AreResting plan c publisher d topic ts
  resting_at c publisher i topic cs order ts dr o lt at = record {
    worker = dr.rest.worker;
    ready = dr.rest.ready;
    names = dr.rest.names;
    rest = λ k t h.
        let r = dr.rest.rest k t h in
        (r.0, raised (setup_of plan c) c.journal dr.bound topic (task_view (get_or ts k t)) (λ u low high there. none (task_view (get_or ts k t)).task.sub u low high there) r.1);
  }
    where
      none : (sub u : ℕ) → dr.bound ≤ u → u < topic → has_topic u ((setup_of plan c).plan.inputs sub) ≡ true → ⊥
      none sub u low high there =
          let place = in_order (plan_of d) sub u (inputs_of i c dr.on sub u there) in
          let k = place.0 in
          let within : k < length order = omega (arith, place.1, ap length o) in
          let value : slice_index order k ≡ u = ap (λ l. slice_index l k) o ∙ place.2 in
          by k within value (nat_lt k i) refl
        where
          by : (k : ℕ) → k < length order → slice_index order k ≡ u → (b : Bool) → nat_lt k i ≡ b → ⊥
          by k within value true e = let g : k < i = grind (arith, nat_tests) in omega (arith, dr.below k g, value, low)
          by k within value false e = apart k within value (let g : i ≤ k = grind (arith, nat_tests) in g) (k == i) refl
            where
              apart : (k : ℕ) → k < length order → slice_index order k ≡ u → i ≤ k → (b : Bool) → (k == i) ≡ b → ⊥
              apart k within value low-k true e = let g : k ≡ i = eqb-true k i e in omega (arith, ap (slice_index order) g, value, at, high)
              apart k within value low-k false e =
                  let g : (k ≡ i → ⊥) = eqb-false k i e in
                  let up : IsStrictlyIncreasing order = subst IsStrictlyIncreasing (sym o) (drain_rises (plan_of d)) in
                  omega (arith, later order i k up (omega (arith, low-k, g)) within, value, at, high)

  pub draining_on : (c new : ClusterView W) (publisher now : Publisher) (i topic : ℕ) (cs order : List ℕ) (ts after : List Task) → IsDraining plan first c publisher d cs order i ts → order ≡ drain_numbers (plan_of d) → i < length order → topic ≡ slice_index order i →
      AreResting plan new now d (topic + 1) after → caches_in after ≡ caches_in ts → DrainsOn 1 c new → IsDraining plan first new now d cs order (i + 1) after
  draining_on c new publisher now i topic cs order ts after dr o lt at r same more = record {
    on = drains_both i 1 first c new dr.on more;
    within = omega (arith, lt);
    bound = topic + 1;
    below = λ k h. by k h (k == i) refl;
    above = λ k low h. let g = later order i k (subst IsStrictlyIncreasing (sym o) (drain_rises (plan_of d))) (omega (arith, low)) h in omega (arith, g, at);
    rest = r;
    caches = same ∙ dr.caches;
  }
    where
      by : (k : ℕ) → k < i + 1 → (b : Bool) → (k == i) ≡ b → slice_index order k < topic + 1
      by k h true e = let g : k ≡ i = eqb-true k i e in omega (arith, ap (slice_index order) g, at)
      by k h false e = let g : (k ≡ i → ⊥) = eqb-false k i e in omega (arith, dr.below k (omega (arith, h, g)), dr.above i (omega arith) lt, at)

  pub settled_last : (c : ClusterView W) (publisher : Publisher) (i : ℕ) (cs order : List ℕ) (ts : List Task) → IsDraining plan first c publisher d cs order i ts → order ≡ drain_numbers (plan_of d) → length order ≤ i → IsSettled (setup_of plan c) (state_of plan c)
  settled_last c publisher i cs order ts dr o done =
      settled (setup_of plan c) c.journal dr.bound (map task_view ts) low names all dr.rest.ready.alone.idle
    where
      low : (t : TaskId) (topic : ℕ) → has_topic topic ((setup_of plan c).plan.inputs t.sub) ≡ true → topic < dr.bound
      low t topic there =
          let place = in_order (plan_of d) t.sub topic (inputs_of i c dr.on t.sub topic there) in
          let value : slice_index order place.0 ≡ topic = ap (λ l. slice_index l place.0) o ∙ place.2 in
          omega (arith, dr.below place.0 (omega (arith, place.1, ap length o, done)), value)

      views : (xs : List Task) → map (λ v. v.task) (map task_view xs) ≡ ids xs
      views [] = refl
      views (x ∷ xs) = ap (λ l. (task_view x).task ∷ l) (views xs)

      names : map (λ v. v.task) (map task_view ts) ≡ (setup_of plan c).tasks
      names = views ts ∙ dr.rest.names

      one : (P : _ → Type 0) (xs : List Task) → All (λ t. P (task_view t)) xs → All P (map task_view xs)
      one P [] h k v lt = absurd (omega (arith, lt))
      one P (x ∷ xs) h zero v lt = h 0 x (omega arith)
      one P (x ∷ xs) h (suc k) v lt = one P xs (λ j t g. h (suc j) t (omega (arith, g))) k v (omega (arith, lt))

      all : All (IsDrainedTo (setup_of plan c) c.journal dr.bound) (map task_view ts)
      all = one (IsDrainedTo (setup_of plan c) c.journal dr.bound) ts (λ k t h. (dr.rest.rest k t h).1)
