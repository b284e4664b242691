-- A task takes a pending order, and goes on to the pending offsets.
use Rattle.std.proofs.Common.{◌≡◌, ℕ, ◌<◌, ◌≤◌, Bool, true, false, cond, ◌||◌, ◌-◌, List, [], ◌∷◌, length, map, take, drop, get_or, take_all, Some, None, inl, inr, refl, sym, ap, subst, ◌∙◌, arith, ⊎_elim}
use Rattle.std.specs.Prelude.{◌==◌}
use Rattle.std.proofs.lemmas.Bool.{eqb-true, eq-eqb, true≢false, or_right}
use Rattle.ks_record.specs.declared.record.TaskId.{TaskId}
use Rattle.ks_plan.specs.Drafts.{DraftView}
use Rattle.ks_history.specs.declared.journal.Entry.{Entry}
use Rattle.ks_history.specs.declared.transaction.Pending.{Pending}
use Rattle.ks_history.specs.Partition.{Logged, stable, below}
use Rattle.ks_history.specs.Machine.{IsNetwork, part_of, has_topic}
use Rattle.ks_history.specs.State.{Setup, has_task, offset_in}
use Rattle.ks_history.specs.Faithful.{IsFaithfulTask, pending_offsets, taken, count_in}
use Rattle.ks_history.specs.Follows.{TaskView}
use Rattle.ks_history.specs.History.{at}
use Rattle.ks_law_exactly_once.proofs.Commits.{only_inputs}
use Rattle.ks_law_restore.specs.Views.{skip_view}
use Rattle.ks_law_restore.proofs.Standing.{taken_same}
use Rattle.ks_law_audit.specs.Rested.{HasTaken, placed, run_onto, merged_onto, merged}
use Rattle.ks_law_audit.specs.Laws.{ahead}
use Rattle.ks_law_audit.proofs.Failing.{order_fails, rest_fails, count_merged}
use Rattle.ks_law_audit.proofs.Merging.{merged_is_taken}
use Rattle.ks_task.specs.declared.task.Task.{Task}
use Rattle.ks_task.specs.Tasks.{task_view}
use Rattle.ks_audit_commit.specs.Naming.{offset_named}
use Rattle.ks_audit_commit.specs.Taking.{IsTaker, TakesRun, PassesTo}
use Rattle.ks_audit_commit.specs.Judging.{IsTaking, TakesNamed, HasOrder, TakesOrder, PassesOne, HasPassed, PassesAll, NamesTaken, TakesPending}
use Rattle.ks_audit_commit.proofs.Naming.{has_permuted, some_named, some_in, none_named}

module _ (d : DraftView) (setup : Setup) (journal : List Entry) (p : Pending) where
  -- ---- an input
  pub taker_of : (topic : ℕ) (task : Task) → IsTaking d setup journal p task → has_topic topic (setup.plan.inputs p.task.sub) ≡ true → IsTaker d setup journal topic task
  taker_of topic task taking input = record {
    of = taking.of;
    known = subst (λ (t : TaskId). has_task t setup.tasks ≡ true) (sym taking.name) taking.known;
    input = subst (λ (t : TaskId). has_topic topic (setup.plan.inputs t.sub) ≡ true) (sym taking.name) input;
    stands = taking.stands;
  }

  pub named_input : (topic upto : ℕ) (task : Task) → IsTaking d setup journal p task → offset_named topic p.offsets ≡ Some upto → has_topic topic (setup.plan.inputs p.task.sub) ≡ true
  named_input topic upto task taking is = has_permuted topic (setup.plan.inputs p.task.sub) (map (λ (o : ℕ × ℕ). o.0) p.offsets) taking.inputs ∙ some_named topic upto p.offsets is

  pub named_taker : (topic upto : ℕ) (task : Task) → IsTaking d setup journal p task → offset_named topic p.offsets ≡ Some upto → IsTaker d setup journal topic task
  named_taker topic upto task taking is = taker_of topic task taking (named_input topic upto task taking is)

  pending_is : (topic upto : ℕ) → offset_named topic p.offsets ≡ Some upto → pending_offsets (at setup journal) p topic ≡ upto
  pending_is topic upto is = some_in topic upto ((at setup journal).committed p.task topic) p.offsets is

  pub is_before : (topic upto : ℕ) (task : Task) → IsTaking d setup journal p task → offset_named topic p.offsets ≡ Some upto → (task_view task).inputs topic ≤ upto
  is_before topic upto task taking is = subst (λ n. (task_view task).inputs topic ≤ n) (pending_is topic upto is) (taking.before topic (named_input topic upto task taking is))

  not_input : (topic : ℕ) (task : Task) → IsTaking d setup journal p task → offset_named topic p.offsets ≡ None → has_topic topic (setup.plan.inputs p.task.sub) ≡ false
  not_input topic task taking is = has_permuted topic (setup.plan.inputs p.task.sub) (map (λ (o : ℕ × ℕ). o.0) p.offsets) taking.inputs ∙ none_named topic p.offsets is

  -- ---- a run
  pub run_of_none : (topic count : ℕ) (task : Task) → IsTaking d setup journal p task → count ≡ 0 → TakesNamed d setup journal p (topic, count) true task task
  run_of_none topic count task taking none = record { taking = taking; order = λ _. ap (λ n. run_onto topic n (task_view task).order) (sym none); no = λ e. absurd cc }

  pub run_of_no_input : IsNetwork setup.plan → (topic count : ℕ) (task : Task) → IsTaking d setup journal p task → 0 < count → offset_named topic p.offsets ≡ None → TakesNamed d setup journal p (topic, count) false task task
  run_of_no_input net topic count task taking some none = record {
    taking = taking;
    order = λ e. absurd cc;
    no = λ _ rest is w. order_fails setup journal w p (placed (at setup journal) (task_view task)) topic count rest net taking.stands taking.name some is (inl (not_input topic task taking none));
  }

  pub run_taken : IsNetwork setup.plan → (topic count upto : ℕ) (done : Bool) (old new : Task) → IsTaking d setup journal p old → offset_named topic p.offsets ≡ Some upto → TakesRun d setup journal topic upto count done old new →
      TakesNamed d setup journal p (topic, count) done old new
  run_taken net topic count upto done old new taking named run = record {
    taking = now;
    order = λ did. ap (λ n. run_onto topic n (task_view new).order) (sym (run.yes did)) ∙ run.run.order_is;
    no = λ is rest goes w. order_fails setup journal w p (placed (at setup journal) (task_view new)) topic run.left rest net now.stands now.name (run.no is).0
        (ap (λ o. merged_onto o rest) run.run.order_is ∙ goes)
        (inr (subst (λ n. (task_view new).inputs topic ≤ n) (sym (pending_is topic upto named)) late, subst (λ n. below n (ahead (at setup journal) (task_view new) topic) ≡ []) (sym (pending_is topic upto named)) (run.no is).1));
  }
    where
      late : (task_view new).inputs topic ≤ upto
      late = run.run.within (is_before topic upto old taking named)

      by : (n : ℕ) (b : Bool) → (n == topic) ≡ b → has_topic n (setup.plan.inputs p.task.sub) ≡ true → (task_view new).inputs n ≤ pending_offsets (at setup journal) p n
      by n true is h = subst (λ k. (task_view new).inputs k ≤ pending_offsets (at setup journal) p k) (sym (eqb-true n topic is)) (subst (λ k. (task_view new).inputs topic ≤ k) (sym (pending_is topic upto named)) late)
      by n false is h = subst (λ k. k ≤ pending_offsets (at setup journal) p n) (sym (run.run.others n is)) (taking.before n h)

      now : IsTaking d setup journal p new
      now = record {
        of = run.run.taker.of;
        name = run.run.same ∙ taking.name;
        known = taking.known;
        inputs = taking.inputs;
        stands = run.run.taker.stands;
        before = λ n h. by n (n == topic) refl h;
      }

  -- ---- an order
  pub order_begins : (task : Task) → IsTaking d setup journal p task → (task_view task).order ≡ [] → HasOrder d setup journal p p.order task
  order_begins task taking fresh = record { taking = taking; order = ap (λ o. merged_onto o p.order) fresh }

  pub order_goes_on : (run : ℕ × ℕ) (rest : List (ℕ × ℕ)) (done : Bool) (old new : Task) → HasOrder d setup journal p (run ∷ rest) old → TakesNamed d setup journal p run done old new → done ≡ true → HasOrder d setup journal p rest new
  order_goes_on run rest done old new has takes did = record { taking = takes.taking; order = ap (λ o. merged_onto o rest) (takes.order did) ∙ has.order }

  pub order_stops : (run : ℕ × ℕ) (rest : List (ℕ × ℕ)) (done : Bool) (old new : Task) → HasOrder d setup journal p (run ∷ rest) old → TakesNamed d setup journal p run done old new → done ≡ false → TakesOrder d setup journal p false new
  order_stops run rest done old new has takes stopped = record { taking = takes.taking; order = λ e. absurd cc; no = λ _ w. takes.no stopped rest has.order w }

  pub order_ends : (task : Task) → HasOrder d setup journal p [] task → TakesOrder d setup journal p true task
  order_ends task has = record { taking = has.taking; order = λ _. has.order; no = λ e. absurd cc }

  -- the same, of a slice whose first run is taken
  pub order_step : (l : List (ℕ × ℕ)) (e : ℕ × ℕ) (done : Bool) (old new : Task) → 1 ≤ length l → HasOrder d setup journal p l old → TakesNamed d setup journal p (get_or l 0 e) done old new → done ≡ true → HasOrder d setup journal p (take (length l - 1) (drop 1 l)) new
  order_step [] e done old new some has takes did = absurd (omega (arith, some))
  order_step (run ∷ rest) e done old new some has takes did =
      subst (λ r. HasOrder d setup journal p r new) (sym (take_all (length (run ∷ rest) - 1) rest (omega arith))) (order_goes_on run rest done old new has takes did)

  pub order_halt : (l : List (ℕ × ℕ)) (e : ℕ × ℕ) (done : Bool) (old new : Task) → 1 ≤ length l → HasOrder d setup journal p l old → TakesNamed d setup journal p (get_or l 0 e) done old new → done ≡ false → TakesOrder d setup journal p false new
  order_halt [] e done old new some has takes stopped = absurd (omega (arith, some))
  order_halt (run ∷ rest) e done old new some has takes stopped = order_stops run rest done old new has takes stopped

  pub order_over : (l : List (ℕ × ℕ)) (task : Task) → length l ≡ 0 → HasOrder d setup journal p l task → TakesOrder d setup journal p true task
  order_over [] task none has = order_ends task has
  order_over (run ∷ rest) task none has = absurd (omega (arith, none))

  -- ---- an input that is passed
  other : (topic upto n k : ℕ) (b : Bool) → b ≡ false → cond b upto k ≡ k
  other topic upto n k true h = absurd cc
  other topic upto n k false h = refl

  pub one_passed : IsNetwork setup.plan → (topic upto : ℕ) (done : Bool) (old new : Task) → IsTaking d setup journal p old → offset_named topic p.offsets ≡ Some upto → PassesTo d setup journal topic upto done old new → PassesOne d setup journal p topic done old new
  one_passed net topic upto true old new taking named passes =
      let view : task_view new ≡ skip_view (task_view old) topic upto = passes.yes refl in
      let others : (n : ℕ) → (n == topic) ≡ false → (task_view new).inputs n ≡ (task_view old).inputs n = λ n ne. ap (λ (v : TaskView). v.inputs n) view ∙ other topic upto n ((task_view old).inputs n) (n == topic) ne in
      let here : (task_view new).inputs topic ≡ upto = ap (λ (v : TaskView). v.inputs topic) view ∙ ap (λ b. cond b upto ((task_view old).inputs topic)) (eq-eqb topic topic refl) in
      record {
        taking = record {
          of = passes.taker.of;
          name = ap (λ (v : TaskView). v.task) view ∙ taking.name;
          known = taking.known;
          inputs = taking.inputs;
          stands = passes.taker.stands;
          before = λ n h. by others here n (n == topic) refl h;
        };
        order = ap (λ (v : TaskView). v.order) view;
        others = others;
        here = λ _. here ∙ sym (pending_is topic upto named);
        no = λ e. absurd cc;
      }
    where
      by : ((n : ℕ) → (n == topic) ≡ false → (task_view new).inputs n ≡ (task_view old).inputs n) → (task_view new).inputs topic ≡ upto → (n : ℕ) (b : Bool) → (n == topic) ≡ b → has_topic n (setup.plan.inputs p.task.sub) ≡ true →
          (task_view new).inputs n ≤ pending_offsets (at setup journal) p n
      by others here n true is h =
          let same : (task_view new).inputs topic ≡ pending_offsets (at setup journal) p topic = here ∙ sym (pending_is topic upto named) in
          let low : (task_view new).inputs topic ≤ pending_offsets (at setup journal) p topic = omega (arith, same) in
          subst (λ k. (task_view new).inputs k ≤ pending_offsets (at setup journal) p k) (sym (eqb-true n topic is)) low
      by others here n false is h = subst (λ k. k ≤ pending_offsets (at setup journal) p n) (sym (others n is)) (taking.before n h)
  one_passed net topic upto false old new taking named passes =
      let stays : new ≡ old = (passes.no refl).0 in
      record {
        taking = subst (λ (t : Task). IsTaking d setup journal p t) (sym stays) taking;
        order = ap (λ (t : Task). (task_view t).order) stays;
        others = λ n ne. ap (λ (t : Task). (task_view t).inputs n) stays;
        here = λ e. absurd cc;
        no = λ _ all w f. ⊎_elim
            (λ (left : below upto (ahead (at setup journal) (task_view old) topic) ≡ [] → ⊥).
            rest_fails setup journal w p (placed (at setup journal) (task_view old)) topic net taking.stands taking.name all input (taking.before topic input)
            (λ none. left (subst (λ n. below n (ahead (at setup journal) (task_view old) topic) ≡ []) (pending_is topic upto named) none)) f)
            (λ (high : stable ((at setup journal).partition (part_of topic (task_view old).task)) < upto).
            let low : stable ((at setup journal).partition (part_of topic p.task)) < upto = subst (λ (t : TaskId). stable ((at setup journal).partition (part_of topic t)) < upto) taking.name high in
            absurd (omega (arith, low, f.stable topic input, pending_is topic upto named)))
            (passes.no refl).1;
      }
    where
      input : has_topic topic (setup.plan.inputs p.task.sub) ≡ true
      input = named_input topic upto old taking named

  pub one_unnamed : (topic : ℕ) (task : Task) → IsTaking d setup journal p task → has_topic topic (setup.plan.inputs p.task.sub) ≡ true → offset_named topic p.offsets ≡ None → PassesOne d setup journal p topic false task task
  one_unnamed topic task taking input none = absurd (true≢false (sym input ∙ not_input topic task taking none))

  -- ---- all inputs
  pub passing_begins : (inputs : List ℕ) (task : Task) → inputs ≡ setup.plan.inputs p.task.sub → IsTaking d setup journal p task → (task_view task).order ≡ merged p.order → HasPassed d setup journal p inputs task
  passing_begins inputs task are taking order = record {
    taking = taking;
    order = order;
    within = λ topic h. ap (has_topic topic) (sym are) ∙ h;
    passed = λ topic h none. absurd (true≢false (sym h ∙ ap (has_topic topic) (sym are) ∙ none));
  }

  pub passing_input : (topic : ℕ) (rest : List ℕ) (task : Task) → HasPassed d setup journal p (topic ∷ rest) task → has_topic topic (setup.plan.inputs p.task.sub) ≡ true
  passing_input topic rest task has = has.within topic (ap (λ b. b || has_topic topic rest) (eq-eqb topic topic refl))

  pub passing_goes_on : (topic : ℕ) (rest : List ℕ) (done : Bool) (old new : Task) → HasPassed d setup journal p (topic ∷ rest) old → PassesOne d setup journal p topic done old new → done ≡ true → HasPassed d setup journal p rest new
  passing_goes_on topic rest done old new has one did = record {
    taking = one.taking;
    order = one.order ∙ has.order;
    within = λ n h. has.within n (or_right (n == topic) (has_topic n rest) h);
    passed = λ n h none. by n (n == topic) refl h none;
  }
    where
      by : (n : ℕ) (b : Bool) → (n == topic) ≡ b → has_topic n (setup.plan.inputs p.task.sub) ≡ true → has_topic n rest ≡ false → (task_view new).inputs n ≡ pending_offsets (at setup journal) p n
      by n true is h none = subst (λ k. (task_view new).inputs k ≡ pending_offsets (at setup journal) p k) (sym (eqb-true n topic is)) (one.here did)
      by n false is h none = one.others n is ∙ has.passed n h (ap (λ b. b || has_topic n rest) is ∙ none)

  pub passing_stops : (topic : ℕ) (rest : List ℕ) (done : Bool) (old new : Task) → HasPassed d setup journal p (topic ∷ rest) old → PassesOne d setup journal p topic done old new → done ≡ false → PassesAll d setup journal p false new
  passing_stops topic rest done old new has one stopped = record { yes = λ e. absurd cc; no = λ _ w. one.no stopped has.order w }

  pub passing_ends : (task : Task) → HasPassed d setup journal p [] task → PassesAll d setup journal p true task
  passing_ends task has = record { yes = λ _. has; no = λ e. absurd cc }

  -- the same, of a slice whose first input is passed
  pub passing_first : (l : List ℕ) (e : ℕ) (task : Task) → 1 ≤ length l → HasPassed d setup journal p l task → has_topic (get_or l 0 e) (setup.plan.inputs p.task.sub) ≡ true
  passing_first [] e task some has = absurd (omega (arith, some))
  passing_first (topic ∷ rest) e task some has = passing_input topic rest task has

  pub passing_step : (l : List ℕ) (e : ℕ) (done : Bool) (old new : Task) → 1 ≤ length l → HasPassed d setup journal p l old → PassesOne d setup journal p (get_or l 0 e) done old new → done ≡ true → HasPassed d setup journal p (take (length l - 1) (drop 1 l)) new
  passing_step [] e done old new some has one did = absurd (omega (arith, some))
  passing_step (topic ∷ rest) e done old new some has one did =
      subst (λ r. HasPassed d setup journal p r new) (sym (take_all (length (topic ∷ rest) - 1) rest (omega arith))) (passing_goes_on topic rest done old new has one did)

  pub passing_halt : (l : List ℕ) (e : ℕ) (done : Bool) (old new : Task) → 1 ≤ length l → HasPassed d setup journal p l old → PassesOne d setup journal p (get_or l 0 e) done old new → done ≡ false → PassesAll d setup journal p false new
  passing_halt [] e done old new some has one stopped = absurd (omega (arith, some))
  passing_halt (topic ∷ rest) e done old new some has one stopped = passing_stops topic rest done old new has one stopped

  pub passing_over : (l : List ℕ) (task : Task) → length l ≡ 0 → HasPassed d setup journal p l task → PassesAll d setup journal p true task
  passing_over [] task none has = passing_ends task has
  passing_over (topic ∷ rest) task none has = absurd (omega (arith, none))

  -- ---- what it has taken then
  stands_at : (task : Task) → HasPassed d setup journal p [] task → (topic : ℕ) → has_topic topic (setup.plan.inputs p.task.sub) ≡ true → (task_view task).inputs topic ≡ pending_offsets (at setup journal) p topic
  stands_at task has topic h = has.passed topic h refl

  names : (task : Task) → HasPassed d setup journal p [] task → NamesTaken setup (at setup journal) p
  names task has = record {
    inputs = has.taking.inputs;
    committed = λ topic. low topic (has_topic topic (setup.plan.inputs p.task.sub)) refl;
    stable = λ topic h. subst (λ n. n ≤ stable ((at setup journal).partition (part_of topic p.task))) (stands_at task has topic h)
        (subst (λ (t : TaskId). (task_view task).inputs topic ≤ stable ((at setup journal).partition (part_of topic t))) has.taking.name (has.taking.stands.0.stable topic (own topic h)));
    order = λ topic.
        sym (count_merged topic p.order)
        ∙ ap (count_in topic) (sym has.order)
        ∙ has.taking.stands.0.order topic
        ∙ ap (λ (t : TaskId). length (taken setup (at setup journal) t (task_view task).inputs topic)) has.taking.name
        ∙ ap (λ (f : ℕ → List Logged). length (f topic)) (taken_same setup (at setup journal) p.task (task_view task).inputs (pending_offsets (at setup journal) p) (stands_at task has));
  }
    where
      own : (topic : ℕ) → has_topic topic (setup.plan.inputs p.task.sub) ≡ true → has_topic topic (setup.plan.inputs (task_view task).task.sub) ≡ true
      own topic h = subst (λ (t : TaskId). has_topic topic (setup.plan.inputs t.sub) ≡ true) (sym has.taking.name) h

      low : (topic : ℕ) (b : Bool) → has_topic topic (setup.plan.inputs p.task.sub) ≡ b → (at setup journal).committed p.task topic ≤ pending_offsets (at setup journal) p topic
      low topic true h = subst (λ n. (at setup journal).committed p.task topic ≤ n) (stands_at task has topic h)
          (subst (λ (t : TaskId). (at setup journal).committed t topic ≤ (task_view task).inputs topic) has.taking.name (has.taking.stands.0.committed topic (own topic h)))
      low topic false h =
          let same : offset_in ((at setup journal).committed p.task topic) topic p.offsets ≡ (at setup journal).committed p.task topic =
          only_inputs (setup.plan.inputs p.task.sub) ((at setup journal).committed p.task topic) topic p.offsets has.taking.inputs h in
          omega (arith, same)

  pub pending_taken : IsNetwork setup.plan → (done : Bool) (new : Task) → PassesAll d setup journal p done new → TakesPending d setup journal p done new
  pending_taken net done new passes = record {
    of = λ did. (passes.yes did).taking.of;
    took = λ did. took (passes.yes did);
    named = λ did. names new (passes.yes did);
    no = passes.no;
  }
    where
      took : HasPassed d setup journal p [] new → HasTaken setup (at setup journal) p (task_view new)
      took has =
          let is = merged_is_taken setup journal p (placed (at setup journal) (task_view new)) net has.taking.stands has.taking.name (stands_at new has) has.order in
          record { task = is.task; inputs = is.inputs; stores = is.stores; made = is.made; late = is.late }

  pub pending_not_taken : (new : Task) → ((w : ℕ) → IsFaithfulTask setup (at setup journal) w p → ⊥) → TakesPending d setup journal p false new
  pending_not_taken new never = record { of = λ e. absurd cc; took = λ e. absurd cc; named = λ e. absurd cc; no = λ _. never }
