-- The passes of a new lock but the first, and the last of them, which is of who asks.
use Rattle.std.proofs.Common.{◌≡◌, ℕ, zero, suc, ◌+◌, ◌<◌, ◌≤◌, Bool, true, false, cond, List, [], ◌∷◌, ◌++◌, length, append-nil, length-append, Option, Some, None, refl, sym, ap, subst, ◌∙◌, arith}
use Rattle.std.specs.Prelude.{IfSome, option_map, is_some}
use Rattle.std.proofs.lemmas.List.Elements.{All-nil}
use mathlib.Core.Option.{some, some-ne-none}
use lib.ListN.{get_elem?}
use Rattle.atomic_table.specs.Seated.{TableId}
use Rattle.ks_plan.specs.Drafts.{DraftView}
use Rattle.ks_plan.specs.Plan.{plan_of}
use Rattle.ks_plan.specs.Faults.{fault_of}
use Rattle.ks_history.specs.declared.journal.Entry.{Entry}
use Rattle.ks_history.specs.Machine.{TaskPlan, IsNetwork}
use Rattle.ks_history.specs.State.{Setup, IsSetup}
use Rattle.ks_history.specs.History.{IsHistory}
use Rattle.ks_cluster.specs.View.{ClusterView, setup_of}
use Rattle.ks_law_topology.specs.Work.{setup_of as topology_setup}
use Rattle.ks_law_topology.proofs.Networks.{works_are_networks}
use Rattle.ks_law_topology.proofs.Setups.{setups_are_made}
use Rattle.ks_def_tasks.specs.Rules.{HaveParts, rules_of}
use Rattle.ks_growing.specs.Passes.{PassView, IsFresh, Each}
use Rattle.ks_shared.specs.declared.state.Frame.{Frame}
use Rattle.ks_shared.specs.Calls.{frame_of, setup_in}
use Rattle.ks_worker_state.specs.Standbys.{IsStandby}
use Rattle.ks_iq.specs.declared.ask.Ask.{Ask}
use Rattle.ks_iq.specs.Asks.{ask_fault, task_of, log_of}
use Rattle.ks_iq.specs.Readers.{IsReader, position_at}
use Rattle.ks_run_workers.specs.declared.asking.Asker.{Asker}
use Rattle.ks_run_workers.specs.Asking.{MayAsk}
use Rattle.ks_iq.specs.Answered.{last_position}
use Rattle.ks_run_workers.specs.Asked.{option_list, TakesLast}
use Rattle.ks_run_feed.proofs.Fresh.{fresh_setup, fresh_seen}
use Rattle.ks_run_workers.proofs.Enlisted.{empty_history}

module _ {W : Type 0} where
  pub taken_split : (question : Option Ask) (old new : List (PassView Entry (Frame W))) (asker : Option (Asker W)) → TakesLast question old new asker → old ≡ new ++ option_list (option_map (λ a. a.reader.pass) asker)
  taken_split None old new asker t = sym t.0 ∙ (sym (append-nil new) ∙ ap (λ o. new ++ option_list (option_map (λ a. a.reader.pass) o)) (sym t.1))
  taken_split (Some ask) old new None t = absurd t
  taken_split (Some ask) old new (Some asker) t = t.0

  -- what is left is one for each worker
  pub taken_long : (question : Option Ask) (old new : List (PassView Entry (Frame W))) (asker : Option (Asker W)) (workers : ℕ) → TakesLast question old new asker → length old + 1 ≡ workers + cond (is_some question) 2 1 → length new ≡ workers
  taken_long None old new asker workers t long =
      let same : length new ≡ length old = ap length t.0 in
      let counted : length old + 1 ≡ workers + 1 = long in
      omega (arith, same, counted)
  taken_long (Some ask) old new None workers t long = absurd t
  taken_long (Some ask) old new (Some asker) workers t long =
      let same : length old ≡ length new + 1 = ap length t.0 ∙ length-append new (asker.reader.pass ∷ []) in
      let counted : length old + 1 ≡ workers + 2 = long in
      omega (arith, same, counted)

  pub asker_long : (question : Option Ask) (old new : List (PassView Entry (Frame W))) (asker : Option (Asker W)) → TakesLast question old new asker → length (option_list asker) + 1 ≡ cond (is_some question) 2 1
  asker_long None old new asker t = ap (λ o. length (option_list o) + 1) t.1
  asker_long (Some ask) old new None t = absurd t
  asker_long (Some ask) old new (Some asker) t = refl

  pub asks_the : (question : Option Ask) (old new : List (PassView Entry (Frame W))) (asker : Option (Asker W)) → TakesLast question old new asker → option_map (λ a. a.ask) asker ≡ question
  asks_the None old new asker t = ap (option_map (λ a. a.ask)) t.1
  asks_the (Some ask) old new None t = absurd t
  asks_the (Some ask) old new (Some asker) t = ap Some t.1

  pub none_answered : (question : Option Ask) (old new : List (PassView Entry (Frame W))) (asker : Option (Asker W)) → TakesLast question old new asker → IfSome asker (λ a. a.answers.items ≡ [])
  none_answered None old new asker t = subst (λ o. IfSome o (λ a. a.answers.items ≡ [])) (sym t.1) tt
  none_answered (Some ask) old new None t = absurd t
  none_answered (Some ask) old new (Some asker) t = t.2

-- how many passes the lock has
pub others_counted : {A : Type 0} (all rest : List A) (first : A) (count workers more : ℕ) → all ≡ first ∷ rest → length all ≡ count → count ≡ workers + more → length rest + 1 ≡ workers + more
others_counted all rest first count workers more is long same = let e : length all ≡ suc (length rest) = ap length is in omega (arith, e, long, same)

pub passes_fit : (count workers : ℕ) (asked : Bool) → count ≡ workers + cond asked 2 1 → workers ≤ 16 → (1 ≤ count) × (count ≤ 64)
passes_fit count workers true is few = let counted : count ≡ workers + 2 = is in (omega (arith, counted), omega (arith, counted, few))
passes_fit count workers false is few = let counted : count ≡ workers + 1 = is in (omega (arith, counted), omega (arith, counted, few))

pub one_for_asker : (left workers : ℕ) (asked : Bool) → 1 ≤ workers → left + 1 ≡ workers + cond asked 2 1 → 0 < left
one_for_asker left workers true enough is = let counted : left + 1 ≡ workers + 2 = is in omega (arith, enough, counted)
one_for_asker left workers false enough is = let counted : left + 1 ≡ workers + 1 = is in omega (arith, enough, counted)

-- one for each worker
pub no_more : (left workers most : ℕ) → left ≡ workers → workers ≤ most → left ≤ most
no_more left workers most long few = omega (arith, long, few)

pub some_work : (members workers : ℕ) → members ≡ workers → 1 ≤ workers → 0 < members
some_work members workers long enough = omega (arith, long, enough)

pub all_counted : (members askers passes count workers more : ℕ) → members ≡ workers → askers + 1 ≡ more → passes ≡ count → count ≡ workers + more → members + askers + 1 ≡ passes
all_counted members askers passes count workers more long one same is = omega (arith, long, one, same, is)

-- ---- the first of them
in_front : {A : Type 0} (xs ys : List A) (k : ℕ) (x : A) → get_elem? xs k ≡ some x → get_elem? (xs ++ ys) k ≡ some x
in_front [] ys k x e = absurd (some-ne-none x (sym e))
in_front (y ∷ xs) ys zero x e = e
in_front (y ∷ xs) ys (suc k) x e = in_front xs ys k x e

pub each_front : {A : Type 0} (P : ℕ → A → Type 0) (all xs ys : List A) → all ≡ xs ++ ys → Each P all → Each P xs
each_front P all xs ys is h k x e = h k x (ap (λ l. get_elem? l k) is ∙ in_front xs ys k x e)

at_end : {A : Type 0} (xs : List A) (x : A) → get_elem? (xs ++ x ∷ []) (length xs) ≡ some x
at_end [] x = refl
at_end (y ∷ xs) x = at_end xs x

-- ---- who asks
module _ {W : Type 0} (plan : W → TaskPlan) (hash : List ℕ → ℕ) (d : DraftView) (c : ClusterView W) (lock : TableId) (empty : c.journal ≡ []) (topology : setup_of plan c ≡ topology_setup (rules_of hash) (plan_of d)) (fine : fault_of d ≡ None) (parts : HaveParts (plan_of d)) where
  new_asker : (k : ℕ) (asker : Asker W) → IsFresh lock c.journal (frame_of c) k asker.reader.pass → ask_fault d asker.ask ≡ None → asker.answers.items ≡ [] → asker.reader.replicas.items ≡ [] → MayAsk plan lock d asker
  new_asker k asker fresh good none bare =
      let pass = asker.reader.pass in
      let same : setup_in plan pass.frame ≡ topology_setup (rules_of hash) (plan_of d) = fresh_setup plan lock c k pass fresh ∙ topology in
      let least : 0 ≤ position_at asker.reader.replicas.items (task_of d asker.ask) (log_of d asker.ask) = omega arith in
      record {
        fine = good;
        may = record {
          call = record {
            lock_is = ap (λ (q : PassView Entry (Frame W)). q.lock) fresh;
            free = ap (λ (q : PassView Entry (Frame W)). q.holds) fresh;
            history = subst (IsHistory (setup_in plan pass.frame)) (sym (fresh_seen plan lock c k pass fresh ∙ empty)) (empty_history (setup_in plan pass.frame));
            network = subst (λ (x : Setup). IsNetwork x.plan) (sym same) (works_are_networks (rules_of hash) (plan_of d));
            setup = subst IsSetup (sym same) (setups_are_made (rules_of hash) d fine);
          };
          topology = record {
            changelogs = λ sub. ap (λ (s : Setup). s.plan.changelogs sub) same;
            tasks = ap (λ (s : Setup). s.tasks) same;
          };
          parts = parts;
        };
        reader = subst (IsReader plan pass) (sym bare) (All-nil (IsStandby (setup_in plan pass.frame) pass.seen));
        reached = subst (λ n. n ≤ position_at asker.reader.replicas.items (task_of d asker.ask) (log_of d asker.ask)) (sym (ap last_position none)) least;
      }

  pub asker_may : (question : Option Ask) (old new : List (PassView Entry (Frame W))) (asker : Option (Asker W)) → TakesLast question old new asker → Each (λ k p. IsFresh lock c.journal (frame_of c) (k + 1) p) old →
      IfSome question (λ a. ask_fault d a ≡ None) → IfSome asker (MayAsk plan lock d)
  asker_may None old new asker t fresh good = subst (λ o. IfSome o (MayAsk plan lock d)) (sym t.1) tt
  asker_may (Some ask) old new None t fresh good = absurd t
  asker_may (Some ask) old new (Some asker) t fresh good =
      new_asker (length new + 1) asker (fresh (length new) asker.reader.pass (ap (λ l. get_elem? l (length new)) t.0 ∙ at_end new asker.reader.pass)) (ap (ask_fault d) t.1 ∙ good) t.2 t.3
