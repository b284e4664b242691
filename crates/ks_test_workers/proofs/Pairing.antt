-- Two workers at one lock, and its passes.
use Rattle.std.proofs.Common.{◌≡◌, ℕ, zero, suc, ◌<◌, false, Bool, List, [], ◌∷◌, length, refl, sym, ap, subst, ◌∙◌, arith}
use Rattle.std.specs.Prelude.{None, Some}
use mathlib.Core.Option.{some-injective, some-ne-none}
use Rattle.atomic_table.specs.Seated.{TableId}
use Rattle.ks_assign.specs.declared.clients.Placing.{Placing}
use Rattle.ks_plan.specs.Drafts.{DraftView}
use Rattle.ks_plan.specs.Plan.{plan_of}
use Rattle.ks_plan.specs.Faults.{fault_of}
use Rattle.ks_history.specs.declared.journal.Entry.{Entry}
use Rattle.ks_history.specs.Machine.{TaskPlan, IsNetwork}
use Rattle.ks_history.specs.State.{Setup, IsSetup}
use Rattle.ks_history.specs.History.{IsHistory}
use Rattle.ks_cluster.specs.Placed.{PlacementTest}
use Rattle.ks_cluster.specs.View.{ClusterView}
use Rattle.ks_law_topology.specs.Work.{setup_of as topology_setup}
use Rattle.ks_law_topology.proofs.Networks.{works_are_networks}
use Rattle.ks_law_topology.proofs.Setups.{setups_are_made}
use Rattle.ks_def_tasks.specs.Rules.{rules_of}
use Rattle.ks_growing.specs.Passes.{PassView, Each, IsFresh, IsPass}
use Rattle.ks_shared.specs.declared.state.Frame.{Frame}
use Rattle.ks_shared.specs.Calls.{frame_of, setup_in}
use Rattle.ks_worker_client.specs.Turns.{HasRoomFor}
use Rattle.ks_job.specs.Items.{ItemView}
use Rattle.ks_run_feed.proofs.Fresh.{fresh_setup, fresh_seen}
use Rattle.ks_worker_turn.specs.Placing.{PlacesBy}
use Rattle.ks_worker.specs.Beginning.{MayRun, HasRoomForTurns}
use Rattle.ks_worker.proofs.Beginning.{new_may_act}
use Rattle.ks_worker_state.specs.declared.state.WorkerState.{WorkerState}
use Rattle.ks_run_workers.specs.Members.{pass_key, IsEnlisted}
use Rattle.ks_test_workers.specs.Pairs.{IsReady}

pub two_items : {A : Type 0} (all rest none : List A) (a b : A) → all ≡ a ∷ rest → rest ≡ b ∷ none → length all ≡ 2 → all ≡ a ∷ b ∷ []
two_items all rest [] a b e f n = e ∙ ap (λ l. a ∷ l) f
two_items all rest (x ∷ xs) a b e f n = let g : length all ≡ suc (suc (suc (length xs))) = ap length (e ∙ ap (λ l. a ∷ l) f) in absurd (omega (arith, n, g))

pub some_rest : {A : Type 0} (all rest : List A) (a : A) → all ≡ a ∷ rest → length all ≡ 2 → 0 < length rest
some_rest all rest a e n = let g : length all ≡ suc (length rest) = ap length e in omega (arith, n, g)

pub others_two : {A : Type 0} (all rest : List A) (a : A) → all ≡ a ∷ rest → length all ≡ 3 → length rest ≡ 2
others_two all rest a e n = let g : length all ≡ suc (length rest) = ap length e in omega (arith, n, g)

abbrev IsKey : TableId → ℕ → TableId × Bool × ℕ → Type 0
IsKey lock k key = (key.0 ≡ lock) × (key.1 ≡ false) × (key.2 ≡ k)

pub still_pass : {E F : Type 0} (lock : TableId) (k : ℕ) (p q : PassView E F) → pass_key q ≡ pass_key p → IsPass lock k p → IsPass lock k q
still_pass lock k p q e is = subst (IsKey lock k) (sym e) is

pub three_passes : {E F : Type 0} (lock : TableId) (all : List (PassView E F)) (a b c : PassView E F) → all ≡ a ∷ b ∷ c ∷ [] → IsPass lock 0 a → IsPass lock 1 b → IsPass lock 2 c → (length all ≡ 3) × (0 < length all) × Each (IsPass lock) all
three_passes {E = E} {F = F} lock all a b c e x y z = subst (λ (l : List (PassView E F)). (length l ≡ 3) × (0 < length l) × Each (IsPass lock) l) (sym e) (refl, omega arith, each)
  where
    each : Each (IsPass lock) (a ∷ b ∷ c ∷ [])
    each zero p g = subst (IsPass lock 0) (some-injective a p g) x
    each (suc zero) p g = subst (IsPass lock 1) (some-injective b p g) y
    each (suc (suc zero)) p g = subst (IsPass lock 2) (some-injective c p g) z
    each (suc (suc (suc k))) p g = absurd (some-ne-none p (sym g))

-- ---- the two workers of a new lock, with the passes after the first
empty_history : (setup : Setup) → IsHistory setup []
empty_history setup = record { legal = tt; faithful = tt }

module _ {W : Type 0} (plan : W → TaskPlan) (good : W → PlacementTest) (hash : List ℕ → ℕ) (d : DraftView) (placing : Placing) (c : ClusterView W) (is : List ItemView)
    (ready : IsReady plan good hash d placing c is) (fine : fault_of d ≡ None) (lock : TableId) where
  pub places_by : PlacesBy good placing d (Some (frame_of c))
  places_by = record { threads = ready.threads; serves = λ members held ends a h. ap (λ (t : PlacementTest). t members held ends a) ready.test ∙ h }

  pub may_run : {G : Type 0} (k : ℕ) (s : WorkerState W G) → IsFresh lock c.journal (frame_of c) k s.session.client.pass → IsEnlisted s → MayRun plan good hash lock d placing 1000 s
  may_run k s fresh enlisted =
      let pass = s.session.client.pass in
      let same : setup_in plan pass.frame ≡ topology_setup (rules_of hash) (plan_of d) = fresh_setup plan lock c k pass fresh ∙ ready.topology in
      record {
        act = new_may_act plan d enlisted.number enlisted.instance s enlisted.few enlisted.small enlisted.new hash lock
            (record {
              lock_is = ap (λ (p : PassView Entry (Frame W)). p.lock) fresh;
              free = ap (λ (p : PassView Entry (Frame W)). p.holds) fresh;
              history = subst (IsHistory (setup_in plan pass.frame)) (sym (fresh_seen plan lock c k pass fresh ∙ ready.new)) (empty_history (setup_in plan pass.frame));
              network = subst (λ (x : Setup). IsNetwork x.plan) (sym same) (works_are_networks (rules_of hash) (plan_of d));
              setup = subst IsSetup (sym same) (setups_are_made (rules_of hash) d fine);
              room = subst HasRoomFor (sym enlisted.uncounted) (record { asked_fits = omega arith; stops_fit = omega arith; calls_fit = omega arith; cuts_fit = omega arith });
            })
            (record { parts = ready.nodes; setup_is = same });
        serves = subst (PlacesBy good placing d) (sym (ap (λ (p : PassView Entry (Frame W)). p.frame) fresh)) places_by;
        room = subst (λ g. HasRoomForTurns g 1000) (sym enlisted.uncounted) (record { asked = omega arith; stops = omega arith; calls = omega arith; cuts = omega arith });
      }

  -- it may take all the turns that it has left
  pub may_play : {G : Type 0} (k : ℕ) (now : Placing) (left : ℕ) (s : WorkerState W G) → IsFresh lock c.journal (frame_of c) k s.session.client.pass → IsEnlisted s → left ≡ 1000 → now ≡ placing → MayRun plan good hash lock d now left s
  may_play k now left s fresh enlisted all same =
      subst (λ n. MayRun plan good hash lock d now n s) (sym all)
      (subst (λ p. MayRun plan good hash lock d p 1000 s) (sym same) (may_run k s fresh enlisted))

-- the passes after the first are fresh by their numbers
pub fresh_pair : {E F : Type 0} (lock : TableId) (seen : List E) (frame : F) (all others : List (PassView E F)) (first one two : PassView E F) → all ≡ first ∷ others → others ≡ one ∷ two ∷ [] → Each (IsFresh lock seen frame) all →
    IsFresh lock seen frame 0 first × IsFresh lock seen frame 1 one × IsFresh lock seen frame 2 two
fresh_pair {E = E} {F = F} lock seen frame all others first one two e f h =
    let g : Each (IsFresh lock seen frame) (first ∷ one ∷ two ∷ []) = subst (Each (IsFresh lock seen frame)) (e ∙ ap (λ l. first ∷ l) f) h in
    (g 0 first refl, g 1 one refl, g 2 two refl)
