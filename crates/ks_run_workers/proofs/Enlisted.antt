-- Workers before their first turn: their passes are those of a new lock, and they may run.
use Rattle.std.proofs.Common.{◌≡◌, ℕ, zero, suc, ◌+◌, ◌*◌, ◌<◌, ◌≤◌, List, [], ◌∷◌, ◌++◌, map, length, append-nil, append_assoc, length-append, refl, sym, ap, subst, ◌∙◌, arith, Result, Ok, Err, IfOk}
use Rattle.std.specs.Prelude.{Some, None, true, slice_index_or}
use Rattle.std.specs.List.{All}
use Rattle.std.proofs.Math.Nat.{mul-le-mul, mul-le-mul_right, one-le-mul}
use Rattle.std.proofs.lemmas.List.{length-map, map-append}
use Rattle.std.proofs.lemmas.List.Elements.{All-nil, All-cons, All-same, All-append}
use mathlib.Core.Option.{some}
use lib.ListN.{get_elem?}
use Rattle.atomic_table.specs.Seated.{TableId}
use Rattle.ks_plan.specs.Drafts.{DraftView}
use Rattle.ks_plan.specs.Plan.{plan_of}
use Rattle.ks_plan.specs.Layout.{tasks}
use Rattle.ks_plan.specs.Infos.{changelog_numbers}
use Rattle.ks_assign.specs.declared.clients.Placing.{Placing}
use Rattle.ks_assign_group.specs.Groups.{good_by}
use Rattle.ks_cluster.specs.Placed.{PlacementTest}
use Rattle.ks_worker_turn.specs.Placing.{PlacesBy}
use Rattle.ks_plan.specs.Faults.{fault_of}
use Rattle.ks_history.specs.declared.journal.Entry.{Entry}
use Rattle.ks_history.specs.Machine.{TaskPlan, IsNetwork}
use Rattle.ks_history.specs.State.{Setup, IsSetup}
use Rattle.ks_history.specs.History.{IsHistory}
use Rattle.ks_cluster.specs.View.{ClusterView, setup_of}
use Rattle.ks_law_topology.specs.Work.{setup_of as topology_setup}
use Rattle.ks_law_topology.proofs.Networks.{works_are_networks}
use Rattle.ks_law_topology.proofs.Setups.{setups_are_made}
use Rattle.ks_def_tasks.specs.Rules.{HaveParts, rules_of}
use Rattle.ks_growing.specs.Passes.{PassView, IsPass, IsFresh, Each}
use Rattle.ks_shared.specs.declared.state.Frame.{Frame}
use Rattle.ks_shared.specs.Calls.{frame_of, setup_in, good_in}
use Rattle.ks_worker_client.specs.Turns.{HasRoomFor}
use Rattle.ks_words.specs.Ranges.{IsBetween}
use Rattle.ks_run_feed.proofs.Fresh.{fresh_setup, fresh_seen}
use Rattle.ks_worker.specs.Beginning.{MayRun, HasRoomForTurns}
use Rattle.ks_worker_state.specs.declared.state.WorkerState.{WorkerState}
use Rattle.ks_worker.proofs.Beginning.{new_may_act}
use Rattle.ks_run_workers.specs.Members.{ArePasses, IsEnlisted}

-- ---- how many workers there are
pub record AreWorkers (threads count : ℕ) : Type 0 where
  pub some : 1 ≤ count
  pub few : count ≤ 16
  pub instances : count ≤ 4 * threads

pub are_workers : (instances threads : ℕ) → IsBetween 1 4 instances → IsBetween 1 4 threads → AreWorkers threads (instances * threads)
are_workers instances threads i t = record {
  some = one-le-mul i.0 t.0;
  few = mul-le-mul i.1 t.1;
  instances = mul-le-mul_right threads i.1;
}

-- ---- the passes of a new lock but the first
module _ {E F : Type 0} (lock : TableId) (seen : List E) (frame : F) where
  pub others_fresh : (all rest : List (PassView E F)) (first : PassView E F) → all ≡ first ∷ rest → Each (IsFresh lock seen frame) all → Each (λ k p. IsFresh lock seen frame (k + 1) p) rest
  others_fresh all rest first is h k p g = subst (λ n. IsFresh lock seen frame n p) (omega arith) (h (suc k) p (ap (λ l. get_elem? l (suc k)) is ∙ g))

  pub others_are_passes : (rest : List (PassView E F)) → Each (λ k p. IsFresh lock seen frame (k + 1) p) rest → ArePasses lock rest
  others_are_passes rest h k p g = subst (IsPass lock (k + 1)) (sym (h k p g)) (refl, refl, refl)

pub at_mapped : {A B : Type 0} (f : A → B) (xs : List A) (k : ℕ) (d : A) → k < length xs → get_elem? (map f xs) k ≡ some (f (slice_index_or xs k d))
at_mapped f [] k d l = absurd (omega arith)
at_mapped f (x ∷ xs) zero d l = refl
at_mapped f (x ∷ xs) (suc k) d l = at_mapped f xs k d (omega arith)

pub empty_history : (setup : Setup) → IsHistory setup []
empty_history setup = record { legal = tt; faithful = tt }

module _ {W : Type 0} (plan : W → TaskPlan) (good : W → PlacementTest) (hash : List ℕ → ℕ) (d : DraftView) (c : ClusterView W) (lock : TableId) (placing : Placing) (turns : ℕ) (empty : c.journal ≡ [])
    (topology : setup_of plan c ≡ topology_setup (rules_of hash) (plan_of d)) (wanted : good c.work ≡ good_by (changelog_numbers (plan_of d)) (tasks (plan_of d)) placing) (threads : 1 ≤ placing.threads)
    (fine : fault_of d ≡ None) (parts : HaveParts (plan_of d)) (few : turns ≤ 1000000) where
  may_run : {G : Type 0} (k : ℕ) (s : WorkerState W G) (p : Placing) → IsFresh lock c.journal (frame_of c) k s.session.client.pass → IsEnlisted s → p ≡ placing → MayRun plan good hash lock d p turns s
  may_run k s p fresh enlisted placed =
      let pass = s.session.client.pass in
      let same : setup_in plan pass.frame ≡ topology_setup (rules_of hash) (plan_of d) = fresh_setup plan lock c k pass fresh ∙ topology in
      let frame : pass.frame ≡ Some (frame_of c) = ap (λ (q : PassView Entry (Frame W)). q.frame) fresh in
      record {
        act = new_may_act plan d enlisted.number enlisted.instance s enlisted.few enlisted.small enlisted.new hash lock
            (record {
              lock_is = ap (λ (q : PassView Entry (Frame W)). q.lock) fresh;
              free = ap (λ (q : PassView Entry (Frame W)). q.holds) fresh;
              history = subst (IsHistory (setup_in plan pass.frame)) (sym (fresh_seen plan lock c k pass fresh ∙ empty)) (empty_history (setup_in plan pass.frame));
              network = subst (λ (x : Setup). IsNetwork x.plan) (sym same) (works_are_networks (rules_of hash) (plan_of d));
              setup = subst IsSetup (sym same) (setups_are_made (rules_of hash) d fine);
              room = subst HasRoomFor (sym enlisted.uncounted) (record { asked_fits = omega arith; stops_fit = omega arith; calls_fit = omega arith; cuts_fit = omega arith });
            })
            (record { parts = parts; setup_is = same });
        serves = subst (λ q. PlacesBy good q d pass.frame) (sym placed) (record {
          threads = threads;
          serves = λ members held ends a h. subst (λ f. good_in good f members held ends a ≡ true) (sym frame) (ap (λ t. t members held ends a) wanted ∙ h);
        });
        room = subst (λ g. HasRoomForTurns g turns) (sym enlisted.uncounted) (record { asked = omega (arith, few); stops = omega (arith, few); calls = omega (arith, few); cuts = omega (arith, few) });
      }

  pub all_may_run : {A G : Type 0} (state : A → WorkerState W G) (placed : A → Placing) (members : List A) (others : List (PassView Entry (Frame W))) → map (λ m. (state m).session.client.pass) members ≡ others →
      Each (λ k p. IsFresh lock c.journal (frame_of c) (k + 1) p) others → All (λ m. IsEnlisted (state m)) members → All (λ m. placed m ≡ placing) members → All (λ m. MayRun plan good hash lock d (placed m) turns (state m)) members
  all_may_run state placed members others is fresh enlisted places k e l =
      let m = slice_index_or members k e in
      may_run (k + 1) (state m) (placed m) (fresh k (state m).session.client.pass (ap (λ xs. get_elem? xs k) (sym is) ∙ at_mapped (λ x. (state x).session.client.pass) members k e l)) (enlisted k e l) (places k e l)

-- ---- what is told of one answer
pub both_ok : {A E : Type 0} (P Q S : A → Type 0) (r : Result A E) → ((a : A) → P a → Q a → S a) → IfOk r P → IfOk r Q → IfOk r S
both_ok P Q S (Ok a) f p q = f a p q
both_ok P Q S (Err e) f p q = tt

-- ---- lengths
pub members_long : {A B : Type 0} (f : A → B) (members : List A) (others : List B) (count : ℕ) → map f members ≡ others → length others ≡ count → length members ≡ count
members_long f members others count is long = sym (length-map members f) ∙ ap length is ∙ long

-- ---- one worker more
pub enlisted_one : {A B : Type 0} (f : A → B) (before after : List A) (one : A) (p : B) (rest more all : List B) → after ≡ before ++ one ∷ [] → rest ≡ p ∷ more → f one ≡ p → map f before ++ rest ≡ all → map f after ++ more ≡ all
enlisted_one f before after one p rest more all pushed split is so_far =
    ap (λ l. map f l ++ more) pushed ∙ (ap (λ l. l ++ more) (map-append f before (one ∷ []))
    ∙ (append_assoc (map f before) (f one ∷ []) more ∙ (ap (λ (q : _). map f before ++ q ∷ more) is ∙ (ap (λ l. map f before ++ l) (sym split) ∙ so_far))))

no_items : {A : Type 0} (xs : List A) → length xs ≡ 0 → xs ≡ []
no_items [] e = refl
no_items (x ∷ xs) e = absurd (omega (arith, e))

pub all_enlisted : {A B : Type 0} (f : A → B) (members : List A) (rest all : List B) → length rest ≡ 0 → map f members ++ rest ≡ all → map f members ≡ all
all_enlisted f members rest all none so_far = sym (append-nil (map f members)) ∙ (ap (λ l. map f members ++ l) (sym (no_items rest none)) ∙ so_far)

pub fewer : {A B : Type 0} (rest more : List A) (p : A) (gates left : List B) (q : B) → rest ≡ p ∷ more → gates ≡ q ∷ left → length rest ≤ length gates → length more ≤ length left
fewer rest more p gates left q a b l = let x : length rest ≡ suc (length more) = ap length a in let y : length gates ≡ suc (length left) = ap length b in omega (arith, x, y, l)

pub as_many : {A B : Type 0} (before after : List A) (one : A) (rest more : List B) (p : B) → after ≡ before ++ one ∷ [] → rest ≡ p ∷ more → length after + length more ≡ length before + length rest
as_many before after one rest more p pushed split =
    let x : length after ≡ length before + 1 = ap length pushed ∙ length-append before (one ∷ []) in
    let y : length rest ≡ suc (length more) = ap length split in
    omega (arith, x, y)

pub all_pushed : {A : Type 0} (P : A → Type 0) (before after : List A) (one : A) → after ≡ before ++ one ∷ [] → All P before → P one → All P after
all_pushed P before after one pushed h p = All-same P after (before ++ one ∷ []) pushed (All-append P before (one ∷ []) h (All-cons P one [] p (All-nil P)))
