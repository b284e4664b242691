-- What the workers of a run leave follows the journal of the cluster that their lock gives back.
use Rattle.std.proofs.Common.{◌≡◌, ◌<◌, ℕ, zero, suc, List, [], ◌∷◌, ◌++◌, map, length, refl, sym, ap, subst, ◌∙◌, arith, append_assoc, append-nil}
use Rattle.std.specs.Prelude.{Option, Some, None, IfSome, slice_index_or}
use Rattle.std.specs.List.{All}
use Rattle.std.proofs.lemmas.List.Elements.{All-head, All-tail, All-nil}
use mathlib.Core.Option.{some}
use lib.ListN.{get_elem?}
use Rattle.ks_plan.specs.Drafts.{DraftView}
use Rattle.ks_plan.specs.Plan.{plan_of}
use Rattle.ks_history.specs.declared.journal.Entry.{Entry}
use Rattle.ks_history.specs.Machine.{TaskPlan, IsNetwork}
use Rattle.ks_history.specs.State.{Setup}
use Rattle.ks_history.specs.History.{IsHistory, IsPrefix}
use Rattle.ks_law_topology.proofs.Networks.{works_are_networks}
use Rattle.ks_def_tasks.specs.Rules.{rules_of}
use Rattle.ks_cluster.specs.View.{ClusterView, setup_of}
use Rattle.ks_growing.specs.Passes.{PassView, Each}
use Rattle.ks_shared.specs.declared.state.Frame.{Frame}
use Rattle.ks_shared.specs.Calls.{frame_of, setup_in}
use Rattle.ks_standby.specs.declared.replica.Replica.{Replica}
use Rattle.ks_worker_state.specs.Standbys.{IsStandby}
use Rattle.ks_worker_state.specs.Topology.{RunsTopology}
use Rattle.ks_worker_state.proofs.Fed.{standby_stays}
use Rattle.ks_worker.specs.Left.{MayLeave, LeavesStandbys}
use Rattle.ks_run_workers.specs.declared.working.WorkerThread.{WorkerThread}
use Rattle.ks_run_workers.specs.Left.{AllMayLeave, AllLeave, AreWorkers, AreStandbysOf}
use Rattle.ks_run_workers.specs.Asked.{option_list}
use Rattle.ks_run_workers.specs.Members.{HaveKeys, pass_key}
use Rattle.ks_run_workers.specs.Working.{HaveTurned}
use Rattle.ks_run_workers.proofs.LockPasses.{keys_length}

-- ---- one worker after another
-- those that are left may leave still, and what the others left follows
pub record HaveLeft {W G : Type 0} (plan : W → TaskPlan) (all rest : List (WorkerThread W G)) (old now : List Replica) : Type 0 where
  pub so_far : (hash : List ℕ → ℕ) (d : DraftView) (setup : Setup) (journal : List Entry) → AllMayLeave plan hash d setup journal all → All (IsStandby setup journal) old →
      All (IsStandby setup journal) now × AllMayLeave plan hash d setup journal rest

pub none_left : {W G : Type 0} (plan : W → TaskPlan) (all rest : List (WorkerThread W G)) (old : List Replica) → rest ≡ all → HaveLeft plan all rest old old
none_left plan all rest old is = record { so_far = λ hash d setup journal may std. (std, subst (AllMayLeave plan hash d setup journal) (sym is) may) }

pub one_left : {W G : Type 0} (plan : W → TaskPlan) (all rest more : List (WorkerThread W G)) (m : WorkerThread W G) (old now new : List Replica) → rest ≡ m ∷ more →
    HaveLeft plan all rest old now → LeavesStandbys plan m.worker.state now new → HaveLeft plan all more old new
one_left {W} {G} plan all rest more m old now new is was leaves = record {
  so_far = λ hash d setup journal may std.
      let P : WorkerThread W G → Type 0 = λ x. MayLeave plan hash d setup journal x.worker.state in
      let so_far = was.so_far hash d setup journal may std in
      let left : All P (m ∷ more) = subst (All P) is so_far.1 in
      (leaves hash d setup journal (All-head P m more left) so_far.0, All-tail P m more left);
}

pub all_left : {W G : Type 0} (plan : W → TaskPlan) (all rest : List (WorkerThread W G)) (old now : List Replica) → HaveLeft plan all rest old now → AllLeave plan all old now
all_left plan all rest old now h hash d setup journal may std = (h.so_far hash d setup journal may std).0

-- the passes beside them
pub passes_more : {A B : Type 0} (f : A → B) (before after : List B) (m : A) (p : B) (rest more : List A) (all : List B) → after ≡ before ++ p ∷ [] → p ≡ f m → rest ≡ m ∷ more →
    before ++ map f rest ≡ all → after ++ map f more ≡ all
passes_more f before after m p rest more all pushed is split so_far =
    ap (λ l. l ++ map f more) pushed ∙ (append_assoc before (p ∷ []) (map f more) ∙ (ap (λ x. before ++ x ∷ map f more) is ∙ (ap (λ l. before ++ map f l) (sym split) ∙ so_far)))

-- all of them, and then the last
pub passes_and_last : {A B : Type 0} (f : A → B) (now : List B) (rest : List A) (first : B) (all : List A) (last : Option B) (new : List B) → length rest ≡ 0 → now ++ map f rest ≡ first ∷ map f all → new ≡ now ++ option_list last →
    new ≡ first ∷ (map f all ++ option_list last)
passes_and_last f now [] first all last new none so_far is = is ∙ ap (λ l. l ++ option_list last) (sym (append-nil now) ∙ so_far)
passes_and_last f now (x ∷ rest) first all last new none so_far is = absurd (omega (arith, none))

at_end : {B : Type 0} (front : List B) (x : B) → get_elem? (front ++ x ∷ []) (length front) ≡ some x
at_end [] x = refl
at_end (y ∷ ys) x = at_end ys x

pub last_is : {B : Type 0} (P : B → Type 0) (front : List B) (last : Option B) → Each (λ k p. P p) (front ++ option_list last) → IfSome last P
last_is P front None h = tt
last_is P front (Some x) h = h (length front) x (at_end front x)

at_front : {A B : Type 0} (f : A → B) (xs : List A) (more : List B) (k : ℕ) (d : A) → k < length xs → get_elem? (map f xs ++ more) k ≡ some (f (slice_index_or xs k d))
at_front f [] more k d l = absurd (omega arith)
at_front f (x ∷ xs) more zero d l = refl
at_front f (x ∷ xs) more (suc k) d l = at_front f xs more k d (omega arith)

-- ---- the lock is closed
module _ {W : Type 0} (plan : W → TaskPlan) (closed : ClusterView W) (history : IsHistory (setup_of plan closed) closed.journal) (net : IsNetwork (setup_of plan closed).plan) where
  follows_on : (pass : PassView Entry (Frame W)) (r : Replica) → pass.frame ≡ Some (frame_of closed) → IsPrefix pass.seen closed.journal → IsStandby (setup_in plan pass.frame) pass.seen r → IsStandby (setup_of plan closed) closed.journal r
  follows_on pass r frame prefix s =
      let here : IsStandby (setup_of plan closed) pass.seen r = subst (λ f. IsStandby (setup_in plan f) pass.seen r) frame s in
      subst (λ j. IsStandby (setup_of plan closed) j r) (sym prefix.1)
      (standby_stays (setup_of plan closed) pass.seen prefix.0 r net (subst (IsHistory (setup_of plan closed)) prefix.1 history) here)

pub network_of : (hash : List ℕ → ℕ) (d : DraftView) (setup : Setup) → RunsTopology hash d setup → IsNetwork setup.plan
network_of hash d setup runs = subst (λ (s : Setup). IsNetwork s.plan) (sym runs.setup_is) (works_are_networks (rules_of hash) (plan_of d))

pub all_standbys : {W G : Type 0} (plan : W → TaskPlan) (first closed : ClusterView W) (members : List (WorkerThread W G)) (one : PassView Entry (Frame W)) (more passes : List (PassView Entry (Frame W))) (old new : List Replica) →
    AreWorkers plan (setup_of plan first) members → frame_of closed ≡ frame_of first → passes ≡ one ∷ (map (λ m. m.worker.state.session.client.pass) members ++ more) →
    Each (λ k p. p.frame ≡ Some (frame_of closed)) passes → Each (λ k p. IsPrefix p.seen closed.journal) passes →
    IsHistory (setup_of plan closed) closed.journal → old ≡ [] → AllLeave plan members old new → AreStandbysOf plan closed new
all_standbys {W} {G} plan first closed members one more passes old new w same is frames prefixes history none leave =
    leave w.hash w.topology (setup_of plan closed) closed.journal may_leave (subst (All (IsStandby (setup_of plan closed) closed.journal)) (sym none) (All-nil (IsStandby (setup_of plan closed) closed.journal)))
  where
    runs : RunsTopology w.hash w.topology (setup_of plan closed)
    runs = subst (λ (f : Frame W). RunsTopology w.hash w.topology (setup_in plan (Some f))) (sym same) w.runs

    at_member : (k : ℕ) (m : WorkerThread W G) → k < length members → get_elem? passes (suc k) ≡ some (slice_index_or members k m).worker.state.session.client.pass
    at_member k m lt = ap (λ l. get_elem? l (suc k)) is ∙ at_front (λ (x : WorkerThread W G). x.worker.state.session.client.pass) members more k m lt

    may_leave : AllMayLeave plan w.hash w.topology (setup_of plan closed) closed.journal members
    may_leave k m lt =
        let pass = (slice_index_or members k m).worker.state.session.client.pass in
        let frame : pass.frame ≡ Some (frame_of closed) = frames (suc k) pass (at_member k m lt) in
        record {
          topology = subst (λ f. RunsTopology w.hash w.topology (setup_in plan f)) (sym frame) runs;
          worker = w.each k m lt;
          on = λ r s. follows_on plan closed history (network_of w.hash w.topology (setup_of plan closed) runs) pass r frame (prefixes (suc k) pass (at_member k m lt)) s;
        }

-- ---- after they took their turns
pub workers_of : {W G : Type 0} (plan : W → TaskPlan) (hash : List ℕ → ℕ) (d : DraftView) (turns : ℕ) (setup : Setup) (old new : List (WorkerThread W G)) → RunsTopology hash d setup →
    HaveKeys (λ m. m.worker.state.session.client.pass) old new → HaveTurned plan d turns old new → AreWorkers plan setup new
workers_of {W} {G} plan hash d turns setup old new runs keys turned = record {
  hash = hash;
  topology = d;
  runs = runs;
  each = λ k m lt. (turned.turned k m (omega (arith, lt, keys_length (λ (x : WorkerThread W G). pass_key x.worker.state.session.client.pass) new old keys))).worker;
}
