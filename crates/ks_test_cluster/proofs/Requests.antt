-- A cluster of the copying task, call after call.
use Rattle.std.proofs.Common.{◌≡◌, ℕ, List, [], ◌∷◌, ◌++◌, ◌+◌, take, refl, sym, ap, ◌∙◌, subst}
use Rattle.ks_record.specs.Records.{Record as Rec}
use Rattle.ks_record.specs.declared.record.TaskId.{TaskId}
use Rattle.ks_history.specs.declared.journal.Entry.{Entry}
use Rattle.ks_history.specs.declared.journal.Request.{Request}
use Rattle.ks_history.specs.declared.journal.Reply.{Reply}
use Rattle.ks_history.specs.State.{State, Setup, start}
use Rattle.ks_history.specs.Step.{after}
use Rattle.ks_history.specs.History.{state_after, at}
use Rattle.ks_cluster.specs.View.{ClusterView, setup_of, state_of, AddsEntry}
use Rattle.ks_law_exactly_once.specs.Example.{setup, one_commit}
use Rattle.ks_test_cluster.specs.Stages.{requests, Stands}
use Rattle.ks_test_cluster.specs.Ours.{IsOurs}

-- a state depends on the requests alone
abbrev through : Setup → State → List Request → State
through made s [] = s
through made s (request ∷ more) = through made (after made s request) more

through-is : (setup : Setup) (s : State) (entries : List Entry) → state_after setup s entries ≡ through setup s (requests entries)
through-is made s [] = refl
through-is made s (entry ∷ entries) = through-is made (after made s entry.request) entries

requests-more : (entries : List Entry) (entry : Entry) → requests (entries ++ entry ∷ []) ≡ requests entries ++ entry.request ∷ []
requests-more [] entry = refl
requests-more (first ∷ entries) entry = ap (λ l. first.request ∷ l) (requests-more entries entry)

-- one call more
pub one_more : {W : Type 0} (n : ℕ) (rec : Rec) (old new : ClusterView W) (request : Request) (reply : Reply) → Stands n rec old → AddsEntry (λ w. setup.plan) old new request reply
    → requests (take n (one_commit rec)) ++ request ∷ [] ≡ requests (take (n + 1) (one_commit rec)) → Stands (n + 1) rec new
one_more {W} n rec old new request reply is a next = (
  ap (λ (c : ClusterView W). c.counts) a.journal ∙ is.0,
  ap (λ (c : ClusterView W). c.tasks) a.journal ∙ is.1,
  ap (λ (c : ClusterView W). requests c.journal) a.journal ∙ requests-more old.journal (record { request = request; reply = reply }) ∙ ap (λ l. l ++ request ∷ []) is.2 ∙ next,
)

-- what holds of the history's setup and state holds of the cluster
pub carried : {W : Type 0} (P : Setup → State → Type 0) (n : ℕ) (rec : Rec) (c : ClusterView W) → Stands n rec c → P setup (at setup (take n (one_commit rec))) → P (setup_of (λ w. setup.plan) c) (state_of (λ w. setup.plan) c)
carried {W} P n rec c is holds =
    let same : at setup (take n (one_commit rec)) ≡ at setup c.journal =
    through-is setup start (take n (one_commit rec)) ∙ ap (through setup start) (sym is.2) ∙ sym (through-is setup start c.journal) in
    subst (λ (ns : List ℕ). P (record { plan = setup.plan; counts = ns; tasks = c.tasks }) (at (record { plan = setup.plan; counts = ns; tasks = c.tasks }) c.journal)) (sym is.0)
    (subst (λ (ts : List TaskId). P (record { plan = setup.plan; counts = setup.counts; tasks = ts }) (at (record { plan = setup.plan; counts = setup.counts; tasks = ts }) c.journal)) (sym is.1)
    (subst (P setup) same holds))

-- an empty cluster
pub stands_new : {W : Type 0} (rec : Rec) (c : ClusterView W) → IsOurs c → c.journal ≡ [] → Stands 0 rec c
stands_new rec c ours new = (ours.0, ours.1, ap requests new)
