-- What a settled journal of a job answers.
-- Kafka Streams developer guide, "KTable", "Windowing"; KIP-213 on joins on a foreign key.
use Rattle.std.specs.Prelude.{◌≡◌, ℕ, ◌+◌, ◌-◌, ◌<◌, ◌≤◌, ◌^◌, suc, Bool, false, List, [], ◌∷◌, length, cond, Option, Some, None, option_and_then}
use Rattle.std.specs.List.{AllByRecursion}
use Rattle.ks_record.specs.declared.record.TaskId.{TaskId}
use Rattle.ks_record.specs.Parts.{same_task}
use Rattle.ks_expr.specs.declared.terms.JoinKind.{JoinKind}
use Rattle.ks_expr.specs.declared.terms.Fk.{Fk}
use Rattle.ks_expr.specs.Terms.{Set}
use Rattle.ks_plan.specs.Drafts.{DraftView, Name}
use Rattle.ks_plan.specs.Plan.{Plan, Kind, Window, plan_of, known_nodes, node_number, is_windowed}
use Rattle.ks_plan.specs.Plan.Kind.{Windowed, ForeignKeyJoin}
use Rattle.ks_plan.specs.Layout.{kind_at}
use Rattle.ks_def_runs.specs.FinMap as fin
use Rattle.ks_query.specs.Streams.{Key, Input}
use Rattle.ks_query.specs.Windows.{WindowKey}
use Rattle.ks_query.specs.Query.{query}
use Rattle.ks_query.specs.Grace.{IsWithinGrace}
use Rattle.ks_query.specs.Printed.{job_tables, table_at}
use Rattle.ks_def_tasks.specs.Messages.{Rules}
use Rattle.ks_def_tasks.specs.Bytes.{store_from, hashes_from}
use Rattle.ks_def_tasks.specs.Collision.{IsNode, Collides, NoCollision}
use Rattle.ks_def_tasks.specs.Rest.{IsDrained}
use Rattle.ks_history.specs.declared.journal.Entry.{Entry}
use Rattle.ks_history.specs.State.{State}
use Rattle.ks_history.specs.Faithful.{folds}
use Rattle.ks_history.specs.History.{at}
use Rattle.ks_law_quiescence.specs.States.{home_task}
use Rattle.ks_law_fk_quiescence.specs.Windows.{members_in}
use Rattle.ks_law_fk_quiescence.specs.AtRest.{subscriber_for}
use Rattle.ks_law_topology.specs.Work.{setup_of}
use Rattle.ks_law_settled.specs.Jobs.{IsJob, IsDone}
use Rattle.ks_law_settled.specs.Folded.{node_windows, folded_table, folded_tables}
use Rattle.ks_law_settled.specs.Collision.{NodePair, first_pair, NoneInJournal}
use Rattle.ks_law_settled.specs.Replayed.{decoded_run}

-- a journal that is legal and faithful, has produced exactly a job's records, and is settled
pub record IsRunOf (rules : Rules) (d : DraftView) (records : List Input) (journal : List Entry) : Type 0 where
  pub job : IsJob rules d records
  pub done : IsDone rules d records journal

-- where the journal leaves the cluster
abbrev pub end_of : Rules → DraftView → List Entry → State
end_of rules d journal = at (setup_of rules (plan_of d)) journal

-- ---- printed tables
-- without a hash collision and without a late pair, all of them, by the folds, are the query's
abbrev pub TablesAreTheQuery : Type 0
TablesAreTheQuery = (rules : Rules) (d : DraftView) (records : List Input) (journal : List Entry) → IsRunOf rules d records journal →
    let s = end_of rules d journal in
    first_pair rules.hash (plan_of d) s ≡ None → s.late ≡ 0 → folded_tables d s ≡ job_tables d records

-- those that are no windowed counts are
abbrev pub OthersAre : DraftView → List Input → State → Type 0
OthersAre d records s = AllByRecursion (λ (name : Name). is_windowed (kind_at (plan_of d) (node_number (known_nodes d) name)) ≡ false →
    folded_table d s name ≡ table_at d (query (plan_of d) records) name) d.print

-- without a hash collision they are, whatever was late
abbrev pub OthersAreTheQuery : Type 0
OthersAreTheQuery = (rules : Rules) (d : DraftView) (records : List Input) (journal : List Entry) → IsRunOf rules d records journal →
    first_pair rules.hash (plan_of d) (end_of rules d journal) ≡ None → OthersAre d records (end_of rules d journal)

-- ---- windowed counts
-- by how much the query exceeds the folds, over these windows, and over the windowed counts among these nodes
abbrev pub excess_at : Plan → List Input → State → ℕ → List WindowKey → ℕ
excess_at p records s n [] = 0
excess_at p records s n (k ∷ ks) = (members_in (fin.get ((query p records).windows n) k) - members_in (fin.get (node_windows p s n) k)) + excess_at p records s n ks

abbrev pub excess_of : Plan → List Input → State → ℕ → List Kind → ℕ
excess_of p records s n [] = 0
excess_of p records s n (k ∷ ks) = cond (is_windowed k) (excess_at p records s n (fin.keys ((query p records).windows n))) 0 + excess_of p records s (suc n) ks

-- each window's count is at most the query's, and in total they lack the committed late total
pub record CountsLack (p : Plan) (records : List Input) (s : State) : Type 0 where
  pub at_most : (n f : ℕ) (by : Option Name) (w : Window) (through : Bool) → IsNode p n (Windowed f by w through) → (k : WindowKey) →
      members_in (fin.get (node_windows p s n) k) ≤ members_in (fin.get ((query p records).windows n) k)
  pub total : s.late ≡ excess_of p records s 0 p.kinds

-- so it is, whatever collides
abbrev pub WindowsLackTheLate : Type 0
WindowsLackTheLate = (rules : Rules) (d : DraftView) (records : List Input) (journal : List Entry) → IsRunOf rules d records journal → CountsLack (plan_of d) records (end_of rules d journal)

-- nothing is late where the job's records are within grace, whatever collides
abbrev pub WithinGraceIsNotLate : Type 0
WithinGraceIsNotLate = (rules : Rules) (d : DraftView) (records : List Input) (journal : List Entry) → IsRunOf rules d records journal → IsWithinGrace (plan_of d) records → (end_of rules d journal).late ≡ 0

-- ---- hash collisions
-- the search for the first tells those of the run
pub record TellsCollisions (rules : Rules) (d : DraftView) (records : List Input) (journal : List Entry) : Type 0 where
  -- none is found where no two decided records of a left node's changelog collide, and then no two rows of the run do
  pub none : first_pair rules.hash (plan_of d) (end_of rules d journal) ≡ None → NoneInJournal rules.hash (plan_of d) (end_of rules d journal)
  pub none_in_run : first_pair rules.hash (plan_of d) (end_of rules d journal) ≡ None → NoCollision rules (plan_of d) (decoded_run rules (plan_of d) records journal)
  -- what is found is one of the run's
  pub found : (c : NodePair) → first_pair rules.hash (plan_of d) (end_of rules d journal) ≡ Some c → Collides rules (plan_of d) (decoded_run rules (plan_of d) records journal)

abbrev pub CollisionsAreTold : Type 0
CollisionsAreTold = (rules : Rules) (d : DraftView) (records : List Input) (journal : List Entry) → IsRunOf rules d records journal → TellsCollisions rules d records journal

-- ---- the decoded run of the journal's steps has come to rest
pub record IsAtItsEnd (rules : Rules) (d : DraftView) (records : List Input) (journal : List Entry) : Type 0 where
  pub drained : IsDrained (decoded_run rules (plan_of d) records journal)
  pub few : length (decoded_run rules (plan_of d) records journal).taken < 2 ^ 48
  -- its stores are the folds of their changelogs, and its late pairs are the committed late total
  pub stores : (t : TaskId) → (decoded_run rules (plan_of d) records journal).stores t ≡ store_from (plan_of d) t.sub (folds (setup_of rules (plan_of d)) (end_of rules d journal) t)
  pub late : (end_of rules d journal).late ≡ (decoded_run rules (plan_of d) records journal).late

abbrev pub RunsHaveEnded : Type 0
RunsHaveEnded = (rules : Rules) (d : DraftView) (records : List Input) (journal : List Entry) → IsRunOf rules d records journal → IsAtItsEnd rules d records journal

-- without a hash collision each subscription store, by the fold of its changelog, has exactly the hash of the left row of the query, with the
-- partition of the left key's task where subscriptions name it, at the foreign key and the left key, in the task of the foreign key
abbrev pub SubscriptionsAreTheQuery : Type 0
SubscriptionsAreTheQuery = (rules : Rules) (d : DraftView) (records : List Input) (journal : List Entry) → IsRunOf rules d records journal →
    let p = plan_of d in
    let s = end_of rules d journal in
    first_pair rules.hash p s ≡ None →
    (n l r : ℕ) (fk : Fk) (kind : JoinKind) (set : Set) → IsNode p n (ForeignKeyJoin l r fk kind set) → (u : TaskId) (b k : Key) →
    fin.get (hashes_from p u.sub (folds (setup_of rules p) s u) n b) k
    ≡ cond (same_task u (home_task rules p r b)) (option_and_then (subscriber_for rules p n fk b k) (fin.get ((query p records).tables l) k)) None
