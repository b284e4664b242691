-- One entry more of a journal: what is kept beside the cluster once it is played, and why it isn't.
use Rattle.std.specs.Prelude.{◌≡◌, ℕ, ◌<◌, Bool, true, false, List, [], ◌∷◌, ◌++◌, Option, Some, None, ⊤, length, get_or, is_some}
use Rattle.ks_record.specs.declared.record.TaskId.{TaskId}
use Rattle.ks_plan.specs.Drafts.{DraftView}
use Rattle.ks_plan.specs.Plan.{Plan, plan_of}
use Rattle.ks_topo.specs.Places.{HasPlaces}
use Rattle.ks_def_tasks.specs.Messages.{Rules}
use Rattle.ks_history.specs.declared.journal.Request.{Request}
use Rattle.ks_history.specs.declared.journal.Request.TheVariants.{Produce}
use Rattle.ks_history.specs.declared.journal.Entry.{Entry}
use Rattle.ks_history.specs.declared.transaction.Transaction.{Transaction}
use Rattle.ks_history.specs.Machine.{TaskPlan, IsNetwork}
use Rattle.ks_history.specs.State.{State, Setup, IsSetup}
use Rattle.ks_history.specs.History.{at, IsHistory, IsStep, IsFaithfulEntry, Meets}
use Rattle.ks_law_restore.specs.Views.{are_topics_once}
use Rattle.ks_law_topology.specs.Work.{setup_of as topology_setup}
use Rattle.ks_cluster.specs.Placed.{PlacementTest}
use Rattle.ks_cluster.specs.View.{ClusterView, setup_of, setup_from, state_of}
use Rattle.ks_audit_entry.specs.Outcomes.{FindsAllGood}
use Rattle.ks_audit_ledger.specs.declared.account.Account.{Account}
use Rattle.ks_audit_ledger.specs.Accounts.{blank}
use Rattle.ks_audit_ledger.specs.Ledgers.{IsLedger}
use Rattle.ks_audit_commit.specs.declared.audited.AuditedTask.{AuditedTask}
use Rattle.ks_audit.specs.declared.fault.AuditFault.{AuditFault}
use Rattle.ks_audit.specs.declared.fault.AuditFault.TheVariants.{NotJournal, NotLegal, NotFaithful}
use Rattle.ks_audit.specs.declared.fault.LineStop.{LineStop}
use Rattle.ks_audit.specs.declared.fault.LineStop.TheVariants.{Fault, Memory}
use Rattle.ks_audit.specs.declared.replay.Played.{Played}
use Rattle.ks_audit.specs.Audited.{IsPlaced, IsFirstUnfaithful}
use Rattle.ks_audit.specs.Playing.{names_in, IsPlayed, AreAudited, AreJudged, IsFirstOf, commit_at}

-- the topic of a record that is produced is one of the topology's
abbrev pub IsSource : Plan → Request → Type 0
IsSource p (Produce part rec) = part.topic < length p.counts
IsSource p request = ⊤

-- ---- a commit that is accepted, if there is one
-- its account has something open
abbrev pub IsOpenAt : List Account → Option ℕ → Type 0
IsOpenAt ledger None = ⊤
IsOpenAt ledger (Some w) = (w < length ledger) × (is_some (get_or ledger w blank).undecided ≡ true)

-- the tasks are at rest, or have taken what the commit names
abbrev pub IsReady : DraftView → Setup → List Entry → Option ℕ → List AuditedTask → Type 0
IsReady d setup journal None ts = AreAudited d setup journal ts
IsReady d setup journal (Some w) ts = AreJudged d setup journal w ts

-- want of memory, or the first task for which it isn't faithful
abbrev pub IsCommitStop : Setup → State → Option ℕ → LineStop → Type 0
IsCommitStop setup s commit Memory = ⊤
IsCommitStop setup s commit (Fault (NotFaithful t)) =
    (w : ℕ) × (tx : Transaction) × (commit ≡ Some w) × ((s.producer w).undecided ≡ Some tx) × IsFirstOf setup s w tx t
IsCommitStop setup s commit (Fault NotLegal) = ⊥
IsCommitStop setup s commit (Fault NotJournal) = ⊥

-- ---- what is kept once the entry is played
pub record MayKeep (d : DraftView) (setup : Setup) (journal : List Entry) (commit : Option ℕ) (entry : Entry) (ledger : List Account) (tasks : List AuditedTask) : Type 0 where
  pub network : IsNetwork setup.plan
  pub before : IsHistory setup journal
  pub history : IsHistory setup (journal ++ entry ∷ [])
  pub step : IsStep setup (at setup journal) entry
  pub made : IsSetup setup
  pub once : (sub : ℕ) → are_topics_once (setup.plan.inputs sub) ≡ true
  pub ledger_is : IsLedger setup journal ledger
  pub commit_is : commit ≡ commit_at ledger entry.request
  pub names : names_in tasks ≡ setup.tasks
  pub ready : IsReady d setup journal commit tasks

-- the accounts and the tasks are those of the cluster's journal, and the cluster is one of this topology
pub record IsPlayedBy {W : Type 0} (plan : W → TaskPlan) (good : W → PlacementTest) (rules : Rules) (d : DraftView) (x : Played W) : Type 0 where
  pub setup : setup_of plan x.cluster ≡ topology_setup rules (plan_of d)
  pub conditions : setup_of plan x.cluster ≡ setup_from (plan x.conditions.work) x.conditions.counts.items x.conditions.tasks.items
  pub all_good : FindsAllGood (good x.cluster.work)
  pub kept : IsPlayed d (setup_of plan x.cluster) x.cluster.journal x.ledger.items x.tasks.items

-- the same, where the tasks have taken what a commit names that is about to be made
pub record IsReadyBy {W : Type 0} (plan : W → TaskPlan) (good : W → PlacementTest) (rules : Rules) (d : DraftView) (x : Played W) (commit : Option ℕ) (entry : Entry) : Type 0 where
  pub setup : setup_of plan x.cluster ≡ topology_setup rules (plan_of d)
  pub conditions : setup_of plan x.cluster ≡ setup_from (plan x.conditions.work) x.conditions.counts.items x.conditions.tasks.items
  pub all_good : FindsAllGood (good x.cluster.work)
  pub network : IsNetwork (plan x.cluster.work)
  pub made : IsSetup (setup_of plan x.cluster)
  pub once : (sub : ℕ) → are_topics_once ((plan x.cluster.work).inputs sub) ≡ true
  pub ledger_is : IsLedger (setup_of plan x.cluster) x.cluster.journal x.ledger.items
  pub names : names_in x.tasks.items ≡ x.cluster.tasks
  pub ready : IsReady d (setup_of plan x.cluster) x.cluster.journal commit x.tasks.items
  pub commit_is : commit ≡ commit_at x.ledger.items entry.request
  pub meets : Meets (setup_of plan x.cluster) (state_of plan x.cluster) entry.request

-- the reply is that of the step, and the entry was made; or it isn't
pub record MakesEntry {W : Type 0} (plan : W → TaskPlan) (good : W → PlacementTest) (rules : Rules) (d : DraftView) (told : Bool) (old new : Played W) (entry : Entry) : Type 0 where
  pub step : told ≡ true → IsStep (setup_of plan old.cluster) (state_of plan old.cluster) entry
  pub journal : told ≡ true → new.cluster.journal ≡ old.cluster.journal ++ entry ∷ []
  pub kept : told ≡ true → IsPlayedBy plan good rules d new
  pub no : told ≡ false → IsStep (setup_of plan old.cluster) (state_of plan old.cluster) entry → ⊥

-- the entry is one of a legal and faithful journal, if its conditions hold; it was played
pub record GoesOn {W : Type 0} (plan : W → TaskPlan) (good : W → PlacementTest) (rules : Rules) (d : DraftView) (old new : Played W) (entry : Entry) : Type 0 where
  pub step : IsStep (setup_of plan old.cluster) (state_of plan old.cluster) entry
  pub faithful : IsFaithfulEntry (setup_of plan old.cluster) (state_of plan old.cluster) entry
  pub journal : new.cluster.journal ≡ old.cluster.journal ++ entry ∷ []
  pub kept : IsPlayedBy plan good rules d new

-- it isn't: its reply is another, or it is a commit that isn't faithful
abbrev pub IsHeldUp : Setup → State → Entry → LineStop → Type 0
IsHeldUp setup s entry Memory = ⊤
IsHeldUp setup s entry (Fault NotJournal) = ⊥
IsHeldUp setup s entry (Fault NotLegal) = IsStep setup s entry → ⊥
IsHeldUp setup s entry (Fault (NotFaithful t)) = IsStep setup s entry × IsFirstUnfaithful setup s entry.request t

-- the entry is one of a legal and faithful journal, and an input record at its place if it is produced; it was played
pub record PlaysEntry {W : Type 0} (plan : W → TaskPlan) (good : W → PlacementTest) (rules : Rules) (d : DraftView) (old new : Played W) (entry : Entry) : Type 0 where
  pub at_place : IsPlaced rules (plan_of d) entry.request
  pub step : IsStep (setup_of plan old.cluster) (state_of plan old.cluster) entry
  pub faithful : IsFaithfulEntry (setup_of plan old.cluster) (state_of plan old.cluster) entry
  pub journal : new.cluster.journal ≡ old.cluster.journal ++ entry ∷ []
  pub kept : IsPlayedBy plan good rules d new

-- it isn't, for this reason
abbrev pub IsWrong : Rules → Plan → Setup → State → Entry → AuditFault → Type 0
IsWrong rules p setup s entry NotJournal = ⊥
IsWrong rules p setup s entry NotLegal = IsPlaced rules p entry.request → IsStep setup s entry → ⊥
IsWrong rules p setup s entry (NotFaithful t) = IsPlaced rules p entry.request × IsStep setup s entry × IsFirstUnfaithful setup s entry.request t

abbrev pub IsStopped : Rules → Plan → Setup → State → Entry → LineStop → Type 0
IsStopped rules p setup s entry Memory = ⊤
IsStopped rules p setup s entry (Fault fault) = IsWrong rules p setup s entry fault
