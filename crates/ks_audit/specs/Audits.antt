-- An audit, between two lines.
use Rattle.std.specs.Prelude.{◌≡◌, ◌⊎◌, ℕ, List, [], ◌∷◌, ◌++◌, Option, Some, None, ⊤}
use Rattle.ks_plan.specs.Drafts.{DraftView}
use Rattle.ks_plan.specs.Plan.{Plan, plan_of}
use Rattle.ks_topo.specs.Topologies.{draft_of, plan_in}
use Rattle.ks_def_tasks.specs.Messages.{Rules}
use Rattle.ks_def_tasks.specs.Rules.{rules_of}
use Rattle.ks_history.specs.declared.journal.Entry.{Entry}
use Rattle.ks_history.specs.Machine.{TaskPlan}
use Rattle.ks_history.specs.State.{State, Setup}
use Rattle.ks_history.specs.History.{at, IsStep}
use Rattle.ks_law_topology.specs.Work.{work_of, setup_of as topology_setup}
use Rattle.ks_cluster.specs.Placed.{PlacementTest}
use Rattle.ks_cluster.specs.View.{setup_of, state_of}
use Rattle.ks_task.specs.Placing.{placed_by}
use Rattle.ks_task.specs.declared.work.TaskWork.{TaskWork}
use Rattle.ks_audit.specs.declared.fault.AuditFault.{AuditFault}
use Rattle.ks_audit.specs.declared.fault.AuditFault.TheVariants.{NotJournal, NotLegal, NotFaithful}
use Rattle.ks_audit.specs.declared.fault.LineStop.{LineStop}
use Rattle.ks_audit.specs.declared.fault.LineStop.TheVariants.{Fault, Memory}
use Rattle.ks_audit.specs.declared.replay.Played.{Played}
use Rattle.ks_audit.specs.declared.audit.Audit.{Audit}
use Rattle.ks_audit.specs.Audited.{IsLineOf, IsTaken, IsRefused}
use Rattle.ks_audit.specs.Entries.{IsPlayedBy, PlaysEntry}
use Rattle.ks_audit.specs.Inputs.{AreInputs}

-- ---- a line, beside any work
-- it is an entry's, which was played
pub record PlaysLine {W : Type 0} (plan : W → TaskPlan) (good : W → PlacementTest) (rules : Rules) (d : DraftView) (old new : Played W) (line : List ℕ) : Type 0 where
  pub entry : Entry
  pub taken : IsTaken rules (plan_of d) (at (topology_setup rules (plan_of d)) old.cluster.journal) line entry
  pub journal : new.cluster.journal ≡ old.cluster.journal ++ entry ∷ []
  pub kept : IsPlayedBy plan good rules d new

-- it is refused for this reason, or memory ran out
abbrev pub IsLineStop : Rules → Plan → State → List ℕ → LineStop → Type 0
IsLineStop rules p s line Memory = ⊤
IsLineStop rules p s line (Fault fault) = IsRefused rules p s line fault

-- ---- the audit of a topology
abbrev pub plan_by : {H : Type 0} → (List ℕ → ℕ) → TaskWork H → TaskPlan
plan_by hash w = work_of (rules_of hash) (plan_in w.topology.now)

abbrev pub good_by : {H : Type 0} → TaskWork H → PlacementTest
good_by w = placed_by (plan_in w.topology.now) w.placing

abbrev pub journal_of : {H : Type 0} → Audit H → List Entry
journal_of a = a.played.cluster.journal

-- what it keeps where it has no fault: what was played, of input records at their places
pub record IsAudit {H : Type 0} (hash : List ℕ → ℕ) (a : Audit H) : Type 0 where
  pub played_is : IsPlayedBy (plan_by hash) good_by (rules_of hash) (draft_of a.topology.now) a.played
  pub inputs : AreInputs (rules_of hash) (plan_in a.topology.now) (journal_of a)

-- the state that its lines leave
abbrev pub state_at : {H : Type 0} → (List ℕ → ℕ) → Audit H → State
state_at hash a = at (topology_setup (rules_of hash) (plan_in a.topology.now)) (journal_of a)

-- no line before was refused, this one is an entry of a legal and faithful journal, and the journal has it
pub record TakesLine {H : Type 0} (hash : List ℕ → ℕ) (old new : Audit H) (line : List ℕ) : Type 0 where
  pub clean : old.fault ≡ None
  pub entry : Entry
  pub taken : IsTaken (rules_of hash) (plan_in old.topology.now) (state_at hash old) line entry
  pub journal : journal_of new ≡ journal_of old ++ entry ∷ []
  pub fault : new.fault ≡ None
  pub topology : new.topology ≡ old.topology
  pub kept : IsAudit hash new

-- it isn't: the first fault there was, or the line's own
abbrev pub IsFaulty : {H : Type 0} → (List ℕ → ℕ) → Audit H → List ℕ → AuditFault → Type 0
IsFaulty hash old line fault =
    (old.fault ≡ Some fault) ⊎ ((old.fault ≡ None) × IsRefused (rules_of hash) (plan_in old.topology.now) (state_at hash old) line fault)
