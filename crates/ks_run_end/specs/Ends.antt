-- What becomes of a run's cluster, and what is answered.
use Rattle.std.specs.Prelude.{◌≡◌, ◌<◌, ◌≤◌, ◌^◌, ℕ, List, Option, Some, None}
use Rattle.ks_plan.specs.Drafts.{DraftView}
use Rattle.ks_plan.specs.Plan.{plan_of}
use Rattle.ks_plan.specs.Layout.{tasks}
use Rattle.ks_plan.specs.Infos.{changelog_numbers}
use Rattle.ks_def_tasks.specs.Messages.{Rules}
use Rattle.ks_assign.specs.declared.clients.Placing.{Placing}
use Rattle.ks_assign_group.specs.Groups.{good_by}
use Rattle.ks_history.specs.declared.journal.Entry.{Entry}
use Rattle.ks_history.specs.Machine.{TaskPlan}
use Rattle.ks_history.specs.State.{Setup}
use Rattle.ks_history.specs.History.{at, IsHistory}
use Rattle.ks_history.specs.Count.{records_in}
use Rattle.ks_history.specs.Settled.{IsSettled}
use Rattle.ks_cluster.specs.Placed.{PlacementTest, ArePlaced}
use Rattle.ks_cluster.specs.View.{ClusterView, setup_of, state_of}
use Rattle.ks_settle.specs.Drained.{Extends}
use Rattle.ks_iq.specs.declared.fault.IqFault.{IqFault}
use Rattle.ks_run_ask.specs.Texts.{bad_ask_text}
use Rattle.ks_run_verdict.specs.Told.{Wanted, told, wanted_at, IsText}

-- a work's assignments are good by the tasks and the changelogs of this topology, and this placing
abbrev pub IsWantedBy : {W : Type 0} → (W → PlacementTest) → W → DraftView → Placing → Type 0
IsWantedBy good work d placing = good work ≡ good_by (changelog_numbers (plan_of d)) (tasks (plan_of d)) placing

-- some placing
abbrev pub AreWanted : {W : Type 0} → (W → PlacementTest) → W → DraftView → Type 0
AreWanted good work d = (placing : Placing) × (1 ≤ placing.threads) × IsWantedBy good work d placing

-- what a drained cluster has come to
pub record IsDrained (setup : Setup) (journal : List Entry) : Type 0 where
  pub history : IsHistory setup journal
  pub few : records_in setup journal < 2 ^ 48
  pub settled : IsSettled setup (at setup journal)

-- the cluster was drained, its journal is handed on, and what is told is what it then has come to
pub record IsEnded {W : Type 0} (plan : W → TaskPlan) (good : W → PlacementTest) (rules : Rules) (wanted : Wanted) (d : DraftView) (cluster : ClusterView W) (status : ℕ) (text : List ℕ) (journal : List Entry) : Type 0 where
  pub drained : ClusterView W
  pub more : Extends cluster drained
  pub done : IsDrained (setup_of plan drained) drained.journal
  pub placed : ArePlaced (good drained.work) (setup_of plan drained) drained.journal
  pub status_is : status ≡ (told rules d (state_of plan drained)).0
  pub told : IsText rules d (wanted_at status wanted) drained.journal (told rules d (state_of plan drained)).1 text
  pub handed : journal ≡ drained.journal

-- the cluster was left as it was, and its journal is handed on
pub record IsLeft {W : Type 0} (plan : W → TaskPlan) (good : W → PlacementTest) (cluster : ClusterView W) (journal : List Entry) : Type 0 where
  pub history : IsHistory (setup_of plan cluster) cluster.journal
  pub placed : ArePlaced (good cluster.work) (setup_of plan cluster) cluster.journal
  pub handed : journal ≡ cluster.journal

-- the topology has no such store as is asked for: the cluster was left, and the text says so
abbrev pub IsRefusedAsk : {W : Type 0} → (W → TaskPlan) → (W → PlacementTest) → ClusterView W → IqFault → ℕ → List ℕ → List Entry → Type 0
IsRefusedAsk plan good cluster fault status text journal = (status ≡ 9) × (text ≡ bad_ask_text fault) × IsLeft plan good cluster journal

-- what is told of a cluster whose job was read whole, by what a topology has against the question
abbrev pub EndsWhole : {W : Type 0} → (W → TaskPlan) → (W → PlacementTest) → Rules → Wanted → DraftView → ClusterView W → Option IqFault → ℕ → List ℕ → List Entry → Type 0
EndsWhole plan good rules wanted d cluster None status text journal = IsEnded plan good rules wanted d cluster status text journal
EndsWhole plan good rules wanted d cluster (Some fault) status text journal = IsRefusedAsk plan good cluster fault status text journal
