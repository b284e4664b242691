-- A job that is run while it is read, and what its run answers.
use Rattle.std.specs.Prelude.{◌≡◌, ℕ, List, ◌++◌, Option, Some, None}
use Rattle.ks_plan.specs.Drafts.{DraftView}
use Rattle.ks_query.specs.Streams.{Input}
use Rattle.ks_def_tasks.specs.Messages.{Rules}
use Rattle.ks_history.specs.declared.journal.Entry.{Entry}
use Rattle.ks_plan.specs.Plan.{plan_of}
use Rattle.ks_assign.specs.declared.clients.Placing.{Placing}
use Rattle.ks_history.specs.Machine.{TaskPlan}
use Rattle.ks_history.specs.History.{IsHistory}
use Rattle.ks_cluster.specs.Placed.{PlacementTest}
use Rattle.ks_cluster.specs.View.{ClusterView}
use Rattle.ks_law_topology.specs.Work.{setup_of}
use Rattle.ks_law_settled.specs.Jobs.{produces}
use Rattle.ks_job.specs.Items.{ItemView}
use Rattle.ks_law_inputs.specs.Records.{records_of}
use Rattle.ks_job_source.specs.declared.rest.Standing.{Standing}
use Rattle.ks_job_source.specs.declared.rest.JobEnd.{JobEnd}
use Rattle.ks_job_source.specs.declared.rest.JobEnd.TheVariants.{Whole, Stopped, Failed}
use Rattle.ks_job_source.specs.Opening.{EndsFrom}
use Rattle.ks_job_source.specs.Texts.{bad_job_text}
use Rattle.ks_run_output.specs.Texts.{read_fault_text}
use Rattle.ks_run_feed.specs.Feeding.{FaultsBy}
use Rattle.ks_law_settled.specs.Settled.{end_of}
use Rattle.ks_iq.specs.declared.fault.IqFault.{IqFault}
use Rattle.ks_run_ask.specs.Texts.{bad_ask_text}
use Rattle.ks_run_verdict.specs.Told.{Wanted, told, refusal_of, wanted_at, IsText}
use Rattle.ks_run_verdict.specs.Journals.{IsJournal, IsPlaced, IsUndrained, placed_records}
use Rattle.ks_run_end.specs.Ends.{IsLeft, EndsWhole}

-- the journal settles the job, and the status and the text are those of the cluster that it leaves, with what is wanted behind it
pub record SettlesJob (rules : Rules) (wanted : Wanted) (d : DraftView) (records : List Input) (status : ℕ) (text : List ℕ) (journal : List Entry) : Type 0 where
  pub kept : IsJournal rules d records journal
  pub status_is : status ≡ (told rules d (end_of rules d journal)).0
  pub told : IsText rules d (wanted_at status wanted) journal (told rules d (end_of rules d journal)).1 text

-- what is told of a cluster by how reading its job ended: where it was read whole the cluster was drained, and else it was left
abbrev pub EndsBy : {W : Type 0} → (W → TaskPlan) → (W → PlacementTest) → Rules → Wanted → DraftView → ClusterView W → Option IqFault → JobEnd → ℕ → List ℕ → List Entry → Type 0
EndsBy plan good rules wanted d cluster refusal Whole status text journal = EndsWhole plan good rules wanted d cluster refusal status text journal
EndsBy plan good rules wanted d cluster refusal (Stopped stop) status text journal = (status ≡ 2) × (text ≡ bad_job_text stop) × IsLeft plan good cluster journal
EndsBy plan good rules wanted d cluster refusal Failed status text journal = (status ≡ 6) × (text ≡ read_fault_text) × IsLeft plan good cluster journal

-- the journal is legal and faithful, has good assignments alone, and has produced these records
pub record KeepsJob (rules : Rules) (placing : Placing) (d : DraftView) (records : List Input) (journal : List Entry) : Type 0 where
  pub history : IsHistory (setup_of rules (plan_of d)) journal
  pub placed : IsPlaced rules placing d journal
  pub produced : produces journal ≡ placed_records rules d records

-- what is told of a job that was read whole: it is settled, unless the question can't be asked
abbrev pub TellsWhole : Option IqFault → Rules → Wanted → DraftView → List Input → ℕ → List ℕ → List Entry → Type 0
TellsWhole None rules wanted d records status text journal = SettlesJob rules wanted d records status text journal
TellsWhole (Some fault) rules wanted d records status text journal = (status ≡ 9) × (text ≡ bad_ask_text fault) × IsUndrained journal

-- what is told of a job that was read to this end: where it was read whole it is settled, and else nothing was drained
abbrev pub TellsEnd : JobEnd → Rules → Wanted → DraftView → List Input → ℕ → List ℕ → List Entry → Type 0
TellsEnd Whole rules wanted d records status text journal = TellsWhole (refusal_of d wanted) rules wanted d records status text journal
TellsEnd (Stopped stop) rules wanted d records status text journal = (status ≡ 2) × (text ≡ bad_job_text stop) × IsUndrained journal
TellsEnd Failed rules wanted d records status text journal = (status ≡ 6) × (text ≡ read_fault_text) × IsUndrained journal

-- a job was read on from there, with the records that had come with its topology, and its run tells so of it
pub record RunsJob (rules : Rules) (placing : Placing) (wanted : Wanted) (d : DraftView) (records : List ItemView) (standing : Standing) (left now : Option (List ℕ)) (before after : ℕ) (status : ℕ) (text : List ℕ) (journal : List Entry) : Type 0 where
  pub end : JobEnd
  pub items : List ItemView
  pub reads : EndsFrom standing left now end items
  pub faults : FaultsBy end before after
  pub kept : KeepsJob rules placing d (records_of (records ++ items)) journal
  pub told : TellsEnd end rules wanted d (records_of (records ++ items)) status text journal
