-- A run's tables and its journal, by the job.
use Rattle.std.specs.Prelude.{◌≡◌, ◌<◌, ◌^◌, ℕ, Bool, true, List, [], ◌∷◌, ◌++◌, filter, map, Option, Some, None, IfSome}
use Rattle.ks_plan.specs.Drafts.{DraftView}
use Rattle.ks_plan.specs.Plan.{plan_of}
use Rattle.ks_plan.specs.Faults.{fault_of}
use Rattle.ks_plan.specs.Layout.{tasks}
use Rattle.ks_plan.specs.Infos.{changelog_numbers}
use Rattle.ks_query.specs.Streams.{Input}
use Rattle.ks_query.specs.Grace.{IsWithinGrace}
use Rattle.ks_def_tasks.specs.Messages.{Rules}
use Rattle.ks_history.specs.declared.journal.Entry.{Entry}
use Rattle.ks_history.specs.History.{IsHistory}
use Rattle.ks_history.specs.Count.{records_in}
use Rattle.ks_history.specs.Settled.{IsSettled as IsAtRest}
use Rattle.ks_record.specs.Records.{Record as Rec}
use Rattle.ks_record.specs.declared.record.PartId.{PartId}
use Rattle.ks_assign.specs.declared.clients.Placing.{Placing}
use Rattle.ks_assign_group.specs.Groups.{good_by}
use Rattle.ks_cluster.specs.Placed.{ArePlaced}
use Rattle.ks_run_feed.specs.Producing.{begins_drain}
use Rattle.ks_law_exactly_once.specs.Law.{IsRun}
use Rattle.ks_law_topology.specs.Work.{setup_of}
use Rattle.ks_job.specs.Items.{ItemView, TopologyAt, RecordTo}
use Rattle.ks_job.specs.Reader.{so_far, whole}
use Rattle.ks_law_inputs.specs.Records.{records_of}
use Rattle.ks_law_settled.specs.Collision.{first_pair}
use Rattle.ks_law_settled.specs.Jobs.{IsJob, produced_of, produces}
use Rattle.ks_law_settled.specs.Settled.{end_of}
use Rattle.ks_job_source.specs.Stops.{stop_of}
use Rattle.ks_job_source.specs.Reading.{TookNoFault}
use Rattle.ks_iq.specs.declared.ask.Ask.{Ask}
use Rattle.ks_iq.specs.declared.fault.IqFault.{IqFault}
use Rattle.ks_iq.specs.Asks.{ask_fault}
use Rattle.ks_run_verdict.specs.Told.{Wanted, TellsQuery, TellsLate, TellsCollision}

-- the topology is the first item
abbrev pub draft_in : List ItemView → Option DraftView
draft_in [] = None
draft_in (TopologyAt line d ∷ is) = Some d
draft_in (RecordTo t r ∷ is) = None

-- a job's records in their order, each in the partition of its key, or without a key in partition 0
abbrev pub placed_records : Rules → DraftView → List Input → List (PartId × Rec)
placed_records rules d records = map (produced_of rules (plan_of d)) records

-- what a settled run of a job leaves
pub record IsJournal (rules : Rules) (d : DraftView) (records : List Input) (journal : List Entry) : Type 0 where
  -- the topology is well formed, each of its nodes has a partition, and its records' keys and rows have a spelling
  pub job : IsJob rules d records
  -- legal and faithful
  pub history : IsHistory (setup_of rules (plan_of d)) journal
  -- it has produced the job's records and no other
  pub produced : produces journal ≡ placed_records rules d records
  -- nothing of them is left to take, and each commit is complete
  pub settled : IsAtRest (setup_of rules (plan_of d)) (end_of rules d journal)
  -- what its commits took is one uncrashed run
  pub run : IsRun (setup_of rules (plan_of d)) journal
  pub few : records_in (setup_of rules (plan_of d)) journal < 2 ^ 48

-- each assignment that was taken is good for the members of its generation, and for what was held and the ends at some moment of that
-- generation, by the tasks and the changelogs of the topology
abbrev pub IsPlaced : Rules → Placing → DraftView → List Entry → Type 0
IsPlaced rules placing d journal =
    ArePlaced (good_by (changelog_numbers (plan_of d)) (tasks (plan_of d)) placing) (setup_of rules (plan_of d)) journal

-- some bytes, which are those that the source has left where it tells them, are a job, and the journal settles it, with good assignments alone
pub record SettlesBytes (rules : Rules) (placing : Placing) (left : Option (List ℕ)) (d : DraftView) (records : List Input) (journal : List Entry) : Type 0 where
  pub bytes : List ℕ
  pub known : IfSome left (λ b. b ≡ bytes)
  pub unstopped : stop_of (whole bytes) ≡ None
  pub topology : draft_in (whole bytes).items ≡ Some d
  pub inputs : records ≡ records_of (whole bytes).items
  pub kept : IsJournal rules d records journal
  pub placed : IsPlaced rules placing d journal

-- ---- status 0: the source held a job, and the text has its tables by its query
pub record IsSettledRun (rules : Rules) (placing : Placing) (wanted : Wanted) (left : Option (List ℕ)) (text : List ℕ) (journal : List Entry) : Type 0 where
  pub draft : DraftView
  pub records : List Input
  pub settles : SettlesBytes rules placing left draft records journal
  pub query : TellsQuery rules wanted draft records text journal

-- ---- status 3: the source held a job some of whose records are not within grace, and the text has its tables without the late ones
pub record IsLateRun (rules : Rules) (placing : Placing) (wanted : Wanted) (left : Option (List ℕ)) (text : List ℕ) (journal : List Entry) : Type 0 where
  pub draft : DraftView
  pub records : List Input
  pub settles : SettlesBytes rules placing left draft records journal
  pub late : TellsLate rules wanted draft records text journal

-- ---- status 5: the source held a job in whose journal two rows of a key have one hash, and the text names them
pub record IsCollidedRun (rules : Rules) (placing : Placing) (wanted : Wanted) (left : Option (List ℕ)) (text : List ℕ) (journal : List Entry) : Type 0 where
  pub draft : DraftView
  pub records : List Input
  pub settles : SettlesBytes rules placing left draft records journal
  pub collision : TellsCollision rules wanted draft text journal

-- ---- jobs that are always answered by their query
-- the bytes that the source has left are a valid job, whose records are within grace
pub record IsInTime (left : Option (List ℕ)) : Type 0 where
  pub bytes : List ℕ
  pub known : left ≡ Some bytes
  pub unstopped : stop_of (whole bytes) ≡ None
  pub in_time : (d : DraftView) → draft_in (whole bytes).items ≡ Some d → IsWithinGrace (plan_of d) (records_of (whole bytes).items)

-- the job of the bytes that the source has left has the store that is asked for, and a start is given exactly where that is a windowed count
abbrev pub IsGoodAsk : Option (List ℕ) → Ask → Type 0
IsGoodAsk left ask = (bytes : List ℕ) → left ≡ Some bytes → (d : DraftView) → draft_in (whole bytes).items ≡ Some d → ask_fault d ask ≡ None

-- the bytes that the source has left are a valid job without the store that is asked for, or a start is given for a node that isn't a windowed
-- count, or none for one
pub record IsRefusing (left : Option (List ℕ)) (ask : Ask) : Type 0 where
  pub bytes : List ℕ
  pub known : left ≡ Some bytes
  pub unstopped : stop_of (whole bytes) ≡ None
  pub draft : DraftView
  pub topology : draft_in (whole bytes).items ≡ Some draft
  pub fault : IqFault
  pub bad : ask_fault draft ask ≡ Some fault

-- no two rows of a left key collide in the changelogs that a journal of their job leaves
abbrev pub IsWithoutCollision : Rules → Option (List ℕ) → List Entry → Type 0
IsWithoutCollision rules left journal = (bytes : List ℕ) → left ≡ Some bytes → (d : DraftView) → draft_in (whole bytes).items ≡ Some d →
    first_pair rules.hash (plan_of d) (end_of rules d journal) ≡ None

-- these items have no topology that is well formed
abbrev pub HasNoTopology : List ItemView → Type 0
HasNoTopology items = (d : DraftView) → draft_in items ≡ Some d → fault_of d ≡ None → ⊥

-- a journal that is legal and faithful, has good assignments alone, and has produced a front of the records that some bytes have before their
-- first faulty line; it is empty where these have no topology that is well formed. The bytes are those that the source has left where it tells them
pub record HasJournal (rules : Rules) (placing : Placing) (left : Option (List ℕ)) (journal : List Entry) : Type 0 where
  pub bytes : List ℕ
  pub known : IfSome left (λ b. b ≡ bytes)
  pub draft : DraftView
  pub topology : IfSome (draft_in (whole bytes).items) (λ d. d ≡ draft)
  pub records : List Input
  pub inputs : records ≡ records_of (whole bytes).items
  pub history : IsHistory (setup_of rules (plan_of draft)) journal
  pub placed : IsPlaced rules placing draft journal
  pub front : (rest : List (PartId × Rec)) × (placed_records rules draft records ≡ produces journal ++ rest)
  pub unopened : HasNoTopology (whole bytes).items → journal ≡ []

-- the source lost some bytes that had nothing to stop at; where they have no topology yet the journal is empty
pub record TookFront (old new : Option (List ℕ)) (journal : List Entry) : Type 0 where
  pub front : TookNoFault old new
  pub unopened : draft_in (so_far front.taken).items ≡ None → journal ≡ []

-- the drain was left out: no `init` and no `join` of the caller's own number, with which it begins
abbrev pub IsUndrained : List Entry → Type 0
IsUndrained journal = filter begins_drain journal ≡ []

-- it is empty, under this condition
abbrev pub IsEmptyIf : Bool → List Entry → Type 0
IsEmptyIf condition journal = condition ≡ true → journal ≡ []
