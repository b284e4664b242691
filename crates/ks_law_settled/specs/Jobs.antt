-- A job with its rules, and the journals that have done it.
use Rattle.std.specs.Prelude.{◌≡◌, ℕ, ◌<◌, ◌≤◌, ◌^◌, true, length, List, [], ◌∷◌, map}
use Rattle.std.specs.List.{AllByRecursion}
use Rattle.ks_record.specs.Texts.{IsKey}
use Rattle.ks_row.specs.Spelling.{FitsRow}
use Rattle.ks_record.specs.Records.{Record as Rec}
use Rattle.ks_record.specs.declared.record.PartId.{PartId}
use Rattle.ks_plan.specs.Drafts.{DraftView}
use Rattle.ks_plan.specs.Plan.{Plan, plan_of}
use Rattle.ks_plan.specs.declared.node.Spread.{Spread}
use Rattle.ks_plan.specs.Layout.{parts_of}
use Rattle.ks_plan.specs.declared.node.Topic.TheVariants.{Input as InputTopic}
use Rattle.ks_query.specs.Streams.{Key, Input}
use Rattle.ks_def_tasks.specs.Messages.{Rules}
use Rattle.ks_def_tasks.specs.Tasks.{part_of_key, item_of_input}
use Rattle.ks_def_tasks.specs.Bytes.{rec_of}
use Rattle.ks_history.specs.declared.journal.Request.{Request}
use Rattle.ks_history.specs.declared.journal.Request.TheVariants.{Produce}
use Rattle.ks_history.specs.declared.journal.Entry.{Entry}
use Rattle.ks_history.specs.History.{at, IsHistory}
use Rattle.ks_history.specs.Settled.{IsSettled}
use Rattle.ks_history.specs.Count.{records_in}
use Rattle.ks_law_topology.specs.WellFormed.{IsWellFormed}
use Rattle.ks_law_topology.specs.Spelled.{IfThere}
use Rattle.ks_law_topology.specs.Work.{setup_of}
use Rattle.ks_law_kinds.specs.OfKind.{is_in_range}
use Rattle.ks_law_topology.specs.Work.{FitsRules}
use Rattle.ks_law_kinds.specs.Fitting.{FitsPlan}

-- ---- the job's records, as they are produced
-- in the partition of its key, without a key in partition 0
abbrev pub produced_part : Rules → Plan → Input → PartId
produced_part rules p r = record { topic = r.topic; part = part_of_key rules p (InputTopic r.topic) r.key }

abbrev pub produced_rec : Input → Rec
produced_rec r = rec_of (item_of_input r)

abbrev pub produced_of : Rules → Plan → Input → PartId × Rec
produced_of rules p r = (produced_part rules p r, produced_rec r)

abbrev pub produces_by : Request → List (PartId × Rec) → List (PartId × Rec)
produces_by (Produce p rec) more = (p, rec) ∷ more
produces_by request more = more

-- what a journal's entries produce, in their order
abbrev pub produces : List Entry → List (PartId × Rec)
produces [] = []
produces (entry ∷ entries) = produces_by entry.request (produces entries)

-- ---- records that have a spelling
pub record FitsInput (p : Plan) (r : Input) : Type 0 where
  pub topic : r.topic < length p.counts
  pub key : IfThere IsKey r.key
  pub value : IfThere FitsRow r.value
  pub time : r.time < 2 ^ 64

abbrev pub FitInputs : Plan → List Input → Type 0
FitInputs p records = AllByRecursion (FitsInput p) records

-- each key has one of the partitions, where there is one
abbrev pub HasParts : Rules → Type 0
HasParts rules = (k : Key) (s : Spread) → 1 ≤ s.parts → rules.part k s < s.parts

-- each node has a partition
abbrev pub NodesHaveParts : Plan → Type 0
NodesHaveParts p = (n : ℕ) → n < length p.kinds → 1 ≤ parts_of p n

-- times of a job's range
abbrev pub InRange : List Input → Type 0
InRange records = AllByRecursion (λ (r : Input). is_in_range r.time ≡ true) records

-- ---- a job with its rules: keys and rows have a spelling, hashes have 128 bits, and each key has a partition
pub record IsJob (rules : Rules) (d : DraftView) (records : List Input) : Type 0 where
  pub parts : HasParts rules
  pub hashes : FitsRules rules
  pub well : IsWellFormed d
  pub have : NodesHaveParts (plan_of d)
  pub spelled : FitsPlan (plan_of d)
  pub inputs : FitInputs (plan_of d) records
  pub range : InRange records

-- a journal over a well-formed topology that is legal and faithful, has produced exactly these records, and is settled
pub record IsDone (rules : Rules) (d : DraftView) (records : List Input) (journal : List Entry) : Type 0 where
  pub history : IsHistory (setup_of rules (plan_of d)) journal
  pub produced : produces journal ≡ map (produced_of rules (plan_of d)) records
  pub settled : IsSettled (setup_of rules (plan_of d)) (at (setup_of rules (plan_of d)) journal)
  pub few : records_in (setup_of rules (plan_of d)) journal < 2 ^ 48
