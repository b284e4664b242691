-- What is told of a settled cluster: the query's tables, the tables without late records, or that rows of a key have one hash.
-- Kafka Streams developer guide, "Windowing", on late records; KIP-213 on the hashes of a join on a foreign key.
use Rattle.std.specs.Prelude.{◌≡◌, ℕ, ◌==◌, Bool, List, [], ◌++◌, cond, Option, Some, None, option_and_then}
use Rattle.ks_plan.specs.Drafts.{DraftView, Name}
use Rattle.ks_plan.specs.Plan.{plan_of}
use Rattle.ks_query.specs.Streams.{Input}
use Rattle.ks_query.specs.Grace.{IsWithinGrace}
use Rattle.ks_query.specs.Printed.{job_tables}
use Rattle.ks_def_tasks.specs.Messages.{Rules}
use Rattle.ks_history.specs.declared.journal.Entry.{Entry}
use Rattle.ks_history.specs.State.{State}
use Rattle.ks_law_settled.specs.Collision.{OffsetPair, NodePair, first_pair}
use Rattle.ks_law_settled.specs.Folded.{folded_tables}
use Rattle.ks_law_settled.specs.Settled.{end_of, OthersAre, CountsLack}
use Rattle.ks_settle_report.specs.Joins.{named}
use Rattle.ks_journal.specs.Lines.{journal_text}
use Rattle.ks_iq.specs.declared.ask.Ask.{Ask}
use Rattle.ks_iq.specs.declared.fault.IqFault.{IqFault}
use Rattle.ks_iq.specs.Asks.{ask_fault}
use Rattle.ks_run_ask.specs.Answered.{AreAnswerLines}
use Rattle.ks_run_output.specs.Texts.{settled_text, late_text, collision_text}

-- ---- the text of a collision, of the join by its name
abbrev pub key_bytes : Option (List ℕ) → List ℕ
key_bytes None = []
key_bytes (Some key) = key

abbrev pub pair_text : Name × OffsetPair → List ℕ
pair_text c = collision_text c.0 (key_bytes c.1.key) c.1.first c.1.second

-- ---- the status of a state, and the text that goes with it
-- with the first two rows of a key that have one hash, where there are such
abbrev pub told_by : DraftView → State → Option NodePair → ℕ × List ℕ
told_by d s (Some c) = (5, pair_text (named d c))
told_by d s None = cond (s.late == 0) (0, settled_text (folded_tables d s)) (3, late_text s.late (folded_tables d s))

abbrev pub told : Rules → DraftView → State → ℕ × List ℕ
told rules d s = told_by d s (first_pair rules.hash (plan_of d) s)

-- ---- what stands behind the tables, where it is asked for: the lines of the journal, or those of a question's answers
pub data Wanted : Type 0 where
  nothing : Wanted
  lines : Wanted
  answers : Ask → Wanted

abbrev pub lines_if : Bool → Wanted
lines_if shown = cond shown lines nothing

-- a question stands in the journal's place
abbrev pub wanted_in : Bool → Option Ask → Wanted
wanted_in shown None = lines_if shown
wanted_in shown (Some ask) = answers ask

-- the question, where there is one
abbrev pub asked_in : Wanted → Option Ask
asked_in (answers ask) = Some ask
asked_in _ = None

-- what a topology has against it
abbrev pub refusal_of : DraftView → Wanted → Option IqFault
refusal_of d wanted = option_and_then (ask_fault d) (asked_in wanted)

abbrev pub IsTail : Rules → DraftView → Wanted → List Entry → List ℕ → Type 0
IsTail rules d nothing journal tail = tail ≡ []
IsTail rules d lines journal tail = tail ≡ journal_text journal
IsTail rules d (answers ask) journal tail = AreAnswerLines rules d ask journal tail

-- behind rows that collide no table stands, and so no answer
abbrev pub without_answers : Wanted → Wanted
without_answers (answers ask) = nothing
without_answers wanted = wanted

abbrev pub wanted_at : ℕ → Wanted → Wanted
wanted_at status wanted = cond (status == 5) (without_answers wanted) wanted

-- a text, and then what is wanted
pub record IsText (rules : Rules) (d : DraftView) (wanted : Wanted) (journal : List Entry) (front text : List ℕ) : Type 0 where
  pub tail : List ℕ
  pub is_tail : IsTail rules d wanted journal tail
  pub printed : text ≡ front ++ tail

-- ---- what each text tells of a job that its journal settles, and what is wanted behind it
-- no two rows of a key collide and nothing was late; the text has the query's tables, which are those that the changelogs keep
pub record TellsQuery (rules : Rules) (wanted : Wanted) (d : DraftView) (records : List Input) (text : List ℕ) (journal : List Entry) : Type 0 where
  pub alone : first_pair rules.hash (plan_of d) (end_of rules d journal) ≡ None
  pub in_time : (end_of rules d journal).late ≡ 0
  pub folds : folded_tables d (end_of rules d journal) ≡ job_tables d records
  pub printed : IsText rules d wanted journal (settled_text (job_tables d records)) text

-- no two rows of a key collide, and something was late, which comes only where the records are not within grace; the text has how much, and
-- the tables that the changelogs keep: those of windowed counts lack exactly so much, and the others are the query's
pub record TellsLate (rules : Rules) (wanted : Wanted) (d : DraftView) (records : List Input) (text : List ℕ) (journal : List Entry) : Type 0 where
  pub alone : first_pair rules.hash (plan_of d) (end_of rules d journal) ≡ None
  pub some : (end_of rules d journal).late ≡ 0 → ⊥
  pub over : IsWithinGrace (plan_of d) records → ⊥
  pub others : OthersAre d records (end_of rules d journal)
  pub counts : CountsLack (plan_of d) records (end_of rules d journal)
  pub printed : IsText rules d wanted journal (late_text (end_of rules d journal).late (folded_tables d (end_of rules d journal))) text

-- the text has the first two rows of a key that collide: by node, partition, greater and lesser offset; a question can be asked
pub record TellsCollision (rules : Rules) (wanted : Wanted) (d : DraftView) (text : List ℕ) (journal : List Entry) : Type 0 where
  pub pair : NodePair
  pub first : first_pair rules.hash (plan_of d) (end_of rules d journal) ≡ Some pair
  pub good_ask : refusal_of d wanted ≡ None
  pub printed : IsText rules d (without_answers wanted) journal (pair_text (named d pair)) text
