-- What an audit's yes says: behind the topology line stands what a settled run of it prints with its journal.
-- Kafka Streams developer guide, "KTable": a table is what its changelog says; KIP-98 on what is committed.
use Rattle.std.specs.Prelude.{◌≡◌, ℕ, List, [], ◌∷◌, ◌++◌, length, Option, None, IfSome}
use Rattle.ks_plan.specs.Drafts.{DraftView}
use Rattle.ks_plan.specs.Plan.{plan_of}
use Rattle.ks_query.specs.Streams.{Input}
use Rattle.ks_query.specs.Printed.{job_tables}
use Rattle.ks_def_tasks.specs.Messages.{Rules}
use Rattle.ks_history.specs.declared.journal.Entry.{Entry}
use Rattle.ks_law_settled.specs.Collision.{first_pair}
use Rattle.ks_law_settled.specs.Folded.{folded_tables}
use Rattle.ks_law_settled.specs.Settled.{IsRunOf, end_of}
use Rattle.ks_journal.specs.Lines.{journal_text}
use Rattle.ks_journal.specs.Fits.{FitsJournal}
use Rattle.ks_run_output.specs.Texts.{settled_text}
use Rattle.ks_job_source.specs.TopologyLines.{EndsTopology}
use Rattle.ks_audit_verdict.specs.Lines.{IsWithinMost}

-- a journal that settles a job whose records it has produced, and no other; the text has its tables, which are the query's, and its lines
pub record IsAudited (rules : Rules) (d : DraftView) (text : List ℕ) : Type 0 where
  pub records : List Input
  pub journal : List Entry
  -- it is legal, faithful and settled, and each record stands at its place
  pub run : IsRunOf rules d records journal
  -- each of its entries has a line
  pub fits : FitsJournal journal
  -- no two rows of a key have one hash, and nothing was late
  pub alone : first_pair rules.hash (plan_of d) (end_of rules d journal) ≡ None
  pub in_time : (end_of rules d journal).late ≡ 0
  pub folds : folded_tables d (end_of rules d journal) ≡ job_tables d records
  pub printed : text ≡ settled_text (job_tables d records) ++ journal_text journal

-- these bytes are a topology's line, and then what a settled run of it prints with its journal; no length is passed
pub record IsAuditedInput (rules : Rules) (bytes : List ℕ) : Type 0 where
  pub head : List ℕ
  pub text : List ℕ
  pub cut : bytes ≡ head ++ text
  pub line : ℕ
  pub draft : DraftView
  pub topology : EndsTopology head line draft
  pub within : IsWithinMost (length head) text
  pub audited : IsAudited rules draft text

-- some bytes, which are those that the source has left where it tells them, are such
pub record HoldsAudited (rules : Rules) (left : Option (List ℕ)) : Type 0 where
  pub bytes : List ℕ
  pub known : IfSome left (λ b. b ≡ bytes)
  pub input : IsAuditedInput rules bytes
