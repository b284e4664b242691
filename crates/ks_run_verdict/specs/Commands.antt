-- What a run answers, by the words.
use Rattle.std.specs.Prelude.{◌≡◌, ◌⊎◌, ℕ, Bool, true, false, List, [], Option, Some, None, is_some}
use Rattle.ks_assign.specs.declared.clients.Placing.{Placing}
use Rattle.ks_run_feed.specs.Wanted.{placing_of}
use Rattle.ks_def_tasks.specs.Messages.{Rules}
use Rattle.ks_history.specs.declared.journal.Entry.{Entry}
use Rattle.ks_run_output.specs.Texts.{bad_words_text}
use Rattle.ks_words.specs.declared.command.Command.{Command}
use Rattle.ks_words.specs.declared.command.Command.TheVariants.{Run, Load, Ask, Audit}
use Rattle.ks_words.specs.Grammar.{usual}
use Rattle.ks_words.specs.Load.{load_text}
use Rattle.ks_edge.specs.Causes.{Rose}
use Rattle.ks_run_verdict.specs.Answers.{IsJudged}
use Rattle.ks_run_verdict.specs.Told.{Wanted, lines_if}
use Rattle.ks_run_verdict.specs.Told.Wanted.{nothing, answers}
use Rattle.ks_run_verdict.specs.Journals.{IsInTime, IsGoodAsk, IsRefusing}

abbrev pub IsRun : Option Command → Type 0
IsRun None = ⊥
IsRun (Some (Run settings)) = Unit {0}
IsRun (Some (Load orders settings)) = ⊥
IsRun (Some (Ask node key start settings)) = Unit {0}
IsRun (Some Audit) = ⊥

abbrev pub is_audit : Option Command → Bool
is_audit (Some Audit) = true
is_audit _ = false

-- one of the statuses of an audit
abbrev pub IsAuditStatus : ℕ → Type 0
IsAuditStatus s = (s ≡ 0) ⊎ (s ≡ 2) ⊎ (s ≡ 6) ⊎ (s ≡ 7) ⊎ (s ≡ 8) ⊎ (s ≡ 10)

-- one of a job's run, without a question and with one
abbrev pub IsRunStatus : ℕ → Type 0
IsRunStatus s = (s ≡ 0) ⊎ (s ≡ 2) ⊎ (s ≡ 3) ⊎ (s ≡ 5) ⊎ (s ≡ 6) ⊎ (s ≡ 7) ⊎ (s ≡ 8)

abbrev pub IsAskStatus : ℕ → Type 0
IsAskStatus s = (s ≡ 9) ⊎ IsRunStatus s

-- one of a command
abbrev pub IsStatusOf : Option Command → ℕ → Type 0
IsStatusOf None s = (s ≡ 1) ⊎ (s ≡ 7) ⊎ (s ≡ 8)
IsStatusOf (Some (Run settings)) s = IsRunStatus s
IsStatusOf (Some (Load orders settings)) s = IsRunStatus s
IsStatusOf (Some (Ask node key start settings)) s = IsAskStatus s
IsStatusOf (Some Audit) s = IsAuditStatus s

-- the bytes of the job, where they are known: those that the source has left, or the load job's
abbrev pub job_bytes : Option Command → Option (List ℕ) → Option (List ℕ)
job_bytes None left = left
job_bytes (Some (Run settings)) left = left
job_bytes (Some (Load orders settings)) left = Some (load_text orders)
job_bytes (Some (Ask node key start settings)) left = left
job_bytes (Some Audit) left = left

-- a job that can be read, is valid and has its records within grace, by the source's count of faults before and after; the load job
-- always is one, and asks no source
abbrev pub HasValidJob : Option Command → Option (List ℕ) → ℕ → ℕ → Type 0
HasValidJob None left before now = ⊥
HasValidJob (Some (Run settings)) left before now = IsInTime left × (Rose before now → ⊥)
HasValidJob (Some (Load orders settings)) left before now = Unit {0}
HasValidJob (Some (Ask node key start settings)) left before now =
    IsInTime left × IsGoodAsk left (record { node = node; key = key; start = start }) × (Rose before now → ⊥)
HasValidJob (Some Audit) left before now = ⊥

-- a question that a job which can be read and is valid has no answer to
abbrev pub HasBadAsk : Option Command → Option (List ℕ) → ℕ → ℕ → Type 0
HasBadAsk None left before now = ⊥
HasBadAsk (Some (Run settings)) left before now = ⊥
HasBadAsk (Some (Load orders settings)) left before now = ⊥
HasBadAsk (Some (Ask node key start settings)) left before now =
    IsRefusing left (record { node = node; key = key; start = start }) × (Rose before now → ⊥)
HasBadAsk (Some Audit) left before now = ⊥

-- what is wanted behind the tables
abbrev pub wanted_of : Option Command → Wanted
wanted_of None = nothing
wanted_of (Some (Run settings)) = lines_if settings.journal
wanted_of (Some (Load orders settings)) = nothing
wanted_of (Some (Ask node key start settings)) = answers (record { node = node; key = key; start = start })
wanted_of (Some Audit) = nothing

-- whether the job is read whole ahead of its run
abbrev pub is_read_ahead : Option Command → Bool
is_read_ahead None = false
is_read_ahead (Some (Run settings)) = is_some settings.stop
is_read_ahead (Some (Load orders settings)) = is_some settings.stop
is_read_ahead (Some (Ask node key start settings)) = is_some settings.stop
is_read_ahead (Some Audit) = false

-- how the workers form clients, and what is wanted of an assignment
abbrev pub placing_by : Option Command → Placing
placing_by None = placing_of usual
placing_by (Some (Run settings)) = placing_of settings
placing_by (Some (Load orders settings)) = placing_of settings
placing_by (Some (Ask node key start settings)) = placing_of settings
placing_by (Some Audit) = placing_of usual

-- what the load job's run answers; no source is asked
abbrev pub IsLoadJudged : Rules → Placing → Bool → ℕ → ℕ → List ℕ → List Entry → Type 0
IsLoadJudged rules placing ahead orders status text journal =
    (left : Option (List ℕ)) × IsJudged rules placing nothing ahead (Some (load_text orders)) left 0 0 status text journal

-- what is answered to a command but `audit`, with its text and its journal: by the bytes that the source has left before and after, where they are
-- known, and its count of faults before and after
abbrev pub IsJudgedBy : Option Command → Rules → Option (List ℕ) → Option (List ℕ) → ℕ → ℕ → ℕ → List ℕ → List Entry → Type 0
IsJudgedBy None rules old new before now status text journal = (status ≡ 1) × (text ≡ bad_words_text) × (journal ≡ [])
IsJudgedBy (Some (Run settings)) rules old new before now status text journal = IsJudged rules (placing_of settings) (lines_if settings.journal) (is_some settings.stop) old new before now status text journal
IsJudgedBy (Some (Load orders settings)) rules old new before now status text journal = IsLoadJudged rules (placing_of settings) (is_some settings.stop) orders status text journal
IsJudgedBy (Some (Ask node key start settings)) rules old new before now status text journal =
    IsJudged rules (placing_of settings) (answers (record { node = node; key = key; start = start })) (is_some settings.stop) old new before now status text journal
IsJudgedBy (Some Audit) rules old new before now status text journal = ⊥
