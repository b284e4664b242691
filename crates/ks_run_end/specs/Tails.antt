-- What a run has to say behind its tables, before it is written.
use Rattle.std.specs.Prelude.{◌≡◌, ℕ, ◌==◌, cond, List, [], ◌∷◌, ◌++◌, length, Option, Some, None}
use Rattle.std.specs.List.{flat_map}
use Rattle.ks_plan.specs.Drafts.{DraftView}
use Rattle.ks_history.specs.declared.journal.Entry.{Entry}
use Rattle.ks_history.specs.State.{State}
use Rattle.ks_history.specs.Reads.{end_of}
use Rattle.ks_journal.specs.Lines.{journal_text}
use Rattle.ks_iq.specs.declared.ask.Ask.{Ask}
use Rattle.ks_iq.specs.declared.answer.Answer.{Answer}
use Rattle.ks_iq.specs.declared.fault.IqFault.{IqFault}
use Rattle.ks_iq.specs.Asks.{ask_fault, part_of_ask}
use Rattle.ks_iq.specs.Reads.{IsRead}
use Rattle.ks_iq.specs.Answered.{AreAnswers}
use Rattle.ks_run_ask.specs.Texts.{answer_line}
use Rattle.ks_run_end.specs.declared.tail.Tail.{Tail}
use Rattle.ks_run_end.specs.declared.tail.Tail.TheVariants.{Nothing, Lines, Answers, Refusal}
use Rattle.ks_run_verdict.specs.Told.{Wanted}
use Rattle.ks_run_verdict.specs.Told.Wanted.{nothing, lines, answers}

-- what is wanted by it
abbrev pub wanted_of : Tail → Wanted
wanted_of Nothing = nothing
wanted_of Lines = lines
wanted_of (Answers ask given) = answers ask
wanted_of (Refusal fault) = nothing

-- what may be told: of a question that the topology has, 16 answers that are reads of this state, whose positions don't fall
abbrev pub MayTell : DraftView → State → Tail → Type 0
MayTell d s (Answers ask given) = (ask_fault d ask ≡ None) × (length given.items ≡ 16) × AreAnswers d s ask 0 given.items
MayTell d s _ = Unit {0}

abbrev pub refusal_in : Tail → Option IqFault
refusal_in (Refusal fault) = Some fault
refusal_in _ = None

-- the lines of the answers that were given, and of one more at the end of the question's partition
pub record AreLinesOf (d : DraftView) (s : State) (ask : Ask) (given : List Answer) (tail : List ℕ) : Type 0 where
  pub last : Answer
  pub read : IsRead d s ask last
  pub ends : last.position ≡ end_of s (part_of_ask d ask)
  pub lines_are : tail ≡ flat_map answer_line (given ++ last ∷ [])

abbrev pub IsTailOf : DraftView → State → Tail → List Entry → List ℕ → Type 0
IsTailOf d s Nothing journal tail = tail ≡ []
IsTailOf d s Lines journal tail = tail ≡ journal_text journal
IsTailOf d s (Answers ask given) journal tail = AreLinesOf d s ask given.items tail
IsTailOf d s (Refusal fault) journal tail = tail ≡ []

-- of rows that collide no table is shown, and so no answer
abbrev pub nothing_for : Tail → Tail
nothing_for (Answers ask given) = Nothing
nothing_for wanted = wanted

abbrev pub without_answers : ℕ → Tail → Tail
without_answers status wanted = cond (status == 5) (nothing_for wanted) wanted

-- the text of a status and a text, and behind it what is wanted
pub record IsToldBy (d : DraftView) (s : State) (wanted : Tail) (journal : List Entry) (told : ℕ × List ℕ) (text : List ℕ) : Type 0 where
  pub tail : List ℕ
  pub is_tail : IsTailOf d s (without_answers told.0 wanted) journal tail
  pub printed : text ≡ told.1 ++ tail
