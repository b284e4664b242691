-- The answers of a run, by its journal.
use Rattle.std.specs.Prelude.{◌≡◌, ℕ, List, [], ◌∷◌, ◌++◌, length}
use Rattle.std.specs.List.{flat_map}
use Rattle.ks_plan.specs.Drafts.{DraftView}
use Rattle.ks_def_tasks.specs.Messages.{Rules}
use Rattle.ks_history.specs.declared.journal.Entry.{Entry}
use Rattle.ks_history.specs.Reads.{end_of as end_of_part}
use Rattle.ks_law_settled.specs.Settled.{end_of}
use Rattle.ks_iq.specs.declared.ask.Ask.{Ask}
use Rattle.ks_iq.specs.declared.answer.Answer.{Answer}
use Rattle.ks_iq.specs.Asks.{part_of_ask}
use Rattle.ks_run_ask.specs.Texts.{answer_line}
use Rattle.ks_iq.specs.Answered.{AreAnswers}

-- 17 answers, each a read of the state that the journal leaves, whose positions don't fall, and the last of which stands at the end of the
-- question's partition
pub record AreAnswerLines (rules : Rules) (d : DraftView) (ask : Ask) (journal : List Entry) (text : List ℕ) : Type 0 where
  pub first : List Answer
  pub last : Answer
  pub sixteen : length first ≡ 16
  pub reads : AreAnswers d (end_of rules d journal) ask 0 (first ++ last ∷ [])
  pub ends : last.position ≡ end_of_part (end_of rules d journal) (part_of_ask d ask)
  pub lines : text ≡ flat_map answer_line (first ++ last ∷ [])
