-- A question that is asked beside the workers, before and after.
use Rattle.std.specs.Prelude.{◌≡◌, ◌≤◌, ℕ, List, ◌++◌, length, None, Option, Some, false}
use Rattle.atomic_table.specs.Seated.{TableId}
use Rattle.ks_plan.specs.Drafts.{DraftView}
use Rattle.ks_history.specs.Machine.{TaskPlan}
use Rattle.ks_worker_client.specs.Calls.{Later, state_seen}
use Rattle.ks_iq.specs.declared.answer.Answer.{Answer}
use Rattle.ks_iq.specs.Asks.{ask_fault, task_of, log_of}
use Rattle.ks_iq.specs.Readers.{MayRead, IsReader, position_at}
use Rattle.ks_run_workers.specs.declared.asking.Asker.{Asker}
use Rattle.ks_run_workers.specs.Members.{pass_key}
use Rattle.ks_iq.specs.Answered.{last_position, AreAnswers}

-- its replica of the question's task is as far as the last answer
abbrev pub HasReached : {W : Type 0} → DraftView → Asker W → Type 0
HasReached d asker = last_position asker.answers.items ≤ position_at asker.reader.replicas.items (task_of d asker.ask) (log_of d asker.ask)

-- the topology has the question's store, and the reader may ask
pub record MayAsk {W : Type 0} (plan : W → TaskPlan) (lock : TableId) (d : DraftView) (asker : Asker W) : Type 0 where
  pub fine : ask_fault d asker.ask ≡ None
  pub may : MayRead plan lock d asker.reader.pass
  pub reader : IsReader plan asker.reader.pass asker.reader.replicas.items
  pub reached : HasReached d asker

-- it has asked so often more: each answer is a read of what its pass has seen, and no position fell
pub record HasAsked {W : Type 0} (plan : W → TaskPlan) (d : DraftView) (times : ℕ) (old new : Asker W) : Type 0 where
  pub more : List Answer
  pub answers : new.answers.items ≡ old.answers.items ++ more
  pub times_are : length more ≡ times
  pub later : Later plan old.reader.pass new.reader.pass
  pub reads : AreAnswers d (state_seen plan new.reader.pass) new.ask (last_position old.answers.items) more
  pub ask : new.ask ≡ old.ask
  pub reader : IsReader plan new.reader.pass new.reader.replicas.items
  pub reached : HasReached d new

-- who asks has asked, unless it ran out of memory; its pass is the one that it was, as far as a lock is closed by it
pub record HasAskedOne {W : Type 0} (plan : W → TaskPlan) (d : DraftView) (old new : Asker W) : Type 0 where
  pub key : pass_key new.reader.pass ≡ pass_key old.reader.pass
  pub asked : new.is_starved ≡ false → HasAsked plan d 16 old new

abbrev pub HasAskedUnlessStarved : {W : Type 0} → (W → TaskPlan) → DraftView → Option (Asker W) → Option (Asker W) → Type 0
HasAskedUnlessStarved plan d None new = new ≡ None
HasAskedUnlessStarved plan d (Some old) None = ⊥
HasAskedUnlessStarved plan d (Some old) (Some new) = HasAskedOne plan d old new
