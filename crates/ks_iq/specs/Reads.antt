-- Reads at a position of a changelog, in a journal (KIP-535).
use Rattle.std.specs.Prelude.{◌≡◌, ℕ, None, List, ◌++◌}
use Rattle.ks_plan.specs.Drafts.{DraftView}
use Rattle.ks_plan.specs.Plan.{plan_of}
use Rattle.ks_plan.specs.Layout.{tasks}
use Rattle.ks_plan.specs.Infos.{changelog_numbers}
use Rattle.ks_history.specs.declared.journal.Entry.{Entry}
use Rattle.ks_history.specs.Machine.{IsNetwork}
use Rattle.ks_law_reads.specs.Reads.{store_at}
use Rattle.ks_history.specs.State.{State, Setup}
use Rattle.ks_history.specs.Follows.{IsReached}
use Rattle.ks_history.specs.History.{at, IsHistory}
use Rattle.ks_iq.specs.declared.ask.Ask.{Ask}
use Rattle.ks_iq.specs.declared.answer.Answer.{Answer}
use Rattle.ks_iq.specs.Asks.{ask_fault, part_of_ask, value_in}

-- the answer is what the decided records of the key's changelog partition below its position leave
pub record IsRead (d : DraftView) (s : State) (a : Ask) (answer : Answer) : Type 0 where
  pub fine : ask_fault d a ≡ None
  pub reached : IsReached s (part_of_ask d a) answer.position
  pub value : answer.value ≡ value_in d a (store_at s (part_of_ask d a) answer.position)

-- a cluster with this setup runs the tasks of this topology, whatever they compute
pub record ReadsTopology (d : DraftView) (setup : Setup) : Type 0 where
  pub changelogs : (sub : ℕ) → setup.plan.changelogs sub ≡ changelog_numbers (plan_of d) sub
  pub tasks : setup.tasks ≡ tasks (plan_of d)

-- the law: whatever is written later, a read is one
abbrev pub ReadsLast : Type 0
ReadsLast = (d : DraftView) (setup : Setup) (journal more : List Entry) (a : Ask) (answer : Answer) → ReadsTopology d setup → IsNetwork setup.plan → IsHistory setup (journal ++ more) →
    IsRead d (at setup journal) a answer → IsRead d (at setup (journal ++ more)) a answer
