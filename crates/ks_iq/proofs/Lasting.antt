-- A read lasts, since what it reads of its changelog does.
use Rattle.std.proofs.Common.{◌∙◌, ◌≤◌, cond, List, ap, refl, subst, eq-eqb}
use Rattle.std.specs.Prelude.{option_and_then}
use Rattle.ks_def_runs.specs.FinMap as fin
use Rattle.ks_plan.specs.Plan.{plan_of}
use Rattle.ks_plan.specs.Layout.{kind_at}
use Rattle.ks_plan.specs.Drafts.{DraftView}
use Rattle.ks_history.specs.declared.journal.Entry.{Entry}
use Rattle.ks_history.specs.State.{Setup}
use Rattle.ks_history.specs.Reads.{end_of}
use Rattle.ks_history.specs.History.{at}
use Rattle.ks_law_commit.proofs.Bounds.{replica_is_within}
use Rattle.ks_law_reads.specs.Reads.{store_at}
use Rattle.ks_law_reads.proofs.Lasting as law
use Rattle.ks_iq.specs.Asks.{node_of, log_of, task_of, part_of_ask, store_key, shown_row}
use Rattle.ks_iq.specs.declared.ask.Ask.{Ask}
use Rattle.ks_iq.specs.declared.answer.Answer.{Answer}
use Rattle.ks_iq.specs.Reads.{IsRead, ReadsTopology, ReadsLast}
use Rattle.ks_iq.proofs.Answering.{own_log}

pub reads_last : ReadsLast
reads_last d setup journal more a answer top net history read =
    let key = store_key a.key a.start in
    let store = store_at (at setup journal) (part_of_ask d a) answer.position in
    let last = law.reads_last setup journal more (task_of d a) (log_of d a) key (fin.get store key) answer.position net history (own_log d setup a top read.fine) (record { reached = read.reached; value = refl }) in
    record {
      fine = read.fine;
      reached = last.reached;
      value = read.value ∙ ap (option_and_then (shown_row (kind_at (plan_of d) (node_of d a)))) last.value;
    }

-- a read stands nowhere past the end
pub read_within : (d : DraftView) (setup : Setup) (journal : List Entry) (a : Ask) (answer : Answer) → ReadsTopology d setup → IsRead d (at setup journal) a answer → answer.position ≤ end_of (at setup journal) (part_of_ask d a)
read_within d setup journal a answer top read =
    let log = log_of d a in
    let t = task_of d a in
    let store = store_at (at setup journal) (part_of_ask d a) answer.position in
    subst (λ b. cond b answer.position 0 ≤ end_of (at setup journal) (part_of_ask d a)) (eq-eqb log log refl)
    (replica_is_within setup journal (law.one_log t log answer.position store) log (own_log d setup a top read.fine) (law.one_follows setup journal t log answer.position store refl read.reached))
