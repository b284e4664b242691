-- A run of an order, record by record.
use Rattle.std.proofs.Common.{◌≡◌, ℕ, zero, suc, ◌+◌, ◌-◌, ◌<◌, Bool, true, false, cond, List, [], refl, sym, ap, subst, ◌∙◌, arith}
use Rattle.std.specs.Prelude.{◌==◌}
use Rattle.std.proofs.lemmas.Bool.{eq-eqb}
use Rattle.ks_plan.specs.Drafts.{DraftView}
use Rattle.ks_history.specs.declared.journal.Entry.{Entry}
use Rattle.ks_history.specs.Partition.{below}
use Rattle.ks_history.specs.State.{Setup}
use Rattle.ks_history.specs.Follows.{TaskView}
use Rattle.ks_history.specs.History.{at}
use Rattle.ks_law_restore.specs.Views.{with_taken}
use Rattle.ks_law_audit.specs.Rested.{run_onto}
use Rattle.ks_law_audit.specs.Laws.{ahead}
use Rattle.ks_task.specs.declared.task.Task.{Task}
use Rattle.ks_task.specs.Tasks.{task_view}
use Rattle.ks_audit_commit.specs.Taking.{IsTaker, TakesOne, HasRun, TakesRun}

module _ (d : DraftView) (setup : Setup) (journal : List Entry) (topic upto : ℕ) where
  pub run_begins : (count : ℕ) (task : Task) → IsTaker d setup journal topic task → HasRun d setup journal topic upto (run_onto topic count (task_view task).order) count task task
  run_begins count task taker = record { taker = taker; same = refl; others = λ n ne. refl; within = λ h. h; order_is = refl }

  module _ (order : List (ℕ × ℕ)) (old mid new : Task) where
    goes_on : (left : ℕ) → 0 < left → run_onto topic left (task_view mid).order ≡ order → run_onto topic (left - 1) (with_taken topic (task_view mid).order) ≡ order
    goes_on zero some is = absurd (omega (arith, some))
    goes_on (suc k) some is =
        let one : suc k - 1 ≡ k = omega arith in
        ap (λ n. run_onto topic n (with_taken topic (task_view mid).order)) one ∙ is

    other : (n k : ℕ) (b : Bool) → b ≡ false → cond b k ((task_view mid).inputs n) ≡ (task_view mid).inputs n
    other n k true h = absurd cc
    other n k false h = refl

    pub run_goes_on : (left : ℕ) (took : Bool) → 0 < left → HasRun d setup journal topic upto order left old mid → TakesOne d setup journal topic upto took mid new → took ≡ true → HasRun d setup journal topic upto order (left - 1) old new
    run_goes_on left took some run one is =
        let x = one.yes is in
        record {
          taker = one.taker;
          same = ap (λ (u : TaskView). u.task) x.2 ∙ run.same;
          others = λ n ne. ap (λ (u : TaskView). u.inputs n) x.2 ∙ other n (x.0.0 + 1) (n == topic) ne ∙ run.others n ne;
          within = λ h.
              let now : (task_view new).inputs topic ≡ x.0.0 + 1 = ap (λ (u : TaskView). u.inputs topic) x.2 ∙ ap (λ b. cond b (x.0.0 + 1) ((task_view mid).inputs topic)) (eq-eqb topic topic refl) in
              omega (arith, now, x.1);
          order_is = ap (λ (u : TaskView). run_onto topic (left - 1) u.order) x.2 ∙ goes_on left some run.order_is;
        }

  pub run_ends : (count left : ℕ) (old new : Task) → HasRun d setup journal topic upto (run_onto topic count (task_view old).order) left old new → left ≡ 0 → TakesRun d setup journal topic upto count true old new
  run_ends count left old new run none = record { left = left; run = run; yes = λ _. none; no = λ e. absurd cc }

  pub run_stops : (count left : ℕ) (took : Bool) (old mid new : Task) → 0 < left → HasRun d setup journal topic upto (run_onto topic count (task_view old).order) left old mid → TakesOne d setup journal topic upto took mid new → took ≡ false →
      TakesRun d setup journal topic upto count false old new
  run_stops count left took old mid new some run one is =
      let h = one.no is in
      record {
        left = left;
        run = subst (λ (u : Task). HasRun d setup journal topic upto (run_onto topic count (task_view old).order) left old u) (sym h.0) run;
        yes = λ e. absurd cc;
        no = λ _. (some, subst (λ (u : Task). below upto (ahead (at setup journal) (task_view u) topic) ≡ []) (sym h.0) h.1);
      }
