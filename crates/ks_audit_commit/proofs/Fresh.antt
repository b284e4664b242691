-- A task of an empty cluster, before anything was committed.
use Rattle.std.proofs.Common.{◌≡◌, ℕ, Bool, true, false, cond, List, [], ◌∷◌, map, refl, sym, ap, subst, ◌∙◌}
use Rattle.std.specs.Prelude.{◌==◌}
use Rattle.ks_record.specs.declared.record.TaskId.{TaskId}
use Rattle.ks_plan.specs.Drafts.{DraftView}
use Rattle.ks_history.specs.State.{Setup, start, has_task, offset_in}
use Rattle.ks_history.specs.Follows.{TaskView}
use Rattle.ks_law_restore.specs.Replicas.{fresh_replica, restored_view}
use Rattle.ks_law_audit.specs.Rested.{IsRested}
use Rattle.ks_law_audit.proofs.Resting.{rested_starts}
use Rattle.ks_task.specs.Tasks.{task_view, IsTaskOf}
use Rattle.ks_audit_commit.specs.declared.audited.AuditedTask.{AuditedTask}
use Rattle.ks_audit_commit.specs.Ends.{end_in}
use Rattle.ks_audit_commit.specs.Judging.{IsAudited}

pub zeros : (topics : List ℕ) → map (λ (o : ℕ × ℕ). o.0) (map (λ (n : ℕ). (n, 0)) topics) ≡ topics
zeros [] = refl
zeros (n ∷ ns) = ap (λ l. n ∷ l) (zeros ns)

zero_in : (topic : ℕ) (topics : List ℕ) → offset_in 0 topic (map (λ (n : ℕ). (n, 0)) topics) ≡ 0
zero_in topic [] = refl
zero_in topic (n ∷ ns) = by (topic == n) (zero_in topic ns)
  where
    by : (b : Bool) → offset_in 0 topic (map (λ (n : ℕ). (n, 0)) ns) ≡ 0 → cond b 0 (offset_in 0 topic (map (λ (n : ℕ). (n, 0)) ns)) ≡ 0
    by true h = refl
    by false h = h

fresh_rests : (setup : Setup) (t : TaskId) (topics : List ℕ) → IsRested setup start (restored_view (fresh_replica t) (λ topic. offset_in 0 topic (map (λ (n : ℕ). (n, 0)) topics)))
fresh_rests setup t topics = record {
  kept = λ topic h. zero_in topic topics;
  inputs = λ topic h. zero_in topic topics;
  order = refl;
  stores = (rested_starts setup t).stores;
  made = λ q. refl;
  late = refl;
}

pub fresh_audited : (d : DraftView) (setup : Setup) (t : TaskId) (topics : List ℕ) (new : AuditedTask) → has_task t setup.tasks ≡ true → IsTaskOf d new.task →
    task_view new.task ≡ restored_view (fresh_replica t) (λ topic. offset_in 0 topic (map (λ (n : ℕ). (n, 0)) topics)) → new.ends.items ≡ [] → IsAudited d setup [] new
fresh_audited d setup t topics new known of view none =
    record {
      of = of;
      known = ap (λ (v : TaskView). has_task v.task setup.tasks) view ∙ known;
      rests = subst (IsRested setup start) (sym view) (fresh_rests setup t topics);
      ends = λ q. ap (end_in q) none;
    }
