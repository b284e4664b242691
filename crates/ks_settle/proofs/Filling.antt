-- What a task hands over after it has read a topic.
use Rattle.std.proofs.Common.{◌≡◌, ℕ, Bool, true, false, cond, not, ◌&&◌, List, [], ◌∷◌, ◌++◌, refl, sym, ap, subst, ◌∙◌, Some, None, get_or}
use Rattle.std.proofs.lemmas.Bool.{true≢false}
use Rattle.ks_record.specs.Records.{Record as Rec}
use Rattle.ks_record.specs.declared.record.PartId.{PartId}
use Rattle.ks_record.specs.Parts.{same_part}
use Rattle.ks_history.specs.declared.journal.Entry.{Entry}
use Rattle.ks_history.specs.Machine.{TaskPlan, has_topic}
use Rattle.ks_history.specs.State.{Setup}
use Rattle.ks_history.specs.Follows.{TaskView}
use Rattle.ks_law_restore.specs.Views.{WorkView, IsFrozen, recs_at, names_part, are_outputs, is_empty}
use Rattle.ks_law_restore.proofs.Freezing.{frozen_is_work}
use Rattle.ks_law_restore.proofs.Inside.{frozen_is_inside}
use Rattle.ks_task.specs.declared.task.Task.{Task}
use Rattle.ks_record.specs.declared.record.TaskId.{TaskId}
use Rattle.ks_plan.specs.Drafts.{DraftView}
use Rattle.ks_plan.specs.Plan.{plan_of}
use Rattle.ks_plan.specs.Faults.{fault_of}
use Rattle.ks_plan.specs.Infos.{input_numbers, inputs_by_sub}
use Rattle.ks_def_tasks.specs.Messages.{Rules}
use Rattle.ks_law_topology.specs.Work.{work_of}
use Rattle.ks_task.proofs.Subs.{inputs_there}
use Rattle.ks_task.specs.Tasks.{task_view, IsTaskOf}
use Rattle.ks_settle.specs.Reading.{IsClean}
use Rattle.ks_settle.specs.Drained.{MayDrain, IsDrainedTo, IsFilledTo, IsReadOn, IsRead}
use Rattle.ks_settle.proofs.Topics.{beside, filled}

-- a partition without records isn't named, where none is named without any
unnamed_part : (q : PartId) (outs : List (PartId × List Rec)) → are_outputs outs ≡ true → recs_at q outs ≡ [] → names_part q outs ≡ false
unnamed_part q [] once none = refl
unnamed_part q (out ∷ outs) once none = by (names_part out.0 outs) once (same_part q out.0) none out.1 refl (λ a b. unnamed_part q outs a b)
  where
    tail : (a b : Bool) → (a && b) ≡ true → (a ≡ true) × (b ≡ true)
    tail true b e = (refl, e)
    tail false b e = absurd (true≢false (sym e))

    by : (n : Bool) → cond n false (not (is_empty out.1) && are_outputs outs) ≡ true → (b : Bool) → cond b (out.1 ++ recs_at q outs) (recs_at q outs) ≡ [] → (rs : List Rec) → out.1 ≡ rs →
        (are_outputs outs ≡ true → recs_at q outs ≡ [] → names_part q outs ≡ false) → cond b true (names_part q outs) ≡ false
    by true o b r rs e more = absurd (true≢false (sym o))
    by false o false r rs e more = more (tail (not (is_empty out.1)) (are_outputs outs) o).1 r
    by false o true r [] e more = absurd (true≢false (sym (sym (ap (λ l. not (is_empty l)) e) ∙ (tail (not (is_empty out.1)) (are_outputs outs) o).0)))
    by false o true r (x ∷ xs) e more = absurd (let g : (x ∷ xs) ++ recs_at q outs ≡ [] = ap (λ l. l ++ recs_at q outs) (sym e) ∙ r in cc)

-- the inputs that a well-formed topology names for a task's subtopology are its task's
pub own_inputs : (plan : TaskPlan) (rules : Rules) (d : DraftView) (id : TaskId) (v : TaskView) (numbers : List ℕ) → fault_of d ≡ None → plan ≡ work_of rules (plan_of d) → id ≡ v.task → numbers ≡ get_or (inputs_by_sub (plan_of d)) id.sub [] →
    numbers ≡ plan.inputs v.task.sub
own_inputs plan rules d id v numbers fine work is e =
    e ∙ inputs_there d fine id.sub ∙ ap (λ (t : TaskId). input_numbers (plan_of d) t.sub) is ∙ sym (ap (λ (q : TaskPlan). q.inputs v.task.sub) work)

-- a task that doesn't read the topic
pub reads_not : (d : DraftView) (setup : Setup) (journal : List Entry) (topic : ℕ) (t : Task) → has_topic topic (setup.plan.inputs (task_view t).task.sub) ≡ false → IsTaskOf d t → IsDrainedTo setup journal topic (task_view t) →
    IsRead d setup journal topic t t None
reads_not draft setup journal topic t apart of d = record {
  of = of;
  task = refl;
  filled = beside setup journal topic (task_view t) apart d;
  told = d.clean;
  may = tt;
  later = tt;
  cache = refl;
}

-- one that stood at its end already
pub reads_none : (d : DraftView) (setup : Setup) (journal : List Entry) (topic : ℕ) (old new : Task) → IsDrainedTo setup journal topic (task_view old) → IsReadOn d setup journal topic false old new → IsRead d setup journal topic old new None
reads_none draft setup journal topic old new d r = record {
  of = r.of;
  task = r.read.read.task;
  filled = filled setup journal topic (task_view old) (task_view new) d r.read;
  told = subst (λ (t : Task). IsClean setup.plan (task_view t)) (sym (r.stays refl)) d.clean;
  may = tt;
  later = tt;
  cache = r.cache;
}

-- one that has read on
pub reads_some : (d : DraftView) (setup : Setup) (journal : List Entry) (topic : ℕ) (moved : Bool) (old new : Task) (f : WorkView) → MayDrain setup → IsDrainedTo setup journal topic (task_view old) → IsReadOn d setup journal topic moved old new →
    IsFrozen setup.plan (task_view new) f → IsRead d setup journal topic old new (Some f)
reads_some draft setup journal topic moved old new f may d r frozen =
    let full : IsFilledTo setup journal topic (task_view new) = filled setup journal topic (task_view old) (task_view new) d r.read in
    record {
      of = r.of;
      task = r.read.read.task;
      filled = full;
      told = frozen;
      may = record {
        work = frozen_is_work setup journal (task_view new) f may.network full.stands frozen full.known (may.once (task_view new).task.sub);
        parts = frozen_is_inside setup journal (task_view new) f may.inside full.stands frozen full.known;
      };
      later = λ q h. unnamed_part q f.outputs frozen.once (frozen.outputs q ∙ full.made q h);
      cache = r.cache;
    }
