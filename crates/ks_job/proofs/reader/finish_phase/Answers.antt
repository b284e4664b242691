use Rattle.std.proofs.Common.{refl, ap, sym, ◌∙◌}
use Rattle.std.specs.Prelude.{◌==◌}
use Rattle.ks_job.specs.Lines.{spot, judged}
use Rattle.ks_job.specs.Phases.{reader_of}
use Rattle.ks_job.proofs.Fronts.{end_front, end_item}
use Rattle.ks_job.proofs.reader.finish_phase.Goals as goal
use Rattle.ks_job.proofs.reader.finish_phase.Goals.{in-Some+in_ok-push-in-Some, in-None}

pub returns-in-Faulty-clause-front : goal.returns-in-Faulty-clause-front
returns-in-Faulty-clause-front c = end_front (reader_of c.args.phase) _ _ refl

pub returns-then-is_empty-clause-front : goal.returns-then-is_empty-clause-front
returns-then-is_empty-clause-front c = end_front (reader_of c.args.phase) _ _ refl

pub returns-in_err-push-in-Some-clause-front : goal.returns-in_err-push-in-Some-clause-front
returns-in_err-push-in-Some-clause-front c = end_front (reader_of c.args.phase) _ _ c.in_err-push-in-Some.ensures.items

pub returns-in-Ok-clause-front : goal.returns-in-Ok-clause-front
returns-in-Ok-clause-front c =
    let begun = c.in-Reading.begun in
    let some = sym (c.is_empty.ensures ∙ ap (λ n. n == 0) begun.ok.0) ∙ c.if-is_empty.false in
    let line = ap (judged (spot c.in-Reading.place) 0) (sym c.deref.ensures.value) ∙ c.in-Ok.ensures in
    elim c.match-item.branch [
      | in-Some+in_ok-push-in-Some w ↦ end_item (reader_of c.args.phase) (spot c.in-Reading.place) begun.items c.args.items.now.items _ _ c.in-Ok.item w.in-Some.item (ap reader_of c.in-Reading.is) some line w.in-Some.is (ap (λ v. v.items) w.items-is ∙ w.in_ok-push-in-Some.ensures.items)
      | in-None w ↦ end_front (reader_of c.args.phase) _ _ (ap (λ v. v.items) w.items-is)
    ]

pub returns-in-Fault-clause-front : goal.returns-in-Fault-clause-front
returns-in-Fault-clause-front c = end_front (reader_of c.args.phase) _ _ refl

pub returns-clause-front : goal.returns-clause-front
returns-clause-front c = end_front (reader_of c.args.phase) _ _ refl
