-- The tests of tasks and partitions are equality.
use Rattle.std.proofs.Common.{◌≡◌, true, refl, subst}
use Rattle.std.specs.Prelude.{◌==◌}
use Rattle.std.proofs.lemmas.Bool.{and_parts, and_from, eqb-true, eq-eqb}
use Rattle.ks_record.specs.declared.record.PartId.{PartId}
use Rattle.ks_record.specs.declared.record.TaskId.{TaskId}
use Rattle.ks_record.specs.Parts.{same_part, same_task}
use Rattle.ks_def_runs.specs.Run.{HasNames}
use Rattle.ks_history.specs.Machine.{TaskPlan, network}

pub same_task-is : (t u : TaskId) → same_task t u ≡ true → t ≡ u
same_task-is t u h =
    let both : ((t.sub == u.sub) ≡ true) × ((t.part == u.part) ≡ true) = and_parts (t.sub == u.sub) (t.part == u.part) h in
    λ i. record { sub = eqb-true t.sub u.sub both.0 i; part = eqb-true t.part u.part both.1 i }

pub same_task-refl : (t : TaskId) → same_task t t ≡ true
same_task-refl t = and_from (t.sub == t.sub) (t.part == t.part) (eq-eqb t.sub t.sub refl) (eq-eqb t.part t.part refl)

pub same_part-is : (p q : PartId) → same_part p q ≡ true → p ≡ q
same_part-is p q h =
    let both : ((p.topic == q.topic) ≡ true) × ((p.part == q.part) ≡ true) = and_parts (p.topic == q.topic) (p.part == q.part) h in
    λ i. record { topic = eqb-true p.topic q.topic both.0 i; part = eqb-true p.part q.part both.1 i }

pub same_part-refl : (p : PartId) → same_part p p ≡ true
same_part-refl p = and_from (p.topic == p.topic) (p.part == p.part) (eq-eqb p.topic p.topic refl) (eq-eqb p.part p.part refl)

pub has_names : (plan : TaskPlan) → HasNames (network plan)
has_names plan = record {
  tasks = λ a b. (same_task-is a b, λ e. subst (λ c. same_task a c ≡ true) e (same_task-refl a));
  places = λ a b. (same_part-is a b, λ e. subst (λ c. same_part a c ≡ true) e (same_part-refl a));
}
