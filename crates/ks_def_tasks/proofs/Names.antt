-- The machine's tests of names are equality.
use Rattle.std.proofs.Common.{◌≡◌, ℕ, true, refl, ap, ap₂, subst, Decides}
use Rattle.std.proofs.lemmas.Bool.{and_parts, and_from}
use Rattle.std.proofs.lemmas.Bool.Decides.{Decides-eqb}
use Rattle.ks_plan.specs.Plan.{Plan}
use Rattle.ks_plan.specs.declared.node.Topic.{Topic}
use Rattle.ks_plan.specs.Layout.{same_topic}
use Rattle.ks_plan.specs.declared.node.Topic.TheVariants.{Input, Repartition, Subscriptions, Responses, Changelog, HashChangelog}
use Rattle.ks_def_runs.specs.Run.{HasNames}
use Rattle.ks_record.specs.declared.record.TaskId.{TaskId}
use Rattle.ks_record.specs.Parts.{same_task}
use Rattle.ks_def_tasks.specs.Messages.{Place, same_place, Rules}
use Rattle.ks_def_tasks.specs.Tasks.{machine}

pub topic-is : (a b : Topic) → same_topic a b ≡ true → a ≡ b
topic-is (Input a) (Input b) e = ap Input ((Decides-eqb a b).0 e)
topic-is (Repartition a) (Repartition b) e = ap Repartition ((Decides-eqb a b).0 e)
topic-is (Subscriptions a) (Subscriptions b) e = ap Subscriptions ((Decides-eqb a b).0 e)
topic-is (Responses a) (Responses b) e = ap Responses ((Decides-eqb a b).0 e)
topic-is (Changelog a) (Changelog b) e = ap Changelog ((Decides-eqb a b).0 e)
topic-is (HashChangelog a) (HashChangelog b) e = ap HashChangelog ((Decides-eqb a b).0 e)
topic-is _ _ e = cc

pub topic_itself : (a : Topic) → same_topic a a ≡ true
topic_itself (Input a) = (Decides-eqb a a).1 refl
topic_itself (Repartition a) = (Decides-eqb a a).1 refl
topic_itself (Subscriptions a) = (Decides-eqb a a).1 refl
topic_itself (Responses a) = (Decides-eqb a a).1 refl
topic_itself (Changelog a) = (Decides-eqb a a).1 refl
topic_itself (HashChangelog a) = (Decides-eqb a a).1 refl

pub same_task-is : (a b : TaskId) → Decides (same_task a b) (a ≡ b)
same_task-is a b = (
  λ e. let p = and_parts _ _ e in ap₂ (λ (s i : ℕ). record { sub = s; part = i }) ((Decides-eqb a.sub b.sub).0 p.0) ((Decides-eqb a.part b.part).0 p.1),
  λ e. and_from _ _ ((Decides-eqb a.sub b.sub).1 (ap (λ (t : TaskId). t.sub) e)) ((Decides-eqb a.part b.part).1 (ap (λ (t : TaskId). t.part) e)),
)

pub same_place-is : (a b : Place) → Decides (same_place a b) (a ≡ b)
same_place-is a b = (
  λ e. let p = and_parts _ _ e in ap₂ (λ (t : Topic) (i : ℕ). record { topic = t; part = i }) (topic-is a.topic b.topic p.0) ((Decides-eqb a.part b.part).0 p.1),
  λ e. subst (λ c. same_place a c ≡ true) e (and_from _ _ (topic_itself a.topic) ((Decides-eqb a.part a.part).1 refl)),
)

pub names : (rules : Rules) (p : Plan) → HasNames (machine rules p)
names rules p = record { tasks = same_task-is; places = same_place-is }
