use Rattle.std.proofs.Common.{◌≡◌, Option, sym, ap, ◌∙◌}
use Rattle.std.specs.Prelude.{option_copied}
use Rattle.ks_plan.specs.declared.node.Topic.TheVariants.{Input as InputTopic}
use Rattle.ks_topo.specs.Topologies.{plan_in}
use Rattle.ks_def_tasks.specs.Rules.{rules_of}
use Rattle.ks_def_tasks.specs.Tasks.{part_of_key}
use Rattle.ks_audit.proofs.Topics.{place_is}
use Rattle.ks_audit.proofs.placing.place_of.Goals as goal

pub returns-in-Some : goal.returns-in-Some
returns-in-Some c = λ hash.
    place_is hash (plan_in c.args.topology.now) c.args.topic c.place.result c.in-Some.key.now c.requires.source c.place.ensures.place
    ∙ ap (λ k. part_of_key (rules_of hash) (plan_in c.args.topology.now) (InputTopic c.args.topic) (option_copied k)) (sym c.in-Some.is)
