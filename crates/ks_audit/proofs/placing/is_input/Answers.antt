use Rattle.std.proofs.Common.{◌≡◌, ℕ, List, true, ap, sym, ◌∙◌}
use Rattle.std.specs.Prelude.{◌↔◌}
use Rattle.ks_plan.specs.declared.node.Topic.TheVariants.{Input as InputTopic}
use Rattle.ks_topo.specs.Topologies.{plan_in}
use Rattle.ks_def_tasks.specs.Rules.{rules_of}
use Rattle.ks_def_tasks.specs.Tasks.{part_of_key}
use Rattle.ks_audit.proofs.Topics.{input_told}
use Rattle.ks_audit.proofs.placing.is_input.Goals as goal

pub returns : goal.returns
returns c = λ hash.
    let place = c.place_of-place.ensures hash ∙ ap (part_of_key (rules_of hash) (plan_in c.args.topology.now) (InputTopic c.args.part.topic)) c.key.ensures in
    let told = input_told hash (plan_in c.args.topology.now) c.args.part c.args.rec.now c.in_ok-is_given.is_given c.place_of-place.result c.is_same-is_here.result c.in_ok-is_given.ensures place c.is_same-is_here.ensures in
    (λ h. told.0 (sym c.both.ensures ∙ h), λ i. c.both.ensures ∙ told.1 i)
