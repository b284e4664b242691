use Rattle.std.proofs.Common.{◌≡◌, ◌∙◌, ap, arith}
use Rattle.ks_plan.specs.declared.node.TopicInfo.{TopicInfo}
use Rattle.ks_expr.specs.Keys.{spread_part}
use Rattle.ks_task_processing.specs.Steps.{part_in}
use Rattle.ks_iq.proofs.Placed.{at_number, past_all}
use Rattle.ks_iq.proofs.place.part_in.Goals as goal

pub returns-in-Some : goal.returns-in-Some
returns-in-Some c = at_number (λ (i : TopicInfo). c.part_for.result ≡ part_in (spread_part i.before c.args.key.now) i.parts) c.args.topics.now c.args.number c.in-Some.ensures.lookup.3.0 c.in-Some.info.now c.in-Some.ensures.lookup.3.1
    (c.part_for.ensures ∙ ap (λ b. part_in (spread_part b c.args.key.now) c.in-Some.info.now.parts) c.as_ref.ensures.value)

pub returns-in-None : goal.returns-in-None
returns-in-None c = past_all (λ (i : TopicInfo). 0 ≡ part_in (spread_part i.before c.args.key.now) i.parts) c.args.topics.now c.args.number (omega (arith, c.in-None.ensures.lookup))
