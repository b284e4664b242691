use Rattle.std.proofs.Common.{length, ap, ◌∙◌}
use Rattle.ks_history.specs.Partition.{stable}
use Rattle.ks_log.proofs.Parts.{length-visible}
use Rattle.ks_log.proofs.part.Part.stable.Goals as goal

pub returns : goal.returns
returns c = c.len.ensures ∙ c.self.inside.visible.ok.0 ∙ ap length c.self.invariant.visible_is ∙ length-visible c.self.inside.slots.items ∙ ap stable c.self.view_is
