use Rattle.std.proofs.Common.{rules, ◌∙◌}
use Rattle.std.proofs.lemmas.Fn.{filter_same}
use Rattle.ks_group.proofs.Pendings.{held-filter}
use Rattle.ks_group.proofs.held.remove_held.Goals as goal

pub returns : goal.returns
returns c = filter_same _ _ _ (λ x b f' k. search rules) _ _ c.retain.ensures.filtered ∙ held-filter c.args.w c.args.held.now.items
