use Rattle.std.proofs.Common.{ap, set, ◌∙◌}
use Rattle.std.proofs.lemmas.List.{set-get_or}
use Rattle.ks_task.proofs.changelogs.apply_changelogs.Goals as goal

pub loop-i-preserved : goal.loop-i-preserved
loop-i-preserved c = ap (set c.loop-i.changelogs.items c.loop-i.i) (c.apply_one.ensures ∙ c.index_mut.ensures.value) ∙ (set-get_or c.loop-i.changelogs.items c.loop-i.i c.index_mut.result.now ∙ c.loop-i.invariant)

pub returns-in_err-apply_one : goal.returns-in_err-apply_one
returns-in_err-apply_one c = ap (set c.loop-i.changelogs.items c.loop-i.i) (c.apply_one.ensures ∙ c.index_mut.ensures.value) ∙ (set-get_or c.loop-i.changelogs.items c.loop-i.i c.index_mut.result.now ∙ c.loop-i.invariant)
