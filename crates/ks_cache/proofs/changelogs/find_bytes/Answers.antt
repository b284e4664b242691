use Rattle.std.proofs.Common.{ap, ◌∙◌}
use Rattle.ks_def_runs.specs.Bytes.{Store}
use Rattle.ks_def_runs.specs.FinMap as fin
use Rattle.ks_cache.proofs.NoChangelog.{no_changelog}
use Rattle.ks_cache.proofs.changelogs.find_bytes.Goals as goal

pub returns : goal.returns
returns c = no_changelog c.loop-rest.rest.now c.args.number c.args.key.now c.in_default.len_below ∙ ap (λ (m : Store). fin.get m c.args.key.now) c.loop-rest.invariant
