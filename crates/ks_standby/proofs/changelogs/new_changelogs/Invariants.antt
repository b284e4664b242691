use Rattle.std.proofs.Common.{◌≡◌, map, take}
use Rattle.ks_cache.specs.Kept.{empty_kept}
use Rattle.ks_standby.proofs.changelogs.new_changelogs.Given as goal

abbrev pub invariant-loop-number : goal.invariant-loop-number
invariant-loop-number l = l.changelogs.items ≡ map (λ number. record { topic = number; position = 0; store = empty_kept }) (take l.number-index l.numbers)
