use Rattle.std.proofs.Common.{◌≡◌, ◌+◌, drop}
use Rattle.ks_topo.specs.Built.{topic_place}
use Rattle.ks_topo.proofs.infos.find_place.Given as goal

-- the rest decides
abbrev pub invariant-loop-own : goal.invariant-loop-own
invariant-loop-own l = record { found : l.place + topic_place l.name (drop l.own-index l.sorted) ≡ topic_place l.name l.sorted; count : l.place ≡ l.own-index }
