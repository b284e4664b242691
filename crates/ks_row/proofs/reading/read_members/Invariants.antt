use Rattle.std.proofs.Common.{◌≡◌, ◌-◌}
use Rattle.ks_row.specs.Reading.{members_at}
use Rattle.ks_row.proofs.Loop.{with_front}
use Rattle.ks_row.proofs.reading.read_members.Given as goal

-- the members so far and those of the rest are those of all
abbrev pub invariant-loop : goal.invariant-loop
invariant-loop l = with_front l.members.items (members_at (l.count - l.counter) l.rest) ≡ members_at l.count l.bytes
