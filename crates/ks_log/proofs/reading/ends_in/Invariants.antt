use Rattle.std.proofs.Common.{◌≡◌, ◌++◌, drop}
use Rattle.std.specs.Prelude.{map}
use Rattle.ks_log.specs.Reading.{end_at}
use Rattle.ks_log.proofs.reading.ends_in.Given as goal

abbrev pub invariant-loop-part : goal.invariant-loop-part
invariant-loop-part l = l.ends.items ++ map (end_at l.log) (drop l.part-index l.parts) ≡ map (end_at l.log) l.parts
