use Rattle.std.proofs.Common.{◌≡◌, length}
use Rattle.std.specs.Prelude.{map}
use Rattle.ks_job_record.specs.Members.{has_name}
use Rattle.ks_job_record.proofs.members.has_name.Given as goal

abbrev pub invariant-loop-rest : goal.invariant-loop-rest
invariant-loop-rest l = has_name (map (λ n. n.now) l.rest) l.name ≡ has_name (map (λ n. n.now) l.names) l.name

abbrev pub decreases-loop-rest : goal.decreases-loop-rest
decreases-loop-rest l = length l.rest
