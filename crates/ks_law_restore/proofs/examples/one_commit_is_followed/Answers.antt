use Rattle.ks_law_restore.proofs.Worked.{fresh, next, taken, frozen, is_work, one, are_ends, committed}
use Rattle.ks_law_restore.proofs.examples.one_commit_is_followed.Goals as goal

pub returns : goal.returns
returns c = record { fresh = fresh; next = next; taken = taken; frozen = frozen; work = is_work; one = one; ends = are_ends; committed = committed }
