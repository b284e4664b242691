use Rattle.std.proofs.Common.{◌≡◌, ◌++◌, drop}
use Rattle.ks_def_tasks.specs.Foreign.{answer_all}
use Rattle.ks_query.specs.Streams.{some_of}
use Rattle.ks_def_lookups.specs.Kept.{kept_in}
use Rattle.ks_fk_right.proofs.on_right.Given as goal

abbrev pub invariant-loop-key : goal.invariant-loop-key
invariant-loop-key g l = l.answers.items ++ answer_all l.change.new (some_of kept_in (drop l.key-index l.key-items)) ≡ answer_all l.change.new (some_of kept_in l.key-items)
