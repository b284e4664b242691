use Rattle.std.proofs.Common.{◌≡◌, ◌++◌}
use Rattle.ks_topo_layout.specs.Wired.{tasks_to}
use Rattle.ks_topo_layout.proofs.topics.push_tasks.Given as goal

-- as far as the loop has come
abbrev pub invariant-loop-part : goal.invariant-loop-part
invariant-loop-part l = l.tasks.items ≡ l.fn.tasks.items ++ tasks_to l.sub l.part
