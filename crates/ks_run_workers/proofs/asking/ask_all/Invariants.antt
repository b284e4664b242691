use Rattle.std.proofs.Common.{◌≡◌}
use Rattle.ks_topo.specs.Topologies.{draft_of}
use Rattle.ks_run_workers.specs.Members.{pass_key}
use Rattle.ks_run_workers.specs.Asking.{HasAsked}
use Rattle.ks_run_workers.proofs.asking.ask_all.Given as goal

-- it has asked so often
abbrev pub invariant-loop-number : goal.invariant-loop-number
invariant-loop-number g l =
    HasAsked g.W.Work.plan (draft_of l.topology) l.number l.fn.asker l.asker
    × (pass_key l.asker.reader.pass ≡ pass_key l.fn.asker.reader.pass)
