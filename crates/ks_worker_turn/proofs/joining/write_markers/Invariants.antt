use Rattle.std.proofs.Common.{◌≡◌, ℕ, replicate}
use Rattle.ks_history.specs.declared.journal.Request.TheVariants.{MarkNext}
use Rattle.ks_worker_client.specs.Calls.{Later}
use Rattle.ks_worker_state.specs.Gained.{HasMade}
use Rattle.ks_worker_turn.proofs.joining.write_markers.Given as goal

-- a later moment, so many markers, and nothing was cut off
abbrev pub invariant-loop : goal.invariant-loop
invariant-loop g l = record {
  later : Later g.W.Work.plan l.fn.client.pass l.client.pass;
  made : (marks : ℕ) × HasMade l.fn.client.pass l.client.pass (replicate marks (MarkNext l.number));
  gate : l.client.gate ≡ l.fn.client.gate;
}
