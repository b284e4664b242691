use Rattle.std.proofs.Common.{subst, sym, ap, ◌∙◌, true, ◌≡◌}
use Rattle.std.specs.List.{All}
use Rattle.ks_history.specs.Machine.{has_topic}
use Rattle.ks_history.specs.Reads.{ends_of}
use Rattle.ks_history.specs.State.{IsPart}
use Rattle.ks_shared.specs.Calls.{setup_in}
use Rattle.ks_worker_client.proofs.Halting.{was_ok_with}
use Rattle.ks_worker_state.proofs.Restored.{parts_are}
use Rattle.ks_worker_state.proofs.restoring.ends_of_task.Goals as goal

pub ends-requires-clause-parts : goal.ends-requires-clause-parts
ends-requires-clause-parts g c =
    let setup = setup_in g.W.Work.plan c.args.client.now.pass.frame in
    subst (All (IsPart setup)) (sym (c.as_slice.ensures.value ∙ was_ok_with c.parts_of.result _ c.in_ok-parts.parts (sym c.or_halt.ensures ∙ c.in_ok-parts.was) c.parts_of.ensures))
    (parts_are setup c.args.task c.args.changelogs.now c.requires.may.setup c.requires.known (λ n h. subst (λ l. has_topic n l ≡ true) c.requires.changelogs h))
