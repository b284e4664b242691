use Rattle.std.proofs.Common.{ap, ◌∙◌}
use Rattle.ks_history.specs.State.{State}
use Rattle.ks_history.specs.Reads.{fetched}
use Rattle.ks_test_shared.proofs.Staying.{may_fetch, stays, number_stays, state_is, on_ok}
use Rattle.ks_test_shared.proofs.calls.fetch.Goals as goal

pub fetch-requires-clause-may : goal.fetch-requires-clause-may
fetch-requires-clause-may g c = may_fetch _ _ c.requires.ours _ c.requires.topic

pub returns-clause-ours : goal.returns-clause-ours
returns-clause-ours g c = stays _ _ c.requires.ours _ _ c.fetch.ensures

pub returns-clause-number : goal.returns-clause-number
returns-clause-number g c = number_stays _ _ c.requires.ours _ _ c.fetch.ensures

pub returns-clause-records : goal.returns-clause-records
returns-clause-records g c =
    on_ok c.fetch.result _ _ (λ r is. is ∙ ap (λ (s : State). (fetched s (record { topic = c.args.topic; part = 0 }) 0 1000).0) (state_is _ _ c.requires.ours _ _ c.fetch.ensures)) c.fetch.ensures.does.1

pub returns-clause-next : goal.returns-clause-next
returns-clause-next g c =
    on_ok c.fetch.result _ _ (λ r is. is ∙ ap (λ (s : State). (fetched s (record { topic = c.args.topic; part = 0 }) 0 1000).1) (state_is _ _ c.requires.ours _ _ c.fetch.ensures)) c.fetch.ensures.does.2
