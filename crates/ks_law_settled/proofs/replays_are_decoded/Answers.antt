use Rattle.ks_law_settled.proofs.Replays.{states_agree}
use Rattle.ks_law_settled.proofs.Ended.{runs_have_ended, subscriptions_are_the_query}
use Rattle.ks_law_settled.proofs.replays_are_decoded.Goals as goal

pub returns-clause-states : goal.returns-clause-states
returns-clause-states c = states_agree

pub returns-clause-ended : goal.returns-clause-ended
returns-clause-ended c = runs_have_ended

pub returns-clause-subscriptions : goal.returns-clause-subscriptions
returns-clause-subscriptions c = subscriptions_are_the_query
