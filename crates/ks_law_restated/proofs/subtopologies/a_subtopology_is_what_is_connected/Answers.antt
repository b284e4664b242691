use Rattle.ks_law_restated.proofs.Labels.{same_subtopology_is_connected, connected_is_same_subtopology}
use Rattle.ks_law_restated.proofs.subtopologies.a_subtopology_is_what_is_connected.Goals as goal

pub returns-clause-connected : goal.returns-clause-connected
returns-clause-connected c = same_subtopology_is_connected

pub returns-clause-same : goal.returns-clause-same
returns-clause-same c = connected_is_same_subtopology
