use Rattle.ks_law_restated.proofs.Numbers.{labels_are_first_nodes, numbered_by_first_nodes, counted, nodes_lie_in_subtopologies, subtopologies_have_nodes}
use Rattle.ks_law_restated.proofs.subtopologies.subtopologies_are_numbered_by_first_nodes.Goals as goal

pub returns-clause-label : goal.returns-clause-label
returns-clause-label c = labels_are_first_nodes

pub returns-clause-number : goal.returns-clause-number
returns-clause-number c = numbered_by_first_nodes

pub returns-clause-count : goal.returns-clause-count
returns-clause-count c = counted

pub returns-clause-within : goal.returns-clause-within
returns-clause-within c = nodes_lie_in_subtopologies

pub returns-clause-inhabited : goal.returns-clause-inhabited
returns-clause-inhabited c = subtopologies_have_nodes
