use Rattle.std.proofs.Common.{◌≡◌, map, length}
use Rattle.ks_query.specs.Query.{no_answers}
use Rattle.ks_oracle.specs.Nodes.{node_kind}
use Rattle.ks_oracle.specs.Found.{answers_of, answer_all}
use Rattle.ks_oracle.proofs.answers.find_answers.Given as goal

abbrev pub invariant-loop-rest : goal.invariant-loop-rest
invariant-loop-rest l = answer_all l.records (answers_of l.found.items) (length l.found.items) (map node_kind l.rest) ≡ answer_all l.records no_answers 0 (map node_kind l.nodes)

abbrev pub decreases-loop-rest : goal.decreases-loop-rest
decreases-loop-rest l = length l.rest
