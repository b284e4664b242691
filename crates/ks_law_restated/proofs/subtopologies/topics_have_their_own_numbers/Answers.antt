use Rattle.ks_law_restated.proofs.Places.{numbers_are_places, topics_stand_at_their_numbers, topics_have_their_own_numbers as own_numbers}
use Rattle.ks_law_restated.proofs.subtopologies.topics_have_their_own_numbers.Goals as goal

pub returns-clause-place : goal.returns-clause-place
returns-clause-place c = numbers_are_places

pub returns-clause-topic : goal.returns-clause-topic
returns-clause-topic c = topics_stand_at_their_numbers

pub returns-clause-own : goal.returns-clause-own
returns-clause-own c = own_numbers
