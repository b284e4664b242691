-- The numbers of a plan's topics: each is the topic's place in their list, and no two have one.
use Rattle.std.specs.Prelude.{◌≡◌, ℕ, Some}
use Rattle.std.specs.List.{Contains}
use Rattle.ks_plan.specs.declared.node.Topic.{Topic}
use Rattle.ks_plan.specs.Plan.{Plan}
use Rattle.ks_plan.specs.Layout.{topics_of, number_of, topic_at}

-- the topic at a place of the list has that place as its number, so none stands there twice
abbrev pub NumbersArePlaces : Type 0
NumbersArePlaces = (p : Plan) (n : ℕ) (t : Topic) →
    topic_at p n ≡ Some t → number_of p t ≡ n

-- at a topic's number stands that topic
abbrev pub TopicsStandAtTheirNumbers : Type 0
TopicsStandAtTheirNumbers = (p : Plan) (t : Topic) →
    Contains (topics_of p) t → topic_at p (number_of p t) ≡ Some t

-- topics with one number are one topic
abbrev pub TopicsHaveTheirOwnNumbers : Type 0
TopicsHaveTheirOwnNumbers = (p : Plan) (t u : Topic) →
    Contains (topics_of p) t → Contains (topics_of p) u →
    number_of p t ≡ number_of p u → t ≡ u
