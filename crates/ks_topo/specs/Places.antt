-- The places of keys in the topics of a plan, by number.
use Rattle.std.specs.Prelude.{ℕ, ◌<◌, ◌≤◌, length, get_or}
use Rattle.ks_plan.specs.declared.node.Spread.{Spread}
use Rattle.ks_plan.specs.declared.node.Topic.TheVariants.{Input}
use Rattle.ks_plan.specs.Plan.{Plan}
use Rattle.ks_plan.specs.Layout.{topics_of, spread_of_topic}

-- how the keys of a topic are spread; past the last one as those of the first
abbrev pub spread_in : Plan → ℕ → Spread
spread_in p number = spread_of_topic p (get_or (topics_of p) number (Input 0))

-- a topic of 1 to 64 partitions
pub record HasPlaces (p : Plan) (number : ℕ) : Type 0 where
  pub within : number < length (topics_of p)
  pub some : 1 ≤ (spread_in p number).parts
  pub most : (spread_in p number).parts ≤ 64
