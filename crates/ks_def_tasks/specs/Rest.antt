-- Runs that have come to rest, and what their tables are compared with.
use Rattle.std.specs.Prelude.{◌≡◌, ℕ, ◌<◌, ◌^◌, [], length, Option, option_map, false}
use Rattle.ks_record.specs.declared.record.TaskId.{TaskId}
use Rattle.ks_plan.specs.Plan.{Plan}
use Rattle.ks_plan.specs.Layout.{sub_of, before_of, spread_of}
use Rattle.ks_def_runs.specs.Run.{RunState}
use Rattle.ks_query.specs.Streams.{Key}
use Rattle.ks_def_tasks.specs.Messages.{Place, Item, Store, Rules}
use Rattle.ks_def_tasks.specs.Tasks.{is_changelog}
use Rattle.ks_def_tasks.specs.Collision.{NoCollision}

-- nothing waits; the pasts of changelogs are no lists that a task takes from
abbrev pub IsDrained : RunState TaskId Place Store Item → Type 0
IsDrained st = (s : Option TaskId) (q : Place) → is_changelog q.topic ≡ false → st.waiting s q ≡ []

-- at rest, without a collision; so few steps that no count reaches 2 ^ 64 (one gives at most 64 nodes times 1,000 windows)
pub record IsAtRest (rules : Rules) (p : Plan) (st : RunState TaskId Place Store Item) : Type 0 where
  pub drained : IsDrained st
  pub few : length st.taken < 2 ^ 48
  pub none_collides : NoCollision rules p st

-- the task that keeps a node's key, by its partition
abbrev pub home : Rules → Plan → ℕ → Key → ℕ
home rules p n k = rules.part k (spread_of p n)

-- the partition that a join's subscriptions for a left key name, where they name one: that of the key's task, where the join's keys, which
-- are its left side's, are spread by their front parts
abbrev pub named : Rules → Plan → ℕ → Key → Option ℕ
named rules p n k = option_map (λ s. home rules p n k) (before_of p n)

-- the stores of a node's task
abbrev pub store_at : Plan → RunState TaskId Place Store Item → ℕ → ℕ → Store
store_at p st n part = st.stores (record { sub = sub_of p n; part = part })
