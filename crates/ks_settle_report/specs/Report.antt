-- What a cluster has come to. KIP-98 on committed offsets and transactions; Kafka's consumer groups on lags.
use Rattle.std.specs.Prelude.{◌≡◌, ℕ, Bool, not, ◌==◌, ◌&&◌, List, [], ◌∷◌, ◌++◌, length, map, get_or}
use Rattle.std.specs.List.{filter}
use Rattle.ks_record.specs.declared.record.TaskId.{TaskId}
use Rattle.ks_plan.specs.Layout.{tasks}
use Rattle.ks_plan.specs.Infos.{inputs_by_sub}
use Rattle.ks_topo.specs.declared.built.Topology.{Topology}
use Rattle.ks_topo.specs.Topologies.{plan_in}
use Rattle.ks_history.specs.Machine.{has_topic, part_of}
use Rattle.ks_history.specs.State.{State, Setup, IsSetup}
use Rattle.ks_history.specs.Reads.{end_of}
use Rattle.ks_settle_report.specs.declared.lags.Lag.{Lag}

-- a cluster that was made for a topology
pub record IsOf (topology : Topology) (setup : Setup) : Type 0 where
  pub made : IsSetup setup
  pub tasks : setup.tasks ≡ tasks (plan_in topology)
  pub inputs : (sub : ℕ) → get_or (inputs_by_sub (plan_in topology)) sub [] ≡ setup.plan.inputs sub

-- the committed offset and the end of a task's partition of a topic
abbrev pub lag_at : State → ℕ → TaskId → Lag
lag_at s topic t = record { part = part_of topic t; committed = s.committed t topic; end = end_of s (part_of topic t) }

abbrev pub is_behind : Lag → Bool
is_behind lag = not (lag.committed == lag.end)

-- of a topic, the partitions that these tasks read and whose committed offset isn't the end
abbrev pub task_lags : Setup → State → ℕ → List TaskId → List Lag
task_lags setup s topic ts = filter is_behind (map (lag_at s topic) (filter (λ t. has_topic topic (setup.plan.inputs t.sub)) ts))

-- of these topics, one after another; the tasks that read one are in the order of their partitions
abbrev pub lags_of : Setup → State → List ℕ → List Lag
lags_of setup s [] = []
lags_of setup s (topic ∷ topics) = task_lags setup s topic setup.tasks ++ lags_of setup s topics

-- nothing is pending, and nothing is behind
abbrev pub is_at_rest : ℕ → List Lag → Bool
is_at_rest pending lags = (pending == 0) && (length lags == 0)
