use Rattle.std.proofs.Common.{◌≡◌, ◌≤◌, ℕ, List, fold, drop}
use Rattle.ks_record.specs.Records.{Record as Rec}
use Rattle.ks_def_runs.specs.Bytes.{Store}
use Rattle.ks_plan.specs.Plan.{Window}
use Rattle.ks_query.specs.Streams.{Key}
use Rattle.ks_plan.specs.Shape.{shape}
use Rattle.ks_window.proofs.Once.{read_start, read_counted}
use Rattle.ks_window.proofs.reading.count.Given as goal

pub record Reading (window : Window) (store : Store) (key : Key) (t now late index : ℕ) (recs : List Rec) (all : List ℕ) : Type 0 where
  pub few : late ≤ index
  pub rest : fold (read_start window store t now key) (record { late = late; recs = recs }) (drop index all) ≡ read_counted window store key t

abbrev pub invariant-loop-start : goal.invariant-loop-start
invariant-loop-start g l = Reading (shape l.window) (g.S.KvStore.contents l.store) l.key l.t l.now l.late l.start-index l.recs l.start-items
