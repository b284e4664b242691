use Rattle.std.proofs.Common.{◌≡◌, ◌≤◌, ℕ, List, fold, drop}
use Rattle.ks_record.specs.Records.{Record as Rec}
use Rattle.ks_def_runs.specs.Bytes.{Store}
use Rattle.ks_plan.specs.Plan.{Window}
use Rattle.ks_query.specs.Streams.{Key}
use Rattle.ks_def_lookups.specs.Windows.{counted, count_start}
use Rattle.ks_plan.specs.Shape.{shape}
use Rattle.ks_window.proofs.counting.apply.Given as goal

pub record Counting (window : Window) (first store : Store) (key : Key) (t now late index : ℕ) (recs : List Rec) (all : List ℕ) : Type 0 where
  pub few : late ≤ index
  pub rest : fold (count_start window t now key) (record { store = store; late = late; recs = recs }) (drop index all) ≡ counted window first key t

abbrev pub invariant-loop-start : goal.invariant-loop-start
invariant-loop-start g l = Counting (shape l.window) (g.S.KvStore.contents l.fn.store) (g.S.KvStore.contents l.store) l.key l.t l.now l.late l.start-index l.recs l.start-items
