-- A pass of the lock round a cluster of the copying task, whatever it has seen.
use Rattle.std.specs.Prelude.{◌≡◌, false}
use Rattle.atomic_table.specs.Seated.{TableId}
use Rattle.ks_history.specs.declared.journal.Entry.{Entry}
use Rattle.ks_law_exactly_once.specs.Example.{setup}
use Rattle.ks_growing.specs.Passes.{PassView}
use Rattle.ks_shared.specs.declared.state.Frame.{Frame}
use Rattle.ks_shared.specs.Calls.{setup_in}

pub record IsOurs {W : Type 0} (lock : TableId) (p : PassView Entry (Frame W)) : Type 0 where
  pub own : p.lock ≡ lock
  pub free : p.holds ≡ false
  pub setup_is : setup_in (λ (work : W). setup.plan) p.frame ≡ setup
