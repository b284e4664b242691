use Rattle.std.proofs.Common.{◌≡◌, ◌≤◌, ◌-◌, ℕ, List}
use Rattle.ks_window.proofs.Opens.{multiples_from}
use Rattle.ks_window.proofs.windows.starts.Given as goal

pub record Found (advance first index : ℕ) (items : List ℕ) : Type 0 where
  pub from : first ≤ index
  pub found : items ≡ multiples_from advance first (index - first)

abbrev pub invariant-loop-index : goal.invariant-loop-index
invariant-loop-index l = Found l.advance l.first l.index l.found.items
