-- The passes of a crew.
use Rattle.std.specs.Prelude.{◌≡◌, ◌+◌, ◌≤◌, ℕ, Bool, List, map, unwrap_or}
use Rattle.atomic_table.specs.Seated.{TableId}
use Rattle.ks_growing.specs.Passes.{PassView, IsPass, Each}
use Rattle.ks_worker_client.specs.Turns.{GateCounts}
use Rattle.ks_words.specs.declared.settings.Settings.{Settings}
use Rattle.ks_worker_state.specs.declared.state.WorkerState.{WorkerState}
use Rattle.ks_worker.specs.Beginning.{IsNew}

-- what a lock is closed by: a pass's lock, whether it holds the value, and its number
abbrev pub pass_key : {E F : Type 0} → PassView E F → TableId × Bool × ℕ
pass_key p = (p.lock, p.holds, p.number)

-- the same passes in the same order, as far as a lock is closed by them
abbrev pub HaveKeys : {A E F : Type 0} → (A → PassView E F) → List A → List A → Type 0
HaveKeys pass old new = map (λ m. pass_key (pass m)) new ≡ map (λ m. pass_key (pass m)) old

-- the passes 1, 2 and so on of a lock, which don't hold the value
abbrev pub ArePasses : {E F : Type 0} → TableId → List (PassView E F) → Type 0
ArePasses lock ps = Each (λ k p. IsPass lock (k + 1) p) ps

-- a gate that has counted nothing yet
abbrev pub IsUncounted : GateCounts → Type 0
IsUncounted c = c ≡ record { asked = 0; stops = 0; calls = 0; cuts = 0 }

-- a worker that has done nothing yet, with such a gate
pub record IsEnlisted {W G : Type 0} (s : WorkerState W G) : Type 0 where
  pub uncounted : IsUncounted s.session.client.gate
  pub number : ℕ
  pub instance : ℕ
  pub few : number ≤ 15
  pub small : instance ≤ 3
  pub new : IsNew number instance s

-- how many turns each worker may take
abbrev pub turns_in : Settings → ℕ
turns_in settings = unwrap_or settings.stop 1000000
