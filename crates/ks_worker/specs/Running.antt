-- What turns leave: what the gate counted, and entries that show the acts on the group.
use Rattle.std.specs.Prelude.{◌≡◌, ◌≢◌, ◌⊎◌, ◌≤◌, ◌+◌, ◌==◌, ℕ, suc, Bool, true, false, if◌then◌else◌, List, [], ◌∷◌, ◌++◌}
use Rattle.ks_history.specs.declared.journal.Entry.{Entry}
use Rattle.ks_history.specs.declared.journal.Request.{Request}
use Rattle.ks_history.specs.declared.journal.Request.TheVariants.{Expire, Probe}
use Rattle.ks_history.specs.Machine.{TaskPlan}
use Rattle.ks_growing.specs.Passes.{PassView}
use Rattle.ks_shared.specs.declared.state.Frame.{Frame}
use Rattle.ks_worker_client.specs.Turns.{GateCounts}

-- a `probe` of this worker, or an `expire`
abbrev pub is_group_request : ℕ → Request → Bool
is_group_request w (Probe v generation) = v == w
is_group_request w (Expire v) = true
is_group_request w _ = false

abbrev pub group_requests : ℕ → List Entry → ℕ
group_requests w [] = 0
group_requests w (entry ∷ entries) = if is_group_request w entry.request then suc (group_requests w entries) else group_requests w entries

-- in so many turns at most: no count fell, and none rose by more
pub record HasCounted (old new : GateCounts) (turns : ℕ) : Type 0 where
  pub asked : old.asked ≤ new.asked
  pub stops : old.stops ≤ new.stops
  pub calls : old.calls ≤ new.calls
  pub cuts : old.cuts ≤ new.cuts
  pub asked_most : new.asked ≤ old.asked + turns
  pub stops_most : new.stops ≤ old.stops + turns
  pub calls_most : new.calls ≤ old.calls + turns
  pub cuts_most : new.cuts ≤ old.cuts + turns

-- the pass of worker `w` has gained a `probe` of this worker or an `expire` for each act that calls on the group, cuts apart
pub record ShowsCalls {W : Type 0} (w : ℕ) (old new : PassView Entry (Frame W)) (before after : GateCounts) : Type 0 where
  pub more : List Entry
  pub seen : new.seen ≡ old.seen ++ more
  pub shown : after.calls + before.cuts ≤ before.calls + after.cuts + group_requests w more

-- the gate was cut off at most once, and counted nothing else
abbrev pub IsCutOnce : GateCounts → GateCounts → Type 0
IsCutOnce old new = (new ≡ old) ⊎ (new ≡ record old { cuts = old.cuts + 1 })

-- a run ended: its gate said stop, and wasn't asked again; or it never did, and all turns were taken
abbrev pub HasEndedBy : ℕ → GateCounts → GateCounts → Type 0
HasEndedBy turns old new = (new.stops ≡ old.stops + 1) ⊎ ((new.stops ≡ old.stops) × (old.asked + old.cuts + turns ≤ new.asked + new.cuts))
