-- Turns that were taken, from the clauses of their calls.
use Rattle.std.proofs.Common.{◌≡◌, ◌≢◌, ◌⊎◌, ◌+◌, ℕ, suc, Bool, true, false, List, refl, Result, Ok, Err, OnOk, inl, inr, ap, subst, arith}
use Rattle.ks_edge.specs.declared.gate.Act.{Act}
use Rattle.ks_plan.specs.Drafts.{DraftView}
use Rattle.ks_history.specs.Machine.{TaskPlan}
use Rattle.ks_task.specs.declared.task.Task.{Task}
use Rattle.ks_worker_client.specs.Turns.{GateCounts}
use Rattle.ks_worker_acts.specs.Inputs.{HasMoved}
use Rattle.ks_worker.specs.declared.worker.Worker.{Worker}
use Rattle.ks_worker.specs.Acts.{Does, HasLostAll}
use Rattle.ks_worker.specs.Running.{IsCutOnce}
use Rattle.ks_worker.specs.Turns.{dry_after, CountsDry, KeepsTurn, IsCutOff, BeginsTurn, PerformsAct, ObeysGate, TakesTurn, TakesTurns}

-- a gate that was cut off counts otherwise
cut_differs : (old new : GateCounts) → new ≡ record old { cuts = old.cuts + 1 } → new ≢ old
cut_differs old new cut same =
    let a : new.cuts ≡ old.cuts + 1 = ap (λ (g : GateCounts). g.cuts) cut in
    let b : new.cuts ≡ old.cuts = ap (λ (g : GateCounts). g.cuts) same in
    omega (arith, a, b)

next : (n : ℕ) → suc n ≡ n + 1
next n = omega arith

-- what an act of reading counts
pub counts_moved : (before after : ℕ) (moved : Bool) (old new : List Task) → after ≡ dry_after before moved → (moved ≡ true → HasMoved old new) → (moved ≡ false → new ≡ old) →
    (HasMoved old new × (after ≡ dry_after before true)) ⊎ ((new ≡ old) × (after ≡ dry_after before false))
counts_moved before after true old new is moves stays = inl (moves refl, is)
counts_moved before after false old new is moves stays = inr (stays refl, is)

module _ {W G : Type 0} (plan : W → TaskPlan) (d : DraftView) where
  -- an act was done, or cut off
  pub has_acted : (act : Act) (old new : Worker W G) → IsCutOnce old.state.session.client.gate new.state.session.client.gate → KeepsTurn old new →
      (new.state.session.client.gate ≡ old.state.session.client.gate → Does plan d old.waiting act old.state new.state) → (new.state.session.client.gate ≢ old.state.session.client.gate → HasLostAll old.state new.state) →
      (new.state.session.client.gate ≡ old.state.session.client.gate → CountsDry act old new) → (new.state.session.client.gate ≢ old.state.session.client.gate → new.dry ≡ old.dry) →
      PerformsAct plan d act old new ⊎ (KeepsTurn old new × IsCutOff old new)
  has_acted act old new (inl same) keeps does lost dry dry_cut = inl (record { keeps = keeps; gate = same; does = does same; dry = dry same })
  has_acted act old new (inr cut) keeps does lost dry dry_cut =
      let differs = cut_differs old.state.session.client.gate new.state.session.client.gate cut in
      inr (keeps, record { gate = cut; lost = lost differs; dry = dry_cut differs })

  -- a turn that began, with what its gate said
  pub turn_ok : {A E : Type 0} (answer : Result A E) (old begun new : Worker W G) → BeginsTurn plan d old begun → OnOk answer (ObeysGate plan d begun new) → OnOk answer (TakesTurn plan d old new)
  turn_ok (Ok a) old begun new begins obeys = inl (record { begun = begun; begins = begins; obeys = obeys })
  turn_ok (Err e) old begun new begins obeys = tt

  -- one turn more
  pub one_turn_more : (count : ℕ) (old mid new : Worker W G) → TakesTurns plan d count old mid → TakesTurn plan d mid new → TakesTurns plan d (count + 1) old new
  one_turn_more count old mid new taken turn = subst (λ n. TakesTurns plan d n old new) (next count) (mid, taken, turn)
