-- A worker's turns, one after another (Kafka Streams: passes of a StreamThread's run loop).
use Rattle.std.specs.Prelude.{◌≡◌, ◌⊎◌, ◌≤◌, ◌+◌, ◌-◌, ◌^◌, ℕ, zero, suc, Bool, true, false, min}
use Rattle.ks_edge.specs.Counts.{stops_of, calls_of}
use Rattle.ks_edge.specs.declared.gate.Act.{Act}
use Rattle.ks_edge.specs.declared.gate.Act.TheVariants.{Work}
use Rattle.ks_plan.specs.Drafts.{DraftView}
use Rattle.ks_plan.specs.Layout.{tasks}
use Rattle.ks_plan.specs.Plan.{plan_of}
use Rattle.ks_history.specs.Machine.{TaskPlan}
use Rattle.ks_worker_client.specs.Turns.{GateCounts}
use Rattle.ks_worker_acts.specs.Inputs.{HasMoved}
use Rattle.ks_worker_turn.specs.Beginning.{HasBegun}
use Rattle.ks_worker_turn.specs.Requests.{MakesTurn}
use Rattle.ks_worker.specs.declared.worker.Worker.{Worker}
use Rattle.ks_worker.specs.Acts.{Does, HasLostAll}

-- how many acts `Work` in a row moved nothing, with one more, which moved something or nothing
abbrev pub dry_after : ℕ → Bool → ℕ
dry_after dry true = 0
dry_after dry false = min (dry + 1) (2 ^ 32 - 1)

-- what an act adds to them: none where this one moved an input position, one more where its tasks stayed as they were; no
-- other act counts
abbrev pub CountsDry : {W G : Type 0} → Act → Worker W G → Worker W G → Type 0
CountsDry (Work pick) old new =
    (HasMoved old.state.tasks.items new.state.tasks.items × (new.dry ≡ dry_after old.dry true))
    ⊎ ((new.state.tasks.items ≡ old.state.tasks.items) × (new.dry ≡ dry_after old.dry false))
CountsDry _ old new = new.dry ≡ old.dry

-- how it places tasks, the number of its turn, and how many markers it was told of
pub record KeepsTurn {W G : Type 0} (old new : Worker W G) : Type 0 where
  pub placing : new.placing ≡ old.placing
  pub turn : new.turn ≡ old.turn
  pub waiting : new.waiting ≡ old.waiting

-- it was cut off, and lost all that it had
pub record IsCutOff {W G : Type 0} (old new : Worker W G) : Type 0 where
  pub gate : new.state.session.client.gate ≡ record old.state.session.client.gate { cuts = old.state.session.client.gate.cuts + 1 }
  pub lost : HasLostAll old.state new.state
  pub dry : new.dry ≡ old.dry

-- it began its next turn, was told its group's status, with the markers that waited, and did what that asks, by requests of a turn's
-- beginning alone
pub record BeginsTurn {W G : Type 0} (plan : W → TaskPlan) (d : DraftView) (old new : Worker W G) : Type 0 where
  pub placing : new.placing ≡ old.placing
  pub turn : new.turn ≡ min (old.turn + 1) (2 ^ 64 - 1)
  pub dry : new.dry ≡ old.dry
  pub gate : new.state.session.client.gate ≡ old.state.session.client.gate
  pub begun : HasBegun plan old.placing.threads (tasks (plan_of d)) old.state new.state new.waiting
  pub made : MakesTurn old.state new.state

-- it was cut off in its next turn before its act
pub record IsCutBefore {W G : Type 0} (old new : Worker W G) : Type 0 where
  pub placing : new.placing ≡ old.placing
  pub turn : new.turn ≡ min (old.turn + 1) (2 ^ 64 - 1)
  pub waiting : new.waiting ≡ old.waiting
  pub cut : IsCutOff old new

-- the same worker, whose gate counted this
abbrev pub with_gate : {W G : Type 0} → Worker W G → GateCounts → Worker W G
with_gate worker gate = record worker { state = record worker.state { session = record worker.state.session { client = record worker.state.session.client { gate = gate } } } }

-- what a gate counted that gave one act more
abbrev pub counts_with : GateCounts → Act → GateCounts
counts_with gate act = record gate { asked = gate.asked + 1; stops = gate.stops + stops_of act; calls = gate.calls + calls_of act }

-- it did this act
pub record PerformsAct {W G : Type 0} (plan : W → TaskPlan) (d : DraftView) (act : Act) (old new : Worker W G) : Type 0 where
  pub keeps : KeepsTurn old new
  pub gate : new.state.session.client.gate ≡ old.state.session.client.gate
  pub does : Does plan d old.waiting act old.state new.state
  pub dry : CountsDry act old new

-- its gate gave an act, which it did, or within which it was cut off
pub record ObeysGate {W G : Type 0} (plan : W → TaskPlan) (d : DraftView) (old new : Worker W G) : Type 0 where
  pub act : Act
  pub asked : Worker W G
  pub counted : asked ≡ with_gate old (counts_with old.state.session.client.gate act)
  pub acted : PerformsAct plan d act asked new ⊎ (KeepsTurn asked new × IsCutOff asked new)

-- it began a turn, and obeyed its gate
pub record ActsInTurn {W G : Type 0} (plan : W → TaskPlan) (d : DraftView) (old new : Worker W G) : Type 0 where
  pub begun : Worker W G
  pub begins : BeginsTurn plan d old begun
  pub obeys : ObeysGate plan d begun new

abbrev pub TakesTurn : {W G : Type 0} → (W → TaskPlan) → DraftView → Worker W G → Worker W G → Type 0
TakesTurn plan d old new = ActsInTurn plan d old new ⊎ IsCutBefore old new

abbrev pub TakesTurns : {W G : Type 0} → (W → TaskPlan) → DraftView → ℕ → Worker W G → Worker W G → Type 0
TakesTurns plan d zero old new = new ≡ old
TakesTurns {W} {G} plan d (suc count) old new = (mid : Worker W G) × TakesTurns plan d count old mid × TakesTurn plan d mid new

-- so many turns, or fewer where its gate said stop once
pub record HasTakenTurns {W G : Type 0} (plan : W → TaskPlan) (d : DraftView) (most : ℕ) (old new : Worker W G) : Type 0 where
  pub count : ℕ
  pub few : count ≤ most
  pub taken : TakesTurns plan d count old new
  pub ended : (count ≡ most) ⊎ (new.state.session.client.gate.stops ≡ old.state.session.client.gate.stops + 1)
