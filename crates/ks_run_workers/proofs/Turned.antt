-- The turns of a crew's workers: what each took, unless it is starved.
use Rattle.std.proofs.Common.{◌≡◌, ◌<◌, ℕ, Bool, true, false, List, [], ◌∷◌, length, refl, sym, subst, arith, Option, Result, Ok, Err}
use Rattle.std.specs.Prelude.{IfSome, OnOk, is_err, ◌||◌}
use Rattle.std.specs.List.{All}
use Rattle.std.proofs.lemmas.List.Elements.{All-nil, All-cons}
use Rattle.atomic_table.specs.Seated.{TableId}
use Rattle.ks_plan.specs.Drafts.{DraftView}
use Rattle.ks_history.specs.Machine.{TaskPlan}
use Rattle.ks_cluster.specs.Placed.{PlacementTest}
use Rattle.ks_worker_state.specs.State.{IsWorkerState}
use Rattle.ks_worker.specs.Beginning.{MayRun}
use Rattle.ks_worker.specs.Running.{HasCounted, HasEndedBy, ShowsCalls}
use Rattle.ks_worker.specs.Turns.{HasTakenTurns}
use Rattle.ks_worker.specs.declared.worker.Worker.{Worker}
use Rattle.ks_run_workers.specs.declared.asking.Asker.{Asker}
use Rattle.ks_run_workers.specs.declared.working.Crew.{Crew}
use Rattle.ks_run_workers.specs.declared.working.WorkerThread.{WorkerThread}
use Rattle.ks_run_workers.specs.Asking.{MayAsk, HasAskedUnlessStarved}
use Rattle.ks_run_workers.specs.Members.{HaveKeys}
use Rattle.ks_run_workers.specs.Working.{HasTurned, AllTurnedUnlessStarved, HaveTurned, is_one_starved}

neither : (b c : Bool) → (b || c) ≡ false → (b ≡ false) × (c ≡ false)
neither false c e = (refl, e)
neither true c e = absurd cc

none_starved : {W G : Type 0} (ms : List (WorkerThread W G)) → is_one_starved ms ≡ false → All (λ m. m.is_starved ≡ false) ms
none_starved [] e = All-nil (λ m. m.is_starved ≡ false)
none_starved (m ∷ ms) e = let both = neither m.is_starved (is_one_starved ms) e in All-cons (λ m. m.is_starved ≡ false) m ms both.0 (none_starved ms both.1)

module _ {W G : Type 0} (plan : W → TaskPlan) (d : DraftView) (turns : ℕ) where
  -- by how its turns ended
  pub has_turned : {A E : Type 0} (old new : Worker W G) (r : Result A E) (starved : Bool) → starved ≡ is_err r → OnOk r (IsWorkerState plan d new.state) → OnOk r (HasTakenTurns plan d turns old new) →
      OnOk r (HasCounted old.state.session.client.gate new.state.session.client.gate turns) → OnOk r (HasEndedBy turns old.state.session.client.gate new.state.session.client.gate) →
      OnOk r (ShowsCalls old.state.member.number old.state.session.client.pass new.state.session.client.pass old.state.session.client.gate new.state.session.client.gate) → starved ≡ false → HasTurned plan d turns old new
  has_turned old new (Ok a) starved is worker taken counts ended shown fed = record { worker = worker; taken = taken; counts = counts; ended = ended; shown = shown }
  has_turned old new (Err e) starved is worker taken counts ended shown fed = absurd cc

  -- where none is starved, each took its turns
  pub have_turned : (old new : List (WorkerThread W G)) → length new ≡ length old → AllTurnedUnlessStarved plan d turns old new → is_one_starved new ≡ false → HaveTurned plan d turns old new
  have_turned old new long each none = let nobody = none_starved new none in record {
    nobody = nobody;
    turned = λ k m l. (each.each k m l).turned (nobody k m (omega (arith, long, l)));
  }

-- ---- a crew that is lent
module _ {W G : Type 0} (plan : W → TaskPlan) (d : DraftView) (crew lent : Crew W G) (same : lent ≡ crew) where
  -- what it may do
  pub may_lent : (good : W → PlacementTest) (hash : List ℕ → ℕ) (lock : TableId) → 0 < length crew.threads.members.items →
      All (λ m. MayRun plan good hash lock d m.worker.placing crew.threads.turns m.worker.state) crew.threads.members.items → IfSome crew.asker (MayAsk plan lock d) →
      (0 < length lent.threads.members.items) × All (λ m. MayRun plan good hash lock d m.worker.placing lent.threads.turns m.worker.state) lent.threads.members.items × IfSome lent.asker (MayAsk plan lock d)
  may_lent good hash lock some may ask =
      subst (λ (t : Crew W G). (0 < length t.threads.members.items) × All (λ m. MayRun plan good hash lock d m.worker.placing t.threads.turns m.worker.state) t.threads.members.items × IfSome t.asker (MayAsk plan lock d))
      (sym same) (some, may, ask)

  -- what it did
  pub keys_lent : {new now : List (WorkerThread W G)} → HaveKeys (λ m. m.worker.state.session.client.pass) lent.threads.members.items new → new ≡ now →
      HaveKeys (λ m. m.worker.state.session.client.pass) crew.threads.members.items now
  keys_lent {new} {now} told is = subst (λ (t : Crew W G). HaveKeys (λ m. m.worker.state.session.client.pass) t.threads.members.items now) same (subst (λ l. HaveKeys (λ m. m.worker.state.session.client.pass) lent.threads.members.items l) is told)

  pub turned_lent : {new now : List (WorkerThread W G)} → AllTurnedUnlessStarved plan d lent.threads.turns lent.threads.members.items new → new ≡ now →
      AllTurnedUnlessStarved plan d crew.threads.turns crew.threads.members.items now
  turned_lent {new} {now} told is = subst (λ (t : Crew W G). AllTurnedUnlessStarved plan d t.threads.turns t.threads.members.items now) same (subst (λ l. AllTurnedUnlessStarved plan d lent.threads.turns lent.threads.members.items l) is told)

  pub asked_lent : {new now : Option (Asker W)} → HasAskedUnlessStarved plan d lent.asker new → new ≡ now → HasAskedUnlessStarved plan d crew.asker now
  asked_lent {new} {now} told is = subst (λ (t : Crew W G). HasAskedUnlessStarved plan d t.asker now) same (subst (HasAskedUnlessStarved plan d lent.asker) is told)

pub always_ok : {A E : Type 0} {P : Type 0} (r : Result A E) → P → OnOk r P
always_ok (Ok a) p = p
always_ok (Err e) p = tt
