-- The laws on the zombie's history.
use Rattle.std.proofs.Common.{◌≡◌, Bool, true, false, cond, List, [], ◌∷◌, ◌++◌, Some, None, refl, sym, ap, arith}
use Rattle.std.specs.Prelude.{take, drop}
use Rattle.ks_record.specs.Records.{Record as Rec}
use Rattle.ks_record.specs.declared.record.TaskId.{TaskId}
use Rattle.ks_record.specs.Parts.{same_task}
use Rattle.ks_history.specs.declared.journal.Entry.{Entry}
use Rattle.ks_history.specs.declared.journal.Request.TheVariants.{Decide}
use Rattle.ks_history.specs.declared.transaction.Pending.{Pending}
use Rattle.ks_history.specs.History.{at, IsHistory, CommitsFaithfully}
use Rattle.ks_history.proofs.Histories.{history_front}
use Rattle.ks_history.proofs.Names.{same_task-is}
use Rattle.ks_law_exactly_once.specs.Example.{setup, the_task, changelog, zombie}
use Rattle.ks_law_exactly_once.proofs.Written.{zombie_history, is_network}
use Rattle.ks_law_restore.specs.Views.{WorkView, Stands, IsWork, pending_work}
use Rattle.ks_law_restore.specs.Example.{taker, work, produced}
use Rattle.ks_law_restore.proofs.Freezing.{frozen_is_work}
use Rattle.ks_law_restore.proofs.Lasting.{longer_stands}
use Rattle.ks_law_restore.proofs.Worked.{taken, frozen}
use Rattle.ks_law_sharing.specs.Tasks.{HasSeen, IsActive}
use Rattle.ks_law_sharing.proofs.Pending.{one_pending}
use Rattle.ks_law_commit.specs.Building.{IsBuilding, no_contents, with_part, with_records}
use Rattle.ks_law_commit.specs.Committing.{Holds, HoldsWork}
use Rattle.ks_law_commit.specs.Example.{assigned, built, contents}
use Rattle.ks_law_commit.proofs.Built.{building_begins, building_stays, add_builds, append_builds, offsets_build}
use Rattle.ks_law_commit.proofs.Faith.{building_faithful}

front_history : (rec : Rec) (front rest : List Entry) → zombie rec ≡ front ++ rest → IsHistory setup front
front_history rec front rest is = history_front setup front (zombie rec) (rest, is) (zombie_history rec)

pub history : (rec : Rec) → IsHistory setup (built rec)
history rec = front_history rec (built rec) (drop 8 (zombie rec)) refl

pub building : (rec : Rec) → IsBuilding (at setup (assigned rec)) (at setup (built rec)) 0 1 (contents rec)
building rec =
    let first = at setup (assigned rec) in
    let begun : IsBuilding first first 0 1 no_contents = building_begins setup (assigned rec) 0 1 is_network (front_history rec (assigned rec) (drop 4 (zombie rec)) refl) refl refl refl in
    let added = add_builds first first 0 1 changelog no_contents begun in
    let appended = append_builds first (at setup (take 5 (zombie rec))) 0 1 0 the_task changelog (rec ∷ []) (with_part changelog no_contents) added in
    let sent : IsBuilding first (at setup (take 7 (zombie rec))) 0 1 (contents rec) =
    offsets_build first (at setup (take 6 (zombie rec))) 0 1 1 the_task ((0, 1) ∷ []) ((0, 1) ∷ []) 0 (with_records the_task changelog (rec ∷ []) (with_part changelog no_contents)) appended in
    building_stays setup first (take 7 (zombie rec)) (take 1 (drop 7 (zombie rec))) 0 1 (contents rec) (history rec) refl refl sent

stands : (rec : Rec) → Stands setup (built rec) (taker rec)
stands rec = longer_stands setup (produced rec) (take 7 (drop 1 (zombie rec))) (taker rec) is_network (history rec) refl (taken rec)

is_work : (rec : Rec) → IsWork setup (at setup (built rec)) (work rec)
is_work rec = frozen_is_work setup (built rec) (taker rec) (work rec) is_network (stands rec) (frozen rec) refl refl

pub holds : (rec : Rec) → HoldsWork setup (at setup (built rec)) (contents rec)
holds rec = record {
  named = λ t h. (pending_work (work rec), ap (λ b. cond b (Some (pending_work (work rec))) None) h);
  each = λ t p h. by t p (same_task t the_task) refl h;
}
  where
    whole : Holds (contents rec) (work rec)
    whole = record { pending = refl; records = λ q. refl }

    by : (t : TaskId) (p : Pending) (b : Bool) → same_task t the_task ≡ b → cond b (Some (pending_work (work rec))) None ≡ Some p
        → (f : WorkView) × (f.task ≡ t) × Holds (contents rec) f × IsWork setup (at setup (built rec)) f
    by t p true is h = (work rec, sym (same_task-is t the_task is), whole, is_work rec)
    by t p false is h = absurd cc

pub faithful : (rec : Rec) → CommitsFaithfully setup (at setup (built rec)) (Decide 0 1 true)
faithful rec = building_faithful setup (assigned rec) (take 4 (drop 4 (zombie rec))) 0 1 (contents rec) is_network (history rec) (building rec) (holds rec) (λ t p h. refl)

pub seen : (rec : Rec) → HasSeen setup (built rec) 0 1 7
seen rec = record { generation = omega arith; place = omega arith }

pub active : (rec : Rec) → IsActive setup (built rec) 0 1 7 (taker rec)
active rec = record {
  follows = λ same still. stands rec;
  assigned = λ same still. record { generation = refl; place = refl; pending = one_pending setup (built rec) the_task 0 (history rec) refl };
}
