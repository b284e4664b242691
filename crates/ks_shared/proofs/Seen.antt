-- What is so in the journal that a pass has seen is so when its turn comes.
use Rattle.std.proofs.Common.{◌≡◌, ℕ, ◌≤◌, Bool, true, false, List, ◌++◌, length, Option, Some, refl, sym, ap, subst, ◌∙◌, arith}
use mathlib.Core.List.{IsPrefix}
use Rattle.ks_record.specs.declared.record.PartId.{PartId}
use Rattle.ks_record.specs.declared.record.TaskId.{TaskId}
use Rattle.ks_record.specs.declared.assignment.Assignment.{Assignment}
use Rattle.ks_history.specs.declared.journal.Entry.{Entry}
use Rattle.ks_history.specs.declared.journal.Request.TheVariants.{SendOffsets, Decide}
use Rattle.ks_history.specs.Machine.{TaskPlan, IsNetwork}
use Rattle.ks_history.specs.State.{Setup}
use Rattle.ks_history.specs.History.{at, Meets, are_offsets, IsHistory, CommitsFaithfully}
use Rattle.ks_history.specs.Touched.{touched, untouched}
use Rattle.ks_history.specs.Reads.{MayFetch}
use Rattle.ks_law_sharing.proofs.Touching.{touched_before}
use Rattle.ks_law_sharing.proofs.Rising.{ends_rise, offsets_stay}
use Rattle.ks_law_sharing.proofs.Deciding.{faithful_stays}
use Rattle.ks_cluster.specs.Placed.{PlacementTest, IsGoodAt}
use Rattle.ks_cluster.specs.View.{ClusterView, setup_of, state_of}
use Rattle.ks_shared.specs.declared.state.Frame.{Frame}
use Rattle.ks_standby.specs.declared.replica.Replica.{Replica}
use Rattle.ks_shared.specs.Calls.{frame_of, setup_in, good_in}
use Rattle.ks_shared.specs.Shelf.{IsReplicaOf}
use Rattle.ks_shared.proofs.Shelving.{replica_on}
use Rattle.ks_growing.proofs.Lists.{prefix_trans}

module _ {W : Type 0} (plan : W → TaskPlan) (frame : Option (Frame W)) (seen : List Entry) (before : ClusterView W) (frame_is : frame ≡ Some (frame_of before)) (begins : IsPrefix seen before.journal) where
  same_setup : setup_in plan frame ≡ setup_of plan before
  same_setup = ap (setup_in plan) frame_is

  -- offsets within the partitions stay within them
  pub offsets_then : (w e g : ℕ) (t : TaskId) (offsets order : List (ℕ × ℕ)) (late : ℕ) → Meets (setup_in plan frame) (at (setup_in plan frame) seen) (SendOffsets w e g t offsets order late) →
      Meets (setup_of plan before) (state_of plan before) (SendOffsets w e g t offsets order late)
  offsets_then w e g t offsets order late meets =
      let now : Meets (setup_of plan before) (at (setup_of plan before) seen) (SendOffsets w e g t offsets order late) = subst (λ (s : Setup). Meets s (at s seen) (SendOffsets w e g t offsets order late)) same_setup meets in
      (now.0, now.1, subst (λ l. are_offsets (setup_of plan before) (at (setup_of plan before) l) t offsets ≡ true) begins.1 (offsets_stay (setup_of plan before) seen begins.0 t offsets now.2))

  -- where nobody used the number since, a faithful transaction stays faithful
  pub decides_then : (w epoch last : ℕ) (commit : Bool) → IsHistory (setup_of plan before) before.journal → IsNetwork (plan before.work) → (commit ≡ true → last ≤ length seen) →
      CommitsFaithfully (setup_in plan frame) (at (setup_in plan frame) seen) (Decide w epoch commit) → touched w before.journal ≡ last → CommitsFaithfully (setup_of plan before) (state_of plan before) (Decide w epoch commit)
  decides_then w epoch last false history net within may is = tt
  decides_then w epoch last true history net within may is =
      let quiet : untouched w begins.0 ≡ true = touched_before w seen begins.0 (omega (arith, within refl, ap (touched w) begins.1, is)) in
      subst (λ l. CommitsFaithfully (setup_of plan before) (at (setup_of plan before) l) (Decide w epoch true)) begins.1
      (faithful_stays (setup_of plan before) seen begins.0 w epoch net (subst (IsHistory (setup_of plan before)) (sym begins.1) history) quiet
      (subst (λ (s : Setup). CommitsFaithfully s (at s seen) (Decide w epoch true)) same_setup may))

  -- an assignment that is good by what the pass has seen is good by the journal
  pub good_then : (good : W → PlacementTest) (g : ℕ) (a : Assignment) → IsGoodAt (good_in good frame) (setup_in plan frame) seen g a → IsGoodAt (good before.work) (setup_of plan before) before.journal g a
  good_then good g a k =
      let now : IsGoodAt (good before.work) (setup_of plan before) seen g a =
      subst (λ (f : Option (Frame W)). IsGoodAt (good_in good f) (setup_in plan f) seen g a) frame_is k in
      record {
        seen = now.seen;
        begins = prefix_trans now.seen seen before.journal now.begins begins;
        generation = now.generation;
        good = now.good;
      }

  -- a replica that follows goes on following
  pub follows_then : (t : TaskId) (r : Replica) → IsHistory (setup_of plan before) before.journal → IsNetwork (plan before.work) → IsReplicaOf (setup_in plan frame) seen t r → IsReplicaOf (setup_of plan before) before.journal t r
  follows_then t r history network p =
      subst (λ l. IsReplicaOf (setup_of plan before) l t r) begins.1
      (replica_on (setup_of plan before) seen begins.0 t r network (subst (IsHistory (setup_of plan before)) (sym begins.1) history)
      (subst (λ (s : Setup). IsReplicaOf s seen t r) same_setup p))

  -- an offset within a partition stays within it
  pub may_fetch_then : (part : PartId) (from limit : ℕ) → MayFetch (setup_in plan frame) (at (setup_in plan frame) seen) part from limit → MayFetch (setup_of plan before) (state_of plan before) part from limit
  may_fetch_then part from limit may =
      let now : MayFetch (setup_of plan before) (at (setup_of plan before) seen) part from limit = subst (λ (s : Setup). MayFetch s (at s seen) part from limit) same_setup may in
      let rise = ends_rise (setup_of plan before) seen begins.0 part in
      record {
        part = now.part;
        within = subst (λ l. from ≤ length ((at (setup_of plan before) l).partition part)) begins.1 (omega (arith, now.within, rise));
        some = now.some;
      }
