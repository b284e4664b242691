-- A held task stays held: whatever others write, when it fetches, and it is held when it is made of a replica.
use Rattle.std.proofs.Common.{◌≡◌, ℕ, ◌+◌, ◌≤◌, Bool, true, false, cond, List, [], ◌∷◌, ◌++◌, refl, sym, ap, subst, ◌∙◌, arith, append_assoc}
use Rattle.std.specs.Prelude.{◌==◌}
use Rattle.std.proofs.lemmas.Bool.{eqb-true, eq-eqb}
use Rattle.ks_record.specs.Records.{Record as Rec}
use Rattle.ks_record.specs.declared.record.TaskId.{TaskId}
use Rattle.ks_history.specs.Machine.{TaskPlan, part_of, has_topic}
use Rattle.ks_history.specs.State.{has_task, with_number}
use Rattle.ks_history.specs.Reads.{end_of, fetched}
use Rattle.ks_history.specs.Follows.{TaskView}
use Rattle.ks_history.specs.History.{at, IsHistory}
use Rattle.ks_history.proofs.Histories.{history_front, stable-le}
use Rattle.ks_law_exactly_once.proofs.Replays.{whole}
use Rattle.ks_law_restore.specs.Views.{take_view, take_all}
use Rattle.ks_law_restore.specs.Replicas.{rested_view}
use Rattle.ks_law_restore.proofs.Lasting.{replica_stands}
use Rattle.ks_law_sharing.proofs.Rising.{ends_rise}
use Rattle.ks_law_sharing.proofs.Assigned.{active_stays, fetching_stays_active}
use Rattle.ks_law_sharing.proofs.Restoring.{restored_is_active}
use Rattle.ks_law_commit.specs.Bounds.{FetchGoesOn}
use Rattle.ks_law_commit.specs.Held.{HeldStays, FetchingHolds, RestoringHolds}
use Rattle.ks_law_commit.proofs.Bounds.{fetches_go_on}

pub held_stays : HeldStays
held_stays setup journal more w g last v net history seen h = record {
  known = h.known;
  active = active_stays setup journal more w g last v net history seen h.active;
  rests = λ clean. replica_stands setup journal more (rested_view v) net history (h.rests clean);
  kept = h.kept;
  within = λ topic there. omega (arith, h.within topic there, ends_rise setup journal more (part_of topic v.task));
}

-- ---- what taking records leaves as it was
pub record IsKin (topic : ℕ) (v w : TaskView) : Type 0 where
  pub task : w.task ≡ v.task
  pub kept : (u : ℕ) → w.kept u ≡ v.kept u
  pub others : (u : ℕ) → (u == topic) ≡ false → w.inputs u ≡ v.inputs u

elsewhere : {A : Type 0} (f : ℕ → A) (k u : ℕ) (x : A) → (u == k) ≡ false → with_number f k x u ≡ f u
elsewhere f k u x e = ap (λ b. cond b x (f u)) e

pub here : {A : Type 0} (f : ℕ → A) (k : ℕ) (x : A) → with_number f k x k ≡ x
here f k x = ap (λ b. cond b x (f k)) (eq-eqb k k refl)

pub kin_all : (plan : TaskPlan) (topic : ℕ) (v : TaskView) (recs : List (ℕ × Rec)) → IsKin topic v (take_all plan v topic recs)
kin_all plan topic v [] = record { task = refl; kept = λ u. refl; others = λ u e. refl }
kin_all plan topic v (r ∷ rs) =
    let more : IsKin topic (take_view plan v topic r.0 r.1) (take_all plan (take_view plan v topic r.0 r.1) topic rs) = kin_all plan topic (take_view plan v topic r.0 r.1) rs in
    record {
      task = more.task;
      kept = more.kept;
      others = λ u e. more.others u e ∙ elsewhere v.inputs topic u (r.0 + 1) e;
    }

pub fetching_holds : FetchingHolds
fetching_holds setup journal w g last v topic limit net input some h moved = record {
  known = subst (λ t. has_task t setup.tasks ≡ true) (sym kin.task) h.known;
  active = fetching_stays_active setup journal w g last v topic limit net input some h.active;
  rests = λ clean. absurd (omega (arith, moved, h.kept topic, clean topic (subst (λ (t : TaskId). has_topic topic (setup.plan.inputs t.sub) ≡ true) (sym kin.task) input), here after.inputs topic next, kin.kept topic));
  kept = λ u. kept u (u == topic) refl;
  within = λ u there. within u (u == topic) refl there;
}
  where
    got : List (ℕ × Rec) × ℕ
    got = fetched (at setup journal) (part_of topic v.task) (v.inputs topic) limit

    next : ℕ
    next = got.1

    after : TaskView
    after = take_all setup.plan v topic got.0

    kin : IsKin topic v after
    kin = kin_all setup.plan topic v got.0

    bounds : FetchGoesOn (at setup journal) (part_of topic v.task) (v.inputs topic) next
    bounds = fetches_go_on (at setup journal) (part_of topic v.task) (v.inputs topic) limit (h.within topic input) some

    kept : (u : ℕ) (b : Bool) → (u == topic) ≡ b → after.kept u ≤ cond b next (after.inputs u)
    kept u true is = omega (arith, kin.kept u, h.kept u, ap v.inputs (eqb-true u topic is), bounds.later)
    kept u false is = omega (arith, kin.kept u, h.kept u, kin.others u is)

    within : (u : ℕ) (b : Bool) → (u == topic) ≡ b → has_topic u (setup.plan.inputs after.task.sub) ≡ true → cond b next (after.inputs u) ≤ end_of (at setup journal) (part_of u after.task)
    within u true is there = subst (λ (t : TaskId). next ≤ end_of (at setup journal) (part_of u t)) (sym kin.task)
        (subst (λ k. next ≤ end_of (at setup journal) (part_of k v.task)) (sym (eqb-true u topic is)) bounds.within)
    within u false is there = subst (λ (t : TaskId). after.inputs u ≤ end_of (at setup journal) (part_of u t)) (sym kin.task)
        (omega (arith, kin.others u is, h.within u (subst (λ (t : TaskId). has_topic u (setup.plan.inputs t.sub) ≡ true) kin.task there)))

pub restoring_holds : RestoringHolds
restoring_holds setup journal one two w g last r offsets net history seen free committed reached neat known follows = record {
  known = known;
  active = restored_is_active setup journal one two w g last r offsets net history seen free committed reached neat follows;
  rests = λ clean. follows;
  kept = λ topic. omega arith;
  within = λ topic there.
      let sound = (whole setup net journal early).sound.committed r.task topic in
      let rise = ends_rise setup journal (one ++ two) (part_of topic r.task) in
      subst (λ l. offsets topic ≤ end_of (at setup l) (part_of topic r.task)) (sym (append_assoc journal one two))
      (omega (arith, committed topic there, sound, stable-le ((at setup journal).partition (part_of topic r.task)), rise));
}
  where
    early : IsHistory setup journal
    early = history_front setup journal (journal ++ one ++ two) (one ++ two, append_assoc journal one two) history
