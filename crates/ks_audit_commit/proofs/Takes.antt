-- A fetch of one record, and what it tells of what is ahead.
use Rattle.std.proofs.Common.{◌≡◌, ℕ, ◌<◌, ◌≤◌, Bool, true, false, cond, List, [], ◌∷◌, length, take, drop, get_or, max, refl, sym, ap, ap₂, subst, ◌∙◌, arith, inl, inr}
use Rattle.std.specs.Prelude.{◌==◌}
use Rattle.std.proofs.lemmas.Bool.{leb-true, leb-false}
use Rattle.ks_record.specs.Records.{Record as Rec}
use Rattle.ks_record.specs.declared.record.TaskId.{TaskId}
use Rattle.ks_plan.specs.Drafts.{DraftView}
use Rattle.ks_history.specs.declared.partition.Slot.{Slot}
use Rattle.ks_history.specs.declared.journal.Entry.{Entry}
use Rattle.ks_history.specs.Partition.{Logged, stable, readable, past_from, below, with_offsets, past_last}
use Rattle.ks_history.specs.Machine.{TaskPlan, IsNetwork, part_of, has_topic}
use Rattle.ks_history.specs.State.{Setup, IsSetup, has_task}
use Rattle.ks_history.specs.Follows.{TaskView}
use Rattle.ks_history.specs.History.{at}
use Rattle.ks_history.specs.Reads.{MayFetch, fetched}
use Rattle.ks_history.proofs.Histories.{stable-le}
use Rattle.ks_law_exactly_once.proofs.Slots.{Rising, below_none}
use Rattle.ks_law_restore.specs.Views.{Stands, IsNext, MaySkip, take_view, skip_view}
use Rattle.ks_law_restore.proofs.Offsets.{past_rises, readable_rises, readable_first, below_in}
use Rattle.ks_law_restore.proofs.Taking.{taking_stands, skipping_stands}
use Rattle.ks_law_audit.specs.Rested.{placed}
use Rattle.ks_task.specs.declared.task.Task.{Task}
use Rattle.ks_task.specs.Tasks.{task_view, IsTaskOf}
use Rattle.ks_audit_commit.specs.Taking.{IsTaker, HasMet, TakesOne, PassesTo, is_clear}
use Rattle.ks_law_audit.specs.Laws.{ahead}

-- ---- one record of a list
pub front_is : (l : List (ℕ × Rec)) (x : ℕ × Rec) → 1 ≤ length l → x ≡ get_or l 0 x → x ∷ drop 1 l ≡ l
front_is [] x some is = absurd (omega (arith, some))
front_is (y ∷ ys) x some is = ap (λ k. k ∷ ys) is

first_of : (l : List (ℕ × Rec)) (x : ℕ × Rec) (xs : List (ℕ × Rec)) → x ∷ xs ≡ take 1 l → (rest : List (ℕ × Rec)) × (l ≡ x ∷ rest)
first_of [] x xs e = absurd cc
first_of (y ∷ ys) x xs e = let g : x ≡ y = cc in (ys, ap (λ z. z ∷ ys) (sym g))

none_of : (l : List Logged) → [] ≡ take 1 (with_offsets l) → l ≡ []
none_of [] e = refl
none_of (y ∷ ys) e = absurd cc

logged_of : (l : List Logged) (x : ℕ × Rec) (rest : List (ℕ × Rec)) → with_offsets l ≡ x ∷ rest → (y : Logged) × (ys : List Logged) × (l ≡ y ∷ ys) × (y.offset ≡ x.0)
logged_of [] x rest e = absurd cc
logged_of (y ∷ ys) x rest e = (y, ys, refl, cc)

nothing_below : (low upto : ℕ) (slots : List Slot) (y : Logged) (ys : List Logged) → past_from low (readable slots) ≡ y ∷ ys → upto ≤ y.offset → below upto (past_from low (readable slots)) ≡ []
nothing_below low upto slots y ys is over =
    let rises : Rising low (y ∷ ys) = subst (Rising low) is (past_rises low 0 (readable slots) (readable_rises slots)) in
    ap (below upto) is ∙ below_none upto upto (y ∷ ys) (omega arith) (over, rises.1)

-- ---- a task at its input
module _ (d : DraftView) (setup : Setup) (journal : List Entry) (topic : ℕ) (task : Task) (made : IsSetup setup) (taker : IsTaker d setup journal topic task) where
  abbrev v : TaskView
  v = task_view task

  pub stable_here : (task_view task).inputs topic ≤ stable ((at setup journal).partition (part_of topic (task_view task).task))
  stable_here = taker.stands.0.stable topic taker.input

  pub may_fetch : MayFetch setup (at setup journal) (part_of topic (task_view task).task) ((task_view task).inputs topic) 1
  may_fetch = record {
    part = made.inputs (task_view task).task topic taker.known taker.input;
    within = omega (arith, stable_here, stable-le ((at setup journal).partition (part_of topic (task_view task).task)));
    some = omega arith;
  }

  -- the same, of the number of a task and a position that were read from it
  pub fetch_may : (t : TaskId) (n : ℕ) → t ≡ (task_view task).task → n ≡ (task_view task).inputs topic → MayFetch setup (at setup journal) (part_of topic t) n 1
  fetch_may t n same here = subst (λ k. MayFetch setup (at setup journal) (part_of topic t) k 1) (sym here) (subst (λ (u : TaskId). MayFetch setup (at setup journal) (part_of topic u) ((task_view task).inputs topic) 1) (sym same) may_fetch)

  pub fetched_is : (t : TaskId) (n : ℕ) → t ≡ (task_view task).task → n ≡ (task_view task).inputs topic → fetched (at setup journal) (part_of topic t) n 1 ≡ fetched (at setup journal) (part_of topic (task_view task).task) ((task_view task).inputs topic) 1
  fetched_is t n same here = ap₂ (λ (u : TaskId) k. fetched (at setup journal) (part_of topic u) k 1) same here

  pub takes : IsNetwork setup.plan → (upto : ℕ) (x : ℕ × Rec) (xs : List (ℕ × Rec)) (new : Task) → x ∷ xs ≡ (fetched (at setup journal) (part_of topic (task_view task).task) ((task_view task).inputs topic) 1).0 → x.0 < upto →
      IsTaskOf d new → task_view new ≡ take_view setup.plan (task_view task) topic x.0 x.1 → TakesOne d setup journal topic upto true task new
  takes net upto x xs new is small of view =
      let first = first_of (with_offsets (ahead (at setup journal) (task_view task) topic)) x xs is in
      let next : IsNext setup (at setup journal) (placed (at setup journal) (task_view task)) topic x.0 x.1 = record { input = taker.input; rest = first.0; first = first.1 } in
      let stands : Stands setup journal (placed (at setup journal) (take_view setup.plan (task_view task) topic x.0 x.1)) = taking_stands setup journal (placed (at setup journal) (task_view task)) topic x.0 x.1 net next taker.stands in
      record {
        taker = record {
          of = of;
          known = subst (λ (u : TaskView). has_task u.task setup.tasks ≡ true) (sym view) taker.known;
          input = subst (λ (u : TaskView). has_topic topic (setup.plan.inputs u.task.sub) ≡ true) (sym view) taker.input;
          stands = subst (λ (u : TaskView). Stands setup journal (placed (at setup journal) u)) (sym view) stands;
        };
        yes = λ _. (x, small, view);
        no = λ e. absurd cc;
      }

  pub takes_none : (upto : ℕ) (l : List (ℕ × Rec)) → l ≡ (fetched (at setup journal) (part_of topic (task_view task).task) ((task_view task).inputs topic) 1).0 → ((x : ℕ × Rec) (xs : List (ℕ × Rec)) → l ≡ x ∷ xs → upto ≤ x.0) →
      TakesOne d setup journal topic upto false task task
  takes_none upto [] is over = record { taker = taker; yes = λ e. absurd cc; no = λ _. (refl, ap (below upto) (none_of (ahead (at setup journal) (task_view task) topic) is)) }
  takes_none upto (x ∷ xs) is over =
      let first = first_of (with_offsets (ahead (at setup journal) (task_view task) topic)) x xs is in
      let it = logged_of (ahead (at setup journal) (task_view task) topic) x first.0 first.1 in
      let high : upto ≤ it.0.offset = omega (arith, over x xs refl, it.3) in
      record {
        taker = taker;
        yes = λ e. absurd cc;
        no = λ _. (refl, nothing_below ((task_view task).inputs topic) upto ((at setup journal).partition (part_of topic (task_view task).task)) it.0 it.1 it.2 high);
      }

  -- the record that a fetch gave first, if it was taken, and if it wasn't
  pub takes_met : IsNetwork setup.plan → (plan : TaskPlan) → setup.plan ≡ plan → (upto : ℕ) (x : ℕ × Rec) (xs : List (ℕ × Rec)) (took : Bool) (new : Task) → x ∷ xs ≡ (fetched (at setup journal) (part_of topic (task_view task).task) ((task_view task).inputs topic) 1).0 →
      HasMet d plan topic upto x took task new → TakesOne d setup journal topic upto took task new
  takes_met net plan work upto x xs true new is met =
      let took = met.yes refl in
      takes net upto x xs new is took.0 took.1 (took.2 ∙ ap (λ (k : TaskPlan). take_view k (task_view task) topic x.0 x.1) (sym work))
  takes_met net plan work upto x xs false new is met =
      let left = met.no refl in
      subst (λ (k : Task). TakesOne d setup journal topic upto false task k) (sym left.1) (takes_none upto (x ∷ xs) is (λ y ys e. let g : x ≡ y = cc in subst (λ (k : ℕ × Rec). upto ≤ k.0) g left.0))

  -- passing on
  max_stable : (next upto : ℕ) → next ≡ (fetched (at setup journal) (part_of topic (task_view task).task) ((task_view task).inputs topic) 1).1 → ahead (at setup journal) (task_view task) topic ≡ [] →
      next ≡ stable ((at setup journal).partition (part_of topic (task_view task).task))
  max_stable next upto is none =
      let slots : List Slot = (at setup journal).partition (part_of topic (task_view task).task) in
      let low : ℕ = (task_view task).inputs topic in
      let high : max low (stable slots) ≡ stable slots = omega (arith, stable_here) in
      is ∙ ap (λ (l : List Logged). cond (length (take 1 (with_offsets l)) == 1) (past_last (take 1 (with_offsets l))) (max low (stable slots))) none ∙ high

  pub passes : IsNetwork setup.plan → (upto next : ℕ) (l : List (ℕ × Rec)) (new : Task) → l ≡ (fetched (at setup journal) (part_of topic (task_view task).task) ((task_view task).inputs topic) 1).0 →
      next ≡ (fetched (at setup journal) (part_of topic (task_view task).task) ((task_view task).inputs topic) 1).1 → (task_view task).inputs topic ≤ upto → is_clear l next upto ≡ true →
      IsTaskOf d new → task_view new ≡ skip_view (task_view task) topic upto → PassesTo d setup journal topic upto true task new
  passes net upto next l new recs is later clear of view = record {
    taker = record {
      of = of;
      known = subst (λ (u : TaskView). has_task u.task setup.tasks ≡ true) (sym view) taker.known;
      input = subst (λ (u : TaskView). has_topic topic (setup.plan.inputs u.task.sub) ≡ true) (sym view) taker.input;
      stands = subst (λ (u : TaskView). Stands setup journal (placed (at setup journal) u)) (sym view)
          (skipping_stands setup journal (placed (at setup journal) (task_view task)) topic upto net (by l recs clear) taker.stands);
    };
    yes = λ _. view;
    no = λ e. absurd cc;
  }
    where
      slots : List Slot
      slots = (at setup journal).partition (part_of topic (task_view task).task)

      by : (l : List (ℕ × Rec)) → l ≡ (fetched (at setup journal) (part_of topic (task_view task).task) ((task_view task).inputs topic) 1).0 → is_clear l next upto ≡ true →
          MaySkip setup (at setup journal) (placed (at setup journal) (task_view task)) topic upto
      by [] e c =
          let none = none_of (ahead (at setup journal) (task_view task) topic) e in
          record {
            input = taker.input;
            later = later;
            stable = omega (arith, leb-true upto next c, max_stable next upto is none);
            nothing = ap (below upto) none;
          }
      by (x ∷ xs) e c =
          let first = first_of (with_offsets (ahead (at setup journal) (task_view task) topic)) x xs e in
          let it = logged_of (ahead (at setup journal) (task_view task) topic) x first.0 first.1 in
          let high : upto ≤ it.0.offset = omega (arith, leb-true upto x.0 c, it.3) in
          record {
            input = taker.input;
            later = later;
            stable = omega (arith, high, readable_first ((task_view task).inputs topic) slots it.0 it.1 it.2);
            nothing = nothing_below ((task_view task).inputs topic) upto slots it.0 it.1 it.2 high;
          }

  pub passes_not : (upto next : ℕ) (l : List (ℕ × Rec)) → l ≡ (fetched (at setup journal) (part_of topic (task_view task).task) ((task_view task).inputs topic) 1).0 →
      next ≡ (fetched (at setup journal) (part_of topic (task_view task).task) ((task_view task).inputs topic) 1).1 → is_clear l next upto ≡ false → PassesTo d setup journal topic upto false task task
  passes_not upto next [] recs is clear =
      let none = none_of (ahead (at setup journal) (task_view task) topic) recs in
      record { taker = taker; yes = λ e. absurd cc; no = λ _. (refl, inr (omega (arith, leb-false upto next clear, max_stable next upto is none))) }
  passes_not upto next (x ∷ xs) recs is clear =
      let first = first_of (with_offsets (ahead (at setup journal) (task_view task) topic)) x xs recs in
      let it = logged_of (ahead (at setup journal) (task_view task) topic) x first.0 first.1 in
      let low : it.0.offset < upto = omega (arith, leb-false upto x.0 clear, it.3) in
      record { taker = taker; yes = λ e. absurd cc; no = λ _. (refl, inl (λ none. filled it.0 it.1 upto (sym (below_in upto it.0 it.1 low) ∙ sym (ap (below upto) it.2) ∙ none))) }
    where
      filled : (y : Logged) (ys : List Logged) (high : ℕ) → y ∷ below high ys ≡ [] → ⊥
      filled y ys high e = absurd cc
