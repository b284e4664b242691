-- A task reads what one fetch gives.
use Rattle.std.proofs.Common.{◌≡◌, ◌≢◌, ℕ, ◌+◌, ◌<◌, ◌≤◌, true, false, cond, List, [], ◌∷◌, ◌++◌, refl, sym, ap, ap₂, subst, ◌∙◌, arith}
use Rattle.std.specs.Prelude.{◌==◌}
use Rattle.ks_record.specs.Records.{Record as Rec}
use Rattle.ks_record.specs.declared.record.PartId.{PartId}
use Rattle.ks_record.specs.declared.record.TaskId.{TaskId}
use Rattle.ks_plan.specs.Drafts.{DraftView}
use Rattle.ks_plan.specs.Plan.{plan_of}
use Rattle.ks_plan.specs.Infos.{input_numbers}
use Rattle.ks_history.specs.declared.journal.Entry.{Entry}
use Rattle.ks_history.specs.Machine.{TaskPlan, IsNetwork, has_topic, part_of}
use Rattle.ks_history.specs.State.{Setup, IsSetup, IsPart, has_task, with_number}
use Rattle.ks_history.specs.Reads.{MayFetch, fetched}
use Rattle.ks_history.specs.Follows.{TaskView}
use Rattle.ks_history.specs.History.{at}
use Rattle.ks_law_restore.specs.Views.{take_view, take_all, skip_view, SendsInside}
use Rattle.ks_law_commit.specs.Bounds.{stable_of, FetchGoesOn}
use Rattle.ks_law_commit.specs.Held.{IsHeld}
use Rattle.ks_law_commit.specs.Moves.{HasRead}
use Rattle.ks_law_commit.proofs.Bounds.{fetches_go_on, stable_rises}
use Rattle.ks_law_commit.proofs.Held.{held_stays, fetching_holds}
use Rattle.ks_law_commit.proofs.Moving.{reading_moves}
use Rattle.ks_growing.specs.Passes.{PassView}
use Rattle.ks_shared.specs.declared.state.Frame.{Frame}
use Rattle.ks_shared.specs.Calls.{setup_in}
use Rattle.ks_worker_client.specs.Calls.{Later, state_seen}
use Rattle.ks_worker_client.proofs.Moments.{same_frame}
use Rattle.ks_task.specs.declared.task.Task.{Task}
use Rattle.ks_task.specs.Tasks.{task_view, IsTaskOf}
use Rattle.ks_worker_client.specs.declared.member.Member.{Member}
use Rattle.ks_worker_client.specs.Members.{MemberHasSeen}
use Rattle.ks_worker_state.specs.Tasks.{IsHeldTask, IsReadOnce, MakesInside}
use Rattle.ks_worker_state.specs.Topology.{RunsTopology}

-- ---- the records of a fetch, one after another
-- taking leaves the task what it is
pub takes_on : (plan : TaskPlan) (v : TaskView) (topic : ℕ) (rs : List (ℕ × Rec)) → (take_all plan v topic rs).task ≡ v.task
takes_on plan v topic [] = refl
takes_on plan v topic (r ∷ rs) = takes_on plan (take_view plan v topic r.0 r.1) topic rs

pub still_input : (inputs : ℕ → List ℕ) (plan : TaskPlan) (topic : ℕ) (v new : TaskView) (rs : List (ℕ × Rec)) → new ≡ take_all plan v topic rs → has_topic topic (inputs v.task.sub) ≡ true → has_topic topic (inputs new.task.sub) ≡ true
still_input inputs plan topic v new rs is h = subst (λ (t : TaskId). has_topic topic (inputs t.sub) ≡ true) (sym (ap (λ (w : TaskView). w.task) is ∙ takes_on plan v topic rs)) h

-- it moves no other input
other_number : (f : ℕ → ℕ) (topic n u : ℕ) → (u == topic) ≡ false → with_number f topic n u ≡ f u
other_number f topic n u e = ap (λ b. cond b n (f u)) e

others_on : (plan : TaskPlan) (v : TaskView) (topic : ℕ) (rs : List (ℕ × Rec)) (u : ℕ) → (u == topic) ≡ false → (take_all plan v topic rs).inputs u ≡ v.inputs u
others_on plan v topic [] u e = refl
others_on plan v topic (r ∷ rs) u e = others_on plan (take_view plan v topic r.0 r.1) topic rs u e ∙ other_number v.inputs topic (r.0 + 1) u e

others_stay : (plan : TaskPlan) (v : TaskView) (topic next : ℕ) (rs : List (ℕ × Rec)) (u : ℕ) → (u == topic) ≡ false → (skip_view (take_all plan v topic rs) topic next).inputs u ≡ v.inputs u
others_stay plan v topic next rs u e = other_number (take_all plan v topic rs).inputs topic next u e ∙ others_on plan v topic rs u e

-- what it makes of its inputs' records goes where all tasks send
pub takes_inside : (setup : Setup) (topic : ℕ) (rs : List (ℕ × Rec)) (v : TaskView) → SendsInside setup → has_task v.task setup.tasks ≡ true → has_topic topic (setup.plan.inputs v.task.sub) ≡ true → MakesInside setup v →
    MakesInside setup (take_all setup.plan v topic rs)
takes_inside setup topic [] v sends known input inside = inside
takes_inside setup topic (r ∷ rs) v sends known input inside = takes_inside setup topic rs (take_view setup.plan v topic r.0 r.1) sends known input (λ q some. by q some (v.made q) refl)
  where
    filled : (x : Rec) (xs : List Rec) → x ∷ xs ≡ [] → ⊥
    filled x xs e = absurd cc

    by : (q : PartId) → (take_view setup.plan v topic r.0 r.1).made q ≢ [] → (xs : List Rec) → v.made q ≡ xs → IsPart setup q
    by q some [] none = sends v.task v.stores topic r.1 q known input (λ e. some (ap₂ (λ a b. a ++ b) none e))
    by q some (x ∷ xs) is = inside q (λ e. filled x xs (sym is ∙ e))

-- ---- a fetch may be made
pub may_read : (setup : Setup) (journal : List Entry) (w g last : ℕ) (v : TaskView) (topic part from : ℕ) → IsSetup setup → IsHeld setup journal w g last v → has_topic topic (setup.plan.inputs v.task.sub) ≡ true → part ≡ v.task.part → from ≡ v.inputs topic →
    MayFetch setup (at setup journal) (record { topic = topic; part = part }) from 32
may_read setup journal w g last v topic part from made h input is at_it =
    let may : MayFetch setup (at setup journal) (part_of topic v.task) (v.inputs topic) 32 = record {
      part = made.inputs v.task topic h.known input;
      within = h.within topic input;
      some = omega arith;
    } in
    subst (λ n. MayFetch setup (at setup journal) (record { topic = topic; part = part }) n 32) (sym at_it)
    (subst (λ n. MayFetch setup (at setup journal) (record { topic = topic; part = n }) (v.inputs topic) 32) (sym is) may)

-- ---- what the fetch gave, and what the task made of it
module _ {W : Type 0} (plan : W → TaskPlan) (old new : PassView Entry (Frame W)) (l : Later plan old new) (d : DraftView) (m : Member) (last topic : ℕ) (task : Task) where
  module _ (net : IsNetwork (setup_in plan old.frame).plan) (past : MemberHasSeen (setup_in plan old.frame) old.seen m last) (held : IsHeldTask d (setup_in plan old.frame) old.seen m last task) where
    pub held_later : IsHeldTask d (setup_in plan old.frame) new.seen m last task
    held_later = subst (λ j. IsHeldTask d (setup_in plan old.frame) j m last task) (sym l.seen)
        (record {
          of = held.of;
          held = held_stays (setup_in plan old.frame) old.seen l.more m.number m.generation last (task_view task) net l.history past held.held;
          inside = held.inside;
          cache = held.cache;
        })

    module _ (part from next : ℕ) (recs : List (ℕ × Rec)) (input : has_topic topic ((setup_in plan old.frame).plan.inputs (task_view task).task.sub) ≡ true) (is : part ≡ (task_view task).task.part) (at_it : from ≡ (task_view task).inputs topic)
        (records : recs ≡ (fetched (state_seen plan new) (record { topic = topic; part = part }) from 32).0) (goes : next ≡ (fetched (state_seen plan new) (record { topic = topic; part = part }) from 32).1) where
      gave : (recs, next) ≡ fetched (at (setup_in plan old.frame) new.seen) (part_of topic (task_view task).task) ((task_view task).inputs topic) 32
      gave = (λ i. (records i, goes i)) ∙ ap (λ f. fetched (at (setup_in plan f) new.seen) (record { topic = topic; part = part }) from 32) (same_frame plan old new l)
          ∙ ap₂ (λ (p n : ℕ). fetched (at (setup_in plan old.frame) new.seen) (record { topic = topic; part = p }) n 32) is at_it

      goes_on : FetchGoesOn (at (setup_in plan old.frame) new.seen) (part_of topic (task_view task).task) ((task_view task).inputs topic) next
      goes_on = subst (FetchGoesOn (at (setup_in plan old.frame) new.seen) (part_of topic (task_view task).task) ((task_view task).inputs topic)) (sym (ap (λ (g : List (ℕ × Rec) × ℕ). g.1) gave))
          (fetches_go_on (at (setup_in plan old.frame) new.seen) (part_of topic (task_view task).task) ((task_view task).inputs topic) 32 (held_later.held.within topic input) (omega arith))

      -- it stands where it stood, and nothing stable is left
      pub read_stops : next ≡ from → IsReadOnce (setup_in plan old.frame) old.seen topic false task task
      read_stops same = record {
        read = record { task = refl; kept = λ u. refl; position = λ u. refl; later = λ u. omega arith };
        others = λ u e. refl;
        moves = λ e. absurd cc;
        stops = λ e.
            let rise = stable_rises (setup_in plan old.frame) old.seen l.more (part_of topic (task_view task).task) net l.history in
            let left = goes_on.stops (same ∙ at_it) in
            omega (arith, left, subst (λ j. stable_of (at (setup_in plan old.frame) old.seen) (part_of topic (task_view task).task) ≤ stable_of (at (setup_in plan old.frame) j) (part_of topic (task_view task).task)) (sym l.seen) rise);
      }

      module _ (after : Task) (of : IsTaskOf d after) (same_cache : after.cache ≡ task.cache) (differs : next ≡ from → ⊥) (view : task_view after ≡ skip_view (take_all (setup_in plan old.frame).plan (task_view task) topic recs) topic next) where
        more : (task_view task).inputs topic < (fetched (at (setup_in plan old.frame) new.seen) (part_of topic (task_view task).task) ((task_view task).inputs topic) 32).1
        more = subst (λ n. (task_view task).inputs topic < n) (ap (λ (g : List (ℕ × Rec) × ℕ). g.1) gave) (omega (arith, goes_on.later, at_it, differs))

        seen_view : task_view after ≡ skip_view (take_all (setup_in plan old.frame).plan (task_view task) topic (fetched (at (setup_in plan old.frame) new.seen) (part_of topic (task_view task).task) ((task_view task).inputs topic) 32).0) topic (fetched (at (setup_in plan old.frame) new.seen) (part_of topic (task_view task).task) ((task_view task).inputs topic) 32).1
        seen_view = view ∙ ap (λ (g : List (ℕ × Rec) × ℕ). skip_view (take_all (setup_in plan old.frame).plan (task_view task) topic g.0) topic g.1) gave

        pub held_read : IsHeldTask d (setup_in plan old.frame) new.seen m last after
        held_read = record {
          of = of;
          held = subst (IsHeld (setup_in plan old.frame) new.seen m.number m.generation last) (sym seen_view)
              (fetching_holds (setup_in plan old.frame) new.seen m.number m.generation last (task_view task) topic 32 net input (omega arith) held_later.held more);
          inside = λ sends. subst (MakesInside (setup_in plan old.frame)) (sym seen_view)
              (takes_inside (setup_in plan old.frame) topic (fetched (at (setup_in plan old.frame) new.seen) (part_of topic (task_view task).task) ((task_view task).inputs topic) 32).0 (task_view task) sends held.held.known input (held.inside sends));
          cache = same_cache ∙ held.cache;
        }

        pub read_moves : IsReadOnce (setup_in plan old.frame) old.seen topic true task after
        read_moves =
            let both = reading_moves (setup_in plan old.frame) new.seen (task_view task) topic 32 more in
            record {
              read = subst (HasRead topic (task_view task)) (sym seen_view) both.0;
              others = λ u e. ap (λ (v : TaskView). v.inputs u) view ∙ others_stay (setup_in plan old.frame).plan (task_view task) topic next recs u e;
              moves = λ e. subst (λ (v : TaskView). (task_view task).inputs topic < v.inputs topic) (sym seen_view) both.1;
              stops = λ e. absurd cc;
            }

-- ---- over the topology's own words
pub own_input : (hash : List ℕ → ℕ) (d : DraftView) (setup : Setup) (topic sub : ℕ) → RunsTopology hash d setup → has_topic topic (input_numbers (plan_of d) sub) ≡ true → has_topic topic (setup.plan.inputs sub) ≡ true
own_input hash d setup topic sub runs h = subst (λ (s : Setup). has_topic topic (s.plan.inputs sub) ≡ true) (sym runs.setup_is) h

pub skipped : (plan work : TaskPlan) → plan ≡ work → (v mid new : TaskView) (topic next : ℕ) (recs sliced : List (ℕ × Rec)) → mid ≡ take_all work v topic sliced → sliced ≡ recs → new ≡ skip_view mid topic next →
    new ≡ skip_view (take_all plan v topic recs) topic next
skipped plan work same v mid new topic next recs sliced took is skips =
    skips ∙ ap (λ w. skip_view w topic next) (took ∙ ap (λ rs. take_all work v topic rs) is ∙ ap (λ p. take_all p v topic recs) (sym same))
