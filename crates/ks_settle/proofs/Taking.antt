-- A task that takes the records of a fetch, and passes over what comes after them.
use Rattle.std.proofs.Common.{◌≡◌, ℕ, ◌+◌, ◌<◌, ◌≤◌, ◌-◌, Bool, true, false, cond, List, [], ◌∷◌, ◌++◌, length, refl, sym, ap, subst, ◌∙◌, arith, append-nil}
use Rattle.std.specs.Prelude.{◌==◌}
use Rattle.std.proofs.lemmas.Bool.Decides.{Decides-eqb}
use Rattle.ks_record.specs.Records.{Record as Rec}
use Rattle.ks_record.specs.declared.record.PartId.{PartId}
use Rattle.ks_record.specs.declared.record.TaskId.{TaskId}
use Rattle.ks_history.specs.declared.journal.Entry.{Entry}
use Rattle.ks_history.specs.Partition.{stable, readable, read, read_next}
use Rattle.ks_history.specs.Machine.{TaskPlan, IsNetwork, part_of, has_topic}
use Rattle.ks_history.specs.State.{Setup, IsSetup, IsPart, has_task, with_number}
use Rattle.ks_history.proofs.Histories.{stable-le}
use Rattle.ks_history.specs.Reads.{fetched, end_of, MayFetch}
use Rattle.ks_history.specs.Follows.{TaskView}
use Rattle.ks_history.specs.History.{at, IsHistory}
use Rattle.ks_law_restore.specs.Views.{Stands, take_view, take_all, skip_view}
use Rattle.ks_law_restore.proofs.Fetching.{fetching_stands}
use Rattle.ks_task.specs.declared.task.Task.{Task}
use Rattle.ks_plan.specs.Drafts.{DraftView}
use Rattle.ks_task.specs.Tasks.{task_view, IsTaskOf}
use Rattle.ks_settle.specs.Fetches.{taken_to}
use Rattle.ks_settle.specs.Reading.{SendsOn, HasRead}
use Rattle.ks_settle.specs.Drained.{MayDrain, IsReader, IsFetched, IsReadOn}
use Rattle.ks_commit.specs.Alone.{IsIdle}
use Rattle.ks_commit.proofs.Slots.{is_stable}
use Rattle.ks_settle.proofs.Fetching.{Fetched, fetched_is}

here : {A : Type 0} (f : ℕ → A) (k : ℕ) (x : A) → with_number f k x k ≡ x
here f k x = ap (λ b. cond b x (f k)) ((Decides-eqb k k).1 refl)

elsewhere : {A : Type 0} (f : ℕ → A) (k u : ℕ) (x : A) → (u == k) ≡ false → with_number f k x u ≡ f u
elsewhere f k u x e = ap (λ b. cond b x (f u)) e

-- ---- what taking records leaves as it was
record IsKin (topic : ℕ) (v w : TaskView) : Type 0 where
  task : w.task ≡ v.task
  kept : (u : ℕ) → w.kept u ≡ v.kept u
  others : (u : ℕ) → (u == topic) ≡ false → w.inputs u ≡ v.inputs u
  made : (q : PartId) → q.topic ≤ topic → w.made q ≡ v.made q

kin_all : (plan : TaskPlan) (sends : SendsOn plan) (topic : ℕ) (v : TaskView) (recs : List (ℕ × Rec)) → IsKin topic v (take_all plan v topic recs)
kin_all plan sends topic v [] = record { task = refl; kept = λ u. refl; others = λ u e. refl; made = λ q h. refl }
kin_all plan sends topic v (r ∷ rs) =
    let new = take_view plan v topic r.0 r.1 in
    let more : IsKin topic new (take_all plan new topic rs) = kin_all plan sends topic new rs in
    record {
      task = more.task;
      kept = more.kept;
      others = λ u e. more.others u e ∙ elsewhere v.inputs topic u (r.0 + 1) e;
      made = λ q h. more.made q h ∙ ap (λ l. v.made q ++ l) (sends v.task v.stores (part_of topic v.task) r.1 q h) ∙ append-nil (v.made q);
    }

-- ---- one fetch
-- what a fetch says of where a task stands
pub record FetchSays (setup : Setup) (journal : List Entry) (topic : ℕ) (v : TaskView) (next : ℕ) : Type 0 where
  pub stops : next ≡ v.inputs topic → v.inputs topic ≡ end_of (at setup journal) (part_of topic v.task)
  pub later : v.inputs topic ≤ next

pub fetch_says : (setup : Setup) (journal : List Entry) (topic limit : ℕ) (v : TaskView) → Stands setup journal v → has_topic topic (setup.plan.inputs v.task.sub) ≡ true → 1 ≤ limit →
    stable ((at setup journal).partition (part_of topic v.task)) ≡ end_of (at setup journal) (part_of topic v.task) → FetchSays setup journal topic v (fetched (at setup journal) (part_of topic v.task) (v.inputs topic) limit).1
fetch_says setup journal topic limit v stands input some all =
    let slots = (at setup journal).partition (part_of topic v.task) in
    let below : v.inputs topic ≤ stable slots = stands.0.stable topic input in
    let f : Fetched (v.inputs topic) (taken_to (v.inputs topic) (read (v.inputs topic) limit slots)) (read_next (v.inputs topic) limit slots) (stable slots) (readable slots) = fetched_is (v.inputs topic) limit slots below some in
    record {
      stops = λ e. omega (arith, f.stops e, below, all);
      later = omega (arith, f.later, f.moved);
    }

pub fetched_on : (d : DraftView) (setup : Setup) (journal : List Entry) (topic limit : ℕ) (old new : Task) (recs : List (ℕ × Rec)) (next : ℕ) → IsNetwork setup.plan → SendsOn setup.plan → Stands setup journal (task_view old) →
    has_topic topic (setup.plan.inputs (task_view old).task.sub) ≡ true → 1 ≤ limit →
    stable ((at setup journal).partition (part_of topic (task_view old).task)) ≡ end_of (at setup journal) (part_of topic (task_view old).task) →
    recs ≡ (fetched (at setup journal) (part_of topic (task_view old).task) ((task_view old).inputs topic) limit).0 → next ≡ (fetched (at setup journal) (part_of topic (task_view old).task) ((task_view old).inputs topic) limit).1 →
    (next ≡ (task_view old).inputs topic → ⊥) → IsTaskOf d new → task_view new ≡ skip_view (take_all setup.plan (task_view old) topic recs) topic next → new.cache ≡ old.cache → IsFetched d setup journal topic true old new
fetched_on d setup journal topic limit old new recs next net sends stands input some all records goes differs of view same_cache =
    let v = task_view old in
    let w = skip_view (take_all setup.plan v topic recs) topic next in
    let kin : IsKin topic v (take_all setup.plan v topic recs) = kin_all setup.plan sends topic v recs in
    let says : FetchSays setup journal topic v (fetched (at setup journal) (part_of topic v.task) (v.inputs topic) limit).1 = fetch_says setup journal topic limit v stands input some all in
    let law = fetching_stands setup journal v topic limit net input some stands in
    let follows : Stands setup journal w = subst (λ rs. Stands setup journal (skip_view (take_all setup.plan v topic rs) topic next)) (sym records)
    (subst (λ n. Stands setup journal (skip_view (take_all setup.plan v topic (fetched (at setup journal) (part_of topic v.task) (v.inputs topic) limit).0) topic n)) (sym goes) law) in
    let read : HasRead setup journal topic v w = record {
      stands = follows;
      task = kin.task;
      kept = kin.kept;
      others = λ u e. elsewhere (take_all setup.plan v topic recs).inputs topic u next e ∙ kin.others u e;
      made = kin.made;
    } in
    record {
      of = of;
      read = subst (HasRead setup journal topic v) (sym view) read;
      stays = λ e. absurd (cc);
      ends = λ e. absurd (cc);
      moves = λ e.
          let position : (task_view new).inputs topic ≡ next = ap (λ (x : TaskView). x.inputs topic) view ∙ here (take_all setup.plan v topic recs).inputs topic next in
          omega (arith, position, says.later, goes, differs);
      cache = same_cache;
    }

-- a task that stands at the end
pub stopped : (d : DraftView) (setup : Setup) (journal : List Entry) (topic limit : ℕ) (t : Task) (next : ℕ) → IsTaskOf d t → Stands setup journal (task_view t) → has_topic topic (setup.plan.inputs (task_view t).task.sub) ≡ true → 1 ≤ limit →
    stable ((at setup journal).partition (part_of topic (task_view t).task)) ≡ end_of (at setup journal) (part_of topic (task_view t).task) →
    next ≡ (fetched (at setup journal) (part_of topic (task_view t).task) ((task_view t).inputs topic) limit).1 → next ≡ (task_view t).inputs topic → IsFetched d setup journal topic false t t
stopped d setup journal topic limit t next of stands input some all goes same =
    let says : FetchSays setup journal topic (task_view t) (fetched (at setup journal) (part_of topic (task_view t).task) ((task_view t).inputs topic) limit).1 = fetch_says setup journal topic limit (task_view t) stands input some all in
    record {
      of = of;
      read = record { stands = stands; task = refl; kept = λ u. refl; others = λ u e. refl; made = λ q h. refl };
      stays = λ e. refl;
      ends = λ e. says.stops (sym goes ∙ same);
      cache = refl;
      moves = λ e. absurd (cc);
    }

-- ---- all fetches
pub not_moved : (setup : Setup) (journal : List Entry) (topic : ℕ) (v : TaskView) → Stands setup journal v → HasRead setup journal topic v v
not_moved setup journal topic v stands = record { stands = stands; task = refl; kept = λ u. refl; others = λ u e. refl; made = λ q h. refl }

pub both_read : (setup : Setup) (journal : List Entry) (topic : ℕ) (v w x : TaskView) → HasRead setup journal topic v w → HasRead setup journal topic w x → HasRead setup journal topic v x
both_read setup journal topic v w x a b = record {
  stands = b.stands;
  task = b.task ∙ a.task;
  kept = λ u. b.kept u ∙ a.kept u;
  others = λ u e. b.others u e ∙ a.others u e;
  made = λ q h. b.made q h ∙ a.made q h;
}

-- how far the task has come, and that it is the old one where it hasn't moved
pub record Reading (d : DraftView) (setup : Setup) (journal : List Entry) (topic : ℕ) (moved : Bool) (old now : Task) : Type 0 where
  pub of : IsTaskOf d now
  pub read : HasRead setup journal topic (task_view old) (task_view now)
  pub stays : moved ≡ false → now ≡ old
  pub cache : now.cache ≡ old.cache

pub reading_on : (d : DraftView) (setup : Setup) (journal : List Entry) (topic : ℕ) (moved : Bool) (old now new : Task) → Reading d setup journal topic moved old now → IsFetched d setup journal topic true now new → Reading d setup journal topic true old new
reading_on d setup journal topic moved old now new r f = record {
  of = f.of;
  read = both_read setup journal topic (task_view old) (task_view now) (task_view new) r.read f.read;
  stays = λ e. absurd (cc);
  cache = f.cache ∙ r.cache;
}

pub read_on : (d : DraftView) (setup : Setup) (journal : List Entry) (topic : ℕ) (moved : Bool) (old now new : Task) → Reading d setup journal topic moved old now → IsFetched d setup journal topic false now new → IsReadOn d setup journal topic moved old new
read_on d setup journal topic moved old now new r f =
    let same : new ≡ now = f.stays refl in
    subst (IsReadOn d setup journal topic moved old) (sym same) (record { of = r.of; read = record { read = r.read; all = f.ends refl }; stays = r.stays; cache = r.cache })

-- ---- records one after another
taken_task : (plan : TaskPlan) (topic : ℕ) (v : TaskView) (recs : List (ℕ × Rec)) → (take_all plan v topic recs).task ≡ v.task
taken_task plan topic v [] = refl
taken_task plan topic v (r ∷ rs) = taken_task plan topic (take_view plan v topic r.0 r.1) rs

pub still_input : (numbers : ℕ → List ℕ) (plan : TaskPlan) (topic : ℕ) (v w : TaskView) (recs : List (ℕ × Rec)) → w ≡ take_all plan v topic recs → has_topic topic (numbers v.task.sub) ≡ true → has_topic topic (numbers w.task.sub) ≡ true
still_input numbers plan topic v w recs is h = ap (λ (t : TaskId). has_topic topic (numbers t.sub)) (ap (λ (x : TaskView). x.task) is ∙ taken_task plan topic v recs) ∙ h

-- ---- a fetch may be made
pub may_fetch : (d : DraftView) (setup : Setup) (journal : List Entry) (topic : ℕ) (t : Task) (id : TaskId) (from : ℕ) → IsSetup setup → IsReader d setup journal topic t → id ≡ (task_view t).task → from ≡ (task_view t).inputs topic →
    MayFetch setup (at setup journal) (part_of topic id) from 32
may_fetch d setup journal topic t id from made r is there = record {
  part = subst (λ u. IsPart setup (part_of topic u)) (sym is) (made.inputs (task_view t).task topic r.known r.input);
  within =
      let slots = (at setup journal).partition (part_of topic (task_view t).task) in
      let low : (task_view t).inputs topic ≤ stable slots = r.stands.0.stable topic r.input in
      subst (λ u. from ≤ length ((at setup journal).partition (part_of topic u))) (sym is) (omega (arith, there, low, stable-le slots));
  some = omega arith;
}

-- how far a task has to go
pub nearer : (d : DraftView) (setup : Setup) (journal : List Entry) (topic : ℕ) (now new : Task) → Stands setup journal (task_view new) → has_topic topic (setup.plan.inputs (task_view new).task.sub) ≡ true → IsFetched d setup journal topic true now new →
    end_of (at setup journal) (part_of topic (task_view new).task) - (task_view new).inputs topic < end_of (at setup journal) (part_of topic (task_view now).task) - (task_view now).inputs topic
nearer d setup journal topic now new stands input f =
    let slots = (at setup journal).partition (part_of topic (task_view new).task) in
    let low : (task_view new).inputs topic ≤ stable slots = stands.0.stable topic input in
    let same : end_of (at setup journal) (part_of topic (task_view now).task) ≡ end_of (at setup journal) (part_of topic (task_view new).task) = ap (λ u. end_of (at setup journal) (part_of topic u)) (sym f.read.task) in
    omega (arith, same, low, stable-le slots, f.moves refl)

pub still_reader : (d : DraftView) (setup : Setup) (journal : List Entry) (topic : ℕ) (moved : Bool) (old now : Task) → IsReader d setup journal topic old → Reading d setup journal topic moved old now → IsReader d setup journal topic now
still_reader d setup journal topic moved old now r x = record {
  of = x.of;
  stands = x.read.stands;
  known = subst (λ (t : TaskId). has_task t setup.tasks ≡ true) (sym x.read.task) r.known;
  input = subst (λ (t : TaskId). has_topic topic (setup.plan.inputs t.sub) ≡ true) (sym x.read.task) r.input;
}

pub not_yet : (d : DraftView) (setup : Setup) (journal : List Entry) (topic : ℕ) (t : Task) → IsReader d setup journal topic t → Reading d setup journal topic false t t
not_yet d setup journal topic t r = record { of = r.of; read = not_moved setup journal topic (task_view t) r.stands; stays = λ e. refl; cache = refl }

-- ---- what a fetch makes of a task
module _ (d : DraftView) (setup : Setup) (journal : List Entry) (topic : ℕ) (may : MayDrain setup) (hist : IsHistory setup journal) (idle : IsIdle (at setup journal)) where
  all_stable : (q : PartId) → stable ((at setup journal).partition q) ≡ end_of (at setup journal) q
  all_stable = is_stable setup journal may.network hist idle

  pub fetch_stops : (t : Task) (id : TaskId) (from next : ℕ) → IsReader d setup journal topic t → id ≡ (task_view t).task → from ≡ (task_view t).inputs topic →
      next ≡ (fetched (at setup journal) (part_of topic id) from 32).1 → next ≡ from → IsFetched d setup journal topic false t t
  fetch_stops t id from next r is there goes same =
      stopped d setup journal topic 32 t next r.of r.stands r.input (omega arith) (all_stable (part_of topic (task_view t).task))
      (goes ∙ ap (λ u. (fetched (at setup journal) (part_of topic u) from 32).1) is ∙ ap (λ f. (fetched (at setup journal) (part_of topic (task_view t).task) f 32).1) there) (same ∙ there)

  pub fetch_moves : (plan : TaskPlan) (old mid new : Task) (id : TaskId) (from next : ℕ) (recs slice : List (ℕ × Rec)) → IsReader d setup journal topic old → setup.plan ≡ plan → id ≡ (task_view old).task → from ≡ (task_view old).inputs topic →
      recs ≡ (fetched (at setup journal) (part_of topic id) from 32).0 → next ≡ (fetched (at setup journal) (part_of topic id) from 32).1 → (next ≡ from → ⊥) → slice ≡ recs →
      task_view mid ≡ take_all plan (task_view old) topic slice → IsTaskOf d new → task_view new ≡ skip_view (task_view mid) topic next → new.cache ≡ old.cache → IsFetched d setup journal topic true old new
  fetch_moves plan old mid new id from next recs slice r work is there records goes differs same took of skipped same_cache =
      fetched_on d setup journal topic 32 old new recs next may.network may.sends r.stands r.input (omega arith) (all_stable (part_of topic (task_view old).task))
      (records ∙ ap (λ u. (fetched (at setup journal) (part_of topic u) from 32).0) is ∙ ap (λ f. (fetched (at setup journal) (part_of topic (task_view old).task) f 32).0) there)
      (goes ∙ ap (λ u. (fetched (at setup journal) (part_of topic u) from 32).1) is ∙ ap (λ f. (fetched (at setup journal) (part_of topic (task_view old).task) f 32).1) there)
      (λ e. differs (e ∙ sym there)) of
      (skipped ∙ ap (λ w. skip_view w topic next) (took ∙ ap (λ q. take_all q (task_view old) topic slice) (sym work) ∙ ap (take_all setup.plan (task_view old) topic) same))
      same_cache

pub comes_nearer : (d : DraftView) (setup : Setup) (journal : List Entry) (topic : ℕ) (moved : Bool) (old now new : Task) → IsReader d setup journal topic old → Reading d setup journal topic moved old now → IsFetched d setup journal topic true now new →
    end_of (at setup journal) (part_of topic (task_view new).task) - (task_view new).inputs topic < end_of (at setup journal) (part_of topic (task_view now).task) - (task_view now).inputs topic
comes_nearer d setup journal topic moved old now new r x f =
    let all : Reading d setup journal topic true old new = reading_on d setup journal topic moved old now new x f in
    nearer d setup journal topic now new all.read.stands (still_reader d setup journal topic true old new r all).input f
