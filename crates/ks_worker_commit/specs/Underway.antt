-- A commit under way: what its loops carry, from the pass as it was when the commit began to the pass as it is now.
use Rattle.std.specs.Prelude.{◌≡◌, ◌≢◌, ◌≤◌, ◌+◌, ◌&&◌, if◌then◌else◌, ℕ, suc, true, false, Result, Ok, Err, Some, None, List, [], ◌∷◌, ◌++◌, length}
use Rattle.ks_record.specs.Records.{Record as Rec}
use Rattle.ks_record.specs.declared.record.PartId.{PartId}
use Rattle.ks_record.specs.declared.record.TaskId.{TaskId}
use Rattle.ks_record.specs.Parts.{same_part, same_task}
use Rattle.ks_record.specs.declared.assignment.Refused.{Refused}
use Rattle.ks_history.specs.declared.journal.Entry.{Entry}
use Rattle.ks_history.specs.declared.journal.Request.TheVariants.{Decide}
use Rattle.ks_history.specs.declared.journal.Reply.TheVariants.{Done, Refused as Refuse}
use Rattle.ks_history.specs.declared.transaction.Pending.{Pending}
use Rattle.ks_history.specs.Machine.{TaskPlan, IsNetwork}
use Rattle.ks_history.specs.State.{State, Setup, has_part, has_task, pending_of}
use Rattle.ks_history.specs.Follows.{TaskView}
use Rattle.ks_history.specs.Step.{pending_at}
use Rattle.ks_history.specs.History.{at, IsHistory}
use Rattle.ks_history.specs.Touched.{touched}
use Rattle.ks_law_restore.specs.Views.{WorkView, IsFrozen, are_topics_once}
use Rattle.ks_law_sharing.specs.Tasks.{IsActive, HasSeen}
use Rattle.ks_law_commit.specs.Accounts.{accepted_of}
use Rattle.ks_law_commit.specs.Building.{Contents}
use Rattle.ks_law_commit.specs.Committing.{commit_entry, open_end}
use Rattle.ks_law_commit.specs.Sending.{IsSending}
use Rattle.ks_commit.specs.Alone.{IsNumbered}
use Rattle.ks_commit.specs.Committed.{tasks_in}
use Rattle.ks_growing.specs.Passes.{PassView}
use Rattle.ks_shared.specs.declared.state.Frame.{Frame}
use Rattle.ks_shared.specs.Calls.{setup_in}
use Rattle.ks_shared.specs.declared.barred.Barred.{Barred}
use Rattle.ks_shared.specs.declared.barred.Barred.TheVariants.{Refused as Refusal, Touched}
use Rattle.ks_worker_commit.specs.declared.halt.Halt.{Halt}
use Rattle.ks_worker_commit.specs.declared.halt.Halt.TheVariants.{OutOfMemory, Cut, Barred as IsBarred}
use Rattle.ks_worker_commit.specs.Outcomes.{Requests, holds_commit, holds_fence, by_fence, WhyBarred}

-- the work of one of the worker's active tasks, since its last commit
pub record IsActiveWork (setup : Setup) (journal : List Entry) (w g last : ℕ) (f : WorkView) : Type 0 where
  pub view : TaskView
  pub active : IsActive setup journal w g last view
  pub frozen : IsFrozen setup.plan view f
  pub once : are_topics_once (setup.plan.inputs view.task.sub) ≡ true

abbrev pub AreActiveWorks : Setup → List Entry → ℕ → ℕ → ℕ → List WorkView → Type 0
AreActiveWorks setup journal w g last [] = Unit {0}
AreActiveWorks setup journal w g last (f ∷ fs) = IsActiveWork setup journal w g last f × AreActiveWorks setup journal w g last fs

-- what a worker of this epoch and generation, which remembers `last`, knows of its pass: its number's past, that nothing of it is
-- undecided while nobody else has used its number, and that these are works of its active tasks
pub record IsWorker {W : Type 0} (plan : W → TaskPlan) (pass : PassView Entry (Frame W)) (w e g last : ℕ) (fs : List WorkView) : Type 0 where
  pub network : IsNetwork (setup_in plan pass.frame).plan
  pub history : IsHistory (setup_in plan pass.frame) pass.seen
  pub seen : HasSeen (setup_in plan pass.frame) pass.seen w g last
  pub past : e ≤ ((at (setup_in plan pass.frame) pass.seen).producer w).epoch
  pub idle : touched w pass.seen ≡ last → ((at (setup_in plan pass.frame) pass.seen).producer w).undecided ≡ None
  pub works : AreActiveWorks (setup_in plan pass.frame) pass.seen w g last fs

-- ---- what a worker's producer remembers
-- the place of its last accepted request; how many records of its epoch it has sent to each partition; where those of its present
-- transaction end, by task and partition
pub record Memory : Type 0 where
  pub last : ℕ
  pub numbers : List (PartId × ℕ)
  pub ends : List (TaskId × PartId × ℕ)

abbrev pub memory : ℕ → List (PartId × ℕ) → List (TaskId × PartId × ℕ) → Memory
memory last numbers ends = record { last = last; numbers = numbers; ends = ends }

-- the last of these ends for a task and a partition
abbrev pub end_in : ℕ → TaskId → PartId → List (TaskId × PartId × ℕ) → ℕ
end_in old t q [] = old
end_in old t q (x ∷ xs) = end_in (if same_task t x.0 && same_part q x.1 then x.2 else old) t q xs

-- the ends, with that of these records, which begin at an offset
abbrev pub with_end : TaskId → PartId → ℕ → List Rec → List (TaskId × PartId × ℕ) → List (TaskId × PartId × ℕ)
with_end t p offset [] ends = ends
with_end t p offset (r ∷ rs) ends = ends ++ (t, p, offset + length (r ∷ rs)) ∷ []

abbrev pub end_of_records : List Rec → ℕ → ℕ → ℕ
end_of_records [] old end = old
end_of_records (r ∷ rs) old end = end

-- these are the ends of all records in the transaction
abbrev pub HasEnds : State → ℕ → ℕ → Contents → List (TaskId × PartId × ℕ) → Type 0
HasEnds s w e c ends = (t : TaskId) (q : PartId) (old : ℕ) → end_in old t q ends ≡ end_of_records (c.records t q) old (open_end s w e t q)

-- ---- a commit on its way
-- the commit of these works began at the pass `from`, and has put these contents into the worker's transaction since
pub record IsUnderway {W : Type 0} (plan : W → TaskPlan) (from now : PassView Entry (Frame W)) (w e g first : ℕ) (mem : Memory) (fs : List WorkView) (c : Contents) : Type 0 where
  pub worker : IsWorker plan from w e g first fs
  pub requests : Requests plan from now w
  pub undecided : holds_commit requests.own ≡ false
  pub unfenced : holds_fence requests.own ≡ false
  pub history : IsHistory (setup_in plan from.frame) now.seen
  pub seen : HasSeen (setup_in plan from.frame) now.seen w g mem.last
  -- if nobody else has used the number up to now, nobody had when the commit began
  pub back : touched w now.seen ≡ mem.last → touched w from.seen ≡ first
  pub sending : touched w from.seen ≡ first → IsSending (setup_in plan from.frame) from.seen requests.more w e (length requests.own) first mem.last c
  pub numbered : touched w from.seen ≡ first → IsNumbered (at (setup_in plan from.frame) now.seen) w e mem.numbers
  pub ended : touched w from.seen ≡ first → HasEnds (at (setup_in plan from.frame) now.seen) w e c mem.ends

-- a request of the commit, which was under way until then, wasn't done, and the producer remembers the same
pub record IsHalted {W : Type 0} (plan : W → TaskPlan) (from now : PassView Entry (Frame W)) (w e g first : ℕ) (mem : Memory) (b : Barred) : Type 0 where
  pub requests : Requests plan from now w
  pub undecided : holds_commit requests.own ≡ false
  pub fence : holds_fence requests.own ≡ by_fence b
  -- where somebody else uses the number up to a later moment, more of its requests are accepted than these
  pub used : (more : List Entry) → touched w from.seen ≡ first → touched w (now.seen ++ more) ≢ mem.last → suc (accepted_of w requests.own) ≤ accepted_of w (requests.more ++ more)
  pub why : touched w from.seen ≡ first → WhyBarred (setup_in plan from.frame) from.seen requests.more w e g (length requests.own) b
  pub mid : PassView Entry (Frame W)
  pub fs : List WorkView
  pub contents : Contents
  pub under : IsUnderway plan from mid w e g first mem fs contents
  pub others : List Entry
  pub seen : now.seen ≡ mid.seen ++ others
  pub history : IsHistory (setup_in plan from.frame) now.seen

-- requests that are done put this into the transaction of a commit that is under way
abbrev pub Puts : {W : Type 0} → (W → TaskPlan) → PassView Entry (Frame W) → PassView Entry (Frame W) → ℕ → ℕ → ℕ → Memory → Memory → (Contents → Contents) → Type 0
Puts {W} plan old new w e g mem next puts =
    (from : PassView Entry (Frame W)) (first : ℕ) (fs : List WorkView) (c : Contents) →
    IsUnderway plan from old w e g first mem fs c → IsUnderway plan from new w e g first next fs (puts c)

-- one of some requests wasn't done, which were ready
abbrev pub Halts : {W : Type 0} → (W → TaskPlan) → PassView Entry (Frame W) → PassView Entry (Frame W) → ℕ → ℕ → ℕ → Memory → Memory → (List WorkView → Contents → Type 0) → Barred → Type 0
Halts {W} plan old new w e g mem next Ready b =
    (from : PassView Entry (Frame W)) (first : ℕ) (fs : List WorkView) (c : Contents) → Ready fs c →
    IsUnderway plan from old w e g first mem fs c → IsHalted plan from new w e g first next b

abbrev pub Carries : {W A : Type 0} → (W → TaskPlan) → PassView Entry (Frame W) → PassView Entry (Frame W) → ℕ → ℕ → ℕ → Memory → Memory →
    (List WorkView → Contents → Type 0) → (Contents → Contents) → Result A Halt → Type 0
Carries plan old new w e g mem next Ready puts (Ok a) = Puts plan old new w e g mem next puts
Carries plan old new w e g mem next Ready puts (Err (IsBarred b)) = Halts plan old new w e g mem next Ready b
Carries plan old new w e g mem next Ready puts (Err OutOfMemory) = Unit {0}
Carries plan old new w e g mem next Ready puts (Err Cut) = Unit {0}

-- the first of some requests are done; with the rest of them the whole is put
pub record AreSent {W : Type 0} (plan : W → TaskPlan) (old new : PassView Entry (Frame W)) (w e g : ℕ) (mem next : Memory) (rest whole : Contents → Contents) : Type 0 where
  pub requests : Requests plan old new w
  pub puts : Contents → Contents
  pub so_far : Puts plan old new w e g mem next puts
  pub keeps : (c : Contents) (q : PartId) → c.parts q ≡ true → (puts c).parts q ≡ true
  pub left : (c : Contents) → rest (puts c) ≡ whole c

-- ---- when requests are ready
abbrev pub always : List WorkView → Contents → Type 0
always fs c = Unit {0}

abbrev pub has_added : PartId → List WorkView → Contents → Type 0
has_added p fs c = c.parts p ≡ true

abbrev pub have_added : List PartId → List WorkView → Contents → Type 0
have_added ps fs c = (p : PartId) → has_part p ps ≡ true → c.parts p ≡ true

abbrev pub has_work : TaskId → List WorkView → Contents → Type 0
has_work t fs c = has_task t (tasks_in fs) ≡ true

abbrev pub have_works : List WorkView → List WorkView → Contents → Type 0
have_works some fs c = (t : TaskId) → has_task t (tasks_in some) ≡ true → has_task t (tasks_in fs) ≡ true

abbrev pub has_pending_work : List WorkView → Contents → Type 0
has_pending_work fs c = (t : TaskId) × (p : Pending) × (c.pending t ≡ Some p)

-- ---- the decision
-- the commit was under way until `mid`; then, after entries of others, it was decided, while these offsets were pending
pub record HasDecided {W : Type 0} (plan : W → TaskPlan) (from mid now : PassView Entry (Frame W)) (w e g first : ℕ) (mem next : Memory) (fs : List WorkView) (c : Contents) : Type 0 where
  pub requests : Requests plan from now w
  pub under : IsUnderway plan from mid w e g first mem fs c
  pub others : List Entry
  pub is : requests.more ≡ under.requests.more ++ others ++ commit_entry w e ∷ []
  pub history : IsHistory (setup_in plan from.frame) now.seen
  pub place : touched w (from.seen ++ (under.requests.more ++ others)) ≡ mem.last
  pub last : next.last ≡ touched w now.seen
  pub numbers : next.numbers ≡ mem.numbers
  pub ends : next.ends ≡ mem.ends
  pub pending : touched w from.seen ≡ first → (t : TaskId) →
      pending_of t (pending_at ((at (setup_in plan from.frame) (from.seen ++ (under.requests.more ++ others))).producer w)) ≡ c.pending t

abbrev pub Decides : {W A : Type 0} → (W → TaskPlan) → PassView Entry (Frame W) → PassView Entry (Frame W) → ℕ → ℕ → ℕ → Memory → Memory → Result A Halt → Type 0
Decides {W} plan old new w e g mem next (Ok a) =
    (from : PassView Entry (Frame W)) (first : ℕ) (fs : List WorkView) (c : Contents) →
    IsUnderway plan from old w e g first mem fs c → HasDecided plan from old new w e g first mem next fs c
Decides plan old new w e g mem next (Err (IsBarred b)) = Halts plan old new w e g mem next has_pending_work b
Decides plan old new w e g mem next (Err OutOfMemory) = Unit {0}
Decides plan old new w e g mem next (Err Cut) = Unit {0}

-- ---- the abort
-- after entries of others the transaction was aborted, or the abort was refused
pub record HasAborted {W : Type 0} (plan : W → TaskPlan) (old new : PassView Entry (Frame W)) (w e : ℕ) (mem next : Memory) : Type 0 where
  pub others : List Entry
  pub seen : new.seen ≡ old.seen ++ (others ++ record { request = Decide w e false; reply = Done } ∷ [])
  pub place : touched w (old.seen ++ others) ≡ mem.last
  pub last : next.last ≡ touched w new.seen
  pub numbers : next.numbers ≡ mem.numbers
  pub ends : next.ends ≡ mem.ends

pub record HasNotAborted {W : Type 0} (plan : W → TaskPlan) (old new : PassView Entry (Frame W)) (w e : ℕ) (mem next : Memory) (r : Refused) : Type 0 where
  pub others : List Entry
  pub seen : new.seen ≡ old.seen ++ (others ++ record { request = Decide w e false; reply = Refuse r } ∷ [])
  pub same : next ≡ mem

-- the abort wasn't requested, since somebody else had used the number
pub record WasNotAsked {W : Type 0} (old new : PassView Entry (Frame W)) (w : ℕ) (mem : Memory) : Type 0 where
  pub made : new.made ≡ old.made
  pub place : touched w new.seen ≢ mem.last

abbrev pub Aborts : {W A : Type 0} → (W → TaskPlan) → PassView Entry (Frame W) → PassView Entry (Frame W) → ℕ → ℕ → Memory → Memory → Result A Halt → Type 0
Aborts plan old new w e mem next (Ok a) = HasAborted plan old new w e mem next
Aborts plan old new w e mem next (Err (IsBarred (Refusal r))) = HasNotAborted plan old new w e mem next r
Aborts plan old new w e mem next (Err (IsBarred (Touched place))) = WasNotAsked old new w mem
Aborts plan old new w e mem next (Err OutOfMemory) = Unit {0}
Aborts plan old new w e mem next (Err Cut) = Unit {0}
