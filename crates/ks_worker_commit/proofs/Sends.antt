-- All requests before the decision, one loop after another.
use Rattle.std.proofs.Common.{◌≡◌, ◌⊎◌, inr, ℕ, true, List, Result, Ok, Err, subst}
use Rattle.ks_record.specs.declared.record.PartId.{PartId}
use Rattle.ks_history.specs.Machine.{TaskPlan}
use Rattle.ks_history.specs.State.{has_part}
use Rattle.ks_history.specs.declared.journal.Entry.{Entry}
use Rattle.ks_law_restore.specs.Views.{WorkView}
use Rattle.ks_law_commit.specs.Building.{Contents}
use Rattle.ks_growing.specs.Passes.{PassView}
use Rattle.ks_shared.specs.declared.state.Frame.{Frame}
use Rattle.ks_worker_commit.specs.declared.halt.Halt.{Halt}
use Rattle.ks_worker_commit.specs.declared.halt.Halt.TheVariants.{OutOfMemory, Cut, Barred as IsBarred}
use Rattle.ks_worker_commit.specs.Outputs.{add_all, put_all, send_all, sends_of}
use Rattle.ks_worker_commit.specs.Underway.{Memory, IsUnderway, Puts, Halts, Carries, always, have_added, have_works}
use Rattle.ks_worker_commit.proofs.Filling.{added_parts}

module _ {W A : Type 0} (plan : W → TaskPlan) (old new : PassView Entry (Frame W)) (w e g : ℕ) (mem next : Memory) where
  pub puts_of : (Ready : List WorkView → Contents → Type 0) (puts : Contents → Contents) (r : Result A Halt) (a : A) → r ≡ Ok a → Carries plan old new w e g mem next Ready puts r → Puts plan old new w e g mem next puts
  puts_of Ready puts r a is c = subst (λ x. Carries plan old new w e g mem next Ready puts x) is c

-- what comes before some requests is done
module _ {W A : Type 0} (plan : W → TaskPlan) (old mid new : PassView Entry (Frame W)) (w e g : ℕ) (mem between next : Memory) (first then : Contents → Contents) (done : Puts plan old mid w e g mem between first)
    (Ready Before : List WorkView → Contents → Type 0) (ready : (fs : List WorkView) (c : Contents) → Before fs c → Ready fs (first c)) where
  pub then_carries : (r : Result A Halt) → Carries plan mid new w e g between next Ready then r → Carries plan old new w e g mem next Before (λ c. then (first c)) r
  then_carries (Ok a) call = λ from start fs c u. call from start fs (first c) (done from start fs c u)
  then_carries (Err OutOfMemory) call = tt
  then_carries (Err Cut) call = tt
  then_carries (Err (IsBarred b)) call = λ from start fs c before u. call from start fs (first c) (ready fs c before) (done from start fs c u)

-- an error says nothing of what was to be put
module _ {W : Type 0} (A B : Type 0) (plan : W → TaskPlan) (old new : PassView Entry (Frame W)) (w e g : ℕ) (mem next : Memory) (Ready Before : List WorkView → Contents → Type 0) (puts whole : Contents → Contents)
    (ready : (fs : List WorkView) (c : Contents) → Before fs c → Ready fs c) where
  err_as : (h : Halt) → Carries {A = A} plan old new w e g mem next Ready puts (Err h) → Carries {A = B} plan old new w e g mem next Before whole (Err h)
  err_as OutOfMemory call = tt
  err_as Cut call = tt
  err_as (IsBarred b) call = λ from start fs c before u. call from start fs c (ready fs c before) u

  pub errs : (r : Result A Halt) (h : Halt) → r ≡ Err h → Carries plan old new w e g mem next Ready puts r → Carries {A = B} plan old new w e g mem next Before whole (Err h)
  errs r h is call = err_as h (subst (λ x. Carries plan old new w e g mem next Ready puts x) is call)

-- the partitions are in it once they are added
pub added_ready : (ps : List PartId) (fs : List WorkView) (c : Contents) → have_added ps fs (add_all ps c)
added_ready ps fs c p has = added_parts ps c p (inr has)

pub puts_both : {W : Type 0} (plan : W → TaskPlan) (old mid new : PassView Entry (Frame W)) (w e g : ℕ) (mem between next : Memory) (first then : Contents → Contents) → Puts plan old mid w e g mem between first → Puts plan mid new w e g between next then →
    Puts plan old new w e g mem next (λ c. then (first c))
puts_both plan old mid new w e g mem between next first then one two from start fs c u = two from start fs (first c) (one from start fs c u)
