-- The assignment that a worker offers its generation.
use Rattle.std.proofs.Common.{◌≡◌, ◌≢◌, ℕ, Bool, true, false, List, [], ◌++◌, Option, Some, None, Result, Ok, Err, refl, sym, ap, subst, ◌∙◌, append-nil}
use Rattle.std.specs.Prelude.{IfOk, IfSome, is_some}
use Rattle.ks_record.specs.declared.assignment.Refused.{Refused}
use Rattle.ks_record.specs.declared.assignment.Assignment.{Assignment}
use Rattle.ks_record.specs.declared.record.TaskId.{TaskId}
use Rattle.ks_plan.specs.Drafts.{DraftView}
use Rattle.ks_plan.specs.Infos.{changelog_numbers}
use Rattle.ks_plan.specs.Layout.{tasks}
use Rattle.ks_plan.specs.Plan.{plan_of}
use Rattle.ks_history.specs.declared.journal.Entry.{Entry}
use Rattle.ks_history.specs.declared.journal.Status.{Status}
use Rattle.ks_history.specs.declared.journal.Reply.{Reply}
use Rattle.ks_history.specs.declared.journal.Reply.TheVariants.{Truth}
use Rattle.ks_history.specs.declared.journal.Request.TheVariants.{Assign}
use Rattle.ks_history.specs.History.{IsHistory}
use Rattle.ks_cluster.specs.Replies.{truth_or}
use Rattle.ks_history.specs.Machine.{TaskPlan}
use Rattle.ks_history.specs.Reads.{status}
use Rattle.ks_history.specs.State.{Setup}
use Rattle.ks_cluster.specs.Placed.{PlacementTest, IsGoodAt, is_good_by}
use Rattle.ks_growing.specs.Passes.{PassView}
use Rattle.ks_shared.specs.declared.state.Frame.{Frame}
use Rattle.ks_shared.specs.Calls.{setup_in, good_in}
use Rattle.ks_worker_client.specs.Calls.{Later, Wrote, state_seen}
use Rattle.ks_worker_client.proofs.Moments.{same_frame, not_later}
use Rattle.ks_assign.specs.declared.clients.Placing.{Placing}
use Rattle.ks_assign_group.specs.Groups.{IsGoodBy}
use Rattle.ks_assign_group.specs.Laws.{ArePlaces}
use Rattle.ks_assign_group.proofs.Places.{good_places}
use Rattle.ks_worker_state.specs.Topology.{RunsTopology}
use Rattle.ks_worker_turn.specs.Beginning.{HasOffered}
use Rattle.ks_worker_turn.specs.Placing.{PlacesBy, MayOffer}

-- a placing that serves goes on to serve
pub serves_later : {W : Type 0} (plan : W → TaskPlan) (good : W → PlacementTest) (placing : Placing) (d : DraftView) (old new : PassView Entry (Frame W)) → Later plan old new → PlacesBy good placing d old.frame → PlacesBy good placing d new.frame
serves_later plan good placing d old new l serves = subst (λ f. PlacesBy good placing d f) (sym (same_frame plan old new l)) serves

-- what is good by the status is good at what the pass has seen
pub good_at : {W : Type 0} (plan : W → TaskPlan) (good : W → PlacementTest) (pass : PassView Entry (Frame W)) (told : Status) (a : Assignment) → told ≡ status (setup_in plan pass.frame) (state_seen plan pass) →
    MayOffer plan good pass.frame told a → IsGoodAt (good_in good pass.frame) (setup_in plan pass.frame) pass.seen told.generation a
good_at plan good pass told a is may = record {
  seen = pass.seen;
  begins = ([], append-nil pass.seen);
  generation = sym (ap (λ (s : Status). s.generation) is);
  good = ap (λ (s : Status). is_good_by (good_in good pass.frame) s a) (sym is) ∙ may.good_is;
}

-- a new assignment may be offered
pub may_offer : {W : Type 0} (plan : W → TaskPlan) (good : W → PlacementTest) (hash : List ℕ → ℕ) (d : DraftView) (placing : Placing) (frame : Option (Frame W)) (told : Status) (a : Assignment) →
    RunsTopology hash d (setup_in plan frame) → PlacesBy good placing d frame → IsGoodBy (changelog_numbers (plan_of d)) (tasks (plan_of d)) placing told a → MayOffer plan good frame told a
may_offer plan good hash d placing frame told a runs places is =
    let setup = setup_in plan frame in
    let same : tasks (plan_of d) ≡ setup.tasks = sym (ap (λ (s : Setup). s.tasks) runs.setup_is) in
    record {
      good_is = places.serves told.members told.held told.ends a is;
      places = good_places (changelog_numbers (plan_of d)) setup placing told a (subst (λ (ts : List TaskId). IsGoodBy (changelog_numbers (plan_of d)) ts placing told a) same is);
    }

-- whatever is on offer
pub may_offers : {W : Type 0} (plan : W → TaskPlan) (good : W → PlacementTest) (hash : List ℕ → ℕ) (d : DraftView) (placing : Placing) (frame : Option (Frame W)) (told : Status) (o : Option Assignment) →
    RunsTopology hash d (setup_in plan frame) → PlacesBy good placing d frame → IfSome o (IsGoodBy (changelog_numbers (plan_of d)) (tasks (plan_of d)) placing told) → IfSome o (MayOffer plan good frame told)
may_offers plan good hash d placing frame told None runs places is = tt
may_offers plan good hash d placing frame told (Some a) runs places is = may_offer plan good hash d placing frame told a runs places is

-- ---- offered
pub has_one : (o : Option Assignment) → is_some o ≡ true → o ≢ None
has_one None e none = absurd cc
has_one (Some a) e none = absurd cc

pub has_none : (o : Option Assignment) → is_some o ≡ false → o ≡ None
has_none None e = refl
has_none (Some a) e = absurd cc

pub offered_now : {W : Type 0} (plan : W → TaskPlan) (old new : PassView Entry (Frame W)) (w generation : ℕ) (a : Assignment) (reply : Reply) (Then : PassView Entry (Frame W) → Type 0) (Else : Type 0) → Later plan old new → Wrote plan old new (Assign w generation a) reply →
    (reply ≡ Truth true → Then new) → (reply ≢ Truth true → Else) → HasOffered plan old new w generation a Then Else
offered_now plan old new w generation a reply Then Else l wrote taken refused = record {
  moment = new;
  reply = reply;
  wrote = wrote;
  before = not_later plan new (subst (λ f. IsHistory (setup_in plan f) new.seen) (sym (same_frame plan old new l)) (subst (IsHistory (setup_in plan old.frame)) (sym l.seen) l.history));
  taken = taken;
  refused = refused;
}

-- what wasn't taken wasn't answered true
pub not_taken : (n : Result Bool Refused) (b : Bool) → n ≡ Ok b → b ≡ false → truth_or n ≡ Truth true → ⊥
not_taken (Ok true) b is e t = cc
not_taken (Ok false) b is e t = cc
not_taken (Err r) b is e t = cc

pub was_refused : (n : Result Bool Refused) → ((b : Bool) → n ≡ Ok b → ⊥) → truth_or n ≡ Truth true → ⊥
was_refused (Ok b) never t = never b refl
was_refused (Err r) never t = cc

pub some_not_none : (o : Option Assignment) (a : Assignment) → o ≡ Some a → o ≢ None
some_not_none o a is none = absurd cc

-- what was taken was
pub was_taken : {P : Type 0} (n : Result Bool Refused) (b : Bool) → n ≡ Ok b → b ≡ true → truth_or n ≢ Truth true → P
was_taken n b is e never = absurd (never (ap truth_or (is ∙ ap Ok e)))

-- what is said of an offer
pub of_offer : (o : Option Assignment) (a : Assignment) (P : Assignment → Type 0) → o ≡ Some a → P a → IfSome o P
of_offer o a P is h = subst (λ q. IfSome q P) (sym is) h

pub of_none : (o : Option Assignment) (P : Assignment → Type 0) → o ≡ None → IfSome o P
of_none o P is = subst (λ q. IfSome q P) (sym is) tt
