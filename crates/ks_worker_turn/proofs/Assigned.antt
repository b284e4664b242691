-- The assignment that a generation has.
use Rattle.std.proofs.Common.{◌≡◌, ◌≤◌, ℕ, ◌+◌, max, leb, arith, Bool, true, false, cond, [], ◌∷◌, ◌++◌, Option, Some, None, ◌⊎◌, ⊎_elim, inl, inr, refl, sym, ap, subst, ◌∙◌}
use Rattle.std.specs.Prelude.{◌==◌, IfSome}
use Rattle.std.proofs.lemmas.Bool.{eqb-true, leb-true, leb-false}
use Rattle.ks_record.specs.declared.assignment.Assignment.{Assignment}
use Rattle.ks_record.specs.declared.assignment.Refused.{Refused}
use Rattle.ks_record.specs.declared.assignment.Refused.TheVariants.{OldGeneration}
use Rattle.ks_history.specs.declared.journal.Entry.{Entry}
use Rattle.ks_history.specs.declared.journal.Status.{Status}
use Rattle.ks_history.specs.declared.journal.Request.TheVariants.{Assign}
use Rattle.ks_history.specs.declared.journal.Reply.TheVariants.{Truth}
use Rattle.ks_history.specs.Machine.{TaskPlan}
use Rattle.ks_history.specs.Partition.{is_none}
use Rattle.ks_history.specs.State.{State, Setup, start}
use Rattle.ks_history.specs.Step.{refusal, or_else, old_generation, bad_assignment, reply_by, state_by, effect}
use Rattle.ks_history.specs.History.{at, IsHistory}
use Rattle.ks_history.specs.Reads.{status}
use Rattle.ks_history.proofs.Histories.{state_after-append}
use Rattle.ks_growing.specs.Passes.{PassView}
use Rattle.ks_shared.specs.declared.state.Frame.{Frame}
use Rattle.ks_shared.specs.Calls.{setup_in}
use Rattle.ks_worker_client.specs.declared.member.Member.{Member}
use Rattle.ks_worker_client.specs.Calls.{Later, Wrote, state_seen}
use Rattle.ks_worker_client.proofs.Moments.{same_frame, not_later, later_twice}
use Rattle.ks_worker_turn.specs.Acting.{WasAssigned}

-- ---- as a status tells it
module _ {W : Type 0} (plan : W → TaskPlan) (pass : PassView Entry (Frame W)) (history : IsHistory (setup_in plan pass.frame) pass.seen) where
  pub told_so : (s : Status) → s ≡ status (setup_in plan pass.frame) (state_seen plan pass) → IfSome s.assignment (λ a. WasAssigned plan pass pass s.generation)
  told_so s is = by s.assignment refl
    where
      by : (o : Option Assignment) → s.assignment ≡ o → IfSome o (λ a. WasAssigned plan pass pass s.generation)
      by None e = tt
      by (Some a) e = record {
        told = pass;
        since = not_later plan pass history;
        before = not_later plan pass history;
        generation_is = sym (ap (λ (x : Status). x.generation) is);
        assignment = a;
        assigned = sym (ap (λ (x : Status). x.assignment) is) ∙ e;
      }

-- ---- as a call gave it
-- what was answered true wasn't refused
not_refused : (setup : Setup) (s : State) (w g : ℕ) (a : Assignment) (o : Option Refused) → Truth true ≡ reply_by s (Assign w g a) o → (o ≡ None) × (is_none s.assignment ≡ true)
not_refused setup s w g a None e = let same : true ≡ is_none s.assignment = cc in (refl, sym same)
not_refused setup s w g a (Some r) e = absurd cc

-- its generation is the cluster's
own_generation : (s : State) (g : ℕ) (rest : Option Refused) → or_else (old_generation s g) rest ≡ None → s.generation ≡ g
own_generation s g rest free = by (g == s.generation) refl free
  where
    by : (b : Bool) → (g == s.generation) ≡ b → or_else (cond b None (Some (OldGeneration s.generation))) rest ≡ None → s.generation ≡ g
    by true e h = sym (eqb-true g s.generation e)
    by false e h = absurd cc

-- and it had no assignment
given : (s : State) (w g : ℕ) (a : Assignment) → is_none s.assignment ≡ true → (effect s (Assign w g a)).assignment ≡ Some a
given s w g a none = by s.assignment refl none
  where
    by : (o : Option Assignment) → s.assignment ≡ o → is_none o ≡ true → (elim o as (λ _. State) [ None ↦ record s { assignment = Some a } | Some b ↦ s ]).assignment ≡ Some a
    by None e h = refl
    by (Some b) e h = absurd cc

stays : (s : State) (w g : ℕ) (a : Assignment) → (effect s (Assign w g a)).generation ≡ s.generation
stays s w g a = by s.assignment
  where
    by : (o : Option Assignment) → (elim o as (λ _. State) [ None ↦ record s { assignment = Some a } | Some b ↦ s ]).generation ≡ s.generation
    by None = refl
    by (Some b) = refl

module _ {W : Type 0} (plan : W → TaskPlan) (old new : PassView Entry (Frame W)) (l : Later plan old new) where
  pub taken_so : (w g : ℕ) (a : Assignment) → Wrote plan old new (Assign w g a) (Truth true) → WasAssigned plan old new g
  taken_so w g a wrote =
      let setup = setup_in plan old.frame in
      let s = at setup (old.seen ++ wrote.others) in
      let free = not_refused setup s w g a (refusal setup s (Assign w g a)) wrote.step in
      let there : at setup new.seen ≡ effect s (Assign w g a) =
      ap (at setup) wrote.seen ∙ state_after-append setup start (old.seen ++ wrote.others) (record { request = Assign w g a; reply = Truth true } ∷ []) ∙ ap (state_by s (Assign w g a)) free.0 in
      let now : state_seen plan new ≡ effect s (Assign w g a) = ap (λ f. at (setup_in plan f) new.seen) (same_frame plan old new l) ∙ there in
      record {
        told = new;
        since = l;
        before = not_later plan new (subst (λ f. IsHistory (setup_in plan f) new.seen) (sym (same_frame plan old new l)) (subst (IsHistory setup) (sym l.seen) l.history));
        generation_is = ap (λ (x : State). x.generation) now ∙ stays s w g a ∙ own_generation s g (bad_assignment setup.tasks s.members a.active) free.0;
        assignment = a;
        assigned = ap (λ (x : State). x.assignment) now ∙ given s w g a free.1;
      }

-- what was so since a moment was so since an earlier one
pub assigned_since : {W : Type 0} (plan : W → TaskPlan) (first old new : PassView Entry (Frame W)) (g : ℕ) → Later plan first old → WasAssigned plan old new g → WasAssigned plan first new g
assigned_since plan first old new g l h = record {
  told = h.told;
  since = later_twice plan first old h.told l h.since;
  before = h.before;
  generation_is = h.generation_is;
  assignment = h.assignment;
  assigned = h.assigned;
}

-- and until a later one
pub assigned_until : {W : Type 0} (plan : W → TaskPlan) (old new last : PassView Entry (Frame W)) (g : ℕ) → Later plan new last → WasAssigned plan old new g → WasAssigned plan old last g
assigned_until plan old new last g k h = record {
  told = h.told;
  since = h.since;
  before = later_twice plan h.told new last h.before k;
  generation_is = h.generation_is;
  assignment = h.assignment;
  assigned = h.assigned;
}

-- the generation stands, or it was seen with an assignment
pub either_within : {W : Type 0} (plan : W → TaskPlan) (first old new : PassView Entry (Frame W)) (was mid now : ℕ) → Later plan first old → mid ≡ was → (now ≡ mid) ⊎ WasAssigned plan old new now → (now ≡ was) ⊎ WasAssigned plan first new now
either_within plan first old new was mid now l same h =
    ⊎_elim (λ (e : now ≡ mid). inl (e ∙ same)) (λ (a : WasAssigned plan old new now). inr (assigned_since plan first old new now l a)) h

pub told_past : {W : Type 0} (plan : W → TaskPlan) (pass : PassView Entry (Frame W)) (s : Status) → s ≡ status (setup_in plan pass.frame) (state_seen plan pass) → s.generation ≤ (state_seen plan pass).generation
told_past plan pass s is = omega (arith, ap (λ (x : Status). x.generation) is)

greater : (a b : ℕ) → (max a b ≡ a) ⊎ (max a b ≡ b)
greater a b = by (leb a b) refl
  where
    by : (x : Bool) → leb a b ≡ x → (max a b ≡ a) ⊎ (max a b ≡ b)
    by true e = inr (omega (arith, leb-true a b e))
    by false e = inl (omega (arith, leb-false a b e))

-- the greater of its own generation and the told one
pub own_or_told : {W : Type 0} (plan : W → TaskPlan) (old mid new : PassView Entry (Frame W)) (m n : Member) (g : ℕ) → WasAssigned plan old mid g → Later plan mid new → n ≡ record m { generation = max m.generation g } →
    (n.generation ≡ m.generation) ⊎ WasAssigned plan old new n.generation
own_or_told plan old mid new m n g h l is =
    let now : n.generation ≡ max m.generation g = ap (λ (x : Member). x.generation) is in
    ⊎_elim (λ (e : max m.generation g ≡ m.generation). inl (now ∙ e))
    (λ (e : max m.generation g ≡ g). inr (subst (λ k. WasAssigned plan old new k) (sym (now ∙ e)) (assigned_until plan old mid new g l h)))
    (greater m.generation g)
