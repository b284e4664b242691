-- A worker that was just expired has no undecided transaction.
use Rattle.std.proofs.Common.{◌≡◌, ℕ, ◌+◌, Bool, true, false, ◌||◌, Option, Some, None, Result, Ok, Err, IfOk, OnOk, [], ◌++◌, refl, sym, ap, subst, ◌∙◌}
use Rattle.std.specs.Prelude.{if◌then◌else◌}
use Rattle.std.proofs.lemmas.Bool.{eq-eqb, true≢false}
use Rattle.ks_history.specs.declared.transaction.Producer.{Producer}
use Rattle.ks_history.specs.declared.transaction.Transaction.{Transaction}
use Rattle.ks_history.specs.declared.journal.Request.TheVariants.{Expire}
use Rattle.ks_history.specs.declared.journal.Reply.{Reply}
use Rattle.ks_history.specs.State.{State, with_number, has_number, without_number}
use Rattle.ks_history.specs.Step.{effect, can_expire, is_undecided, closed, renewed, markers_for}
use Rattle.ks_history.proofs.Histories.{at-more}
use Rattle.ks_cluster.specs.View.{ClusterView, setup_of, state_of, AddsEntry}
use Rattle.ks_law_exactly_once.specs.Example.{setup}

closed_none : (p : Producer) → (closed p false).undecided ≡ None
closed_none p = elim p.undecided as (λ o. p.undecided ≡ o →
    (elim o as (λ _. Producer) [ None ↦ p | Some tx ↦ record p { undecided = None; waiting = p.waiting ++ markers_for p.epoch false tx.parts; last = Some false } ]).undecided ≡ None) [
      | None ↦ λ e. e
      | Some tx ↦ λ e. refl
    ] refl

none_there : (o : Option Transaction) → elim o [ None ↦ false | Some tx ↦ true ] ≡ false → o ≡ None
none_there None h = refl
none_there (Some tx) h = absurd (true≢false h)

right_false : (a b : Bool) → (a || b) ≡ false → b ≡ false
right_false true b h = absurd (true≢false h)
right_false false b h = h

expired_none : (s : State) (w : ℕ) → ((effect s (Expire w)).producer w).undecided ≡ None
expired_none s w = by (can_expire s w) refl
  where
    by : (b : Bool) → can_expire s w ≡ b → ((if b then record s {
      producer = with_number s.producer w (renewed (s.producer w));
      members = without_number w s.members;
      held = with_number s.held w [];
      generation = s.generation + 1;
      assignment = None;
    } else s).producer w).undecided ≡ None
    by true e = ap (λ b. (if b then renewed (s.producer w) else s.producer w).undecided) (eq-eqb w w refl) ∙ closed_none (s.producer w)
    by false e = none_there (s.producer w).undecided (right_false (has_number w s.members) (is_undecided (s.producer w)) e)

pub expired : {W : Type 0} (old new : ClusterView W) (w : ℕ) (reply : Reply) → AddsEntry (λ x. setup.plan) old new (Expire w) reply → ((state_of (λ x. setup.plan) new).producer w).undecided ≡ None
expired {W} old new w reply a = subst (λ (c : ClusterView W). ((state_of (λ x. setup.plan) c).producer w).undecided ≡ None) (sym a.journal)
    (subst (λ (s : State). (s.producer w).undecided ≡ None) (sym (at-more (setup_of (λ x. setup.plan) old) old.journal (record { request = Expire w; reply = reply })))
    (expired_none (state_of (λ x. setup.plan) old) w))

pub on_ok : {A E : Type 0} (r : Result A E) (P : A → Type 0) (Q : Type 0) → ((x : A) → P x → Q) → IfOk r P → OnOk r Q
on_ok (Ok x) P Q f h = f x h
on_ok (Err e) P Q f h = tt
