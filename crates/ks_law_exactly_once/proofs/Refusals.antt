-- What it means that a request isn't refused, and what a decision leaves of its producer.
use Rattle.std.proofs.Common.{◌≡◌, ℕ, Bool, true, false, cond, ◌++◌, Option, Some, None, refl}
use Rattle.std.specs.Prelude.{◌==◌}
use Rattle.std.proofs.lemmas.Bool.{eqb-true}
use Rattle.ks_record.specs.declared.record.PartId.{PartId}
use Rattle.ks_record.specs.declared.assignment.Refused.{Refused}
use Rattle.ks_record.specs.declared.assignment.Refused.TheVariants.{NoTransaction, AlreadyDecided, Fenced}
use Rattle.ks_history.specs.declared.transaction.Transaction.{Transaction}
use Rattle.ks_history.specs.declared.transaction.Producer.{Producer}
use Rattle.ks_history.specs.State.{has_part}
use Rattle.ks_history.specs.Step.{fenced, none_undecided, or_else, without_part, closed, markers_for}
use Rattle.ks_law_exactly_once.proofs.Quiet.{aborted_waiting}

pub some_undecided : (p : Producer) (e : ℕ) → or_else (fenced p e) (none_undecided p) ≡ None → (tx : Transaction) × (p.undecided ≡ Some tx)
some_undecided p e is = by (fenced p e) p.undecided p.last refl is
  where
    by : (g : Option Refused) (u : Option Transaction) (l : Option Bool) → p.undecided ≡ u →
        or_else g (elim u as (λ _. Option Refused) [ Some tx ↦ None | None ↦ elim l as (λ _. Option Refused) [ None ↦ Some NoTransaction | Some commit ↦ Some (AlreadyDecided commit) ] ]) ≡ None → (tx : Transaction) × (p.undecided ≡ Some tx)
    by g (Some tx) l h is = (tx, h)
    by None None None h is = absurd cc
    by None None (Some c) h is = absurd cc
    by (Some g) None l h is = absurd cc

pub both_none : (a b : Option Refused) → or_else a b ≡ None → (a ≡ None) × (b ≡ None)
both_none None b e = (refl, e)
both_none (Some x) b e = absurd cc

pub not_fenced : (p : Producer) (e : ℕ) → fenced p e ≡ None → e ≡ p.epoch
not_fenced p e is = by (e == p.epoch) refl is
  where
    by : (b : Bool) → (e == p.epoch) ≡ b → cond b None (Some (Fenced p.epoch)) ≡ None → e ≡ p.epoch
    by true h g = eqb-true e p.epoch h
    by false h g = absurd cc

pub with_part : (p : Producer) (part : PartId) → without_part p part ≡ None → (tx : Transaction) × (p.undecided ≡ Some tx) × (has_part part tx.parts ≡ true)
with_part p part is = by p.undecided refl is
  where
    by : (u : Option Transaction) → p.undecided ≡ u → (elim u as (λ _. Option Refused) [ None ↦ Some NoTransaction | Some tx ↦ cond (has_part part tx.parts) None (Some NoTransaction) ]) ≡ None
        → (tx : Transaction) × (p.undecided ≡ Some tx) × (has_part part tx.parts ≡ true)
    by None h g = absurd cc
    by (Some tx) h g = (tx, h, there (has_part part tx.parts) refl g)
      where
        there : (b : Bool) → has_part part tx.parts ≡ b → cond b None (Some NoTransaction) ≡ None → has_part part tx.parts ≡ true
        there true k l = k
        there false k l = absurd cc

pub closed_undecided : (p : Producer) (commit : Bool) → (closed p commit).undecided ≡ None
closed_undecided p commit = by p.undecided refl
  where
    by : (u : Option Transaction) → p.undecided ≡ u → (elim u as (λ _. Producer) [ None ↦ p | Some tx ↦ record p { undecided = None; waiting = p.waiting ++ markers_for p.epoch commit tx.parts; last = Some commit } ]).undecided ≡ None
    by None h = h
    by (Some tx) h = refl

pub closed_waiting : (p : Producer) → (closed p false).waiting ≡ aborted_waiting p p.undecided
closed_waiting p = by p.undecided
  where
    by : (u : Option Transaction) → (elim u as (λ _. Producer) [ None ↦ p | Some tx ↦ record p { undecided = None; waiting = p.waiting ++ markers_for p.epoch false tx.parts; last = Some false } ]).waiting ≡ aborted_waiting p u
    by None = refl
    by (Some tx) = refl
