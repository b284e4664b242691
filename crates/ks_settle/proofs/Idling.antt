-- Every worker is removed, and all waiting markers are written: then nothing is undecided, and nothing waits.
use Rattle.std.proofs.Common.{◌≡◌, ℕ, ◌+◌, ◌<◌, ◌≤◌, Bool, true, false, cond, ◌||◌, List, [], Option, Some, None, refl, sym, ap, subst, ◌∙◌, arith, ⊎_elim}
use Rattle.std.specs.Prelude.{◌==◌}
use Rattle.std.proofs.lemmas.Bool.{true≢false, eqb-true, eqb-false, cases_lt}
use Rattle.ks_history.specs.declared.journal.Entry.{Entry}
use Rattle.ks_history.specs.declared.journal.Request.TheVariants.{Expire}
use Rattle.ks_history.specs.declared.journal.Reply.{Reply}
use Rattle.ks_history.specs.declared.transaction.Transaction.{Transaction}
use Rattle.ks_history.specs.declared.transaction.Producer.{Producer}
use Rattle.ks_history.specs.Machine.{TaskPlan, IsNetwork}
use Rattle.ks_history.specs.State.{State, Setup, has_number, without_number, with_number}
use Rattle.ks_history.specs.Step.{effect, renewed, can_expire, is_undecided}
use Rattle.ks_history.specs.History.{at, IsHistory}
use Rattle.ks_law_exactly_once.proofs.Refusals.{closed_undecided}
use Rattle.ks_cluster.specs.View.{ClusterView, state_of, AddsEntry}
use Rattle.ks_commit.specs.Alone.{IsIdle}
use Rattle.ks_commit.specs.Sending.{Marked}
use Rattle.ks_commit.proofs.Epochs.{has_seventeen}
use Rattle.ks_commit.proofs.Gaining.{at_it, beside_it}
use Rattle.ks_commit.proofs.Entries.{new_state}

-- ---- one worker is removed
none_undecided : (p : Producer) → is_undecided p ≡ false → p.undecided ≡ None
none_undecided p h = by p.undecided h
  where
    by : (u : Option Transaction) → (elim u as (λ _. Bool) [ None ↦ false | Some tx ↦ true ]) ≡ false → u ≡ None
    by None h = refl
    by (Some tx) h = absurd (true≢false h)

or_second : (a b : Bool) → (a || b) ≡ false → b ≡ false
or_second true b h = absurd (true≢false h)
or_second false b h = h

abbrev removed : State → ℕ → State
removed s w = record s { producer = with_number s.producer w (renewed (s.producer w)); members = without_number w s.members; held = with_number s.held w []; generation = s.generation + 1; assignment = None }

expired : (s : State) (w : ℕ) → ((effect s (Expire w)).producer w).undecided ≡ None
expired s w = by (can_expire s w) refl
  where
    by : (b : Bool) → can_expire s w ≡ b → ((cond b (removed s w) s).producer w).undecided ≡ None
    by true is = ap (λ (p : Producer). p.undecided) (at_it s.producer w (renewed (s.producer w))) ∙ closed_undecided (s.producer w) false
    by false is = none_undecided (s.producer w) (or_second (has_number w s.members) (is_undecided (s.producer w)) is)

others : (s : State) (w v : ℕ) → (v == w) ≡ false → (effect s (Expire w)).producer v ≡ s.producer v
others s w v ne = by (can_expire s w)
  where
    by : (b : Bool) → (cond b (removed s w) s).producer v ≡ s.producer v
    by true = beside_it s.producer w (renewed (s.producer w)) v ne
    by false = refl

-- the first workers have nothing undecided
abbrev pub AreDecided : State → ℕ → Type 0
AreDecided s i = (w : ℕ) → w < i → (s.producer w).undecided ≡ None

pub one_removed : {W : Type 0} (plan : W → TaskPlan) (old new : ClusterView W) (i : ℕ) (reply : Reply) → AddsEntry plan old new (Expire i) reply → AreDecided (state_of plan old) i → AreDecided (state_of plan new) (i + 1)
one_removed plan old new i reply a was w lt = ap (λ (s : State). (s.producer w).undecided) (new_state plan old new (Expire i) reply a refl) ∙ by (w == i) refl
  where
    by : (b : Bool) → (w == i) ≡ b → ((effect (state_of plan old) (Expire i)).producer w).undecided ≡ None
    by true is = subst (λ v. ((effect (state_of plan old) (Expire v)).producer w).undecided ≡ None) (eqb-true w i is) (expired (state_of plan old) w)
    by false is = let ne : (w ≡ i → ⊥) = eqb-false w i is in ap (λ (p : Producer). p.undecided) (others (state_of plan old) i w is) ∙ was w (omega (arith, lt, ne))

-- ---- the markers of one producer are written
pub record AreMarked (s : State) (i : ℕ) : Type 0 where
  pub decided : (w : ℕ) → w ≤ 16 → (s.producer w).undecided ≡ None
  pub written : (w : ℕ) → w < i → (s.producer w).waiting ≡ []

pub one_marked : {W : Type 0} (plan : W → TaskPlan) (old new : ClusterView W) (i : ℕ) → Marked plan old new i → ((state_of plan new).producer i).waiting ≡ [] → AreMarked (state_of plan old) i → AreMarked (state_of plan new) (i + 1)
one_marked plan old new i m done was = record {
  decided = λ w le. undecided w le (w == i) refl;
  written = λ w lt. waiting w lt (w == i) refl;
}
  where
    undecided : (w : ℕ) → w ≤ 16 → (b : Bool) → (w == i) ≡ b → ((state_of plan new).producer w).undecided ≡ None
    undecided w le true is =
        let same : w ≡ i = eqb-true w i is in
        ap (λ v. ((state_of plan new).producer v).undecided) same ∙ m.marks.undecided ∙ ap (λ v. ((state_of plan old).producer v).undecided) (sym same) ∙ was.decided w le
    undecided w le false is = ap (λ (p : Producer). p.undecided) (m.marks.others w is) ∙ was.decided w le

    waiting : (w : ℕ) → w < i + 1 → (b : Bool) → (w == i) ≡ b → ((state_of plan new).producer w).waiting ≡ []
    waiting w lt true is = ap (λ v. ((state_of plan new).producer v).waiting) (eqb-true w i is) ∙ done
    waiting w lt false is = let ne : (w ≡ i → ⊥) = eqb-false w i is in ap (λ (p : Producer). p.waiting) (m.marks.others w is) ∙ was.written w (omega (arith, lt, ne))

pub all_marked : (setup : Setup) (journal : List Entry) → IsNetwork setup.plan → IsHistory setup journal → (i : ℕ) → 17 ≤ i → AreMarked (at setup journal) i → IsIdle (at setup journal)
all_marked setup journal net history i many m w = ⊎_elim
    (λ (less : w < 17). (m.decided w (omega (arith, less)), m.written w (omega (arith, less, many))))
    (λ (more : 17 ≤ w). let p = has_seventeen setup journal net history w more in (ap (λ (x : Producer). x.undecided) p, ap (λ (x : Producer). x.waiting) p))
    (cases_lt w 17)
