-- An answer with want of memory as what ends the turn.
use Rattle.std.proofs.Common.{◌≡◌, ◌+◌, ℕ, sym, ap, subst, ◌∙◌, arith, Result, Ok, Err}
use Rattle.std.specs.Prelude.{OnOk, IfOk}
use Rattle.ks_worker_client.specs.declared.halt.Halt.{Halt}
use Rattle.ks_worker_client.specs.declared.halt.Halt.TheVariants.{Cut, OutOfMemory}
use Rattle.ks_worker_client.specs.Turns.{GateCounts, cuts_of, cuts_in, counts_after, with_halt}

module _ {A E : Type 0} where
  -- what holds where the answer was given
  pub was_ok : (r : Result A E) (P : Type 0) (x : A) → with_halt r ≡ Ok x → OnOk r P → P
  was_ok (Ok n) P x e h = h
  was_ok (Err z) P x e h = absurd cc

  pub was_ok_with : (r : Result A E) (P : A → Type 0) (x : A) → with_halt r ≡ Ok x → IfOk r P → P x
  was_ok_with (Ok n) P x e h = let same : n ≡ x = cc in subst P same h
  was_ok_with (Err z) P x e h = absurd cc

  -- such an error isn't a cut
  pub was_memory : (r : Result A E) (h : Halt) → with_halt r ≡ Err h → cuts_of h ≡ 0
  was_memory (Ok n) h e = absurd cc
  was_memory (Err z) h e = let same : OutOfMemory ≡ h = cc in ap cuts_of (sym same)

-- a call that was answered counted nothing
pub same_counts : {A : Type 0} (gate now : GateCounts) (r : Result A Halt) (x : A) → r ≡ Ok x → now ≡ counts_after gate r → now ≡ gate
same_counts gate now r x is e =
    let none : gate.cuts + cuts_in r ≡ gate.cuts = ap (λ q. gate.cuts + cuts_in q) is ∙ omega arith in
    e ∙ ap (λ k. record gate { cuts = k }) none

-- the calls before counted nothing
pub counts_on : {A : Type 0} (first gate now : GateCounts) (r : Result A Halt) → gate ≡ first → now ≡ counts_after gate r → now ≡ counts_after first r
counts_on first gate now r same e = e ∙ ap (λ g. counts_after g r) same
