-- What the exit of a `?` tells: a call that ended the turn is handed on.
use Rattle.std.proofs.Common.{◌≡◌, ◌+◌, sym, ap, ◌∙◌, arith, Result, Ok, Err}
use Rattle.std.specs.Result.{IsErrAnd}
use Rattle.ks_worker_client.specs.declared.halt.Halt.{Halt}
use Rattle.ks_worker_client.specs.Turns.{GateCounts, cuts_of, cuts_in, counts_after}
use Rattle.ks_worker_client.proofs.Halting.{counts_on}

-- the calls before counted nothing, and what is handed on counts as the call that ended
pub counts_out : {A B : Type 0} (first gate now : GateCounts) (r : Result A Halt) (s : Result B Halt) (halt : Halt) → gate ≡ first → r ≡ Err halt → now ≡ counts_after gate r → IsErrAnd s (λ e. e ≡ halt) → now ≡ counts_after first s
counts_out first gate now r (Ok x) halt same is e given = absurd given
counts_out first gate now r (Err z) halt same is e given =
    counts_on first gate now r same e ∙ ap (λ n. record first { cuts = n }) (ap (λ n. first.cuts + n) (ap cuts_in is ∙ ap cuts_of (sym given)))

-- the calls counted nothing, and the last of them was answered
pub counts_in : {A : Type 0} (first gate now : GateCounts) (r : Result A Halt) (x : A) → gate ≡ first → r ≡ Ok x → now ≡ counts_after gate r → now ≡ record first { cuts = first.cuts + 0 }
counts_in first gate now r x same is e = counts_on first gate now r same e ∙ ap (counts_after first) is

-- the calls counted nothing
pub counts_none : (first now : GateCounts) → now ≡ first → now ≡ record first { cuts = first.cuts + 0 }
counts_none first now same =
    let none : first.cuts + 0 ≡ first.cuts = omega arith in
    same ∙ sym (ap (λ n. record first { cuts = n }) none)

-- the calls counted nothing, and what is handed on is no cut
pub counts_memory : {B : Type 0} (first now : GateCounts) (s : Result B Halt) (halt : Halt) → now ≡ first → cuts_of halt ≡ 0 → IsErrAnd s (λ e. e ≡ halt) → now ≡ counts_after first s
counts_memory first now (Ok x) halt same none given = absurd given
counts_memory first now (Err z) halt same none given = counts_none first now same ∙ sym (ap (λ n. record first { cuts = first.cuts + n }) (ap cuts_of given ∙ none))
