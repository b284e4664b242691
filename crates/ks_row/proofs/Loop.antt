-- Reading members one after the other, as a loop does.
use Rattle.std.proofs.Common.{◌≡◌, ℕ, suc, ◌-◌, ◌+◌, ◌≤◌, ◌<◌, List, [], ◌∷◌, ◌++◌, Option, Some, None, refl, sym, ap, ◌∙◌, append_assoc, arith}
use Rattle.std.proofs.lemmas.List.{append-nil}
use Rattle.ks_row.specs.Rows.{Member}
use Rattle.ks_row.specs.Reading.{◌>>=◌, member_at, members_at}

abbrev pub Read : Type 0
Read = Option (List Member × List ℕ)

-- what was read before, and what is still read
abbrev pub with_front : List Member → Read → Read
with_front front read = read >>= λ x. Some (front ++ x.0, x.1)

regroup : (front : List Member) (m : Member) (read : Read) → with_front front (read >>= λ x. Some (m ∷ x.0, x.1)) ≡ with_front (front ++ m ∷ []) read
regroup front m (Some x) = ap (λ (ms : List Member). Some (ms, x.1)) (simp append_assoc)
regroup front m None = refl

pub goes_on : (front : List Member) (count i : ℕ) (bytes : List ℕ) (m : Member) (after : List ℕ) (total : Read) → i < count → member_at bytes ≡ Some (m, after)
    → with_front front (members_at (count - i) bytes) ≡ total → with_front (front ++ m ∷ []) (members_at (count - (i + 1)) after) ≡ total
unfolding members_at
goes_on front count i bytes m after total lt h so_far =
    let k : count - i ≡ suc (count - (i + 1)) = omega arith in
    let one : with_front front (members_at (count - i) bytes) ≡ with_front (front ++ m ∷ []) (members_at (count - (i + 1)) after) = rw (k, h) (regroup front m (members_at (count - (i + 1)) after)) in
    sym one ∙ so_far

pub ends : (front : List Member) (count i : ℕ) (bytes : List ℕ) (total : Read) → i < count → member_at bytes ≡ None
    → with_front front (members_at (count - i) bytes) ≡ total → None ≡ total
unfolding members_at
ends front count i bytes total lt h so_far =
    let k : count - i ≡ suc (count - (i + 1)) = omega arith in
    let one : with_front front (members_at (count - i) bytes) ≡ None = rw (k, h) refl in
    sym one ∙ so_far

pub is_done : (front : List Member) (count i : ℕ) (bytes : List ℕ) (total : Read) → count ≤ i → with_front front (members_at (count - i) bytes) ≡ total → Some (front, bytes) ≡ total
unfolding members_at
is_done front count i bytes total le so_far =
    let k : count - i ≡ 0 = omega arith in
    let one : with_front front (members_at (count - i) bytes) ≡ Some (front, bytes) = rw k (ap (λ (ms : List Member). Some (ms, bytes)) (append-nil front)) in
    sym one ∙ so_far
