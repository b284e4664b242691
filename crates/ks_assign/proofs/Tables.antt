-- A table of how many places there are at each client, place by place
use Rattle.std.proofs.Common.{◌≡◌, ℕ, zero, suc, ◌+◌, ◌<◌, ◌≤◌, List, [], ◌∷◌, length, get_or, set, drop, sym, ap, subst, ◌∙◌, arith, inl, inr}
use Rattle.std.proofs.lemmas.Bool.Decides.{eqb_tells}
use Rattle.std.proofs.lemmas.List.{get_or-set_same, get_or-set_other}
use Rattle.ks_record.specs.declared.record.TaskId.{TaskId}
use Rattle.ks_assign.specs.Placement.{Places, home, by_client, load}
use Rattle.ks_assign.specs.declared.clients.Client.{Client}
use Rattle.ks_assign.proofs.Moves.{here, here_same, here_other, load_cons}

-- one place more has been counted
abbrev pub Counted : List Client → Places → List ℕ → ℕ → Type 0
Counted clients places counts k = (i : ℕ) → i < 257 → (get_or counts i 0 + load i (by_client clients (drop k places)) ≡ load i (by_client clients places)) × (get_or counts i 0 ≤ k)

load_drop : (clients : List Client) (places : Places) (k i : ℕ) (d : TaskId × ℕ) → k < length places →
    load i (by_client clients (drop k places)) ≡ here (home clients (get_or places k d).1) i + load i (by_client clients (drop (k + 1) places))
load_drop clients [] k i d l = absurd (omega arith)
load_drop clients (p ∷ places) zero i d l = load_cons i (p.0, home clients p.1) (by_client clients places)
load_drop clients (p ∷ places) (suc k) i d l =
    let e : suc k + 1 ≡ suc (k + 1) = omega arith in
    load_drop clients places k i d (omega arith)
    ∙ ap (λ (n : ℕ). here (home clients (get_or places k d).1) i + load i (by_client clients (drop n (p ∷ places)))) (sym e)

pub count_more : (clients : List Client) (places : Places) (counts : List ℕ) (k h : ℕ) (d : TaskId × ℕ) → length counts ≡ 257 → k < length places →
    h ≡ home clients (get_or places k d).1 → h ≤ 256 → Counted clients places counts k → Counted clients places (set counts h (get_or counts h 0 + 1)) (k + 1)
count_more clients places counts k h d size l is small so_far i below =
    let step : load i (by_client clients (drop k places)) ≡ here h i + load i (by_client clients (drop (k + 1) places)) =
    subst (λ (x : ℕ). load i (by_client clients (drop k places)) ≡ here x i + load i (by_client clients (drop (k + 1) places))) (sym is) (load_drop clients places k i d l) in
    let old = so_far i below in
    let was : get_or counts i 0 + load i (by_client clients (drop k places)) ≡ load i (by_client clients places) = old.0 in
    let few : get_or counts i 0 ≤ k = old.1 in
    elim (eqb_tells h i) [
      | inl e ↦
          let now : get_or (set counts h (get_or counts h 0 + 1)) i 0 ≡ get_or counts i 0 + 1 =
          ap (λ (x : ℕ). get_or (set counts h (get_or counts h 0 + 1)) x 0) (sym (e.1)) ∙ get_or-set_same counts h (get_or counts h 0 + 1) 0 (omega (arith, size, small)) ∙ ap (λ (x : ℕ). get_or counts x 0 + 1) e.1 in
          let one : here h i ≡ 1 = ap (λ (x : ℕ). here x i) e.1 ∙ here_same i in
          (omega (arith, now, one, step, was), omega (arith, now, few))
      | inr e ↦
          let now : get_or (set counts h (get_or counts h 0 + 1)) i 0 ≡ get_or counts i 0 = get_or-set_other counts h i (get_or counts h 0 + 1) 0 (λ x. e.1 (sym x)) in
          let none : here h i ≡ 0 = here_other h i e.1 in
          (omega (arith, now, none, step, was), omega (arith, now, few))
    ]
