-- The warmups of a plan
use Rattle.std.proofs.Common.{◌≡◌, ◌≢◌, ℕ, zero, suc, ◌+◌, ◌≤◌, ◌==◌, ◌&&◌, ◌||◌, not, Bool, true, false, cond, nat_le, List, [], ◌∷◌, ◌++◌, length, take, refl, sym, ap, subst, ◌∙◌, arith, inl, inr}
use Rattle.std.specs.List.{list_all}
use Rattle.std.proofs.lemmas.Bool.Decides.{eqb_tells, leb_tells}
use Rattle.ks_record.specs.declared.record.TaskId.{TaskId}
use Rattle.ks_assign.specs.declared.clients.Client.{Client}
use Rattle.ks_assign.specs.declared.clients.Held.{Held}
use Rattle.ks_record.specs.Parts.{same_task}
use Rattle.ks_assign.specs.Lag.{some_warm, warm}
use Rattle.ks_assign.specs.Placement.{Places, all_cold, all_prepared, copies, has_instance, has_task, instances_apart, is_balanced, is_prepared, may_run, outweighs, stays, tasks_apart, times}
use Rattle.ks_assign.specs.Steps.{all_wanted, tasks_of, wanted}
use Rattle.ks_assign.proofs.Homes.{and_left, and_right, and_both, false_not_true}
use Rattle.ks_assign.proofs.Moves.{outweighs_other}
use Rattle.ks_assign.proofs.Even.{le_true, true_le, all_zip}
use Rattle.ks_assign.proofs.Others.{and_false, equal_true, same_self, same_tells, is_or_not, not_is, times_append, copies_append, copies_take, copies_times, times_one}

equal_is : (a b : ℕ) → (a == b) ≡ true → a ≡ b
equal_is a b h = elim (eqb_tells a b) [ inl t ↦ t.1 | inr t ↦ absurd (false_not_true (sym t.0 ∙ h)) ]

or_true : (a b : Bool) → b ≡ true → (a || b) ≡ true
or_true true b h = refl
or_true false b h = h

copies_most : (t : TaskId) (i : ℕ) (p : TaskId × ℕ) (xs : Places) → copies t i (p ∷ xs) ≤ suc (copies t i xs)
copies_most t i p xs = elim (same_task p.0 t && (p.1 == i)) as (λ b. cond b (suc (copies t i xs)) (copies t i xs) ≤ suc (copies t i xs)) [ true ↦ omega arith | false ↦ omega arith ]

-- each client once
wanted_none : (cs : List Client) (active standby : Places) (p : TaskId × ℕ) (t : TaskId) (i : ℕ) → has_instance i cs ≡ false → copies t i (wanted cs active standby p) ≡ 0
wanted_none [] active standby p t i absent = refl
wanted_none (c ∷ cs) active standby p t i absent =
    elim (is_or_not (c.instance == i)) [
      | inl s ↦ absurd (false_not_true (sym absent ∙ ap (λ b. b || has_instance i cs) s))
      | inr s ↦
          let rest : copies t i (wanted cs active standby p) ≡ 0 = wanted_none cs active standby p t i (sym (ap (λ b. b || has_instance i cs) s) ∙ absent) in
          elim (outweighs p.1 c.instance active && (copies p.0 c.instance standby == 0)) as (λ b. copies t i (cond b ((p.0, c.instance) ∷ wanted cs active standby p) (wanted cs active standby p)) ≡ 0) [
            | true ↦ ap (λ b. cond (same_task p.0 t && b) (suc (copies t i (wanted cs active standby p))) (copies t i (wanted cs active standby p))) s
                ∙ ap (λ b. cond b (suc (copies t i (wanted cs active standby p))) (copies t i (wanted cs active standby p))) (and_false (same_task p.0 t)) ∙ rest
            | false ↦ rest
          ]
    ]

wanted_once : (cs : List Client) (active standby : Places) (p : TaskId × ℕ) (t : TaskId) (i : ℕ) → instances_apart cs ≡ true → copies t i (wanted cs active standby p) ≤ 1
wanted_once [] active standby p t i distinct = omega arith
wanted_once (c ∷ cs) active standby p t i distinct =
    let rest : copies t i (wanted cs active standby p) ≤ 1 = wanted_once cs active standby p t i (and_right (not (has_instance c.instance cs)) (instances_apart cs) distinct) in
    elim (outweighs p.1 c.instance active && (copies p.0 c.instance standby == 0)) as (λ b. copies t i (cond b ((p.0, c.instance) ∷ wanted cs active standby p) (wanted cs active standby p)) ≤ 1) [
      | true ↦ elim (eqb_tells c.instance i) [
        | inl s ↦
            let absent : has_instance i cs ≡ false = subst (λ (x : ℕ). has_instance x cs ≡ false) s.1 (not_is (has_instance c.instance cs) (and_left (not (has_instance c.instance cs)) (instances_apart cs) distinct)) in
            let none : copies t i (wanted cs active standby p) ≡ 0 = wanted_none cs active standby p t i absent in
            elim (same_task p.0 t && (c.instance == i)) as (λ b. cond b (suc (copies t i (wanted cs active standby p))) (copies t i (wanted cs active standby p)) ≤ 1) [ true ↦ omega (arith, none) | false ↦ rest ]
        | inr s ↦ subst (λ b. cond b (suc (copies t i (wanted cs active standby p))) (copies t i (wanted cs active standby p)) ≤ 1) (sym (ap (λ b. same_task p.0 t && b) s.0 ∙ and_false (same_task p.0 t))) rest
      ]
      | false ↦ rest
    ]

wanted_tasks : (cs : List Client) (active standby : Places) (p : TaskId × ℕ) (t : TaskId) → same_task p.0 t ≡ false → times t (wanted cs active standby p) ≡ 0
wanted_tasks [] active standby p t d = refl
wanted_tasks (c ∷ cs) active standby p t d =
    elim (outweighs p.1 c.instance active && (copies p.0 c.instance standby == 0)) as (λ b. times t (cond b ((p.0, c.instance) ∷ wanted cs active standby p) (wanted cs active standby p)) ≡ 0) [
      | true ↦ ap (λ b. cond b (suc (times t (wanted cs active standby p))) (times t (wanted cs active standby p))) d ∙ wanted_tasks cs active standby p t d
      | false ↦ wanted_tasks cs active standby p t d
    ]

pub wanted_absent : (cs : List Client) (active standby : Places) (t : TaskId) (ps : Places) → has_task t (tasks_of ps) ≡ false → times t (all_wanted cs active standby ps) ≡ 0
wanted_absent cs active standby t [] absent = refl
wanted_absent cs active standby t (p ∷ ps) absent =
    elim (is_or_not (same_task p.0 t)) [
      | inl s ↦ absurd (false_not_true (sym absent ∙ ap (λ b. b || has_task t (tasks_of ps)) s))
      | inr s ↦
          let rest : times t (all_wanted cs active standby ps) ≡ 0 = wanted_absent cs active standby t ps (sym (ap (λ b. b || has_task t (tasks_of ps)) s) ∙ absent) in
          omega (arith, times_append t (wanted cs active standby p) (all_wanted cs active standby ps), wanted_tasks cs active standby p t s, rest)
    ]

all_wanted_once : (cs : List Client) (active standby : Places) (t : TaskId) (i : ℕ) (ps : Places) → instances_apart cs ≡ true → tasks_apart (tasks_of ps) ≡ true → copies t i (all_wanted cs active standby ps) ≤ 1
all_wanted_once cs active standby t i [] distinct once = omega arith
all_wanted_once cs active standby t i (p ∷ ps) distinct once =
    elim (same_tells p.0 t) [
      | inl s ↦
          let absent : has_task t (tasks_of ps) ≡ false = subst (λ (x : TaskId). has_task x (tasks_of ps) ≡ false) s.1 (not_is (has_task p.0 (tasks_of ps)) (and_left (not (has_task p.0 (tasks_of ps))) (tasks_apart (tasks_of ps)) once)) in
          omega (arith, copies_append t i (wanted cs active standby p) (all_wanted cs active standby ps), copies_times t i (all_wanted cs active standby ps), wanted_absent cs active standby t ps absent, wanted_once cs active standby p t i distinct)
      | inr s ↦
          let rest : copies t i (all_wanted cs active standby ps) ≤ 1 = all_wanted_once cs active standby t i ps distinct (and_right (not (has_task p.0 (tasks_of ps))) (tasks_apart (tasks_of ps)) once) in
          omega (arith, copies_append t i (wanted cs active standby p) (all_wanted cs active standby ps), copies_times t i (wanted cs active standby p), wanted_tasks cs active standby p t s.0, rest)
    ]

-- what is in a list is in it
copies_head : (t : TaskId) (i : ℕ) (xs : Places) → copies t i ((t, i) ∷ xs) ≡ suc (copies t i xs)
copies_head t i xs = ap (λ b. cond b (suc (copies t i xs)) (copies t i xs)) (and_both (same_task t t) (i == i) (same_self t) (equal_true i i refl))

copies_tail : (t : TaskId) (i : ℕ) (p : TaskId × ℕ) (xs : Places) → copies t i xs ≤ copies t i (p ∷ xs)
copies_tail t i p xs = elim (same_task p.0 t && (p.1 == i)) as (λ b. copies t i xs ≤ cond b (suc (copies t i xs)) (copies t i xs)) [ true ↦ omega arith | false ↦ omega arith ]

members : (ys xs : Places) → ((t : TaskId) (i : ℕ) → copies t i ys ≤ copies t i xs) → list_all (λ q. nat_le 1 (copies q.0 q.1 xs)) ys ≡ true
members [] xs f = refl
members (y ∷ ys) xs f = and_both (nat_le 1 (copies y.0 y.1 xs)) (list_all (λ q. nat_le 1 (copies q.0 q.1 xs)) ys)
    (le_true 1 (copies y.0 y.1 xs) (let a : copies y.0 y.1 (y ∷ ys) ≤ copies y.0 y.1 xs = f y.0 y.1 in let b : copies y.0 y.1 (y ∷ ys) ≡ suc (copies y.0 y.1 ys) = copies_head y.0 y.1 ys in omega (arith, a, b)))
    (members ys xs (λ t i. let a : copies t i (y ∷ ys) ≤ copies t i xs = f t i in let b : copies t i ys ≤ copies t i (y ∷ ys) = copies_tail t i y ys in omega (arith, a, b)))

pub are_members : (xs : Places) → list_all (λ q. nat_le 1 (copies q.0 q.1 xs)) xs ≡ true
are_members xs = members xs xs (λ t i. omega arith)

-- two places of a task are two of its times
copies_two : (t : TaskId) (i j : ℕ) (xs : Places) → i ≢ j → copies t i xs + copies t j xs ≤ times t xs
copies_two t i j [] ne = omega arith
copies_two t i j (p ∷ xs) ne =
    let rest : copies t i xs + copies t j xs ≤ times t xs = copies_two t i j xs ne in
    elim (is_or_not (same_task p.0 t)) [
      | inl s ↦
          let e : times t (p ∷ xs) ≡ suc (times t xs) = ap (λ b. cond b (suc (times t xs)) (times t xs)) s in
          elim (eqb_tells p.1 i) [
            | inl a ↦
                let other : (p.1 == j) ≡ false = elim (eqb_tells p.1 j) [ inl b ↦ absurd (ne (sym a.1 ∙ b.1)) | inr b ↦ b.0 ] in
                let f : copies t j (p ∷ xs) ≡ copies t j xs = ap (λ b. cond b (suc (copies t j xs)) (copies t j xs)) (ap (λ b. same_task p.0 t && b) other ∙ and_false (same_task p.0 t)) in
                let g : copies t i (p ∷ xs) ≤ suc (copies t i xs) = copies_most t i p xs in
                omega (arith, rest, e, f, g)
            | inr a ↦
                let f : copies t i (p ∷ xs) ≡ copies t i xs = ap (λ b. cond b (suc (copies t i xs)) (copies t i xs)) (ap (λ b. same_task p.0 t && b) a.0 ∙ and_false (same_task p.0 t)) in
                let g : copies t j (p ∷ xs) ≤ suc (copies t j xs) = copies_most t j p xs in
                omega (arith, rest, e, f, g)
          ]
      | inr s ↦
          let e : times t (p ∷ xs) ≡ times t xs = ap (λ b. cond b (suc (times t xs)) (times t xs)) s in
          let f : copies t i (p ∷ xs) ≡ copies t i xs = ap (λ b. cond (b && (p.1 == i)) (suc (copies t i xs)) (copies t i xs)) s in
          let g : copies t j (p ∷ xs) ≡ copies t j xs = ap (λ b. cond (b && (p.1 == j)) (suc (copies t j xs)) (copies t j xs)) s in
          omega (arith, rest, e, f, g)
    ]

-- a wanted place is cold
abbrev cold_at : List Held → ℕ → Places → Places → TaskId × ℕ → Bool
cold_at held lag active standby q = not (warm held lag q.1 q.0) && ((copies q.0 q.1 active + copies q.0 q.1 standby) == 0)

not_may : (clients : List Client) (held : List Held) (lag i : ℕ) (t : TaskId) → may_run clients held lag i t ≡ false → warm held lag i t ≡ false
not_may clients held lag i t h = elim (warm held lag i t) as (λ b. (b || not (some_warm clients held lag t)) ≡ false → b ≡ false) [ true ↦ λ e. e | false ↦ λ _. refl ] h

wanted_cold : (clients : List Client) (held : List Held) (lag : ℕ) (active standby : Places) (p : TaskId × ℕ) → ((i : ℕ) → p.1 ≢ i → copies p.0 i active ≡ 0) → (cs : List Client) →
    list_all (λ b. not (outweighs p.1 b.instance active) || not (may_run clients held lag b.instance p.0)) cs ≡ true → list_all (cold_at held lag active standby) (wanted cs active standby p) ≡ true
wanted_cold clients held lag active standby p alone [] h = refl
wanted_cold clients held lag active standby p alone (c ∷ cs) h =
    let rest : list_all (cold_at held lag active standby) (wanted cs active standby p) ≡ true =
    wanted_cold clients held lag active standby p alone cs (and_right (not (outweighs p.1 c.instance active) || not (may_run clients held lag c.instance p.0)) (list_all (λ b. not (outweighs p.1 b.instance active) || not (may_run clients held lag b.instance p.0)) cs) h) in
    let first : (not (outweighs p.1 c.instance active) || not (may_run clients held lag c.instance p.0)) ≡ true = and_left (not (outweighs p.1 c.instance active) || not (may_run clients held lag c.instance p.0)) (list_all (λ b. not (outweighs p.1 b.instance active) || not (may_run clients held lag b.instance p.0)) cs) h in
    elim (is_or_not (outweighs p.1 c.instance active && (copies p.0 c.instance standby == 0))) [
      | inl s ↦
          let off : outweighs p.1 c.instance active ≡ true = and_left (outweighs p.1 c.instance active) (copies p.0 c.instance standby == 0) s in
          let none : copies p.0 c.instance standby ≡ 0 = equal_is (copies p.0 c.instance standby) 0 (and_right (outweighs p.1 c.instance active) (copies p.0 c.instance standby == 0) s) in
          let cannot : may_run clients held lag c.instance p.0 ≡ false = not_is (may_run clients held lag c.instance p.0) (sym (ap (λ b. not b || not (may_run clients held lag c.instance p.0)) off) ∙ first) in
          let cold : not (warm held lag c.instance p.0) ≡ true = ap not (not_may clients held lag c.instance p.0 cannot) in
          let sum : copies p.0 c.instance active + copies p.0 c.instance standby ≡ 0 = omega (arith, none, alone c.instance (outweighs_other p.1 c.instance active off)) in
          subst (λ b. list_all (cold_at held lag active standby) (cond b ((p.0, c.instance) ∷ wanted cs active standby p) (wanted cs active standby p)) ≡ true) (sym s)
          (and_both (not (warm held lag c.instance p.0) && ((copies p.0 c.instance active + copies p.0 c.instance standby) == 0)) (list_all (cold_at held lag active standby) (wanted cs active standby p))
          (and_both (not (warm held lag c.instance p.0)) ((copies p.0 c.instance active + copies p.0 c.instance standby) == 0) cold (equal_true (copies p.0 c.instance active + copies p.0 c.instance standby) 0 sum)) rest)
      | inr s ↦ subst (λ b. list_all (cold_at held lag active standby) (cond b ((p.0, c.instance) ∷ wanted cs active standby p) (wanted cs active standby p)) ≡ true) (sym s) rest
    ]

all_append : {X : Type 0} (p : X → Bool) (xs ys : List X) → list_all p xs ≡ true → list_all p ys ≡ true → list_all p (xs ++ ys) ≡ true
all_append p [] ys h k = k
all_append p (x ∷ xs) ys h k = and_both (p x) (list_all p (xs ++ ys)) (and_left (p x) (list_all p xs) h) (all_append p xs ys (and_right (p x) (list_all p xs) h) k)

all_take : {X : Type 0} (p : X → Bool) (n : ℕ) (xs : List X) → list_all p xs ≡ true → list_all p (take n xs) ≡ true
all_take p zero xs h = refl
all_take p (suc n) [] h = refl
all_take p (suc n) (x ∷ xs) h = and_both (p x) (list_all p (take n xs)) (and_left (p x) (list_all p xs) h) (all_take p n xs (and_right (p x) (list_all p xs) h))

-- an active task is at one place alone
alone_at : (active : Places) (p : TaskId × ℕ) → nat_le 1 (copies p.0 p.1 active) ≡ true → (times p.0 active == 1) ≡ true → (i : ℕ) → p.1 ≢ i → copies p.0 i active ≡ 0
alone_at active p member once i ne =
    let a : 1 ≤ copies p.0 p.1 active = true_le 1 (copies p.0 p.1 active) member in
    let b : times p.0 active ≡ 1 = equal_is (times p.0 active) 1 once in
    let c : copies p.0 p.1 active + copies p.0 i active ≤ times p.0 active = copies_two p.0 p.1 i active ne in
    omega (arith, a, b, c)

all_wanted_cold : (clients : List Client) (held : List Held) (lag : ℕ) (active standby ps : Places) →
    list_all (λ p. nat_le 1 (copies p.0 p.1 active)) ps ≡ true → list_all (λ p. times p.0 active == 1) ps ≡ true → list_all (λ p. stays clients held lag active p) ps ≡ true →
    list_all (cold_at held lag active standby) (all_wanted clients active standby ps) ≡ true
all_wanted_cold clients held lag active standby [] member once stay = refl
all_wanted_cold clients held lag active standby (p ∷ ps) member once stay =
    all_append (cold_at held lag active standby) (wanted clients active standby p) (all_wanted clients active standby ps)
    (wanted_cold clients held lag active standby p
    (alone_at active p (and_left (nat_le 1 (copies p.0 p.1 active)) (list_all (λ q. nat_le 1 (copies q.0 q.1 active)) ps) member) (and_left (times p.0 active == 1) (list_all (λ q. times q.0 active == 1) ps) once))
    clients (and_left (stays clients held lag active p) (list_all (λ q. stays clients held lag active q) ps) stay))
    (all_wanted_cold clients held lag active standby ps
    (and_right (nat_le 1 (copies p.0 p.1 active)) (list_all (λ q. nat_le 1 (copies q.0 q.1 active)) ps) member)
    (and_right (times p.0 active == 1) (list_all (λ q. times q.0 active == 1) ps) once)
    (and_right (stays clients held lag active p) (list_all (λ q. stays clients held lag active q) ps) stay))

places_once : (ps active : Places) → ((t : TaskId) → has_task t (tasks_of ps) ≡ true → times t active ≡ 1) → list_all (λ p. times p.0 active == 1) ps ≡ true
places_once [] active f = refl
places_once (p ∷ ps) active f = and_both (times p.0 active == 1) (list_all (λ q. times q.0 active == 1) ps)
    (equal_true (times p.0 active) 1 (f p.0 (ap (λ b. b || has_task p.0 (tasks_of ps)) (same_self p.0))))
    (places_once ps active (λ t h. f t (elim (same_task p.0 t) as (λ b. (b || has_task t (tasks_of ps)) ≡ true) [ true ↦ refl | false ↦ h ])))

-- point 5
pub warmups_cold : (clients : List Client) (held : List Held) (lag n : ℕ) (active standby : Places) → instances_apart clients ≡ true → tasks_apart (tasks_of active) ≡ true → is_balanced clients held lag active ≡ true → all_cold held lag active standby (take n (all_wanted clients active standby active)) ≡ true
warmups_cold clients held lag n active standby distinct once stay =
    let warmup : Places = take n (all_wanted clients active standby active) in
    all_zip (cold_at held lag active standby) (λ q. nat_le 1 (copies q.0 q.1 (take n (all_wanted clients active standby active))))
    (λ p. not (warm held lag p.1 p.0) && ((copies p.0 p.1 active + copies p.0 p.1 standby + copies p.0 p.1 (take n (all_wanted clients active standby active))) == 1))
    (λ q cold member.
    let zero_is : copies q.0 q.1 active + copies q.0 q.1 standby ≡ 0 = equal_is (copies q.0 q.1 active + copies q.0 q.1 standby) 0 (and_right (not (warm held lag q.1 q.0)) ((copies q.0 q.1 active + copies q.0 q.1 standby) == 0) cold) in
    let a : 1 ≤ copies q.0 q.1 (take n (all_wanted clients active standby active)) = true_le 1 _ member in
    let b : copies q.0 q.1 (take n (all_wanted clients active standby active)) ≤ copies q.0 q.1 (all_wanted clients active standby active) = copies_take q.0 q.1 n (all_wanted clients active standby active) in
    let c : copies q.0 q.1 (all_wanted clients active standby active) ≤ 1 = all_wanted_once clients active standby q.0 q.1 active distinct once in
    and_both (not (warm held lag q.1 q.0)) ((copies q.0 q.1 active + copies q.0 q.1 standby + copies q.0 q.1 (take n (all_wanted clients active standby active))) == 1)
    (and_left (not (warm held lag q.1 q.0)) ((copies q.0 q.1 active + copies q.0 q.1 standby) == 0) cold)
    (equal_true (copies q.0 q.1 active + copies q.0 q.1 standby + copies q.0 q.1 (take n (all_wanted clients active standby active))) 1 (omega (arith, zero_is, a, b, c))))
    (take n (all_wanted clients active standby active))
    (all_take (cold_at held lag active standby) n (all_wanted clients active standby active)
    (all_wanted_cold clients held lag active standby active (are_members active) (places_once active active (λ t h. times_one t active once h)) stay))
    (are_members (take n (all_wanted clients active standby active)))

-- what is wanted is there
prepared_one : (active standby warmup : Places) (p : TaskId × ℕ) (cs : List Client) → ((t : TaskId) (i : ℕ) → copies t i (wanted cs active standby p) ≤ copies t i warmup) →
    list_all (λ b. not (outweighs p.1 b.instance active) || nat_le 1 (copies p.0 b.instance standby + copies p.0 b.instance warmup)) cs ≡ true
prepared_one active standby warmup p [] f = refl
prepared_one active standby warmup p (c ∷ cs) f =
    elim (is_or_not (outweighs p.1 c.instance active && (copies p.0 c.instance standby == 0))) [
      | inl s ↦
          let is : wanted (c ∷ cs) active standby p ≡ (p.0, c.instance) ∷ wanted cs active standby p = ap (λ b. cond b ((p.0, c.instance) ∷ wanted cs active standby p) (wanted cs active standby p)) s in
          let one : copies p.0 c.instance (wanted (c ∷ cs) active standby p) ≡ suc (copies p.0 c.instance (wanted cs active standby p)) = ap (copies p.0 c.instance) is ∙ copies_head p.0 c.instance (wanted cs active standby p) in
          let in_it : copies p.0 c.instance (wanted (c ∷ cs) active standby p) ≤ copies p.0 c.instance warmup = f p.0 c.instance in
          and_both (not (outweighs p.1 c.instance active) || nat_le 1 (copies p.0 c.instance standby + copies p.0 c.instance warmup)) (list_all (λ b. not (outweighs p.1 b.instance active) || nat_le 1 (copies p.0 b.instance standby + copies p.0 b.instance warmup)) cs)
          (or_true (not (outweighs p.1 c.instance active)) _ (le_true 1 (copies p.0 c.instance standby + copies p.0 c.instance warmup) (omega (arith, one, in_it))))
          (prepared_one active standby warmup p cs (λ t i. let a : copies t i (wanted (c ∷ cs) active standby p) ≤ copies t i warmup = f t i in let b : copies t i (wanted (c ∷ cs) active standby p) ≡ copies t i ((p.0, c.instance) ∷ wanted cs active standby p) = ap (copies t i) is in let d : copies t i (wanted cs active standby p) ≤ copies t i ((p.0, c.instance) ∷ wanted cs active standby p) = copies_tail t i (p.0, c.instance) (wanted cs active standby p) in omega (arith, a, b, d)))
      | inr s ↦
          let is : wanted (c ∷ cs) active standby p ≡ wanted cs active standby p = ap (λ b. cond b ((p.0, c.instance) ∷ wanted cs active standby p) (wanted cs active standby p)) s in
          and_both (not (outweighs p.1 c.instance active) || nat_le 1 (copies p.0 c.instance standby + copies p.0 c.instance warmup)) (list_all (λ b. not (outweighs p.1 b.instance active) || nat_le 1 (copies p.0 b.instance standby + copies p.0 b.instance warmup)) cs)
          (elim (is_or_not (outweighs p.1 c.instance active)) [
            | inl a ↦
                let some : copies p.0 c.instance standby ≢ 0 = λ e. false_not_true (sym s ∙ and_both (outweighs p.1 c.instance active) (copies p.0 c.instance standby == 0) a (equal_true (copies p.0 c.instance standby) 0 e)) in
                or_true (not (outweighs p.1 c.instance active)) _ (le_true 1 (copies p.0 c.instance standby + copies p.0 c.instance warmup) (omega (arith, some)))
            | inr a ↦ ap (λ b. not b || nat_le 1 (copies p.0 c.instance standby + copies p.0 c.instance warmup)) a
          ])
          (prepared_one active standby warmup p cs (λ t i. let a : copies t i (wanted (c ∷ cs) active standby p) ≤ copies t i warmup = f t i in let b : copies t i (wanted (c ∷ cs) active standby p) ≡ copies t i (wanted cs active standby p) = ap (copies t i) is in omega (arith, a, b)))
    ]

prepared_all : (clients : List Client) (active standby warmup ps : Places) → ((t : TaskId) (i : ℕ) → copies t i (all_wanted clients active standby ps) ≤ copies t i warmup) → list_all (λ p. is_prepared clients active standby warmup p) ps ≡ true
prepared_all clients active standby warmup [] f = refl
prepared_all clients active standby warmup (p ∷ ps) f =
    and_both (is_prepared clients active standby warmup p) (list_all (λ q. is_prepared clients active standby warmup q) ps)
    (prepared_one active standby warmup p clients (λ t i. let a : copies t i (all_wanted clients active standby (p ∷ ps)) ≤ copies t i warmup = f t i in omega (arith, a, copies_append t i (wanted clients active standby p) (all_wanted clients active standby ps))))
    (prepared_all clients active standby warmup ps (λ t i. let a : copies t i (all_wanted clients active standby (p ∷ ps)) ≤ copies t i warmup = f t i in omega (arith, a, copies_append t i (wanted clients active standby p) (all_wanted clients active standby ps))))

take_whole : {X : Type 0} (n : ℕ) (xs : List X) → length xs ≤ n → take n xs ≡ xs
take_whole zero [] l = refl
take_whole zero (x ∷ xs) l = absurd (omega arith)
take_whole (suc n) [] l = refl
take_whole (suc n) (x ∷ xs) l = ap (λ ys. x ∷ ys) (take_whole n xs (omega arith))

take_full : {X : Type 0} (n : ℕ) (xs : List X) → n ≤ length xs → length (take n xs) ≡ n
take_full zero xs l = refl
take_full (suc n) [] l = absurd (omega arith)
take_full (suc n) (x ∷ xs) l = ap (λ k. suc k) (take_full n xs (omega arith))

-- point 6
pub warmups_prepared : (clients : List Client) (n : ℕ) (active standby : Places) → (nat_le n (length (take n (all_wanted clients active standby active))) || all_prepared clients active standby (take n (all_wanted clients active standby active))) ≡ true
warmups_prepared clients n active standby =
    elim (leb_tells n (length (all_wanted clients active standby active))) [
      | inl s ↦ ap (λ b. b || all_prepared clients active standby (take n (all_wanted clients active standby active))) (le_true n (length (take n (all_wanted clients active standby active))) (let e : length (take n (all_wanted clients active standby active)) ≡ n = take_full n (all_wanted clients active standby active) s.1 in omega (arith, e)))
      | inr s ↦ or_true (nat_le n (length (take n (all_wanted clients active standby active)))) _
          (prepared_all clients active standby (take n (all_wanted clients active standby active)) active
          (λ t i. let whole : take n (all_wanted clients active standby active) ≡ all_wanted clients active standby active = take_whole n (all_wanted clients active standby active) (omega (arith, s.1)) in
          let e : copies t i (take n (all_wanted clients active standby active)) ≡ copies t i (all_wanted clients active standby active) = ap (copies t i) whole in omega (arith, e)))
    ]
