-- A move from a client to one with at least two tasks less leaves fewer pairs
use Rattle.std.proofs.Common.{◌≡◌, ◌≢◌, ℕ, zero, suc, ◌+◌, ◌<◌, ◌≤◌, ◌==◌, Bool, true, false, cond, nat_lt, nat_le, List, [], ◌∷◌, ◌++◌, length, get_or, set, refl, sym, ap, subst, ◌∙◌, arith, inl, inr}
use Rattle.std.specs.List.{list_all}
use Rattle.std.proofs.lemmas.Bool.Decides.{eqb_tells, leb_tells, nat_tests}
use Rattle.ks_record.specs.declared.record.TaskId.{TaskId}
use Rattle.ks_assign.specs.declared.clients.Client.{Client}
use Rattle.ks_assign.specs.declared.clients.Held.{Held}
use Rattle.ks_assign.specs.Placement.{Places, by_client, home, load, may_run, outweighs, runs_warm}
use Rattle.ks_assign.specs.Steps.{IsPlan, pairs, tasks_of}
use Rattle.ks_assign.proofs.Homes.{and_left, and_right, and_both}

abbrev pub here : ℕ → ℕ → ℕ
here a b = cond {A = ℕ} (a == b) 1 0

pub load_cons : (i : ℕ) (p : TaskId × ℕ) (ps : Places) → load i (p ∷ ps) ≡ here p.1 i + load i ps
load_cons i p ps = elim (p.1 == i) as (λ b. cond b (suc (load i ps)) (load i ps) ≡ cond {A = ℕ} b 1 0 + load i ps) [ true ↦ omega arith | false ↦ omega arith ]

load_set : (i : ℕ) (ps : Places) (k : ℕ) (q d : TaskId × ℕ) → k < length ps → load i (set ps k q) + here (get_or ps k d).1 i ≡ load i ps + here q.1 i
load_set i [] k q d l = absurd (omega arith)
load_set i (p ∷ ps) zero q d l = omega (arith, load_cons i p ps, load_cons i q ps)
load_set i (p ∷ ps) (suc k) q d l =
    let h : load i (set ps k q) + here (get_or ps k d).1 i ≡ load i ps + here q.1 i = load_set i ps k q d (omega arith) in
    omega (arith, load_cons i p ps, load_cons i p (set ps k q), h)

pub here_same : (a : ℕ) → here a a ≡ 1
here_same a = elim (eqb_tells a a) [ inl e ↦ ap (λ b. cond {A = ℕ} b 1 0) e.0 | inr e ↦ absurd (e.1 refl) ]

pub here_other : (a b : ℕ) → a ≢ b → here a b ≡ 0
here_other a b ne = elim (eqb_tells a b) [ inl e ↦ absurd (ne e.1) | inr e ↦ ap (λ b. cond {A = ℕ} b 1 0) e.0 ]

pub here_sym : (a b : ℕ) → here a b ≡ here b a
here_sym a b = elim (eqb_tells a b) [
  | inl e ↦ ap (λ x. here x b) e.1 ∙ ap (λ x. here b x) (sym e.1)
  | inr e ↦ here_other a b e.1 ∙ sym (here_other b a (λ s. e.1 (sym s)))
]

pairs_set : (ps : Places) (k : ℕ) (q d : TaskId × ℕ) → k < length ps → (get_or ps k d).1 ≢ q.1 → pairs (set ps k q) + load (get_or ps k d).1 ps ≡ pairs ps + load q.1 ps + 1
pairs_set [] k q d l ne = absurd (omega arith)
pairs_set (p ∷ ps) zero q d l ne = omega (arith, load_cons p.1 p ps, load_cons q.1 p ps, here_same p.1, here_other p.1 q.1 ne)
pairs_set (p ∷ ps) (suc k) q d l ne =
    let h : pairs (set ps k q) + load (get_or ps k d).1 ps ≡ pairs ps + load q.1 ps + 1 = pairs_set ps k q d (omega arith) ne in
    let s : load p.1 (set ps k q) + here (get_or ps k d).1 p.1 ≡ load p.1 ps + here q.1 p.1 = load_set p.1 ps k q d (omega arith) in
    omega (arith, load_cons (get_or ps k d).1 p ps, load_cons q.1 p ps, here_sym p.1 (get_or ps k d).1, here_sym p.1 q.1, h, s)

pub by_client_set : (clients : List Client) (ps : Places) (k : ℕ) (q : TaskId × ℕ) → by_client clients (set ps k q) ≡ set (by_client clients ps) k (q.0, home clients q.1)
by_client_set clients [] k q = refl
by_client_set clients (p ∷ ps) zero q = refl
by_client_set clients (p ∷ ps) (suc k) q = ap (λ r. (p.0, home clients p.1) ∷ r) (by_client_set clients ps k q)

by_client_at : (clients : List Client) (ps : Places) (k : ℕ) (d : TaskId × ℕ) → get_or (by_client clients ps) k (d.0, home clients d.1) ≡ ((get_or ps k d).0, home clients (get_or ps k d).1)
by_client_at clients [] k d = refl
by_client_at clients (p ∷ ps) zero d = refl
by_client_at clients (p ∷ ps) (suc k) d = by_client_at clients ps k d

pub by_client_length : (clients : List Client) (ps : Places) → length (by_client clients ps) ≡ length ps
by_client_length clients [] = refl
by_client_length clients (p ∷ ps) = ap (λ n. suc n) (by_client_length clients ps)

pub outweighs_other : (a b : ℕ) (ps : Places) → outweighs a b ps ≡ true → a ≢ b
outweighs_other a b ps f e =
    let h : nat_le (load b ps + 2) (load b ps) ≡ true = subst (λ x. outweighs x b ps ≡ true) e f in
    elim (leb_tells (load b ps + 2) (load b ps)) [ inl t ↦ omega (arith, t.1) | inr t ↦ cc ]

pub outweighs_loads : (a b : ℕ) (ps : Places) → outweighs a b ps ≡ true → load b ps + 2 ≤ load a ps
outweighs_loads a b ps f = elim (leb_tells (load b ps + 2) (load a ps)) [ inl t ↦ t.1 | inr t ↦ absurd cc ]

pub move_less : (clients : List Client) (ps : Places) (k : ℕ) (q d : TaskId × ℕ) → k < length ps → outweighs (home clients (get_or ps k d).1) (home clients q.1) (by_client clients ps) ≡ true → pairs (by_client clients (set ps k q)) < pairs (by_client clients ps)
move_less clients ps k q d l f =
    let within : k < length (by_client clients ps) = omega (arith, by_client_length clients ps) in
    let is : (get_or (by_client clients ps) k (d.0, home clients d.1)).1 ≡ home clients (get_or ps k d).1 = ap (λ p. p.1) (by_client_at clients ps k d) in
    let h : pairs (set (by_client clients ps) k (q.0, home clients q.1)) + load (home clients (get_or ps k d).1) (by_client clients ps) ≡ pairs (by_client clients ps) + load (home clients q.1) (by_client clients ps) + 1 =
    subst (λ x. pairs (set (by_client clients ps) k (q.0, home clients q.1)) + load x (by_client clients ps) ≡ pairs (by_client clients ps) + load (home clients q.1) (by_client clients ps) + 1) is
    (pairs_set (by_client clients ps) k (q.0, home clients q.1) (d.0, home clients d.1) within (λ e. outweighs_other _ _ (by_client clients ps) f (sym is ∙ e))) in
    let loads : load (home clients q.1) (by_client clients ps) + 2 ≤ load (home clients (get_or ps k d).1) (by_client clients ps) = outweighs_loads (home clients (get_or ps k d).1) (home clients q.1) (by_client clients ps) f in
    let same : pairs (by_client clients (set ps k q)) ≡ pairs (set (by_client clients ps) k (q.0, home clients q.1)) = ap pairs (by_client_set clients ps k q) in
    omega (arith, h, loads, same)

pub all_set : {X : Type 0} (p : X → Bool) (xs : List X) (k : ℕ) (y : X) → p y ≡ true → list_all p xs ≡ true → list_all p (set xs k y) ≡ true
all_set p [] k y h a = a
all_set p (x ∷ xs) zero y h a = and_both (p y) (list_all p xs) h (and_right (p x) (list_all p xs) a)
all_set p (x ∷ xs) (suc k) y h a = and_both (p x) (list_all p (set xs k y)) (and_left (p x) (list_all p xs) a) (all_set p xs k y h (and_right (p x) (list_all p xs) a))

tasks_of_set : (ps : Places) (k w : ℕ) (d : TaskId × ℕ) → k < length ps → tasks_of (set ps k ((get_or ps k d).0, w)) ≡ tasks_of ps
tasks_of_set [] k w d l = refl
tasks_of_set (p ∷ ps) zero w d l = refl
tasks_of_set (p ∷ ps) (suc k) w d l = ap (λ ts. p.0 ∷ ts) (tasks_of_set ps k w d (omega arith))

-- a move to a place where it runs leaves a plan
pub move_plan : (tasks : List TaskId) (clients : List Client) (held : List Held) (lag : ℕ) (ps : Places) (k w : ℕ) (d : TaskId × ℕ) → k < length ps → IsPlan tasks clients held lag ps → may_run clients held lag (home clients w) (get_or ps k d).0 ≡ true → nat_lt (home clients w) 256 ≡ true → IsPlan tasks clients held lag (set ps k ((get_or ps k d).0, w))
move_plan tasks clients held lag ps k w d l plan m at = record {
  tasks_are = tasks_of_set ps k w d l ∙ plan.tasks_are;
  homes = all_set (λ p. nat_lt (home clients p.1) 256) ps k ((get_or ps k d).0, w) at plan.homes;
  runs = subst (λ xs. runs_warm clients held lag xs ≡ true) (sym (by_client_set clients ps k ((get_or ps k d).0, w)))
      (all_set (λ p. may_run clients held lag p.1 p.0) (by_client clients ps) k ((get_or ps k d).0, home clients w) m plan.runs);
}

pub plan_nil : (clients : List Client) (held : List Held) (lag : ℕ) → IsPlan [] clients held lag []
plan_nil clients held lag = record { tasks_are = refl; homes = refl; runs = refl }

pub by_client_push : (clients : List Client) (ps : Places) (q : TaskId × ℕ) → by_client clients (ps ++ q ∷ []) ≡ by_client clients ps ++ (q.0, home clients q.1) ∷ []
by_client_push clients [] q = refl
by_client_push clients (p ∷ ps) q = ap (λ r. (p.0, home clients p.1) ∷ r) (by_client_push clients ps q)

pub tasks_of_push : (ps : Places) (q : TaskId × ℕ) → tasks_of (ps ++ q ∷ []) ≡ tasks_of ps ++ q.0 ∷ []
tasks_of_push [] q = refl
tasks_of_push (p ∷ ps) q = ap (λ r. p.0 ∷ r) (tasks_of_push ps q)

pub all_push : {X : Type 0} (p : X → Bool) (xs : List X) (y : X) → list_all p xs ≡ true → p y ≡ true → list_all p (xs ++ y ∷ []) ≡ true
all_push p [] y a h = and_both (p y) true h refl
all_push p (x ∷ xs) y a h = and_both (p x) (list_all p (xs ++ y ∷ [])) (and_left (p x) (list_all p xs) a) (all_push p xs y (and_right (p x) (list_all p xs) a) h)

pub plan_push : (tasks : List TaskId) (clients : List Client) (held : List Held) (lag : ℕ) (ps : Places) (t : TaskId) (w : ℕ) → IsPlan tasks clients held lag ps → may_run clients held lag (home clients w) t ≡ true → home clients w < 256 → IsPlan (tasks ++ t ∷ []) clients held lag (ps ++ (t, w) ∷ [])
plan_push tasks clients held lag ps t w plan m at = record {
  tasks_are = tasks_of_push ps (t, w) ∙ ap (λ r. r ++ t ∷ []) plan.tasks_are;
  homes = all_push (λ p. nat_lt (home clients p.1) 256) ps (t, w) plan.homes (grind (arith, nat_tests));
  runs = subst (λ xs. runs_warm clients held lag xs ≡ true) (sym (by_client_push clients ps (t, w)))
      (all_push (λ p. may_run clients held lag p.1 p.0) (by_client clients ps) (t, home clients w) plan.runs m);
}

pub plan_more : (tasks tasks' : List TaskId) (clients : List Client) (held : List Held) (lag : ℕ) (ps ps' : Places) (t : TaskId) (w : ℕ) → IsPlan tasks clients held lag ps → may_run clients held lag (home clients w) t ≡ true → home clients w < 256 → tasks' ≡ tasks ++ t ∷ [] → ps' ≡ ps ++ (t, w) ∷ [] → IsPlan tasks' clients held lag ps'
plan_more tasks tasks' clients held lag ps ps' t w plan m at ts is =
    subst (λ (xs : Places). IsPlan tasks' clients held lag xs) (sym is)
    (subst (λ (us : List TaskId). IsPlan us clients held lag (ps ++ (t, w) ∷ [])) (sym ts) (plan_push tasks clients held lag ps t w plan m at))
