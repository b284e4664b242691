-- The standbys of a plan
use Rattle.std.proofs.Common.{◌≡◌, ◌≢◌, ℕ, zero, suc, ◌+◌, ◌-◌, ◌≤◌, ◌==◌, ◌&&◌, ◌||◌, not, Bool, true, false, cond, min, nat_le, List, [], ◌∷◌, ◌++◌, length, take, refl, sym, ap, subst, ◌∙◌, arith, ◌⊎◌, inl, inr}
use Rattle.std.specs.List.{list_all}
use Rattle.std.proofs.lemmas.Bool.Decides.{eqb_tells}
use Rattle.ks_record.specs.declared.record.TaskId.{TaskId}
use Rattle.ks_assign.specs.declared.clients.Client.{Client}
use Rattle.ks_record.specs.Parts.{same_task}
use Rattle.ks_assign.specs.Placement.{Places, is_spread, copies, each_once, has_instance, has_standbys, has_task, instances_apart, tasks_apart, times}
use Rattle.ks_assign.specs.Steps.{all_others, others, tasks_of, wanted}
use Rattle.ks_assign.proofs.Homes.{and_left, and_right, and_both, false_not_true}
use Rattle.ks_assign.proofs.Even.{le_true}

pub and_false : (a : Bool) → (a && false) ≡ false
and_false true = refl
and_false false = refl

pub equal_true : (a b : ℕ) → a ≡ b → (a == b) ≡ true
equal_true a b e = elim (eqb_tells a b) [ inl t ↦ t.0 | inr t ↦ absurd (t.1 e) ]

pub same_self : (t : TaskId) → same_task t t ≡ true
same_self t = and_both (t.sub == t.sub) (t.part == t.part) (equal_true t.sub t.sub refl) (equal_true t.part t.part refl)

length_take : {X : Type 0} (n : ℕ) (xs : List X) → length (take n xs) ≡ min n (length xs)
length_take zero xs = omega arith
length_take (suc n) [] = omega arith
length_take (suc n) (x ∷ xs) = let h : length (take n xs) ≡ min n (length xs) = length_take n xs in omega (arith, h)

copies_more : (t : TaskId) (i : ℕ) (p : TaskId × ℕ) (ps : Places) → copies t i (p ∷ ps) ≤ suc (copies t i ps)
copies_more t i p ps = elim (same_task p.0 t && (p.1 == i)) as (λ b. cond b (suc (copies t i ps)) (copies t i ps) ≤ suc (copies t i ps)) [ true ↦ omega arith | false ↦ omega arith ]

-- a task is in one class or the other, by its two numbers
pub same_tells : (t u : TaskId) → ((same_task t u ≡ true) × (t ≡ u)) ⊎ ((same_task t u ≡ false) × (t ≢ u))
same_tells t u =
    elim (eqb_tells t.sub u.sub) [
      | inl s ↦ elim (eqb_tells t.part u.part) [
        | inl p ↦ inl (and_both (t.sub == u.sub) (t.part == u.part) s.0 p.0, λ i. record { sub = s.1 i; part = p.1 i })
        | inr p ↦ inr (ap (λ b. (t.sub == u.sub) && b) p.0 ∙ and_false (t.sub == u.sub), λ (e : t ≡ u). p.1 (ap (λ (x : TaskId). x.part) e))
      ]
      | inr s ↦ inr (ap (λ b. b && (t.part == u.part)) s.0, λ (e : t ≡ u). s.1 (ap (λ (x : TaskId). x.sub) e))
    ]

pub is_or_not : (b : Bool) → (b ≡ true) ⊎ (b ≡ false)
is_or_not true = inl refl
is_or_not false = inr refl

pub times_append : (t : TaskId) (xs ys : Places) → times t (xs ++ ys) ≡ times t xs + times t ys
times_append t [] ys = omega arith
times_append t (p ∷ xs) ys =
    elim (same_task p.0 t) as (λ b. cond b (suc (times t (xs ++ ys))) (times t (xs ++ ys)) ≡ cond b (suc (times t xs)) (times t xs) + times t ys) [
      | true ↦ omega (arith, times_append t xs ys)
      | false ↦ times_append t xs ys
    ]

pub copies_append : (t : TaskId) (i : ℕ) (xs ys : Places) → copies t i (xs ++ ys) ≡ copies t i xs + copies t i ys
copies_append t i [] ys = omega arith
copies_append t i (p ∷ xs) ys =
    elim (same_task p.0 t && (p.1 == i)) as (λ b. cond b (suc (copies t i (xs ++ ys))) (copies t i (xs ++ ys)) ≡ cond b (suc (copies t i xs)) (copies t i xs) + copies t i ys) [
      | true ↦ omega (arith, copies_append t i xs ys)
      | false ↦ copies_append t i xs ys
    ]

pub copies_take : (t : TaskId) (i n : ℕ) (xs : Places) → copies t i (take n xs) ≤ copies t i xs
copies_take t i zero xs = omega arith
copies_take t i (suc n) [] = omega arith
copies_take t i (suc n) (p ∷ xs) =
    elim (same_task p.0 t && (p.1 == i)) as (λ b. cond b (suc (copies t i (take n xs))) (copies t i (take n xs)) ≤ cond b (suc (copies t i xs)) (copies t i xs)) [
      | true ↦ omega (arith, copies_take t i n xs)
      | false ↦ copies_take t i n xs
    ]

pub copies_times : (t : TaskId) (i : ℕ) (xs : Places) → copies t i xs ≤ times t xs
copies_times t i [] = omega arith
copies_times t i (p ∷ xs) =
    elim (same_task p.0 t) as (λ b. cond (b && (p.1 == i)) (suc (copies t i xs)) (copies t i xs) ≤ cond b (suc (times t xs)) (times t xs)) [
      | true ↦ elim (p.1 == i) as (λ b. cond b (suc (copies t i xs)) (copies t i xs) ≤ suc (times t xs)) [ true ↦ omega (arith, copies_times t i xs) | false ↦ omega (arith, copies_times t i xs) ]
      | false ↦ copies_times t i xs
    ]

-- a task that isn't named has absent places
pub times_none : (t : TaskId) (xs : Places) → has_task t (tasks_of xs) ≡ false → times t xs ≡ 0
times_none t [] h = refl
times_none t (p ∷ xs) h =
    elim (is_or_not (same_task p.0 t)) [
      | inl s ↦ absurd (false_not_true (sym h ∙ ap (λ b. b || has_task t (tasks_of xs)) s))
      | inr s ↦ ap (λ b. cond b (suc (times t xs)) (times t xs)) s ∙ times_none t xs (sym (ap (λ b. b || has_task t (tasks_of xs)) s) ∙ h)
    ]

pub not_is : (b : Bool) → not b ≡ true → b ≡ false
not_is true h = sym h
not_is false h = refl

pub times_one : (t : TaskId) (ps : Places) → tasks_apart (tasks_of ps) ≡ true → has_task t (tasks_of ps) ≡ true → times t ps ≡ 1
times_one t [] once has = absurd (false_not_true has)
times_one t (p ∷ ps) once has =
    elim (same_tells p.0 t) [
      | inl s ↦
          let absent : has_task t (tasks_of ps) ≡ false = subst (λ (x : TaskId). has_task x (tasks_of ps) ≡ false) s.1 (not_is (has_task p.0 (tasks_of ps)) (and_left (not (has_task p.0 (tasks_of ps))) (tasks_apart (tasks_of ps)) once)) in
          ap (λ b. cond b (suc (times t ps)) (times t ps)) s.0 ∙ ap (λ k. suc k) (times_none t ps absent)
      | inr s ↦ ap (λ b. cond b (suc (times t ps)) (times t ps)) s.0 ∙ times_one t ps (and_right (not (has_task p.0 (tasks_of ps))) (tasks_apart (tasks_of ps)) once) (sym (ap (λ b. b || has_task t (tasks_of ps)) s.0) ∙ has)
    ]

-- the others of one task

others_own : (cs : List Client) (h : ℕ) (t : TaskId) (n : ℕ) → times t (take n (others cs h t)) ≡ length (take n (others cs h t))
others_own cs h t zero = refl
others_own [] h t (suc n) = refl
others_own (c ∷ cs) h t (suc n) =
    elim (c.instance == h) as (λ b. times t (take (suc n) (cond b (others cs h t) ((t, c.instance) ∷ others cs h t))) ≡ length (take (suc n) (cond b (others cs h t) ((t, c.instance) ∷ others cs h t)))) [
      | true ↦ others_own cs h t (suc n)
      | false ↦ ap (λ b. cond b (suc (times t (take n (others cs h t)))) (times t (take n (others cs h t)))) (same_self t) ∙ ap (λ k. suc k) (others_own cs h t n)
    ]

others_tasks : (cs : List Client) (h : ℕ) (t u : TaskId) (n : ℕ) → same_task u t ≡ false → times t (take n (others cs h u)) ≡ 0
others_tasks cs h t u zero d = refl
others_tasks [] h t u (suc n) d = refl
others_tasks (c ∷ cs) h t u (suc n) d =
    elim (c.instance == h) as (λ b. times t (take (suc n) (cond b (others cs h u) ((u, c.instance) ∷ others cs h u))) ≡ 0) [
      | true ↦ others_tasks cs h t u (suc n) d
      | false ↦ ap (λ b. cond b (suc (times t (take n (others cs h u)))) (times t (take n (others cs h u)))) d ∙ others_tasks cs h t u n d
    ]

others_all : (cs : List Client) (h : ℕ) (t : TaskId) → has_instance h cs ≡ false → length (others cs h t) ≡ length cs
others_all [] h t absent = refl
others_all (c ∷ cs) h t absent =
    elim (is_or_not (c.instance == h)) [
      | inl s ↦ absurd (false_not_true (sym absent ∙ ap (λ b. b || has_instance h cs) s))
      | inr s ↦ ap (λ b. length (cond b (others cs h t) ((t, c.instance) ∷ others cs h t))) s ∙ ap (λ k. suc k) (others_all cs h t (sym (ap (λ b. b || has_instance h cs) s) ∙ absent))
    ]

-- there is one other less than there are clients
others_less : (cs : List Client) (h : ℕ) (t : TaskId) → instances_apart cs ≡ true → has_instance h cs ≡ true → length (others cs h t) + 1 ≡ length cs
others_less [] h t distinct has = absurd (false_not_true has)
others_less (c ∷ cs) h t distinct has =
    elim (eqb_tells c.instance h) [
      | inl s ↦
          let absent : has_instance h cs ≡ false = subst (λ (x : ℕ). has_instance x cs ≡ false) s.1 (not_is (has_instance c.instance cs) (and_left (not (has_instance c.instance cs)) (instances_apart cs) distinct)) in
          let is : length (others (c ∷ cs) h t) ≡ length (others cs h t) = ap (λ b. length (cond b (others cs h t) ((t, c.instance) ∷ others cs h t))) s.0 in
          omega (arith, is, others_all cs h t absent)
      | inr s ↦
          let has' : has_instance h cs ≡ true = sym (ap (λ b. b || has_instance h cs) s.0) ∙ has in
          let is : length (others (c ∷ cs) h t) ≡ suc (length (others cs h t)) = ap (λ b. length (cond b (others cs h t) ((t, c.instance) ∷ others cs h t))) s.0 in
          omega (arith, is, others_less cs h t (and_right (not (has_instance c.instance cs)) (instances_apart cs) distinct) has')
    ]

-- the others of a task are not at its own client, and each once
others_own_none : (cs : List Client) (h : ℕ) (t u : TaskId) → copies t h (others cs h u) ≡ 0
others_own_none [] h t u = refl
others_own_none (c ∷ cs) h t u =
    elim (is_or_not (c.instance == h)) [
      | inl s ↦ ap (λ b. copies t h (cond b (others cs h u) ((u, c.instance) ∷ others cs h u))) s ∙ others_own_none cs h t u
      | inr s ↦ ap (λ b. copies t h (cond b (others cs h u) ((u, c.instance) ∷ others cs h u))) s
          ∙ ap (λ b. cond (same_task u t && b) (suc (copies t h (others cs h u))) (copies t h (others cs h u))) s
          ∙ ap (λ b. cond b (suc (copies t h (others cs h u))) (copies t h (others cs h u))) (and_false (same_task u t)) ∙ others_own_none cs h t u
    ]

others_none : (cs : List Client) (h i : ℕ) (t u : TaskId) → has_instance i cs ≡ false → copies t i (others cs h u) ≡ 0
others_none [] h i t u absent = refl
others_none (c ∷ cs) h i t u absent =
    elim (is_or_not (c.instance == i)) [
      | inl s ↦ absurd (false_not_true (sym absent ∙ ap (λ b. b || has_instance i cs) s))
      | inr s ↦
          let rest : copies t i (others cs h u) ≡ 0 = others_none cs h i t u (sym (ap (λ b. b || has_instance i cs) s) ∙ absent) in
          elim (c.instance == h) as (λ b. copies t i (cond b (others cs h u) ((u, c.instance) ∷ others cs h u)) ≡ 0) [
            | true ↦ rest
            | false ↦ ap (λ b. cond (same_task u t && b) (suc (copies t i (others cs h u))) (copies t i (others cs h u))) s
                ∙ ap (λ b. cond b (suc (copies t i (others cs h u))) (copies t i (others cs h u))) (and_false (same_task u t)) ∙ rest
          ]
    ]

pub others_once : (cs : List Client) (h i : ℕ) (t u : TaskId) → instances_apart cs ≡ true → copies t i (others cs h u) ≤ 1
others_once [] h i t u distinct = omega arith
others_once (c ∷ cs) h i t u distinct =
    let rest : copies t i (others cs h u) ≤ 1 = others_once cs h i t u (and_right (not (has_instance c.instance cs)) (instances_apart cs) distinct) in
    elim (c.instance == h) as (λ b. copies t i (cond b (others cs h u) ((u, c.instance) ∷ others cs h u)) ≤ 1) [
      | true ↦ rest
      | false ↦ elim (eqb_tells c.instance i) [
        | inl s ↦
            let absent : has_instance i cs ≡ false = subst (λ (x : ℕ). has_instance x cs ≡ false) s.1 (not_is (has_instance c.instance cs) (and_left (not (has_instance c.instance cs)) (instances_apart cs) distinct)) in
            let none : copies t i (others cs h u) ≡ 0 = others_none cs h i t u absent in
            elim (same_task u t && (c.instance == i)) as (λ b. cond b (suc (copies t i (others cs h u))) (copies t i (others cs h u)) ≤ 1) [ true ↦ omega (arith, none) | false ↦ rest ]
        | inr s ↦ subst (λ b. cond b (suc (copies t i (others cs h u))) (copies t i (others cs h u)) ≤ 1) (sym (ap (λ b. same_task u t && b) s.0 ∙ and_false (same_task u t))) rest
      ]
    ]

-- the others of all tasks
pub others_absent : (cs : List Client) (n : ℕ) (t : TaskId) (ps : Places) → has_task t (tasks_of ps) ≡ false → times t (all_others cs n ps) ≡ 0
others_absent cs n t [] absent = refl
others_absent cs n t (p ∷ ps) absent =
    elim (is_or_not (same_task p.0 t)) [
      | inl s ↦ absurd (false_not_true (sym absent ∙ ap (λ b. b || has_task t (tasks_of ps)) s))
      | inr s ↦
          let rest : times t (all_others cs n ps) ≡ 0 = others_absent cs n t ps (sym (ap (λ b. b || has_task t (tasks_of ps)) s) ∙ absent) in
          omega (arith, times_append t (take n (others cs p.1 p.0)) (all_others cs n ps), others_tasks cs p.1 t p.0 n s, rest)
    ]

abbrev pub all_there : List Client → Places → Bool
all_there cs ps = list_all (λ p. has_instance p.1 cs) ps

pub others_times : (cs : List Client) (n : ℕ) (t : TaskId) (ps : Places) → instances_apart cs ≡ true → all_there cs ps ≡ true → tasks_apart (tasks_of ps) ≡ true → has_task t (tasks_of ps) ≡ true → times t (all_others cs n ps) ≡ min n (length cs - 1)
others_times cs n t [] distinct there once has = absurd (false_not_true has)
others_times cs n t (p ∷ ps) distinct there once has =
    elim (same_tells p.0 t) [
      | inl s ↦
          let absent : has_task t (tasks_of ps) ≡ false = subst (λ (x : TaskId). has_task x (tasks_of ps) ≡ false) s.1 (not_is (has_task p.0 (tasks_of ps)) (and_left (not (has_task p.0 (tasks_of ps))) (tasks_apart (tasks_of ps)) once)) in
          let own : times t (take n (others cs p.1 p.0)) ≡ length (take n (others cs p.1 p.0)) = subst (λ (x : TaskId). times x (take n (others cs p.1 p.0)) ≡ length (take n (others cs p.1 p.0))) s.1 (others_own cs p.1 p.0 n) in
          let less : length (others cs p.1 p.0) + 1 ≡ length cs = others_less cs p.1 p.0 distinct (and_left (has_instance p.1 cs) (all_there cs ps) there) in
          let count : length (take n (others cs p.1 p.0)) ≡ min n (length (others cs p.1 p.0)) = length_take n (others cs p.1 p.0) in
          omega (arith, times_append t (take n (others cs p.1 p.0)) (all_others cs n ps), own, less, count, others_absent cs n t ps absent)
      | inr s ↦
          let rest : times t (all_others cs n ps) ≡ min n (length cs - 1) = others_times cs n t ps distinct (and_right (has_instance p.1 cs) (all_there cs ps) there) (and_right (not (has_task p.0 (tasks_of ps))) (tasks_apart (tasks_of ps)) once) (sym (ap (λ b. b || has_task t (tasks_of ps)) s.0) ∙ has) in
          omega (arith, times_append t (take n (others cs p.1 p.0)) (all_others cs n ps), others_tasks cs p.1 t p.0 n s.0, rest)
    ]

pub others_apart : (cs : List Client) (n : ℕ) (t : TaskId) (i : ℕ) (ps : Places) → instances_apart cs ≡ true → tasks_apart (tasks_of ps) ≡ true → copies t i ps + copies t i (all_others cs n ps) ≤ 1
others_apart cs n t i [] distinct once = omega arith
others_apart cs n t i (p ∷ ps) distinct once =
    let block : Places = take n (others cs p.1 p.0) in
    elim (same_tells p.0 t) [
      | inl s ↦
          let absent : has_task t (tasks_of ps) ≡ false = subst (λ (x : TaskId). has_task x (tasks_of ps) ≡ false) s.1 (not_is (has_task p.0 (tasks_of ps)) (and_left (not (has_task p.0 (tasks_of ps))) (tasks_apart (tasks_of ps)) once)) in
          let a : copies t i ps ≤ 0 = omega (arith, copies_times t i ps, times_none t ps absent) in
          let b : copies t i (all_others cs n ps) ≤ 0 = omega (arith, copies_times t i (all_others cs n ps), others_absent cs n t ps absent) in
          let c : copies t i (take n (others cs p.1 p.0)) ≤ copies t i (others cs p.1 p.0) = copies_take t i n (others cs p.1 p.0) in
          elim (eqb_tells p.1 i) [
            | inl e ↦
                let d : copies t i (others cs p.1 p.0) ≡ 0 = subst (λ (x : ℕ). copies t x (others cs p.1 p.0) ≡ 0) e.1 (others_own_none cs p.1 t p.0) in
                let f : copies t i (p ∷ ps) ≤ suc (copies t i ps) = copies_more t i p ps in
                omega (arith, copies_append t i (take n (others cs p.1 p.0)) (all_others cs n ps), a, b, c, d, f)
            | inr e ↦
                let d : copies t i (others cs p.1 p.0) ≤ 1 = others_once cs p.1 i t p.0 distinct in
                let f : copies t i (p ∷ ps) ≡ copies t i ps = ap (λ b. cond b (suc (copies t i ps)) (copies t i ps)) (ap (λ b. same_task p.0 t && b) e.0 ∙ and_false (same_task p.0 t)) in
                omega (arith, copies_append t i (take n (others cs p.1 p.0)) (all_others cs n ps), a, b, c, d, f)
          ]
      | inr s ↦
          let rest : copies t i ps + copies t i (all_others cs n ps) ≤ 1 = others_apart cs n t i ps distinct (and_right (not (has_task p.0 (tasks_of ps))) (tasks_apart (tasks_of ps)) once) in
          let f : copies t i (p ∷ ps) ≡ copies t i ps = ap (λ b. cond (b && (p.1 == i)) (suc (copies t i ps)) (copies t i ps)) s.0 in
          let g : copies t i (take n (others cs p.1 p.0)) ≤ 0 = omega (arith, copies_times t i (take n (others cs p.1 p.0)), others_tasks cs p.1 t p.0 n s.0) in
          omega (arith, copies_append t i (take n (others cs p.1 p.0)) (all_others cs n ps), rest, f, g)
    ]

all_tasks : (p : TaskId → Bool) (ts : List TaskId) → ((t : TaskId) → has_task t ts ≡ true → p t ≡ true) → list_all p ts ≡ true
all_tasks p [] f = refl
all_tasks p (u ∷ us) f = and_both (p u) (list_all p us) (f u (ap (λ b. b || has_task u us) (same_self u)))
    (all_tasks p us (λ t h. f t (elim (same_task u t) as (λ b. (b || has_task t us) ≡ true) [ true ↦ refl | false ↦ h ])))

all_any : {X : Type 0} (p : X → Bool) (xs : List X) → ((x : X) → p x ≡ true) → list_all p xs ≡ true
all_any p [] f = refl
all_any p (x ∷ xs) f = and_both (p x) (list_all p xs) (f x) (all_any p xs f)

-- point 4
pub standbys_good : (tasks : List TaskId) (cs : List Client) (wanted : ℕ) (active : Places) → instances_apart cs ≡ true → tasks_apart tasks ≡ true → tasks_of active ≡ tasks → all_there cs active ≡ true → has_standbys tasks cs wanted active (all_others cs (min wanted (length cs - 1)) active) ≡ true
standbys_good tasks cs wanted active distinct once are there =
    let once' : tasks_apart (tasks_of active) ≡ true = subst (λ (ts : List TaskId). tasks_apart ts ≡ true) (sym are) once in
    all_tasks (λ t. (times t (all_others cs (min wanted (length cs - 1)) active) == min wanted (length cs - 1)) && is_spread cs t active (all_others cs (min wanted (length cs - 1)) active)) tasks (λ t h.
    let n : times t (all_others cs (min wanted (length cs - 1)) active) ≡ min (min wanted (length cs - 1)) (length cs - 1) = others_times cs (min wanted (length cs - 1)) t active distinct there once' (subst (λ (ts : List TaskId). has_task t ts ≡ true) (sym are) h) in
    let m : times t (all_others cs (min wanted (length cs - 1)) active) ≡ min wanted (length cs - 1) = omega (arith, n) in
    and_both (times t (all_others cs (min wanted (length cs - 1)) active) == min wanted (length cs - 1)) (is_spread cs t active (all_others cs (min wanted (length cs - 1)) active))
    (equal_true _ _ m)
    (all_any (λ c. nat_le (copies t c.instance active + copies t c.instance (all_others cs (min wanted (length cs - 1)) active)) 1) cs (λ c. le_true _ 1 (others_apart cs (min wanted (length cs - 1)) t c.instance active distinct once'))))

-- point 1
pub active_once : (tasks : List TaskId) (active : Places) → tasks_apart tasks ≡ true → tasks_of active ≡ tasks → each_once tasks active ≡ true
active_once tasks active once are =
    all_tasks (λ t. times t active == 1) tasks (λ t h.
    equal_true _ _ (times_one t active (subst (λ (ts : List TaskId). tasks_apart ts ≡ true) (sym are) once) (subst (λ (ts : List TaskId). has_task t ts ≡ true) (sym are) h)))
