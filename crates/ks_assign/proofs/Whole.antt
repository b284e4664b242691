-- The steps together are a good assignment
use Rattle.std.proofs.Common.{◌≡◌, ℕ, zero, suc, ◌-◌, ◌≤◌, ◌==◌, ◌&&◌, ◌||◌, true, false, cond, min, nat_lt, nat_le, List, [], ◌∷◌, length, take, refl, sym, ap, subst, ◌∙◌, arith, inl, inr}
use Rattle.std.specs.List.{list_all}
use Rattle.std.proofs.lemmas.Bool.Decides.{eqb_tells}
use Rattle.ks_record.specs.declared.record.TaskId.{TaskId}
use Rattle.ks_assign.specs.declared.clients.Client.{Client}
use Rattle.ks_assign.specs.declared.clients.Held.{Held}
use Rattle.ks_assign.specs.declared.clients.Wants.{Wants}
use Rattle.ks_record.specs.declared.assignment.Assignment.{Assignment}
use Rattle.ks_record.specs.Parts.{same_task}
use Rattle.ks_assign.specs.Placement.{Places, home, by_client, times, has_task, has_worker, has_instance, instances_apart, tasks_apart, each_once, all_known, places_tasks, runs_warm, is_balanced, has_standbys, all_cold, warms_up, all_prepared, prepares, all_even, AreClients, IsGood}
use Rattle.ks_assign.specs.Steps.{IsPlan, all_home, all_others, all_wanted, tasks_of}
use Rattle.ks_assign.proofs.Homes.{and_left, and_right, and_both, false_not_true}
use Rattle.ks_assign.proofs.Even.{le_true}
use Rattle.ks_assign.proofs.Others.{is_or_not, same_self, times_none, all_there, others_absent, standbys_good, active_once}
use Rattle.ks_assign.proofs.Wanted.{wanted_absent, warmups_cold, warmups_prepared}

times_tail : (t : TaskId) (p : TaskId × ℕ) (xs : Places) → times t xs ≤ times t (p ∷ xs)
times_tail t p xs = elim (same_task p.0 t) as (λ b. times t xs ≤ cond b (suc (times t xs)) (times t xs)) [ true ↦ omega arith | false ↦ omega arith ]

times_take : (t : TaskId) (n : ℕ) (xs : Places) → times t (take n xs) ≤ times t xs
times_take t zero xs = omega arith
times_take t (suc n) [] = omega arith
times_take t (suc n) (p ∷ xs) =
    elim (same_task p.0 t) as (λ b. cond b (suc (times t (take n xs))) (times t (take n xs)) ≤ cond b (suc (times t xs)) (times t xs)) [
      | true ↦ omega (arith, times_take t n xs)
      | false ↦ times_take t n xs
    ]

equal_self : (a : ℕ) → (a == a) ≡ true
equal_self a = elim (eqb_tells a a) [ inl e ↦ e.0 | inr e ↦ absurd (e.1 refl) ]

tasks_by : (cs : List Client) (ps : Places) → tasks_of (by_client cs ps) ≡ tasks_of ps
tasks_by cs [] = refl
tasks_by cs (p ∷ ps) = ap (λ ts. p.0 ∷ ts) (tasks_by cs ps)

named_by : (tasks : List TaskId) (xs : Places) → ((t : TaskId) → has_task t tasks ≡ false → times t xs ≡ 0) → list_all (λ p. has_task p.0 tasks) xs ≡ true
named_by tasks [] f = refl
named_by tasks (p ∷ xs) f = and_both (has_task p.0 tasks) (list_all (λ q. has_task q.0 tasks) xs)
    (elim (is_or_not (has_task p.0 tasks)) [
      | inl h ↦ h
      | inr h ↦
          let e : times p.0 (p ∷ xs) ≡ suc (times p.0 xs) = ap (λ b. cond b (suc (times p.0 xs)) (times p.0 xs)) (same_self p.0) in
          let z : times p.0 (p ∷ xs) ≡ 0 = f p.0 h in
          absurd (omega (arith, e, z))
    ])
    (named_by tasks xs (λ t h.
    let z : times t (p ∷ xs) ≡ 0 = f t h in
    let l : times t xs ≤ times t (p ∷ xs) = times_tail t p xs in
    omega (arith, z, l)))

known_by : (tasks : List TaskId) (cs : List Client) (ps : Places) → list_all (λ p. has_task p.0 tasks) (by_client cs ps) ≡ true → all_home cs ps ≡ true → all_known tasks (by_client cs ps) ≡ true
known_by tasks cs [] h k = refl
known_by tasks cs (p ∷ ps) h k = and_both (has_task p.0 tasks && nat_lt (home cs p.1) 256) (all_known tasks (by_client cs ps))
    (and_both (has_task p.0 tasks) (nat_lt (home cs p.1) 256) (and_left (has_task p.0 tasks) (list_all (λ q. has_task q.0 tasks) (by_client cs ps)) h) (and_left (nat_lt (home cs p.1) 256) (all_home cs ps) k))
    (known_by tasks cs ps (and_right (has_task p.0 tasks) (list_all (λ q. has_task q.0 tasks) (by_client cs ps)) h) (and_right (nat_lt (home cs p.1) 256) (all_home cs ps) k))

home_there : (cs : List Client) (w : ℕ) → nat_lt (home cs w) 256 ≡ true → has_instance (home cs w) cs ≡ true
home_there [] w h = absurd (false_not_true h)
home_there (c ∷ cs) w h =
    elim (is_or_not (has_worker w c.workers)) [
      | inl s ↦ subst (λ b. has_instance (cond b c.instance (home cs w)) (c ∷ cs) ≡ true) (sym s) (ap (λ b. b || has_instance c.instance cs) (equal_self c.instance))
      | inr s ↦
          let rest : has_instance (home cs w) cs ≡ true = home_there cs w (subst (λ b. nat_lt (cond b c.instance (home cs w)) 256 ≡ true) s h) in
          subst (λ b. has_instance (cond b c.instance (home cs w)) (c ∷ cs) ≡ true) (sym s) (elim (c.instance == home cs w) as (λ b. (b || has_instance (home cs w) cs) ≡ true) [ true ↦ refl | false ↦ rest ])
    ]

there_by : (cs : List Client) (ps : Places) → all_home cs ps ≡ true → all_there cs (by_client cs ps) ≡ true
there_by cs [] h = refl
there_by cs (p ∷ ps) h = and_both (has_instance (home cs p.1) cs) (all_there cs (by_client cs ps)) (home_there cs p.1 (and_left (nat_lt (home cs p.1) 256) (all_home cs ps) h)) (there_by cs ps (and_right (nat_lt (home cs p.1) 256) (all_home cs ps) h))

by_client_take : (cs : List Client) (n : ℕ) (ps : Places) → by_client cs (take n ps) ≡ take n (by_client cs ps)
by_client_take cs zero ps = refl
by_client_take cs (suc n) [] = refl
by_client_take cs (suc n) (p ∷ ps) = ap (λ xs. (p.0, home cs p.1) ∷ xs) (by_client_take cs n ps)

home_take : (cs : List Client) (n : ℕ) (ps : Places) → all_home cs ps ≡ true → all_home cs (take n ps) ≡ true
home_take cs zero ps h = refl
home_take cs (suc n) [] h = refl
home_take cs (suc n) (p ∷ ps) h = and_both (nat_lt (home cs p.1) 256) (all_home cs (take n ps)) (and_left (nat_lt (home cs p.1) 256) (all_home cs ps) h) (home_take cs n ps (and_right (nat_lt (home cs p.1) 256) (all_home cs ps) h))

length_most : {X : Type 0} (n : ℕ) (xs : List X) → length (take n xs) ≤ n
length_most zero xs = omega arith
length_most (suc n) [] = omega arith
length_most (suc n) (x ∷ xs) = let h : length (take n xs) ≤ n = length_most n xs in omega (arith, h)

-- the seven points, over the places by clients
pub record IsGoodBy (tasks : List TaskId) (clients : List Client) (held : List Held) (wants : Wants) (workers active standby warmup : Places) : Type 0 where
  pub once : places_tasks tasks active standby warmup ≡ true
  pub caught_up : runs_warm clients held wants.lag active ≡ true
  pub balanced : is_balanced clients held wants.lag active ≡ true
  pub standbys : has_standbys tasks clients wants.standbys active standby ≡ true
  pub warmups : warms_up held wants.lag wants.warmups active standby warmup ≡ true
  pub prepared : prepares clients wants.warmups active standby warmup ≡ true
  pub even : all_even clients workers ≡ true

-- what holds at the plan's clients, by clients alone
good_by : (tasks : List TaskId) (clients : List Client) (held : List Held) (wants : Wants) (active : Places) → instances_apart clients ≡ true → tasks_apart tasks ≡ true → tasks_of active ≡ tasks → all_there clients active ≡ true → all_known tasks active ≡ true →
    runs_warm clients held wants.lag active ≡ true → is_balanced clients held wants.lag active ≡ true → (workers standby warmup : Places) → all_even clients workers ≡ true →
    standby ≡ all_others clients (min wants.standbys (length clients - 1)) active → all_known tasks standby ≡ true →
    warmup ≡ take wants.warmups (all_wanted clients active standby active) → all_known tasks warmup ≡ true →
    IsGoodBy tasks clients held wants workers active standby warmup
good_by tasks clients held wants active distinct once are there known runs stay workers standby warmup even standby_is known_standby warmup_is known_warmup =
    let once' : tasks_apart (tasks_of active) ≡ true = subst (λ (ts : List TaskId). tasks_apart ts ≡ true) (sym are) once in
    let few : length warmup ≤ wants.warmups = (let a : length warmup ≡ length (take wants.warmups (all_wanted clients active standby active)) = ap (λ (xs : Places). length xs) warmup_is in let b : length (take wants.warmups (all_wanted clients active standby active)) ≤ wants.warmups = length_most wants.warmups (all_wanted clients active standby active) in omega (arith, a, b)) in
    record {
      once = and_both (each_once tasks active) (all_known tasks active && (all_known tasks standby && all_known tasks warmup)) (active_once tasks active once are)
          (and_both (all_known tasks active) (all_known tasks standby && all_known tasks warmup) known (and_both (all_known tasks standby) (all_known tasks warmup) known_standby known_warmup));
      caught_up = runs;
      balanced = stay;
      standbys = subst (λ (xs : Places). has_standbys tasks clients wants.standbys active xs ≡ true) (sym standby_is) (standbys_good tasks clients wants.standbys active distinct once are there);
      warmups = and_both (nat_le (length warmup) wants.warmups) (all_cold held wants.lag active standby warmup) (le_true (length warmup) wants.warmups few)
          (subst (λ (xs : Places). all_cold held wants.lag active standby xs ≡ true) (sym warmup_is) (warmups_cold clients held wants.lag wants.warmups active standby distinct once' stay));
      prepared = subst (λ (xs : Places). (nat_le wants.warmups (length xs) || all_prepared clients active standby xs) ≡ true) (sym warmup_is) (warmups_prepared clients wants.warmups active standby);
      even = even;
    }

-- places at the same clients
home_by : (cs : List Client) (ps : Places) → all_home cs ps ≡ list_all (λ p. nat_lt p.1 256) (by_client cs ps)
home_by cs [] = refl
home_by cs (p ∷ ps) = ap (λ b. nat_lt (home cs p.1) 256 && b) (home_by cs ps)

home_same : (cs : List Client) (xs ys : Places) → by_client cs xs ≡ by_client cs ys → all_home cs ys ≡ true → all_home cs xs ≡ true
home_same cs xs ys same h =
    home_by cs xs ∙ ap (λ (ps : Places). list_all (λ p. nat_lt p.1 256) ps) same ∙ sym (home_by cs ys) ∙ h

-- the steps give a good assignment
pub assign_good : (tasks : List TaskId) (clients : List Client) (held : List Held) (wants : Wants) (plan active chosen standby found warmup : Places) → AreClients clients → tasks_apart tasks ≡ true →
    IsPlan tasks clients held wants.lag plan → is_balanced clients held wants.lag (by_client clients plan) ≡ true →
    by_client clients active ≡ by_client clients plan → all_even clients active ≡ true →
    by_client clients chosen ≡ all_others clients (min wants.standbys (length clients - 1)) (by_client clients active) → all_home clients chosen ≡ true →
    by_client clients standby ≡ by_client clients chosen →
    by_client clients found ≡ all_wanted clients (by_client clients active) (by_client clients standby) (by_client clients active) → all_home clients found ≡ true →
    by_client clients warmup ≡ by_client clients (take wants.warmups found) →
    IsGoodBy tasks clients held wants active (by_client clients active) (by_client clients standby) (by_client clients warmup)
assign_good tasks clients held wants plan active chosen standby found warmup are once is stay same even chosen_is chosen_home standby_same found_is found_home cut =
    let standby_is : by_client clients standby ≡ all_others clients (min wants.standbys (length clients - 1)) (by_client clients active) = standby_same ∙ chosen_is in
    let standby_home : all_home clients standby ≡ true = home_same clients standby chosen standby_same chosen_home in
    let tasks_are : tasks_of (by_client clients active) ≡ tasks = ap tasks_of same ∙ tasks_by clients plan ∙ is.tasks_are in
    let named : list_all (λ p. has_task p.0 tasks) (by_client clients plan) ≡ true =
    named_by tasks (by_client clients plan) (λ t h. times_none t (by_client clients plan) (subst (λ (ts : List TaskId). has_task t ts ≡ false) (sym (tasks_by clients plan ∙ is.tasks_are)) h)) in
    let absent : (t : TaskId) → has_task t tasks ≡ false → has_task t (tasks_of (by_client clients active)) ≡ false = λ t h. subst (λ (ts : List TaskId). has_task t ts ≡ false) (sym tasks_are) h in
    let warmup_is : by_client clients warmup ≡ take wants.warmups (all_wanted clients (by_client clients active) (by_client clients standby) (by_client clients active)) =
    cut ∙ by_client_take clients wants.warmups found ∙ ap (λ (xs : Places). take wants.warmups xs) found_is in
    good_by tasks clients held wants (by_client clients active) are.instances once tasks_are
    (subst (λ (xs : Places). all_there clients xs ≡ true) (sym same) (there_by clients plan is.homes))
    (subst (λ (xs : Places). all_known tasks xs ≡ true) (sym same) (known_by tasks clients plan named is.homes))
    (subst (λ (xs : Places). runs_warm clients held wants.lag xs ≡ true) (sym same) is.runs)
    (subst (λ (xs : Places). is_balanced clients held wants.lag xs ≡ true) (sym same) stay)
    active (by_client clients standby) (by_client clients warmup) even standby_is
    (known_by tasks clients standby (named_by tasks (by_client clients standby) (λ t h. ap (times t) standby_is ∙ others_absent clients (min wants.standbys (length clients - 1)) t (by_client clients active) (absent t h))) standby_home)
    warmup_is
    (known_by tasks clients warmup (named_by tasks (by_client clients warmup) (λ t h.
    let z : times t (all_wanted clients (by_client clients active) (by_client clients standby) (by_client clients active)) ≡ 0 = wanted_absent clients (by_client clients active) (by_client clients standby) t (by_client clients active) (absent t h) in
    let e : times t (by_client clients warmup) ≡ times t (take wants.warmups (all_wanted clients (by_client clients active) (by_client clients standby) (by_client clients active))) = ap (times t) warmup_is in
    let l : times t (take wants.warmups (all_wanted clients (by_client clients active) (by_client clients standby) (by_client clients active))) ≤ times t (all_wanted clients (by_client clients active) (by_client clients standby) (by_client clients active)) = times_take t wants.warmups _ in
    omega (arith, z, e, l)))
    (home_same clients warmup (take wants.warmups found) cut (home_take clients wants.warmups found found_home)))

-- the same of an assignment with these lists
pub assignment_good : (tasks : List TaskId) (clients : List Client) (held : List Held) (wants : Wants) (active standby warmup : Places) (a : Assignment) →
    IsGoodBy tasks clients held wants active (by_client clients active) (by_client clients standby) (by_client clients warmup) →
    a.active ≡ active → a.standby ≡ standby → a.warmup ≡ warmup → IsGood tasks clients held wants a
assignment_good tasks clients held wants active standby warmup a g active_is standby_is warmup_is =
    let h : IsGoodBy tasks clients held wants a.active (by_client clients a.active) (by_client clients a.standby) (by_client clients a.warmup) =
    subst (λ (xs : Places). IsGoodBy tasks clients held wants xs (by_client clients xs) (by_client clients a.standby) (by_client clients a.warmup)) (sym active_is)
    (subst (λ (xs : Places). IsGoodBy tasks clients held wants active (by_client clients active) (by_client clients xs) (by_client clients a.warmup)) (sym standby_is)
    (subst (λ (xs : Places). IsGoodBy tasks clients held wants active (by_client clients active) (by_client clients standby) (by_client clients xs)) (sym warmup_is) g)) in
    record { once = h.once; caught_up = h.caught_up; balanced = h.balanced; standbys = h.standbys; warmups = h.warmups; prepared = h.prepared; even = h.even }
