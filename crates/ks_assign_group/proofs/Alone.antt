-- One member that has every task: a good assignment, whatever is held and whatever the ends are.
use Rattle.std.proofs.Common.{◌≡◌, ◌≤◌, ◌<◌, ◌+◌, ◌-◌, ◌/◌, ◌&&◌, ◌||◌, ◌==◌, ◌++◌, ℕ, zero, suc, min, not, Bool, true, false, cond, nat_le, nat_lt, List, [], ◌∷◌, length, map, inl, inr, refl, sym, ap, subst, ◌∙◌, arith}
use Rattle.std.specs.List.{list_all}
use Rattle.std.proofs.Math.Nat.{div-le_self}
use Rattle.std.proofs.lemmas.Bool.Decides.{eqb_tells, nat_tests}
use Rattle.ks_record.specs.declared.record.TaskId.{TaskId}
use Rattle.ks_record.specs.declared.assignment.Assignment.{Assignment}
use Rattle.ks_record.specs.Parts.{same_task}
use Rattle.ks_assign.specs.declared.clients.Client.{Client}
use Rattle.ks_assign.specs.declared.clients.Held.{Held}
use Rattle.ks_assign.specs.declared.clients.Wants.{Wants}
use Rattle.ks_assign.specs.Lag.{warm}
use Rattle.ks_assign.specs.Placement.{Places, IsGood, is_good, has_task, has_worker, home, by_client, load, times, copies, may_run, outweighs, each_once, all_known, runs_warm, stays, is_balanced, is_spread, has_standbys, prepares, is_prepared, all_prepared, is_even, all_even, tasks_apart}
use Rattle.ks_assign.specs.Steps.{tasks_of}
use Rattle.ks_assign.proofs.Homes.{and_right, and_both, false_not_true}
use Rattle.ks_assign.proofs.Even.{le_true, true_le}
use Rattle.ks_assign.proofs.Others.{equal_true, same_self, active_once, copies_times, times_one}
use Rattle.ks_assign.proofs.Tests.{is_test}
use Rattle.ks_assign_group.specs.Groups.{is_at, workers_at, client_of, clients_below, clients_of, lags_in}
use Rattle.ks_assign_group.specs.Laws.{AloneIsGood}
use Rattle.ks_assign_group.proofs.Grouping.{is_not, equal_is}
use Rattle.ks_assign_group.proofs.Places.{apart_once}

-- ---- its client
abbrev its_client : ℕ → ℕ → Client
its_client threads w = record { instance = w / threads; workers = w ∷ [] }

at_none : (threads n w : ℕ) → n < w / threads → workers_at threads n (w ∷ []) ≡ []
at_none threads n w lt =
    ap (λ b. cond b (w ∷ []) []) (is_not (is_at threads n w) (λ h.
    let same = equal_is (w / threads) n (and_right (nat_le w 16) ((w / threads) == n) h) in
    absurd (omega (arith, lt, same))))

at_own : (threads n w : ℕ) → w / threads ≡ n → w ≤ 16 → workers_at threads n (w ∷ []) ≡ w ∷ []
at_own threads n w same few =
    ap (λ b. cond b (w ∷ []) []) (and_both (nat_le w 16) ((w / threads) == n) (le_true w 16 few) (equal_true (w / threads) n same))

at_past : (threads n w : ℕ) → w / threads < n → workers_at threads n (w ∷ []) ≡ []
at_past threads n w lt =
    ap (λ b. cond b (w ∷ []) []) (is_not (is_at threads n w) (λ h.
    let same = equal_is (w / threads) n (and_right (nat_le w 16) ((w / threads) == n) h) in
    absurd (omega (arith, lt, same))))

none_below : (n threads w : ℕ) → n ≤ w / threads → clients_below n threads (w ∷ []) ≡ []
none_below zero threads w le = refl
none_below (suc n) threads w le =
    ap (λ ws. clients_below n threads (w ∷ []) ++ client_of n ws) (at_none threads n w (omega (arith, le)))
    ∙ ap (λ cs. cs ++ []) (none_below n threads w (omega (arith, le)))

one_below : (n threads w : ℕ) → w / threads < n → w ≤ 16 → clients_below n threads (w ∷ []) ≡ its_client threads w ∷ []
one_below zero threads w lt few = absurd (omega arith)
one_below (suc n) threads w lt few = elim (eqb_tells (w / threads) n) [
  | inl e ↦
      ap (λ ws. clients_below n threads (w ∷ []) ++ client_of n ws) (at_own threads n w e.1 few)
      ∙ ap (λ cs. cs ++ client_of n (w ∷ [])) (none_below n threads w (omega (arith, e.1)))
      ∙ ap (λ i. client_of i (w ∷ [])) (sym e.1)
  | inr e ↦
      let below : w / threads < n = omega (arith, lt, e.1) in
      ap (λ ws. clients_below n threads (w ∷ []) ++ client_of n ws) (at_past threads n w below)
      ∙ ap (λ cs. cs ++ []) (one_below n threads w below few)
]

one_client : (threads w : ℕ) → w ≤ 16 → clients_of threads (w ∷ []) ≡ its_client threads w ∷ []
one_client threads w few =
    let small : w / threads ≤ w = div-le_self w threads in
    one_below 17 threads w (omega (arith, small, few)) few

-- ---- all tasks at one client
abbrev at_worker : ℕ → List TaskId → Places
at_worker w ts = map (λ t. (t, w)) ts

abbrev everything : ℕ → List TaskId → Assignment
everything w ts = record { active = at_worker w ts; standby = []; warmup = [] }

module _ (c : Client) (w : ℕ) (only : c.workers ≡ w ∷ []) where
  abbrev cs : List Client
  cs = c ∷ []

  at_home : home cs w ≡ c.instance
  at_home = ap (λ ws. cond (has_worker w ws) c.instance 256) only ∙ ap (λ b. cond (b || false) c.instance 256) (equal_true w w refl)

  by_its : (ts : List TaskId) → by_client cs (at_worker w ts) ≡ at_worker c.instance ts
  by_its [] = refl
  by_its (t ∷ ts) = ap (λ i. (t, i) ∷ by_client cs (at_worker w ts)) at_home ∙ ap (λ ps. (t, c.instance) ∷ ps) (by_its ts)

  named : (i : ℕ) (ts : List TaskId) → tasks_of (at_worker i ts) ≡ ts
  named i [] = refl
  named i (t ∷ ts) = ap (λ us. t ∷ us) (named i ts)

  -- what holds of each task at the client holds of all the places
  all_places : (p : TaskId × ℕ → Bool) (i : ℕ) (ts : List TaskId) → ((t : TaskId) → has_task t ts ≡ true → p (t, i) ≡ true) → list_all p (at_worker i ts) ≡ true
  all_places p i [] h = refl
  all_places p i (t ∷ ts) h = and_both (p (t, i)) (list_all p (at_worker i ts))
      (h t (ap (λ b. b || has_task t ts) (same_self t)))
      (all_places p i ts (λ u k. h u (elim (same_task t u) as (λ b. (b || has_task u ts) ≡ true) [ true ↦ refl | false ↦ k ])))

  all_tasks : (p : TaskId → Bool) (ts : List TaskId) → ((t : TaskId) → has_task t ts ≡ true → p t ≡ true) → list_all p ts ≡ true
  all_tasks p [] h = refl
  all_tasks p (t ∷ ts) h = and_both (p t) (list_all p ts)
      (h t (ap (λ b. b || has_task t ts) (same_self t)))
      (all_tasks p ts (λ u k. h u (elim (same_task t u) as (λ b. (b || has_task u ts) ≡ true) [ true ↦ refl | false ↦ k ])))

  -- no client outweighs itself
  no_more : (i : ℕ) (ps : Places) → outweighs i i ps ≡ false
  no_more i ps = is_not (outweighs i i ps) (λ h. let le = true_le (load i ps + 2) (load i ps) h in omega (arith, le))

  or_first : (a b : Bool) → a ≡ false → ((not a || b) && true) ≡ true
  or_first true b h = absurd (false_not_true (sym h))
  or_first false b h = refl

  or_second : (a b : Bool) → b ≡ true → (a || b) ≡ true
  or_second true b h = refl
  or_second false b h = h

  known : (i : ℕ) (ts : List TaskId) → i < 256 → all_known ts (at_worker i ts) ≡ true
  known i ts small = all_places (λ p. has_task p.0 ts && nat_lt p.1 256) i ts (λ t h. and_both (has_task t ts) (nat_lt i 256) h (grind (arith, nat_tests)))

  runs_here : (i most : ℕ) (held : List Held) (t : TaskId) → c.instance ≡ i → may_run cs held most i t ≡ true
  runs_here i most held t is =
      subst (λ j. (warm held most i t || not (warm held most j t || false)) ≡ true) (sym is)
      (elim (warm held most i t) as (λ b. (b || not (b || false)) ≡ true) [ true ↦ refl | false ↦ refl ])

  stays_here : (held : List Held) (most : ℕ) (active : Places) (t : TaskId) → stays cs held most active (t, c.instance) ≡ true
  stays_here held most active t = or_first (outweighs c.instance c.instance active) (not (may_run cs held most c.instance t)) (no_more c.instance active)

  prepared_here : (active : Places) (t : TaskId) → is_prepared cs active [] [] (t, c.instance) ≡ true
  prepared_here active t = or_first (outweighs c.instance c.instance active) (nat_le 1 (copies t c.instance [] + copies t c.instance [])) (no_more c.instance active)

  spread_here : (ts : List TaskId) → tasks_apart ts ≡ true → (t : TaskId) → has_task t ts ≡ true → is_spread cs t (at_worker c.instance ts) [] ≡ true
  spread_here ts once t h =
      let at : Places = at_worker c.instance ts in
      let names = named c.instance ts in
      let one : times t at ≡ 1 = times_one t at (subst (λ (us : List TaskId). tasks_apart us ≡ true) (sym names) once) (subst (λ (us : List TaskId). has_task t us ≡ true) (sym names) h) in
      let few : copies t c.instance at ≤ times t at = copies_times t c.instance at in
      and_both (nat_le (copies t c.instance at + 0) 1) true (le_true (copies t c.instance at + 0) 1 (omega (arith, one, few))) refl

  even_here : (ps : Places) → all_even cs ps ≡ true
  even_here ps = subst (λ ws. (is_even ps ws && true) ≡ true) (sym only) (and_both (is_even ps (w ∷ [])) true (and_both (nat_le (load w ps) (load w ps + 1) && true) true (and_both (nat_le (load w ps) (load w ps + 1)) true (le_true (load w ps) (load w ps + 1) (omega arith)) refl) refl) refl)

  alone_good : (ts : List TaskId) (held : List Held) (wants : Wants) → c.instance < 256 → tasks_apart ts ≡ true → IsGood ts cs held wants (everything w ts)
  alone_good ts held wants small once =
      let at : Places = at_worker c.instance ts in
      let is = by_its ts in
      let names = named c.instance ts in
      record {
        once = subst (λ (ps : Places). (each_once ts ps && (all_known ts ps && true)) ≡ true) (sym is)
            (and_both (each_once ts at) (all_known ts at && true) (active_once ts at once names) (and_both (all_known ts at) true (known c.instance ts small) refl));
        caught_up = subst (λ (ps : Places). runs_warm cs held wants.lag ps ≡ true) (sym is)
            (all_places (λ p. may_run cs held wants.lag p.1 p.0) c.instance ts (λ t h. runs_here c.instance wants.lag held t refl));
        balanced = subst (λ (ps : Places). is_balanced cs held wants.lag ps ≡ true) (sym is)
            (all_places (λ p. stays cs held wants.lag at p) c.instance ts (λ t h. stays_here held wants.lag at t));
        standbys = subst (λ (ps : Places). has_standbys ts cs wants.standbys ps [] ≡ true) (sym is)
            (all_tasks (λ t. (times t [] == min wants.standbys (length cs - 1)) && is_spread cs t at []) ts
            (λ t h. and_both (0 == min wants.standbys 0) (is_spread cs t at []) (equal_true 0 (min wants.standbys 0) (omega arith)) (spread_here ts once t h)));
        warmups = and_both (nat_le 0 wants.warmups) true (le_true 0 wants.warmups (omega arith)) refl;
        prepared = subst (λ (ps : Places). prepares cs wants.warmups ps [] [] ≡ true) (sym is)
            (or_second (nat_le wants.warmups 0) (all_prepared cs at [] [])
            (all_places (λ p. is_prepared cs at [] [] p) c.instance ts (λ t h. prepared_here at t)));
        even = even_here (at_worker w ts);
      }

pub alone_is_good : AloneIsGood
alone_is_good changelogs tasks placing w a once some few active standby warmup held ends =
    let c : Client = its_client placing.threads w in
    let small : w / placing.threads ≤ w = div-le_self w placing.threads in
    let whole : a ≡ everything w tasks = λ i. record { active = active i; standby = standby i; warmup = warmup i } in
    subst (λ (cs : List Client). is_good tasks cs (lags_in changelogs cs tasks held ends) placing.wants a ≡ true) (sym (one_client placing.threads w few))
    (is_test tasks (c ∷ []) (lags_in changelogs (c ∷ []) tasks held ends) placing.wants a
    (subst (IsGood tasks (c ∷ []) (lags_in changelogs (c ∷ []) tasks held ends) placing.wants) (sym whole)
    (alone_good c w refl tasks (lags_in changelogs (c ∷ []) tasks held ends) placing.wants (omega (arith, small, few)) (apart_once tasks once))))
