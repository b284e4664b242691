-- Workers and their clients
use Rattle.std.proofs.Common.{◌≡◌, ℕ, zero, suc, ◌<◌, ◌&&◌, ◌||◌, not, Bool, true, false, cond, nat_lt, List, [], ◌∷◌, length, get_or, refl, sym, ap, subst, ◌∙◌, arith, inl, inr}
use Rattle.std.specs.List.{list_all, list_any}
use Rattle.std.proofs.lemmas.Bool.Decides.{eqb_tells, nat_tests}
use Rattle.std.proofs.lemmas.List.Folds.{list_any_at}
use Rattle.ks_record.specs.declared.record.TaskId.{TaskId}
use Rattle.ks_assign.specs.declared.clients.Client.{Client}
use Rattle.ks_assign.specs.declared.clients.Held.{Held}
use Rattle.ks_assign.specs.Lag.{some_warm, warm}
use Rattle.ks_assign.specs.Placement.{AreClients, employs, has_worker, home, may_run, workers_apart}

pub and_left : (a b : Bool) → (a && b) ≡ true → a ≡ true
and_left true b h = refl
and_left false b h = h

pub and_right : (a b : Bool) → (a && b) ≡ true → b ≡ true
and_right true b h = h
and_right false true h = refl
and_right false false h = h

pub and_both : (a b : Bool) → a ≡ true → b ≡ true → (a && b) ≡ true
and_both true b h k = k
and_both false b h k = h

pub false_not_true : false ≡ true → ⊥
false_not_true h = cc

pub not_true : (a : Bool) → not a ≡ true → a ≡ true → ⊥
not_true true h k = false_not_true h
not_true false h k = false_not_true k

pub all_at : {X : Type 0} (p : X → Bool) (xs : List X) (i : ℕ) (d : X) → list_all p xs ≡ true → i < length xs → p (get_or xs i d) ≡ true
all_at p [] i d h l = absurd (omega arith)
all_at p (x ∷ xs) zero d h l = and_left (p x) (list_all p xs) h
all_at p (x ∷ xs) (suc i) d h l = all_at p xs i d (and_right (p x) (list_all p xs) h) (omega arith)

pub any_at : {X : Type 0} (p : X → Bool) (xs : List X) (i : ℕ) (d : X) → i < length xs → p (get_or xs i d) ≡ true → list_any p xs ≡ true
any_at p xs i d l h = list_any_at p xs i d l h

-- what holds of all workers holds of one
pub all_has : (p : ℕ → Bool) (ws : List ℕ) (w : ℕ) → list_all p ws ≡ true → has_worker w ws ≡ true → p w ≡ true
all_has p [] w h k = absurd (false_not_true k)
all_has p (v ∷ vs) w h k =
    elim (eqb_tells v w) [
      | inl e ↦ subst (λ x. p x ≡ true) e.1 (and_left (p v) (list_all p vs) h)
      | inr e ↦ all_has p vs w (and_right (p v) (list_all p vs) h) (subst (λ b. (b || has_worker w vs) ≡ true) e.0 k)
    ]

-- a worker's home is the client that has it
pub home_at : (clients : List Client) (i : ℕ) (d : Client) (w : ℕ) → i < length clients → workers_apart clients ≡ true → has_worker w (get_or clients i d).workers ≡ true → home clients w ≡ (get_or clients i d).instance
home_at [] i d w l apart has = absurd (omega arith)
home_at (c ∷ cs) zero d w l apart has = ap (λ b. cond b c.instance (home cs w)) has
home_at (c ∷ cs) (suc i) d w l apart has =
    let below : i < length cs = omega arith in
    let rest : home cs w ≡ (get_or cs i d).instance = home_at cs i d w below (and_right (list_all (λ v. not (employs v cs)) c.workers) (workers_apart cs) apart) has in
    let there : employs w cs ≡ true = any_at (λ e. has_worker w e.workers) cs i d below has in
    elim (has_worker w c.workers) as (λ b. has_worker w c.workers ≡ b → cond b c.instance (home cs w) ≡ (get_or cs i d).instance) [
      | true ↦ λ (here : has_worker w c.workers ≡ true). absurd (not_true (employs w cs) (all_has (λ v. not (employs v cs)) c.workers w (and_left (list_all (λ v. not (employs v cs)) c.workers) (workers_apart cs) apart) here) there)
      | false ↦ λ _. rest
    ] refl

pub has_first : (ws : List ℕ) (d : ℕ) → 0 < length ws → has_worker (get_or ws 0 d) ws ≡ true
has_first [] d l = absurd (omega arith)
has_first (w ∷ ws) d l = elim (eqb_tells w w) [ inl e ↦ ap (λ b. b || has_worker w ws) e.0 | inr e ↦ absurd (e.1 refl) ]

pub is_manned : (clients : List Client) (i : ℕ) (d : Client) → AreClients clients → i < length clients → 0 < length (get_or clients i d).workers
is_manned clients i d are l =
    let h : nat_lt 0 (length (get_or clients i d).workers) ≡ true = all_at (λ c. nat_lt 0 (length c.workers)) clients i d are.manned l in
    grind (arith, nat_tests)

-- the first worker of a client is at home there
pub home_first : (clients : List Client) (i : ℕ) (d : Client) (e : ℕ) → AreClients clients → i < length clients → home clients (get_or (get_or clients i d).workers 0 e) ≡ (get_or clients i d).instance
home_first clients i d e are l = home_at clients i d _ l are.workers (has_first (get_or clients i d).workers e (is_manned clients i d are l))

pub may_warm : (clients : List Client) (held : List Held) (lag i : ℕ) (t : TaskId) → warm held lag i t ≡ true → may_run clients held lag i t ≡ true
may_warm clients held lag i t h = ap (λ b. b || not (some_warm clients held lag t)) h

pub may_none : (clients : List Client) (held : List Held) (lag i : ℕ) (t : TaskId) → some_warm clients held lag t ≡ false → may_run clients held lag i t ≡ true
may_none clients held lag i t h = elim (warm held lag i t) as (λ b. (b || not (some_warm clients held lag t)) ≡ true) [ true ↦ refl | false ↦ ap not h ]

-- the same, as a loop over the clients knows its item
pub home_item : (clients : List Client) (i : ℕ) (e : Client) (w : ℕ) → AreClients clients → i < length clients → e ≡ get_or clients i e → w ≡ get_or e.workers 0 w → home clients w ≡ e.instance
home_item clients i e w are l is at =
    let first : w ≡ get_or (get_or clients i e).workers 0 w = at ∙ ap (λ (x : Client). get_or x.workers 0 w) is in
    subst (λ (x : ℕ). home clients x ≡ (get_or clients i e).instance) (sym first) (home_first clients i e w are l) ∙ ap (λ (x : Client). x.instance) (sym is)
