-- Tasks go to the worker with the fewest
use Rattle.std.proofs.Common.{◌≡◌, ℕ, zero, suc, ◌+◌, ◌<◌, ◌≤◌, ◌==◌, ◌||◌, not, Bool, true, false, cond, nat_le, List, [], ◌∷◌, ◌++◌, length, get_or, take, drop, refl, sym, ap, subst, ◌∙◌, arith, ◌⊎◌, inl, inr}
use Rattle.std.specs.List.{list_all}
use Rattle.std.proofs.lemmas.Bool.Decides.{eqb_tells, leb_tells}
use Rattle.std.proofs.lemmas.List.{take_more}
use Rattle.ks_record.specs.declared.record.TaskId.{TaskId}
use Rattle.ks_assign.specs.declared.clients.Client.{Client}
use Rattle.ks_assign.specs.Placement.{AreClients, Places, all_even, by_client, employs, has_worker, home, is_even, load, workers_apart}
use Rattle.ks_assign.specs.Steps.{all_least}
use Rattle.ks_assign.proofs.Homes.{and_left, and_right, and_both, not_true, false_not_true, all_has, any_at, home_at}
use Rattle.ks_assign.proofs.Moves.{here, here_other, load_cons, by_client_push, all_push}

pub true_le : (a b : ℕ) → nat_le a b ≡ true → a ≤ b
true_le a b h = elim (leb_tells a b) [ inl t ↦ t.1 | inr t ↦ absurd (false_not_true (sym t.0 ∙ h)) ]

pub le_true : (a b : ℕ) → a ≤ b → nat_le a b ≡ true
le_true a b h = elim (leb_tells a b) [ inl t ↦ t.0 | inr t ↦ absurd (omega (arith, h, t.1)) ]

pub all_zip : {X : Type 0} (p q r : X → Bool) → ((x : X) → p x ≡ true → q x ≡ true → r x ≡ true) → (xs : List X) → list_all p xs ≡ true → list_all q xs ≡ true → list_all r xs ≡ true
all_zip p q r f [] h k = refl
all_zip p q r f (x ∷ xs) h k = and_both (r x) (list_all r xs)
    (f x (and_left (p x) (list_all p xs) h) (and_left (q x) (list_all q xs) k))
    (all_zip p q r f xs (and_right (p x) (list_all p xs) h) (and_right (q x) (list_all q xs) k))

has_more : (w v : ℕ) (vs : List ℕ) → has_worker w vs ≡ true → has_worker w (v ∷ vs) ≡ true
has_more w v vs h = elim (v == w) as (λ b. (b || has_worker w vs) ≡ true) [ true ↦ refl | false ↦ h ]

pub has_head : (w : ℕ) (vs : List ℕ) → has_worker w (w ∷ vs) ≡ true
has_head w vs = elim (eqb_tells w w) [ inl e ↦ ap (λ b. b || has_worker w vs) e.0 | inr e ↦ absurd (e.1 refl) ]

-- what holds of each worker holds of all
pub all_from : (p : ℕ → Bool) (ws : List ℕ) → ((w : ℕ) → has_worker w ws ≡ true → p w ≡ true) → list_all p ws ≡ true
all_from p [] f = refl
all_from p (v ∷ vs) f = and_both (p v) (list_all p vs) (f v (has_head v vs)) (all_from p vs (λ w h. f w (has_more w v vs h)))

load_push : (i : ℕ) (ps : Places) (q : TaskId × ℕ) → load i (ps ++ q ∷ []) ≡ load i ps + here q.1 i
load_push i [] q = load_cons i q [] ∙ omega arith
load_push i (p ∷ ps) q = omega (arith, load_cons i p ps, load_cons i p (ps ++ q ∷ []), load_push i ps q)

even_pair : (t : TaskId) (r : ℕ) (ps : Places) (w v : ℕ) → load w ps ≤ load v ps + 1 → (r ≡ w → load r ps ≤ load v ps) → load w (ps ++ (t, r) ∷ []) ≤ load v (ps ++ (t, r) ∷ []) + 1
even_pair t r ps w v h least =
    elim (eqb_tells r w) [
      | inl e ↦
          let k : load w ps ≤ load v ps = subst (λ (x : ℕ). load x ps ≤ load v ps) e.1 (least e.1) in
          let one : here r w ≤ 1 = elim (r == w) as (λ b. cond {A = ℕ} b 1 0 ≤ 1) [ true ↦ omega arith | false ↦ omega arith ] in
          omega (arith, load_push w ps (t, r), load_push v ps (t, r), k, one)
      | inr e ↦
          omega (arith, load_push w ps (t, r), load_push v ps (t, r), h, here_other r w e.1)
    ]

even_one : (t : TaskId) (r : ℕ) (ps : Places) (ws : List ℕ) → is_even ps ws ≡ true → (has_worker r ws ≡ true → list_all (λ v. nat_le (load r ps) (load v ps)) ws ≡ true) → is_even (ps ++ (t, r) ∷ []) ws ≡ true
even_one t r ps ws even least =
    all_from (λ w. list_all (λ v. nat_le (load w (ps ++ (t, r) ∷ [])) (load v (ps ++ (t, r) ∷ []) + 1)) ws) ws (λ w hw.
    all_from (λ v. nat_le (load w (ps ++ (t, r) ∷ [])) (load v (ps ++ (t, r) ∷ []) + 1)) ws (λ v hv.
    le_true _ _ (even_pair t r ps w v
    (true_le _ _ (all_has (λ v. nat_le (load w ps) (load v ps + 1)) ws v (all_has (λ w. list_all (λ v. nat_le (load w ps) (load v ps + 1)) ws) ws w even hw) hv))
    (λ (e : r ≡ w). true_le _ _ (all_has (λ v. nat_le (load r ps) (load v ps)) ws v (least (subst (λ (x : ℕ). has_worker x ws ≡ true) (sym e) hw)) hv)))))

or_right : (a b : Bool) → (not a || b) ≡ true → a ≡ true → b ≡ true
or_right true b h k = h
or_right false b h k = absurd (false_not_true k)

pub even_push : (clients : List Client) (t : TaskId) (r : ℕ) (ps : Places) → all_even clients ps ≡ true → all_least clients r ps ≡ true → all_even clients (ps ++ (t, r) ∷ []) ≡ true
even_push clients t r ps even least =
    all_zip (λ c. is_even ps c.workers) (λ c. not (has_worker r c.workers) || list_all (λ v. nat_le (load r ps) (load v ps)) c.workers) (λ c. is_even (ps ++ (t, r) ∷ []) c.workers)
    (λ c h k. even_one t r ps c.workers h (λ a. or_right (has_worker r c.workers) _ k a)) clients even least

-- at the start all loads are 0
pub even_nil : (clients : List Client) → all_even clients [] ≡ true
even_nil [] = refl
even_nil (c ∷ cs) = and_both (is_even [] c.workers) (all_even cs []) (all_from (λ w. list_all (λ v. nat_le (load w []) (load v [] + 1)) c.workers) c.workers (λ w _. all_from (λ v. nat_le (load w []) (load v [] + 1)) c.workers (λ v _. refl))) (even_nil cs)

not_false : (a : Bool) → (a ≡ true → ⊥) → not a ≡ true
not_false true f = absurd (f refl)
not_false false f = refl

least_none : (clients : List Client) (r : ℕ) (ps : Places) → list_all (λ c. not (has_worker r c.workers)) clients ≡ true → all_least clients r ps ≡ true
least_none clients r ps h = all_zip (λ c. not (has_worker r c.workers)) (λ c. not (has_worker r c.workers)) (λ c. not (has_worker r c.workers) || list_all (λ v. nat_le (load r ps) (load v ps)) c.workers)
    (λ c a b. ap (λ x. x || list_all (λ v. nat_le (load r ps) (load v ps)) c.workers) a) clients h h

not_employed : (cs : List Client) (r : ℕ) → (employs r cs ≡ true → ⊥) → list_all (λ c. not (has_worker r c.workers)) cs ≡ true
not_employed [] r f = refl
not_employed (c ∷ cs) r f = and_both (not (has_worker r c.workers)) (list_all (λ c. not (has_worker r c.workers)) cs)
    (not_false (has_worker r c.workers) (λ h. f (ap (λ b. b || employs r cs) h)))
    (not_employed cs r (λ h. f (elim (has_worker r c.workers) as (λ b. (b || employs r cs) ≡ true) [ true ↦ refl | false ↦ h ])))

-- a worker that no client has
pub least_unemployed : (clients : List Client) (r : ℕ) (ps : Places) → employs r clients ≡ false → all_least clients r ps ≡ true
least_unemployed clients r ps h = least_none clients r ps (not_employed clients r (λ k. false_not_true (sym h ∙ k)))

-- the least of the workers of its client
pub least_there : (clients : List Client) (i : ℕ) (d : Client) (r : ℕ) (ps : Places) → i < length clients → workers_apart clients ≡ true → has_worker r (get_or clients i d).workers ≡ true → list_all (λ v. nat_le (load r ps) (load v ps)) (get_or clients i d).workers ≡ true → all_least clients r ps ≡ true
least_there [] i d r ps l apart has h = refl
least_there (c ∷ cs) zero d r ps l apart has h =
    let no : not (employs r cs) ≡ true = all_has (λ w. not (employs w cs)) c.workers r (and_left (list_all (λ w. not (employs w cs)) c.workers) (workers_apart cs) apart) has in
    and_both (not (has_worker r c.workers) || list_all (λ v. nat_le (load r ps) (load v ps)) c.workers) (all_least cs r ps)
    (elim (not (has_worker r c.workers)) as (λ b. (b || list_all (λ v. nat_le (load r ps) (load v ps)) c.workers) ≡ true) [ true ↦ refl | false ↦ h ])
    (least_none cs r ps (not_employed cs r (not_true (employs r cs) no)))
least_there (c ∷ cs) (suc i) d r ps l apart has h =
    let below : i < length cs = omega arith in
    let there : employs r cs ≡ true = any_at (λ e. has_worker r e.workers) cs i d below has in
    let away : not (has_worker r c.workers) ≡ true = not_false (has_worker r c.workers) (λ k. not_true (employs r cs) (all_has (λ w. not (employs w cs)) c.workers r (and_left (list_all (λ w. not (employs w cs)) c.workers) (workers_apart cs) apart) k) there) in
    and_both (not (has_worker r c.workers) || list_all (λ v. nat_le (load r ps) (load v ps)) c.workers) (all_least cs r ps)
    (ap (λ x. x || list_all (λ v. nat_le (load r ps) (load v ps)) c.workers) away)
    (least_there cs i d r ps below (and_right (list_all (λ w. not (employs w cs)) c.workers) (workers_apart cs) apart) has h)

-- the same, as a loop over the clients knows its item
pub least_item : (clients : List Client) (i : ℕ) (e : Client) (r : ℕ) (ps : Places) → AreClients clients → i < length clients → e ≡ get_or clients i e → has_worker r e.workers ≡ true → list_all (λ v. nat_le (load r ps) (load v ps)) e.workers ≡ true → all_least clients r ps ≡ true
least_item clients i e r ps are l is has h =
    least_there clients i e r ps l are.workers (subst (λ (x : Client). has_worker r x.workers ≡ true) is has) (subst (λ (x : Client). list_all (λ v. nat_le (load r ps) (load v ps)) x.workers ≡ true) is h)

pub home_same : (clients : List Client) (i : ℕ) (e : Client) (r w : ℕ) → AreClients clients → i < length clients → e ≡ get_or clients i e → has_worker r e.workers ≡ true → has_worker w e.workers ≡ true → home clients r ≡ home clients w
home_same clients i e r w are l is hr hw =
    home_at clients i e r l are.workers (subst (λ (x : Client). has_worker r x.workers ≡ true) is hr)
    ∙ sym (home_at clients i e w l are.workers (subst (λ (x : Client). has_worker w x.workers ≡ true) is hw))

-- the least up to now, at one worker more
pub all_weaker : (m n : ℕ) (ps : Places) (ws : List ℕ) → m ≤ n → list_all (λ v. nat_le n (load v ps)) ws ≡ true → list_all (λ v. nat_le m (load v ps)) ws ≡ true
all_weaker m n ps ws le h = all_zip (λ v. nat_le n (load v ps)) (λ v. nat_le n (load v ps)) (λ v. nat_le m (load v ps)) (λ v a _. le_true m (load v ps) (let k : n ≤ load v ps = true_le n (load v ps) a in omega (arith, le, k))) ws h h

pub by_client_more : (clients : List Client) (ps qs qs' : Places) (p : TaskId × ℕ) (r : ℕ) → by_client clients ps ≡ by_client clients qs → home clients r ≡ home clients p.1 → qs' ≡ qs ++ p ∷ [] → by_client clients (ps ++ (p.0, r) ∷ []) ≡ by_client clients qs'
by_client_more clients ps qs qs' p r is same more =
    by_client_push clients ps (p.0, r)
    ∙ ap (λ (xs : Places). xs ++ (p.0, home clients r) ∷ []) is
    ∙ ap (λ (x : ℕ). by_client clients qs ++ (p.0, x) ∷ []) same
    ∙ sym (by_client_push clients qs p)
    ∙ ap (by_client clients) (sym more)

same_number : (a : ℕ) → (a == a) ≡ true
same_number a = elim (eqb_tells a a) [ inl e ↦ e.0 | inr e ↦ absurd (e.1 refl) ]

pub least_step : (ws : List ℕ) (ps : Places) (i best least n best' least' : ℕ) → i < length ws → has_worker best ws ≡ true → least ≡ load best ps → list_all (λ v. nat_le least (load v ps)) (take i ws) ≡ true → n ≡ load (get_or ws i 0) ps →
    ((n < least) × (best' ≡ get_or ws i 0) × (least' ≡ n)) ⊎ ((least ≤ n) × (best' ≡ best) × (least' ≡ least)) →
    (has_worker best' ws ≡ true) × (least' ≡ load best' ps) × (list_all (λ v. nat_le least' (load v ps)) (take (i + 1) ws) ≡ true)
least_step ws ps i best least n best' least' l has is all n_is (inl h) =
    let in_it : has_worker (get_or ws i 0) ws ≡ true = any_at (λ v. v == get_or ws i 0) ws i 0 l (same_number (get_or ws i 0)) in (
      subst (λ (x : ℕ). has_worker x ws ≡ true) (sym h.1) in_it,
      h.2 ∙ n_is ∙ ap (λ (x : ℕ). load x ps) (sym h.1),
      subst (λ (m : ℕ). list_all (λ v. nat_le m (load v ps)) (take (i + 1) ws) ≡ true) (sym h.2)
          (subst (λ (xs : List ℕ). list_all (λ v. nat_le n (load v ps)) xs ≡ true) (sym (take_more ws i 0 l))
          (all_push (λ v. nat_le n (load v ps)) (take i ws) (get_or ws i 0) (all_weaker n least ps (take i ws) (omega (arith, h.0)) all) (le_true n (load (get_or ws i 0) ps) (omega (arith, n_is))))),
    )
least_step ws ps i best least n best' least' l has is all n_is (inr h) = (
  subst (λ (x : ℕ). has_worker x ws ≡ true) (sym h.1) has,
  h.2 ∙ is ∙ ap (λ (x : ℕ). load x ps) (sym h.1),
  subst (λ (m : ℕ). list_all (λ v. nat_le m (load v ps)) (take (i + 1) ws) ≡ true) (sym h.2)
      (subst (λ (xs : List ℕ). list_all (λ v. nat_le least (load v ps)) xs ≡ true) (sym (take_more ws i 0 l))
      (all_push (λ v. nat_le least (load v ps)) (take i ws) (get_or ws i 0) all (le_true least (load (get_or ws i 0) ps) (omega (arith, n_is, h.0))))),
)

drop_end : {X : Type 0} (xs : List X) (i : ℕ) → length xs ≤ i → drop i xs ≡ []
drop_end [] zero l = refl
drop_end [] (suc i) l = refl
drop_end (x ∷ xs) zero l = absurd (omega arith)
drop_end (x ∷ xs) (suc i) l = drop_end xs i (omega arith)

pub not_employed_end : (clients : List Client) (i w : ℕ) → length clients ≤ i → employs w (drop i clients) ≡ employs w clients → employs w clients ≡ false
not_employed_end clients i w l h = sym h ∙ ap (employs w) (drop_end clients i l)

pub spread_more : (clients : List Client) (ps ps' xs qs : Places) (i : ℕ) (d : TaskId × ℕ) (r : ℕ) → i < length qs → by_client clients ps ≡ by_client clients (take i qs) → all_even clients ps ≡ true → home clients r ≡ home clients (get_or qs i d).1 → all_least clients r xs ≡ true → xs ≡ ps → ps' ≡ ps ++ ((get_or qs i d).0, r) ∷ [] →
    (by_client clients ps' ≡ by_client clients (take (i + 1) qs)) × (all_even clients ps' ≡ true)
spread_more clients ps ps' xs qs i d r l is even same least placed more = (
  ap (by_client clients) more ∙ by_client_more clients ps (take i qs) (take (i + 1) qs) (get_or qs i d) r is same (take_more qs i d l),
  subst (λ (ys : Places). all_even clients ys ≡ true) (sym more) (even_push clients (get_or qs i d).0 r ps even (subst (λ (ys : Places). all_least clients r ys ≡ true) placed least)),
)
