-- One place more for a task
use Rattle.std.proofs.Common.{◌≡◌, ◌≢◌, ℕ, zero, suc, ◌+◌, ◌-◌, ◌<◌, ◌==◌, ◌&&◌, true, false, cond, nat_lt, List, [], ◌∷◌, ◌++◌, length, get_or, take, drop, sym, ap, subst, ◌∙◌, arith, inl, inr, append_assoc}
use Rattle.std.proofs.lemmas.Bool.Decides.{eqb_tells, nat_tests}
use Rattle.ks_record.specs.declared.record.TaskId.{TaskId}
use Rattle.ks_assign.specs.declared.clients.Client.{Client}
use Rattle.ks_assign.specs.Placement.{AreClients, Places, by_client, copies, home, outweighs}
use Rattle.ks_assign.specs.Steps.{all_home, others, wanted}
use Rattle.ks_assign.proofs.Homes.{home_item}
use Rattle.ks_assign.proofs.Moves.{by_client_push, all_push}

drop_item : (xs : List Client) (i : ℕ) (e : Client) → i < length xs → e ≡ get_or xs i e → drop i xs ≡ e ∷ drop (i + 1) xs
drop_item [] i e l is = absurd (omega arith)
drop_item (x ∷ xs) zero e l is = ap (λ (y : Client). y ∷ xs) (sym is)
drop_item (x ∷ xs) (suc i) e l is =
    let n : suc i + 1 ≡ suc (i + 1) = omega arith in
    drop_item xs i e (omega arith) is ∙ ap (λ (k : ℕ). e ∷ drop k (x ∷ xs)) (sym n)

take_some : {X : Type 0} (n : ℕ) (x : X) (xs : List X) → 0 < n → take n (x ∷ xs) ≡ x ∷ take (n - 1) xs
take_some zero x xs l = absurd (omega arith)
take_some (suc n) x xs l = let e : n ≡ suc n - 1 = omega arith in ap (λ k. x ∷ take k xs) e

pub others_more : (clients : List Client) (ps ps' total : Places) (i : ℕ) (e : Client) (w h left : ℕ) (t : TaskId) → AreClients clients → i < length clients → e ≡ get_or clients i e → w ≡ get_or e.workers 0 w → e.instance ≢ h → 0 < left →
    by_client clients ps ++ take left (others (drop i clients) h t) ≡ total → ps' ≡ ps ++ (t, w) ∷ [] → by_client clients ps' ++ take (left - 1) (others (drop (i + 1) clients) h t) ≡ total
others_more clients ps ps' total i e w h left t are l is at ne some so_far more =
    let home_is : home clients w ≡ e.instance = home_item clients i e w are l is at in
    let differ : (e.instance == h) ≡ false = elim (eqb_tells e.instance h) [ inl s ↦ absurd (ne s.1) | inr s ↦ s.0 ] in
    let rest : Places = others (drop (i + 1) clients) h t in
    let here : others (drop i clients) h t ≡ (t, e.instance) ∷ others (drop (i + 1) clients) h t =
    ap (λ (cs : List Client). others cs h t) (drop_item clients i e l is) ∙ ap (λ b. cond b (others (drop (i + 1) clients) h t) ((t, e.instance) ∷ others (drop (i + 1) clients) h t)) differ in
    let pushed : by_client clients ps' ≡ by_client clients ps ++ (t, e.instance) ∷ [] =
    ap (by_client clients) more ∙ by_client_push clients ps (t, w) ∙ ap (λ (x : ℕ). by_client clients ps ++ (t, x) ∷ []) home_is in
    ap (λ (xs : Places). xs ++ take (left - 1) (others (drop (i + 1) clients) h t)) pushed
    ∙ append_assoc (by_client clients ps) ((t, e.instance) ∷ []) (take (left - 1) (others (drop (i + 1) clients) h t))
    ∙ ap (λ (xs : Places). by_client clients ps ++ xs) (sym (ap (λ (xs : Places). take left xs) here ∙ take_some left (t, e.instance) (others (drop (i + 1) clients) h t) some))
    ∙ so_far

pub wanted_more : (clients : List Client) (ps ps' total active standby : Places) (i : ℕ) (e : Client) (w h : ℕ) (t : TaskId) → AreClients clients → i < length clients → e ≡ get_or clients i e → w ≡ get_or e.workers 0 w → outweighs h e.instance active ≡ true → copies t e.instance standby ≡ 0 →
    by_client clients ps ++ wanted (drop i clients) active standby (t, h) ≡ total → ps' ≡ ps ++ (t, w) ∷ [] → by_client clients ps' ++ wanted (drop (i + 1) clients) active standby (t, h) ≡ total
wanted_more clients ps ps' total active standby i e w h t are l is at off none so_far more =
    let home_is : home clients w ≡ e.instance = home_item clients i e w are l is at in
    let zero_is : (copies t e.instance standby == 0) ≡ true = elim (eqb_tells (copies t e.instance standby) 0) [ inl s ↦ s.0 | inr s ↦ absurd (s.1 none) ] in
    let test : (outweighs h e.instance active && (copies t e.instance standby == 0)) ≡ true = ap (λ b. b && (copies t e.instance standby == 0)) off ∙ zero_is in
    let here : wanted (drop i clients) active standby (t, h) ≡ (t, e.instance) ∷ wanted (drop (i + 1) clients) active standby (t, h) =
    ap (λ (cs : List Client). wanted cs active standby (t, h)) (drop_item clients i e l is) ∙ ap (λ b. cond b ((t, e.instance) ∷ wanted (drop (i + 1) clients) active standby (t, h)) (wanted (drop (i + 1) clients) active standby (t, h))) test in
    let pushed : by_client clients ps' ≡ by_client clients ps ++ (t, e.instance) ∷ [] =
    ap (by_client clients) more ∙ by_client_push clients ps (t, w) ∙ ap (λ (x : ℕ). by_client clients ps ++ (t, x) ∷ []) home_is in
    ap (λ (xs : Places). xs ++ wanted (drop (i + 1) clients) active standby (t, h)) pushed
    ∙ append_assoc (by_client clients ps) ((t, e.instance) ∷ []) (wanted (drop (i + 1) clients) active standby (t, h))
    ∙ ap (λ (xs : Places). by_client clients ps ++ xs) (sym here)
    ∙ so_far

pub home_more : (clients : List Client) (ps ps' : Places) (i : ℕ) (e : Client) (w : ℕ) (t : TaskId) → AreClients clients → i < length clients → e ≡ get_or clients i e → w ≡ get_or e.workers 0 w → e.instance < 256 → all_home clients ps ≡ true → ps' ≡ ps ++ (t, w) ∷ [] → all_home clients ps' ≡ true
home_more clients ps ps' i e w t are l is at small h more =
    let home_is : home clients w ≡ e.instance = home_item clients i e w are l is at in
    let below : home clients w < 256 = omega (arith, home_is, small) in
    subst (λ (xs : Places). all_home clients xs ≡ true) (sym more) (all_push (λ p. nat_lt (home clients p.1) 256) ps (t, w) h (grind (arith, nat_tests, below)))
