-- The account of a commit's calls.
use Rattle.std.proofs.Common.{◌≡◌, ◌⊎◌, inl, inr, ℕ, suc, ◌+◌, ◌≤◌, Bool, true, false, cond, List, [], ◌∷◌, ◌++◌, length, refl, sym, ap, ◌∙◌, arith, append_assoc}
use Rattle.ks_history.specs.declared.journal.Entry.{Entry}
use Rattle.ks_history.specs.Touched.{touches, touched_from, touched}
use Rattle.ks_law_sharing.proofs.Touching.{touched-append}
use Rattle.ks_law_commit.specs.Accounts.{is_of_commit, requests_of, accepted_of, AccountBegins, AccountStays, AccountGains, AccountEnds, RefusedCounts}

count_cond : (b : Bool) (m n k : ℕ) → m ≡ n + k → cond b (suc m) m ≡ cond b (suc n) n + k
count_cond true m n k h = omega (arith, h)
count_cond false m n k h = h

pub requests-append : (w : ℕ) (xs ys : List Entry) → requests_of w (xs ++ ys) ≡ requests_of w xs + requests_of w ys
requests-append w [] ys = omega arith
requests-append w (x ∷ xs) ys = count_cond (is_of_commit w x.request) _ _ _ (requests-append w xs ys)

pub accepted-append : (w : ℕ) (xs ys : List Entry) → accepted_of w (xs ++ ys) ≡ accepted_of w xs + accepted_of w ys
accepted-append w [] ys = omega arith
accepted-append w (x ∷ xs) ys = count_cond (touches w x) _ _ _ (accepted-append w xs ys)

sent_one : (w : ℕ) (entry : Entry) → is_of_commit w entry.request ≡ true → requests_of w (entry ∷ []) ≡ 1
sent_one w entry is = ap (λ b. cond b 1 0) is

accepted_one : (w : ℕ) (entry : Entry) → touches w entry ≡ true → accepted_of w (entry ∷ []) ≡ 1
accepted_one w entry is = ap (λ b. cond b 1 0) is

-- no entry touches, or one is counted
quiet_or : (w : ℕ) (xs : List Entry) (n last : ℕ) → (touched_from w n last xs ≡ last) ⊎ (1 ≤ accepted_of w xs)
quiet_or w [] n last = inl refl
quiet_or w (x ∷ xs) n last = by (touches w x) (quiet_or w xs (n + 1) last)
  where
    by : (b : Bool) → (touched_from w (n + 1) last xs ≡ last) ⊎ (1 ≤ accepted_of w xs) → (touched_from w (n + 1) (cond b (n + 1) last) xs ≡ last) ⊎ (1 ≤ cond b (suc (accepted_of w xs)) (accepted_of w xs))
    by true on = inr (omega arith)
    by false on = on

pub account_begins : AccountBegins
account_begins w last journal is = record {
  requests = omega arith;
  accepted = omega arith;
  either = inl (ap (touched w) (same journal) ∙ is);
}
  where
    same : (xs : List Entry) → xs ++ [] ≡ xs
    same [] = refl
    same (x ∷ xs) = ap (λ l. x ∷ l) (same xs)

pub account_stays : AccountStays
account_stays w last made journal more others a = record {
  requests = omega (arith, a.requests, requests-append w more others);
  accepted = omega (arith, a.accepted, accepted-append w more others);
  either = by a.either (quiet_or w others (0 + length (journal ++ more)) (touched w (journal ++ more)));
}
  where
    by : (touched w (journal ++ more) ≡ last) ⊎ (suc made ≤ accepted_of w more) → (touched_from w (0 + length (journal ++ more)) (touched w (journal ++ more)) others ≡ touched w (journal ++ more)) ⊎ (1 ≤ accepted_of w others) →
        (touched w (journal ++ (more ++ others)) ≡ last) ⊎ (suc made ≤ accepted_of w (more ++ others))
    by (inr h) q = inr (omega (arith, h, accepted-append w more others))
    by (inl h) (inr g) = inr (omega (arith, a.accepted, g, accepted-append w more others))
    by (inl h) (inl g) = inl (ap (touched w) (sym (append_assoc journal more others)) ∙ touched-append w (journal ++ more) others ∙ g ∙ h)

pub account_gains : AccountGains
account_gains w last made journal more entry sent is a = record {
  requests = omega (arith, a.requests, requests-append w more (entry ∷ []), sent_one w entry sent);
  accepted = omega (arith, a.accepted, accepted-append w more (entry ∷ []), accepted_one w entry is);
  either = inl refl;
}

pub account_ends : AccountEnds
account_ends w last made journal more a ne = by a.either
  where
    by : (touched w (journal ++ more) ≡ last) ⊎ (suc made ≤ accepted_of w more) → suc made ≤ accepted_of w more
    by (inl h) = absurd (ne h)
    by (inr h) = h

pub refused_counts : RefusedCounts
refused_counts w made more others entry sent h =
    omega (arith, h, requests-append w (more ++ others) (entry ∷ []), requests-append w more others, sent_one w entry sent)
