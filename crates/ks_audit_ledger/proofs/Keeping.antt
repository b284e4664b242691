-- The accounts of all producers tell the journal.
use Rattle.std.proofs.Common.{◌≡◌, ℕ, zero, suc, ◌≤◌, ◌<◌, Bool, true, false, cond, List, [], ◌∷◌, ◌++◌, length, get_or, Option, Some, None, refl, sym, ap, subst, ◌∙◌, arith}
use Rattle.std.specs.Prelude.{◌==◌, set, replicate}
use Rattle.std.proofs.lemmas.Bool.{true≢false, eqb-true, eq-eqb}
use Rattle.std.proofs.lemmas.Grind.{get_or-set_at}
use Rattle.std.proofs.lemmas.List.{get_or-set_other}
use Rattle.ks_history.specs.declared.journal.Request.{Request}
use Rattle.ks_history.specs.declared.journal.Request.TheVariants.{Produce, Init, Add, Append, SendOffsets, Decide, MarkNext, Join, Expire, Hold, Probe, Assign, Park, Unpark}
use Rattle.ks_history.specs.State.{State, Setup}
use Rattle.ks_history.specs.History.{at, Meets}
use Rattle.ks_audit_ledger.specs.declared.account.Account.{Account}
use Rattle.ks_audit_ledger.specs.Accounts.{blank, noted, owner_of, is_owner}
use Rattle.ks_audit_ledger.specs.Kept.{IsKept}
use Rattle.ks_audit_ledger.specs.Ledgers.{IsLedger, noted_at, LedgerStarts, LedgerStays}
use Rattle.ks_audit_ledger.proofs.Noting.{account_stays}
use Rattle.ks_audit_ledger.proofs.Offsetting.{offsets_stay}
use Rattle.ks_audit_ledger.proofs.Naming.{blank_knows, tasks_stay}

blank_first : (setup : Setup) (w : ℕ) → IsKept setup [] w blank
blank_first setup w = record { account = record { epoch = refl; undecided = tt; sent = λ t q. refl }; offsets = λ t q. refl; known = blank_knows setup }

blanks : (n w : ℕ) → get_or (replicate n blank) w blank ≡ blank
blanks zero w = refl
blanks (suc n) zero = refl
blanks (suc n) (suc w) = blanks n w

pub ledger_starts : LedgerStarts
ledger_starts setup = record { count = refl; each = λ w few. subst (IsKept setup [] w) (sym (blanks 17 w)) (blank_first setup w) }

set_length : (l : List Account) (v : ℕ) (x : Account) → length (set l v x) ≡ length l
set_length [] v x = refl
set_length (y ∷ l) zero x = refl
set_length (y ∷ l) (suc v) x = ap suc (set_length l v x)

set_at : (l : List Account) (w v : ℕ) (x : Account) → v < length l → get_or (set l v x) w blank ≡ cond (w == v) x (get_or l w blank)
set_at l w v x h = by (w == v) refl
  where
    by : (b : Bool) → (w == v) ≡ b → get_or (set l v x) w blank ≡ cond b x (get_or l w blank)
    by true is = get_or-set_at l v w x blank (eqb-true w v is) h
    by false is = get_or-set_other l v w x blank (λ e. true≢false (sym (eq-eqb w v e) ∙ is))

pub owner_small : (setup : Setup) (s : State) (request : Request) (v : ℕ) → Meets setup s request → owner_of request ≡ Some v → v ≤ 16
owner_small setup s (Init w) v m e = let g : w ≡ v = cc in subst (λ k. k ≤ 16) g m
owner_small setup s (Add w d p) v m e = let g : w ≡ v = cc in subst (λ k. k ≤ 16) g m.0
owner_small setup s (Append w d number t p recs) v m e = let g : w ≡ v = cc in subst (λ k. k ≤ 16) g m.0
owner_small setup s (SendOffsets w d g t offsets order late) v m e = let h : w ≡ v = cc in subst (λ k. k ≤ 16) h m.0
owner_small setup s (Decide w d commit) v m e = let g : w ≡ v = cc in subst (λ k. k ≤ 16) g m
owner_small setup s (Expire w) v m e = let g : w ≡ v = cc in subst (λ k. k ≤ 16) g m
owner_small setup s (Produce p rec) v m e = absurd cc
owner_small setup s (MarkNext w) v m e = absurd cc
owner_small setup s (Join w) v m e = absurd cc
owner_small setup s (Hold w held) v m e = absurd cc
owner_small setup s (Probe w g) v m e = absurd cc
owner_small setup s (Assign w g a) v m e = absurd cc
owner_small setup s (Park instance t) v m e = absurd cc
owner_small setup s (Unpark instance t) v m e = absurd cc

pub ledger_stays : LedgerStays
ledger_stays setup journal entry l step is = by (owner_of entry.request) refl
  where
    next : (w : ℕ) → w ≤ 16 → IsKept setup (journal ++ entry ∷ []) w (cond (is_owner w (owner_of entry.request)) (noted (get_or l w blank) entry) (get_or l w blank))
    next w few = record {
      account = account_stays setup journal entry w (get_or l w blank) step (is.each w few).account;
      offsets = offsets_stay setup journal entry w (get_or l w blank) step (is.each w few).offsets;
      known = tasks_stay setup journal entry w (get_or l w blank) step (is.each w few).known;
    }

    same : (w v : ℕ) (b : Bool) → (w == v) ≡ b → cond b (noted (get_or l w blank) entry) (get_or l w blank) ≡ cond b (noted (get_or l v blank) entry) (get_or l w blank)
    same w v true h = ap (λ k. noted (get_or l k blank) entry) (eqb-true w v h)
    same w v false h = refl

    by : (o : Option ℕ) → owner_of entry.request ≡ o → IsLedger setup (journal ++ entry ∷ []) (noted_at l entry o)
    by None h = record { count = is.count; each = λ w few. subst (λ o. IsKept setup (journal ++ entry ∷ []) w (cond (is_owner w o) (noted (get_or l w blank) entry) (get_or l w blank))) h (next w few) }
    by (Some v) h =
        let small : v ≤ 16 = owner_small setup (at setup journal) entry.request v step.meets h in
        record {
          count = set_length l v (noted (get_or l v blank) entry) ∙ is.count;
          each = λ w few. subst (IsKept setup (journal ++ entry ∷ []) w)
              (same w v (w == v) refl ∙ sym (set_at l w v (noted (get_or l v blank) entry) (omega (arith, small, is.count))))
              (subst (λ o. IsKept setup (journal ++ entry ∷ []) w (cond (is_owner w o) (noted (get_or l w blank) entry) (get_or l w blank))) h (next w few));
        }
