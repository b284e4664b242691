-- Ends of decided records, and what was sent.
use Rattle.std.proofs.Common.{◌≡◌, ℕ, suc, ◌+◌, Bool, true, false, not, cond, ◌&&◌, nat_lt, List, [], ◌∷◌, ◌++◌, length, set, Option, Some, None, refl, sym, ap, ap₂, ◌∙◌, arith}
use Rattle.std.proofs.lemmas.Bool.{true≢false, lt-ltb, le-ltb, ltb-true, ltb-false}
use Rattle.ks_record.specs.Records.{Record as Rec}
use Rattle.ks_record.specs.declared.record.PartId.{PartId}
use Rattle.ks_record.specs.declared.record.TaskId.{TaskId}
use Rattle.ks_record.specs.Parts.{same_part, same_task}
use Rattle.ks_history.specs.Partition.{Logged, past_last, with_offsets}
use Rattle.ks_history.proofs.Names.{same_part-is, same_part-refl}
use Rattle.ks_law_restore.specs.Views.{is_empty}
use Rattle.ks_law_audit.specs.Logged.{logged_at}
use Rattle.ks_law_audit.specs.Laws.{is_past, past_or}
use Rattle.ks_audit_ledger.specs.declared.account.Sent.{Sent}
use Rattle.ks_audit_ledger.specs.Offsets.{logged_in}
use Rattle.ks_audit_commit.specs.Ends.{end_in, end_place, with_end, is_sent_by, first_in, is_from, are_from, moved_by, moved}

-- ---- one end more
put : PartId → ℕ → List (PartId × ℕ) → List (PartId × ℕ)
put q n [] = (q, n) ∷ []
put q n (e ∷ es) = cond (same_part q e.0) ((q, n) ∷ es) (e ∷ put q n es)

shorter : (a b : ℕ) → nat_lt (suc a) (suc b) ≡ nat_lt a b
shorter a b = by (nat_lt a b) refl
  where
    by : (c : Bool) → nat_lt a b ≡ c → nat_lt (suc a) (suc b) ≡ c
    by true is = lt-ltb (suc a) (suc b) (omega (arith, ltb-true a b is))
    by false is = le-ltb (suc a) (suc b) (omega (arith, ltb-false a b is))

put_is : (q : PartId) (n : ℕ) (es : List (PartId × ℕ)) → with_end q n es ≡ put q n es
unfolding put
put_is q n [] = refl
put_is q n (e ∷ es) = by (same_part q e.0) (put_is q n es)
  where
    later : (c : Bool) → cond c (set es (end_place q es) (q, n)) (es ++ (q, n) ∷ []) ≡ put q n es → cond c (set (e ∷ es) (suc (end_place q es)) (q, n)) (e ∷ (es ++ (q, n) ∷ [])) ≡ e ∷ put q n es
    later true h = ap (λ l. e ∷ l) h
    later false h = ap (λ l. e ∷ l) h

    by : (b : Bool) → with_end q n es ≡ put q n es →
        cond (nat_lt (cond b 0 (suc (end_place q es))) (suc (length es))) (set (e ∷ es) (cond b 0 (suc (end_place q es))) (q, n)) ((e ∷ es) ++ (q, n) ∷ []) ≡ cond b ((q, n) ∷ es) (e ∷ put q n es)
    by true h = ap (λ c. cond c ((q, n) ∷ es) (e ∷ (es ++ (q, n) ∷ []))) (lt-ltb 0 (suc (length es)) (omega arith))
    by false h = ap (λ c. cond c (set (e ∷ es) (suc (end_place q es)) (q, n)) (e ∷ (es ++ (q, n) ∷ []))) (shorter (end_place q es) (length es)) ∙ later (nat_lt (end_place q es) (length es)) h

end_after : (r q : PartId) (n : ℕ) (es : List (PartId × ℕ)) → end_in r (with_end q n es) ≡ cond (same_part r q) n (end_in r es)
unfolding put
end_after r q n es = ap (end_in r) (put_is q n es) ∙ in_put es
  where
    in_put : (es : List (PartId × ℕ)) → end_in r (put q n es) ≡ cond (same_part r q) n (end_in r es)
    in_put [] = refl
    in_put (e ∷ es) = by (same_part q e.0) refl (same_part r e.0) refl (same_part r q) refl (in_put es)
      where
        by : (a : Bool) → same_part q e.0 ≡ a → (b : Bool) → same_part r e.0 ≡ b → (c : Bool) → same_part r q ≡ c → end_in r (put q n es) ≡ cond c n (end_in r es) →
            end_in r (cond a ((q, n) ∷ es) (e ∷ put q n es)) ≡ cond c n (cond b e.1 (end_in r es))
        by true f true g true h k = ap (λ x. cond x n (end_in r es)) h
        by true f false g true h k = ap (λ x. cond x n (end_in r es)) h
        by true f true g false h k = absurd (true≢false (sym g ∙ ap (same_part r) (sym (same_part-is q e.0 f)) ∙ h))
        by true f false g false h k = ap (λ x. cond x n (end_in r es)) h
        by false f true g true h k = absurd (true≢false (sym (same_part-refl r) ∙ ap₂ same_part (same_part-is r q h) (same_part-is r e.0 g) ∙ f))
        by false f true g false h k = ap (λ x. cond x e.1 (end_in r (put q n es))) g
        by false f false g c h k = ap (λ x. cond x e.1 (end_in r (put q n es))) g ∙ k

-- ---- the first of what was sent
first_is : (t : TaskId) (q : PartId) (n : ℕ) (xs : List Sent) → is_past n (logged_in t q xs) ≡ is_from n (first_in t q xs)
first_is t q n [] = refl
first_is t q n (x ∷ xs) = by (same_task t x.task) (same_part q x.part) x.recs (first_is t q n xs)
  where
    by : (a b : Bool) (rs : List Rec) → is_past n (logged_in t q xs) ≡ is_from n (first_in t q xs) →
        is_past n (cond (a && b) (logged_at x.first x.task rs ++ logged_in t q xs) (logged_in t q xs)) ≡ is_from n (cond ((a && not (is_empty rs)) && b) (Some x.first) (first_in t q xs))
    by true true [] h = h
    by true true (r ∷ rs) h = refl
    by true false [] h = h
    by true false (r ∷ rs) h = h
    by false b rs h = h

-- ---- behind the ends, in each partition
and_three : (a b c : Bool) → ((a && b) && c) ≡ true → c ≡ true
and_three true true c h = h
and_three true false c h = absurd cc
and_three false b c h = absurd cc

both_parts : (b c : Bool) → cond b c false ≡ true → (b ≡ true) × (c ≡ true)
both_parts true c h = (refl, h)
both_parts false c h = absurd cc

both_from : (b c : Bool) → b ≡ true → c ≡ true → cond b c false ≡ true
both_from true c g h = h
both_from false c g h = absurd cc

module _ (t : TaskId) (ends : List (PartId × ℕ)) (sent : List Sent) where
  found : (q : PartId) (n : ℕ) (xs : List Sent) → are_from t ends sent xs ≡ true → first_in t q xs ≡ Some n → is_from (end_in q ends) (first_in t q sent) ≡ true
  found q n [] all is = absurd cc
  found q n (x ∷ xs) all is =
      let parts = both_parts (is_from (end_in x.part ends) (first_in t x.part sent)) (are_from t ends sent xs) all in
      by (is_sent_by t x && same_part q x.part) refl is parts.0 (found q n xs parts.1)
    where
      by : (b : Bool) → (is_sent_by t x && same_part q x.part) ≡ b → cond b (Some x.first) (first_in t q xs) ≡ Some n → is_from (end_in x.part ends) (first_in t x.part sent) ≡ true →
          (first_in t q xs ≡ Some n → is_from (end_in q ends) (first_in t q sent) ≡ true) → is_from (end_in q ends) (first_in t q sent) ≡ true
      by true h g here more = ap (λ k. is_from (end_in k ends) (first_in t k sent)) (same_part-is q x.part (and_three (same_task t x.task) (not (is_empty x.recs)) (same_part q x.part) h)) ∙ here
      by false h g here more = more g

  pub from_each : are_from t ends sent sent ≡ true → (q : PartId) → is_past (end_in q ends) (logged_in t q sent) ≡ true
  from_each all q = first_is t q (end_in q ends) sent ∙ by (first_in t q sent) refl
    where
      by : (o : Option ℕ) → first_in t q sent ≡ o → is_from (end_in q ends) (first_in t q sent) ≡ true
      by None is = ap (is_from (end_in q ends)) is
      by (Some n) is = found q n sent all is

  each_from : ((q : PartId) → is_past (end_in q ends) (logged_in t q sent) ≡ true) → (xs : List Sent) → are_from t ends sent xs ≡ true
  each_from each [] = refl
  each_from each (x ∷ xs) =
      both_from (is_from (end_in x.part ends) (first_in t x.part sent)) (are_from t ends sent xs)
      (sym (first_is t x.part (end_in x.part ends) sent) ∙ each x.part) (each_from each xs)

  pub all_from : ((q : PartId) → is_past (end_in q ends) (logged_in t q sent) ≡ true) → are_from t ends sent sent ≡ true
  all_from each = each_from each sent

-- ---- the ends behind what was sent
last_at : (n : ℕ) (u : TaskId) (r : Rec) (rs : List Rec) (more : List Logged) → past_or (n + length (r ∷ rs)) more ≡ past_last (with_offsets (logged_at n u (r ∷ rs) ++ more))
last_at n u r [] [] = refl
last_at n u r [] (y ∷ ys) = refl
last_at n u r (k ∷ rs) more =
    let e : n + length (r ∷ k ∷ rs) ≡ (n + 1) + length (k ∷ rs) = omega arith in
    ap (λ m. past_or m more) e ∙ last_at (n + 1) u k rs more

pub ends_after : (t : TaskId) (q : PartId) (xs : List Sent) (ends : List (PartId × ℕ)) → end_in q (moved t ends xs) ≡ past_or (end_in q ends) (logged_in t q xs)
ends_after t q [] ends = refl
ends_after t q (x ∷ xs) ends =
    ends_after t q xs (moved_by t ends x) ∙ by (same_task t x.task) (same_part q x.part) refl x.recs
  where
    nothing : (b : Bool) (l : List Logged) → past_or (end_in q ends) l ≡ past_or (end_in q ends) (cond b l l)
    nothing true l = refl
    nothing false l = refl

    by : (a b : Bool) → same_part q x.part ≡ b → (rs : List Rec) →
        past_or (end_in q (cond (a && not (is_empty rs)) (with_end x.part (x.first + length rs) ends) ends)) (logged_in t q xs)
        ≡ past_or (end_in q ends) (cond (a && b) (logged_at x.first x.task rs ++ logged_in t q xs) (logged_in t q xs))
    by false b h rs = refl
    by true b h [] = nothing b (logged_in t q xs)
    by true true h (r ∷ rs) =
        ap (λ n. past_or n (logged_in t q xs)) (end_after q x.part (x.first + length (r ∷ rs)) ends ∙ ap (λ c. cond c (x.first + length (r ∷ rs)) (end_in q ends)) h)
        ∙ last_at x.first x.task r rs (logged_in t q xs)
    by true false h (r ∷ rs) =
        ap (λ n. past_or n (logged_in t q xs)) (end_after q x.part (x.first + length (r ∷ rs)) ends ∙ ap (λ c. cond c (x.first + length (r ∷ rs)) (end_in q ends)) h)
