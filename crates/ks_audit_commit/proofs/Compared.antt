-- The records that were sent for a task are what it made exactly where they are so partition by partition.
use Rattle.std.proofs.Common.{◌≡◌, ⊎_elim, ℕ, ◌+◌, ◌<◌, ◌≤◌, drop, Bool, true, false, cond, not, ◌&&◌, List, [], ◌∷◌, ◌++◌, length, Option, Some, None, refl, sym, ap, ap₂, ◌∙◌, arith}
use Rattle.std.specs.Prelude.{◌==◌}
use Rattle.std.specs.Ordering.{is_eq}
use Rattle.std.proofs.lemmas.Bool.{true≢false, and_parts, and_from, eqb-true, eqb-false, eq-eqb, cases_lt}
use Rattle.std.proofs.lemmas.List.{append-nil, drop_all, drop_more}
use Rattle.std.proofs.lemmas.Cmp.{nat_list_cmp_total, tied_itself}
use Rattle.std.proofs.lemmas.Map.Text.{is_eq-slice_cmp}
use Rattle.std.proofs.lemmas.Slice.Eq.{bytes_eq-Decides}
use Rattle.ks_record.specs.Records.{Record as Rec, rec_of_list, no_rec}
use Rattle.ks_record.specs.declared.record.PartId.{PartId}
use Rattle.ks_record.specs.declared.record.TaskId.{TaskId}
use Rattle.ks_record.specs.Parts.{same_part, same_task}
use Rattle.ks_history.proofs.Names.{same_part-is, same_part-refl}
use Rattle.ks_law_restore.specs.Views.{recs_at, names_part, is_empty, are_outputs}
use Rattle.ks_audit_ledger.specs.declared.account.Sent.{Sent}
use Rattle.ks_audit_ledger.specs.Accounts.{sent_in}
use Rattle.ks_audit_commit.specs.Comparing.{same_bytes, same_record, behind, is_sent_to, goes_on, are_sent, outputs_are_sent, is_output, sent_are_outputs, are_made}

-- ---- records
bytes_are : (a b : Option (List ℕ)) → same_bytes a b ≡ true → a ≡ b
bytes_are (Some a) (Some b) h = ap (λ l. Some l) ((bytes_eq-Decides a b).0 (sym (is_eq-slice_cmp a b) ∙ h))
bytes_are None None h = refl
bytes_are (Some a) None h = absurd cc
bytes_are None (Some b) h = absurd cc

bytes_same : (a : Option (List ℕ)) → same_bytes a a ≡ true
bytes_same (Some a) = ap is_eq (tied_itself nat_list_cmp_total a)
bytes_same None = refl

record_is : (a b : Rec) → same_record a b ≡ true → a ≡ b
record_is a b h =
    let x = and_parts (same_bytes a.key b.key && same_bytes a.value b.value) (a.ts == b.ts) h in
    let y = and_parts (same_bytes a.key b.key) (same_bytes a.value b.value) x.0 in
    λ i. record { key = bytes_are a.key b.key y.0 i; value = bytes_are a.value b.value y.1 i; ts = eqb-true a.ts b.ts x.1 i }

record_same : (a : Rec) → same_record a a ≡ true
record_same a =
    and_from (same_bytes a.key a.key && same_bytes a.value a.value) (a.ts == a.ts)
    (and_from (same_bytes a.key a.key) (same_bytes a.value a.value) (bytes_same a.key) (bytes_same a.value)) (eq-eqb a.ts a.ts refl)

behind_is : (front recs rest : List Rec) → behind front recs ≡ Some rest → recs ≡ front ++ rest
behind_is [] recs rest is = cc
behind_is (x ∷ front) [] rest is = absurd cc
behind_is (x ∷ front) (r ∷ recs) rest is = by (same_record x r) refl is (behind_is front recs rest)
  where
    by : (b : Bool) → same_record x r ≡ b → cond b (behind front recs) None ≡ Some rest → (behind front recs ≡ Some rest → recs ≡ front ++ rest) → r ∷ recs ≡ x ∷ (front ++ rest)
    by true h g more = ap₂ (λ y ys. y ∷ ys) (sym (record_is x r h)) (more g)
    by false h g more = absurd cc

behind_back : (front rest : List Rec) → behind front (front ++ rest) ≡ Some rest
behind_back [] rest = refl
behind_back (x ∷ front) rest = ap (λ b. cond b (behind front (front ++ rest)) None) (record_same x) ∙ behind_back front rest

-- record by record, from a place on
pub behind_more : (front recs : List Rec) (i n : ℕ) → i < length front → n < length recs → same_record (rec_of_list front i) (rec_of_list recs n) ≡ true →
    behind (drop i front) (drop n recs) ≡ behind (drop (i + 1) front) (drop (n + 1) recs)
behind_more front recs i n h k same =
    ap₂ behind (drop_more front i no_rec h) (drop_more recs n no_rec k) ∙ ap (λ b. cond b (behind (drop (i + 1) front) (drop (n + 1) recs)) None) same

pub behind_other : (front recs : List Rec) (i n : ℕ) → i < length front → n < length recs → same_record (rec_of_list front i) (rec_of_list recs n) ≡ false →
    behind (drop i front) (drop n recs) ≡ None
behind_other front recs i n h k same =
    ap₂ behind (drop_more front i no_rec h) (drop_more recs n no_rec k) ∙ ap (λ b. cond b (behind (drop (i + 1) front) (drop (n + 1) recs)) None) same

pub behind_none : (front recs : List Rec) (i n : ℕ) → i < length front → length recs ≤ n → behind (drop i front) (drop n recs) ≡ None
behind_none front recs i n h k = ap₂ behind (drop_more front i no_rec h) (drop_all n recs k)

-- no record stands from a place on exactly where that is the end
pub end_told : (recs : List Rec) (at n : ℕ) → at ≤ length recs → n ≡ length recs → (at == n) ≡ is_empty (drop at recs)
end_told recs at n low is = by (at == n) refl
  where
    by : (b : Bool) → (at == n) ≡ b → (at == n) ≡ is_empty (drop at recs)
    by true h = let e : at ≡ n = eqb-true at n h in h ∙ sym (ap is_empty (drop_all at recs (omega (arith, e, is))))
    by false h =
        let within : at < length recs =
        ⊎_elim (λ (lt : at < length recs). lt) (λ (le : length recs ≤ at). absurd (eqb-false at n h (omega (arith, le, is, low)))) (cases_lt at (length recs)) in
        h ∙ sym (ap is_empty (drop_more recs at no_rec within))

-- ---- sent records
are_all : (t : TaskId) (q : PartId) (recs : List Rec) (xs : List Sent) → are_sent t q recs xs ≡ true → recs ≡ sent_in t q xs
are_all t q [] [] h = refl
are_all t q (r ∷ recs) [] h = absurd cc
are_all t q recs (x ∷ xs) h = by (is_sent_to t q x) (behind x.recs recs) refl h (λ rest. are_all t q rest xs)
  where
    by : (b : Bool) (o : Option (List Rec)) → behind x.recs recs ≡ o → goes_on (cond b o (Some recs)) (λ left. are_sent t q left xs) ≡ true → ((rest : List Rec) → are_sent t q rest xs ≡ true → rest ≡ sent_in t q xs) →
        recs ≡ cond b (x.recs ++ sent_in t q xs) (sent_in t q xs)
    by true None is g more = absurd cc
    by true (Some rest) is g more = behind_is x.recs recs rest is ∙ ap (λ l. x.recs ++ l) (more rest g)
    by false o is g more = more recs g

all_are : (t : TaskId) (q : PartId) (xs : List Sent) → are_sent t q (sent_in t q xs) xs ≡ true
all_are t q [] = refl
all_are t q (x ∷ xs) = by (is_sent_to t q x) (all_are t q xs)
  where
    by : (b : Bool) → are_sent t q (sent_in t q xs) xs ≡ true → goes_on (cond b (behind x.recs (cond b (x.recs ++ sent_in t q xs) (sent_in t q xs))) (Some (cond b (x.recs ++ sent_in t q xs) (sent_in t q xs)))) (λ left. are_sent t q left xs) ≡ true
    by true more = ap (λ o. goes_on o (λ left. are_sent t q left xs)) (behind_back x.recs (sent_in t q xs)) ∙ more
    by false more = more

-- ---- outputs
both_parts : (b c : Bool) → cond b c false ≡ true → (b ≡ true) × (c ≡ true)
both_parts true c h = (refl, h)
both_parts false c h = absurd cc

both_from : (b c : Bool) → b ≡ true → c ≡ true → cond b c false ≡ true
both_from true c g h = h
both_from false c g h = absurd cc

not_named : (q : PartId) (outs : List (PartId × List Rec)) → names_part q outs ≡ false → recs_at q outs ≡ []
not_named q [] none = refl
not_named q (out ∷ outs) none = by (same_part q out.0) none (not_named q outs)
  where
    by : (b : Bool) → cond b true (names_part q outs) ≡ false → (names_part q outs ≡ false → recs_at q outs ≡ []) → cond b (out.1 ++ recs_at q outs) (recs_at q outs) ≡ []
    by true h f = absurd cc
    by false h f = f h

once_parts : (b c : Bool) → cond b false c ≡ true → (b ≡ false) × (c ≡ true)
once_parts true c e = absurd cc
once_parts false c e = (refl, e)

-- of outputs that name no partition twice, the first of a partition has all of its records
here_alone : (out : PartId × List Rec) (outs : List (PartId × List Rec)) → names_part out.0 outs ≡ false → recs_at out.0 (out ∷ outs) ≡ out.1
here_alone out outs none =
    ap (λ b. cond b (out.1 ++ recs_at out.0 outs) (recs_at out.0 outs)) (same_part-refl out.0)
    ∙ ap (λ l. out.1 ++ l) (not_named out.0 outs none) ∙ append-nil out.1

module _ (t : TaskId) (sent : List Sent) where
  sent_at : (outs : List (PartId × List Rec)) → are_outputs outs ≡ true → outputs_are_sent t sent outs ≡ true → (q : PartId) → names_part q outs ≡ true → recs_at q outs ≡ sent_in t q sent
  sent_at [] once all q named = absurd cc
  sent_at (out ∷ outs) once all q named =
      let single = once_parts (names_part out.0 outs) (not (is_empty out.1) && are_outputs outs) once in
      let more = and_parts (not (is_empty out.1)) (are_outputs outs) single.1 in
      let parts = both_parts (are_sent t out.0 out.1 sent) (outputs_are_sent t sent outs) all in
      by (same_part q out.0) refl named single.0 (are_all t out.0 out.1 sent parts.0) (sent_at outs more.1 parts.1 q)
    where
      by : (b : Bool) → same_part q out.0 ≡ b → cond b true (names_part q outs) ≡ true → names_part out.0 outs ≡ false → out.1 ≡ sent_in t out.0 sent → (names_part q outs ≡ true → recs_at q outs ≡ sent_in t q sent) →
          cond b (out.1 ++ recs_at q outs) (recs_at q outs) ≡ sent_in t q sent
      by true is h alone same f =
          let it : q ≡ out.0 = same_part-is q out.0 is in
          ap (λ k. out.1 ++ recs_at k outs) it ∙ ap (λ l. out.1 ++ l) (not_named out.0 outs alone) ∙ append-nil out.1 ∙ same ∙ ap (λ k. sent_in t k sent) (sym it)
      by false is h alone same f = f h

  at_sent : (outs : List (PartId × List Rec)) → are_outputs outs ≡ true → ((q : PartId) → names_part q outs ≡ true → recs_at q outs ≡ sent_in t q sent) → outputs_are_sent t sent outs ≡ true
  at_sent [] once each = refl
  at_sent (out ∷ outs) once each =
      let single = once_parts (names_part out.0 outs) (not (is_empty out.1) && are_outputs outs) once in
      let more = and_parts (not (is_empty out.1)) (are_outputs outs) single.1 in
      let mine : out.1 ≡ sent_in t out.0 sent = sym (here_alone out outs single.0) ∙ each out.0 (ap (λ b. cond b true (names_part out.0 outs)) (same_part-refl out.0)) in
      both_from (are_sent t out.0 out.1 sent) (outputs_are_sent t sent outs)
      (ap (λ l. are_sent t out.0 l sent) mine ∙ all_are t out.0 sent)
      (at_sent outs more.1 (λ q named. by q (same_part q out.0) refl named single.0))
    where
      by : (q : PartId) (b : Bool) → same_part q out.0 ≡ b → names_part q outs ≡ true → names_part out.0 outs ≡ false → recs_at q outs ≡ sent_in t q sent
      by q true is named alone = absurd (true≢false (sym named ∙ ap (λ k. names_part k outs) (same_part-is q out.0 is) ∙ alone))
      by q false is named alone =
          sym (ap (λ b. cond b (out.1 ++ recs_at q outs) (recs_at q outs)) is)
          ∙ each q (ap (λ b. cond b true (names_part q outs)) is ∙ named)

-- nothing was sent to a partition without an output
unsent : (t : TaskId) (outs : List (PartId × List Rec)) (xs : List Sent) → sent_are_outputs t outs xs ≡ true → (q : PartId) → names_part q outs ≡ false → sent_in t q xs ≡ []
unsent t outs [] all q none = refl
unsent t outs (x ∷ xs) all q none =
    let parts = both_parts (is_output t outs x) (sent_are_outputs t outs xs) all in
    by (same_task t x.task) (same_part q x.part) refl x.recs parts.0 (unsent t outs xs parts.1 q none)
  where
    by : (a b : Bool) → same_part q x.part ≡ b → (rs : List Rec) → cond (a && not (is_empty rs)) (names_part x.part outs) true ≡ true → sent_in t q xs ≡ [] → cond (a && b) (rs ++ sent_in t q xs) (sent_in t q xs) ≡ []
    by true true is [] h f = f
    by true true is (r ∷ rs) h f = absurd (true≢false (sym h ∙ ap (λ k. names_part k outs) (sym (same_part-is q x.part is)) ∙ none))
    by true false is rs h f = f
    by false b is rs h f = f

is_some_list : List Rec → Bool
is_some_list [] = false
is_some_list (r ∷ rs) = true

sent_output : (t : TaskId) (outs : List (PartId × List Rec)) (whole : List Sent) → ((q : PartId) → recs_at q outs ≡ sent_in t q whole) → (xs : List Sent) → ((q : PartId) → is_some_list (sent_in t q xs) ≡ true → is_some_list (sent_in t q whole) ≡ true) →
    sent_are_outputs t outs xs ≡ true
unfolding is_some_list
sent_output t outs whole each [] some = refl
sent_output t outs whole each (x ∷ xs) some =
    both_from (is_output t outs x) (sent_are_outputs t outs xs)
    (by (same_task t x.task) refl x.recs refl)
    (sent_output t outs whole each xs (λ q h. some q (kept q (same_task t x.task && same_part q x.part) x.recs h)))
  where
    kept : (q : PartId) (b : Bool) (rs : List Rec) → is_some_list (sent_in t q xs) ≡ true → is_some_list (cond b (rs ++ sent_in t q xs) (sent_in t q xs)) ≡ true
    kept q true [] h = h
    kept q true (r ∷ rs) h = refl
    kept q false rs h = h

    named : (b : Bool) → names_part x.part outs ≡ b → is_some_list (sent_in t x.part whole) ≡ true → b ≡ true
    named true is h = refl
    named false is h = absurd (true≢false (sym h ∙ ap is_some_list (sym (each x.part) ∙ not_named x.part outs is)))

    by : (a : Bool) → same_task t x.task ≡ a → (rs : List Rec) → x.recs ≡ rs → cond (a && not (is_empty rs)) (names_part x.part outs) true ≡ true
    by false h rs is = refl
    by true h [] is = refl
    by true h (r ∷ rs) is =
        named (names_part x.part outs) refl
        (some x.part (ap₂ (λ a b. is_some_list (cond (a && b) (x.recs ++ sent_in t x.part xs) (sent_in t x.part xs))) h (same_part-refl x.part)
        ∙ ap (λ l. is_some_list (l ++ sent_in t x.part xs)) is))

pub made_is : (t : TaskId) (outs : List (PartId × List Rec)) (sent : List Sent) → are_outputs outs ≡ true → are_made t outs sent ≡ true → (q : PartId) → recs_at q outs ≡ sent_in t q sent
made_is t outs sent once made q = by (names_part q outs) refl
  where
    by : (b : Bool) → names_part q outs ≡ b → recs_at q outs ≡ sent_in t q sent
    by true named = sent_at t sent outs once (both_parts (outputs_are_sent t sent outs) (sent_are_outputs t outs sent) made).0 q named
    by false none = not_named q outs none ∙ sym (unsent t outs sent (both_parts (outputs_are_sent t sent outs) (sent_are_outputs t outs sent) made).1 q none)

pub is_made : (t : TaskId) (outs : List (PartId × List Rec)) (sent : List Sent) → are_outputs outs ≡ true → ((q : PartId) → recs_at q outs ≡ sent_in t q sent) → are_made t outs sent ≡ true
is_made t outs sent once each =
    both_from (outputs_are_sent t sent outs) (sent_are_outputs t outs sent)
    (at_sent t sent outs once (λ q named. each q)) (sent_output t outs sent each sent (λ q h. h))
