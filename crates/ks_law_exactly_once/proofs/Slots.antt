-- What is decided of a partition, and what more slots and more decisions change.
use Rattle.std.proofs.Common.{◌≡◌, ℕ, suc, ◌+◌, ◌≤◌, ◌<◌, Bool, true, false, cond, ◌&&◌, List, [], ◌∷◌, ◌++◌, length, Option, Some, None, refl, sym, ap, ap₂, subst, ◌∙◌, arith, ⊎_elim, nat_lt, nat_le}
use Rattle.std.specs.Prelude.{◌==◌}
use Rattle.std.proofs.lemmas.Bool.{and_parts, eqb-true, cases_lt, lt-ltb, le-ltb, le-leb, lt-leb, true≢false}
use Rattle.ks_record.specs.Records.{Record as Rec}
use Rattle.ks_record.specs.declared.record.TaskId.{TaskId}
use Rattle.ks_record.specs.Parts.{same_task}
use Rattle.ks_history.specs.declared.partition.Slot.{Slot}
use Rattle.ks_history.specs.declared.partition.Slot.TheVariants.{Plain, Sent, Mark}
use Rattle.ks_def_runs.specs.Run.{same_sender}
use Rattle.ks_history.specs.Partition.{Logged, next_mark, by_mark, stable, is_commit, is_none, decision, decided_from, readable_from, is_open, open_from, none_decided, is_behind, recs, by_sender, past_from, below, sent_slots}
use Rattle.ks_law_exactly_once.proofs.Sound.{Open}

abbrev pub Waiting : Type 0
Waiting = ℕ → ℕ → Option Bool

pub keep_append : {A : Type 0} (b : Bool) (x : A) (new old more : List A) → new ≡ old ++ more → cond b (x ∷ new) new ≡ cond b (x ∷ old) old ++ more
keep_append true x new old more e = ap (λ l. x ∷ l) e
keep_append false x new old more e = e

pub keep_same : {A : Type 0} (b : Bool) (x : A) (new old : List A) → new ≡ old → cond b (x ∷ new) new ≡ cond b (x ∷ old) old
keep_same b x new old e = ap (λ l. cond b (x ∷ l) l) e

pub decision_assoc : (a b c : Option Bool) → decision (decision a b) c ≡ decision a (decision b c)
decision_assoc None b c = refl
decision_assoc (Some commit) b c = refl

pub decision_none : (a : Option Bool) → decision a None ≡ a
decision_none None = refl
decision_none (Some commit) = refl

mark_first : (b : Bool) (commit : Bool) (x y : Option Bool) → cond b (Some commit) (decision x y) ≡ decision (cond b (Some commit) x) y
mark_first true commit x y = refl
mark_first false commit x y = refl

pub next_mark-append : (w e : ℕ) (slots more : List Slot) → next_mark w e (slots ++ more) ≡ decision (next_mark w e slots) (next_mark w e more)
next_mark-append w e [] more = refl
next_mark-append w e (Plain rec ∷ slots) more = next_mark-append w e slots more
next_mark-append w e (Sent v d number task rec ∷ slots) more = next_mark-append w e slots more
next_mark-append w e (Mark v d commit ∷ slots) more =
    ap (λ o. cond ((w == v) && (e == d)) (Some commit) o) (next_mark-append w e slots more) ∙ mark_first ((w == v) && (e == d)) commit _ _

pub next_mark-sent : (v d w e number : ℕ) (t : TaskId) (more : List Rec) → next_mark v d (sent_slots w e number t more) ≡ None
next_mark-sent v d w e number t [] = refl
next_mark-sent v d w e number t (r ∷ rs) = next_mark-sent v d w e (number + 1) t rs

-- the markers behind count as waiting ones
abbrev pub marks_then : List Slot → Waiting → Waiting
marks_then more waiting w e = decision (next_mark w e more) (waiting w e)

pub decided-append : (waiting : Waiting) (at n : ℕ) (slots more : List Slot) → at + length slots ≡ n →
    decided_from waiting at (slots ++ more) ≡ decided_from (marks_then more waiting) at slots ++ decided_from waiting n more
decided-append waiting at n [] more is = ap (λ k. decided_from waiting k more) (omega (arith, is))
decided-append waiting at n (Plain rec ∷ slots) more is = ap (λ l. record { offset = at; sender = None; rec = rec } ∷ l) (decided-append waiting (at + 1) n slots more (omega (arith, is)))
decided-append waiting at n (Sent w e number task rec ∷ slots) more is =
    let new : List Logged = decided_from waiting (at + 1) (slots ++ more) in
    let x : Logged = record { offset = at; sender = Some task; rec = rec } in
    let same : decision (next_mark w e (slots ++ more)) (waiting w e) ≡ decision (next_mark w e slots) (decision (next_mark w e more) (waiting w e)) =
    ap (λ d. decision d (waiting w e)) (next_mark-append w e slots more) ∙ decision_assoc (next_mark w e slots) _ _ in
    ap (λ d. cond (is_commit d) (x ∷ new) new) same
    ∙ keep_append (is_commit (decision (next_mark w e slots) (decision (next_mark w e more) (waiting w e)))) x new _ _ (decided-append waiting (at + 1) n slots more (omega (arith, is)))
decided-append waiting at n (Mark w e commit ∷ slots) more is = decided-append waiting (at + 1) n slots more (omega (arith, is))

-- only commits count
pub decided-same : (one other : Waiting) → ((w e : ℕ) → is_commit (one w e) ≡ is_commit (other w e)) → (at : ℕ) (slots : List Slot) → decided_from one at slots ≡ decided_from other at slots
decided-same one other same at [] = refl
decided-same one other same at (Plain rec ∷ slots) = ap (λ l. record { offset = at; sender = None; rec = rec } ∷ l) (decided-same one other same (at + 1) slots)
decided-same one other same at (Sent w e number task rec ∷ slots) =
    let x : Logged = record { offset = at; sender = Some task; rec = rec } in
    ap (λ b. cond b (x ∷ decided_from one (at + 1) slots) (decided_from one (at + 1) slots)) (by_decision (next_mark w e slots))
    ∙ keep_same (is_commit (decision (next_mark w e slots) (other w e))) x _ _ (decided-same one other same (at + 1) slots)
  where
    by_decision : (d : Option Bool) → is_commit (decision d (one w e)) ≡ is_commit (decision d (other w e))
    by_decision None = same w e
    by_decision (Some commit) = refl
decided-same one other same at (Mark w e commit ∷ slots) = decided-same one other same (at + 1) slots

-- records of a producer that doesn't commit add nothing
pub decided-sent : (waiting : Waiting) (w e : ℕ) → is_commit (waiting w e) ≡ false → (at number : ℕ) (t : TaskId) (more : List Rec) → decided_from waiting at (sent_slots w e number t more) ≡ []
decided-sent waiting w e lost at number t [] = refl
decided-sent waiting w e lost at number t (r ∷ rs) =
    let x : Logged = record { offset = at; sender = Some t; rec = r } in
    let new : List Logged = decided_from waiting (at + 1) (sent_slots w e (number + 1) t rs) in
    ap (λ d. cond (is_commit (decision d (waiting w e))) (x ∷ new) new) (next_mark-sent w e w e (number + 1) t rs)
    ∙ ap (λ b. cond b (x ∷ new) new) lost
    ∙ decided-sent waiting w e lost (at + 1) (number + 1) t rs

-- ---- lists of records by sender
pub sender_keep : (r : Option TaskId) (c u : Bool) (x : Logged) (xs : List Logged) → same_sender same_task r x.sender ≡ u →
    by_sender r (cond c (x ∷ xs) xs) ≡ cond (u && c) (x ∷ by_sender r xs) (by_sender r xs)
sender_keep r true true x xs is = ap (λ b. cond b (x ∷ by_sender r xs) (by_sender r xs)) is
sender_keep r true false x xs is = ap (λ b. cond b (x ∷ by_sender r xs) (by_sender r xs)) is
sender_keep r false true x xs is = refl
sender_keep r false false x xs is = refl

pub by_sender-append : (r : Option TaskId) (xs ys : List Logged) → by_sender r (xs ++ ys) ≡ by_sender r xs ++ by_sender r ys
by_sender-append r [] ys = refl
by_sender-append r (x ∷ xs) ys = keep_append (same_sender same_task r x.sender) x _ _ _ (by_sender-append r xs ys)

pub recs-append : (xs ys : List Logged) → recs (xs ++ ys) ≡ recs xs ++ recs ys
recs-append [] ys = refl
recs-append (x ∷ xs) ys = ap (λ l. x.rec ∷ l) (recs-append xs ys)

pub past_from-append : (low : ℕ) (xs ys : List Logged) → past_from low (xs ++ ys) ≡ past_from low xs ++ past_from low ys
past_from-append low [] ys = refl
past_from-append low (x ∷ xs) ys = keep_append (nat_le low x.offset) x _ _ _ (past_from-append low xs ys)

past_keep : (low : ℕ) (c : Bool) (x : Logged) (xs : List Logged) → past_from low (cond c (x ∷ xs) xs) ≡ cond c (cond (nat_le low x.offset) (x ∷ past_from low xs) (past_from low xs)) (past_from low xs)
past_keep low true x xs = refl
past_keep low false x xs = refl

sender_cond : (r : Option TaskId) (c : Bool) (x : Logged) (xs : List Logged) → by_sender r (cond c (x ∷ xs) xs) ≡ cond c (cond (same_sender same_task r x.sender) (x ∷ by_sender r xs) (by_sender r xs)) (by_sender r xs)
sender_cond r true x xs = refl
sender_cond r false x xs = refl

both_conds : {A : Type 0} (a b : Bool) (x y : A) → cond a (cond b x y) y ≡ cond b (cond a x y) y
both_conds true true x y = refl
both_conds true false x y = refl
both_conds false true x y = refl
both_conds false false x y = refl

pub by_sender-past_from : (r : Option TaskId) (low : ℕ) (xs : List Logged) → by_sender r (past_from low xs) ≡ past_from low (by_sender r xs)
by_sender-past_from r low [] = refl
by_sender-past_from r low (x ∷ xs) =
    sender_cond r (nat_le low x.offset) x (past_from low xs)
    ∙ both_conds (nat_le low x.offset) (same_sender same_task r x.sender) (x ∷ by_sender r (past_from low xs)) (by_sender r (past_from low xs))
    ∙ ap (λ l. cond (same_sender same_task r x.sender) (cond (nat_le low x.offset) (x ∷ l) l) l) (by_sender-past_from r low xs)
    ∙ sym (past_keep low (same_sender same_task r x.sender) x (by_sender r xs))

-- ---- the commit of one producer's records
kept_out : (c rest : Bool) → cond c false rest ≡ true → (c ≡ false) × (rest ≡ true)
kept_out true rest h = absurd (true≢false (sym h))
kept_out false rest h = (refl, h)

not_kept : {A : Type 0} (c : Bool) (x : A) (xs ys : List A) → c ≡ false → xs ≡ ys → cond c (x ∷ xs) xs ≡ ys
not_kept c x xs ys is e = ap (λ b. cond b (x ∷ xs) xs) is ∙ e

none_step : (u c rest : Bool) (x : Logged) (old : List Logged) → cond (u && c) false rest ≡ true → (rest ≡ true → old ≡ []) → cond (u && c) (x ∷ old) old ≡ []
none_step u c rest x old h f = not_kept (u && c) x old [] (kept_out (u && c) rest h).0 (f (kept_out (u && c) rest h).1)

all_step : (b u : Bool) (d wv : Option Bool) (x : Logged) (new open_ones : List Logged) (rest : Bool) → (b ≡ true → wv ≡ None) →
    cond (u && is_commit (decision d wv)) false rest ≡ true → (rest ≡ true → new ≡ open_ones) →
    cond (u && is_commit (decision d (cond b (Some true) wv))) (x ∷ new) new ≡ cond ((b && u) && is_none d) (x ∷ open_ones) open_ones
all_step true true None wv x new open_ones rest und h f = ap (λ l. x ∷ l) (f (kept_out (is_commit wv) rest h).1)
all_step true true (Some c) wv x new open_ones rest und h f = not_kept c x new open_ones (kept_out c rest h).0 (f (kept_out c rest h).1)
all_step true false d wv x new open_ones rest und h f = f h
all_step false true d wv x new open_ones rest und h f = not_kept (is_commit (decision d wv)) x new open_ones (kept_out (is_commit (decision d wv)) rest h).0 (f (kept_out (is_commit (decision d wv)) rest h).1)
all_step false false d wv x new open_ones rest und h f = f h

commit_step : (b u : Bool) (d wv : Option Bool) (x : Logged) (new old open_ones : List Logged) (rest behind : Bool) → (b ≡ true → wv ≡ None) →
    cond ((b && u) && is_none d) rest behind ≡ true → (rest ≡ true → old ≡ []) → (rest ≡ true → new ≡ open_ones) → (behind ≡ true → new ≡ old ++ open_ones) →
    cond (u && is_commit (decision d (cond b (Some true) wv))) (x ∷ new) new
    ≡ cond (u && is_commit (decision d wv)) (x ∷ old) old ++ cond ((b && u) && is_none d) (x ∷ open_ones) open_ones
commit_step true true None wv x new old open_ones rest behind und h none all more =
    ap (λ l. x ∷ l) (all h) ∙ sym (ap (λ l. l ++ x ∷ open_ones) (none h)) ∙ sym (ap (λ o. cond (is_commit o) (x ∷ old) old ++ x ∷ open_ones) (und refl))
commit_step true true (Some c) wv x new old open_ones rest behind und h none all more = keep_append c x new old open_ones (more h)
commit_step true false d wv x new old open_ones rest behind und h none all more = more h
commit_step false true d wv x new old open_ones rest behind und h none all more = keep_append (is_commit (decision d wv)) x new old open_ones (more h)
commit_step false false d wv x new old open_ones rest behind und h none all more = more h

module _ (w e : ℕ) (before after : Waiting) (hit : (v d : ℕ) → after v d ≡ cond ((w == v) && (e == d)) (Some true) (before v d)) (undecided : (v d : ℕ) → ((w == v) && (e == d)) ≡ true → before v d ≡ None) where
  none_before : (t : TaskId) (at : ℕ) (slots : List Slot) → none_decided before t slots ≡ true → by_sender (Some t) (decided_from before at slots) ≡ []
  none_before t at [] h = refl
  none_before t at (Plain rec ∷ slots) h = none_before t (at + 1) slots h
  none_before t at (Sent v d number task rec ∷ slots) h =
      let c : Bool = is_commit (decision (next_mark v d slots) (before v d)) in
      let x : Logged = record { offset = at; sender = Some task; rec = rec } in
      sender_keep (Some t) c (same_task t task) x (decided_from before (at + 1) slots) refl
      ∙ none_step (same_task t task) c (none_decided before t slots) x _ h (none_before t (at + 1) slots)
  none_before t at (Mark v d commit ∷ slots) h = none_before t (at + 1) slots h

  after_is : (v d : ℕ) (mark : Option Bool) (x : Logged) (new : List Logged) (u : Bool) →
      cond (u && is_commit (decision mark (after v d))) (x ∷ new) new ≡ cond (u && is_commit (decision mark (cond ((w == v) && (e == d)) (Some true) (before v d)))) (x ∷ new) new
  after_is v d mark x new u = ap (λ o. cond (u && is_commit (decision mark o)) (x ∷ new) new) (hit v d)

  all_after : (t : TaskId) (at : ℕ) (slots : List Slot) → none_decided before t slots ≡ true → by_sender (Some t) (decided_from after at slots) ≡ open_from w e t at slots
  all_after t at [] h = refl
  all_after t at (Plain rec ∷ slots) h = all_after t (at + 1) slots h
  all_after t at (Sent v d number task rec ∷ slots) h =
      let x : Logged = record { offset = at; sender = Some task; rec = rec } in
      sender_keep (Some t) (is_commit (decision (next_mark v d slots) (after v d))) (same_task t task) x (decided_from after (at + 1) slots) refl
      ∙ after_is v d (next_mark v d slots) x _ (same_task t task)
      ∙ all_step ((w == v) && (e == d)) (same_task t task) (next_mark v d slots) (before v d) x _ (open_from w e t (at + 1) slots) (none_decided before t slots) (undecided v d) h (all_after t (at + 1) slots)
  all_after t at (Mark v d commit ∷ slots) h = all_after t (at + 1) slots h

  -- the decided records of each task grow at their end, by those that were its own
  pub task_grows : (t : TaskId) (at : ℕ) (slots : List Slot) → is_behind before w e t slots ≡ true →
      by_sender (Some t) (decided_from after at slots) ≡ by_sender (Some t) (decided_from before at slots) ++ open_from w e t at slots
  task_grows t at [] h = refl
  task_grows t at (Plain rec ∷ slots) h = task_grows t (at + 1) slots h
  task_grows t at (Sent v d number task rec ∷ slots) h =
      let x : Logged = record { offset = at; sender = Some task; rec = rec } in
      sender_keep (Some t) (is_commit (decision (next_mark v d slots) (after v d))) (same_task t task) x (decided_from after (at + 1) slots) refl
      ∙ after_is v d (next_mark v d slots) x _ (same_task t task)
      ∙ commit_step ((w == v) && (e == d)) (same_task t task) (next_mark v d slots) (before v d) x _ (by_sender (Some t) (decided_from before (at + 1) slots)) (open_from w e t (at + 1) slots)
      (none_decided before t slots) (is_behind before w e t slots) (undecided v d) h (none_before t (at + 1) slots) (all_after t (at + 1) slots) (task_grows t (at + 1) slots)
      ∙ ap (λ l. l ++ open_from w e t at (Sent v d number task rec ∷ slots)) (sym (sender_keep (Some t) (is_commit (decision (next_mark v d slots) (before v d))) (same_task t task) x (decided_from before (at + 1) slots) refl))
  task_grows t at (Mark v d commit ∷ slots) h = task_grows t (at + 1) slots h

-- plain records are decided at once
pub plain_same : (one other : Waiting) (at : ℕ) (slots : List Slot) → by_sender None (decided_from one at slots) ≡ by_sender None (decided_from other at slots)
plain_same one other at [] = refl
plain_same one other at (Plain rec ∷ slots) = ap (λ l. record { offset = at; sender = None; rec = rec } ∷ l) (plain_same one other (at + 1) slots)
plain_same one other at (Sent v d number task rec ∷ slots) =
    let x : Logged = record { offset = at; sender = Some task; rec = rec } in
    sender_keep None (is_commit (decision (next_mark v d slots) (one v d))) false x (decided_from one (at + 1) slots) refl
    ∙ plain_same one other (at + 1) slots
    ∙ sym (sender_keep None (is_commit (decision (next_mark v d slots) (other v d))) false x (decided_from other (at + 1) slots) refl)
plain_same one other at (Mark v d commit ∷ slots) = plain_same one other (at + 1) slots

-- ---- offsets
pub stable-append : (slots more : List Slot) → stable slots ≤ stable (slots ++ more)
stable-append [] more = omega arith
stable-append (Plain rec ∷ slots) more = omega (arith, stable-append slots more)
stable-append (Sent w e number task rec ∷ slots) more =
    subst (λ o. by_mark (next_mark w e slots) 0 (suc (stable slots)) (suc (stable slots)) ≤ by_mark o 0 (suc (stable (slots ++ more))) (suc (stable (slots ++ more))))
    (sym (next_mark-append w e slots more)) (by (next_mark w e slots) (next_mark w e more) (stable slots) (stable (slots ++ more)) (stable-append slots more))
  where
    by : (a b : Option Bool) (m n : ℕ) → m ≤ n → by_mark a 0 (suc m) (suc m) ≤ by_mark (decision a b) 0 (suc n) (suc n)
    by None b m n h = omega arith
    by (Some true) b m n h = omega arith
    by (Some false) b m n h = omega arith
stable-append (Mark w e commit ∷ slots) more = omega (arith, stable-append slots more)

below_out : (high : ℕ) (x : Logged) (xs : List Logged) → high ≤ x.offset → below high (x ∷ xs) ≡ below high xs
below_out high x xs h = ap (λ b. cond b (x ∷ below high xs) (below high xs)) (le-ltb x.offset high h)

below_in : (high : ℕ) (x : Logged) (xs : List Logged) → x.offset < high → below high (x ∷ xs) ≡ x ∷ below high xs
below_in high x xs h = ap (λ b. cond b (x ∷ below high xs) (below high xs)) (lt-ltb x.offset high h)

past_in : (low : ℕ) (x : Logged) (xs : List Logged) → low ≤ x.offset → past_from low (x ∷ xs) ≡ x ∷ past_from low xs
past_in low x xs h = ap (λ b. cond b (x ∷ past_from low xs) (past_from low xs)) (le-leb low x.offset h)

past_out : (low : ℕ) (x : Logged) (xs : List Logged) → x.offset < low → past_from low (x ∷ xs) ≡ past_from low xs
past_out low x xs h = ap (λ b. cond b (x ∷ past_from low xs) (past_from low xs)) (lt-leb low x.offset h)

-- offsets that rise
abbrev pub Rising : ℕ → List Logged → Type 0
Rising at [] = Unit {0}
Rising at (x ∷ xs) = (at ≤ x.offset) × Rising (x.offset + 1) xs

rising_less : (at from : ℕ) (xs : List Logged) → at ≤ from → Rising from xs → Rising at xs
rising_less at from [] h r = tt
rising_less at from (x ∷ xs) h r = (omega (arith, h, r.0), r.1)

rising_kept : (c : Bool) (at : ℕ) (x : Logged) (xs : List Logged) → x.offset ≡ at → Rising (at + 1) xs → Rising at (cond c (x ∷ xs) xs)
rising_kept true at x xs is r = (omega (arith, is), subst (λ n. Rising (n + 1) xs) (sym is) r)
rising_kept false at x xs is r = rising_less at (at + 1) xs (omega arith) r

pub decided_rises : (waiting : Waiting) (at : ℕ) (slots : List Slot) → Rising at (decided_from waiting at slots)
decided_rises waiting at [] = tt
decided_rises waiting at (Plain rec ∷ slots) = (omega arith, decided_rises waiting (at + 1) slots)
decided_rises waiting at (Sent w e number task rec ∷ slots) = rising_kept _ at _ _ refl (decided_rises waiting (at + 1) slots)
decided_rises waiting at (Mark w e commit ∷ slots) = rising_less at (at + 1) _ (omega arith) (decided_rises waiting (at + 1) slots)

pub open_rises : (w e : ℕ) (t : TaskId) (at : ℕ) (slots : List Slot) → Rising at (open_from w e t at slots)
open_rises w e t at [] = tt
open_rises w e t at (Plain rec ∷ slots) = rising_less at (at + 1) _ (omega arith) (open_rises w e t (at + 1) slots)
open_rises w e t at (Sent v d number task rec ∷ slots) = rising_kept _ at _ _ refl (open_rises w e t (at + 1) slots)
open_rises w e t at (Mark v d commit ∷ slots) = rising_less at (at + 1) _ (omega arith) (open_rises w e t (at + 1) slots)

pub past_all : (low at : ℕ) (xs : List Logged) → low ≤ at → Rising at xs → past_from low xs ≡ xs
past_all low at [] h r = refl
past_all low at (x ∷ xs) h r = past_in low x xs (omega (arith, h, r.0)) ∙ ap (λ l. x ∷ l) (past_all low (x.offset + 1) xs (omega (arith, h, r.0)) r.1)

pub below_none : (high at : ℕ) (xs : List Logged) → high ≤ at → Rising at xs → below high xs ≡ []
below_none high at [] h r = refl
below_none high at (x ∷ xs) h r = below_out high x xs (omega (arith, h, r.0)) ∙ below_none high (x.offset + 1) xs (omega (arith, h, r.0)) r.1

-- what stands past one offset is what stands up to another, then what stands past that
pub past_split : (low high at : ℕ) (xs : List Logged) → low ≤ high → Rising at xs → past_from low xs ≡ past_from low (below high xs) ++ past_from high xs
past_split low high at [] h r = refl
past_split low high at (x ∷ xs) h r = ⊎_elim
    (λ (less : x.offset < high).
    keep_append (nat_le low x.offset) x _ _ _ (past_split low high (x.offset + 1) xs h r.1)
    ∙ ap₂ (λ a b. past_from low a ++ b) (sym (below_in high x xs less)) (sym (past_out high x xs less)))
    (λ (more : high ≤ x.offset).
    past_all low x.offset (x ∷ xs) (omega (arith, h, more)) (omega arith, r.1)
    ∙ sym (past_all high x.offset (x ∷ xs) more (omega arith, r.1))
    ∙ ap (λ l. past_from low l ++ past_from high (x ∷ xs)) (sym (below_none high x.offset (x ∷ xs) more (omega arith, r.1))))
    (cases_lt x.offset high)

-- below the stable offset what is readable is what is decided
pub readable_decided : (waiting : Waiting) (high at : ℕ) (slots : List Slot) → high ≤ at + stable slots → below high (readable_from at slots) ≡ below high (decided_from waiting at slots)
readable_decided waiting high at [] h = refl
readable_decided waiting high at (Plain rec ∷ slots) h = keep_same (nat_lt at high) _ _ _ (readable_decided waiting high (at + 1) slots (omega (arith, h)))
readable_decided waiting high at (Sent w e number task rec ∷ slots) h =
    by (next_mark w e slots) h (λ g. readable_decided waiting high (at + 1) slots g) (λ g. below_none high at _ g (rising_kept (is_commit (waiting w e)) at (record { offset = at; sender = Some task; rec = rec }) _ refl (decided_rises waiting (at + 1) slots)))
  where
    by : (d : Option Bool) → high ≤ at + by_mark d 0 (suc (stable slots)) (suc (stable slots))
        → (high ≤ (at + 1) + stable slots → below high (readable_from (at + 1) slots) ≡ below high (decided_from waiting (at + 1) slots))
        → (high ≤ at → below high (cond (is_commit (waiting w e)) (record { offset = at; sender = Some task; rec = rec } ∷ decided_from waiting (at + 1) slots) (decided_from waiting (at + 1) slots)) ≡ [])
        → below high (by_mark d [] (record { offset = at; sender = Some task; rec = rec } ∷ readable_from (at + 1) slots) (readable_from (at + 1) slots))
        ≡ below high (cond (is_commit (decision d (waiting w e))) (record { offset = at; sender = Some task; rec = rec } ∷ decided_from waiting (at + 1) slots) (decided_from waiting (at + 1) slots))
    by None h same none = sym (none (omega (arith, h)))
    by (Some true) h same none = ap (λ l. cond (nat_lt at high) (record { offset = at; sender = Some task; rec = rec } ∷ l) l) (same (omega (arith, h)))
    by (Some false) h same none = same (omega (arith, h))
readable_decided waiting high at (Mark w e commit ∷ slots) h = readable_decided waiting high (at + 1) slots (omega (arith, h))

-- what isn't decided stands at or past the stable offset
pub open_past : (w e : ℕ) (t : TaskId) (low at : ℕ) (slots : List Slot) → low ≤ at + stable slots → past_from low (open_from w e t at slots) ≡ open_from w e t at slots
open_past w e t low at [] h = refl
open_past w e t low at (Plain rec ∷ slots) h = open_past w e t low (at + 1) slots (omega (arith, h))
open_past w e t low at (Sent v d number task rec ∷ slots) h =
    by (((w == v) && (e == d)) && same_task t task) (next_mark v d slots) h (λ g. open_past w e t low (at + 1) slots g)
    (λ c g. past_all low at _ g (rising_kept c at (record { offset = at; sender = Some task; rec = rec }) _ refl (open_rises w e t (at + 1) slots)))
  where
    by : (b : Bool) (mark : Option Bool) → low ≤ at + by_mark mark 0 (suc (stable slots)) (suc (stable slots))
        → (low ≤ (at + 1) + stable slots → past_from low (open_from w e t (at + 1) slots) ≡ open_from w e t (at + 1) slots)
        → ((c : Bool) → low ≤ at → past_from low (cond c (record { offset = at; sender = Some task; rec = rec } ∷ open_from w e t (at + 1) slots) (open_from w e t (at + 1) slots)) ≡ cond c (record { offset = at; sender = Some task; rec = rec } ∷ open_from w e t (at + 1) slots) (open_from w e t (at + 1) slots))
        → past_from low (cond (b && is_none mark) (record { offset = at; sender = Some task; rec = rec } ∷ open_from w e t (at + 1) slots) (open_from w e t (at + 1) slots))
        ≡ cond (b && is_none mark) (record { offset = at; sender = Some task; rec = rec } ∷ open_from w e t (at + 1) slots) (open_from w e t (at + 1) slots)
    by b None h same all = all (b && true) (omega (arith, h))
    by true (Some true) h same all = same (omega (arith, h))
    by true (Some false) h same all = same (omega (arith, h))
    by false (Some true) h same all = same (omega (arith, h))
    by false (Some false) h same all = same (omega (arith, h))
open_past w e t low at (Mark v d commit ∷ slots) h = open_past w e t low (at + 1) slots (omega (arith, h))

-- ---- records that no marker completes
none_is : {A : Type 0} (o : Option A) → is_none o ≡ true → o ≡ None
none_is None e = refl
none_is (Some x) e = absurd (true≢false (sym e))

pub Open-map : (P Q : ℕ → ℕ → TaskId → Type 0) (slots : List Slot) → ((w e : ℕ) (t : TaskId) → P w e t → Q w e t) → Open P slots → Open Q slots
Open-map P Q [] f h = tt
Open-map P Q (Plain rec ∷ slots) f h = Open-map P Q slots f h
Open-map P Q (Sent w e number task rec ∷ slots) f h = (λ none. f w e task (h.0 none), Open-map P Q slots f h.1)
Open-map P Q (Mark w e commit ∷ slots) f h = Open-map P Q slots f h

pub Open-append : (P : ℕ → ℕ → TaskId → Type 0) (slots more : List Slot) → Open (λ w e t. next_mark w e more ≡ None → P w e t) slots → Open P more → Open P (slots ++ more)
Open-append P [] more h g = g
Open-append P (Plain rec ∷ slots) more h g = Open-append P slots more h g
Open-append P (Sent w e number task rec ∷ slots) more h g =
    (λ none. by (next_mark w e slots) (next_mark w e more) h.0 (sym (next_mark-append w e slots more) ∙ none), Open-append P slots more h.1 g)
  where
    by : (a b : Option Bool) → (a ≡ None → b ≡ None → P w e task) → decision a b ≡ None → P w e task
    by None b f is = f refl is
    by (Some commit) b f is = absurd cc
Open-append P (Mark w e commit ∷ slots) more h g = Open-append P slots more h g

pub Open-sent : (P : ℕ → ℕ → TaskId → Type 0) (w e number : ℕ) (t : TaskId) (more : List Rec) → P w e t → Open P (sent_slots w e number t more)
Open-sent P w e number t [] h = tt
Open-sent P w e number t (r ∷ rs) h = (λ none. h, Open-sent P w e (number + 1) t rs h)

-- where no such record can be, none is open
pub not_mine : (P : ℕ → ℕ → TaskId → Type 0) (w e : ℕ) (t : TaskId) (v d : ℕ) (task : TaskId) (mark : Option Bool) → (same_task t task ≡ true → t ≡ task) → (mark ≡ None → P v d task) → (P w e t → ⊥) → is_open w e t v d task mark ≡ false
not_mine P w e t v d task mark same h no_one = elim (is_open w e t v d task mark) as (λ b. is_open w e t v d task mark ≡ b → b ≡ false) [
  | true ↦ λ is.
      let a = and_parts _ _ is in
      let b = and_parts _ _ a.0 in
      let c = and_parts _ _ b.0 in
      absurd (no_one (subst (λ k. P k e t) (sym (eqb-true w v c.0)) (subst (λ k. P v k t) (sym (eqb-true e d c.1)) (subst (λ k. P v d k) (sym (same b.1)) (h (none_is mark a.1))))))
  | false ↦ λ is. refl
] refl

pub open_none : (P : ℕ → ℕ → TaskId → Type 0) (w e : ℕ) (t : TaskId) → ((task : TaskId) → same_task t task ≡ true → t ≡ task) → (P w e t → ⊥) → (at : ℕ) (slots : List Slot) → Open P slots → open_from w e t at slots ≡ []
open_none P w e t same no_one at [] h = refl
open_none P w e t same no_one at (Plain rec ∷ slots) h = open_none P w e t same no_one (at + 1) slots h
open_none P w e t same no_one at (Sent v d number task rec ∷ slots) h =
    not_kept _ _ _ [] (not_mine P w e t v d task (next_mark v d slots) (same task) h.0 no_one) (open_none P w e t same no_one (at + 1) slots h.1)
open_none P w e t same no_one at (Mark v d commit ∷ slots) h = open_none P w e t same no_one (at + 1) slots h

pub behind_none : (P : ℕ → ℕ → TaskId → Type 0) (w e : ℕ) (t : TaskId) → ((task : TaskId) → same_task t task ≡ true → t ≡ task) → (P w e t → ⊥) → (waiting : Waiting) (slots : List Slot) → Open P slots → is_behind waiting w e t slots ≡ true
behind_none P w e t same no_one waiting [] h = refl
behind_none P w e t same no_one waiting (Plain rec ∷ slots) h = behind_none P w e t same no_one waiting slots h
behind_none P w e t same no_one waiting (Sent v d number task rec ∷ slots) h =
    ap (λ b. cond b (none_decided waiting t slots) (is_behind waiting w e t slots)) (not_mine P w e t v d task (next_mark v d slots) (same task) h.0 no_one)
    ∙ behind_none P w e t same no_one waiting slots h.1
behind_none P w e t same no_one waiting (Mark v d commit ∷ slots) h = behind_none P w e t same no_one waiting slots h

past_below : (low : ℕ) (xs : List Logged) → past_from low (below low xs) ≡ []
past_below low [] = refl
past_below low (x ∷ xs) = ⊎_elim
    (λ (less : x.offset < low). ap (past_from low) (below_in low x xs less) ∙ past_out low x (below low xs) less ∙ past_below low xs)
    (λ (more : low ≤ x.offset). ap (past_from low) (below_out low x xs more) ∙ past_below low xs)
    (cases_lt x.offset low)

pub nothing_between : (low high : ℕ) (xs : List Logged) → high ≡ low → past_from low (below high xs) ≡ []
nothing_between low high xs e = ap (λ k. past_from low (below k xs)) e ∙ past_below low xs

-- nothing stands at or past the end
pub decided_below : (waiting : Waiting) (low at : ℕ) (slots : List Slot) → at + length slots ≤ low → past_from low (decided_from waiting at slots) ≡ []
decided_below waiting low at [] h = refl
decided_below waiting low at (Plain rec ∷ slots) h = past_out low _ _ (omega (arith, h)) ∙ decided_below waiting low (at + 1) slots (omega (arith, h))
decided_below waiting low at (Sent w e number task rec ∷ slots) h = by (is_commit (decision (next_mark w e slots) (waiting w e))) (decided_below waiting low (at + 1) slots (omega (arith, h)))
  where
    by : (b : Bool) → past_from low (decided_from waiting (at + 1) slots) ≡ [] → past_from low (cond b (record { offset = at; sender = Some task; rec = rec } ∷ decided_from waiting (at + 1) slots) (decided_from waiting (at + 1) slots)) ≡ []
    by true e = past_out low _ _ (omega (arith, h)) ∙ e
    by false e = e
decided_below waiting low at (Mark w e commit ∷ slots) h = decided_below waiting low (at + 1) slots (omega (arith, h))

-- what is readable stands below the stable offset
readable_below : (high at : ℕ) (slots : List Slot) → at + stable slots ≡ high → below high (readable_from at slots) ≡ readable_from at slots
readable_below high at [] h = refl
readable_below high at (Plain rec ∷ slots) h = below_in high _ _ (omega (arith, h)) ∙ ap (λ l. record { offset = at; sender = None; rec = rec } ∷ l) (readable_below high (at + 1) slots (omega (arith, h)))
readable_below high at (Sent w e number task rec ∷ slots) h = by (next_mark w e slots) h (λ g. readable_below high (at + 1) slots g)
  where
    by : (d : Option Bool) → at + by_mark d 0 (suc (stable slots)) (suc (stable slots)) ≡ high
        → ((at + 1) + stable slots ≡ high → below high (readable_from (at + 1) slots) ≡ readable_from (at + 1) slots)
        → below high (by_mark d [] (record { offset = at; sender = Some task; rec = rec } ∷ readable_from (at + 1) slots) (readable_from (at + 1) slots))
        ≡ by_mark d [] (record { offset = at; sender = Some task; rec = rec } ∷ readable_from (at + 1) slots) (readable_from (at + 1) slots)
    by None h f = refl
    by (Some true) h f = below_in high _ _ (omega (arith, h)) ∙ ap (λ l. record { offset = at; sender = Some task; rec = rec } ∷ l) (f (omega (arith, h)))
    by (Some false) h f = f (omega (arith, h))
readable_below high at (Mark w e commit ∷ slots) h = readable_below high (at + 1) slots (omega (arith, h))

pub readable_is : (waiting : Waiting) (slots : List Slot) → readable_from 0 slots ≡ below (stable slots) (decided_from waiting 0 slots)
readable_is waiting slots = sym (readable_below (stable slots) 0 slots (omega arith)) ∙ readable_decided waiting (stable slots) 0 slots (omega arith)
