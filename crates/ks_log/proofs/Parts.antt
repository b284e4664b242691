-- What is kept beside the slots of a partition, while slots are added.
use Rattle.std.proofs.Common.{◌≡◌, ℕ, zero, suc, ◌+◌, ◌-◌, ◌<◌, ◌≤◌, Bool, true, false, cond, List, [], ◌∷◌, ◌++◌, length, take, drop, get_or, Option, Some, None, refl, sym, ap, ap₂, ◌∙◌, subst, arith, append_assoc}
use Rattle.std.specs.Prelude.{◌==◌, ◌&&◌, nat_le}
use Rattle.std.proofs.lemmas.Bool.{le-leb, lt-leb}
use Rattle.std.proofs.lemmas.List.{drop_more, drop-append-le, drop-drop, length-drop, take_all}
use Rattle.ks_record.specs.Records.{Record as Rec}
use Rattle.ks_history.specs.declared.partition.Slot.{Slot}
use Rattle.ks_history.specs.declared.partition.Slot.TheVariants.{Plain, Sent, Mark}
use Rattle.ks_history.specs.Partition.{next_mark, by_mark, decision, stable, count_sent}
use Rattle.ks_log.specs.declared.marks.Marked.{Marked}
use Rattle.ks_log.specs.declared.counts.Counted.{Counted}
use Rattle.ks_log.specs.Index.{marks_in, mark_among, visible_one, visible_in, counted, IsIndexed}
use Rattle.ks_log.specs.Reading.{readable_pairs, at_or_past, record_at, visible_pairs, decided_one, decided_pairs}
use Rattle.ks_log.proofs.Counting.{count_sent-append}

-- ---- markers
pub next_mark-among : (w e : ℕ) (slots : List Slot) → next_mark w e slots ≡ mark_among w e (marks_in slots)
next_mark-among w e [] = refl
next_mark-among w e (Plain rec ∷ slots) = next_mark-among w e slots
next_mark-among w e (Sent v d number task rec ∷ slots) = next_mark-among w e slots
next_mark-among w e (Mark v d commit ∷ slots) = ap (λ m. cond ((w == v) && (e == d)) (Some commit) m) (next_mark-among w e slots)

pub marks_in-append : (xs ys : List Slot) → marks_in (xs ++ ys) ≡ marks_in xs ++ marks_in ys
marks_in-append [] ys = refl
marks_in-append (Plain rec ∷ xs) ys = marks_in-append xs ys
marks_in-append (Sent v d number task rec ∷ xs) ys = marks_in-append xs ys
marks_in-append (Mark v d commit ∷ xs) ys = ap (λ l. record { producer = v; epoch = d; commit = commit } ∷ l) (marks_in-append xs ys)

-- a record that a marker completes stays so
next_mark-more : (w e : ℕ) (xs ys : List Slot) (commit : Bool) → next_mark w e xs ≡ Some commit → next_mark w e (xs ++ ys) ≡ Some commit
next_mark-more w e [] ys commit h = absurd (cc)
next_mark-more w e (Plain rec ∷ xs) ys commit h = next_mark-more w e xs ys commit h
next_mark-more w e (Sent v d number task rec ∷ xs) ys commit h = next_mark-more w e xs ys commit h
next_mark-more w e (Mark v d c ∷ xs) ys commit h = by_test ((w == v) && (e == d)) h (next_mark-more w e xs ys commit)
  where
    by_test : (b : Bool) → cond b (Some c) (next_mark w e xs) ≡ Some commit → (next_mark w e xs ≡ Some commit → next_mark w e (xs ++ ys) ≡ Some commit) → cond b (Some c) (next_mark w e (xs ++ ys)) ≡ Some commit
    by_test true h more = h
    by_test false h more = more h

-- a slice to its end
pub rest_is : {A : Type 0} (n : ℕ) (xs : List A) → take (length xs - n) (drop n xs) ≡ drop n xs
rest_is n xs = take_all (length xs - n) (drop n xs) (let h = length-drop n xs in omega (arith, h))

-- ---- which slots readers get
pub length-visible : (slots : List Slot) → length (visible_in slots) ≡ stable slots
length-visible [] = refl
length-visible (Plain rec ∷ slots) = ap suc (length-visible slots)
length-visible (Sent w e number task rec ∷ slots) = by_next (next_mark w e slots) (length-visible slots)
  where
    by_next : (m : Option Bool) → length (visible_in slots) ≡ stable slots → length (by_mark m [] (true ∷ visible_in slots) (false ∷ visible_in slots)) ≡ by_mark m 0 (suc (stable slots)) (suc (stable slots))
    by_next None h = refl
    by_next (Some true) h = ap suc h
    by_next (Some false) h = ap suc h
length-visible (Mark w e commit ∷ slots) = ap suc (length-visible slots)

visible_few : (slots : List Slot) → length (visible_in slots) ≤ length slots
visible_few [] = omega arith
visible_few (Plain rec ∷ slots) = let h = visible_few slots in omega (arith, h)
visible_few (Sent w e number task rec ∷ slots) = by_next (next_mark w e slots) (visible_few slots)
  where
    by_next : (m : Option Bool) → length (visible_in slots) ≤ length slots → length (by_mark m [] (true ∷ visible_in slots) (false ∷ visible_in slots)) ≤ suc (length slots)
    by_next None h = omega arith
    by_next (Some true) h = omega (arith, h)
    by_next (Some false) h = omega (arith, h)
visible_few (Mark w e commit ∷ slots) = let h = visible_few slots in omega (arith, h)

-- after more slots it goes on from where it was
pub visible_in-append : (xs ys : List Slot) → visible_in (xs ++ ys) ≡ visible_in xs ++ visible_in (drop (length (visible_in xs)) (xs ++ ys))
visible_in-append [] ys = refl
visible_in-append (Plain rec ∷ xs) ys = ap (λ l. true ∷ l) (visible_in-append xs ys)
visible_in-append (Sent w e number task rec ∷ xs) ys = by_next (next_mark w e xs) refl (visible_in-append xs ys)
  where
    whole : List Slot
    whole = Sent w e number task rec ∷ (xs ++ ys)

    by_next : (m : Option Bool) → next_mark w e xs ≡ m → visible_in (xs ++ ys) ≡ visible_in xs ++ visible_in (drop (length (visible_in xs)) (xs ++ ys)) → visible_in whole
        ≡ by_mark m [] (true ∷ visible_in xs) (false ∷ visible_in xs) ++ visible_in (drop (length (by_mark m [] (true ∷ visible_in xs) (false ∷ visible_in xs))) whole)
    by_next None is h = refl
    by_next (Some true) is h = ap (λ o. by_mark o [] (true ∷ visible_in (xs ++ ys)) (false ∷ visible_in (xs ++ ys))) (next_mark-more w e xs ys true is) ∙ ap (λ l. true ∷ l) h
    by_next (Some false) is h = ap (λ o. by_mark o [] (true ∷ visible_in (xs ++ ys)) (false ∷ visible_in (xs ++ ys))) (next_mark-more w e xs ys false is) ∙ ap (λ l. false ∷ l) h
visible_in-append (Mark w e commit ∷ xs) ys = ap (λ l. false ∷ l) (visible_in-append xs ys)

pub known_few : (slots : List Slot) (visible : List Bool) → visible ≡ visible_in slots → length visible ≤ length slots
known_few slots visible is = subst (λ l. length l ≤ length slots) (sym is) (visible_few slots)

-- one slot on
visible_next : (slot : Slot) (slots : List Slot) (marks : List Marked) (o : Option Bool) → marks ≡ marks_in (slot ∷ slots) → visible_one slot marks ≡ o
    → visible_in (slot ∷ slots) ≡ elim o as (λ _. List Bool) [ None ↦ [] | Some is ↦ is ∷ visible_in slots ]
visible_next (Plain rec) slots marks None m h = absurd (cc)
visible_next (Plain rec) slots marks (Some true) m h = refl
visible_next (Plain rec) slots marks (Some false) m h = absurd (cc)
visible_next (Sent w e number task rec) slots marks o m h =
    ap (λ o. by_mark o [] (true ∷ visible_in slots) (false ∷ visible_in slots)) (next_mark-among w e slots ∙ ap (mark_among w e) (sym m) ∙ h) ∙ by_mark-is o
  where
    by_mark-is : (o : Option Bool) → by_mark o [] (true ∷ visible_in slots) (false ∷ visible_in slots) ≡ elim o as (λ _. List Bool) [ None ↦ [] | Some is ↦ is ∷ visible_in slots ]
    by_mark-is None = refl
    by_mark-is (Some true) = refl
    by_mark-is (Some false) = refl
visible_next (Mark w e commit) slots marks None m h = absurd (cc)
visible_next (Mark w e commit) slots marks (Some true) m h = absurd (cc)
visible_next (Mark w e commit) slots marks (Some false) m h = refl

-- an incomplete slot shows no more
pub visible_stops : (slots : List Slot) (marks : List Marked) (i : ℕ) (d : Slot) → i < length slots → marks ≡ marks_in (drop i slots) → visible_one (get_or slots i d) marks ≡ None → visible_in (drop i slots) ≡ []
visible_stops slots marks i d h m is =
    let here = drop_more slots i d h in
    ap visible_in here ∙ visible_next (get_or slots i d) (drop (i + 1) slots) marks None (m ∙ ap marks_in here) is

pub visible_on : (slots : List Slot) (marks : List Marked) (i : ℕ) (d : Slot) (is : Bool) → i < length slots → marks ≡ marks_in (drop i slots) → visible_one (get_or slots i d) marks ≡ Some is
    → visible_in (drop i slots) ≡ is ∷ visible_in (drop (i + 1) slots)
visible_on slots marks i d is h m so =
    let here = drop_more slots i d h in
    ap visible_in here ∙ visible_next (get_or slots i d) (drop (i + 1) slots) marks (Some is) (m ∙ ap marks_in here) so

passed_next : (slot : Slot) (slots : List Slot) (marks : List Marked) → marks ≡ marks_in (slot ∷ slots)
    → (drop (length (marks_in (slot ∷ []))) marks ≡ marks_in slots) × (length (marks_in (slot ∷ [])) ≤ length marks)
passed_next (Plain rec) slots marks m = (m, omega arith)
passed_next (Sent w e number task rec) slots marks m = (m, omega arith)
passed_next (Mark w e commit) slots marks m = (ap (drop 1) m, let n = ap length m in omega (arith, n))

-- the markers that follow one slot on
pub passed_on : (slots : List Slot) (marks : List Marked) (i passed : ℕ) (d : Slot) → i < length slots → passed ≤ length marks → drop passed marks ≡ marks_in (drop i slots)
    → (drop (passed + length (marks_in (get_or slots i d ∷ []))) marks ≡ marks_in (drop (i + 1) slots)) × (passed + length (marks_in (get_or slots i d ∷ [])) ≤ length marks)
passed_on slots marks i passed d h within m =
    let next = passed_next (get_or slots i d) (drop (i + 1) slots) (drop passed marks) (m ∙ ap marks_in (drop_more slots i d h)) in
    let left = length-drop passed marks in
    let n = next.1 in
    (sym (drop-drop _ passed marks) ∙ next.0, omega (arith, within, left, n))

-- the markers that follow, after more slots
pub passed_more : (slots more : List Slot) (marks found : List Marked) (passed n : ℕ) → passed ≤ length marks → n ≤ length slots → found ≡ marks_in more
    → drop passed marks ≡ marks_in (drop n slots) → drop passed (marks ++ found) ≡ marks_in (drop n (slots ++ more))
passed_more slots more marks found passed n within known is m =
    drop-append-le passed marks found within ∙ ap₂ (λ a b. a ++ b) m is ∙ sym (marks_in-append (drop n slots) more) ∙ ap marks_in (sym (drop-append-le n slots more known))

-- after more slots
pub indexed_more : (slots slots' more : List Slot) (visible visible' : List Bool) (marks marks' found : List Marked) (passed passed' : ℕ) (counts counts' : List Counted)
    → IsIndexed slots visible marks passed counts → slots' ≡ slots ++ more → visible' ≡ visible ++ visible_in (drop (length visible) slots')
    → marks' ≡ marks ++ found → found ≡ marks_in more → drop passed' marks' ≡ marks_in (drop (length visible') slots') → passed' ≤ length marks'
    → ((w e : ℕ) → counted w e counts' ≡ counted w e counts + count_sent w e more)
    → IsIndexed slots' visible' marks' passed' counts'
indexed_more slots slots' more visible visible' marks marks' found passed passed' counts counts' k grown on with is follow within sums = record {
  visible_is = on ∙ ap₂ (λ a b. a ++ visible_in (drop (length a) b)) k.visible_is grown ∙ sym (visible_in-append slots more) ∙ ap visible_in (sym grown);
  marks_are = with ∙ ap₂ (λ a b. a ++ b) k.marks_are is ∙ sym (marks_in-append slots more) ∙ ap marks_in (sym grown);
  passed_is = follow;
  within = within;
  counts_are = λ w e. sums w e ∙ ap (λ n. n + count_sent w e more) (k.counts_are w e) ∙ sym (count_sent-append w e slots more) ∙ ap (count_sent w e) (sym grown);
}

-- ---- what readers get
readable-visible : (at : ℕ) (slots : List Slot) → readable_pairs at slots ≡ visible_pairs at (visible_in slots) slots
readable-visible at [] = refl
readable-visible at (Plain rec ∷ slots) = ap (λ l. (at, rec) ∷ l) (readable-visible (at + 1) slots)
readable-visible at (Sent w e number task rec ∷ slots) = by_next (next_mark w e slots) (readable-visible (at + 1) slots)
  where
    by_next : (m : Option Bool) → readable_pairs (at + 1) slots ≡ visible_pairs (at + 1) (visible_in slots) slots
        → by_mark m [] ((at, rec) ∷ readable_pairs (at + 1) slots) (readable_pairs (at + 1) slots) ≡ visible_pairs at (by_mark m [] (true ∷ visible_in slots) (false ∷ visible_in slots)) (Sent w e number task rec ∷ slots)
    by_next None h = refl
    by_next (Some true) h = ap (λ l. (at, rec) ∷ l) h
    by_next (Some false) h = h
readable-visible at (Mark w e commit ∷ slots) = readable-visible (at + 1) slots

pub visible_pairs-nil : (at : ℕ) (visible : List Bool) → visible_pairs at visible [] ≡ []
visible_pairs-nil at [] = refl
visible_pairs-nil at (is ∷ visible) = refl

-- one slot on
passed_one : (from at : ℕ) (is : Bool) (slot : Slot) (rest : List (ℕ × Rec)) (b : Bool) → nat_le from at ≡ b
    → at_or_past from (cond is (record_at at slot) [] ++ rest) ≡ cond b (cond is (record_at at slot) []) [] ++ at_or_past from rest
passed_one from at false slot rest true h = refl
passed_one from at false slot rest false h = refl
passed_one from at true (Plain rec) rest true h = ap (λ b. cond b ((at, rec) ∷ at_or_past from rest) (at_or_past from rest)) h
passed_one from at true (Plain rec) rest false h = ap (λ b. cond b ((at, rec) ∷ at_or_past from rest) (at_or_past from rest)) h
passed_one from at true (Sent w e number task rec) rest true h = ap (λ b. cond b ((at, rec) ∷ at_or_past from rest) (at_or_past from rest)) h
passed_one from at true (Sent w e number task rec) rest false h = ap (λ b. cond b ((at, rec) ∷ at_or_past from rest) (at_or_past from rest)) h
passed_one from at true (Mark w e commit) rest true h = refl
passed_one from at true (Mark w e commit) rest false h = refl

all_past : (from at : ℕ) (visible : List Bool) (slots : List Slot) → from ≤ at → at_or_past from (visible_pairs at visible slots) ≡ visible_pairs at visible slots
all_past from at [] slots h = refl
all_past from at (is ∷ visible) [] h = refl
all_past from at (is ∷ visible) (slot ∷ slots) h =
    passed_one from at is slot (visible_pairs (at + 1) visible slots) true (le-leb from at h)
    ∙ ap (λ l. cond is (record_at at slot) [] ++ l) (all_past from (at + 1) visible slots (omega (arith, h)))

-- a read begins at its offset
past_visible : (at k : ℕ) (visible : List Bool) (slots : List Slot) → at_or_past (at + k) (visible_pairs at visible slots) ≡ visible_pairs (at + k) (drop k visible) (drop k slots)
past_visible at zero visible slots =
    let same : at + zero ≡ at = omega arith in
    ap (λ n. at_or_past n (visible_pairs at visible slots)) same ∙ all_past at at visible slots (omega arith) ∙ ap (λ n. visible_pairs n visible slots) (sym same)
past_visible at (suc k) [] slots = refl
past_visible at (suc k) (is ∷ visible) [] = sym (visible_pairs-nil (at + suc k) (drop k visible))
past_visible at (suc k) (is ∷ visible) (slot ∷ slots) =
    let same : at + suc k ≡ at + 1 + k = omega arith in
    passed_one (at + suc k) at is slot (visible_pairs (at + 1) visible slots) false (lt-leb (at + suc k) at (omega arith))
    ∙ ap (λ n. at_or_past n (visible_pairs (at + 1) visible slots)) same ∙ past_visible (at + 1) k visible slots ∙ ap (λ n. visible_pairs n (drop k visible) (drop k slots)) (sym same)

pub read_from : (from : ℕ) (slots : List Slot) (visible : List Bool) → visible ≡ visible_in slots → visible_pairs from (drop from visible) (drop from slots) ≡ at_or_past from (readable_pairs 0 slots)
read_from from slots visible is =
    let same : 0 + from ≡ from = omega arith in
    ap (λ n. visible_pairs n (drop from visible) (drop from slots)) (sym same) ∙ sym (past_visible 0 from visible slots) ∙ ap (λ n. at_or_past n (visible_pairs 0 visible slots)) same
    ∙ ap (λ l. at_or_past from (visible_pairs 0 l slots)) is ∙ ap (at_or_past from) (sym (readable-visible 0 slots))

-- ---- decided records
decided_next : (waiting : ℕ → ℕ → Option Bool) (at : ℕ) (slot : Slot) (slots : List Slot) (marks : List Marked) → marks ≡ marks_in (slot ∷ slots)
    → decided_pairs waiting at (slot ∷ slots) ≡ decided_one waiting at slot marks ++ decided_pairs waiting (at + 1) slots
decided_next waiting at (Plain rec) slots marks m = refl
decided_next waiting at (Sent w e number task rec) slots marks m =
    ap (λ o. by_mark (decision o (waiting w e)) rest ((at, rec) ∷ rest) rest) (next_mark-among w e slots ∙ ap (mark_among w e) (sym m)) ∙ by_decision (decision (mark_among w e marks) (waiting w e))
  where
    rest : List (ℕ × Rec)
    rest = decided_pairs waiting (at + 1) slots

    by_decision : (o : Option Bool) → by_mark o rest ((at, rec) ∷ rest) rest ≡ by_mark o [] ((at, rec) ∷ []) [] ++ rest
    by_decision None = refl
    by_decision (Some true) = refl
    by_decision (Some false) = refl
decided_next waiting at (Mark w e commit) slots marks m = refl

pub decided_on : (waiting : ℕ → ℕ → Option Bool) (slots : List Slot) (marks : List Marked) (i : ℕ) (d : Slot) → i < length slots → marks ≡ marks_in (drop i slots)
    → decided_pairs waiting i (drop i slots) ≡ decided_one waiting i (get_or slots i d) marks ++ decided_pairs waiting (i + 1) (drop (i + 1) slots)
decided_on waiting slots marks i d h m =
    let here = drop_more slots i d h in
    ap (decided_pairs waiting i) here ∙ decided_next waiting i (get_or slots i d) (drop (i + 1) slots) marks (m ∙ ap marks_in here)

-- one more of a loop that puts what the rest gives behind what is made
pub goes_on : {A : Type 0} (made new one rest all whole : List A) → made ++ all ≡ whole → new ≡ made ++ one → all ≡ one ++ rest → new ++ rest ≡ whole
goes_on made new one rest all whole so is parts = ap (λ l. l ++ rest) is ∙ append_assoc made one rest ∙ ap (λ l. made ++ l) (sym parts) ∙ so
