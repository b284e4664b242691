-- Records of one producer behind a partition in which all is completed.
use Rattle.std.proofs.Common.{◌≡◌, ◌≢◌, ℕ, ◌+◌, ◌≤◌, suc, Bool, true, false, cond, ◌&&◌, List, [], ◌∷◌, ◌++◌, length, Option, Some, None, refl, sym, ap, ap₂, ◌∙◌, arith, ⊎_elim}
use Rattle.std.specs.Prelude.{◌==◌}
use Rattle.std.proofs.lemmas.Bool.{and_parts, and_from, eqb-true, eq-eqb, true≢false}
use Rattle.ks_record.specs.Records.{Record as Rec}
use Rattle.ks_record.specs.declared.record.PartId.{PartId}
use Rattle.ks_record.specs.declared.record.TaskId.{TaskId}
use Rattle.ks_record.specs.Parts.{same_task}
use Rattle.ks_history.specs.declared.partition.Slot.{Slot}
use Rattle.ks_history.specs.declared.partition.Slot.TheVariants.{Plain, Sent, Mark}
use Rattle.ks_history.specs.Partition.{Logged, next_mark, by_mark, stable, is_commit, is_none, decision, decided_from, is_open, open_from, none_decided, is_behind, recs, count_sent, sent_slots}
use Rattle.ks_history.specs.State.{State, Setup}
use Rattle.ks_history.specs.Faithful.{marker_among}
use Rattle.ks_history.proofs.Names.{same_task-is}
use Rattle.ks_law_exactly_once.proofs.Slots.{Waiting, keep_append, next_mark-append, next_mark-sent, decision_none, Open-map, not_mine}
use Rattle.ks_law_exactly_once.proofs.Sound.{Open, IsOfTx, Owned, Sound}
use Rattle.ks_history.specs.History.{at}
use Rattle.ks_law_exactly_once.specs.Law.{OfHistories}
use Rattle.ks_law_exactly_once.proofs.Replays.{whole}
use Rattle.ks_commit.specs.Alone.{IsIdle, IsStable}
use Rattle.ks_commit.specs.Sending.{are_sent}

-- ---- records of one producer
pub sent_next : (w e : ℕ) (slots : List Slot) → are_sent w e slots ≡ true → (v d : ℕ) → next_mark v d slots ≡ None
sent_next w e [] h v d = refl
sent_next w e (Plain rec ∷ slots) h v d = absurd (true≢false (sym h))
sent_next w e (Sent u c n task rec ∷ slots) h v d = sent_next w e slots (and_parts ((w == u) && (e == c)) (are_sent w e slots) h).1 v d
sent_next w e (Mark u c commit ∷ slots) h v d = absurd (true≢false (sym h))

pub sent_decided : (w e : ℕ) (slots : List Slot) → are_sent w e slots ≡ true → (waiting : Waiting) → ((v d : ℕ) → waiting v d ≡ None) → (at : ℕ) → decided_from waiting at slots ≡ []
sent_decided w e [] h waiting none at = refl
sent_decided w e (Plain rec ∷ slots) h waiting none at = absurd (true≢false (sym h))
sent_decided w e (Sent u c n task rec ∷ slots) h waiting none at =
    let g : are_sent w e slots ≡ true = (and_parts ((w == u) && (e == c)) (are_sent w e slots) h).1 in
    let x : Logged = record { offset = at; sender = Some task; rec = rec } in
    let new : List Logged = decided_from waiting (at + 1) slots in
    ap₂ (λ (a b : Option Bool). cond (is_commit (decision a b)) (x ∷ new) new) (sent_next w e slots g u c) (none u c) ∙ sent_decided w e slots g waiting none (at + 1)
sent_decided w e (Mark u c commit ∷ slots) h waiting none at = absurd (true≢false (sym h))

either : (b x y : Bool) → x ≡ true → y ≡ true → cond b x y ≡ true
either true x y h g = h
either false x y h g = g

never : (b x : Bool) → x ≡ true → cond (b && false) false x ≡ true
never true x h = h
never false x h = h

pub sent_undecided : (w e : ℕ) (slots : List Slot) → are_sent w e slots ≡ true → (waiting : Waiting) → ((v d : ℕ) → waiting v d ≡ None) → (t : TaskId) → none_decided waiting t slots ≡ true
sent_undecided w e [] h waiting none t = refl
sent_undecided w e (Plain rec ∷ slots) h waiting none t = absurd (true≢false (sym h))
sent_undecided w e (Sent u c n task rec ∷ slots) h waiting none t =
    let g : are_sent w e slots ≡ true = (and_parts ((w == u) && (e == c)) (are_sent w e slots) h).1 in
    ap₂ (λ (a b : Option Bool). cond (same_task t task && is_commit (decision a b)) false (none_decided waiting t slots)) (sent_next w e slots g u c) (none u c)
    ∙ never (same_task t task) (none_decided waiting t slots) (sent_undecided w e slots g waiting none t)
sent_undecided w e (Mark u c commit ∷ slots) h waiting none t = absurd (true≢false (sym h))

pub sent_behind : (w e : ℕ) (slots : List Slot) → are_sent w e slots ≡ true → (waiting : Waiting) → ((v d : ℕ) → waiting v d ≡ None) → (v d : ℕ) (t : TaskId) → is_behind waiting v d t slots ≡ true
sent_behind w e [] h waiting none v d t = refl
sent_behind w e (Plain rec ∷ slots) h waiting none v d t = absurd (true≢false (sym h))
sent_behind w e (Sent u c n task rec ∷ slots) h waiting none v d t =
    let g : are_sent w e slots ≡ true = (and_parts ((w == u) && (e == c)) (are_sent w e slots) h).1 in
    either (is_open v d t u c task (next_mark u c slots)) (none_decided waiting t slots) (is_behind waiting v d t slots) (sent_undecided w e slots g waiting none t) (sent_behind w e slots g waiting none v d t)
sent_behind w e (Mark u c commit ∷ slots) h waiting none v d t = absurd (true≢false (sym h))

pub sent_count : (w e : ℕ) (slots : List Slot) → are_sent w e slots ≡ true → count_sent w e slots ≡ length slots
sent_count w e [] h = refl
sent_count w e (Plain rec ∷ slots) h = absurd (true≢false (sym h))
sent_count w e (Sent u c n task rec ∷ slots) h =
    let g : (((w == u) && (e == c)) ≡ true) × (are_sent w e slots ≡ true) = and_parts ((w == u) && (e == c)) (are_sent w e slots) h in
    ap (λ b. cond b (suc (count_sent w e slots)) (count_sent w e slots)) g.0 ∙ ap suc (sent_count w e slots g.1)
sent_count w e (Mark u c commit ∷ slots) h = absurd (true≢false (sym h))

pub sent_both : (w e : ℕ) (xs ys : List Slot) → are_sent w e xs ≡ true → are_sent w e ys ≡ true → are_sent w e (xs ++ ys) ≡ true
sent_both w e [] ys h g = g
sent_both w e (Plain rec ∷ xs) ys h g = absurd (true≢false (sym h))
sent_both w e (Sent u c n task rec ∷ xs) ys h g =
    let k : (((w == u) && (e == c)) ≡ true) × (are_sent w e xs ≡ true) = and_parts ((w == u) && (e == c)) (are_sent w e xs) h in
    and_from ((w == u) && (e == c)) (are_sent w e (xs ++ ys)) k.0 (sent_both w e xs ys k.1 g)
sent_both w e (Mark u c commit ∷ xs) ys h g = absurd (true≢false (sym h))

pub slots_sent : (w e number : ℕ) (t : TaskId) (rs : List Rec) → are_sent w e (sent_slots w e number t rs) ≡ true
slots_sent w e number t [] = refl
slots_sent w e number t (r ∷ rs) =
    and_from ((w == w) && (e == e)) _ (and_from (w == w) (e == e) (eq-eqb w w refl) (eq-eqb e e refl)) (slots_sent w e (number + 1) t rs)

pub slots_length : (w e number : ℕ) (t : TaskId) (rs : List Rec) → length (sent_slots w e number t rs) ≡ length rs
slots_length w e number t [] = refl
slots_length w e number t (r ∷ rs) = ap suc (slots_length w e (number + 1) t rs)

one_counted : (b : Bool) (m n k : ℕ) → m ≡ n + k → cond b (suc m) m ≡ cond b (suc n) n + k
one_counted true m n k h = omega (arith, h)
one_counted false m n k h = h

pub count_append : (w e : ℕ) (xs ys : List Slot) → count_sent w e (xs ++ ys) ≡ count_sent w e xs + count_sent w e ys
count_append w e [] ys = omega arith
count_append w e (Plain rec ∷ xs) ys = count_append w e xs ys
count_append w e (Sent v d n task rec ∷ xs) ys = one_counted ((w == v) && (e == d)) _ _ _ (count_append w e xs ys)
count_append w e (Mark v d commit ∷ xs) ys = count_append w e xs ys

few_more : (b : Bool) (m n : ℕ) → m ≤ n → cond b (suc m) m ≤ suc n
few_more true m n h = omega (arith, h)
few_more false m n h = omega (arith, h)

pub count_few : (w e : ℕ) (slots : List Slot) → count_sent w e slots ≤ length slots
count_few w e [] = omega arith
count_few w e (Plain rec ∷ slots) = omega (arith, count_few w e slots)
count_few w e (Sent v d n task rec ∷ slots) = few_more ((w == v) && (e == d)) _ _ (count_few w e slots)
count_few w e (Mark v d commit ∷ slots) = omega (arith, count_few w e slots)

-- ---- open records of more slots
pub open_append : (w d : ℕ) (t : TaskId) (at : ℕ) (slots more : List Slot) → next_mark w d more ≡ None →
    open_from w d t at (slots ++ more) ≡ open_from w d t at slots ++ open_from w d t (at + length slots) more
open_append w d t at [] more none = ap (λ n. open_from w d t n more) (omega arith)
open_append w d t at (Plain rec ∷ slots) more none = open_append w d t (at + 1) slots more none ∙ ap (λ n. open_from w d t (at + 1) slots ++ open_from w d t n more) (omega arith)
open_append w d t at (Sent v e number task rec ∷ slots) more none =
    let x : Logged = record { offset = at; sender = Some task; rec = rec } in
    let new = open_from w d t (at + 1) (slots ++ more) in
    ap (λ b. cond b (x ∷ new) new) (same (w == v) (d == e) refl refl)
    ∙ keep_append (is_open w d t v e task (next_mark v e slots)) x new (open_from w d t (at + 1) slots) _
    (open_append w d t (at + 1) slots more none ∙ ap (λ n. open_from w d t (at + 1) slots ++ open_from w d t n more) (omega arith))
  where
    same : (a b : Bool) → (w == v) ≡ a → (d == e) ≡ b →
        ((a && b) && same_task t task) && is_none (next_mark v e (slots ++ more)) ≡ ((a && b) && same_task t task) && is_none (next_mark v e slots)
    same true true f g = ap (λ o. same_task t task && is_none o)
        (next_mark-append v e slots more
        ∙ ap (decision (next_mark v e slots)) (ap₂ (λ k l. next_mark k l more) (sym (eqb-true w v f)) (sym (eqb-true d e g)) ∙ none)
        ∙ decision_none (next_mark v e slots))
    same true false f g = refl
    same false b f g = refl
open_append w d t at (Mark v e commit ∷ slots) more none = open_append w d t (at + 1) slots more none ∙ ap (λ n. open_from w d t (at + 1) slots ++ open_from w d t n more) (omega arith)

pub open_sent : (w d : ℕ) (t : TaskId) (at v e number : ℕ) (u : TaskId) (rs : List Rec) →
    recs (open_from w d t at (sent_slots v e number u rs)) ≡ cond (((w == v) && (d == e)) && same_task t u) rs []
open_sent w d t at v e number u [] = nothing (((w == v) && (d == e)) && same_task t u)
  where
    nothing : (b : Bool) → [] ≡ cond {A = List Rec} b [] []
    nothing true = refl
    nothing false = refl
open_sent w d t at v e number u (r ∷ rs) =
    ap (λ o. recs (cond ((((w == v) && (d == e)) && same_task t u) && is_none o) (record { offset = at; sender = Some u; rec = r } ∷ open_from w d t (at + 1) (sent_slots v e (number + 1) u rs)) (open_from w d t (at + 1) (sent_slots v e (number + 1) u rs))))
    (next_mark-sent v e v e (number + 1) u rs)
    ∙ by (((w == v) && (d == e)) && same_task t u) (open_sent w d t (at + 1) v e (number + 1) u rs)
  where
    by : (b : Bool) → recs (open_from w d t (at + 1) (sent_slots v e (number + 1) u rs)) ≡ cond b rs [] →
        recs (cond (b && true) (record { offset = at; sender = Some u; rec = r } ∷ open_from w d t (at + 1) (sent_slots v e (number + 1) u rs)) (open_from w d t (at + 1) (sent_slots v e (number + 1) u rs))) ≡ cond b (r ∷ rs) []
    by true h = ap (λ l. r ∷ l) h
    by false h = h

-- ---- a partition in which a marker completes each record
abbrev pub Complete : List Slot → Type 0
Complete slots = Open (λ w e t. ⊥) slots

front_none : (a b : Option Bool) → decision a b ≡ None → a ≡ None
front_none None b h = refl
front_none (Some c) b h = absurd cc

pub complete_behind : (slots more : List Slot) → Complete slots → (waiting : Waiting) (w e : ℕ) (t : TaskId) → is_behind waiting w e t more ≡ true → is_behind waiting w e t (slots ++ more) ≡ true
complete_behind [] more h waiting w e t g = g
complete_behind (Plain rec ∷ slots) more h waiting w e t g = complete_behind slots more h waiting w e t g
complete_behind (Sent v d n task rec ∷ slots) more h waiting w e t g =
    ap (λ b. cond b (none_decided waiting t (slots ++ more)) (is_behind waiting w e t (slots ++ more)))
    (not_mine (λ w e t. ⊥) w e t v d task (next_mark v d (slots ++ more)) (same_task-is t task) (λ none. h.0 (front_none (next_mark v d slots) (next_mark v d more) (sym (next_mark-append v d slots more) ∙ none))) (λ no. no))
    ∙ complete_behind slots more h.1 waiting w e t g
complete_behind (Mark v d commit ∷ slots) more h waiting w e t g = complete_behind slots more h waiting w e t g

pub complete_stable : (slots : List Slot) → Complete slots → stable slots ≡ length slots
complete_stable [] h = refl
complete_stable (Plain rec ∷ slots) h = ap suc (complete_stable slots h)
complete_stable (Sent v d n task rec ∷ slots) h = by (next_mark v d slots) refl (complete_stable slots h.1)
  where
    by : (o : Option Bool) → next_mark v d slots ≡ o → stable slots ≡ length slots → by_mark o 0 (suc (stable slots)) (suc (stable slots)) ≡ suc (length slots)
    by None is e = absurd (h.0 is)
    by (Some true) is e = ap suc e
    by (Some false) is e = ap suc e
complete_stable (Mark v d commit ∷ slots) h = ap suc (complete_stable slots h)

-- between two transactions each record is completed
pub idle_complete : (setup : Setup) (s : State) → Sound setup s → IsIdle s → (q : PartId) → Complete (s.partition q)
idle_complete setup s sound idle q = Open-map (Owned s.producer q) (λ w e t. ⊥) (s.partition q) no_one (sound.owned q)
  where
    no_one : (w e : ℕ) (t : TaskId) → Owned s.producer q w e t → ⊥
    no_one w e t own = ⊎_elim
        (λ (ne : marker_among q e (s.producer w).waiting ≢ None). ne (ap (marker_among q e) (idle w).1))
        (λ (o : IsOfTx (s.producer w) q e t). let h : None ≡ Some o.tx = sym (idle w).0 ∙ o.undecided in absurd cc)
        own

pub is_stable : OfHistories IsStable
is_stable setup journal net history idle q = complete_stable ((at setup journal).partition q) (idle_complete setup (at setup journal) (whole setup net journal history).sound idle q)
