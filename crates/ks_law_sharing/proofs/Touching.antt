-- The place up to which a journal touches a worker's transaction, and entries that don't touch it.
use Rattle.std.proofs.Common.{◌≡◌, ◌≢◌, ℕ, ◌+◌, ◌≤◌, ◌&&◌, Bool, true, false, not, cond, List, [], ◌∷◌, ◌++◌, length, Option, None, refl, sym, ap, ap₂, ◌∙◌, arith}
use Rattle.std.proofs.lemmas.Bool.{true≢false}
use Rattle.ks_history.specs.declared.journal.Request.{Request}
use Rattle.ks_history.specs.declared.journal.Request.TheVariants.{Produce, Init, Add, Append, SendOffsets, Decide, MarkNext, Join, Expire, Hold, Probe, Assign, Park, Unpark}
use Rattle.ks_history.specs.declared.journal.Entry.{Entry}
use Rattle.ks_history.specs.State.{State, Setup}
use Rattle.ks_history.specs.Step.{refusal, answer, reply_by}
use Rattle.ks_history.specs.History.{IsStep}
use Rattle.ks_history.specs.Touched.{is_refused, is_of, touches, touched_from, touched, untouched}
use Rattle.ks_law_sharing.specs.Others.{SameTouched, TouchedBefore}
use Rattle.ks_law_sharing.specs.Tasks.{SeenStays}
use Rattle.ks_law_sharing.proofs.Rising.{journal_rises}

-- ---- the place
touched_from-append : (w n last : ℕ) (xs ys : List Entry) → touched_from w n last (xs ++ ys) ≡ touched_from w (n + length xs) (touched_from w n last xs) ys
touched_from-append w n last [] ys = ap (λ k. touched_from w k last ys) (omega arith)
touched_from-append w n last (x ∷ xs) ys =
    let next : ℕ = cond (touches w x) (n + 1) last in
    touched_from-append w (n + 1) next xs ys ∙ ap (λ k. touched_from w k (touched_from w (n + 1) next xs) ys) (omega arith)

pub touched-append : (w : ℕ) (journal more : List Entry) → touched w (journal ++ more) ≡ touched_from w (0 + length journal) (touched w journal) more
touched-append w journal more = touched_from-append w 0 0 journal more

-- it is at or past the last one, and within the list
place_rises : (w n last : ℕ) (xs : List Entry) → last ≤ n → last ≤ touched_from w n last xs
place_rises w n last [] h = omega arith
place_rises w n last (x ∷ xs) h = by (touches w x) (place_rises w (n + 1) (n + 1) xs (omega arith)) (place_rises w (n + 1) last xs (omega (arith, h)))
  where
    by : (b : Bool) → n + 1 ≤ touched_from w (n + 1) (n + 1) xs → last ≤ touched_from w (n + 1) last xs → last ≤ touched_from w (n + 1) (cond b (n + 1) last) xs
    by true e f = omega (arith, e)
    by false e f = f

place_within : (w n last : ℕ) (xs : List Entry) → last ≤ n → touched_from w n last xs ≤ n + length xs
place_within w n last [] h = omega arith
place_within w n last (x ∷ xs) h = by (touches w x) (place_within w (n + 1) (n + 1) xs (omega arith)) (place_within w (n + 1) last xs (omega (arith, h)))
  where
    by : (b : Bool) → touched_from w (n + 1) (n + 1) xs ≤ (n + 1) + length xs → touched_from w (n + 1) last xs ≤ (n + 1) + length xs → touched_from w (n + 1) (cond b (n + 1) last) xs ≤ n + length (x ∷ xs)
    by true e f = omega (arith, e)
    by false e f = omega (arith, f)

touched_most : (w : ℕ) (journal : List Entry) → touched w journal ≤ length journal
touched_most w journal = omega (arith, place_within w 0 0 journal (omega arith))

pub touched_grows : (w : ℕ) (journal more : List Entry) → touched w journal ≤ touched w (journal ++ more)
touched_grows w journal more =
    omega (arith, touched-append w journal more, place_rises w (0 + length journal) (touched w journal) more (omega (arith, touched_most w journal)))

-- an entry that touches is past all that stood before it
not_past : (w n last : ℕ) (xs : List Entry) → touched_from w n last xs ≤ n → untouched w xs ≡ true
not_past w n last [] h = refl
not_past w n last (x ∷ xs) h = by (touches w x) h (λ g. not_past w (n + 1) last xs g)
  where
    by : (b : Bool) → touched_from w (n + 1) (cond b (n + 1) last) xs ≤ n → (touched_from w (n + 1) last xs ≤ n + 1 → untouched w xs ≡ true) → cond b false (untouched w xs) ≡ true
    by true e on = absurd (omega (arith, e, place_rises w (n + 1) (n + 1) xs (omega arith)))
    by false e on = on (omega (arith, e))

pub touched_before : TouchedBefore
touched_before w journal more h = not_past w (0 + length journal) (touched w journal) more (omega (arith, h, touched-append w journal more))

pub same_touched : SameTouched
same_touched w journal more e = touched_before w journal more (omega (arith, e, touched_most w journal))

pub seen_stays : SeenStays
seen_stays setup journal more w g last is = record {
  generation = omega (arith, is.generation, (journal_rises setup journal more).generation);
  place = omega (arith, is.place, touched_grows w journal more);
}

-- ---- entries that don't touch
pub untouched_parts : (w : ℕ) (entry : Entry) (entries : List Entry) → untouched w (entry ∷ entries) ≡ true → (touches w entry ≡ false) × (untouched w entries ≡ true)
untouched_parts w entry entries h = by (touches w entry) refl h
  where
    by : (b : Bool) → touches w entry ≡ b → cond b false (untouched w entries) ≡ true → (touches w entry ≡ false) × (untouched w entries ≡ true)
    by true is e = absurd (true≢false (sym e))
    by false is e = (is, e)

-- no answer to a request of a worker's own is a refusal
not_refused : (s : State) (w : ℕ) (request : Request) → is_of w request ≡ true → is_refused (answer s request) ≡ false
not_refused s w (Init v) h = refl
not_refused s w (Add v e p) h = refl
not_refused s w (Append v e number t p rs) h = refl
not_refused s w (SendOffsets v e g t offsets order late) h = refl
not_refused s w (Decide v e commit) h = refl
not_refused s w (Produce p rec) h = absurd (true≢false (sym h))
not_refused s w (MarkNext v) h = absurd (true≢false (sym h))
not_refused s w (Join v) h = absurd (true≢false (sym h))
not_refused s w (Expire v) h = absurd (true≢false (sym h))
not_refused s w (Hold v held) h = absurd (true≢false (sym h))
not_refused s w (Probe v g) h = absurd (true≢false (sym h))
not_refused s w (Assign v g a) h = absurd (true≢false (sym h))
not_refused s w (Park instance t) h = absurd (true≢false (sym h))
not_refused s w (Unpark instance t) h = absurd (true≢false (sym h))

-- such an entry isn't the worker's, or was refused
abbrev pub IsOthers : ℕ → Request → {R : Type 0} → Option R → Type 0
IsOthers w request r = is_of w request ≡ true → r ≢ None

pub is_others : (setup : Setup) (s : State) (w : ℕ) (entry : Entry) → IsStep setup s entry → touches w entry ≡ false → IsOthers w entry.request (refusal setup s entry.request)
is_others setup s w entry step not_one is none =
    let reply : entry.reply ≡ answer s entry.request = step.reply ∙ ap (reply_by s entry.request) none in
    let answered : is_refused entry.reply ≡ false = ap is_refused reply ∙ not_refused s w entry.request is in
    true≢false (ap₂ (λ a b. a && not b) (sym is) (sym answered) ∙ not_one)
