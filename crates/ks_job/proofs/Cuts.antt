-- The first line end of a list of bytes, and the machine up to it.
use Rattle.std.proofs.Common.{◌≡◌, ℕ, zero, suc, ◌+◌, ◌-◌, ◌<◌, ◌≤◌, List, [], ◌∷◌, ◌++◌, length, take, drop, refl, arith, rules, ap, Bool, true, false, ◌∙◌, sym, cond, add-one, get_or, append_assoc, append-nil}
use Rattle.std.specs.Prelude.{nat_le}
use Rattle.std.proofs.Math.Dec.{leb-suc-suc}
use Rattle.std.proofs.lemmas.Bool.{le-leb, lt-leb, leb-true, leb-false}
use Rattle.std.specs.Prelude.{Option, Some, None, ◌==◌, option_map, Result, Ok, Err}
use Rattle.std.proofs.lemmas.List.{take_rest, length-append}
use Rattle.std.specs.Str.{IsUtf8}
use Rattle.std.proofs.lemmas.Str.{utf8_valid_len-IsUtf8}
use Rattle.serde_json.specs.Data.{Data}
use Rattle.serde_json.specs.Read.{read}
use Rattle.ks_job_record.specs.declared.fault.JobKind.{JobKind}
use Rattle.ks_job.specs.declared.judge.JobItem.{JobItem}
use Rattle.ks_job.specs.Items.{ItemView, item_view, item_views}
use Rattle.std.proofs.lemmas.List.{map-append}
use Rattle.ks_job.specs.Lines.{Spot, judged, parsed, too_long}
use Rattle.ks_job.specs.Reader.{Reader, Reading, Faulty, Machine, is_line_end, is_full, longer, after, after_byte, after_line}
use Rattle.ks_job.specs.Cut.{cut_line, room, ended, kept}

equal_true : (m n : ℕ) → m ≡ n → (m == n) ≡ true
equal_true m n e = search rules

yes : {A : Type 0} (b : Bool) (x y : A) → b ≡ true → cond b x y ≡ x
yes b x y h = rw h refl

no : {A : Type 0} (b : Bool) (x y : A) → b ≡ false → cond b x y ≡ y
no b x y h = rw h refl

pub parsed_is : (line text : List ℕ) (d : Data) → IsUtf8 line → text ≡ line → read text ≡ Some d → Some d ≡ parsed line
unfolding parsed
parsed_is line text d u e h = sym (yes _ _ _ (equal_true _ _ (utf8_valid_len-IsUtf8 line u)) ∙ (ap read (sym e) ∙ h))

onto : ℕ → Option (List ℕ × List ℕ) → Option (List ℕ × List ℕ)
onto x o = option_map (λ p. (x ∷ p.0, p.1)) o

cut_at : (bs : List ℕ) (i : ℕ) → i < length bs → is_line_end (get_or bs i 0) ≡ true → ((k : ℕ) → k < i → is_line_end (get_or bs k 0) ≡ false) → cut_line bs ≡ Some (take i bs, drop (suc i) bs)
cut_at [] i lt t f = absurd (omega arith)
cut_at (x ∷ xs) zero lt t f = yes (is_line_end x) _ _ t
cut_at (x ∷ xs) (suc i) lt t f =
    no (is_line_end x) _ _ (f 0 (omega arith))
    ∙ ap (option_map (λ (p : List ℕ × List ℕ). (x ∷ p.0, p.1))) (cut_at xs i (omega arith) t (λ k h. f (suc k) (omega arith)))

pub cut_none : (bs : List ℕ) → ((k : ℕ) → k < length bs → is_line_end (get_or bs k 0) ≡ false) → cut_line bs ≡ None
cut_none [] f = refl
cut_none (x ∷ xs) f =
    no (is_line_end x) _ _ (f 0 (omega arith))
    ∙ ap (option_map (λ (p : List ℕ × List ℕ). (x ∷ p.0, p.1))) (cut_none xs (λ k h. f (suc k) (omega arith)))

pub cut_found : (bs : List ℕ) (i : ℕ) → i < length bs → is_line_end (get_or bs i 0) ≡ true → ((k : ℕ) → k < i → is_line_end (get_or bs k 0) ≡ false) →
    cut_line bs ≡ Some (take i bs, take (length bs - (i + 1)) (drop (i + 1) bs))
cut_found bs i lt t f = rw (take_rest, add-one) (cut_at bs i lt t f)

-- ---- how much a line can take

full_room : (begun : List ℕ) → is_full begun ≡ true → room begun ≡ 0
unfolding is_full room
full_room begun h = let l : 65536 ≤ length begun = leb-true 65536 (length begun) h in omega arith

room_next : (begun : List ℕ) (x : ℕ) → is_full begun ≡ false → room (begun ++ x ∷ []) + 1 ≡ room begun
unfolding is_full room
room_next begun x h =
    let l : length begun < 65536 = leb-false 65536 (length begun) h in
    let n : length (begun ++ x ∷ []) ≡ length begun + 1 = length-append begun (x ∷ []) in
    rw n (omega arith)

fits_next : (n m r : ℕ) → m + 1 ≡ r → nat_le n m ≡ nat_le (suc n) r
fits_next n m r e = rw (← e, add-one) (sym (leb-suc-suc n m))

ended_full : (s : Spot) (begun : List ℕ) (x : ℕ) (front : List ℕ) → is_full begun ≡ true → ended s begun (x ∷ front) ≡ Err (too_long s.start)
unfolding ended
ended_full s begun x front h = let r = full_room begun h in no _ _ _ (lt-leb (suc (length front)) (room begun) (omega arith))

ended_next : (s : Spot) (begun : List ℕ) (x : ℕ) (front : List ℕ) → is_full begun ≡ false → ended s (begun ++ x ∷ []) front ≡ ended s begun (x ∷ front)
unfolding ended
ended_next s begun x front h = rw (fits_next (length front) _ _ (room_next begun x h), append_assoc begun (x ∷ []) front) refl

ended_here : (s : Spot) (begun : List ℕ) → ended s begun [] ≡ judged s 1 begun
unfolding ended
ended_here s begun = yes _ _ _ (le-leb 0 (room begun) (omega arith)) ∙ ap (judged s 1) (append-nil begun)

kept_full : (s : Spot) (begun : List ℕ) (x : ℕ) (rest : List ℕ) → is_full begun ≡ true → kept s begun (x ∷ rest) ≡ Faulty s.line (too_long s.start)
unfolding kept
kept_full s begun x rest h = let r = full_room begun h in no _ _ _ (lt-leb (suc (length rest)) (room begun) (omega arith))

kept_next : (s : Spot) (begun : List ℕ) (x : ℕ) (rest : List ℕ) → is_full begun ≡ false → kept s (begun ++ x ∷ []) rest ≡ kept s begun (x ∷ rest)
unfolding kept
kept_next s begun x rest h = rw (fits_next (length rest) _ _ (room_next begun x h), append_assoc begun (x ∷ []) rest) refl

kept_here : (s : Spot) (begun : List ℕ) → kept s begun [] ≡ Reading s begun
unfolding kept
kept_here s begun = yes _ _ _ (le-leb 0 (room begun) (omega arith)) ∙ ap (Reading s) (append-nil begun)

-- ---- the machine up to the first line end

abbrev pub on_line : Spot → List ℕ → List ItemView → Machine
on_line s begun items = record { reader = Reading s begun; items = items }

abbrev pub with_reader : List ItemView → Reader → Machine
with_reader items r = record { reader = r; items = items }

abbrev pub stopped : ℕ → JobKind → List ItemView → Machine
stopped n k items = record { reader = Faulty n k; items = items }

pub after_faulty : (n : ℕ) (k : JobKind) (items : List ItemView) (xs : List ℕ) → after (stopped n k items) xs ≡ stopped n k items
after_faulty n k items [] = refl
after_faulty n k items (x ∷ xs) = after_faulty n k items xs

abbrev pub Pair : Type 0
Pair = List ℕ × List ℕ

abbrev pub first_of : Pair → List ℕ
first_of p = p.0

abbrev pub second_of : Pair → List ℕ
second_of p = p.1

abbrev pub taken_of : Pair → Option Pair → Pair
taken_of d None = d
taken_of d (Some p) = p

the_same : (p q : Pair) → Some p ≡ Some q → p ≡ q
the_same p q e = ap (taken_of p) e

rest_longer : (u : Bool) (s : Spot) (begun : List ℕ) (items : List ItemView) (x : ℕ) (xs : List ℕ) → is_full begun ≡ u →
    after (on_line s (begun ++ x ∷ []) items) xs ≡ with_reader items (kept s (begun ++ x ∷ []) xs) →
    after (with_reader items (cond u (Faulty s.line (too_long s.start)) (Reading s (begun ++ x ∷ [])))) xs ≡ with_reader items (kept s begun (x ∷ xs))
rest_longer true s begun items x xs h e = after_faulty s.line (too_long s.start) items xs ∙ ap (with_reader items) (sym (kept_full s begun x xs h))
rest_longer false s begun items x xs h e = e ∙ ap (with_reader items) (kept_next s begun x xs h)

after_none_at : (b : Bool) (x : ℕ) (s : Spot) (begun : List ℕ) (items : List ItemView) (xs : List ℕ) (o : Option (List ℕ × List ℕ)) → is_line_end x ≡ b → cond b (Some ([], xs)) (onto x o) ≡ None →
    (o ≡ None → after (on_line s (begun ++ x ∷ []) items) xs ≡ with_reader items (kept s (begun ++ x ∷ []) xs)) →
    after (cond b (after_line s.line items (judged s 1 begun)) (with_reader items (longer s begun x))) xs ≡ with_reader items (kept s begun (x ∷ xs))
unfolding onto
after_none_at true x s begun items xs o e n rest = absurd (cc)
after_none_at false x s begun items xs None e n rest = rest_longer (is_full begun) s begun items x xs refl (rest refl)
after_none_at false x s begun items xs (Some p) e n rest = absurd (cc)

pub after_none : (s : Spot) (begun : List ℕ) (items : List ItemView) (xs : List ℕ) → cut_line xs ≡ None → after (on_line s begun items) xs ≡ with_reader items (kept s begun xs)
unfolding onto
after_none s begun items [] n = ap (with_reader items) (sym (kept_here s begun))
after_none s begun items (x ∷ xs) n = after_none_at (is_line_end x) x s begun items xs (cut_line xs) refl n (λ m. after_none s (begun ++ x ∷ []) items xs m)

some_longer : (u : Bool) (s : Spot) (begun : List ℕ) (items : List ItemView) (x : ℕ) (xs front next : List ℕ) → is_full begun ≡ u →
    after (on_line s (begun ++ x ∷ []) items) xs ≡ after (after_line s.line items (ended s (begun ++ x ∷ []) front)) next →
    after (with_reader items (cond u (Faulty s.line (too_long s.start)) (Reading s (begun ++ x ∷ [])))) xs ≡ after (after_line s.line items (ended s begun (x ∷ front))) next
some_longer true s begun items x xs front next h e =
    after_faulty s.line (too_long s.start) items xs
    ∙ sym (ap (λ (r : Result (Spot × Option ItemView) JobKind). after (after_line s.line items r) next) (ended_full s begun x front h) ∙ after_faulty s.line (too_long s.start) items next)
some_longer false s begun items x xs front next h e = e ∙ ap (λ (r : Result (Spot × Option ItemView) JobKind). after (after_line s.line items r) next) (ended_next s begun x front h)

after_some_at : (b : Bool) (x : ℕ) (s : Spot) (begun : List ℕ) (items : List ItemView) (xs front next : List ℕ) (o : Option (List ℕ × List ℕ)) → cond b (Some ([], xs)) (onto x o) ≡ Some (front, next) →
    ((f : List ℕ) → o ≡ Some (f, next) → after (on_line s (begun ++ x ∷ []) items) xs ≡ after (after_line s.line items (ended s (begun ++ x ∷ []) f)) next) →
    after (cond b (after_line s.line items (judged s 1 begun)) (with_reader items (longer s begun x))) xs ≡ after (after_line s.line items (ended s begun front)) next
unfolding onto
after_some_at true x s begun items xs front next o e rest =
    let p = the_same ([], xs) (front, next) e in
    let f : [] ≡ front = ap first_of p in let g : xs ≡ next = ap second_of p in
    rw (← f, ← g, ended_here s begun) refl
after_some_at false x s begun items xs front next None e rest = absurd (cc)
after_some_at false x s begun items xs front next (Some p) e rest =
    let q = the_same (x ∷ p.0, p.1) (front, next) e in
    let f : x ∷ p.0 ≡ front = ap first_of q in let g : p.1 ≡ next = ap second_of q in
    let o : Some p ≡ Some (p.0, next) = ap (λ (z : List ℕ). Some (p.0, z)) g in
    rw (← f) (some_longer (is_full begun) s begun items x xs p.0 next refl (rest p.0 o))

pub after_some : (s : Spot) (begun : List ℕ) (items : List ItemView) (xs front next : List ℕ) → cut_line xs ≡ Some (front, next) →
    after (on_line s begun items) xs ≡ after (after_line s.line items (ended s begun front)) next
unfolding onto
after_some s begun items [] front next e = absurd (cc)
after_some s begun items (x ∷ xs) front next e = after_some_at (is_line_end x) x s begun items xs front next (cut_line xs) e (λ f h. after_some s (begun ++ x ∷ []) items xs f next h)

-- the answer does not depend on how the bytes are cut
pub after_both : (m : Machine) (xs ys : List ℕ) → after m (xs ++ ys) ≡ after (after m xs) ys
after_both m [] ys = refl
after_both m (x ∷ xs) ys = after_both (after_byte m.reader m.items x) xs ys

-- ---- one line of the loop

pub seen_push : (items items2 : List JobItem) (i : JobItem) → items2 ≡ items ++ i ∷ [] → item_views items2 ≡ item_views items ++ item_view i ∷ []
seen_push items items2 i e = rw e (map-append item_view items (i ∷ []))

pub fed_item : (s : Spot) (begun begun2 : List ℕ) (items items2 : List JobItem) (xs front next : List ℕ) (whole : Machine) (x : Spot) (o : Option JobItem) (i : JobItem) →
    Some (front, next) ≡ cut_line xs → ended s begun front ≡ Ok (x, option_map item_view o) → begun2 ≡ [] → o ≡ Some i → items2 ≡ items ++ i ∷ [] →
    after (on_line s begun (item_views items)) xs ≡ whole → after (on_line x begun2 (item_views items2)) next ≡ whole
fed_item s begun begun2 items items2 xs front next whole x o i c j b h n w =
    rw (b, seen_push items items2 i n) (rw (after_some s begun (item_views items) xs front next (sym c), j, h) at w)

pub fed_blank : (s : Spot) (begun begun2 : List ℕ) (items : List ItemView) (xs front next : List ℕ) (whole : Machine) (x : Spot) (o : Option JobItem) →
    Some (front, next) ≡ cut_line xs → ended s begun front ≡ Ok (x, option_map item_view o) → begun2 ≡ [] → o ≡ None →
    after (on_line s begun items) xs ≡ whole → after (on_line x begun2 items) next ≡ whole
fed_blank s begun begun2 items xs front next whole x o c j b h w =
    rw b (rw (after_some s begun items xs front next (sym c), j, h) at w)

pub fed_fault : (s : Spot) (begun : List ℕ) (items : List ItemView) (xs front next : List ℕ) (whole : Machine) (f : JobKind) →
    Some (front, next) ≡ cut_line xs → ended s begun front ≡ Err f →
    after (on_line s begun items) xs ≡ whole → record { reader = Faulty s.line f; items = items } ≡ whole
fed_fault s begun items xs front next whole f c j w =
    sym (after_faulty s.line f items next) ∙ (rw (after_some s begun items xs front next (sym c), j) at w)

pub fed_rest : (s : Spot) (begun : List ℕ) (items : List ItemView) (xs : List ℕ) (whole : Machine) (r : Reader) →
    None ≡ cut_line xs → r ≡ kept s begun xs →
    after (on_line s begun items) xs ≡ whole → with_reader items r ≡ whole
fed_rest s begun items xs whole r c k w = rw k (sym (after_none s begun items xs (sym c)) ∙ w)
