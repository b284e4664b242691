-- The machine over bytes is the judgement of lines.
use Rattle.std.proofs.Common.{◌≡◌, ℕ, ◌+◌, ◌<◌, ◌≤◌, List, [], ◌∷◌, ◌++◌, length, refl, arith, ap, sym, ◌∙◌, Bool, true, false, cond}
use Rattle.std.specs.Prelude.{Option, Result, Ok, Err, codes, min}
use Rattle.std.proofs.lemmas.List.{length-append}
use Rattle.std.proofs.lemmas.Bool.{le-leb, lt-leb, leb-true, leb-false}
use Rattle.ks_job_record.specs.declared.fault.JobKind.{JobKind}
use Rattle.ks_job_record.specs.declared.fault.JobKind.TheVariants.{TooMany, LineTooLong}
use Rattle.ks_job.specs.Items.{ItemView}
use Rattle.ks_job.specs.Lines.{Spot, judged, passes, is_too_long, too_long}
use Rattle.ks_job.specs.Reader.{Reading, Faulty, Machine, is_line_end, is_full, longer, after, after_line, with_item, so_far}
use Rattle.ks_job.specs.ByLines.{onto_lines, lines_from, judge_lines, and_lines, begun_line, first_spot, by_lines}
use Rattle.ks_job.proofs.Cuts.{on_line, with_reader, stopped, after_faulty}

-- ---- lines that are too long

abbrev pub fault_at : Bool → JobKind
fault_at b = cond b (TooMany (codes "bytes") 67108864) LineTooLong

both_long : (b : Bool) (t : Bool) (r : Result (Spot × Option ItemView) JobKind) → t ≡ true → cond b (Err (TooMany (codes "bytes") 67108864)) (cond t (Err LineTooLong) r) ≡ Err (fault_at b)
both_long true t r h = refl
both_long false t r h = rw h refl

same_passes : (start m n : ℕ) → 65537 ≤ m → 65537 ≤ n → passes start m ≡ passes start n
unfolding passes
same_passes start m n h k =
    let e : min 65537 m ≡ 65537 = omega arith in
    let f : min 65537 n ≡ 65537 = omega arith in
    rw (e, f) refl

judged_long : (s : Spot) (end : ℕ) (line : List ℕ) → is_too_long line ≡ true → judged s end line ≡ Err (too_long s.start)
unfolding judged too_long is_too_long
judged_long s end line h =
    let l : 65536 < length line = leb-true 65537 (length line) h in
    both_long (passes s.start (length line + end)) _ _ h ∙ ap (λ (b : Bool). Err (fault_at b)) (same_passes s.start (length line + end) 65537 (omega arith) (omega arith))

long_next : (begun : List ℕ) (x : ℕ) → is_too_long begun ≡ true → is_too_long (begun ++ x ∷ []) ≡ true
unfolding is_too_long
long_next begun x h =
    let l : 65537 ≤ length begun = leb-true 65537 (length begun) h in
    let n : length (begun ++ x ∷ []) ≡ length begun + 1 = length-append begun (x ∷ []) in
    le-leb 65537 (length (begun ++ x ∷ [])) (omega arith)

full_long : (begun : List ℕ) (x : ℕ) → is_full begun ≡ true → is_too_long (begun ++ x ∷ []) ≡ true
unfolding is_too_long is_full
full_long begun x h =
    let l : 65536 ≤ length begun = leb-true 65536 (length begun) h in
    let n : length (begun ++ x ∷ []) ≡ length begun + 1 = length-append begun (x ∷ []) in
    le-leb 65537 (length (begun ++ x ∷ [])) (omega arith)

not_full_short : (begun : List ℕ) (x : ℕ) → is_full begun ≡ false → is_too_long (begun ++ x ∷ []) ≡ false
unfolding is_too_long is_full
not_full_short begun x h =
    let l : length begun < 65536 = leb-false 65536 (length begun) h in
    let n : length (begun ++ x ∷ []) ≡ length begun + 1 = length-append begun (x ∷ []) in
    lt-leb 65537 (length (begun ++ x ∷ [])) (omega arith)

nothing_short : is_too_long [] ≡ false
unfolding is_too_long
nothing_short = lt-leb 65537 0 (omega arith)

begun_is : (s : Spot) (b : Bool) (rest : List ℕ) → is_too_long rest ≡ b → begun_line s rest ≡ cond b (Faulty s.line (too_long s.start)) (Reading s rest)
begun_is s b rest h = rw h refl

abbrev pub judge_from : Spot → List ItemView → List (List ℕ) × List ℕ → Machine
judge_from s items p = judge_lines s items p.0 p.1

long_at : (b : Bool) (s : Spot) (begun : List ℕ) (items : List ItemView) (x : ℕ) (xs : List ℕ) → is_too_long begun ≡ true →
    judge_from s items (lines_from (begun ++ x ∷ []) xs) ≡ stopped s.line (too_long s.start) items →
    judge_from s items (cond b (onto_lines begun (lines_from [] xs)) (lines_from (begun ++ x ∷ []) xs)) ≡ stopped s.line (too_long s.start) items
long_at true s begun items x xs h rest = ap (λ (r : Result (Spot × Option ItemView) JobKind). and_lines s.line items r (λ t more. judge_lines t more (lines_from [] xs).0 (lines_from [] xs).1)) (judged_long s 1 begun h)
long_at false s begun items x xs h rest = rest

long_lines : (s : Spot) (begun : List ℕ) (items : List ItemView) (xs : List ℕ) → is_too_long begun ≡ true → judge_from s items (lines_from begun xs) ≡ stopped s.line (too_long s.start) items
long_lines s begun items [] h = ap (with_reader items) (begun_is s true begun h)
long_lines s begun items (x ∷ xs) h = long_at (is_line_end x) s begun items x xs h (long_lines s (begun ++ x ∷ []) items xs (long_next begun x h))

-- ---- line by line

ended : (n : ℕ) (items : List ItemView) (xs : List ℕ) (p : List (List ℕ) × List ℕ) (r : Result (Spot × Option ItemView) JobKind) →
    ((s : Spot) (more : List ItemView) → after (on_line s [] more) xs ≡ judge_from s more p) →
    after (after_line n items r) xs ≡ and_lines n items r (λ t more. judge_lines t more p.0 p.1)
ended n items xs p (Ok x) rest = rest x.0 (with_item items x.1)
ended n items xs p (Err f) rest = after_faulty n f items xs

by_longer : (u : Bool) (x : ℕ) (s : Spot) (begun : List ℕ) (items : List ItemView) (xs : List ℕ) → is_full begun ≡ u →
    ((t : Spot) (front : List ℕ) (more : List ItemView) → is_too_long front ≡ false → after (on_line t front more) xs ≡ judge_from t more (lines_from front xs)) →
    after (with_reader items (cond u (Faulty s.line (too_long s.start)) (Reading s (begun ++ x ∷ [])))) xs ≡ judge_from s items (lines_from (begun ++ x ∷ []) xs)
by_longer true x s begun items xs h rest = after_faulty s.line (too_long s.start) items xs ∙ sym (long_lines s (begun ++ x ∷ []) items xs (full_long begun x h))
by_longer false x s begun items xs h rest = rest s (begun ++ x ∷ []) items (not_full_short begun x h)

by_byte : (b : Bool) (x : ℕ) (s : Spot) (begun : List ℕ) (items : List ItemView) (xs : List ℕ) →
    ((t : Spot) (front : List ℕ) (more : List ItemView) → is_too_long front ≡ false → after (on_line t front more) xs ≡ judge_from t more (lines_from front xs)) →
    after (cond b (after_line s.line items (judged s 1 begun)) (with_reader items (longer s begun x))) xs
    ≡ judge_from s items (cond b (onto_lines begun (lines_from [] xs)) (lines_from (begun ++ x ∷ []) xs))
by_byte true x s begun items xs rest = ended s.line items xs (lines_from [] xs) (judged s 1 begun) (λ t more. rest t [] more nothing_short)
by_byte false x s begun items xs rest = by_longer (is_full begun) x s begun items xs refl rest

by_lines_at : (s : Spot) (begun : List ℕ) (items : List ItemView) (xs : List ℕ) → is_too_long begun ≡ false → after (on_line s begun items) xs ≡ judge_from s items (lines_from begun xs)
by_lines_at s begun items [] h = ap (with_reader items) (sym (begun_is s false begun h))
by_lines_at s begun items (x ∷ xs) h = by_byte (is_line_end x) x s begun items xs (λ t front more k. by_lines_at t front more xs k)

pub by_lines_so_far : (xs : List ℕ) → so_far xs ≡ by_lines xs
by_lines_so_far xs = by_lines_at first_spot [] [] xs nothing_short
