-- How far a reader can come without a fault.
use Rattle.std.proofs.Common.{◌≡◌, ℕ, suc, ◌+◌, ◌<◌, ◌≤◌, List, [], ◌∷◌, ◌++◌, length, refl, arith, ap, sym, ◌∙◌, Bool, true, false, cond}
use Rattle.std.specs.Prelude.{Option, Some, None, Result, Ok, Err, codes, min, nat_lt}
use Rattle.std.proofs.lemmas.List.{length-append}
use Rattle.std.proofs.lemmas.Bool.{leb-false}
use Rattle.serde_json.specs.Data.{Data}
use Rattle.ks_plan.specs.Drafts.{DraftView}
use Rattle.ks_job_record.specs.declared.fault.JobKind.{JobKind}
use Rattle.ks_job_record.specs.declared.fault.JobKind.TheVariants.{TooMany, NotJson, LineTooLong}
use Rattle.ks_job_record.specs.declared.record.Input.{Input}
use Rattle.ks_job_record.specs.Gives.{◌>>=◌, some_or}
use Rattle.ks_job_record.specs.Record.{input_from}
use Rattle.ks_job_topology.specs.Topology.{topology_from, names_of}
use Rattle.ks_job.specs.Items.{ItemView, TopologyAt, RecordTo}
use Rattle.ks_job.specs.Lines.{Spot, parsed, passes, is_too_long, is_blank, next_line, topology_line, record_line, value_line, data_line, judged, too_long}
use Rattle.ks_job.specs.Reader.{Reader, Reading, Faulty, Machine, is_line_end, is_full, longer, after, after_byte, after_line, so_far, start}
use Rattle.ks_job.specs.Phases.{IsFaulty}
use Rattle.ks_job.proofs.Cuts.{with_reader}

abbrev pub Line : Type 0
Line = Spot × Option ItemView

abbrev pub line_or : Line → Result Line JobKind → Line
line_or d (Ok x) = x
line_or d (Err e) = d

abbrev pub read_as : Line → Result Line JobKind
read_as x = Ok x

the_same : (x y : Line) → read_as x ≡ read_as y → x ≡ y
the_same x y e = ap (line_or x) e

-- ---- where a line ends

topology_end : (s : Spot) (size : ℕ) (r : Result DraftView JobKind) (x : Line) →
    (r >>= λ draft. Ok (record { line = s.line + 1; start = s.start + size; topics = Some (names_of draft.topics); records = s.records }, Some (TopologyAt s.line draft))) ≡ Ok x →
    x.0.start ≡ s.start + size
topology_end s size (Ok d) x h = ap (λ (y : Line). y.0.start) (sym (the_same _ x h))
topology_end s size (Err e) x h = absurd (cc)

counted_end : (s : Spot) (size : ℕ) (b : Bool) (y x : Line) (e : JobKind) → y.0.start ≡ s.start + size → cond b (Ok y) (Err e) ≡ Ok x → x.0.start ≡ s.start + size
counted_end s size true y x e k h = ap (λ (y : Line). y.0.start) (sym (the_same _ x h)) ∙ k
counted_end s size false y x e k h = absurd (cc)

record_end : (s : Spot) (size : ℕ) (topics : List (List ℕ)) (r : Result Input JobKind) (x : Line) →
    (r >>= λ input. cond (nat_lt s.records 250000) (Ok (record { line = s.line + 1; start = s.start + size; topics = Some topics; records = s.records + 1 }, Some (RecordTo input.topic input.rec))) (Err (TooMany (codes "records") 250000))) ≡ Ok x →
    x.0.start ≡ s.start + size
record_end s size topics (Ok i) x h = counted_end s size (nat_lt s.records 250000) _ x _ refl h
record_end s size topics (Err e) x h = absurd (cc)

value_end : (o : Option (List (List ℕ))) (s : Spot) (size : ℕ) (d : Data) (x : Line) → value_line o s size d ≡ Ok x → x.0.start ≡ s.start + size
unfolding topology_line record_line
value_end None s size d x h = topology_end s size (topology_from d) x h
value_end (Some topics) s size d x h = record_end s size topics (input_from topics d) x h

data_end_at : (s : Spot) (size : ℕ) (r : Result Data JobKind) (x : Line) → (r >>= λ d. value_line s.topics s size d) ≡ Ok x → x.0.start ≡ s.start + size
data_end_at s size (Ok d) x h = value_end s.topics s size d x h
data_end_at s size (Err e) x h = absurd (cc)

data_end : (s : Spot) (size : ℕ) (line : List ℕ) (x : Line) → data_line s size line ≡ Ok x → x.0.start ≡ s.start + size
unfolding data_line
data_end s size line x h = data_end_at s size (some_or NotJson (parsed line)) x h

blank_end : (b : Bool) (s : Spot) (size : ℕ) (line : List ℕ) (x : Line) → cond b (Ok (next_line s size, None)) (data_line s size line) ≡ Ok x → x.0.start ≡ s.start + size
blank_end true s size line x h = ap (λ (y : Line). y.0.start) (sym (the_same _ x h))
blank_end false s size line x h = data_end s size line x h

-- a line that has no fault ends where the limit of the input lets it
pub record Ends (s : Spot) (size : ℕ) (x : Line) : Type 0 where
  pub start : x.0.start ≡ s.start + size
  pub within : x.0.start ≤ 67108864

not_past : (start size : ℕ) → size ≤ 65537 → passes start size ≡ false → start + size ≤ 67108864
unfolding passes
not_past start size k h =
    let e : min 65537 size ≡ size = omega arith in
    let l : start + min 65537 size < 67108865 = leb-false 67108865 (start + min 65537 size) h in
    omega arith

short : (line : List ℕ) → is_too_long line ≡ false → length line ≤ 65536
unfolding is_too_long
short line h = let l : length line < 65537 = leb-false 65537 (length line) h in omega arith

ends_at : (b t : Bool) (s : Spot) (line : List ℕ) (x : Line) → passes s.start (length line + 1) ≡ b → is_too_long line ≡ t →
    cond b (Err (TooMany (codes "bytes") 67108864)) (cond t (Err LineTooLong) (cond (is_blank line) (Ok (next_line s (length line + 1), None)) (data_line s (length line + 1) line))) ≡ Ok x →
    Ends s (length line + 1) x
ends_at true t s line x p q h = absurd (cc)
ends_at false true s line x p q h = absurd (cc)
ends_at false false s line x p q h =
    let l = short line q in
    let e = blank_end (is_blank line) s (length line + 1) line x h in
    let n = not_past s.start (length line + 1) (omega arith) p in
    record { start = e; within = rw e n }

judged_ends : (s : Spot) (line : List ℕ) (x : Line) → judged s 1 line ≡ Ok x → Ends s (length line + 1) x
unfolding judged
judged_ends s line x h = ends_at (passes s.start (length line + 1)) (is_too_long line) s line x refl refl h

-- ---- where a reader stands

-- a line's start and its bytes so far are the bytes read
pub record Stands (s : Spot) (begun : List ℕ) (n : ℕ) : Type 0 where
  pub read : s.start + length begun ≡ n
  pub within : s.start ≤ 67108864
  pub short : length begun ≤ 65536

abbrev pub At : Reader → ℕ → Type 0
At (Reading s begun) n = Stands s begun n
At (Faulty l k) n = Unit {0}

at_line : (l : ℕ) (items : List ItemView) (s : Spot) (line : List ℕ) (n : ℕ) (r : Result Line JobKind) → judged s 1 line ≡ r → s.start + length line ≡ n → At (after_line l items r).reader (n + 1)
at_line l items s line n (Ok x) h e = let k = judged_ends s line x h in record { read = rw (k.start) (omega arith); within = k.within; short = omega arith }
at_line l items s line n (Err f) h e = tt

at_longer : (u : Bool) (s : Spot) (begun : List ℕ) (x n : ℕ) → is_full begun ≡ u → Stands s begun n → At (cond u (Faulty s.line (too_long s.start)) (Reading s (begun ++ x ∷ []))) (n + 1)
unfolding is_full
at_longer true s begun x n h k = tt
at_longer false s begun x n h k =
    let l : length begun < 65536 = leb-false 65536 (length begun) h in
    let e : length (begun ++ x ∷ []) ≡ length begun + 1 = length-append begun (x ∷ []) in
    let r = k.read in
    record { read = omega arith; within = k.within; short = omega arith }

at_byte_at : (b : Bool) (s : Spot) (begun : List ℕ) (items : List ItemView) (x n : ℕ) → Stands s begun n → At (cond b (after_line s.line items (judged s 1 begun)) (with_reader items (longer s begun x))).reader (n + 1)
at_byte_at true s begun items x n k = at_line s.line items s begun n (judged s 1 begun) refl k.read
at_byte_at false s begun items x n k = at_longer (is_full begun) s begun x n refl k

at_byte : (r : Reader) (items : List ItemView) (x n : ℕ) → At r n → At (after_byte r items x).reader (n + 1)
at_byte (Reading s begun) items x n k = at_byte_at (is_line_end x) s begun items x n k
at_byte (Faulty l f) items x n k = tt

at_bytes : (m : Machine) (n : ℕ) (xs : List ℕ) → At m.reader n → At (after m xs).reader (n + length xs)
at_bytes m n [] k = let e : n + 0 ≡ n = omega arith in rw e k
at_bytes m n (x ∷ xs) k =
    let e : n + suc (length xs) ≡ (n + 1) + length xs = omega arith in
    rw e (at_bytes (after_byte m.reader m.items x) (n + 1) xs (at_byte m.reader m.items x n k))

beyond : (r : Reader) (n : ℕ) → At r n → 67174401 ≤ n → IsFaulty r
beyond (Reading s begun) n k h = let e = k.read in let w = k.within in let l = k.short in absurd (omega arith)
beyond (Faulty l f) n k h = tt

pub reading_ends : (xs : List ℕ) → 67174401 ≤ length xs → IsFaulty (so_far xs).reader
reading_ends xs h = beyond (so_far xs).reader (0 + length xs) (at_bytes (with_reader [] start) 0 xs (record { read = refl; within = omega arith; short = omega arith })) (omega arith)
