-- The number of a topology's line is at most the number of bytes up to its end.
use Rattle.std.proofs.Common.{◌≡◌, ℕ, suc, ◌+◌, ◌≤◌, List, [], ◌∷◌, ◌++◌, length, refl, sym, ap, subst, arith, Bool, true, false, cond}
use Rattle.std.specs.Prelude.{Option, Some, None, Result, Ok, Err, codes, nat_lt}
use Rattle.serde_json.specs.Data.{Data}
use Rattle.ks_plan.specs.Drafts.{DraftView}
use Rattle.ks_job_record.specs.declared.fault.JobKind.{JobKind}
use Rattle.ks_job_record.specs.declared.fault.JobKind.TheVariants.{TooMany, NotJson, LineTooLong}
use Rattle.ks_job_record.specs.declared.record.Input.{Input}
use Rattle.ks_job_record.specs.Gives.{◌>>=◌, some_or}
use Rattle.ks_job_record.specs.Record.{input_from}
use Rattle.ks_job_topology.specs.Topology.{topology_from, names_of}
use Rattle.ks_job.specs.Items.{ItemView, TopologyAt, RecordTo}
use Rattle.ks_job.specs.Lines.{Spot, parsed, passes, is_too_long, is_blank, next_line, topology_line, record_line, value_line, data_line, judged, too_long}
use Rattle.ks_job.specs.Reader.{Reader, Reading, Faulty, Machine, is_line_end, is_full, longer, with_item, after, after_byte, after_line, so_far}

abbrev Line : Type 0
Line = Spot × Option ItemView

abbrev line_or : Line → Result Line JobKind → Line
line_or d (Ok x) = x
line_or d (Err e) = d

abbrev read_as : Line → Result Line JobKind
read_as x = Ok x

the_same : (x y : Line) → read_as x ≡ read_as y → x ≡ y
the_same x y e = ap (line_or x) e

-- ---- one line
-- a topology has the line's number
abbrev HasNumber : ℕ → Option ItemView → Type 0
HasNumber n None = Unit {0}
HasNumber n (Some (TopologyAt line d)) = line ≡ n
HasNumber n (Some (RecordTo t r)) = Unit {0}

record IsNext (s : Spot) (x : Line) : Type 0 where
  line : x.0.line ≡ s.line + 1
  item : HasNumber s.line x.1

topology_next : (s : Spot) (size : ℕ) (r : Result DraftView JobKind) (x : Line) →
    (r >>= λ draft. Ok (record { line = s.line + 1; start = s.start + size; topics = Some (names_of draft.topics); records = s.records }, Some (TopologyAt s.line draft))) ≡ Ok x → IsNext s x
topology_next s size (Ok d) x h = subst (IsNext s) (the_same _ x h) (record { line = refl; item = refl })
topology_next s size (Err e) x h = absurd (cc)

counted_next : (s : Spot) (b : Bool) (y x : Line) (e : JobKind) → IsNext s y → cond b (Ok y) (Err e) ≡ Ok x → IsNext s x
counted_next s true y x e k h = subst (IsNext s) (the_same _ x h) k
counted_next s false y x e k h = absurd (cc)

record_next : (s : Spot) (size : ℕ) (topics : List (List ℕ)) (r : Result Input JobKind) (x : Line) →
    (r >>= λ input. cond (nat_lt s.records 250000) (Ok (record { line = s.line + 1; start = s.start + size; topics = Some topics; records = s.records + 1 }, Some (RecordTo input.topic input.rec))) (Err (TooMany (codes "records") 250000))) ≡ Ok x → IsNext s x
record_next s size topics (Ok i) x h = counted_next s (nat_lt s.records 250000) _ x _ (record { line = refl; item = tt }) h
record_next s size topics (Err e) x h = absurd (cc)

value_next : (o : Option (List (List ℕ))) (s : Spot) (size : ℕ) (d : Data) (x : Line) → value_line o s size d ≡ Ok x → IsNext s x
unfolding topology_line record_line
value_next None s size d x h = topology_next s size (topology_from d) x h
value_next (Some topics) s size d x h = record_next s size topics (input_from topics d) x h

data_next_at : (s : Spot) (size : ℕ) (r : Result Data JobKind) (x : Line) → (r >>= λ d. value_line s.topics s size d) ≡ Ok x → IsNext s x
data_next_at s size (Ok d) x h = value_next s.topics s size d x h
data_next_at s size (Err e) x h = absurd (cc)

data_next : (s : Spot) (size : ℕ) (line : List ℕ) (x : Line) → data_line s size line ≡ Ok x → IsNext s x
unfolding data_line
data_next s size line x h = data_next_at s size (some_or NotJson (parsed line)) x h

blank_next : (b : Bool) (s : Spot) (size : ℕ) (line : List ℕ) (x : Line) → cond b (Ok (next_line s size, None)) (data_line s size line) ≡ Ok x → IsNext s x
blank_next true s size line x h = subst (IsNext s) (the_same _ x h) (record { line = refl; item = tt })
blank_next false s size line x h = data_next s size line x h

next_at : (b t : Bool) (s : Spot) (line : List ℕ) (x : Line) →
    cond b (Err (TooMany (codes "bytes") 67108864)) (cond t (Err LineTooLong) (cond (is_blank line) (Ok (next_line s (length line + 1), None)) (data_line s (length line + 1) line))) ≡ Ok x → IsNext s x
next_at true t s line x h = absurd (cc)
next_at false true s line x h = absurd (cc)
next_at false false s line x h = blank_next (is_blank line) s (length line + 1) line x h

judged_next : (s : Spot) (line : List ℕ) (x : Line) → judged s 1 line ≡ Ok x → IsNext s x
unfolding judged
judged_next s line x h = next_at (passes s.start (length line + 1)) (is_too_long line) s line x h

-- ---- a reader behind so many bytes
abbrev Within : ItemView → ℕ → Type 0
Within (TopologyAt line d) n = line ≤ n
Within (RecordTo t r) n = Unit {0}

abbrev AllWithin : List ItemView → ℕ → Type 0
AllWithin [] n = Unit {0}
AllWithin (i ∷ is) n = Within i n × AllWithin is n

abbrev At : Reader → ℕ → Type 0
At (Reading s begun) n = s.line ≤ n + 1
At (Faulty l k) n = Unit {0}

abbrev IsNumbered : Machine → ℕ → Type 0
IsNumbered m n = At m.reader n × AllWithin m.items n

within_more : (i : ItemView) (n : ℕ) → Within i n → Within i (n + 1)
within_more (TopologyAt line d) n h = omega arith
within_more (RecordTo t r) n h = tt

all_more : (is : List ItemView) (n : ℕ) → AllWithin is n → AllWithin is (n + 1)
all_more [] n h = tt
all_more (i ∷ is) n h = (within_more i n h.0, all_more is n h.1)

all_both : (is js : List ItemView) (n : ℕ) → AllWithin is n → AllWithin js n → AllWithin (is ++ js) n
all_both [] js n h g = g
all_both (i ∷ is) js n h g = (h.0, all_both is js n h.1 g)

with_all : (is : List ItemView) (o : Option ItemView) (k n : ℕ) → AllWithin is n → HasNumber k o → k ≤ n → AllWithin (with_item is o) n
with_all is None k n h g l = h
with_all is (Some (TopologyAt line d)) k n h g l = all_both is (TopologyAt line d ∷ []) n h ((let e : line ≡ k = g in omega arith), tt)
with_all is (Some (RecordTo t r)) k n h g l = all_both is (RecordTo t r ∷ []) n h (tt, tt)

line_numbered : (l : ℕ) (is : List ItemView) (s : Spot) (line : List ℕ) (n : ℕ) (r : Result Line JobKind) → judged s 1 line ≡ r → s.line ≤ n + 1 → AllWithin is n → IsNumbered (after_line l is r) (n + 1)
line_numbered l is s line n (Ok x) h e g =
    let k = judged_next s line x h in
    let a = k.line in (omega arith, with_all is x.1 s.line (n + 1) (all_more is n g) k.item (omega arith))
line_numbered l is s line n (Err f) h e g = (tt, all_more is n g)

longer_at : (u : Bool) (s : Spot) (begun : List ℕ) (x n : ℕ) → s.line ≤ n + 1 → At (cond u (Faulty s.line (too_long s.start)) (Reading s (begun ++ x ∷ []))) (n + 1)
longer_at true s begun x n h = tt
longer_at false s begun x n h = omega arith

byte_at : (b : Bool) (s : Spot) (begun : List ℕ) (is : List ItemView) (x n : ℕ) → s.line ≤ n + 1 → AllWithin is n → IsNumbered (cond b (after_line s.line is (judged s 1 begun)) (record { reader = longer s begun x; items = is })) (n + 1)
byte_at true s begun is x n h g = line_numbered s.line is s begun n (judged s 1 begun) refl h g
byte_at false s begun is x n h g = (longer_at (is_full begun) s begun x n h, all_more is n g)

byte_numbered : (r : Reader) (is : List ItemView) (x n : ℕ) → At r n → AllWithin is n → IsNumbered (after_byte r is x) (n + 1)
byte_numbered (Reading s begun) is x n h g = byte_at (is_line_end x) s begun is x n h g
byte_numbered (Faulty l f) is x n h g = (tt, all_more is n g)

numbered_after : (m : Machine) (n : ℕ) (xs : List ℕ) → IsNumbered m n → IsNumbered (after m xs) (n + length xs)
numbered_after m n [] h = let e : n ≡ n + 0 = omega arith in subst (IsNumbered m) e h
numbered_after m n (x ∷ xs) h =
    let e : (n + 1) + length xs ≡ n + suc (length xs) = omega arith in
    subst (IsNumbered (after m (x ∷ xs))) e (numbered_after (after_byte m.reader m.items x) (n + 1) xs (byte_numbered m.reader m.items x n h.0 h.1))

pub few_lines : (bytes : List ℕ) (line : ℕ) (d : DraftView) → (so_far bytes).items ≡ TopologyAt line d ∷ [] → line ≤ length bytes
few_lines bytes line d e =
    let h : IsNumbered (so_far bytes) (0 + length bytes) = numbered_after (so_far []) 0 bytes (omega arith, tt) in
    let g = subst (λ is. AllWithin is (0 + length bytes)) e h.1 in
    omega (arith, g.0)
