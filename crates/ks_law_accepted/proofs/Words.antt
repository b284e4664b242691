-- The names that a topology line prints are words.
use Rattle.std.proofs.Common.{◌≡◌, ℕ, ◌+◌, ◌<◌, ◌≤◌, ◌==◌, ◌&&◌, ◌||◌, nat_le, arith, List, [], ◌∷◌, ◌++◌, length, Bool, true, false, cond, not, refl, ap, subst, ⊎_elim}
use Rattle.std.specs.Prelude.{Option, Some, None, Result, Ok, Err, codes, nat_lt}
use Rattle.std.specs.Str.{IsAscii}
use Rattle.std.proofs.lemmas.Str.Ascii.{IsAscii-nil, IsAscii-cons}
use Rattle.std.specs.List.{AllByRecursion, list_all}
use Rattle.std.proofs.lemmas.Bool.{and_parts, or_cases, leb-true, eqb-true}
use Rattle.std.proofs.lemmas.Str.{IsUtf8-from_ascii}
use Rattle.serde_json.specs.Data.{Data}
use Rattle.ks_expr.specs.Eval.{same_bytes}
use Rattle.ks_plan.specs.Drafts.{Name, NodeView, DraftView}
use Rattle.ks_plan.specs.Faults.{fault_of, has_name, names_of as node_names, nodes_fault, print_lines, printed_fault, print_fault, size_lines, first_fitting, wiring_in}
use Rattle.ks_plan.specs.declared.fault.TopoFault.TheVariants.{UnknownInput, DuplicateName, WrongKind}
use Rattle.ks_plan.specs.Plan.{gives_stream, known_from}
use Rattle.ks_def_runs.specs.Bytes.{by_bytes}
use Rattle.ks_def_runs.proofs.Tables.{equal}
use Rattle.ks_law_kinds.proofs.Stores.{bytes_anti}
use Rattle.ks_law_settled.proofs.Printed.{none_of, not_first, of_not}
use Rattle.ks_job_record.specs.declared.fault.JobKind.{JobKind}
use Rattle.ks_job_record.specs.declared.fault.JobKind.TheVariants.{TooMany, NotJson, LineTooLong}
use Rattle.ks_job_record.specs.declared.record.Input.{Input}
use Rattle.ks_job_record.specs.Gives.{◌>>=◌, some_or}
use Rattle.ks_job_record.specs.Record.{input_from}
use Rattle.ks_job_topology.specs.Labels.{is_word_byte}
use Rattle.ks_job_topology.specs.Topology.{topology_from, names_of}
use Rattle.ks_job.specs.Items.{ItemView, TopologyAt, RecordTo}
use Rattle.ks_job.specs.Lines.{Spot, parsed, passes, is_too_long, is_blank, next_line, topology_line, record_line, value_line, data_line, judged}
use Rattle.ks_job.specs.Reader.{Reader, Reading, Faulty, Machine, is_line_end, longer, with_item, after, after_byte, after_line, so_far}
use Rattle.ks_job_source.specs.Cutting.{HasNoEnd}
use Rattle.ks_law_accepted.specs.Accepted.{IsWord}
use Rattle.ks_law_accepted.proofs.NodeNames.{IsWordy, AreWordy, topology_wordy}

-- ---- one line
abbrev Line : Type 0
Line = Spot × Option ItemView

abbrev line_or : Line → Result Line JobKind → Line
line_or d (Ok x) = x
line_or d (Err e) = d

abbrev read_as : Line → Result Line JobKind
read_as x = Ok x

the_same : (x y : Line) → read_as x ≡ read_as y → x ≡ y
the_same x y e = ap (line_or x) e

abbrev Wordy : ItemView → Type 0
Wordy (TopologyAt line d) = AreWordy d.nodes
Wordy (RecordTo t r) = Unit {0}

abbrev MayBe : Option ItemView → Type 0
MayBe None = Unit {0}
MayBe (Some i) = Wordy i

topology_next : (s : Spot) (size : ℕ) (r : Result DraftView JobKind) (x : Line) → ((d : DraftView) → r ≡ Ok d → AreWordy d.nodes) →
    (r >>= λ draft. Ok (record { line = s.line + 1; start = s.start + size; topics = Some (names_of draft.topics); records = s.records }, Some (TopologyAt s.line draft))) ≡ Ok x → MayBe x.1
topology_next s size (Ok d) x w h = subst (λ (y : Line). MayBe y.1) (the_same _ x h) (w d refl)
topology_next s size (Err e) x w h = absurd (cc)

counted_next : (b : Bool) (y x : Line) (e : JobKind) → MayBe y.1 → cond b (Ok y) (Err e) ≡ Ok x → MayBe x.1
counted_next true y x e k h = subst (λ (z : Line). MayBe z.1) (the_same y x h) k
counted_next false y x e k h = absurd (cc)

record_next : (s : Spot) (size : ℕ) (topics : List (List ℕ)) (r : Result Input JobKind) (x : Line) →
    (r >>= λ input. cond (nat_lt s.records 250000) (Ok (record { line = s.line + 1; start = s.start + size; topics = Some topics; records = s.records + 1 }, Some (RecordTo input.topic input.rec))) (Err (TooMany (codes "records") 250000))) ≡ Ok x → MayBe x.1
record_next s size topics (Ok i) x h = counted_next (nat_lt s.records 250000) _ x _ tt h
record_next s size topics (Err e) x h = absurd (cc)

value_next : (o : Option (List (List ℕ))) (s : Spot) (size : ℕ) (d : Data) (x : Line) → value_line o s size d ≡ Ok x → MayBe x.1
unfolding topology_line record_line
value_next None s size d x h = topology_next s size (topology_from d) x (topology_wordy d) h
value_next (Some topics) s size d x h = record_next s size topics (input_from topics d) x h

data_next_at : (s : Spot) (size : ℕ) (r : Result Data JobKind) (x : Line) → (r >>= λ d. value_line s.topics s size d) ≡ Ok x → MayBe x.1
data_next_at s size (Ok d) x h = value_next s.topics s size d x h
data_next_at s size (Err e) x h = absurd (cc)

data_next : (s : Spot) (size : ℕ) (line : List ℕ) (x : Line) → data_line s size line ≡ Ok x → MayBe x.1
unfolding data_line
data_next s size line x h = data_next_at s size (some_or NotJson (parsed line)) x h

blank_next : (b : Bool) (s : Spot) (size : ℕ) (line : List ℕ) (x : Line) → cond b (Ok (next_line s size, None)) (data_line s size line) ≡ Ok x → MayBe x.1
blank_next true s size line x h = subst (λ (z : Line). MayBe z.1) (the_same _ x h) tt
blank_next false s size line x h = data_next s size line x h

next_at : (b t : Bool) (s : Spot) (line : List ℕ) (x : Line) →
    cond b (Err (TooMany (codes "bytes") 67108864)) (cond t (Err LineTooLong) (cond (is_blank line) (Ok (next_line s (length line + 1), None)) (data_line s (length line + 1) line))) ≡ Ok x → MayBe x.1
next_at true t s line x h = absurd (cc)
next_at false true s line x h = absurd (cc)
next_at false false s line x h = blank_next (is_blank line) s (length line + 1) line x h

judged_next : (s : Spot) (line : List ℕ) (x : Line) → judged s 1 line ≡ Ok x → MayBe x.1
unfolding judged
judged_next s line x h = next_at (passes s.start (length line + 1)) (is_too_long line) s line x h

-- ---- a reader
abbrev AllWordy : List ItemView → Type 0
AllWordy [] = Unit {0}
AllWordy (i ∷ is) = Wordy i × AllWordy is

all_both : (is js : List ItemView) → AllWordy is → AllWordy js → AllWordy (is ++ js)
all_both [] js h g = g
all_both (i ∷ is) js h g = (h.0, all_both is js h.1 g)

with_all : (is : List ItemView) (o : Option ItemView) → AllWordy is → MayBe o → AllWordy (with_item is o)
with_all is None h g = h
with_all is (Some i) h g = all_both is (i ∷ []) h (g, tt)

line_wordy : (l : ℕ) (is : List ItemView) (s : Spot) (line : List ℕ) (r : Result Line JobKind) → judged s 1 line ≡ r → AllWordy is → AllWordy (after_line l is r).items
line_wordy l is s line (Ok x) h g = with_all is x.1 g (judged_next s line x h)
line_wordy l is s line (Err f) h g = g

byte_at : (b : Bool) (s : Spot) (begun : List ℕ) (is : List ItemView) (x : ℕ) → AllWordy is → AllWordy (cond b (after_line s.line is (judged s 1 begun)) (record { reader = longer s begun x; items = is })).items
byte_at true s begun is x g = line_wordy s.line is s begun (judged s 1 begun) refl g
byte_at false s begun is x g = g

byte_wordy : (r : Reader) (is : List ItemView) (x : ℕ) → AllWordy is → AllWordy (after_byte r is x).items
byte_wordy (Reading s begun) is x g = byte_at (is_line_end x) s begun is x g
byte_wordy (Faulty l f) is x g = g

after_wordy : (m : Machine) (xs : List ℕ) → AllWordy m.items → AllWordy (after m xs).items
after_wordy m [] h = h
after_wordy m (x ∷ xs) h = after_wordy (after_byte m.reader m.items x) xs (byte_wordy m.reader m.items x h)

nodes_of_line : (bytes : List ℕ) (line : ℕ) (d : DraftView) → (so_far bytes).items ≡ TopologyAt line d ∷ [] → AreWordy d.nodes
nodes_of_line bytes line d e = (subst AllWordy e (after_wordy (so_far []) bytes tt)).0

-- ---- a name among them is a word
record IsPlainByte (x : ℕ) : Type 0 where
  ascii : x < 128
  no_end : is_line_end x ≡ false

not_ten : (x : ℕ) → (x ≡ 10 → ⊥) → (x == 10) ≡ false
not_ten x h = by (x == 10) refl
  where
    by : (b : Bool) → (x == 10) ≡ b → b ≡ false
    by true e = absurd (h (eqb-true x 10 e))
    by false e = refl

within : (low high x : ℕ) → (nat_le low x && nat_le x high) ≡ true → 10 < low → high < 128 → IsPlainByte x
within low high x h l m =
    let both = and_parts (nat_le low x) (nat_le x high) h in
    let below : low ≤ x = leb-true low x both.0 in
    let above : x ≤ high = leb-true x high both.1 in
    record { ascii = omega (arith, above, m); no_end = not_ten x (λ e. omega (arith, below, l, e)) }

plain_byte : (x : ℕ) → is_word_byte x ≡ true → IsPlainByte x
plain_byte x h = ⊎_elim
    (λ (r : ((nat_le 48 x && nat_le x 57) || (nat_le 65 x && nat_le x 90) || (nat_le 97 x && nat_le x 122)) ≡ true).
    ⊎_elim
    (λ (q : ((nat_le 48 x && nat_le x 57) || (nat_le 65 x && nat_le x 90)) ≡ true).
    ⊎_elim
    (λ (a : (nat_le 48 x && nat_le x 57) ≡ true). within 48 57 x a (omega arith) (omega arith))
    (λ (b : (nat_le 65 x && nat_le x 90) ≡ true). within 65 90 x b (omega arith) (omega arith))
    (or_cases (nat_le 48 x && nat_le x 57) (nat_le 65 x && nat_le x 90) q))
    (λ (c : (nat_le 97 x && nat_le x 122) ≡ true). within 97 122 x c (omega arith) (omega arith))
    (or_cases ((nat_le 48 x && nat_le x 57) || (nat_le 65 x && nat_le x 90)) (nat_le 97 x && nat_le x 122) r))
    (λ (u : (x == 95) ≡ true). let is : x ≡ 95 = eqb-true x 95 u in record { ascii = omega (arith, is); no_end = not_ten x (λ e. omega (arith, is, e)) })
    (or_cases ((nat_le 48 x && nat_le x 57) || (nat_le 65 x && nat_le x 90) || (nat_le 97 x && nat_le x 122)) (x == 95) h)

ascii_name : (name : Name) → IsWordy name → IsAscii name
ascii_name [] h = IsAscii-nil
ascii_name (x ∷ xs) h = let both = and_parts (is_word_byte x) (list_all is_word_byte xs) h in IsAscii-cons x xs (plain_byte x both.0).ascii (ascii_name xs both.1)

no_end : (name : Name) → IsWordy name → HasNoEnd name
no_end [] h = tt
no_end (x ∷ xs) h = let both = and_parts (is_word_byte x) (list_all is_word_byte xs) h in ((plain_byte x both.0).no_end, no_end xs both.1)

word_of : (name : Name) → IsWordy name → IsWord name
word_of name h = (IsUtf8-from_ascii name (ascii_name name h), no_end name h)

named : (ns : List NodeView) (name : Name) → AreWordy ns → has_name (node_names ns) name ≡ true → IsWordy name
named [] name w h = absurd (cc)
named (n ∷ ns) name w h = ⊎_elim
    (λ (e : same_bytes n.name name ≡ true). subst IsWordy (bytes_anti n.name name (equal (by_bytes n.name name) e)) w.0)
    (λ (g : has_name (node_names ns) name ≡ true). named ns name w.1 g)
    (or_cases (same_bytes n.name name) (has_name (node_names ns) name) h)

module _ (d : DraftView) (wordy : AreWordy d.nodes) where
  printed : (before names : List Name) → printed_fault d.topics d.nodes before names ≡ None → AllByRecursion IsWord names
  printed before [] e = tt
  printed before (n ∷ ps) e =
      let both = none_of (first_fitting (print_lines d.topics d.nodes before n)) (printed_fault d.topics d.nodes (before ++ n ∷ []) ps) e in
      let first = not_first (not (has_name (node_names d.nodes) n), UnknownInput n) ((has_name before n, DuplicateName n) ∷ (gives_stream (wiring_in (known_from d.topics d.nodes) n), WrongKind n) ∷ []) both.0 in
      (word_of n (named d.nodes n wordy (of_not _ first.0)), printed (before ++ n ∷ []) ps both.1)

  pub all_words : fault_of d ≡ None → AllByRecursion IsWord d.print
  all_words well =
      let rest = (none_of (first_fitting (size_lines d)) _ well).1 in
      printed [] d.print (none_of (nodes_fault d [] d.nodes) (print_fault d [] d.print) rest).1

pub prints_words : (bytes : List ℕ) (line : ℕ) (d : DraftView) → (so_far bytes).items ≡ TopologyAt line d ∷ [] → fault_of d ≡ None → AllByRecursion IsWord d.print
prints_words bytes line d e well = all_words d (nodes_of_line bytes line d e) well
