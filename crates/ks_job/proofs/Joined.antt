-- A piece in two parts, and the items that stand before those of a piece.
use Rattle.std.proofs.Common.{◌≡◌, ℕ, List, [], ◌∷◌, ◌++◌, refl, ap, sym, ◌∙◌, Bool, true, false, cond, append_assoc, append-nil}
use Rattle.std.specs.Prelude.{Option, Some, None, ◌==◌, Result, Ok, Err}
use Rattle.std.specs.Cmp.Lexicographic.{pointwise}
use Rattle.std.proofs.lemmas.Bool.Decides.{Decides-eqb}
use Rattle.std.proofs.lemmas.Slice.Eq.{slice_eq-Decides}
use Rattle.ks_job_record.specs.declared.fault.JobKind.{JobKind}
use Rattle.ks_job.specs.Items.{ItemView}
use Rattle.ks_job.specs.Lines.{Spot, judged}
use Rattle.ks_job.specs.Reader.{Reader, Reading, Faulty, Machine, is_line_end, longer, after, after_byte, after_line, with_item}
use Rattle.ks_job.proofs.Cuts.{with_reader, after_both}

-- ---- names

pub same_names : (xs ys : List (List ℕ)) (r : Bool) → r ≡ pointwise (pointwise ◌==◌) xs ys → r ≡ true → xs ≡ ys
same_names xs ys r e t = (slice_eq-Decides (λ a b. slice_eq-Decides Decides-eqb a b (pointwise ◌==◌ a b) refl) xs ys r e).0 t

-- ---- items that stand before

abbrev pub behind : List ItemView → Machine → Machine
behind before m = record { reader = m.reader; items = before ++ m.items }

pub item_behind : (before items : List ItemView) (o : Option ItemView) → with_item (before ++ items) o ≡ before ++ with_item items o
item_behind before items None = refl
item_behind before items (Some i) = append_assoc before items (i ∷ [])

line_behind : (n : ℕ) (before items : List ItemView) (r : Result (Spot × Option ItemView) JobKind) → after_line n (before ++ items) r ≡ behind before (after_line n items r)
line_behind n before items (Ok x) = ap (λ (is : List ItemView). with_reader is (Reading x.0 [])) (item_behind before items x.1)
line_behind n before items (Err f) = refl

byte_at : (b : Bool) (s : Spot) (before items : List ItemView) (r : Result (Spot × Option ItemView) JobKind) (l : Reader) →
    cond b (after_line s.line (before ++ items) r) (with_reader (before ++ items) l) ≡ behind before (cond b (after_line s.line items r) (with_reader items l))
byte_at true s before items r l = line_behind s.line before items r
byte_at false s before items r l = refl

byte_behind : (r : Reader) (before items : List ItemView) (x : ℕ) → after_byte r (before ++ items) x ≡ behind before (after_byte r items x)
byte_behind (Reading s begun) before items x = byte_at (is_line_end x) s before items (judged s 1 begun) (longer s begun x)
byte_behind (Faulty n f) before items x = refl

-- a piece adds the same items, whatever stands before them
pub after_behind : (before : List ItemView) (m : Machine) (xs : List ℕ) → after (behind before m) xs ≡ behind before (after m xs)
after_behind before m [] = refl
after_behind before m (x ∷ xs) = ap (λ (n : Machine). after n xs) (byte_behind m.reader before m.items x) ∙ after_behind before (after_byte m.reader m.items x) xs

-- ---- parts

-- the items of a part that was read from nothing, put behind those before it
pub appended : (r q s : Reader) (before more both : List ItemView) (xs : List ℕ) → r ≡ q → both ≡ before ++ more →
    with_reader more s ≡ after (with_reader [] q) xs → with_reader both s ≡ after (with_reader before r) xs
appended r q s before more both xs g e h =
    rw (e, g)
    (ap (behind before) h ∙ (sym (after_behind before (with_reader [] q) xs) ∙ ap (λ (is : List ItemView). after (with_reader is q) xs) (append-nil before)))

pub in_two : (m first last : Machine) (whole front back : List ℕ) → whole ≡ front ++ back → first ≡ after m front → last ≡ after first back → last ≡ after m whole
in_two m first last whole front back e f l = rw (e, after_both m front back, ← f) l
