-- The same by whole lines: the items are those of the lines before the first faulty one.
use Rattle.std.specs.Prelude.{ℕ, List, [], ◌∷◌, ◌++◌, Option, None, Result, Ok, Err, if◌then◌else◌}
use Rattle.ks_job_record.specs.declared.fault.JobKind.{JobKind}
use Rattle.ks_job.specs.Items.{ItemView}
use Rattle.ks_job.specs.Lines.{Spot, judged, is_too_long, too_long}
use Rattle.ks_job.specs.Reader.{Reader, Reading, Faulty, Machine, with_item, is_line_end}

-- the lines that end with an LF, and the bytes after the last LF
abbrev pub onto_lines : List ℕ → List (List ℕ) × List ℕ → List (List ℕ) × List ℕ
onto_lines l p = (l ∷ p.0, p.1)

-- with the bytes of a line that has begun
abbrev pub lines_from : List ℕ → List ℕ → List (List ℕ) × List ℕ
lines_from begun [] = ([], begun)
lines_from begun (x ∷ xs) = if is_line_end x then onto_lines begun (lines_from [] xs) else lines_from (begun ++ x ∷ []) xs

-- a faulty line ends it, and else it goes on
abbrev pub and_lines : ℕ → List ItemView → Result (Spot × Option ItemView) JobKind → (Spot → List ItemView → Machine) → Machine
and_lines n items (Ok x) others = others x.0 (with_item items x.1)
and_lines n items (Err f) others = record { reader = Faulty n f; items = items }

-- a line that has begun, and is too long already or not
abbrev pub begun_line : Spot → List ℕ → Reader
begun_line s rest = if is_too_long rest then Faulty s.line (too_long s.start) else Reading s rest

abbrev pub judge_lines : Spot → List ItemView → List (List ℕ) → List ℕ → Machine
judge_lines s items [] rest = record { reader = begun_line s rest; items = items }
judge_lines s items (l ∷ ls) rest = and_lines s.line items (judged s 1 l) (λ t more. judge_lines t more ls rest)

abbrev pub first_spot : Spot
first_spot = record { line = 1; start = 0; topics = None; records = 0 }

-- the bytes of an input so far, by its lines
abbrev pub by_lines : List ℕ → Machine
by_lines xs = judge_lines first_spot [] (lines_from [] xs).0 (lines_from [] xs).1
