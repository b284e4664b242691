-- A piece of bytes, cut at its first line end.
use Rattle.std.specs.Prelude.{ℕ, ◌-◌, List, [], ◌∷◌, ◌++◌, length, Option, Some, None, option_map, Result, Err, nat_le, if◌then◌else◌}
use Rattle.ks_job_record.specs.declared.fault.JobKind.{JobKind}
use Rattle.ks_job.specs.Items.{ItemView}
use Rattle.ks_job.specs.Lines.{Spot, judged, too_long}
use Rattle.ks_job.specs.Reader.{Reader, Reading, Faulty, is_line_end}

-- the bytes before it, and those after it
abbrev pub cut_line : List ℕ → Option (List ℕ × List ℕ)
cut_line [] = None
cut_line (x ∷ xs) = if is_line_end x then Some ([], xs) else option_map (λ p. (x ∷ p.0, p.1)) (cut_line xs)

-- how many bytes a line that has begun can still take
unfoldable pub room : List ℕ → ℕ
room begun = 65536 - length begun

-- the line that has begun, with its last bytes
unfoldable pub ended : Spot → List ℕ → List ℕ → Result (Spot × Option ItemView) JobKind
ended s begun front = if nat_le (length front) (room begun) then judged s 1 (begun ++ front) else Err (too_long s.start)

-- the line that has begun, with further bytes
unfoldable pub kept : Spot → List ℕ → List ℕ → Reader
kept s begun rest = if nat_le (length rest) (room begun) then Reading s (begun ++ rest) else Faulty s.line (too_long s.start)
