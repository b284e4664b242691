-- A job's reader over the bytes of an input, one after another.
use Rattle.std.specs.Prelude.{ℕ, ◌==◌, List, [], ◌∷◌, ◌++◌, length, Bool, Option, Some, None, Result, Ok, Err, nat_le, if◌then◌else◌}
use Rattle.ks_job_record.specs.declared.fault.JobKind.{JobKind}
use Rattle.ks_job_record.specs.declared.fault.JobKind.TheVariants.{NoTopology}
use Rattle.ks_job.specs.Items.{ItemView}
use Rattle.ks_job.specs.Lines.{Spot, judged, too_long}

-- at a line, with its bytes so far; or stopped at the first faulty line, which has this number
pub data Reader : Type 0 where
  Reading : Spot → List ℕ → Reader
  Faulty : ℕ → JobKind → Reader

-- a reader, and the items so far
pub record Machine : Type 0 where
  pub reader : Reader
  pub items : List ItemView

-- at the first line, with nothing read
abbrev pub start : Reader
start = Reading (record { line = 1; start = 0; topics = None; records = 0 }) []

abbrev pub with_item : List ItemView → Option ItemView → List ItemView
with_item items None = items
with_item items (Some i) = items ++ i ∷ []

abbrev pub after_line : ℕ → List ItemView → Result (Spot × Option ItemView) JobKind → Machine
after_line n items (Ok x) = record { reader = Reading x.0 []; items = with_item items x.1 }
after_line n items (Err f) = record { reader = Faulty n f; items = items }

abbrev pub is_line_end : ℕ → Bool
is_line_end b = b == 10

-- a line has 65,536 bytes already
unfoldable pub is_full : List ℕ → Bool
is_full begun = nat_le 65536 (length begun)

-- one further byte of a line
abbrev pub longer : Spot → List ℕ → ℕ → Reader
longer s begun b = if is_full begun then Faulty s.line (too_long s.start) else Reading s (begun ++ b ∷ [])

-- one further byte: a line is whole, and is judged, at its LF and at its byte 65,537
abbrev pub after_byte : Reader → List ItemView → ℕ → Machine
after_byte (Reading s begun) items b = if is_line_end b then after_line s.line items (judged s 1 begun) else record { reader = longer s begun b; items = items }
after_byte (Faulty n f) items b = record { reader = Faulty n f; items = items }

abbrev pub after : Machine → List ℕ → Machine
after m [] = m
after m (x ∷ xs) = after (after_byte m.reader m.items x) xs

-- ---- the end of the input

abbrev pub closed_by : Option (List (List ℕ)) → ℕ → Spot → Reader
closed_by None n s = Faulty n NoTopology
closed_by (Some topics) n s = Reading s []

-- the input has ended in line n
abbrev pub closed : ℕ → Spot → Reader
closed n s = closed_by s.topics n s

abbrev pub at_end : ℕ → List ItemView → Result (Spot × Option ItemView) JobKind → Machine
at_end n items (Ok x) = record { reader = closed n x.0; items = with_item items x.1 }
at_end n items (Err f) = record { reader = Faulty n f; items = items }

-- a last line without an end is judged, where it has a byte
abbrev pub end_of : Reader → List ItemView → Machine
end_of (Reading s begun) items = if length begun == 0 then record { reader = closed s.line s; items = items } else at_end s.line items (judged s 0 begun)
end_of (Faulty n f) items = record { reader = Faulty n f; items = items }

-- the bytes of an input so far, and a whole input
abbrev pub so_far : List ℕ → Machine
so_far xs = after (record { reader = start; items = [] }) xs

abbrev pub whole : List ℕ → Machine
whole xs = end_of (so_far xs).reader (so_far xs).items
