-- A source and a sink in memory, as plain values.
use Rattle.std.specs.Prelude.{ℕ, ◌==◌, ◌++◌, Bool, List, [], ◌∷◌, Option, Some, None, length, take, drop, min, max, if◌then◌else◌}
use Rattle.std.specs.List.{list_any}
use Rattle.ks_edge.specs.Causes.{counted}

-- whether the call of this number, counted from 0, is one of those that fail
abbrev pub is_listed : List ℕ → ℕ → Bool
is_listed failing call = list_any (λ n. n == call) failing

-- a source: the bytes left, the listed sizes left, the numbers of the calls that fail, and how many calls and faults there were
pub record Feed : Type 0 where
  pub left : List ℕ
  pub sizes : List ℕ
  pub failing : List ℕ
  pub calls : ℕ
  pub faults : ℕ

-- how many bytes the next piece may have, in a buffer with this room: the next listed size, of which 0 is read as 1, and
-- then the room; what is left of a size larger than the room is not carried over
abbrev pub next_size : List ℕ → ℕ → ℕ
next_size [] room = room
next_size (size ∷ sizes) room = min (max size 1) room

-- the bytes that a call which does not fail gives
abbrev pub given : Feed → ℕ → List ℕ
given f room = take (next_size f.sizes room) f.left

-- the buffer after a call: the bytes given, and then what stood there
abbrev pub filled : Feed → List ℕ → List ℕ
filled f buf = if is_listed f.failing f.calls then buf else given f (length buf) ++ drop (length (given f (length buf))) buf

-- the source after a call: one that fails gives no byte and uses up no listed size
abbrev pub after_take : Feed → ℕ → Feed
after_take f room = if is_listed f.failing f.calls
    then record f { calls = counted f.calls; faults = counted f.faults }
    else record f { left = drop (length (given f room)) f.left; sizes = drop 1 f.sizes; calls = counted f.calls }

-- a sink: the bytes held, the most bytes that it takes of a piece, where there is a limit, the numbers of the calls that fail,
-- and how many calls and faults there were
pub record Tray : Type 0 where
  pub held : List ℕ
  pub width : Option ℕ
  pub failing : List ℕ
  pub calls : ℕ
  pub faults : ℕ

-- the bytes that a sink of this width takes of a piece
abbrev pub within : Option ℕ → List ℕ → List ℕ
within None piece = piece
within (Some width) piece = take width piece

-- the sink after a call that took the front of the piece for which it is wide enough
abbrev pub after_put : Tray → List ℕ → Tray
after_put t piece = record t { held = t.held ++ within t.width piece; calls = counted t.calls }

-- the sink after a call that failed: no byte more
abbrev pub after_failed_put : Tray → Tray
after_failed_put t = record t { calls = counted t.calls; faults = counted t.faults }
