-- What each step on the table makes of a seat's view, and what it tells the seat.
use Rattle.std.specs.Prelude.{◌≡◌, ◌≢◌, ◌⊎◌, ℕ, ◌+◌, ◌-◌, ◌<◌, Bool, true, false, List, [], ◌∷◌, length, filter, Option, Some, None}
use mathlib.Core.List.{IsPrefix}
use Rattle.atomic_table.specs.Table.{Me, Step}
use Rattle.atomic_table.specs.declared.shared.Seat.{Seat}
use Rattle.ks_growing.specs.declared.view.View.{View}

-- the longer of two lists of which one begins the other
abbrev pub longer : {A : Type 0} → List A → List A → List A
longer [] ys = ys
longer (x ∷ xs) [] = x ∷ xs
longer (x ∷ xs) (y ∷ ys) = x ∷ longer xs ys

module _ {E F : Type 0} where
  -- the value with this journal is out with the seat
  abbrev pub view_with_value : List E → View E F → View E F
  view_with_value log v = record v { holds = true; seen = log; count = length log }

  -- the value with this journal was put back
  abbrev pub view_without_value : List E → View E F → View E F
  view_without_value log v = record v { holds = false; seen = log; count = length log; made = v.made + (length log - length v.seen) }

  -- the dealer's view, with so many passes left in it, and the number of the next
  abbrev pub dealer_with : ℕ → ℕ → View E F → View E F
  dealer_with passes number v = record v { parts = passes; next = number }

  -- after it dealt a pass: one pass less, and the next number
  abbrev pub dealer_view : View E F → View E F
  dealer_view v = dealer_with (v.parts - 1) (v.next + 1) v

  -- the pass that it dealt
  abbrev pub dealt_view : View E F → View E F
  dealt_view v = record v { number = v.next; parts = 1; made = 0; holds = false; next = 1 }

  -- what a pass has seen, and no more
  abbrev pub copy_of : View E F → View E F
  copy_of v = record v { parts = 0; made = 0; holds = false; next = 1 }

  -- two views as one: what the second made is added, what it has seen stands beside
  abbrev pub both_of : View E F → View E F → View E F
  both_of v w = record v { parts = v.parts + w.parts; made = v.made + w.made; other_parts = w.parts; other_seen = w.seen; other_frame = w.frame }

  abbrev pub spent_view : View E F
  spent_view = record { number = 0; parts = 0; made = 0; holds = false; count = 0; next = 1; seen = []; frame = None; other_parts = 0; other_seen = []; other_frame = None }

  -- the longer list is kept, and nothing stands beside
  abbrev pub view_with_longer : View E F → View E F
  view_with_longer v = record v { seen = longer v.seen v.other_seen; other_parts = 0; other_seen = []; other_frame = None }

  -- the seat is a pass that doesn't hold the value
  abbrev pub IsFree : {S : Type 0} → Me (Option S) (View E F) → Type 0
  IsFree me = (me.0.holds ≡ false) × (me.0.parts ≡ 1) × (me.1 ≡ [])

  -- the seat is a pass that holds the value, which was moved out of the slot
  abbrev pub IsHolding : {S : Type 0} → Me (Option S) (View E F) → Type 0
  IsHolding me = (me.0.holds ≡ true) × (me.0.parts ≡ 1) × (me.1 ≡ (0, None) ∷ [])

  -- the first view of a lock with so many passes, before any is dealt
  abbrev pub IsDealer : ℕ → View E F → Type 0
  IsDealer passes v = (v.holds ≡ false) × (v.number ≡ 0) × (v.parts ≡ passes) × (v.next ≡ 1) × (v.made ≡ 0)

  -- the same seat, with its number and its frame
  abbrev pub SameSeat : {T : Type 0} → Seat (Option T) (View E F) → Seat (Option T) (View E F) → Type 0
  SameSeat p q = (q.table_id ≡ p.table_id) × (q.id ≡ p.id) × (q.me.0.number ≡ p.me.0.number) × (q.me.0.frame ≡ p.me.0.frame)

  abbrev pub seat_seen : {T : Type 0} → Seat (Option T) (View E F) → List E
  seat_seen p = p.me.0.seen

-- the seat took this value out: its journal begins with what the seat had seen, its frame is the seat's, and what is new in it for the pass 0 isn't reserved
abbrev pub TakesThis : {T E F : Type 0} → (T → List E) → (E → Bool) → (T → F) → Me (Option T) (View E F) → Me (Option T) (View E F) → T → Type 0
TakesThis journal reserved frame m m' value = (m'.1 ≡ (0, Some value) ∷ []) × (m'.0 ≡ view_with_value (journal value) m.0) × IsPrefix m.0.seen (journal value) × (m.0.frame ≡ Some (frame value))
    × (m.0.number ≡ 0 → filter reserved (journal value) ≡ filter reserved m.0.seen)

-- the seat took some value out
pub record TakesSome {T E F : Type 0} (journal : T → List E) (reserved : E → Bool) (frame : T → F) (m m' : Me (Option T) (View E F)) : Type 0 where
  pub value : T
  pub takes : TakesThis journal reserved frame m m' value

-- where the turn was free the seat has it now, and the value; else nothing changes
abbrev pub TakesValue : {T E F : Type 0} → (T → List E) → (E → Bool) → (T → F) → Step (Option T) → Me (Option T) (View E F) → ℕ → Me (Option T) (View E F) → Type 0
TakesValue {T} journal reserved frame st m turn m' = (turn ≡ 0 → (value : T) × TakesThis journal reserved frame m m' value) × (turn ≢ 0 → m' ≡ m)

-- the count that was written is known
abbrev pub WritesCount : {T E F : Type 0} → Step (Option T) → Me (Option T) (View E F) → ℕ → Me (Option T) (View E F) → Type 0
WritesCount st m n m' = m' ≡ (record m.0 { count = n }, m.1)

-- the value that was out with the seat is in its slot again
abbrev pub ReturnsValue : {T E F : Type 0} → (T → List E) → Step (Option T) → Me (Option T) (View E F) → ℕ → Me (Option T) (View E F) → Type 0
ReturnsValue {T} journal st m n m' = (value : T) → m.1 ≡ (0, Some value) ∷ [] → m' ≡ (view_without_value (journal value) m.0, [])

-- of what the seat has seen, and what the seat that it joined last had seen, one begins the other, and the longer is kept; both knew one frame
abbrev pub KeepsLonger : {T E F : Type 0} → (E → Bool) → Step (Option T) → Me (Option T) (View E F) → ℕ → Me (Option T) (View E F) → Type 0
KeepsLonger reserved st m n m' = (m' ≡ (view_with_longer m.0, m.1)) × IsPrefix m.0.seen (longer m.0.seen m.0.other_seen) × IsPrefix m.0.other_seen (longer m.0.seen m.0.other_seen)
    × ((longer m.0.seen m.0.other_seen ≡ m.0.seen) ⊎ (longer m.0.seen m.0.other_seen ≡ m.0.other_seen))
    × (m.0.number ≡ 0 → 0 < m.0.parts → filter reserved (longer m.0.seen m.0.other_seen) ≡ filter reserved m.0.seen)
    × (0 < m.0.parts → 0 < m.0.other_parts → m.0.other_frame ≡ m.0.frame)
