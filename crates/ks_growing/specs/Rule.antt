-- The rule of the lock's table: a resource invariant (Owicki and Gries, Communications of the ACM 19(5), 1976). Word 0 is the count of entries, word 1 the turn, word 2 is never written, slot 0 has the value.
use Rattle.std.specs.Prelude.{◌≡◌, ℕ, ◌+◌, ◌<◌, ◌≤◌, Bool, true, false, List, [], ◌∷◌, length, filter, Option, Some, None}
use mathlib.Core.Option.{none, some}
use mathlib.Core.List.{IsPrefix}
use lib.ListN.{get_elem?}
use Rattle.atomic_table.specs.Table.{State}
use Rattle.ks_growing.specs.declared.view.View.{View}

-- the sum of what is counted of each element
abbrev pub total : {X : Type 0} → (X → ℕ) → List X → ℕ
total f [] = 0
total f (x ∷ xs) = f x + total f xs

abbrev pub view_parts : {E F : Type 0} → View E F → ℕ
view_parts v = v.parts

abbrev pub view_made : {E F : Type 0} → View E F → ℕ
view_made v = v.made

-- the turn while a seat has the value: 1, or 2 once a thread may sleep that waits for it
abbrev pub IsTaken : ℕ → Type 0
IsTaken turn = (1 ≤ turn) × (turn ≤ 2)

-- the view of the first seat: it stands for all the passes
abbrev pub first_view : {T E F : Type 0} → (T → List E) → (T → F) → T → ℕ → View E F
first_view journal frame first passes = record { number = 0; parts = passes; made = 0; holds = false; count = length (journal first); next = 1; seen = journal first; frame = Some (frame first); other_parts = 0; other_seen = []; other_frame = None }

module _ {T E F : Type 0} (journal : T → List E) (reserved : E → Bool) (frame : T → F) (first : T) where
  -- where the value is
  pub data Place (log : List E) (holder : ℕ) (s : State (Option T) (View E F)) : Type 0 where
    -- in its slot: the count is the journal's length, and no seat holds it
    home : (value : T) → s.words ≡ length log ∷ 0 ∷ 0 ∷ [] → s.homes ≡ some (Some value) ∷ [] → journal value ≡ log → frame value ≡ frame first
        → ((j : ℕ) (v : View E F) → get_elem? s.views j ≡ some v → v.holds ≡ false) → Place log holder s
    -- out with one seat alone, which has seen the whole journal
    away : (v : View E F) (turn : ℕ) → IsTaken turn → s.words ≡ v.count ∷ turn ∷ 0 ∷ [] → s.homes ≡ none ∷ [] → get_elem? s.views holder ≡ some v → v.holds ≡ true → v.seen ≡ log
        → ((j : ℕ) (w : View E F) → get_elem? s.views j ≡ some w → w.holds ≡ true → j ≡ holder) → Place log holder s

  -- what the seat j knows is true
  pub record IsTrueView (log : List E) (j : ℕ) (v : View E F) : Type 0 where
    pub seen : IsPrefix v.seen log
    pub frame_is : 0 < v.parts → v.frame ≡ Some (frame first)
    pub other_seen : IsPrefix v.other_seen log
    pub other_frame : 0 < v.other_parts → v.other_frame ≡ Some (frame first)
    -- a seat that stands for no pass made nothing and doesn't hold the value
    pub idle : v.parts ≡ 0 → (v.made ≡ 0) × (v.holds ≡ false)
    -- the pass 0 is at the seat 0
    pub place : v.number ≡ 0 → 0 < v.parts → j ≡ 0
    pub next : 0 < v.next

  -- the seat 0 has the number 0, and has seen each reserved entry
  pub record HasReserved (log : List E) (views : List (View E F)) : Type 0 where
    pub view : View E F
    pub at_0 : get_elem? views 0 ≡ some view
    pub number : view.number ≡ 0
    pub whole : 0 < view.parts
    pub reserved_are : filter reserved log ≡ filter reserved view.seen

  -- the whole rule, of a lock with so many passes
  pub record IsSound (passes : ℕ) (s : State (Option T) (View E F)) : Type 0 where
    pub log : List E
    pub holder : ℕ
    pub place : Place log holder s
    pub each : (j : ℕ) (v : View E F) → get_elem? s.views j ≡ some v → IsTrueView log j v
    pub begins : IsPrefix (journal first) log
    pub grown : length log ≡ length (journal first) + total view_made s.views
    pub parts : total view_parts s.views ≡ passes
    pub pass_0 : HasReserved log s.views
