-- What a contract sees of the lock and of a pass, and what the calls ask and say of passes. What a pass has seen and made are auxiliary variables: Owicki and Gries, "Verifying properties of parallel programs", Communications of the ACM 19(5), 1976.
use Rattle.std.specs.Prelude.{◌≡◌, ℕ, ◌+◌, ◌-◌, false, true, Bool, List, [], ◌∷◌, length, Option, Some, None}
use mathlib.Core.Option.{some}
use lib.ListN.{get_elem?}
use Rattle.atomic_table.specs.Seated.{TableId}
use Rattle.ks_growing.specs.declared.view.View.{View}

-- what holds of each element, by its place
abbrev pub Each : {X : Type 0} → (ℕ → X → Type 0) → List X → Type 0
Each {X} P xs = (k : ℕ) (x : X) → get_elem? xs k ≡ some x → P k x

-- a lock: which one it is, the value that it was made with, and how many passes it has
pub record LockView (T : Type 0) : Type 0 where
  pub id : TableId
  pub first : T
  pub passes : ℕ

abbrev pub lock_view : {T : Type 0} → TableId → T → ℕ → LockView T
lock_view id first passes = record { id = id; first = first; passes = passes }

-- a pass: its lock, its number, the frame of the lock's value, the part of the journal that it has seen, how many entries were added through it, and whether it holds the value
pub record PassView (E F : Type 0) : Type 0 where
  pub lock : TableId
  pub number : ℕ
  pub frame : Option F
  pub seen : List E
  pub made : ℕ
  pub holds : Bool

abbrev pub pass_view : {E F : Type 0} → TableId → View E F → PassView E F
pass_view lock v = record { lock = lock; number = v.number; frame = v.frame; seen = v.seen; made = v.made; holds = v.holds }

-- the slots that are out with a seat, which holds the value or doesn't
abbrev pub slots_out : {T : Type 0} → Bool → List (ℕ × Option T)
slots_out true = (0, None) ∷ []
slots_out false = []

module _ {E F : Type 0} where
  abbrev pub seen_of : PassView E F → List E
  seen_of p = p.seen

  abbrev pub made_of : PassView E F → ℕ
  made_of p = p.made

  abbrev pub frame_of : PassView E F → Option F
  frame_of p = p.frame

  -- the pass, once it took the value with this journal out
  abbrev pub pass_with_value : List E → PassView E F → PassView E F
  pass_with_value log p = record p { holds = true; seen = log }

  -- the pass, once it put the value with this journal back
  abbrev pub pass_without_value : List E → PassView E F → PassView E F
  pass_without_value log p = record p { holds = false; seen = log; made = p.made + (length log - length p.seen) }

  -- the pass k of a lock, which doesn't hold the value
  abbrev pub IsPass : TableId → ℕ → PassView E F → Type 0
  IsPass lock k p = (p.lock ≡ lock) × (p.holds ≡ false) × (p.number ≡ k)

  -- the pass k of a new lock, whose value has this journal and this frame
  abbrev pub IsFresh : TableId → List E → F → ℕ → PassView E F → Type 0
  IsFresh lock seen frame k p = p ≡ record { lock = lock; number = k; frame = Some frame; seen = seen; made = 0; holds = false }
