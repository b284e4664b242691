-- What is kept beside the slots of a partition, so that neither a read nor an append goes through all of them.
use Rattle.std.specs.Prelude.{◌≡◌, ℕ, suc, ◌+◌, ◌≤◌, ◌==◌, ◌&&◌, Bool, true, false, if◌then◌else◌, Option, Some, None, List, [], ◌∷◌, drop, length}
use Rattle.ks_history.specs.declared.partition.Slot.{Slot}
use Rattle.ks_history.specs.declared.partition.Slot.TheVariants.{Plain, Sent, Mark}
use Rattle.ks_history.specs.Partition.{next_mark, by_mark, count_sent}
use Rattle.ks_log.specs.declared.marks.Marked.{Marked}
use Rattle.ks_log.specs.declared.counts.Counted.{Counted}

-- the markers among slots
abbrev pub marks_in : List Slot → List Marked
marks_in [] = []
marks_in (Plain rec ∷ slots) = marks_in slots
marks_in (Sent w e number task rec ∷ slots) = marks_in slots
marks_in (Mark w e commit ∷ slots) = record { producer = w; epoch = e; commit = commit } ∷ marks_in slots

-- how the first marker of a producer and epoch decides
abbrev pub mark_among : ℕ → ℕ → List Marked → Option Bool
mark_among w e [] = None
mark_among w e (mark ∷ marks) = if (w == mark.producer) && (e == mark.epoch) then Some mark.commit else mark_among w e marks

-- whether readers get a slot that these markers follow; none where no marker completes it
abbrev pub visible_one : Slot → List Marked → Option Bool
visible_one (Plain rec) marks = Some true
visible_one (Sent w e number task rec) marks = mark_among w e marks
visible_one (Mark w e commit) marks = Some false

-- for each slot below the last stable offset, whether readers get it
abbrev pub visible_in : List Slot → List Bool
visible_in [] = []
visible_in (Plain rec ∷ slots) = true ∷ visible_in slots
visible_in (Sent w e number task rec ∷ slots) = by_mark (next_mark w e slots) [] (true ∷ visible_in slots) (false ∷ visible_in slots)
visible_in (Mark w e commit ∷ slots) = false ∷ visible_in slots

-- the kept count of a producer and epoch, 0 where none is kept
abbrev pub counted : ℕ → ℕ → List Counted → ℕ
counted w e [] = 0
counted w e (kept ∷ counts) = if (w == kept.producer) && (e == kept.epoch) then kept.count else counted w e counts

-- where a count is kept, or how many are kept
abbrev pub count_place : ℕ → ℕ → List Counted → ℕ
count_place w e [] = 0
count_place w e (kept ∷ counts) = if (w == kept.producer) && (e == kept.epoch) then 0 else suc (count_place w e counts)

-- with this count of a producer and epoch
abbrev pub counted_put : ℕ → ℕ → ℕ → List Counted → List Counted
counted_put w e n [] = record { producer = w; epoch = e; count = n } ∷ []
counted_put w e n (kept ∷ counts) =
    if (w == kept.producer) && (e == kept.epoch) then record kept { count = n } ∷ counts else kept ∷ counted_put w e n counts

-- what is kept is that of the slots; so many markers stand below the last stable offset
pub record IsIndexed (slots : List Slot) (visible : List Bool) (marks : List Marked) (passed : ℕ) (counts : List Counted) : Type 0 where
  pub visible_is : visible ≡ visible_in slots
  pub marks_are : marks ≡ marks_in slots
  pub passed_is : drop passed marks ≡ marks_in (drop (length visible) slots)
  pub within : passed ≤ length marks
  pub counts_are : (w e : ℕ) → counted w e counts ≡ count_sent w e slots
