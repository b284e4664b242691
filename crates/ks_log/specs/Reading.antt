-- What readers are given, as pairs of an offset and a record.
use Rattle.std.specs.Prelude.{ℕ, ◌+◌, nat_le, if◌then◌else◌, Bool, get_or, Option, List, [], ◌∷◌, ◌++◌, length}
use Rattle.ks_record.specs.Records.{Record as Rec}
use Rattle.ks_record.specs.declared.record.PartId.{PartId}
use Rattle.ks_history.specs.declared.partition.Slot.{Slot}
use Rattle.ks_history.specs.declared.partition.Slot.TheVariants.{Plain, Sent, Mark}
use Rattle.ks_history.specs.declared.transaction.Producer.{Producer}
use Rattle.ks_history.specs.State.{new_producer}
use Rattle.ks_history.specs.Faithful.{marker_among}
use Rattle.ks_history.specs.Partition.{next_mark, by_mark, decision}
use Rattle.ks_log.specs.declared.log.Written.{Written}
use Rattle.ks_log.specs.Written.{slots_in}
use Rattle.ks_log.specs.declared.marks.Marked.{Marked}
use Rattle.ks_log.specs.Index.{mark_among}

-- how the waiting marker of a producer decides
abbrev pub waiting_in : List Producer → PartId → ℕ → ℕ → Option Bool
waiting_in producers part w e = marker_among part e (get_or producers w new_producer).waiting

-- the readable records; the first slot has this offset
abbrev pub readable_pairs : ℕ → List Slot → List (ℕ × Rec)
readable_pairs at [] = []
readable_pairs at (Plain rec ∷ slots) = (at, rec) ∷ readable_pairs (at + 1) slots
readable_pairs at (Sent w e number task rec ∷ slots) =
    by_mark (next_mark w e slots) [] ((at, rec) ∷ readable_pairs (at + 1) slots) (readable_pairs (at + 1) slots)
readable_pairs at (Mark w e commit ∷ slots) = readable_pairs (at + 1) slots

-- the decided records
abbrev pub decided_pairs : (ℕ → ℕ → Option Bool) → ℕ → List Slot → List (ℕ × Rec)
decided_pairs waiting at [] = []
decided_pairs waiting at (Plain rec ∷ slots) = (at, rec) ∷ decided_pairs waiting (at + 1) slots
decided_pairs waiting at (Sent w e number task rec ∷ slots) =
    by_mark (decision (next_mark w e slots) (waiting w e)) (decided_pairs waiting (at + 1) slots) ((at, rec) ∷ decided_pairs waiting (at + 1) slots) (decided_pairs waiting (at + 1) slots)
decided_pairs waiting at (Mark w e commit ∷ slots) = decided_pairs waiting (at + 1) slots

abbrev pub at_or_past : ℕ → List (ℕ × Rec) → List (ℕ × Rec)
at_or_past from [] = []
at_or_past from (r ∷ rs) = if nat_le from r.0 then r ∷ at_or_past from rs else at_or_past from rs

abbrev pub end_at : List Written → PartId → ℕ
end_at log p = length (slots_in p log)

-- the record of a slot, with its offset
abbrev pub record_at : ℕ → Slot → List (ℕ × Rec)
record_at at (Plain rec) = (at, rec) ∷ []
record_at at (Sent w e number task rec) = (at, rec) ∷ []
record_at at (Mark w e commit) = []

-- the records of the slots that readers get; the first slot has this offset
abbrev pub visible_pairs : ℕ → List Bool → List Slot → List (ℕ × Rec)
visible_pairs at [] slots = []
visible_pairs at (is ∷ visible) [] = []
visible_pairs at (is ∷ visible) (slot ∷ slots) = (if is then record_at at slot else []) ++ visible_pairs (at + 1) visible slots

-- the record of a slot that these markers follow, where it is decided
abbrev pub decided_one : (ℕ → ℕ → Option Bool) → ℕ → Slot → List Marked → List (ℕ × Rec)
decided_one waiting at (Plain rec) marks = (at, rec) ∷ []
decided_one waiting at (Sent w e number task rec) marks = by_mark (decision (mark_among w e marks) (waiting w e)) [] ((at, rec) ∷ []) []
decided_one waiting at (Mark w e commit) marks = []
