-- Which entries change a worker's own transaction, and which are left to whoever feeds the cluster its records.
use Rattle.std.specs.Prelude.{◌≡◌, ℕ, ◌+◌, ◌==◌, ◌&&◌, Bool, true, false, not, cond, List, [], ◌∷◌, ◌++◌, length}
use Rattle.ks_history.specs.declared.journal.Request.{Request}
use Rattle.ks_history.specs.declared.journal.Request.TheVariants.{Produce, Init, Add, Append, SendOffsets, Decide, MarkNext, Join, Expire, Hold, Probe, Assign, Park, Unpark}
use Rattle.ks_history.specs.declared.journal.Reply.{Reply}
use Rattle.ks_history.specs.declared.journal.Reply.TheVariants.{Done, Number, Truth, Mark as Marked, Refused as Refuse}
use Rattle.ks_history.specs.declared.journal.Entry.{Entry}

-- the requests by which a worker begins, fills and decides its transactions
abbrev pub is_of : ℕ → Request → Bool
is_of w (Init v) = v == w
is_of w (Add v epoch p) = v == w
is_of w (Append v epoch number t p recs) = v == w
is_of w (SendOffsets v epoch generation t offsets order late) = v == w
is_of w (Decide v epoch commit) = v == w
is_of w _ = false

abbrev pub is_refused : Reply → Bool
is_refused (Refuse refused) = true
is_refused _ = false

abbrev pub touches : ℕ → Entry → Bool
touches w entry = is_of w entry.request && not (is_refused entry.reply)

-- `last`, or the place past the last entry that touches, where `n` entries stand before these
abbrev pub touched_from : ℕ → ℕ → ℕ → List Entry → ℕ
touched_from w n last [] = last
touched_from w n last (entry ∷ entries) = touched_from w (n + 1) (cond (touches w entry) (n + 1) last) entries

-- the number of entries up to and with the last accepted `init`, `add`, `append`, `send_offsets` or `decide` of w; 0 where there is
-- none
abbrev pub touched : ℕ → List Entry → ℕ
touched w journal = touched_from w 0 0 journal

-- none of these entries touches w's transaction
abbrev pub untouched : ℕ → List Entry → Bool
untouched w [] = true
untouched w (entry ∷ entries) = cond (touches w entry) false (untouched w entries)

-- an entry that touches is then the last one that does; any other leaves the number as it was
abbrev pub TouchedByTheLast : Type 0
TouchedByTheLast = (w : ℕ) (journal : List Entry) (entry : Entry) → touched w (journal ++ entry ∷ []) ≡ cond (touches w entry) (length journal + 1) (touched w journal)

abbrev pub UntouchedStays : Type 0
UntouchedStays = (w : ℕ) (journal more : List Entry) → untouched w more ≡ true → touched w (journal ++ more) ≡ touched w journal

-- the entries that one caller alone may add, who feeds the cluster its records
abbrev pub is_produce : Request → Bool
is_produce (Produce p rec) = true
is_produce _ = false

abbrev pub is_reserved : Entry → Bool
is_reserved entry = is_produce entry.request
