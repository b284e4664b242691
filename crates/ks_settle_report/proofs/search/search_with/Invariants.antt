use Rattle.ks_settle_report.specs.Hashed.{row_hash, kind_as}
use Rattle.ks_settle_report.proofs.SpelledRows.{IsSearching}
use Rattle.ks_settle_report.proofs.search.search_with.Given as goal

-- none of the records so far has met another row
abbrev pub invariant-loop-i : goal.invariant-loop-i
invariant-loop-i g l = IsSearching (row_hash g.H.Hash128.hash_of) (kind_as l.shown) l.rows.store l.recs l.i
