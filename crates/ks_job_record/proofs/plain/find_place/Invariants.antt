use Rattle.std.proofs.Common.{◌≡◌, drop, map}
use Rattle.ks_row.specs.Fields.{member_seen}
use Rattle.ks_job_record.specs.PlainRows.{place_among}
use Rattle.ks_job_record.proofs.plain.find_place.Given as goal

-- the members from here on decide
abbrev pub invariant-loop-place : goal.invariant-loop-place
invariant-loop-place l = place_among l.place l.name (drop l.place (map member_seen l.fields)) ≡ place_among 0 l.name (map member_seen l.fields)
