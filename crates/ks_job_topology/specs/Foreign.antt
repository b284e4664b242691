-- What gives the foreign key of a left row, as JSON says it.
use Rattle.std.specs.Prelude.{ℕ, List, Option, Some, None, option_map, option_and_then, Result, codes, if◌then◌else◌}
use Rattle.serde_json.specs.Data.{Data}
use Rattle.serde_json.specs.Find.{as_str}
use Rattle.ks_record.specs.Texts.{name_of}
use Rattle.ks_expr.specs.declared.terms.Fk.{Fk}
use Rattle.ks_expr.specs.declared.terms.Fk.TheVariants.{Field, Whole, Before}
use Rattle.ks_job_record.specs.declared.fault.JobKind.{JobKind}
use Rattle.ks_job_record.specs.declared.fault.JobKind.TheVariants.{BadShape}
use Rattle.ks_job_record.specs.Gives.{◌>>=◌, some_or}
use Rattle.ks_job_record.specs.Members.{same, member_of}
use Rattle.ks_job_topology.specs.Exprs.{only_member_of}

-- a member and its text: the left key as a whole, or its front part before a text of 1 to 64 bytes
unfoldable pub part_of_key : List ℕ → List ℕ → Option Fk
part_of_key k s =
    if same k (codes "key") then (if same s (codes "whole") then Some Whole else None)
    else (if same k (codes "key_before") then option_map (λ t. Before t) (name_of s) else None)

abbrev pub by_member : Option (List ℕ × Data) → Option Fk
by_member None = None
by_member (Some m) = option_and_then (part_of_key m.0) (as_str m.1)

-- a field's name, or an object with exactly one member
abbrev pub by_text : Option (List ℕ) → Data → Option Fk
by_text None d = by_member (only_member_of d)
by_text (Some s) d = option_map (λ t. Field t) (name_of s)

unfoldable pub fk_in : Data → Option Fk
fk_in d = by_text (as_str d) d

unfoldable pub fk_from : Data → Result Fk JobKind
fk_from d = do
  inner ← member_of (codes "fk") d
  some_or (BadShape (codes "fk")) (fk_in inner)
