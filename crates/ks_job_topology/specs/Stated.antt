-- How the keys of an input topic are spread, as JSON says it.
use Rattle.std.specs.Prelude.{ℕ, ◌&&◌, ℤ, pos, List, Option, Some, None, option_map, option_and_then, Result, Ok, Err, codes, int_lt, if◌then◌else◌}
use Rattle.serde_json.specs.Data.{Data, Members, no_members, member}
use Rattle.serde_json.specs.Find.{as_str, as_object}
use Rattle.ks_record.specs.Texts.{name_of}
use Rattle.ks_plan.specs.declared.draft.TopicDraft.{TopicDraft}
use Rattle.ks_job_record.specs.declared.fault.JobKind.{JobKind}
use Rattle.ks_job_record.specs.declared.fault.JobKind.TheVariants.{BadShape}
use Rattle.ks_job_record.specs.Gives.{◌>>=◌, some_or}
use Rattle.ks_job_record.specs.Members.{same, integer_from}

unfoldable pub parts_from : List ℕ → Data → Result ℤ JobKind
parts_from name d = do
  n ← integer_from name d
  if int_lt n (pos 1) then Err (BadShape name) else Ok n

-- of exactly two members, the first by bytes first
abbrev pub two_members : Members → Option ((List ℕ × Data) × (List ℕ × Data))
two_members no_members = None
two_members (member k d no_members) = None
two_members (member k d (member l e no_members)) = Some ((k, d), (l, e))
two_members (member k d (member l e (member j g ms))) = None

abbrev pub only_two_of : Data → Option ((List ℕ × Data) × (List ℕ × Data))
only_two_of d = option_and_then two_members (as_object d)

-- the text of 1 to 64 bytes, and what the number of partitions is to be
abbrev pub stated_in : Option ((List ℕ × Data) × (List ℕ × Data)) → Option (List ℕ × Data)
stated_in None = None
stated_in (Some p) = if same p.0.0 (codes "key_before") && same p.1.0 (codes "parts") then option_map (λ s. (s, p.1.1)) (option_and_then name_of (as_str p.0.1)) else None

-- a wrong shape comes before a wrong number
unfoldable pub stated_from : List ℕ → Data → Result TopicDraft JobKind
stated_from name d = do
  stated ← some_or (BadShape name) (stated_in (only_two_of d))
  parts ← parts_from name stated.1
  Ok (record { parts = parts; before = Some stated.0 })

unfoldable pub plain_from : List ℕ → Data → Result TopicDraft JobKind
plain_from name d = do
  parts ← parts_from name d
  Ok (record { parts = parts; before = None })

abbrev pub by_form : Option Members → List ℕ → Data → Result TopicDraft JobKind
by_form None name d = plain_from name d
by_form (Some ms) name d = stated_from name d

-- a number, or an object with a number and a text
unfoldable pub spread_from : List ℕ → Data → Result TopicDraft JobKind
spread_from name d = by_form (as_object d) name d
