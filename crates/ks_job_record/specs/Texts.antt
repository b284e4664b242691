-- How a fault is printed.
use Rattle.std.specs.Prelude.{ℕ, ◌==◌, List, [], ◌++◌, length, codes, decimal, if◌then◌else◌}
use Rattle.std.specs.Str.Lossy.{utf8_valid_len}
use Rattle.serde_json.specs.Data.{string}
use Rattle.serde_json.specs.Written.{compact_text}
use Rattle.ks_job_record.specs.declared.fault.JobKind.{JobKind}
use Rattle.ks_job_record.specs.declared.fault.JobKind.TheVariants.{TooMany, NotJson, BadShape, BadNumber, UnknownTopic, LineTooLong, NoTopology}

-- a name as a JSON text; what is no UTF-8, which no line gives, has none
unfoldable pub name_text : List ℕ → List ℕ
name_text name = if utf8_valid_len name == length name then compact_text (string name) else []

unfoldable pub limit_text : List ℕ → ℕ → List ℕ
limit_text what limit = codes "14 TooMany " ++ what ++ codes " " ++ decimal limit

abbrev pub fault_text : JobKind → List ℕ
fault_text (TooMany what limit) = limit_text what limit
fault_text NotJson = codes "20 NotJson"
fault_text (BadShape member) = codes "21 BadShape " ++ name_text member
fault_text (BadNumber member) = codes "22 BadNumber " ++ name_text member
fault_text (UnknownTopic topic) = codes "23 UnknownTopic " ++ name_text topic
fault_text LineTooLong = codes "24 LineTooLong"
fault_text NoTopology = codes "25 NoTopology"
