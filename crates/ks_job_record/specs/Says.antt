-- A line that says a record.
use Rattle.std.specs.Prelude.{◌≡◌, ℕ, List, Some, Ok}
use Rattle.std.specs.Str.{IsUtf8}
use Rattle.serde_json.specs.Data.{Data}
use Rattle.serde_json.specs.Read.{read}
use Rattle.ks_job_record.specs.declared.record.Input.{Input}
use Rattle.ks_job_record.specs.Record.{input_from}

-- the line is the text of a JSON value, and this is the record that the value is
pub record Says (topics : List (List ℕ)) (line : List ℕ) (input : Input) : Type 0 where
  pub value : Data
  pub utf8 : IsUtf8 line
  pub reads : read line ≡ Some value
  pub record_is : input_from topics value ≡ Ok input
