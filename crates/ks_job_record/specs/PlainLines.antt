-- The front and the end of a plain line.
use Rattle.std.specs.Prelude.{◌≡◌, ℕ, ◌≤◌, List, ◌++◌, Option, Some, None, true, codes}
use Rattle.ks_record.specs.Texts.{key_of}
use Rattle.ks_job_record.specs.declared.record.Input.{Input}
use Rattle.ks_job_record.specs.Record.{number_of}
use Rattle.ks_job_record.specs.Plain.{is_plain, end_text}

pub record IsFront (topics : List (List ℕ)) (line : List ℕ) (number : ℕ) (key rest : List ℕ) : Type 0 where
  pub topic : List ℕ
  pub spelled : line ≡ codes "{\"topic\":\"" ++ (topic ++ (codes "\",\"key\":\"" ++ (key ++ (codes "\",\"value\":" ++ rest))))
  pub topic_plain : is_plain topic ≡ true
  pub key_plain : is_plain key ≡ true
  pub known : number_of topic topics ≡ Some number
  pub key_fit : key_of key ≡ Some key

abbrev pub time_or_0 : Option ℕ → ℕ
time_or_0 None = 0
time_or_0 (Some n) = n

pub record IsEnd (bytes : List ℕ) (n : ℕ) : Type 0 where
  pub time : Option ℕ
  pub spelled : bytes ≡ end_text time
  pub is : n ≡ time_or_0 time
  pub small : n ≤ 9007199254740992

pub record EndsLine (topic : ℕ) (key : List ℕ) (value : Option (List ℕ)) (rest : List ℕ) (input : Input) : Type 0 where
  pub ts : ℕ
  pub end : IsEnd rest ts
  pub is : input ≡ record { topic = topic; rec = record { key = Some key; value = value; ts = ts } }
