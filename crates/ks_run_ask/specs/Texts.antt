-- The lines of a run's answers.
use Rattle.std.specs.Prelude.{ℕ, List, [], ◌∷◌, ◌++◌, Option, Some, None, codes, decimal}
use Rattle.serde_json.specs.Data.{Data, null}
use Rattle.serde_json.specs.Written.{compact_text}
use Rattle.ks_expr.specs.Eval.{Row}
use Rattle.ks_query.specs.Printed.{row_object}
use Rattle.ks_iq.specs.declared.answer.Answer.{Answer}
use Rattle.ks_iq.specs.declared.fault.IqFault.{IqFault}
use Rattle.ks_iq.specs.declared.fault.IqFault.TheVariants.{UnknownStore, WrongStart, WrongTask, NotClean, Behind}
use Rattle.ks_iq.specs.Codes.{fault_code}

-- a row's object, or null
abbrev pub value_data : Option Row → Data
value_data None = null
value_data (Some row) = row_object row

unfoldable pub answer_line : Answer → List ℕ
answer_line a = codes "answer " ++ compact_text (value_data a.value) ++ 32 ∷ decimal a.position ++ 10 ∷ []

abbrev pub fault_name : IqFault → List ℕ
fault_name UnknownStore = codes "UnknownStore"
fault_name WrongStart = codes "WrongStart"
fault_name (WrongTask owner) = codes "WrongTask"
fault_name NotClean = codes "NotClean"
fault_name (Behind position) = codes "Behind"

unfoldable pub bad_ask_text : IqFault → List ℕ
bad_ask_text f = codes "bad ask " ++ decimal (fault_code f) ++ 32 ∷ fault_name f ++ 10 ∷ []
