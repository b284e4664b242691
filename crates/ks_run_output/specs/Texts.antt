-- What a run writes.
use Rattle.std.specs.Prelude.{ℕ, List, [], ◌∷◌, ◌++◌, codes, decimal}
use Rattle.ks_plan.specs.Drafts.{Name}
use Rattle.ks_query.specs.declared.table.Table.{Table}
use Rattle.ks_query.specs.Printed.{tables_text}
use Rattle.ks_job_record.specs.Texts.{name_text}

-- the tables of a job
unfoldable pub settled_text : List Table → List ℕ
settled_text ts = (codes "settled" ++ 10 ∷ []) ++ tables_text ts

-- how many pairs of a record and a window were late, and the tables without them
unfoldable pub late_text : ℕ → List Table → List ℕ
late_text late ts = (codes "late " ++ decimal late ++ 10 ∷ []) ++ tables_text ts

-- that two rows of a left key have one hash: the join's name, the key as a JSON text, and the offsets of the two records
unfoldable pub collision_text : Name → List ℕ → ℕ → ℕ → List ℕ
collision_text node key first second =
    codes "collision " ++ node ++ codes " " ++ name_text key ++ codes " " ++ decimal first ++ codes " " ++ decimal second ++ 10 ∷ []

-- ---- refusals
unfoldable pub bad_words_text : List ℕ
bad_words_text = codes "bad words" ++ 10 ∷ []

unfoldable pub read_fault_text : List ℕ
read_fault_text = codes "read fault" ++ 10 ∷ []
