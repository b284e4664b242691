-- The topology of a cluster of one table, which the copying task stands for: its records go to its changelog as they come.
use Rattle.std.specs.Prelude.{ℕ, pos, List, [], ◌∷◌, None}
use Rattle.ks_plan.specs.Drafts.{DraftView, TableOf}

abbrev pub letter_a : List ℕ
letter_a = 97 ∷ []

abbrev pub letter_t : List ℕ
letter_t = 116 ∷ []

abbrev pub letter_x : List ℕ
letter_x = 120 ∷ []

-- of the app a, a table x of the topic t, which has one partition
abbrev pub table_draft : DraftView
table_draft = record {
  app = letter_a;
  topics = (letter_t, record { parts = pos 1; before = None }) ∷ [];
  nodes = record { name = letter_x; op = TableOf letter_t } ∷ [];
  print = letter_x ∷ [];
}
