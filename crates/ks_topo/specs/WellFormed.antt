-- Well-formed drafts: no line of the table of faults fits, whatever the order.
use Rattle.std.specs.Prelude.{◌≡◌, false, List, [], ◌∷◌, ◌++◌}
use Rattle.ks_plan.specs.Drafts.{Name, NodeView, DraftView}
use Rattle.ks_plan.specs.Faults.{Line, size_lines, node_table, print_lines}

abbrev pub NoneFits : List Line → Type 0
NoneFits [] = Unit {0}
NoneFits (l ∷ ls) = (l.0 ≡ false) × NoneFits ls

abbrev pub NoneOf : List (List Line) → Type 0
NoneOf [] = Unit {0}
NoneOf (g ∷ gs) = NoneFits g × NoneOf gs

pub record IsWellFormed (d : DraftView) : Type 0 where
  -- not too many topics, partitions of a topic, and nodes
  pub sizes : NoneFits (size_lines d)
  -- each node, after those before it
  pub nodes : (before : List NodeView) (n : NodeView) (after : List NodeView) → d.nodes ≡ before ++ n ∷ after → NoneOf (node_table d before n)
  -- each printed name, after those before it
  pub print : (before : List Name) (n : Name) (after : List Name) → d.print ≡ before ++ n ∷ after → NoneFits (print_lines d.topics d.nodes before n)
