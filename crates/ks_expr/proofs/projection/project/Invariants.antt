use Rattle.std.proofs.Common.{◌≡◌, [], drop, map, option_copied}
use Rattle.std.specs.List.{All}
use Rattle.ks_row.specs.Fields.{member_seen}
use Rattle.ks_row.specs.Spelling.{FitsMember}
use Rattle.ks_expr.specs.Terms.{entries_of}
use Rattle.ks_expr.specs.Eval.{fields_onto}
use Rattle.ks_expr.proofs.projection.project.Given as goal

-- what is found and what the rest gives
abbrev pub invariant-loop-name : goal.invariant-loop-name
invariant-loop-name l = record {
  found : fields_onto (map member_seen l.fields.items) (entries_of (drop l.name-index l.name-items)) (option_copied l.left) (option_copied l.right) ≡ fields_onto [] (entries_of l.name-items) (option_copied l.left) (option_copied l.right);
  fits : All FitsMember (map member_seen l.fields.items);
}
