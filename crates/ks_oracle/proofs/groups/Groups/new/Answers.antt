use Rattle.ks_def_runs.specs.Bytes.{by_bytes}
use Rattle.std.specs.Cmp.Lexicographic.{nat_list_cmp_total}
use Rattle.ks_oracle.proofs.Trees.{map_new}
use Rattle.ks_oracle.proofs.groups.Groups.new.Goals as goal

pub returns : goal.returns
returns c = map_new by_bytes nat_list_cmp_total c.new.result.entries c.new.ensures.empty
