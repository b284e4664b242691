use Rattle.std.proofs.Common.{sym}
use Rattle.std.proofs.lemmas.Bool.{true≢false}
use Rattle.std.proofs.lemmas.Result.{IfOk-weaker}
use Rattle.serde_json.specs.View.{view}
use Rattle.ks_table_line.proofs.RowAgain.{found_is, refused_is}
use Rattle.ks_table_line.proofs.lines.parse.Goals as goal

pub returns-in-Ok : goal.returns-in-Ok
returns-in-Ok c = λ r fits same. IfOk-weaker c.read_table_row.result _ _ (λ o h. found_is c.args.windowed c.args.line.now (view c.in-Ok.value) o r fits same c.in-Ok.ensures.ok.1 h) c.read_table_row.ensures

pub returns-else-is_memory : goal.returns-else-is_memory
returns-else-is_memory c = λ r fits same. refused_is c.args.windowed c.args.line.now r fits same (λ u. c.in-Err.ensures.err (λ m. true≢false (sym (c.if-is_memory.ensures.1 m))) u)
