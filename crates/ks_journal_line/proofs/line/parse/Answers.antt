use Rattle.std.proofs.Common.{sym}
use Rattle.std.proofs.lemmas.Bool.{true≢false}
use Rattle.std.proofs.lemmas.Result.{IfOk-weaker}
use Rattle.serde_json.specs.View.{view}
use Rattle.ks_journal_line.proofs.Found.{found_is, refused_is}
use Rattle.ks_journal_line.proofs.line.parse.Goals as goal

pub returns-in-Ok-clause-only : goal.returns-in-Ok-clause-only
returns-in-Ok-clause-only c = λ e fits same. IfOk-weaker c.read_value.result _ _ (λ o h. found_is c.args.line.now (view c.in-Ok.value) o e fits same c.in-Ok.ensures.ok.1 h) c.read_value.ensures.value

pub returns-else-is_memory-clause-only : goal.returns-else-is_memory-clause-only
returns-else-is_memory-clause-only c = λ e fits same. refused_is c.args.line.now e fits same (λ u. c.in-Err.ensures.err (λ m. true≢false (sym (c.if-is_memory.ensures.1 m))) u)
