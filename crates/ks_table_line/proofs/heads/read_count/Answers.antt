use Rattle.std.proofs.Common.{sym, subst, ◌∙◌, IsUtf8}
use Rattle.std.proofs.lemmas.Fmt.{parse-decimal}
use Rattle.ks_table_line.proofs.Ended.{decimal_utf8, same_count, no_count}
use Rattle.ks_table_line.proofs.heads.read_count.Goals as goal

pub returns-in_default : goal.returns-in_default
returns-in_default c = λ n h e. absurd (c.in_default.ensures.cases.0 (subst IsUtf8 (sym e) (decimal_utf8 n h)))

pub returns-in-Ok-parse : goal.returns-in-Ok-parse
returns-in-Ok-parse c = λ n h e. same_count c.parse.result c.in-Ok-parse.count n c.in-Ok-parse.is (parse-decimal 64 n c.in-Ok.text.now c.parse.result h h (c.in-Ok.ensures.cases.0 ∙ e) c.parse.ensures.value.0)

pub returns-in-Err : goal.returns-in-Err
returns-in-Err c = λ n h e. no_count c.parse.result c.in-Err.field-0 n c.in-Err.is (parse-decimal 64 n c.in-Ok.text.now c.parse.result h h (c.in-Ok.ensures.cases.0 ∙ e) c.parse.ensures.value.0)
