use Rattle.std.proofs.Common.{sym, ap, ◌∙◌, arith}
use Rattle.std.proofs.lemmas.Bool.{true≢false}
use Rattle.ks_query.specs.Printed.{head_line}
use Rattle.std.specs.Prelude.{unwrap_or}
use Rattle.ks_table_line.proofs.Ended.{head_of, head_ends, digits_are, long_enough}
use Rattle.ks_table_line.proofs.heads.read_head.Goals as goal

pub returns-then-line-begins-clause-only : goal.returns-then-line-begins-clause-only
returns-then-line-begins-clause-only c = λ n h e. absurd (omega (arith, c.if-line-begins.true, long_enough c.args.name.now c.args.line.now n h e))

pub returns-in_default-clause-only : goal.returns-in_default-clause-only
returns-in_default-clause-only c = λ n h e. sym c.in_default.is ∙ c.read_count.ensures n h (digits_are c.args.name.now c.args.line.now n e)

pub returns-then-is_without_end-clause-found : goal.returns-then-is_without_end-clause-found
returns-then-is_without_end-clause-found c =
    let text = c.as_bytes.ensures.value ∙ c.in_ok-text.ensures in
    c.is_without_end.ensures.yes c.if-is_without_end.true (head_of c.args.name.now c.in-Some.count) (text ∙ head_ends c.args.name.now c.in-Some.count) ∙ text

pub returns-then-is_without_end-clause-only : goal.returns-then-is_without_end-clause-only
returns-then-is_without_end-clause-only c = λ n h e. sym c.in-Some.is ∙ c.read_count.ensures n h (digits_are c.args.name.now c.args.line.now n e)

pub returns-clause-only : goal.returns-clause-only
returns-clause-only c = λ n h e.
    let count = ap (λ o. unwrap_or o 0) (sym c.in-Some.is ∙ c.read_count.ensures n h (digits_are c.args.name.now c.args.line.now n e)) in
    absurd (true≢false (sym (c.is_without_end.ensures.no (e ∙ ap (head_line c.args.name.now) (sym count) ∙ sym (c.as_bytes.ensures.value ∙ c.in_ok-text.ensures))) ∙ c.if-is_without_end.false))
