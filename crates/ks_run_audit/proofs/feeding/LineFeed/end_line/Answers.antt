use Rattle.std.proofs.Common.{◌≤◌, ◌++◌, ◌∙◌, ap, sym, subst, length}
use Rattle.std.specs.Prelude.{◌==◌, IfOk, IfErr, OnOk}
use Rattle.ks_def_tasks.specs.Rules.{rules_of}
use Rattle.ks_run_audit.specs.Outputs.{TakesOutput, place_in}
use Rattle.ks_run_audit.specs.Feeding.{IsRefusal, draft_in}
use Rattle.ks_run_audit.proofs.Results.{on_each, always_ok, no_items}
use Rattle.ks_run_audit.proofs.feeding.LineFeed.end_line.Goals as goal

pub returns-then-is_empty-clause-taken : goal.returns-then-is_empty-clause-taken
returns-then-is_empty-clause-taken g c =
    let none = no_items c.args.self.now.line.items (sym (c.is_empty.ensures ∙ ap (λ n. n == 0) c.args.self.now.line.ok.0) ∙ c.if-is_empty.true) in
    subst (λ l. IfOk c.judge_line.result (λ r. OnOk r (TakesOutput g.H.Hash128.hash_of (l ++ c.args.end.now) c.args.output.now c.judge_line.new.output))) (sym none) c.judge_line.ensures.taken

pub returns-then-is_empty-clause-empty : goal.returns-then-is_empty-clause-empty
returns-then-is_empty-clause-empty g c =
    let none = no_items c.args.self.now.line.items (sym (c.is_empty.ensures ∙ ap (λ n. n == 0) c.args.self.now.line.ok.0) ∙ c.if-is_empty.true) in
    on_each c.judge_line.result _ _ c.judge_line.ensures.short (λ h. none)

pub returns-then-is_empty-clause-short : goal.returns-then-is_empty-clause-short
returns-then-is_empty-clause-short g c =
    let none = no_items c.args.self.now.line.items (sym (c.is_empty.ensures ∙ ap (λ n. n == 0) c.args.self.now.line.ok.0) ∙ c.if-is_empty.true) in
    subst (λ l. IfOk c.judge_line.result (λ r. OnOk r (length (l ++ c.args.end.now) ≤ 67108864))) (sym none) c.judge_line.ensures.short

pub returns-then-is_empty-clause-refused : goal.returns-then-is_empty-clause-refused
returns-then-is_empty-clause-refused g c =
    let none = no_items c.args.self.now.line.items (sym (c.is_empty.ensures ∙ ap (λ n. n == 0) c.args.self.now.line.ok.0) ∙ c.if-is_empty.true) in
    subst (λ l. IfOk c.judge_line.result (λ r. IfErr r (IsRefusal (rules_of g.H.Hash128.hash_of) (draft_in c.args.output.now) (place_in c.args.output.now) (l ++ c.args.end.now)))) (sym none) c.judge_line.ensures.refused

pub returns-clause-taken : goal.returns-clause-taken
returns-clause-taken g c =
    let whole = c.as_slice.ensures.value ∙ c.in_ok-extend_from_slice.ensures.items in
    subst (λ l. OnOk c.in_ok-answer.answer (TakesOutput g.H.Hash128.hash_of l c.args.output.now c.judge_line-2.new.output)) whole c.in_ok-answer.ensures.taken

pub returns-clause-empty : goal.returns-clause-empty
returns-clause-empty g c =
    always_ok c.in_ok-answer.answer _ c.clear.ensures.items

pub returns-clause-short : goal.returns-clause-short
returns-clause-short g c =
    let whole = c.as_slice.ensures.value ∙ c.in_ok-extend_from_slice.ensures.items in
    subst (λ l. OnOk c.in_ok-answer.answer (length l ≤ 67108864)) whole c.in_ok-answer.ensures.short

pub returns-clause-refused : goal.returns-clause-refused
returns-clause-refused g c =
    let whole = c.as_slice.ensures.value ∙ c.in_ok-extend_from_slice.ensures.items in
    subst (λ l. IfErr c.in_ok-answer.answer (IsRefusal (rules_of g.H.Hash128.hash_of) (draft_in c.args.output.now) (place_in c.args.output.now) l)) whole c.in_ok-answer.ensures.refused
