use Rattle.std.proofs.Common.{◌++◌, ◌∷◌, [], List, refl, ap, ◌∙◌, arith}
use Rattle.std.specs.List.{flat_map}
use Rattle.ks_iq.specs.declared.answer.Answer.{Answer}
use Rattle.ks_run_ask.specs.Texts.{answer_line}
use Rattle.ks_run_end.proofs.Told.{on_ok, lines_both}
use Rattle.ks_run_end.proofs.telling.push_answered.Goals as goal

pub answer_last-requires-clause-bound : goal.answer_last-requires-clause-bound
answer_last-requires-clause-bound g c = omega arith

pub returns : goal.returns
returns g c =
    let given = c.args.answers.now in
    let last = c.in_ok-last.last in
    on_ok c.push_answers-2.result
    (λ e. (
      flat_map answer_line (given ++ last ∷ []),
      e ∙ (ap (λ l. l ++ flat_map answer_line c.from_ref.result.now) c.in_ok-push_answers.ensures
          ∙ (ap (λ (xs : List Answer). (c.args.text.now.items ++ flat_map answer_line given) ++ flat_map answer_line xs) c.from_ref.ensures.value ∙ lines_both c.args.text.now.items given last)),
      record { last = last; read = c.in_ok-last.ensures.read; ends = c.in_ok-last.ensures.end; lines_are = refl },
    ))
    c.push_answers-2.ensures
