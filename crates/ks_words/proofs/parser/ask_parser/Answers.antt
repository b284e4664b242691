use Rattle.std.proofs.Common.{◌∙◌, ap₂, refl}
use Rattle.std.proofs.lemmas.Result.{IfOk-weaker}
use Rattle.clap.specs.Words.{with_rule}
use Rattle.ks_words.specs.Grammar.{greatest_start}
use Rattle.ks_words.proofs.parser.ask_parser.Goals as goal

pub returns : goal.returns
unfolding greatest_start
returns c =
    let a1 = c.in_ok-arg.ensures.shape c.number.ensures.local ∙ ap₂ with_rule c.in_ok-common.ensures (c.number.ensures.rule 0 greatest_start refl refl) in
    let a2 = c.in_ok-arg-2.ensures.shape c.text.ensures.local ∙ ap₂ with_rule a1 c.text.ensures.rule in
    IfOk-weaker c.arg-3.result _ _ (λ r h. h.shape c.text-2.ensures.local ∙ ap₂ with_rule a2 c.text-2.ensures.rule) c.arg-3.ensures
