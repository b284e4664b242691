use Rattle.std.proofs.Common.{◌∙◌, ap₂, refl}
use Rattle.std.proofs.lemmas.Result.{IfOk-weaker}
use Rattle.clap.specs.Words.{with_rule}
use Rattle.ks_words.specs.Grammar.{greatest_seed}
use Rattle.ks_words.proofs.parser.common.Goals as goal

pub returns : goal.returns
unfolding greatest_seed
returns c =
    let a1 = c.in_ok-arg.ensures.shape c.number.ensures.local ∙ ap₂ with_rule c.bare.ensures (c.number.ensures.rule 1 4 refl refl) in
    let a2 = c.in_ok-arg-2.ensures.shape c.number-2.ensures.local ∙ ap₂ with_rule a1 (c.number-2.ensures.rule 1 4 refl refl) in
    let a3 = c.in_ok-arg-3.ensures.shape c.number-3.ensures.local ∙ ap₂ with_rule a2 (c.number-3.ensures.rule 0 3 refl refl) in
    let a4 = c.in_ok-arg-4.ensures.shape c.number-4.ensures.local ∙ ap₂ with_rule a3 (c.number-4.ensures.rule 1 10000 refl refl) in
    let a5 = c.in_ok-arg-5.ensures.shape c.number-5.ensures.local ∙ ap₂ with_rule a4 (c.number-5.ensures.rule 0 greatest_seed refl refl) in
    let a6 = c.in_ok-arg-6.ensures.shape c.number-6.ensures.local ∙ ap₂ with_rule a5 (c.number-6.ensures.rule 1 1000000 refl refl) in
    IfOk-weaker c.arg-7.result _ _ (λ r h. h.shape c.number-7.ensures.local ∙ ap₂ with_rule a6 (c.number-7.ensures.rule 0 100000 refl refl)) c.arg-7.ensures
