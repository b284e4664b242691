use Rattle.std.proofs.Common.{◌∙◌, ap₂, refl}
use Rattle.std.proofs.lemmas.Result.{IfOk-weaker}
use Rattle.clap.specs.Words.{with_rule}
use Rattle.ks_words.proofs.parser.load_parser.Goals as goal

pub returns : goal.returns
returns c = IfOk-weaker c.arg.result _ _ (λ r h. h.shape c.plain.ensures.local ∙ ap₂ with_rule c.in_ok-common.ensures (c.plain.ensures.rule 1 150000 refl refl)) c.arg.ensures
