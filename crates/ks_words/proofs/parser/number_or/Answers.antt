use Rattle.std.proofs.Common.{◌∙◌, ap}
use Rattle.std.specs.Prelude.{unwrap_or}
use Rattle.std.specs.Str.Parse.{ParsesUnsigned, ExplainsUnsignedError, HasUnsignedDigitsIfOk}
use Rattle.ks_words.proofs.Numbers.{number_read}
use Rattle.ks_words.proofs.parser.number_or.Goals as goal

pub returns : goal.returns
returns c = λ low high fits passed. c.unwrap_or.ensures ∙ ap (λ o. unwrap_or o c.args.otherwise) (number_read _ (λ bs r. ParsesUnsigned 32 10 bs r × ExplainsUnsignedError 10 bs r × HasUnsignedDigitsIfOk bs r) 32 low high _ c.get_one.result c.get_one.ensures.none c.get_one.ensures.value (λ u x g. g.0) fits passed)
