use Rattle.std.specs.Str.Parse.{ParsesUnsigned, ExplainsUnsignedError, HasUnsignedDigitsIfOk}
use Rattle.ks_words.proofs.Numbers.{number_read}
use Rattle.ks_words.proofs.parser.large.Goals as goal

pub returns : goal.returns
returns c = λ low high fits passed. number_read _ (λ bs r. ParsesUnsigned 64 10 bs r × ExplainsUnsignedError 10 bs r × HasUnsignedDigitsIfOk bs r) 64 low high _ c.get_one.result c.get_one.ensures.none c.get_one.ensures.value (λ u x g. g.0) fits passed
