use Rattle.std.proofs.Common.{◌≡◌, codes, length}
use Rattle.std.specs.List.{list_any}
use Rattle.std.specs.Str.{bytes_eq}
use Rattle.ks_words.specs.Grammar.{words_of}
use Rattle.ks_words.proofs.words.has_end_of_options.Given as goal

abbrev pub invariant-loop-rest : goal.invariant-loop-rest
invariant-loop-rest l = list_any (λ w. bytes_eq w (codes "--")) (words_of l.rest) ≡ list_any (λ w. bytes_eq w (codes "--")) (words_of l.words)

abbrev pub decreases-loop-rest : goal.decreases-loop-rest
decreases-loop-rest l = length l.rest
