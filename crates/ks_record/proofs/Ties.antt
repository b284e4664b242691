-- Bytes are equal where their order ties.
use Rattle.std.proofs.Common.{◌≡◌, ℕ, ◌==◌, Bool, List, ◌∙◌}
use Rattle.std.specs.Ordering.{nat_cmp, eq_by_cmp}
use Rattle.std.specs.Cmp.Lexicographic.{pointwise, slice_cmp, texts_ties}

pub are_tied : (a b : List ℕ) (r : Bool) → r ≡ pointwise ◌==◌ a b → r ≡ eq_by_cmp (slice_cmp nat_cmp) a b
are_tied a b r e = e ∙ texts_ties a b
