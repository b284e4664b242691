-- How many members a group has.
use Rattle.std.proofs.Common.{◌≡◌, ℕ, ◌+◌, ◌%◌, ◌^◌, List, [], ◌∷◌, length, Option, Some, fold, refl, ap, ◌∙◌, arith}
use Rattle.std.specs.Prelude.{ℤ, option_map}
use Rattle.std.specs.Int.{w64, cast_unsigned}
use Rattle.std.proofs.lemmas.Int.{of_z-to_z}
use Rattle.ks_expr.specs.Eval.{Row}
use Rattle.ks_wire.specs.declared.values.Agg.{Agg}
use Rattle.ks_query.specs.Aggregates.{amount_in, nothing_yet, plus, stream_add}
use Rattle.ks_query.specs.Laws.{MembersAreCounted}

-- ---- members
one_more : (a : Agg) (amount : ℤ) (n : ℕ) → cast_unsigned w64 a.members ≡ n % 2 ^ 64 → cast_unsigned w64 (plus a amount).members ≡ (n + 1) % 2 ^ 64
one_more a amount n e =
    let bits : ℕ = cast_unsigned w64 a.members in
    of_z-to_z w64 ((bits + 1) % 2 ^ 64) (omega arith) ∙ ap (λ b. (b + 1) % 2 ^ 64) e ∙ omega arith

members_from : (field : Option (List ℕ)) (rows : List Row) (a : Agg) (n : ℕ) → cast_unsigned w64 a.members ≡ n % 2 ^ 64 →
    option_map (λ a. cast_unsigned w64 a.members) (fold (λ old row. Some (stream_add field old row)) (Some a) rows) ≡ Some ((n + length rows) % 2 ^ 64)
members_from field [] a n e = ap (λ m. Some m) (e ∙ omega arith)
members_from field (r ∷ rows) a n e = members_from field rows (plus a (amount_in field r)) (n + 1) (one_more a (amount_in field r) n e) ∙ ap (λ m. Some (m % 2 ^ 64)) (omega arith)

pub members_are_counted : MembersAreCounted
members_are_counted field [] = refl
members_are_counted field (r ∷ rows) = members_from field rows (plus nothing_yet (amount_in field r)) 1 (one_more nothing_yet (amount_in field r) 0 refl) ∙ ap (λ m. Some (m % 2 ^ 64)) (omega arith)
