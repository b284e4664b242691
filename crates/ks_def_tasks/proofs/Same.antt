-- Values that compare as the same are equal.
use Rattle.std.proofs.Common.{◌≡◌, ℕ, Bool, true, false, ◌&&◌, List, [], ◌∷◌, Option, Some, None, refl, ap, ap₂}
use Rattle.std.proofs.lemmas.Bool.{and_parts}
use Rattle.std.specs.Ordering.{eq_by_cmp, int_cmp}
use Rattle.std.specs.FinMap.{slice_cmp-IsAntisymmetric, nat_cmp-IsAntisymmetric, int_cmp-IsAntisymmetric}
use Rattle.ks_row.specs.declared.row.Field.{Field}
use Rattle.ks_row.specs.declared.row.Field.TheVariants.{Int, Text}
use Rattle.ks_wire.specs.declared.values.Agg.{Agg}
use Rattle.ks_expr.specs.Eval.{Row, same_bytes, same_field}
use Rattle.ks_def_runs.proofs.Tables.{equal}
use Rattle.ks_def_tasks.specs.Messages.{Stored, same_row, same_option, same_bool, same_agg, same_stored}
use Rattle.ks_def_tasks.specs.Messages.Stored.{OfRow, OfAgg}

pub bytes-is : (a b : List ℕ) → same_bytes a b ≡ true → a ≡ b
bytes-is a b e = slice_cmp-IsAntisymmetric nat_cmp-IsAntisymmetric a b (equal _ e)

pub field-is : (a b : Field) → same_field a b ≡ true → a ≡ b
field-is (Int a) (Int b) e = ap Int (int_cmp-IsAntisymmetric a b (equal _ e))
field-is (Text a) (Text b) e = ap Text (bytes-is a b e)
field-is (Int a) (Text b) e = cc
field-is (Text a) (Int b) e = cc

pub row-is : (a b : Row) → same_row a b ≡ true → a ≡ b
row-is [] [] e = refl
row-is [] (n ∷ ns) e = cc
row-is (m ∷ ms) [] e = cc
row-is (m ∷ ms) (n ∷ ns) e =
    let p = and_parts (same_bytes m.0 n.0 && same_field m.1 n.1) (same_row ms ns) e in
    let q = and_parts (same_bytes m.0 n.0) (same_field m.1 n.1) p.0 in
    let head : m ≡ n = ap₂ (λ a b. (a, b)) (bytes-is m.0 n.0 q.0) (field-is m.1 n.1 q.1) in
    ap₂ (λ x xs. x ∷ xs) head (row-is ms ns p.1)

agg-is : (a b : Agg) → same_agg a b ≡ true → a ≡ b
agg-is a b e =
    let p = and_parts (eq_by_cmp int_cmp a.members b.members) (eq_by_cmp int_cmp a.total b.total) e in
    ap₂ (λ m z. record { members = m; total = z }) (int_cmp-IsAntisymmetric a.members b.members (equal _ p.0)) (int_cmp-IsAntisymmetric a.total b.total (equal _ p.1))

bool-is : (a b : Bool) → same_bool a b ≡ true → a ≡ b
bool-is true true e = refl
bool-is true false e = cc
bool-is false true e = cc
bool-is false false e = refl

pub stored-is : (a b : Stored) → same_stored a b ≡ true → a ≡ b
stored-is (OfRow a) (OfRow b) e = ap OfRow (row-is a b e)
stored-is (OfAgg c a) (OfAgg d b) e =
    let p = and_parts (same_bool c d) (same_agg a b) e in
    ap₂ (λ x y. OfAgg x y) (bool-is c d p.0) (agg-is a b p.1)
stored-is (OfRow a) (OfAgg d b) e = cc
stored-is (OfAgg c a) (OfRow b) e = cc

pub option-is : {A : Type 0} (same : A → A → Bool) → ((a b : A) → same a b ≡ true → a ≡ b) → (x y : Option A) → same_option same x y ≡ true → x ≡ y
option-is same is None None e = refl
option-is same is (Some a) (Some b) e = ap Some (is a b e)
option-is same is None (Some b) e = cc
option-is same is (Some a) None e = cc
