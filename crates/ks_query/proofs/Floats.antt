-- A row has no float.
use Rattle.std.proofs.Common.{◌≡◌, ℕ, List, [], ◌∷◌, refl, ap, ◌∙◌, Bool, true, false, ◌||◌, ◌++◌}
use Rattle.std.specs.Prelude.{pos, negsuc}
use Rattle.std.specs.declared.cmp.Ordering.{Ordering}
use Rattle.std.specs.declared.cmp.Ordering.TheVariants.{Less, Equal, Greater}
use Rattle.std.specs.Ordering.{nat_cmp, match_ordering}
use Rattle.std.specs.Cmp.Lexicographic.{slice_cmp}
use Rattle.std.specs.Prelude.{Option, Some, None}
use Rattle.serde_json.specs.Data.{Data, Items, no_items, item, Members, no_members, member, put}
use Rattle.serde_json.specs.Written.{has_float, items_have_float, members_have_float, compact_text}
use Rattle.ks_row.specs.Rows.{Member}
use Rattle.ks_row.specs.declared.row.Field.{Field}
use Rattle.ks_row.specs.declared.row.Field.TheVariants.{Int, Text}
use Rattle.ks_query.specs.Printed.{field_data, put_all, row_object, start_onto, row_data, row_line}
use Rattle.ks_query.specs.declared.table.TableRow.{TableRow}

no_float_in_field : (f : Field) → has_float (field_data f) ≡ false
no_float_in_field (Int (pos n)) = refl
no_float_in_field (Int (negsuc n)) = refl
no_float_in_field (Text s) = refl

neither : (a b : Bool) → a ≡ false → b ≡ false → (a || b) ≡ false
neither a b e f = rw (e, f) refl

left : (a b : Bool) → (a || b) ≡ false → a ≡ false
left true b e = e
left false b e = refl

right : (a b : Bool) → (a || b) ≡ false → b ≡ false
right true b e = absurd (cc)
right false b e = e

placed : (o : Ordering) (a b c : Members) → members_have_float a ≡ false → members_have_float b ≡ false → members_have_float c ≡ false → members_have_float (match_ordering o a b c) ≡ false
placed Less a b c e f g = e
placed Equal a b c e f g = f
placed Greater a b c e f g = g

no_float_put : (k : List ℕ) (d : Data) (ms : Members) → has_float d ≡ false → members_have_float ms ≡ false → members_have_float (put k d ms) ≡ false
no_float_put k d no_members e f = neither (has_float d) false e refl
no_float_put k d (member l x ms) e f =
    placed (slice_cmp nat_cmp k l) (member k d (member l x ms)) (member l d ms) (member l x (put k d ms))
    (neither (has_float d) (members_have_float (member l x ms)) e f)
    (neither (has_float d) (members_have_float ms) e (right (has_float x) (members_have_float ms) f))
    (neither (has_float x) (members_have_float (put k d ms)) (left (has_float x) (members_have_float ms) f) (no_float_put k d ms e (right (has_float x) (members_have_float ms) f)))

no_float_put_all : (row : List Member) (found : Members) → members_have_float found ≡ false → members_have_float (put_all row found) ≡ false
no_float_put_all [] found e = e
no_float_put_all (m ∷ ms) found e = no_float_put_all ms (put m.0 (field_data m.1) found) (no_float_put m.0 (field_data m.1) found (no_float_in_field m.1) e)

no_float_start : (start : Option ℕ) (rest : Items) → items_have_float rest ≡ false → items_have_float (start_onto start rest) ≡ false
no_float_start None rest e = e
no_float_start (Some n) rest e = e

pub no_float_in_row : (row : TableRow) → has_float (row_data row) ≡ false
no_float_in_row row = no_float_start row.start (item (row_object row.row) no_items) (neither (members_have_float (put_all row.row no_members)) false (no_float_put_all row.row no_members refl) refl)

pub printed : (row : TableRow) (d : Data) (line new : List ℕ) → d ≡ row_data row → (has_float d ≡ false → line ≡ compact_text d) → new ≡ line ++ 10 ∷ [] → new ≡ row_line row
unfolding row_line
printed row d line new e t n = n ∙ ap (λ s. s ++ 10 ∷ []) (t (ap has_float e ∙ no_float_in_row row) ∙ ap compact_text e)
