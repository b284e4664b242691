-- Rows by their bytes.
use Rattle.std.proofs.Common.{◌≡◌, ℕ, zero, suc, ◌+◌, ◌<◌, ◌≤◌, ◌^◌, Bool, true, false, not, ◌&&◌, List, length, take, drop, get_or, [], ◌∷◌, ◌++◌, arith, add-one, Option, Some, None, refl, sym, ap, ap₂, subst, ◌∙◌, nat_eq}
use Rattle.std.specs.Prelude.{option_map, IfSome}
use Rattle.std.specs.Ordering.{is_eq}
use Rattle.std.specs.Cmp.{tied_itself}
use Rattle.std.specs.Cmp.Lexicographic.{nat_list_cmp_total}
use Rattle.std.proofs.lemmas.Bool.{true≢false}
use Rattle.ks_record.specs.Records.{Record as Rec}
use Rattle.ks_row.specs.Reading.{row_from}
use Rattle.ks_row.specs.Spelling.{FitsRow, spelling}
use Rattle.ks_row.proofs.Spelled.{row_again}
use Rattle.ks_wire.specs.Reading.{agg_from}
use Rattle.ks_wire.specs.declared.values.Agg.{Agg}
use Rattle.ks_expr.specs.Eval.{Row, same_bytes}
use Rattle.ks_query.specs.Aggregates.{agg_row}
use Rattle.ks_def_tasks.specs.Messages.{shown, same_row}
use Rattle.ks_def_tasks.specs.Messages.Stored.{OfRow, OfAgg}
use Rattle.ks_def_tasks.proofs.Same.{bytes-is, row-is}
use Rattle.ks_def_tasks.proofs.Itself.{row_itself}
use Rattle.ks_law_settled.specs.Folded as folded
use Rattle.ks_def_runs.specs.Bytes.{Store, empty_store}
use Rattle.ks_plan.specs.Plan.{Kind}
use Rattle.ks_law_settled.specs.Collision.{row_by, rows_collide, same_keys, collide, pair_at, earlier, first_from, first_in}
use Rattle.ks_settle_report.specs.Search.{entry_of, meets_other, with_entry}
use Rattle.ks_settle_report.proofs.OnePass.{Keeps, nothing_kept, Decided, decided}
use Rattle.ks_settle.specs.Rows as rows
use Rattle.ks_settle.proofs.Folds.{take_one}
use Rattle.ks_settle.specs.declared.rows.StoredForm.{StoredForm}
use Rattle.ks_settle.specs.declared.rows.StoredForm.TheVariants.{Plain, Members, Total}
use Rattle.ks_settle_report.specs.Hashed.{row_hash, kind_as, is_same_hash}

-- ---- how a value is read
plain : (o : Option Row) → option_map shown (option_map OfRow o) ≡ o
plain None = refl
plain (Some r) = refl

total : (count : Bool) (o : Option Agg) → option_map shown (option_map (OfAgg count) o) ≡ option_map (agg_row count) o
total count None = refl
total count (Some a) = refl

pub kind_reads : (s : StoredForm) (bytes : List ℕ) → folded.row_from (kind_as s) bytes ≡ rows.row_by (rows.op_as s) bytes
kind_reads Plain bytes = plain (row_from bytes)
kind_reads Members bytes = total true (agg_from bytes)
kind_reads Total bytes = total false (agg_from bytes)

-- ---- rows that have a spelling are one where their bytes are
some_same : {A : Type 0} {x y : A} → Some x ≡ Some y → x ≡ y
some_same e = cc

bytes_itself : (k : List ℕ) → same_bytes k k ≡ true
bytes_itself k = ap is_eq (tied_itself nat_list_cmp_total k)

rows_one : (v w : Row) → FitsRow v → FitsRow w → spelling v ≡ spelling w → v ≡ w
rows_one v w f g e = some_same (sym (row_again v f) ∙ ap row_from e ∙ row_again w g)

same_spelled : (v w : Row) → FitsRow v → FitsRow w → same_row v w ≡ same_bytes (spelling v) (spelling w)
same_spelled v w f g = by (same_bytes (spelling v) (spelling w)) refl (same_row v w) refl
  where
    by : (b : Bool) → same_bytes (spelling v) (spelling w) ≡ b → (s : Bool) → same_row v w ≡ s → s ≡ b
    by true e true h = refl
    by false e false h = refl
    by true e false h = absurd (true≢false (sym (subst (λ u. same_row v u ≡ true) (rows_one v w f g (bytes-is (spelling v) (spelling w) e)) (row_itself v)) ∙ h))
    by false e true h = absurd (true≢false (sym (subst (λ u. same_bytes (spelling v) (spelling u) ≡ true) (row-is v w h) (bytes_itself (spelling v))) ∙ e))

pub hashed_alike : (hash : List ℕ → ℕ) (a b : Option Row) → IfSome a FitsRow → IfSome b FitsRow → is_same_hash hash (option_map spelling a) (option_map spelling b) ≡ rows_collide (row_hash hash) a b
hashed_alike hash (Some v) (Some w) f g = ap (λ s. not s && nat_eq (hash (spelling v)) (hash (spelling w))) (sym (same_spelled v w f g))
hashed_alike hash (Some v) None f g = refl
hashed_alike hash None b f g = refl

-- where the keys are one, rows that differ and are hashed alike are a collision
pub both_told : (hash : List ℕ → ℕ) (k : Kind) (a b : Rec) (keys : Bool) (one other : Option (List ℕ)) (alike : Bool) → keys ≡ same_keys a.key b.key → keys ≡ true → one ≡ option_map spelling (row_by k a.value) → other ≡ option_map spelling (row_by k b.value) →
    IfSome (row_by k a.value) FitsRow → IfSome (row_by k b.value) FitsRow → alike ≡ is_same_hash hash one other → alike ≡ collide (row_hash hash) k a b
both_told hash k a b keys one other alike same there is_one is_other f g is =
    is ∙ ap₂ (is_same_hash hash) is_one is_other ∙ hashed_alike hash (row_by k a.value) (row_by k b.value) f g
    ∙ sym (ap (λ t. t && rows_collide (row_hash hash) (row_by k a.value) (row_by k b.value)) (sym same ∙ there))

-- ---- the loop over a partition
module _ (hash : Row → ℕ) (k : Kind) where
  -- what is kept of the records before one, and what the rest of the search is
  pub record IsSearching (rows : Store) (recs : List (ℕ × Rec)) (i : ℕ) : Type 0 where
    pub keeps : (fits : (v : Row) → hash v < 2 ^ 128) → Keeps hash fits k rows (take i recs)
    pub rest : first_from hash k (take i recs) (drop i recs) ≡ first_in hash k recs

  pub begins : (recs : List (ℕ × Rec)) → IsSearching empty_store recs 0
  begins recs = record { keeps = λ fits. nothing_kept hash fits k; rest = refl }

  drop_one : (recs : List (ℕ × Rec)) (i : ℕ) (x : ℕ × Rec) → i < length recs → x ≡ get_or recs i x → drop i recs ≡ x ∷ drop (i + 1) recs
  drop_one [] i x h e = absurd (omega (arith, h))
  drop_one (y ∷ ys) zero x h e = ap (λ z. z ∷ ys) (sym e)
  drop_one (y ∷ ys) (suc i) x h e = rw add-one (drop_one ys i x (omega (arith, h)) e ∙ ap (λ j. x ∷ drop j ys) (add-one i))

  module _ (fits : (v : Row) → hash v < 2 ^ 128) (rows : Store) (recs : List (ℕ × Rec)) (i : ℕ) (x : ℕ × Rec) (h : i < length recs) (at : x ≡ get_or recs i x)
      (spelled : IfSome (row_by k x.1.value) FitsRow) (so : IsSearching rows recs i) where
    judged : Decided hash fits k rows (take i recs) x (meets_other rows (entry_of hash k x.1))
    judged = decided hash fits k rows (take i recs) x spelled (so.keeps fits)

    -- a record that meets no other row is passed
    pub passed : (new : Store) → meets_other rows (entry_of hash k x.1) ≡ false → new ≡ with_entry rows (entry_of hash k x.1) → IsSearching new recs (i + 1)
    passed new none is =
        let d = subst (Decided hash fits k rows (take i recs) x) none judged in
        let first : take (i + 1) recs ≡ take i recs ++ x ∷ [] = take_one recs i x h at in
        record {
          keeps = λ other. subst (λ (m : Store). Keeps hash other k m (take (i + 1) recs)) (sym is) (subst (Keeps hash other k (with_entry rows (entry_of hash k x.1))) (sym first) (again other));
          rest = ap (λ l. first_from hash k l (drop (i + 1) recs)) first ∙ sym (d.1 (drop (i + 1) recs)) ∙ sym (ap (first_from hash k (take i recs)) (drop_one recs i x h at)) ∙ so.rest;
        }
      where
        again : (other : (v : Row) → hash v < 2 ^ 128) → Keeps hash other k (with_entry rows (entry_of hash k x.1)) (take i recs ++ x ∷ [])
        again other = (subst (Decided hash other k rows (take i recs) x) none (decided hash other k rows (take i recs) x spelled (so.keeps other))).0

    -- one that meets another is the second of the first pair
    pub met : meets_other rows (entry_of hash k x.1) ≡ true → pair_at x (earlier hash k x.1 (take i recs)) ≡ first_in hash k recs
    met some =
        let d = subst (Decided hash fits k rows (take i recs) x) some judged in
        sym (d (drop (i + 1) recs)) ∙ sym (ap (first_from hash k (take i recs)) (drop_one recs i x h at)) ∙ so.rest

  pub ended : (rows : Store) (recs : List (ℕ × Rec)) (i : ℕ) → length recs ≤ i → IsSearching rows recs i → None ≡ first_in hash k recs
  ended rows recs i le so = sym (ap (first_from hash k (take i recs)) (none_left recs i le)) ∙ so.rest
    where
      none_left : (xs : List (ℕ × Rec)) (i : ℕ) → length xs ≤ i → drop i xs ≡ []
      none_left [] zero le = refl
      none_left [] (suc i) le = refl
      none_left (x ∷ xs) zero le = absurd (omega (arith, le))
      none_left (x ∷ xs) (suc i) le = none_left xs i (omega (arith, le))

-- what stands at one place is one
pub one_place : (recs : List (ℕ × Rec)) (i : ℕ) (x y : ℕ × Rec) → i < length recs → x ≡ get_or recs i x → y ≡ get_or recs i y → y ≡ x
one_place [] i x y h e f = absurd (omega (arith, h))
one_place (z ∷ zs) zero x y h e f = f ∙ sym e
one_place (z ∷ zs) (suc i) x y h e f = one_place zs i x y (omega (arith, h)) e f
