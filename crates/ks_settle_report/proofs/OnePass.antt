-- One pass finds the first pair: the first record of each key and hash stands for all of them, as long as none collide.
use Rattle.std.proofs.Common.{◌≡◌, ℕ, ◌<◌, ◌^◌, Bool, true, false, cond, not, ◌&&◌, List, [], ◌∷◌, ◌++◌, Option, Some, None, refl, sym, ap, ap₂, subst, ◌∙◌, nat_eq}
use Rattle.std.specs.Option.{option_or}
use Rattle.std.specs.Prelude.{option_map, IfSome}
use Rattle.std.specs.Ordering.{eq_by_cmp, is_eq}
use Rattle.std.specs.Int.{w128}
use Rattle.std.specs.Cmp.{tied_itself}
use Rattle.std.specs.Cmp.Lexicographic.{nat_list_cmp_total}
use Rattle.std.specs.FinMap.{slice_cmp-IsAntisymmetric, nat_cmp-IsAntisymmetric}
use Rattle.std.proofs.lemmas.Bool.{true≢false, and_parts, and_from}
use Rattle.std.proofs.lemmas.Bool.Decides.{Decides-eqb}
use Rattle.ks_record.specs.Records.{Record as Rec}
use Rattle.ks_row.specs.Reading.{number_at, row_from}
use Rattle.ks_row.specs.Spelling.{FitsRow, spelling}
use Rattle.ks_row.proofs.Spelled.{row_again}
use Rattle.ks_row.proofs.Fields.{number_again}
use Rattle.ks_def_runs.specs.FinMap as fin
use Rattle.ks_def_runs.specs.Bytes.{Store, by_bytes, empty_store}
use Rattle.ks_def_runs.proofs.Tables.{equal}
use Rattle.ks_wire.proofs.Wide.{wide128}
use Rattle.ks_expr.specs.Eval.{Row, same_bytes}
use Rattle.ks_plan.specs.Plan.{Kind}
use Rattle.ks_def_tasks.specs.Messages.{same_row}
use Rattle.ks_def_tasks.proofs.Same.{bytes-is, row-is}
use Rattle.ks_def_tasks.proofs.Itself.{row_itself}
use Rattle.ks_law_settled.specs.Collision.{row_by, same_keys, rows_collide, collide, earlier, pair_at, first_from}
use Rattle.ks_settle_report.specs.Search.{spot, entry, entry_of, is_other, meets_other, with_entry, search_from, HaveSpellings, OnePassFindsTheFirst}

bytes_itself : (k : List ℕ) → same_bytes k k ≡ true
bytes_itself k = ap is_eq (tied_itself nat_list_cmp_total k)

-- a record has this key, and a row with this hash
module _ (hash : Row → ℕ) (kind : Kind) (k : List ℕ) (h : ℕ) where
  abbrev one_with : ℕ → Option (List ℕ) → Option Row → Option (ℕ × Row)
  one_with offset (Some c) (Some v) = cond (same_bytes c k && nat_eq (hash v) h) (Some (offset, v)) None
  one_with offset c v = None

  abbrev first_with : List (ℕ × Rec) → Option (ℕ × Row)
  first_with [] = None
  first_with (x ∷ xs) = option_or (one_with x.0 x.1.key (row_by kind x.1.value)) (first_with xs)

  -- each row of this key with this hash is this one
  abbrev OneAlike : Row → Option (List ℕ) → Option Row → Type 0
  OneAlike w (Some c) (Some v) = (same_bytes c k && nat_eq (hash v) h) ≡ true → v ≡ w
  OneAlike w c v = Unit {0}

  abbrev Alike : Row → List (ℕ × Rec) → Type 0
  Alike w [] = Unit {0}
  Alike w (x ∷ xs) = OneAlike w x.1.key (row_by kind x.1.value) × Alike w xs

  first_more : (xs : List (ℕ × Rec)) (x : ℕ × Rec) → first_with (xs ++ x ∷ []) ≡ option_or (first_with xs) (one_with x.0 x.1.key (row_by kind x.1.value))
  first_more [] x = by (one_with x.0 x.1.key (row_by kind x.1.value))
    where
      by : (o : Option (ℕ × Row)) → option_or o None ≡ o
      by None = refl
      by (Some y) = refl
  first_more (y ∷ ys) x = by (one_with y.0 y.1.key (row_by kind y.1.value)) (first_more ys x)
    where
      by : (o : Option (ℕ × Row)) → first_with (ys ++ x ∷ []) ≡ option_or (first_with ys) (one_with x.0 x.1.key (row_by kind x.1.value)) →
          option_or o (first_with (ys ++ x ∷ [])) ≡ option_or (option_or o (first_with ys)) (one_with x.0 x.1.key (row_by kind x.1.value))
      by None e = e
      by (Some z) e = refl

  alike_more : (w : Row) (xs : List (ℕ × Rec)) (x : ℕ × Rec) → Alike w xs → OneAlike w x.1.key (row_by kind x.1.value) → Alike w (xs ++ x ∷ [])
  alike_more w [] x h e = (e, tt)
  alike_more w (y ∷ ys) x h e = (h.0, alike_more w ys x h.1 e)

  none_alike : (w : Row) (xs : List (ℕ × Rec)) → first_with xs ≡ None → Alike w xs
  none_alike w [] e = tt
  none_alike w (x ∷ xs) e = by x.1.key (row_by kind x.1.value) e (λ f. none_alike w xs f)
    where
      by : (c : Option (List ℕ)) (u : Option Row) → option_or (one_with x.0 c u) (first_with xs) ≡ None → (first_with xs ≡ None → Alike w xs) → OneAlike w c u × Alike w xs
      by None u f more = (tt, more f)
      by (Some c) None f more = (tt, more f)
      by (Some c) (Some u) f more = test (same_bytes c k && nat_eq (hash u) h) f
        where
          test : (b : Bool) → option_or (cond b (Some (x.0, u)) None) (first_with xs) ≡ None → (b ≡ true → u ≡ w) × Alike w xs
          test true g = absurd cc
          test false g = (λ t. absurd (true≢false (sym t)), more g)

-- ---- what a record collides with, by the first record of its key and hash
never : (sb nq s : Bool) → (sb && nq) ≡ false → (sb && (s && nq)) ≡ false
never true true s e = absurd (true≢false e)
never true false true e = refl
never true false false e = refl
never false nq s e = refl

and_false : (b : Bool) → (b && false) ≡ false
and_false true = refl
and_false false = refl

same_some : {A : Type 0} {x y : A} → Some x ≡ Some y → x ≡ y
same_some e = cc

module _ (hash : Row → ℕ) (kind : Kind) (r : Rec) where
  no_key : r.key ≡ None → (xs : List (ℕ × Rec)) → earlier hash kind r xs ≡ None
  no_key e [] = refl
  no_key e (x ∷ xs) = ap (λ b. cond b (Some x.0) (earlier hash kind r xs)) none ∙ no_key e xs
    where
      by : (c : Option (List ℕ)) (b : Bool) → (same_keys c None && b) ≡ false
      by None b = refl
      by (Some c) b = refl

      none : collide hash kind x.1 r ≡ false
      none = ap (λ k. same_keys x.1.key k && rows_collide hash (row_by kind x.1.value) (row_by kind r.value)) e ∙ by x.1.key _

  no_row : row_by kind r.value ≡ None → (xs : List (ℕ × Rec)) → earlier hash kind r xs ≡ None
  no_row e [] = refl
  no_row e (x ∷ xs) = ap (λ b. cond b (Some x.0) (earlier hash kind r xs)) none ∙ no_row e xs
    where
      by : (u : Option Row) → rows_collide hash u None ≡ false
      by None = refl
      by (Some u) = refl

      none : collide hash kind x.1 r ≡ false
      none = ap (λ v. same_keys x.1.key r.key && v) (ap (rows_collide hash (row_by kind x.1.value)) e ∙ by (row_by kind x.1.value)) ∙ and_false (same_keys x.1.key r.key)

  module _ (k : List ℕ) (v : Row) (key : r.key ≡ Some k) (row : row_by kind r.value ≡ Some v) where
    abbrev both : Option (List ℕ) → Option Row → Bool
    both c u = same_keys c (Some k) && rows_collide hash u (Some v)

    collides_is : (x : Rec) → collide hash kind x r ≡ both x.key (row_by kind x.value)
    collides_is x = ap₂ (λ (a : Option (List ℕ)) (b : Option Row). same_keys x.key a && rows_collide hash (row_by kind x.value) b) key row

    earlier_is : (x : ℕ × Rec) (xs : List (ℕ × Rec)) → earlier hash kind r (x ∷ xs) ≡ cond (both x.1.key (row_by kind x.1.value)) (Some x.0) (earlier hash kind r xs)
    earlier_is x xs = ap (λ b. cond b (Some x.0) (earlier hash kind r xs)) (collides_is x.1)

    -- where all rows are its own, there is none
    none_earlier : (w : Row) → same_row w v ≡ true → (xs : List (ℕ × Rec)) → Alike hash kind k (hash v) w xs → earlier hash kind r xs ≡ None
    none_earlier w same [] h = refl
    none_earlier w same (x ∷ xs) h = earlier_is x xs ∙ ap (λ b. cond b (Some x.0) (earlier hash kind r xs)) (by x.1.key (row_by kind x.1.value) h.0) ∙ none_earlier w same xs h.1
      where
        by : (c : Option (List ℕ)) (u : Option Row) → OneAlike hash kind k (hash v) w c u → both c u ≡ false
        by None u g = refl
        by (Some c) None g = and_false (same_bytes c k)
        by (Some c) (Some u) g = test (same_bytes c k && nat_eq (hash u) (hash v)) refl
          where
            test : (b : Bool) → (same_bytes c k && nat_eq (hash u) (hash v)) ≡ b → both (Some c) (Some u) ≡ false
            test true e = ap (λ s. same_bytes c k && (not s && nat_eq (hash u) (hash v))) (ap (λ y. same_row y v) (g e) ∙ same) ∙ and_false (same_bytes c k)
            test false e = never (same_bytes c k) (nat_eq (hash u) (hash v)) (not (same_row u v)) e

    abbrev Tells : Option (ℕ × Row) → Option ℕ → Type 0
    Tells None e = e ≡ None
    Tells (Some x) e = e ≡ cond (same_row x.1 v) None (Some x.0)

    abbrev AllAlike : List (ℕ × Rec) → Type 0
    AllAlike xs = (w : Row) (o : ℕ) → first_with hash kind k (hash v) xs ≡ Some (o, w) → Alike hash kind k (hash v) w xs

    told : (xs : List (ℕ × Rec)) → AllAlike xs → Tells (first_with hash kind k (hash v) xs) (earlier hash kind r xs)
    told [] alike = refl
    told (x ∷ xs) alike = subst (Tells (first_with hash kind k (hash v) (x ∷ xs))) (sym (earlier_is x xs)) (by x.1.key (row_by kind x.1.value) alike (λ h. told xs h))
      where
        by : (c : Option (List ℕ)) (u : Option Row) →
            ((w : Row) (o : ℕ) → option_or (one_with hash kind k (hash v) x.0 c u) (first_with hash kind k (hash v) xs) ≡ Some (o, w) → OneAlike hash kind k (hash v) w c u × Alike hash kind k (hash v) w xs) →
            (AllAlike xs → Tells (first_with hash kind k (hash v) xs) (earlier hash kind r xs)) →
            Tells (option_or (one_with hash kind k (hash v) x.0 c u) (first_with hash kind k (hash v) xs)) (cond (both c u) (Some x.0) (earlier hash kind r xs))
        by None u alike more = more (λ w o e. (alike w o e).1)
        by (Some c) None alike more = subst (λ b. Tells (first_with hash kind k (hash v) xs) (cond b (Some x.0) (earlier hash kind r xs))) (sym (and_false (same_bytes c k))) (more (λ w o e. (alike w o e).1))
        by (Some c) (Some u) alike more = test (same_bytes c k && nat_eq (hash u) (hash v)) refl alike
          where
            itself : (same_bytes c k && nat_eq (hash u) (hash v)) ≡ true → (s : Bool) → same_row u v ≡ s → Alike hash kind k (hash v) u xs → cond (both (Some c) (Some u)) (Some x.0) (earlier hash kind r xs) ≡ cond s None (Some x.0)
            itself e true f h =
                ap (λ s. cond (same_bytes c k && (not s && nat_eq (hash u) (hash v))) (Some x.0) (earlier hash kind r xs)) f
                ∙ ap (λ b. cond b (Some x.0) (earlier hash kind r xs)) (and_false (same_bytes c k)) ∙ none_earlier u f xs h
            itself e false f h =
                ap (λ s. cond (same_bytes c k && (not s && nat_eq (hash u) (hash v))) (Some x.0) (earlier hash kind r xs)) f
                ∙ ap (λ b. cond b (Some x.0) (earlier hash kind r xs)) e

            test : (b : Bool) → (same_bytes c k && nat_eq (hash u) (hash v)) ≡ b →
                ((w : Row) (o : ℕ) → option_or (cond b (Some (x.0, u)) None) (first_with hash kind k (hash v) xs) ≡ Some (o, w) → OneAlike hash kind k (hash v) w (Some c) (Some u) × Alike hash kind k (hash v) w xs) →
                Tells (option_or (cond b (Some (x.0, u)) None) (first_with hash kind k (hash v) xs)) (cond (both (Some c) (Some u)) (Some x.0) (earlier hash kind r xs))
            test true e alike = itself e (same_row u v) refl (alike u x.0 refl).1
            test false e alike = subst (λ b. Tells (first_with hash kind k (hash v) xs) (cond b (Some x.0) (earlier hash kind r xs))) (sym (never (same_bytes c k) (nat_eq (hash u) (hash v)) (not (same_row u v)) e)) (more (λ w o g. (alike w o g).1))

-- ---- spots
spots_apart : (k c : List ℕ) (h g : ℕ) → h < 2 ^ 128 → g < 2 ^ 128 → spot k h ≡ spot c g → (k ≡ c) × (h ≡ g)
spots_apart k c h g a b e =
    let one = number_again w128 (2 ^ 128) wide128 h k a in
    let other = number_again w128 (2 ^ 128) wide128 g c b in
    let same : (h, k) ≡ (g, c) = same_some (sym one ∙ ap (number_at w128) e ∙ other) in
    (ap (λ (x : ℕ × List ℕ). x.1) same, ap (λ (x : ℕ × List ℕ). x.0) same)

bytes_same : (a b : List ℕ) → eq_by_cmp by_bytes a b ≡ true → a ≡ b
bytes_same a b e = slice_cmp-IsAntisymmetric nat_cmp-IsAntisymmetric a b (equal (by_bytes a b) e)

option_or_none : {A : Type 0} (o : Option A) → option_or o None ≡ o
option_or_none None = refl
option_or_none (Some x) = refl

-- ---- rows
rows_one : (v w : Row) → FitsRow v → FitsRow w → spelling v ≡ spelling w → v ≡ w
rows_one v w f g e = same_some (sym (row_again v f) ∙ ap row_from e ∙ row_again w g)

-- ---- the pass
module _ (hash : Row → ℕ) (fits : (v : Row) → hash v < 2 ^ 128) (kind : Kind) where
  abbrev Spelled : ℕ × Rec → Type 0
  Spelled x = IfSome (row_by kind x.1.value) FitsRow

  -- what is kept of the records before: at each spot the row of the first with that key and hash, which is the row of each of them
  pub record Keeps (m : Store) (before : List (ℕ × Rec)) : Type 0 where
    pub at : (k : List ℕ) (h : ℕ) → h < 2 ^ 128 → fin.get m (spot k h) ≡ option_map (λ (y : ℕ × Row). spelling y.1) (first_with hash kind k h before)
    pub alike : (k : List ℕ) (h : ℕ) (w : Row) (o : ℕ) → first_with hash kind k h before ≡ Some (o, w) → Alike hash kind k h w before
    pub spelled : (k : List ℕ) (h : ℕ) (w : Row) (o : ℕ) → first_with hash kind k h before ≡ Some (o, w) → FitsRow w

  pub nothing_kept : Keeps empty_store []
  nothing_kept = record { at = λ k h lt. fin.get-empty by_bytes (spot k h); alike = λ k h w o e. tt; spelled = λ k h w o e. absurd (gone e) }
    where
      gone : {y : ℕ × Row} → None ≡ Some y → ⊥
      gone e = cc

  -- a test of a record's key and hash
  same_spot : (k c : List ℕ) (v : Row) (h : ℕ) → (same_bytes k c && nat_eq (hash v) h) ≡ true → (c ≡ k) × (h ≡ hash v)
  same_spot k c v h e =
      let both = and_parts (same_bytes k c) (nat_eq (hash v) h) e in
      (sym (bytes-is k c both.0), sym ((Decides-eqb (hash v) h).0 both.1))

  -- one more that says nothing
  still : (m : Store) (before : List (ℕ × Rec)) (x : ℕ × Rec) → ((k : List ℕ) (h : ℕ) → one_with hash kind k h x.0 x.1.key (row_by kind x.1.value) ≡ None) →
      ((k : List ℕ) (h : ℕ) (w : Row) → OneAlike hash kind k h w x.1.key (row_by kind x.1.value)) → Keeps m before → Keeps m (before ++ x ∷ [])
  still m before x none alike h = record {
    at = λ k g lt. h.at k g lt ∙ ap (option_map (λ (y : ℕ × Row). spelling y.1)) (sym (same k g));
    alike = λ k g w o e. alike_more hash kind k g w before x (h.alike k g w o (sym (same k g) ∙ e)) (alike k g w);
    spelled = λ k g w o e. h.spelled k g w o (sym (same k g) ∙ e);
  }
    where
      same : (k : List ℕ) (g : ℕ) → first_with hash kind k g (before ++ x ∷ []) ≡ first_with hash kind k g before
      same k g = first_more hash kind k g before x ∙ ap (option_or (first_with hash kind k g before)) (none k g) ∙ option_or_none (first_with hash kind k g before)

  module _ (x : ℕ × Rec) (k : List ℕ) (v : Row) (key : x.1.key ≡ Some k) (row : row_by kind x.1.value ≡ Some v) (its : FitsRow v) where
    abbrev one : List ℕ → ℕ → Option (ℕ × Row)
    one c h = cond (same_bytes k c && nat_eq (hash v) h) (Some (x.0, v)) None

    one_is : (c : List ℕ) (h : ℕ) → one_with hash kind c h x.0 x.1.key (row_by kind x.1.value) ≡ one c h
    one_is c h = ap₂ (λ (a : Option (List ℕ)) (b : Option Row). one_with hash kind c h x.0 a b) key row

    -- one more that is like those of its key and hash
    module _ (m : Store) (before : List (ℕ × Rec)) (like : (w : Row) (o : ℕ) → first_with hash kind k (hash v) before ≡ Some (o, w) → v ≡ w) (h : Keeps m before) where
      now_with : (c : List ℕ) (g : ℕ) → first_with hash kind c g (before ++ x ∷ []) ≡ option_or (first_with hash kind c g before) (one c g)
      now_with c g = first_more hash kind c g before x ∙ ap (option_or (first_with hash kind c g before)) (one_is c g)

      here : (c : List ℕ) (g : ℕ) (w : Row) → ((same_bytes k c && nat_eq (hash v) g) ≡ true → v ≡ w) → OneAlike hash kind c g w x.1.key (row_by kind x.1.value)
      here c g w f = subst (λ a. OneAlike hash kind c g w a (row_by kind x.1.value)) (sym key) (subst (λ (b : Option Row). OneAlike hash kind c g w (Some k) b) (sym row) f)

      abbrev With : List ℕ → ℕ → Row → Type 0
      With c g w = Alike hash kind c g w (before ++ x ∷ []) × FitsRow w

      with_one : (c : List ℕ) (g : ℕ) (w : Row) (o : ℕ) (f : Option (ℕ × Row)) → first_with hash kind c g before ≡ f → option_or (first_with hash kind c g before) (one c g) ≡ Some (o, w) → With c g w
      with_one c g w o (Some y) is e =
          let same : y ≡ (o, w) = same_some (sym (ap (λ z. option_or z (one c g)) is) ∙ e) in
          let first : first_with hash kind c g before ≡ Some (o, w) = is ∙ ap (λ z. Some z) same in (
            alike_more hash kind c g w before x (h.alike c g w o first)
                (here c g w (λ t. let s = same_spot k c v g t in like w o (sym (ap₂ (λ (a : List ℕ) (b : ℕ). first_with hash kind a b before) s.0 s.1) ∙ first))),
            h.spelled c g w o first,
          )
      with_one c g w o None is e = by (same_bytes k c && nat_eq (hash v) g) refl (sym (ap (λ z. option_or z (one c g)) is) ∙ e)
        where
          by : (t : Bool) → (same_bytes k c && nat_eq (hash v) g) ≡ t → cond {A = Option (ℕ × Row)} t (Some (x.0, v)) None ≡ Some (o, w) → With c g w
          by true t e =
              let same : v ≡ w = ap (λ (z : ℕ × Row). z.1) (same_some e) in
              (alike_more hash kind c g w before x (none_alike hash kind c g w before is) (here c g w (λ u. same)), subst FitsRow same its)
          by false t e = absurd cc

      kept_at : (c : List ℕ) (g : ℕ) → g < 2 ^ 128 → fin.get (fin.insert m (spot k (hash v)) (spelling v)) (spot c g) ≡ option_map (λ (y : ℕ × Row). spelling y.1) (option_or (first_with hash kind c g before) (one c g))
      kept_at c g lt = fin.get-insert nat_list_cmp_total m (spot k (hash v)) (spelling v) (spot c g) ∙ by (same_bytes k c && nat_eq (hash v) g) refl (eq_by_cmp by_bytes (spot c g) (spot k (hash v))) refl
        where
          there : (f : Option (ℕ × Row)) → first_with hash kind k (hash v) before ≡ f → Some (spelling v) ≡ option_map (λ (y : ℕ × Row). spelling y.1) (option_or f (Some (x.0, v)))
          there None e = refl
          there (Some y) e = ap (λ (w : Row). Some (spelling w)) (like y.1 y.0 e)

          by : (t : Bool) → (same_bytes k c && nat_eq (hash v) g) ≡ t → (b : Bool) → eq_by_cmp by_bytes (spot c g) (spot k (hash v)) ≡ b →
              cond b (Some (spelling v)) (fin.get m (spot c g)) ≡ option_map (λ (y : ℕ × Row). spelling y.1) (option_or (first_with hash kind c g before) (cond t (Some (x.0, v)) None))
          by true t true e =
              let s = same_spot k c v g t in
              there (first_with hash kind c g before) (sym (ap₂ (λ (a : List ℕ) (b : ℕ). first_with hash kind a b before) s.0 s.1))
          by true t false e =
              let s = same_spot k c v g t in
              let tied : eq_by_cmp by_bytes (spot c g) (spot k (hash v)) ≡ true = ap₂ (λ (a : List ℕ) (b : ℕ). eq_by_cmp by_bytes (spot a b) (spot k (hash v))) s.0 s.1 ∙ ap is_eq (tied_itself nat_list_cmp_total (spot k (hash v))) in
              absurd (true≢false (sym tied ∙ e))
          by false t true e =
              let s = spots_apart c k g (hash v) lt (fits v) (bytes_same (spot c g) (spot k (hash v)) e) in
              let same : (same_bytes k c && nat_eq (hash v) g) ≡ true =
              ap₂ (λ (a : List ℕ) (b : ℕ). same_bytes k a && nat_eq (hash v) b) s.0 s.1 ∙ and_from (same_bytes k k) (nat_eq (hash v) (hash v)) (bytes_itself k) ((Decides-eqb (hash v) (hash v)).1 refl) in
              absurd (true≢false (sym same ∙ t))
          by false t false e = h.at c g lt ∙ ap (option_map (λ (y : ℕ × Row). spelling y.1)) (sym (option_or_none (first_with hash kind c g before)))

      more : Keeps (fin.insert m (spot k (hash v)) (spelling v)) (before ++ x ∷ [])
      more = record {
        at = λ c g lt. kept_at c g lt ∙ ap (option_map (λ (y : ℕ × Row). spelling y.1)) (sym (now_with c g));
        alike = λ c g w o e. (with_one c g w o (first_with hash kind c g before) refl (sym (now_with c g) ∙ e)).0;
        spelled = λ c g w o e. (with_one c g w o (first_with hash kind c g before) refl (sym (now_with c g) ∙ e)).1;
      }

    module _ (m : Store) (before : List (ℕ × Rec)) (h : Keeps m before) where
      told_here : Tells hash kind x.1 k v key row (first_with hash kind k (hash v) before) (earlier hash kind x.1 before)
      told_here = told hash kind x.1 k v key row before (h.alike k (hash v))

      -- what the row at its spot says of what it collides with
      abbrev Judged : Bool → Type 0
      Judged true = (n : ℕ) × (earlier hash kind x.1 before ≡ Some n)
      Judged false = (earlier hash kind x.1 before ≡ None) × ((w : Row) (o : ℕ) → first_with hash kind k (hash v) before ≡ Some (o, w) → v ≡ w)

      judged_by : (f : Option (ℕ × Row)) → first_with hash kind k (hash v) before ≡ f → Judged (is_other (option_map (λ (y : ℕ × Row). spelling y.1) f) (spelling v))
      judged_by None e = (
        subst (λ o. Tells hash kind x.1 k v key row o (earlier hash kind x.1 before)) e told_here,
        λ w o g. absurd (gone (sym e ∙ g)),
      )
        where
          gone : {y : ℕ × Row} → None ≡ Some y → ⊥
          gone e = cc
      judged_by (Some y) e = by (same_bytes (spelling y.1) (spelling v)) refl
        where
          tells : earlier hash kind x.1 before ≡ cond (same_row y.1 v) None (Some y.0)
          tells = subst (λ o. Tells hash kind x.1 k v key row o (earlier hash kind x.1 before)) e told_here

          by : (b : Bool) → same_bytes (spelling y.1) (spelling v) ≡ b → Judged (not b)
          by true f =
              let same : y.1 ≡ v = rows_one y.1 v (h.spelled k (hash v) y.1 y.0 e) its (bytes-is (spelling y.1) (spelling v) f) in (
                tells ∙ ap (λ b. cond b None (Some y.0)) (subst (λ (w : Row). same_row w v ≡ true) (sym same) (row_itself v)),
                λ w o g. sym same ∙ ap (λ (z : ℕ × Row). z.1) (same_some (sym e ∙ g)),
              )
          by false f = (y.0, tells ∙ ap (λ b. cond b None (Some y.0)) (other (same_row y.1 v) refl))
            where
              other : (b : Bool) → same_row y.1 v ≡ b → b ≡ false
              other true g = absurd (true≢false (sym (subst (λ (w : Row). same_bytes (spelling w) (spelling v) ≡ true) (sym (row-is y.1 v g)) (bytes_itself (spelling v))) ∙ f))
              other false g = refl

      judged : Judged (is_other (fin.get m (spot k (hash v))) (spelling v))
      judged = subst (λ o. Judged (is_other o (spelling v))) (sym (h.at k (hash v) (fits v))) (judged_by (first_with hash kind k (hash v) before) refl)

  -- ---- one record
  -- what it meets decides: the pair is found, or the search goes on, and what is kept then is of this record too
  abbrev pub Decided : Store → List (ℕ × Rec) → ℕ × Rec → Bool → Type 0
  Decided m before x true = (xs : List (ℕ × Rec)) → first_from hash kind before (x ∷ xs) ≡ pair_at x (earlier hash kind x.1 before)
  Decided m before x false = Keeps (with_entry m (entry_of hash kind x.1)) (before ++ x ∷ []) × ((xs : List (ℕ × Rec)) → first_from hash kind before (x ∷ xs) ≡ first_from hash kind (before ++ x ∷ []) xs)

  goes_on : (before : List (ℕ × Rec)) (x : ℕ × Rec) → earlier hash kind x.1 before ≡ None → (xs : List (ℕ × Rec)) → first_from hash kind before (x ∷ xs) ≡ first_from hash kind (before ++ x ∷ []) xs
  goes_on before x e xs = ap (λ o. option_or (pair_at x o) (first_from hash kind (before ++ x ∷ []) xs)) e

  pub decided : (m : Store) (before : List (ℕ × Rec)) (x : ℕ × Rec) → Spelled x → Keeps m before → Decided m before x (meets_other m (entry_of hash kind x.1))
  decided m before x its h = by x.1.key refl (row_by kind x.1.value) refl
    where
      of : (e : Option (List ℕ × List ℕ)) → entry_of hash kind x.1 ≡ e → Keeps (with_entry m e) (before ++ x ∷ []) → earlier hash kind x.1 before ≡ None → Decided m before x false
      of e is keeps none = (subst (λ o. Keeps (with_entry m o) (before ++ x ∷ [])) (sym is) keeps, goes_on before x none)

      here : (k : List ℕ) → x.1.key ≡ Some k → (v : Row) → row_by kind x.1.value ≡ Some v → (b : Bool) → is_other (fin.get m (spot k (hash v))) (spelling v) ≡ b → Decided m before x b
      here k key v row true e =
          let n = subst (Judged x k v key row (subst (λ o. IfSome o FitsRow) row its) m before h) e (judged x k v key row (subst (λ o. IfSome o FitsRow) row its) m before h) in
          λ xs. ap (λ o. option_or (pair_at x o) (first_from hash kind (before ++ x ∷ []) xs)) n.1 ∙ sym (ap (pair_at x) n.1)
      here k key v row false e =
          let f : FitsRow v = subst (λ o. IfSome o FitsRow) row its in
          let n = subst (Judged x k v key row f m before h) e (judged x k v key row f m before h) in
          of (Some (spot k (hash v), spelling v)) (ap₂ (entry hash) key row) (more x k v key row f m before n.1 h) n.0

      by : (c : Option (List ℕ)) → x.1.key ≡ c → (u : Option Row) → row_by kind x.1.value ≡ u → Decided m before x (meets_other m (entry_of hash kind x.1))
      by None key u row = subst (λ o. Decided m before x (meets_other m o)) (sym (ap (λ c. entry hash c (row_by kind x.1.value)) key))
          (of None (ap (λ c. entry hash c (row_by kind x.1.value)) key)
          (still m before x (λ k g. ap (λ (c : Option (List ℕ)). one_with hash kind k g x.0 c (row_by kind x.1.value)) key) (λ k g w. subst (λ c. OneAlike hash kind k g w c (row_by kind x.1.value)) (sym key) tt) h)
          (no_key hash kind x.1 key before))
      by (Some k) key None row = subst (λ o. Decided m before x (meets_other m o)) (sym (ap₂ (entry hash) key row))
          (of None (ap₂ (entry hash) key row)
          (still m before x (λ c g. ap₂ (λ (a : Option (List ℕ)) (b : Option Row). one_with hash kind c g x.0 a b) key row)
          (λ c g w. subst (λ (a : Option (List ℕ)). OneAlike hash kind c g w a (row_by kind x.1.value)) (sym key) (subst (λ (b : Option Row). OneAlike hash kind c g w (Some k) b) (sym row) tt)) h)
          (no_row hash kind x.1 row before))
      by (Some k) key (Some v) row = subst (λ o. Decided m before x (meets_other m o)) (sym (ap₂ (entry hash) key row)) (here k key v row (is_other (fin.get m (spot k (hash v))) (spelling v)) refl)

  pass : (m : Store) (before xs : List (ℕ × Rec)) → HaveSpellings kind xs → Keeps m before → search_from hash kind m before xs ≡ first_from hash kind before xs
  pass m before [] spelled h = refl
  pass m before (x ∷ xs) spelled h = by (meets_other m (entry_of hash kind x.1)) (decided m before x spelled.0 h) (λ n g. pass n (before ++ x ∷ []) xs spelled.1 g)
    where
      by : (b : Bool) → Decided m before x b → ((n : Store) → Keeps n (before ++ x ∷ []) → search_from hash kind n (before ++ x ∷ []) xs ≡ first_from hash kind (before ++ x ∷ []) xs) →
          cond b (pair_at x (earlier hash kind x.1 before)) (search_from hash kind (with_entry m (entry_of hash kind x.1)) (before ++ x ∷ []) xs) ≡ first_from hash kind before (x ∷ xs)
      by true d go = sym (d xs)
      by false d go = go (with_entry m (entry_of hash kind x.1)) d.0 ∙ sym (d.1 xs)

pub one_pass_finds_the_first : OnePassFindsTheFirst
one_pass_finds_the_first hash fits kind xs spelled = pass hash fits kind empty_store [] xs spelled (nothing_kept hash fits kind)
