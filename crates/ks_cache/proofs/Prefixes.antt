-- The pairs of a prefix of a map with pairs over it: of the map only its own pairs of the prefix count.
use Rattle.std.proofs.Common.{◌≡◌, ℕ, Bool, true, false, cond, List, [], ◌∷◌, ◌++◌, Option, Some, None, refl, sym, ap, ap₂, ◌∙◌}
use Rattle.std.specs.Prelude.{◌==◌}
use Rattle.std.specs.List.{starts_with}
use Rattle.std.specs.Option.{option_or}
use Rattle.std.specs.declared.cmp.Ordering.TheVariants.{Equal}
use Rattle.std.specs.FinMap.{IsAntisymmetric, slice_cmp-IsAntisymmetric, nat_cmp-IsAntisymmetric}
use Rattle.std.specs.FinMap.Entries.{find, find-where_key}
use Rattle.ks_def_runs.specs.Bytes.{Store, by_bytes, empty_store}
use Rattle.ks_def_runs.specs.FinMap as fin
use Rattle.ks_def_runs.specs.Prefixes.{pairs_under}
use Rattle.ks_cache.specs.Lists.{Pairs, overlaid, under}
use Rattle.ks_cache.proofs.Overlaid.{one_map, get_overlaid}

bytes_anti : IsAntisymmetric by_bytes
bytes_anti = slice_cmp-IsAntisymmetric nat_cmp-IsAntisymmetric

module _ (front : List ℕ) where
  abbrev begins : List ℕ → Bool
  begins k = starts_with ◌==◌ k front

  alike : (q x : List ℕ) → by_bytes q x ≡ Equal → begins x ≡ begins q
  alike q x e = ap begins (sym (bytes_anti q x e))

  kept : (m : Store) (q : List ℕ) → fin.get (fin.retain_keys m begins) q ≡ cond (begins q) (fin.get m q) None
  kept m q = fin.get-retain_keys m begins q (alike q)

  or_none : (o : Option (List ℕ)) → option_or o None ≡ o
  or_none None = refl
  or_none (Some x) = refl

  under_found : (m : Store) (q : List ℕ) → begins q ≡ true → fin.get (overlaid (pairs_under front m) empty_store) q ≡ fin.get m q
  under_found m q e =
      get_overlaid (pairs_under front m) empty_store q
      ∙ (ap₂ option_or (find-where_key by_bytes begins q (alike q) (fin.entries m) ∙ ap (λ b. cond b (find by_bytes q (fin.entries m)) None) e) (fin.get-empty by_bytes q)
      ∙ (or_none (find by_bytes q (fin.entries m)) ∙ sym (fin.get-entries m q)))

  found_under : (es : Pairs) (q : List ℕ) → begins q ≡ true → find by_bytes q (under front es) ≡ find by_bytes q es
  found_under es q e = find-where_key by_bytes begins q (alike q) es ∙ ap (λ b. cond b (find by_bytes q es) None) e

  pub laid : (es : Pairs) (m : Store) → pairs_under front (overlaid (under front es) (overlaid (pairs_under front m) empty_store)) ≡ pairs_under front (overlaid es m)
  laid es m =
      sym (fin.entries-retain_keys (overlaid (under front es) (overlaid (pairs_under front m) empty_store)) begins)
      ∙ (ap (λ (n : Store). fin.entries n) (one_map _ _ (λ q. kept (overlaid (under front es) (overlaid (pairs_under front m) empty_store)) q ∙ (by q (begins q) refl ∙ sym (kept (overlaid es m) q))))
      ∙ fin.entries-retain_keys (overlaid es m) begins)
    where
      by : (q : List ℕ) (b : Bool) → begins q ≡ b → cond (begins q) (fin.get (overlaid (under front es) (overlaid (pairs_under front m) empty_store)) q) None ≡ cond (begins q) (fin.get (overlaid es m) q) None
      by q false e = rw e refl
      by q true e = ap (λ o. cond (begins q) o None)
          (get_overlaid (under front es) (overlaid (pairs_under front m) empty_store) q
          ∙ (ap₂ option_or (found_under es q e) (under_found m q e) ∙ sym (get_overlaid es m q)))

  -- of two lists of pairs, one after the other
  pub under_both : (xs ys : Pairs) → under front (xs ++ ys) ≡ under front xs ++ under front ys
  under_both [] ys = refl
  under_both (x ∷ xs) ys = one (begins x.0) (under_both xs ys)
    where
      one : (b : Bool) → under front (xs ++ ys) ≡ under front xs ++ under front ys → cond b (x ∷ under front (xs ++ ys)) (under front (xs ++ ys)) ≡ cond b (x ∷ under front xs) (under front xs) ++ under front ys
      one true h = ap (λ (l : Pairs). x ∷ l) h
      one false h = h
