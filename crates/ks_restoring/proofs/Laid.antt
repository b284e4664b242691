-- The pairs of a prefix of a map over which records are written: of the map only its own pairs of the prefix count.
use Rattle.std.proofs.Common.{◌≡◌, ℕ, Bool, true, false, cond, List, [], ◌∷◌, ◌++◌, Option, Some, None, refl, sym, ap, ap₂, ◌∙◌}
use Rattle.std.specs.Prelude.{◌==◌}
use Rattle.std.specs.List.{starts_with}
use Rattle.std.specs.Option.{option_or}
use Rattle.std.specs.Ordering.{eq_by_cmp}
use Rattle.std.specs.declared.cmp.Ordering.TheVariants.{Equal}
use Rattle.std.specs.FinMap.{slice_cmp-IsAntisymmetric, nat_cmp-IsAntisymmetric}
use Rattle.std.specs.FinMap.Entries.{find, find-where_key}
use Rattle.std.proofs.lemmas.Cmp.{nat_list_cmp_total}
use Rattle.ks_record.specs.Records.{Record as Rec}
use Rattle.ks_def_runs.specs.Bytes.{Store, by_bytes, empty_store}
use Rattle.ks_def_runs.specs.FinMap as fin
use Rattle.ks_def_runs.specs.Prefixes.{pairs_under}
use Rattle.ks_history.specs.Machine.{latest_from}
use Rattle.ks_restoring.specs.Waiting.{overlaid}
use Rattle.ks_restoring.proofs.Latest.{one_map, found_by, get_latest}

abbrev pub Pairs : Type 0
Pairs = List (List ℕ × List ℕ)

get_overlaid : (es : Pairs) (m : Store) (q : List ℕ) → fin.get (overlaid es m) q ≡ option_or (find by_bytes q es) (fin.get m q)
get_overlaid [] m q = refl
get_overlaid (e ∷ es) m q = fin.get-insert nat_list_cmp_total (overlaid es m) e.0 e.1 q ∙ by (eq_by_cmp by_bytes q e.0) (get_overlaid es m q)
  where
    by : (b : Bool) → fin.get (overlaid es m) q ≡ option_or (find by_bytes q es) (fin.get m q) → cond b (Some e.1) (fin.get (overlaid es m) q) ≡ option_or (cond b (Some e.1) (find by_bytes q es)) (fin.get m q)
    by true h = refl
    by false h = h

pub last_over : (es : Pairs) (e : List ℕ × List ℕ) (m : Store) → overlaid (es ++ e ∷ []) m ≡ overlaid es (fin.insert m e.0 e.1)
last_over [] e m = refl
last_over (x ∷ es) e m = ap (λ (n : Store). fin.insert n x.0 x.1) (last_over es e m)

or_none : (o : Option (List ℕ)) → option_or o None ≡ o
or_none None = refl
or_none (Some x) = refl

module _ (front : List ℕ) where
  abbrev begins : List ℕ → Bool
  begins k = starts_with ◌==◌ k front

  alike : (q x : List ℕ) → by_bytes q x ≡ Equal → begins x ≡ begins q
  alike q x e = ap begins (sym (slice_cmp-IsAntisymmetric nat_cmp-IsAntisymmetric q x e))

  kept : (m : Store) (q : List ℕ) → fin.get (fin.retain_keys m begins) q ≡ cond (begins q) (fin.get m q) None
  kept m q = fin.get-retain_keys m begins q (alike q)

  under_found : (m : Store) (q : List ℕ) → begins q ≡ true → fin.get (overlaid (pairs_under front m) empty_store) q ≡ fin.get m q
  under_found m q e =
      get_overlaid (pairs_under front m) empty_store q
      ∙ (ap₂ option_or (find-where_key by_bytes begins q (alike q) (fin.entries m) ∙ ap (λ b. cond b (find by_bytes q (fin.entries m)) None) e) (fin.get-empty by_bytes q)
      ∙ (or_none (find by_bytes q (fin.entries m)) ∙ sym (fin.get-entries m q)))

  pub laid : (m : Store) (rs : List Rec) → pairs_under front (latest_from (overlaid (pairs_under front m) empty_store) rs) ≡ pairs_under front (latest_from m rs)
  laid m rs =
      sym (fin.entries-retain_keys (latest_from (overlaid (pairs_under front m) empty_store) rs) begins)
      ∙ (ap (λ (n : Store). fin.entries n) (one_map _ _ (λ q. kept (latest_from (overlaid (pairs_under front m) empty_store) rs) q ∙ (by q (begins q) refl ∙ sym (kept (latest_from m rs) q))))
      ∙ fin.entries-retain_keys (latest_from m rs) begins)
    where
      by : (q : List ℕ) (b : Bool) → begins q ≡ b → cond (begins q) (fin.get (latest_from (overlaid (pairs_under front m) empty_store) rs) q) None ≡ cond (begins q) (fin.get (latest_from m rs) q) None
      by q false e = rw e refl
      by q true e = ap (λ o. cond (begins q) o None)
          (get_latest (overlaid (pairs_under front m) empty_store) rs q ∙ (ap (found_by q rs) (under_found m q e) ∙ sym (get_latest m rs q)))
