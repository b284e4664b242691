-- A table that is read from the pairs of a store of bytes: what it has at a key, and what one more record makes of it.
use Rattle.std.proofs.Common.{◌≡◌, ℕ, Bool, true, false, cond, T, ◌==◌, List, [], ◌∷◌, length, Option, Some, None, fold, refl, sym, ap, subst, ◌∙◌}
use Rattle.std.specs.Prelude.{option_map, nat_le}
use Rattle.std.specs.Ordering.{eq_by_cmp, is_eq}
use Rattle.std.specs.Cmp.{tied_itself}
use Rattle.std.specs.Cmp.Lexicographic.{nat_list_cmp_total}
use Rattle.std.specs.FinMap.{slice_cmp-IsAntisymmetric, nat_cmp-IsAntisymmetric}
use Rattle.std.specs.FinMap.Entries.{find, is_sorted, below_all}
use Rattle.std.specs.Str.{is_utf8}
use Rattle.ks_record.specs.Texts.{key_from, key_of}
use Rattle.ks_def_runs.specs.FinMap as fin
use Rattle.ks_def_runs.specs.FinMap.{FinMap}
use Rattle.ks_def_runs.specs.Bytes.{by_bytes, Store as ByteStore}
use Rattle.ks_def_runs.specs.Table.{write}
use Rattle.ks_def_runs.proofs.Tables.{equal, get-write, find_below, head_of, tail_of}
use Rattle.ks_def_tasks.specs.Bytes.{with_pair, map_from}

-- a key is read as it is
if_key : (b : Bool) (o : Option (List ℕ)) (k : List ℕ) → cond b o None ≡ Some k → o ≡ Some k
if_key true o k e = e
if_key false o k e = absurd (cc)

key_of-is : (s k : List ℕ) → key_of s ≡ Some k → k ≡ s
key_of-is s k e = elim (length s == 0) as (λ b. cond b None (cond (nat_le (length s) 1024) (Some s) None) ≡ Some k → k ≡ s) [
  | true ↦ λ f. absurd (cc)
  | false ↦ λ f. elim (nat_le (length s) 1024) as (λ c. cond c (Some s) None ≡ Some k → k ≡ s) [ true ↦ λ g. cc | false ↦ λ g. absurd (cc) ] f
] e

pub key_from-is : (s k : List ℕ) → key_from s ≡ Some k → k ≡ s
key_from-is s k e = key_of-is s k (if_key (is_utf8 s) (key_of s) k e)

same_key : (q k : List ℕ) → eq_by_cmp by_bytes q k ≡ true → q ≡ k
same_key q k e = slice_cmp-IsAntisymmetric nat_cmp-IsAntisymmetric q k (equal (by_bytes q k) e)

module _ {X : Type 0} (read : List ℕ → Option X) where
  -- what a pair gives, over what was there
  abbrev seen : Option (List ℕ) → Option X → Option X → Option X
  seen (Some k) (Some x) old = Some x
  seen (Some k) None old = old
  seen None x old = old

  abbrev take_pair : FinMap by_bytes X → List ℕ × List ℕ → FinMap by_bytes X
  take_pair m e = with_pair by_bytes m (key_from e.0) (read e.1)

  pair_here : (m : FinMap by_bytes X) (b : List ℕ) (ok : Option (List ℕ)) (ox : Option X) → key_from b ≡ ok → fin.get (with_pair by_bytes m ok ox) b ≡ seen ok ox (fin.get m b)
  pair_here m b None None e = refl
  pair_here m b None (Some x) e = refl
  pair_here m b (Some k) None e = refl
  pair_here m b (Some k) (Some x) e =
      fin.get-insert nat_list_cmp_total m k x b ∙ ap (λ c. cond (eq_by_cmp by_bytes b c) (Some x) (fin.get m b)) (key_from-is b k e) ∙ ap (λ r. cond (is_eq r) (Some x) (fin.get m b)) (tied_itself nat_list_cmp_total b)

  pair_else : (m : FinMap by_bytes X) (b q : List ℕ) (ok : Option (List ℕ)) (ox : Option X) → key_from b ≡ ok → eq_by_cmp by_bytes q b ≡ false → fin.get (with_pair by_bytes m ok ox) q ≡ fin.get m q
  pair_else m b q None None e f = refl
  pair_else m b q None (Some x) e f = refl
  pair_else m b q (Some k) None e f = refl
  pair_else m b q (Some k) (Some x) e f =
      fin.get-insert nat_list_cmp_total m k x q ∙ ap (λ c. cond (eq_by_cmp by_bytes q c) (Some x) (fin.get m q)) (key_from-is b k e) ∙ ap (λ c. cond c (Some x) (fin.get m q)) f

  abbrev after : List ℕ → Option X → Option (List ℕ) → Option X
  after q old None = old
  after q old (Some v) = seen (key_from q) (read v) old

  get-pairs : (es : List (List ℕ × List ℕ)) → T (is_sorted by_bytes es) → (m : FinMap by_bytes X) (q : List ℕ) → fin.get (fold take_pair m es) q ≡ after q (fin.get m q) (find by_bytes q es)
  get-pairs [] h m q = refl
  get-pairs (e ∷ es) h m q =
      let rest = get-pairs es (tail_of (below_all by_bytes e.0 es) (is_sorted by_bytes es) h) (take_pair m e) q in
      rest ∙ elim (eq_by_cmp by_bytes q e.0) as (λ b. eq_by_cmp by_bytes q e.0 ≡ b →
      after q (fin.get (take_pair m e) q) (find by_bytes q es) ≡ after q (fin.get m q) (cond b (Some e.1) (find by_bytes q es))) [
        | true ↦ λ t.
            let same : e.0 ≡ q = sym (same_key q e.0 t) in
            let none : find by_bytes q es ≡ None = subst (λ k. find by_bytes k es ≡ None) same (find_below nat_list_cmp_total (λ x. 0) e.0 es (head_of (below_all by_bytes e.0 es) (is_sorted by_bytes es) h)) in
            ap (after q (fin.get (take_pair m e) q)) none ∙ subst (λ k. fin.get (with_pair by_bytes m (key_from k) (read e.1)) q ≡ seen (key_from q) (read e.1) (fin.get m q)) (sym same) (pair_here m q (key_from q) (read e.1) refl)
        | false ↦ λ t. ap (λ o. after q o (find by_bytes q es)) (pair_else m e.0 q (key_from e.0) (read e.1) refl t)
      ] refl

  -- what a table has at a key: the value that the pair there spells
  pub get-map_from : (m : ByteStore) (q : List ℕ) → fin.get (map_from by_bytes key_from read (fin.entries m)) q ≡ after q None (fin.get m q)
  get-map_from m q = get-pairs (fin.entries m) (fin.entries_sorted m) fin.empty q
      ∙ ap (λ o. after q o (find by_bytes q (fin.entries m))) (fin.get-empty by_bytes q) ∙ ap (after q None) (sym (fin.get-entries m q))

  module _ (spell : X → List ℕ) where
    -- the value is read again from its bytes
    abbrev pub IsReadAgain : Option X → Type 0
    IsReadAgain None = Unit {0}
    IsReadAgain (Some x) = read (spell x) ≡ Some x

    here_again : (k : List ℕ) (w : Option X) → key_from k ≡ Some k → IsReadAgain w → after k None (option_map spell w) ≡ w
    here_again k None e h = refl
    here_again k (Some x) e h = rw (e, h) refl

    -- one more record of a changelog is one write of the table
    pub write-pair : (m : ByteStore) (k : List ℕ) (w : Option X) → key_from k ≡ Some k → IsReadAgain w →
        map_from by_bytes key_from read (fin.entries (write by_bytes m k (option_map spell w))) ≡ write by_bytes (map_from by_bytes key_from read (fin.entries m)) k w
    write-pair m k w e h = fin.same_map nat_list_cmp_total (slice_cmp-IsAntisymmetric nat_cmp-IsAntisymmetric) _ _ (λ q.
        get-map_from (write by_bytes m k (option_map spell w)) q
        ∙ ap (after q None) (get-write nat_list_cmp_total m k (option_map spell w) q)
        ∙ elim (eq_by_cmp by_bytes q k) as (λ b. eq_by_cmp by_bytes q k ≡ b →
        after q None (cond b (option_map spell w) (fin.get m q)) ≡ cond b w (fin.get (map_from by_bytes key_from read (fin.entries m)) q)) [
          | true ↦ λ t. subst (λ c. after c None (option_map spell w) ≡ w) (sym (same_key q k t)) (here_again k w e h)
          | false ↦ λ t. sym (get-map_from m q)
        ] refl
        ∙ sym (get-write nat_list_cmp_total (map_from by_bytes key_from read (fin.entries m)) k w q))
