-- A map that is read from the pairs of a store of bytes by keys that are read too: one more record is one write, or none.
use Rattle.std.proofs.Common.{◌≡◌, ℕ, Bool, true, false, cond, not, T, List, [], ◌∷◌, Option, Some, None, fold, refl, sym, ap, subst, ◌∙◌}
use Rattle.std.specs.Prelude.{option_map}
use Rattle.std.specs.declared.cmp.Ordering.{Ordering}
use Rattle.std.specs.declared.cmp.Ordering.TheVariants.{Less, Equal, Greater}
use Rattle.std.specs.Ordering.{eq_by_cmp, is_eq}
use Rattle.std.specs.Cmp.{IsTotalOrder, tied_itself}
use Rattle.std.specs.Cmp.Lexicographic.{nat_list_cmp_total}
use Rattle.std.specs.FinMap.{IsAntisymmetric, slice_cmp-IsAntisymmetric, nat_cmp-IsAntisymmetric}
use Rattle.std.specs.FinMap.Entries.{find, put, by_order, where_key, is_sorted, below_all}
use Rattle.ks_def_runs.specs.FinMap as fin
use Rattle.ks_def_runs.specs.FinMap.{FinMap}
use Rattle.ks_def_runs.specs.Bytes.{by_bytes, Store as ByteStore}
use Rattle.ks_def_runs.specs.Table.{write}
use Rattle.ks_def_runs.proofs.Tables.{equal, get-write, get-write_here, find_below, head_of, tail_of}
use Rattle.ks_def_tasks.specs.Bytes.{with_pair, map_from}

same_bytes_is : (q k : List ℕ) → eq_by_cmp by_bytes q k ≡ true → q ≡ k
same_bytes_is q k e = slice_cmp-IsAntisymmetric nat_cmp-IsAntisymmetric q k (equal (by_bytes q k) e)

module _ {K X : Type 0} (R : K → K → Ordering) (o : IsTotalOrder R) (anti : IsAntisymmetric R) (readk : List ℕ → Option K) (read : List ℕ → Option X) where
  -- what a pair gives at a key, over what was there
  abbrev one : K → Option K → Option X → Option X → Option X
  one k (Some c) (Some x) old = cond (eq_by_cmp R k c) (Some x) old
  one k (Some c) None old = old
  one k None x old = old

  abbrev over : K → Option X → List (List ℕ × List ℕ) → Option X
  over k old [] = old
  over k old (e ∷ es) = over k (one k (readk e.0) (read e.1) old) es

  get-pair : (m : FinMap R X) (k : K) (ok : Option K) (ox : Option X) → fin.get (with_pair R m ok ox) k ≡ one k ok ox (fin.get m k)
  get-pair m k None None = refl
  get-pair m k None (Some x) = refl
  get-pair m k (Some c) None = refl
  get-pair m k (Some c) (Some x) = fin.get-insert o m c x k

  get-pairs : (es : List (List ℕ × List ℕ)) (m : FinMap R X) (k : K) → fin.get (fold (λ m e. with_pair R m (readk e.0) (read e.1)) m es) k ≡ over k (fin.get m k) es
  get-pairs [] m k = refl
  get-pairs (e ∷ es) m k = get-pairs es (with_pair R m (readk e.0) (read e.1)) k ∙ ap (λ x. over k x es) (get-pair m k (readk e.0) (read e.1))

  pub get-read : (es : List (List ℕ × List ℕ)) (k : K) → fin.get (map_from R readk read es) k ≡ over k None es
  get-read es k = get-pairs es fin.empty k ∙ ap (λ x. over k x es) (fin.get-empty R k)

  -- ---- a pair that says nothing of a key
  abbrev pub Hidden : K → List ℕ → Type 0
  Hidden k b = (x : Option X) (old : Option X) → one k (readk b) x old ≡ old

  skip_put : (k : K) (b v : List ℕ) → Hidden k b → (es : List (List ℕ × List ℕ)) (old : Option X) → over k old (put by_bytes b v es) ≡ over k old es
  skip_put k b v h [] old = h (read v) old
  skip_put k b v h (e ∷ es) old = elim (by_bytes b e.0) as (λ r. by_bytes b e.0 ≡ r → over k old (by_order r ((b, v) ∷ e ∷ es) ((e.0, v) ∷ es) (e ∷ put by_bytes b v es)) ≡ over k old (e ∷ es)) [
    | Less ↦ λ p. ap (λ x. over k x (e ∷ es)) (h (read v) old)
    | Equal ↦ λ p.
        let same : b ≡ e.0 = slice_cmp-IsAntisymmetric nat_cmp-IsAntisymmetric b e.0 p in
        let hidden : Hidden k e.0 = subst (Hidden k) same h in
        ap (λ x. over k x es) (hidden (read v) old ∙ sym (hidden (read e.1) old))
    | Greater ↦ λ p. skip_put k b v h es (one k (readk e.0) (read e.1) old)
  ] refl

  skip_remove : (k : K) (b : List ℕ) → Hidden k b → (es : List (List ℕ × List ℕ)) (old : Option X) → over k old (where_key by_bytes (λ x. not (eq_by_cmp by_bytes b x)) es) ≡ over k old es
  skip_remove k b h [] old = refl
  skip_remove k b h (e ∷ es) old = elim (eq_by_cmp by_bytes b e.0) as (λ c. eq_by_cmp by_bytes b e.0 ≡ c →
      over k old (cond (not c) (e ∷ where_key by_bytes (λ x. not (eq_by_cmp by_bytes b x)) es) (where_key by_bytes (λ x. not (eq_by_cmp by_bytes b x)) es)) ≡ over k old (e ∷ es)) [
        | true ↦ λ t.
            let hidden : Hidden k e.0 = subst (Hidden k) (same_bytes_is b e.0 t) h in
            skip_remove k b h es old ∙ ap (λ x. over k x es) (sym (hidden (read e.1) old))
        | false ↦ λ t. skip_remove k b h es (one k (readk e.0) (read e.1) old)
      ] refl

  entries_remove : (m : ByteStore) (b : List ℕ) → fin.entries (fin.remove m b) ≡ where_key by_bytes (λ x. not (eq_by_cmp by_bytes b x)) (fin.entries m)
  unfolding fin.remove
  entries_remove m b = fin.entries-retain_keys m (λ x. not (eq_by_cmp by_bytes b x))

  pub skip_write : (k : K) (m : ByteStore) (b : List ℕ) (w : Option (List ℕ)) → Hidden k b → over k None (fin.entries (write by_bytes m b w)) ≡ over k None (fin.entries m)
  skip_write k m b None h = ap (over k None) (entries_remove m b) ∙ skip_remove k b h (fin.entries m) None
  skip_write k m b (Some v) h = ap (over k None) (fin.entries-insert nat_list_cmp_total m b v) ∙ skip_put k b v h (fin.entries m) None

  -- ---- the one pair that says something of a key
  -- no other bytes among these are read as the key
  abbrev pub Alone : K → List ℕ → List (List ℕ × List ℕ) → Type 0
  Alone k b [] = Unit {0}
  Alone k b (e ∷ es) = ((c : K) → readk e.0 ≡ Some c → eq_by_cmp R k c ≡ true → e.0 ≡ b) × Alone k b es

  unread : (k : K) (b d : List ℕ) (ok : Option K) (x old : Option X) → readk d ≡ ok → ((c : K) → readk d ≡ Some c → eq_by_cmp R k c ≡ true → d ≡ b) → eq_by_cmp by_bytes b d ≡ false → one k ok x old ≡ old
  unread k b d None x old e only f = refl
  unread k b d (Some c) None old e only f = refl
  unread k b d (Some c) (Some x) old e only f = elim (eq_by_cmp R k c) as (λ t. eq_by_cmp R k c ≡ t → cond t (Some x) old ≡ old) [
    | true ↦ λ t.
        let same : d ≡ b = only c e t in
        let tied : eq_by_cmp by_bytes b d ≡ true = subst (λ y. eq_by_cmp by_bytes b y ≡ true) (sym same) (ap is_eq (tied_itself nat_list_cmp_total b)) in
        absurd (cc)
    | false ↦ λ t. refl
  ] refl

  abbrev found : K → List ℕ → Option (List ℕ) → Option X → Option X
  found k b None old = old
  found k b (Some v) old = one k (readk b) (read v) old

  over_alone : (k : K) (b : List ℕ) (es : List (List ℕ × List ℕ)) → T (is_sorted by_bytes es) → Alone k b es → (old : Option X) → over k old es ≡ found k b (find by_bytes b es) old
  over_alone k b [] s h old = refl
  over_alone k b (e ∷ es) s h old = elim (eq_by_cmp by_bytes b e.0) as (λ t. eq_by_cmp by_bytes b e.0 ≡ t →
      over k (one k (readk e.0) (read e.1) old) es ≡ found k b (cond t (Some e.1) (find by_bytes b es)) old) [
        | true ↦ λ t.
            let same : e.0 ≡ b = sym (same_bytes_is b e.0 t) in
            let none : find by_bytes b es ≡ None = subst (λ d. find by_bytes d es ≡ None) same (find_below nat_list_cmp_total (λ x. 0) e.0 es (head_of (below_all by_bytes e.0 es) (is_sorted by_bytes es) s)) in
            over_alone k b es (tail_of (below_all by_bytes e.0 es) (is_sorted by_bytes es) s) h.1 (one k (readk e.0) (read e.1) old)
            ∙ ap (λ f. found k b f (one k (readk e.0) (read e.1) old)) none ∙ ap (λ d. one k (readk d) (read e.1) old) same
        | false ↦ λ t.
            over_alone k b es (tail_of (below_all by_bytes e.0 es) (is_sorted by_bytes es) s) h.1 (one k (readk e.0) (read e.1) old)
            ∙ ap (found k b (find by_bytes b es)) (unread k b e.0 (readk e.0) (read e.1) old refl h.0 t)
      ] refl

  pub over_here : (k : K) (b : List ℕ) (m : ByteStore) → Alone k b (fin.entries m) → over k None (fin.entries m) ≡ found k b (fin.get m b) None
  over_here k b m h = over_alone k b (fin.entries m) (fin.entries_sorted m) h None ∙ ap (λ f. found k b f None) (sym (fin.get-entries m b))

  alone_put : (k : K) (b v : List ℕ) (es : List (List ℕ × List ℕ)) → Alone k b es → Alone k b (put by_bytes b v es)
  alone_put k b v [] h = (λ c e f. refl, tt)
  alone_put k b v (e ∷ es) h = elim (by_bytes b e.0) as (λ r. Alone k b (by_order r ((b, v) ∷ e ∷ es) ((e.0, v) ∷ es) (e ∷ put by_bytes b v es))) [
    | Less ↦ (λ c e f. refl, h)
    | Equal ↦ (h.0, h.1)
    | Greater ↦ (h.0, alone_put k b v es h.1)
  ]

  alone_remove : (k : K) (b : List ℕ) (p : List ℕ → Bool) (es : List (List ℕ × List ℕ)) → Alone k b es → Alone k b (where_key by_bytes p es)
  alone_remove k b p [] h = tt
  alone_remove k b p (e ∷ es) h = elim (p e.0) as (λ c. Alone k b (cond c (e ∷ where_key by_bytes p es) (where_key by_bytes p es))) [
    | true ↦ (h.0, alone_remove k b p es h.1)
    | false ↦ alone_remove k b p es h.1
  ]

  alone_write : (k : K) (b : List ℕ) (m : ByteStore) (w : Option (List ℕ)) → Alone k b (fin.entries m) → Alone k b (fin.entries (write by_bytes m b w))
  alone_write k b m None h = subst (Alone k b) (sym (entries_remove m b)) (alone_remove k b (λ x. not (eq_by_cmp by_bytes b x)) (fin.entries m) h)
  alone_write k b m (Some v) h = subst (Alone k b) (sym (fin.entries-insert nat_list_cmp_total m b v)) (alone_put k b v (fin.entries m) h)

  abbrev shown_map : ByteStore → FinMap R X
  shown_map m = map_from R readk read (fin.entries m)

  module _ (spell : X → List ℕ) where
    abbrev pub IsAgain : Option X → Type 0
    IsAgain None = Unit {0}
    IsAgain (Some x) = read (spell x) ≡ Some x

    found_here : (k : K) (b : List ℕ) (w : Option X) → readk b ≡ Some k → IsAgain w → found k b (option_map spell w) None ≡ w
    found_here k b None e h = refl
    found_here k b (Some x) e h = rw (e, h) (ap (λ t. cond t (Some x) None) (ap is_eq (tied_itself o k)))

    hidden_else : (k c : K) (b : List ℕ) → readk b ≡ Some c → eq_by_cmp R k c ≡ false → Hidden k b
    hidden_else k c b e f None old = rw e refl
    hidden_else k c b e f (Some x) old = rw (e, f) refl

    -- a record whose key is read as c: one write at c
    pub shown_write : (m : ByteStore) (c : K) (b : List ℕ) (w : Option X) → readk b ≡ Some c → IsAgain w → Alone c b (fin.entries m) →
        shown_map (write by_bytes m b (option_map spell w)) ≡ write R (shown_map m) c w
    shown_write m c b w e h alone = fin.same_map o anti _ _ (λ k.
        get-read (fin.entries (write by_bytes m b (option_map spell w))) k
        ∙ elim (eq_by_cmp R k c) as (λ t. eq_by_cmp R k c ≡ t →
        over k None (fin.entries (write by_bytes m b (option_map spell w))) ≡ cond t w (fin.get (shown_map m) k)) [
          | true ↦ λ t.
              let same : k ≡ c = anti k c (equal (R k c) t) in
              let there : over c None (fin.entries (write by_bytes m b (option_map spell w))) ≡ w =
              over_here c b (write by_bytes m b (option_map spell w)) (alone_write c b m (option_map spell w) alone)
              ∙ ap (λ f. found c b f None) (get-write_here nat_list_cmp_total m b (option_map spell w)) ∙ found_here c b w e h in
              subst (λ j. over j None (fin.entries (write by_bytes m b (option_map spell w))) ≡ w) (sym same) there
          | false ↦ λ t. skip_write k m b (option_map spell w) (hidden_else k c b e t) ∙ sym (get-read (fin.entries m) k)
        ] refl
        ∙ sym (get-write o (shown_map m) c w k))

    hidden_none : (k : K) (b : List ℕ) → readk b ≡ None → Hidden k b
    hidden_none k b e x old = rw e refl

    -- a record whose key isn't read: no change
    pub shown_same : (m : ByteStore) (b : List ℕ) (w : Option (List ℕ)) → readk b ≡ None → shown_map (write by_bytes m b w) ≡ shown_map m
    shown_same m b w e = fin.same_map o anti _ _ (λ k. get-read (fin.entries (write by_bytes m b w)) k ∙ skip_write k m b w (hidden_none k b e) ∙ sym (get-read (fin.entries m) k))
