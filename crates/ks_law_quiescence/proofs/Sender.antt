-- One sender of a regrouped table, whatever task it stands in: its table changes by writes, and it sends what leaves and joins.
use Rattle.std.proofs.Common.{◌≡◌, ℕ, suc, ◌+◌, ◌-◌, ◌%◌, ◌^◌, ◌≤◌, Bool, true, false, cond, List, length, [], ◌∷◌, ◌++◌, Option, Some, None, refl, sym, ap, subst, ◌∙◌, arith, append_assoc, append-nil, nat_eq}
use Rattle.std.proofs.lemmas.Bool.Decides.{Decides-eqb}
use Rattle.std.specs.declared.cmp.Ordering.{Ordering}
use Rattle.std.specs.Ordering.{eq_by_cmp}
use Rattle.std.specs.Cmp.{IsTotalOrder}
use Rattle.ks_def_runs.specs.FinMap as map
use Rattle.ks_def_runs.specs.FinMap.{FinMap}
use Rattle.std.specs.FinMap.{IsAntisymmetric}
use Rattle.ks_def_runs.specs.Table.{write, total, share_of}
use Rattle.ks_def_runs.proofs.Tables.{total-write, equal}
use Rattle.ks_def_runs.proofs.Sums.{sum_map, sum_map-append, Begins, begins_few}

wrapped_step : (a b m n so sn : ℕ) → a % 2 ^ 64 ≡ m % 2 ^ 64 → n + so ≡ m + sn → (b + so) % 2 ^ 64 ≡ sn % 2 ^ 64 → (a + b) % 2 ^ 64 ≡ n % 2 ^ 64
wrapped_step a b m n so sn p q r = omega arith

-- what leaves and joins a group, and what such a message means: members and amount, as the bits of 64
pub record Meaning {K : Type 0} (R : K → K → Ordering) (A Item : Type 0) : Type 0 where
  pub bits : A → ℕ
  pub leave : K → A → Item
  pub join : K → A → Item
  pub members_of : K → Item → ℕ
  pub amount_of : K → Item → ℕ
  pub members_leave : (g h : K) (a : A) → members_of g (leave h a) ≡ cond (eq_by_cmp R g h) (2 ^ 64 - 1) 0
  pub members_join : (g h : K) (a : A) → members_of g (join h a) ≡ cond (eq_by_cmp R g h) 1 0
  pub amounts_leave : (g h : K) (a : A) → amount_of g (leave h a) ≡ cond (eq_by_cmp R g h) ((2 ^ 64 - bits a % 2 ^ 64) % 2 ^ 64) 0
  pub amounts_join : (g h : K) (a : A) → amount_of g (join h a) ≡ cond (eq_by_cmp R g h) (bits a % 2 ^ 64) 0

-- what a row adds to a group: one member, and its amount
abbrev pub member : {K A : Type 0} → (K → K → Ordering) → K → Option (K × A) → ℕ
member R g None = 0
member R g (Some e) = cond (eq_by_cmp R g e.0) 1 0

abbrev pub amount : {K A : Type 0} → (K → K → Ordering) → (A → ℕ) → K → Option (K × A) → ℕ
amount R bits g None = 0
amount R bits g (Some e) = cond (eq_by_cmp R g e.0) (bits e.1) 0

module _ {K X Item A : Type 0} {R : K → K → Ordering} (o : IsTotalOrder R) (same : IsAntisymmetric R) (means : Meaning R A Item) (part : K → ℕ) (effect : X → Option (K × A))
    (same_effect : Option (K × A) → Option (K × A) → Bool) (same_effect-is : (old new : Option (K × A)) → same_effect old new ≡ true → old ≡ new) where
  abbrev pub effect_of : Option X → Option (K × A)
  effect_of None = None
  effect_of (Some x) = effect x

  -- what leaves and joins, at the group partition j
  abbrev pub leaves_at : ℕ → Option (K × A) → List Item
  leaves_at j None = []
  leaves_at j (Some e) = cond (nat_eq j (part e.0)) (means.leave e.0 e.1 ∷ []) []

  abbrev pub joins_at : ℕ → Option (K × A) → List Item
  joins_at j None = []
  joins_at j (Some e) = cond (nat_eq j (part e.0)) (means.join e.0 e.1 ∷ []) []

  abbrev pub deltas_at : ℕ → Option (K × A) → Option (K × A) → List Item
  deltas_at j old new = cond (same_effect old new) [] (leaves_at j old ++ joins_at j new)

  one_delta : (f : Item → ℕ) (g h : K) (x : Item) (v : ℕ) → f x ≡ cond (eq_by_cmp R g h) v 0 → sum_map f (cond (nat_eq (part g) (part h)) (x ∷ []) []) ≡ cond (eq_by_cmp R g h) v 0
  one_delta f g h x v e =
      elim (eq_by_cmp R g h) as (λ b. eq_by_cmp R g h ≡ b → f x ≡ cond b v 0 → sum_map f (cond (nat_eq (part g) (part h)) (x ∷ []) []) ≡ cond b v 0) [
        | true ↦ λ b e. rw ((Decides-eqb (part g) (part h)).1 (ap part (same g h (equal _ b)))) (omega arith)
        | false ↦ λ b e. elim (nat_eq (part g) (part h)) as (λ c. sum_map f (cond c (x ∷ []) []) ≡ 0) [ true ↦ omega arith | false ↦ refl ]
      ] refl e

  -- either sum: f adds it, share is a row's, and the two messages move it
  record Moves (f : K → Item → ℕ) (share : K → Option (K × A) → ℕ) : Type 0 where
    nothing : (g : K) → share g None ≡ 0
    leave : (g : K) (old : Option (K × A)) → (sum_map (f g) (leaves_at (part g) old) + share g old) % 2 ^ 64 ≡ 0
    join : (g : K) (new : Option (K × A)) → sum_map (f g) (joins_at (part g) new) % 2 ^ 64 ≡ share g new % 2 ^ 64

  members-move : Moves means.members_of (member R)
  members-move = record { nothing = λ g. refl; leave = leave; join = join }
    where
      gone : (b : Bool) → (cond b (2 ^ 64 - 1) 0 + cond b 1 0) % 2 ^ 64 ≡ 0
      gone true = refl
      gone false = refl

      leave : (g : K) (old : Option (K × A)) → (sum_map (means.members_of g) (leaves_at (part g) old) + member R g old) % 2 ^ 64 ≡ 0
      leave g None = refl
      leave g (Some e) = rw (one_delta (means.members_of g) g e.0 (means.leave e.0 e.1) (2 ^ 64 - 1) (means.members_leave g e.0 e.1)) (gone (eq_by_cmp R g e.0))

      join : (g : K) (new : Option (K × A)) → sum_map (means.members_of g) (joins_at (part g) new) % 2 ^ 64 ≡ member R g new % 2 ^ 64
      join g None = refl
      join g (Some e) = ap (λ n. n % 2 ^ 64) (one_delta (means.members_of g) g e.0 (means.join e.0 e.1) 1 (means.members_join g e.0 e.1))

  amounts-move : Moves means.amount_of (amount R means.bits)
  amounts-move = record { nothing = λ g. refl; leave = leave; join = join }
    where
      gone : (b : Bool) (a : ℕ) → (cond b ((2 ^ 64 - a % 2 ^ 64) % 2 ^ 64) 0 + cond b a 0) % 2 ^ 64 ≡ 0
      gone true a = omega arith
      gone false a = refl

      come : (b : Bool) (a : ℕ) → cond b (a % 2 ^ 64) 0 % 2 ^ 64 ≡ cond b a 0 % 2 ^ 64
      come true a = omega arith
      come false a = refl

      leave : (g : K) (old : Option (K × A)) → (sum_map (means.amount_of g) (leaves_at (part g) old) + amount R means.bits g old) % 2 ^ 64 ≡ 0
      leave g None = refl
      leave g (Some e) = rw (one_delta (means.amount_of g) g e.0 (means.leave e.0 e.1) ((2 ^ 64 - means.bits e.1 % 2 ^ 64) % 2 ^ 64) (means.amounts_leave g e.0 e.1)) (gone (eq_by_cmp R g e.0) (means.bits e.1))

      join : (g : K) (new : Option (K × A)) → sum_map (means.amount_of g) (joins_at (part g) new) % 2 ^ 64 ≡ amount R means.bits g new % 2 ^ 64
      join g None = refl
      join g (Some e) = rw (one_delta (means.amount_of g) g e.0 (means.join e.0 e.1) (means.bits e.1 % 2 ^ 64) (means.amounts_join g e.0 e.1)) (come (eq_by_cmp R g e.0) (means.bits e.1))

  -- the items stand for the table
  abbrev pub Adds : (K → Item → ℕ) → (K → Option (K × A) → ℕ) → K → List Item → FinMap R X → Type 0
  Adds f share g items t = sum_map (f g) items % 2 ^ 64 ≡ total R (λ x. share g (effect x)) t % 2 ^ 64

  module _ (f : K → Item → ℕ) (share : K → Option (K × A) → ℕ) (moves : Moves f share) where
    share-is : (g : K) (w : Option X) → share_of (λ x. share g (effect x)) w ≡ share g (effect_of w)
    share-is g None = sym (moves.nothing g)
    share-is g (Some x) = refl

    adds_more : (g : K) (xs es : List Item) (t : FinMap R X) (k : K) (w : Option X) → Adds f share g xs t → (sum_map (f g) es + share g (effect_of (map.get t k))) % 2 ^ 64 ≡ share g (effect_of w) % 2 ^ 64 → Adds f share g (xs ++ es) (write R t k w)
    adds_more g xs es t k w h e = rw (sum_map-append (f g) xs es)
        (wrapped_step _ _ (total R (λ x. share g (effect x)) t) _ (share_of (λ x. share g (effect x)) (map.get t k)) (share_of (λ x. share g (effect x)) w) h
        (total-write o (λ x. share g (effect x)) same t k w) (rw (share-is g (map.get t k), share-is g w) e))

    adds_leaves : (g : K) (xs : List Item) (t : FinMap R X) (k : K) → Adds f share g xs t → Adds f share g (xs ++ leaves_at (part g) (effect_of (map.get t k))) (map.remove t k)
    adds_leaves g xs t k h = adds_more g xs _ t k None h (moves.leave g (effect_of (map.get t k)) ∙ ap (λ n. n % 2 ^ 64) (sym (moves.nothing g)))

    adds_both : (g : K) (xs : List Item) (t : FinMap R X) (k : K) (w : Option X) → Adds f share g xs t → Adds f share g (xs ++ (leaves_at (part g) (effect_of (map.get t k)) ++ joins_at (part g) (effect_of w))) (write R t k w)
    adds_both g xs t k w h = adds_more g xs _ t k w h (rw (sum_map-append (f g) (leaves_at (part g) (effect_of (map.get t k))) (joins_at (part g) (effect_of w)))
        (both (sum_map (f g) (leaves_at (part g) (effect_of (map.get t k)))) (sum_map (f g) (joins_at (part g) (effect_of w))) (share g (effect_of (map.get t k))) (share g (effect_of w)) (moves.leave g (effect_of (map.get t k))) (moves.join g (effect_of w))))
      where
        both : (leave join old new : ℕ) → (leave + old) % 2 ^ 64 ≡ 0 → join % 2 ^ 64 ≡ new % 2 ^ 64 → (leave + join + old) % 2 ^ 64 ≡ new % 2 ^ 64
        both leave join old new p q = omega arith

    adds_step : (g : K) (xs : List Item) (t : FinMap R X) (k : K) (w : Option X) → Adds f share g xs t → Adds f share g (xs ++ deltas_at (part g) (effect_of (map.get t k)) (effect_of w)) (write R t k w)
    adds_step g xs t k w h = elim (same_effect (effect_of (map.get t k)) (effect_of w)) as (λ b. same_effect (effect_of (map.get t k)) (effect_of w) ≡ b →
        Adds f share g (xs ++ cond b [] (leaves_at (part g) (effect_of (map.get t k)) ++ joins_at (part g) (effect_of w))) (write R t k w)) [
          | true ↦ λ e. let f = ap (share g) (same_effect-is (effect_of (map.get t k)) (effect_of w) e) in adds_more g xs [] t k w h (omega arith)
          | false ↦ λ e. adds_both g xs t k w h
        ] refl

  -- some table of so many rows at most
  pub record Stands (g : K) (most : ℕ) (items : List Item) : Type 0 where
    pub rows : FinMap R X
    pub few : map.len rows ≤ most
    pub members : Adds means.members_of (member R) g items rows
    pub amounts : Adds means.amount_of (amount R means.bits) g items rows

  -- a sender after n steps: its table, and all that it sent to each group partition
  pub record Sender (n : ℕ) (table : FinMap R X) (sent : ℕ → List Item) : Type 0 where
    pub few : map.len table ≤ n
    pub members : (g : K) → Adds means.members_of (member R) g (sent (part g)) table
    pub amounts : (g : K) → Adds means.amount_of (amount R means.bits) g (sent (part g)) table
    pub begins : (g : K) (ys : List Item) → Begins (sent (part g)) ys → Stands g n ys

  len-write : (m : FinMap R X) (k : K) (w : Option X) → map.len (write R m k w) ≤ map.len m + 1
  len-write m k None = rw (map.len-remove o m k) (elim (map.contains_key m k) as (λ b. cond b (map.len m - 1) (map.len m) ≤ map.len m + 1) [ true ↦ omega arith | false ↦ omega arith ])
  len-write m k (Some x) = rw (map.len-insert o m k x) (elim (map.contains_key m k) as (λ b. cond b (map.len m) (map.len m + 1) ≤ map.len m + 1) [ true ↦ omega arith | false ↦ omega arith ])

  few-leaves : (j : ℕ) (e : Option (K × A)) → length (leaves_at j e) ≤ 1
  few-leaves j None = omega arith
  few-leaves j (Some e) = elim (nat_eq j (part e.0)) as (λ b. length (cond b (means.leave e.0 e.1 ∷ []) []) ≤ 1) [ true ↦ omega arith | false ↦ omega arith ]

  few-joins : (j : ℕ) (e : Option (K × A)) → length (joins_at j e) ≤ 1
  few-joins j None = omega arith
  few-joins j (Some e) = elim (nat_eq j (part e.0)) as (λ b. length (cond b (means.join e.0 e.1 ∷ []) []) ≤ 1) [ true ↦ omega arith | false ↦ omega arith ]

  -- one row changes, and what left and joined is sent
  pub Sender-step : (n : ℕ) (table : FinMap R X) (sent : ℕ → List Item) → Sender n table sent → (k : K) (w : Option X) →
      Sender (suc n) (write R table k w) (λ j. sent j ++ deltas_at j (effect_of (map.get table k)) (effect_of w))
  Sender-step n table sent h k w = record {
    few = omega (arith, h.few, len-write table k w);
    members = λ g. adds_step means.members_of (member R) members-move g (sent (part g)) table k w (h.members g);
    amounts = λ g. adds_step means.amount_of (amount R means.bits) amounts-move g (sent (part g)) table k w (h.amounts g);
    begins = begins;
  }
    where
      before : (g : K) (ys : List Item) → Begins (sent (part g)) ys → Stands g (suc n) ys
      before g ys b = let s = h.begins g ys b in record { rows = s.rows; few = omega (arith, s.few); members = s.members; amounts = s.amounts }

      begins : (g : K) (ys : List Item) → Begins (sent (part g) ++ deltas_at (part g) (effect_of (map.get table k)) (effect_of w)) ys → Stands g (suc n) ys
      begins g =
          let gone = leaves_at (part g) (effect_of (map.get table k)) in
          let come = joins_at (part g) (effect_of w) in
          let mid : Stands g (suc n) (sent (part g) ++ gone) = record {
            rows = map.remove table k;
            few = omega (arith, h.few, len-write table k None);
            members = adds_leaves means.members_of (member R) members-move g (sent (part g)) table k (h.members g);
            amounts = adds_leaves means.amount_of (amount R means.bits) amounts-move g (sent (part g)) table k (h.amounts g);
          } in
          let end : Stands g (suc n) (sent (part g) ++ (gone ++ come)) = record {
            rows = write R table k w;
            few = omega (arith, h.few, len-write table k w);
            members = adds_both means.members_of (member R) members-move g (sent (part g)) table k w (h.members g);
            amounts = adds_both means.amount_of (amount R means.bits) amounts-move g (sent (part g)) table k w (h.amounts g);
          } in
          let split : sent (part g) ++ (gone ++ come) ≡ sent (part g) ++ gone ++ come = sym (append_assoc (sent (part g)) gone come) in
          elim (same_effect (effect_of (map.get table k)) (effect_of w)) as (λ b. (ys : List Item) → Begins (sent (part g) ++ cond b [] (gone ++ come)) ys → Stands g (suc n) ys) [
            | true ↦ λ ys b. before g ys (b.0, sym (append-nil (sent (part g))) ∙ b.1)
            | false ↦ λ ys b. begins_few (Stands g (suc n)) (sent (part g) ++ gone) come (few-joins (part g) (effect_of w))
                (λ zs c. begins_few (Stands g (suc n)) (sent (part g)) gone (few-leaves (part g) (effect_of (map.get table k))) (before g) mid zs c)
                (subst (Stands g (suc n)) split end) ys (b.0, sym split ∙ b.1)
          ]
