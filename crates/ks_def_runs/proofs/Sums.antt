-- Sums over lists, over what was taken, and beginnings of lists.
use Rattle.std.proofs.Common.{◌≡◌, ℕ, suc, ◌+◌, ◌*◌, Bool, true, false, cond, ◌&&◌, List, length, ◌≤◌, [], ◌∷◌, ◌++◌, Option, refl, sym, ap, subst, ◌∙◌, arith, append-nil, ◌⊎◌, inl, inr, ⊎_elim}
use Rattle.ks_def_runs.specs.Run.{Outcome, Machine, HasNames, Taken, same_sender, same_channel, local, received}
use Rattle.ks_def_runs.proofs.Runs.{after, nothing_made, nothing-after, after-nothing, after-assoc, same_channel_refl}

abbrev pub sum_map : {A : Type 0} → (A → ℕ) → List A → ℕ
sum_map f [] = 0
sum_map f (x ∷ xs) = f x + sum_map f xs

pub sum_map-append : {A : Type 0} (f : A → ℕ) (xs ys : List A) → sum_map f (xs ++ ys) ≡ sum_map f xs + sum_map f ys
sum_map-append f [] ys = omega arith
sum_map-append f (x ∷ xs) ys = omega (arith, sum_map-append f xs ys)

pub sum_map-add : {A : Type 0} (f g : A → ℕ) (xs : List A) → sum_map (λ x. f x + g x) xs ≡ sum_map f xs + sum_map g xs
sum_map-add f g [] = omega arith
sum_map-add f g (x ∷ xs) = omega (arith, sum_map-add f g xs)

pub sum_map-same : {A : Type 0} (f g : A → ℕ) (xs : List A) → ((x : A) → f x ≡ g x) → sum_map f xs ≡ sum_map g xs
sum_map-same f g [] e = refl
sum_map-same f g (x ∷ xs) e = λ i. e x i + sum_map-same f g xs e i

pub sum_map-zero : {A : Type 0} (xs : List A) → sum_map (λ x. 0) xs ≡ 0
sum_map-zero [] = refl
sum_map-zero (x ∷ xs) = omega (arith, sum_map-zero xs)

-- xs begins with ys
abbrev pub Begins : {A : Type 0} → List A → List A → Type 0
Begins {A} xs ys = (rest : List A) × (xs ≡ ys ++ rest)

-- each beginning of a longer list is one of the shorter list, or the whole
pub begins_push : {A : Type 0} (P : List A → Type 0) (xs : List A) (x : A) → ((ys : List A) → Begins xs ys → P ys) → P (xs ++ x ∷ []) → (ys : List A) → Begins (xs ++ x ∷ []) ys → P ys
begins_push P [] x each whole [] b = each [] ([], refl)
begins_push {A} P [] x each whole (y ∷ ys) (rest, e) = single y ys e
  where
    single : (y : A) (ys : List A) → x ∷ [] ≡ y ∷ (ys ++ rest) → P (y ∷ ys)
    single y [] e = let f : x ≡ y = cc in subst (λ z. P (z ∷ [])) f whole
    single y (w ∷ ws) e = cc
begins_push P (z ∷ zs) x each whole [] b = each [] (z ∷ zs, refl)
begins_push P (z ∷ zs) x each whole (y ∷ ys) (rest, e) =
    let f : z ≡ y = cc in
    let tails : zs ++ x ∷ [] ≡ ys ++ rest = cc in
    subst (λ w. P (w ∷ ys)) f (begins_push (λ l. P (z ∷ l)) zs x (λ l b. each (z ∷ l) (b.0, ap (λ k. z ∷ k) b.1)) whole ys (rest, tails))

-- the same where at most one record is added
pub begins_few : {A : Type 0} (P : List A → Type 0) (xs zs : List A) → length zs ≤ 1 → ((ys : List A) → Begins xs ys → P ys) → P (xs ++ zs) → (ys : List A) → Begins (xs ++ zs) ys → P ys
begins_few P xs [] few each whole ys b = each ys (b.0, sym (append-nil xs) ∙ b.1)
begins_few P xs (z ∷ []) few each whole ys b = begins_push P xs z each whole ys b
begins_few P xs (z ∷ (w ∷ ws)) few each whole ys b = absurd (omega arith)

module _ {Task Place Store Item : Type 0} (m : Machine Task Place Store Item) where
  -- what the records taken at a place add up to
  abbrev pub sum_taken : (Item → ℕ) → Place → List (Taken Task Place Item) → ℕ
  sum_taken f p [] = 0
  sum_taken f p (t ∷ ts) = cond (m.same_place p t.place) (f t.item) 0 + sum_taken f p ts

  -- how many steps are a task's own
  abbrev pub steps : Task → List (Taken Task Place Item) → ℕ
  steps u [] = 0
  steps u (t ∷ ts) = cond (m.same_task u (m.reader t.place)) 1 0 + steps u ts

  -- what a task's own steps keep, with the number of its steps, of all that it made
  pub kept_locally : (u : Task) (P : ℕ → Outcome Place Store Item → Type 0) →
      ((n : ℕ) (o : Outcome Place Store Item) (t : Taken Task Place Item) → m.same_task u (m.reader t.place) ≡ true → P n o → P (suc n) (after m o (m.step u o.store t.place t.item))) →
      (n : ℕ) (o : Outcome Place Store Item) → P n o → (ts : List (Taken Task Place Item)) → P (n + steps u ts) (after m o (local m u o.store ts))
  kept_locally u P each n o h [] = subst (λ k. P k (after m o (nothing_made m o.store))) (omega arith) (subst (P n) (sym (after-nothing m o)) h)
  kept_locally u P each n o h (t ∷ ts) =
      let out = m.step u o.store t.place t.item in
      elim (m.same_task u (m.reader t.place)) as (λ b. m.same_task u (m.reader t.place) ≡ b → P (n + (cond b 1 0 + steps u ts)) (after m o (cond b (after m out (local m u out.store ts)) (local m u o.store ts)))) [
        | true ↦ λ b.
            let all = kept_locally u P each (suc n) (after m o out) (each n o t b h) ts in
            let number : suc n + steps u ts ≡ n + (1 + steps u ts) = omega arith in
            subst (λ k. P k (after m o (after m out (local m u out.store ts)))) number (subst (P (suc n + steps u ts)) (sym (after-assoc m o out (local m u out.store ts))) all)
        | false ↦ λ b.
            let number : n + steps u ts ≡ n + (0 + steps u ts) = omega arith in
            subst (λ k. P k (after m o (local m u o.store ts))) number (kept_locally u P each n o h ts)
      ] refl

  -- the same from its start on
  pub kept_from_start : (u : Task) (P : ℕ → Outcome Place Store Item → Type 0) →
      ((n : ℕ) (o : Outcome Place Store Item) (t : Taken Task Place Item) → m.same_task u (m.reader t.place) ≡ true → P n o → P (suc n) (after m o (m.step u o.store t.place t.item))) →
      P 0 (nothing_made m (m.start u)) → (ts : List (Taken Task Place Item)) → P (steps u ts) (local m u (m.start u) ts)
  kept_from_start u P each h ts =
      let number : 0 + steps u ts ≡ steps u ts = omega arith in
      subst (λ k. P k (local m u (m.start u) ts)) number
      (subst (P (0 + steps u ts)) (nothing-after m (m.start u) (local m u (m.start u) ts)) (kept_locally u P each 0 (nothing_made m (m.start u)) h ts))

  pub steps-append : (u : Task) (xs ys : List (Taken Task Place Item)) → steps u (xs ++ ys) ≡ steps u xs + steps u ys
  steps-append u [] ys = omega arith
  steps-append u (x ∷ xs) ys = omega (arith, steps-append u xs ys)

  pub sum_taken-append : (f : Item → ℕ) (p : Place) (xs ys : List (Taken Task Place Item)) → sum_taken f p (xs ++ ys) ≡ sum_taken f p xs + sum_taken f p ys
  sum_taken-append f p [] ys = omega arith
  sum_taken-append f p (x ∷ xs) ys = omega (arith, sum_taken-append f p xs ys)

  sum_received : (f : Item → ℕ) (s : Option Task) (p : Place) (t : Taken Task Place Item) (ts : List (Taken Task Place Item)) →
      sum_map f (received m s p (t ∷ ts)) ≡ cond (same_channel m s p t.sender t.place) (f t.item) 0 + sum_map f (received m s p ts)
  sum_received f s p t ts = elim (same_channel m s p t.sender t.place) as (λ b. sum_map f (cond b (t.item ∷ received m s p ts) (received m s p ts)) ≡ cond b (f t.item) 0 + sum_map f (received m s p ts)) [ true ↦ refl | false ↦ omega arith ]

  -- how often a sender stands in a list
  abbrev pub times : Option Task → List (Option Task) → ℕ
  times s senders = sum_map (λ r. cond (same_sender m.same_task r s) 1 0) senders

  scaled : (s : Option Task) (b : Bool) (v : ℕ) (senders : List (Option Task)) → sum_map (λ r. cond (same_sender m.same_task r s && b) v 0) senders ≡ cond b (times s senders * v) 0
  scaled s true v [] = omega arith
  scaled s false v [] = refl
  scaled s b v (r ∷ rs) = one (same_sender m.same_task r s) b _ _ (scaled s b v rs)
    where
      one : (a b : Bool) (k n : ℕ) → k ≡ cond b (n * v) 0 → cond (a && b) v 0 + k ≡ cond b ((cond a 1 0 + n) * v) 0
      one true true k n e = omega arith
      one true false k n e = omega arith
      one false true k n e = omega arith
      one false false k n e = omega arith

  module _ (names : HasNames m) where
    received_here : (t : Taken Task Place Item) (ts : List (Taken Task Place Item)) → received m t.sender t.place (t ∷ ts) ≡ t.item ∷ received m t.sender t.place ts
    received_here t ts = ap (λ b. cond b (t.item ∷ received m t.sender t.place ts) (received m t.sender t.place ts)) (same_channel_refl m names t.sender t.place)

    pub none_before : (s : Option Task) (p : Place) (t : Taken Task Place Item) (ts : List (Taken Task Place Item)) → received m s p (t ∷ ts) ≡ [] → received m s p ts ≡ []
    none_before s p t ts e = elim (same_channel m s p t.sender t.place) as (λ b. cond b (t.item ∷ received m s p ts) (received m s p ts) ≡ [] → received m s p ts ≡ []) [ true ↦ λ e. cc | false ↦ λ e. e ] e

    -- a task to which nothing came is as at the start
    pub idle : (u : Task) (ts : List (Taken Task Place Item)) → ((s : Option Task) (p : Place) → m.same_task u (m.reader p) ≡ true → received m s p ts ≡ []) → (store : Store) → local m u store ts ≡ nothing_made m store
    idle u [] none store = refl
    idle u (t ∷ ts) none store =
        let out = m.step u store t.place t.item in
        elim (m.same_task u (m.reader t.place)) as (λ b. m.same_task u (m.reader t.place) ≡ b → cond b (after m out (local m u out.store ts)) (local m u store ts) ≡ nothing_made m store) [
          | true ↦ λ b. let e : t.item ∷ received m t.sender t.place ts ≡ [] = sym (received_here t ts) ∙ none t.sender t.place b in cc
          | false ↦ λ b. idle u ts (λ s p h. none_before s p t ts (none s p h)) store
        ] refl

    summed : (f : Item → ℕ) (p : Place) (senders : List (Option Task)) (t : Taken Task Place Item) (ts : List (Taken Task Place Item)) →
        sum_map (λ s. sum_map f (received m s p (t ∷ ts))) senders ≡ cond (m.same_place p t.place) (times t.sender senders * f t.item) 0 + sum_map (λ s. sum_map f (received m s p ts)) senders
    summed f p senders t ts =
        sum_map-same _ _ senders (λ s. sum_received f s p t ts)
        ∙ sum_map-add (λ s. cond (same_channel m s p t.sender t.place) (f t.item) 0) (λ s. sum_map f (received m s p ts)) senders
        ∙ ap (λ n. n + sum_map (λ s. sum_map f (received m s p ts)) senders) (scaled' t.sender (m.same_place p t.place) (f t.item))
      where
        scaled' : (s : Option Task) (b : Bool) (v : ℕ) → sum_map (λ r. cond (same_sender m.same_task r s && b) v 0) senders ≡ cond b (times s senders * v) 0
        scaled' s b v = scaled s b v senders

    once_here : (f : Item → ℕ) (p : Place) (senders : List (Option Task)) (t : Taken Task Place Item) (ts : List (Taken Task Place Item)) →
        ((s : Option Task) → (times s senders ≡ 1) ⊎ (received m s p (t ∷ ts) ≡ [])) → (b : Bool) → m.same_place p t.place ≡ b → cond b (f t.item) 0 ≡ cond b (times t.sender senders * f t.item) 0
    once_here f p senders t ts once true e = ⊎_elim (λ one. rw one (omega arith)) (λ none.
        let here : t.item ∷ received m t.sender t.place ts ≡ [] = sym (received_here t ts) ∙ ap (λ q. received m t.sender q (t ∷ ts)) (sym ((names.places p t.place).0 e)) ∙ none in
        cc) (once t.sender)
    once_here f p senders t ts once false e = refl

    -- what was taken at a place adds up by its senders
    pub by_senders : (f : Item → ℕ) (p : Place) (senders : List (Option Task)) (ts : List (Taken Task Place Item)) →
        ((s : Option Task) → (times s senders ≡ 1) ⊎ (received m s p ts ≡ [])) → sum_taken f p ts ≡ sum_map (λ s. sum_map f (received m s p ts)) senders
    by_senders f p senders [] once = sym (sum_map-zero senders)
    by_senders f p senders (t ∷ ts) once =
        let rest = by_senders f p senders ts (λ s. ⊎_elim (λ e. inl e) (λ e. inr (none_before s p t ts e)) (once s)) in
        ap (λ n. n + sum_taken f p ts) (once_here f p senders t ts once _ refl) ∙ ap (λ n. cond (m.same_place p t.place) (times t.sender senders * f t.item) 0 + n) rest ∙ sym (summed f p senders t ts)
