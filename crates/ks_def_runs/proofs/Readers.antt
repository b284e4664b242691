-- Which task reads what is taken, and what a task makes of lists of which it reads all or nothing.
use Rattle.std.proofs.Common.{◌≡◌, ◌+◌, Bool, true, false, cond, ◌&&◌, List, [], ◌∷◌, ◌++◌, Option, refl, sym, ap, ap₂, subst, ◌∙◌, arith}
use Rattle.std.proofs.lemmas.Bool.{true≢false}
use Rattle.ks_def_runs.specs.Run.{Outcome, Machine, HasNames, Taken, same_sender, received, local, late_all}

module _ {Task Place Store Item : Type 0} (m : Machine Task Place Store Item) where
  abbrev pub NoneReads : Task → List (Taken Task Place Item) → Type 0
  NoneReads u [] = Unit {0}
  NoneReads u (x ∷ xs) = (m.same_task u (m.reader x.place) ≡ false) × NoneReads u xs

  abbrev pub AllRead : Task → List (Taken Task Place Item) → Type 0
  AllRead t [] = Unit {0}
  AllRead t (x ∷ xs) = (m.reader x.place ≡ t) × AllRead t xs

  pub AllRead-append : (t : Task) (xs ys : List (Taken Task Place Item)) → AllRead t xs → AllRead t ys → AllRead t (xs ++ ys)
  AllRead-append t [] ys a b = b
  AllRead-append t (x ∷ xs) ys a b = (a.0, AllRead-append t xs ys a.1 b)

  pub NoneReads-append : (t : Task) (xs ys : List (Taken Task Place Item)) → NoneReads t xs → NoneReads t ys → NoneReads t (xs ++ ys)
  NoneReads-append t [] ys a b = b
  NoneReads-append t (x ∷ xs) ys a b = (a.0, NoneReads-append t xs ys a.1 b)

  pub other_reads : (u t : Task) (xs : List (Taken Task Place Item)) → m.same_task u t ≡ false → AllRead t xs → NoneReads u xs
  other_reads u t [] ne a = tt
  other_reads u t (x ∷ xs) ne a = (subst (λ v. m.same_task u v ≡ false) (sym a.0) ne, other_reads u t xs ne a.1)

  pub local_none : (u : Task) (store : Store) (xs : List (Taken Task Place Item)) → NoneReads u xs → local m u store xs ≡ record { store = store; made = []; late = 0 }
  local_none u store [] h = refl
  local_none u store (x ∷ xs) h = ap (λ b. cond b
      (let o = m.step u store x.place x.item in
      let more = local m u o.store xs in
      record { store = more.store; made = o.made ++ more.made; late = o.late + more.late })
      (local m u store xs)) h.0 ∙ local_none u store xs h.1

  pub local_skip : (u : Task) (store : Store) (xs ys : List (Taken Task Place Item)) → NoneReads u xs → local m u store (xs ++ ys) ≡ local m u store ys
  local_skip u store [] ys h = refl
  local_skip u store (x ∷ xs) ys h = ap (λ b. cond b
      (let o = m.step u store x.place x.item in
      let more = local m u o.store (xs ++ ys) in
      record { store = more.store; made = o.made ++ more.made; late = o.late + more.late })
      (local m u store (xs ++ ys))) h.0 ∙ local_skip u store xs ys h.1

  pub local_only : (u : Task) (store : Store) (xs ys : List (Taken Task Place Item)) → NoneReads u ys → local m u store (xs ++ ys) ≡ local m u store xs
  local_only u store [] ys h = local_none u store ys h
  local_only u store (x ∷ xs) ys h =
      ap₂ (λ (a b : Outcome Place Store Item). cond (m.same_task u (m.reader x.place))
      (record { store = a.store; made = (m.step u store x.place x.item).made ++ a.made; late = (m.step u store x.place x.item).late + a.late }) b)
      (local_only u (m.step u store x.place x.item).store xs ys h) (local_only u store xs ys h)

-- what others take comes from other lists
module _ {Task Place Store Item : Type 0} (m : Machine Task Place Store Item) (names : HasNames m) where
  other_list : (ss b : Bool) (item : Item) (got : List Item) → b ≡ false → got ≡ [] → cond (ss && b) (item ∷ got) got ≡ []
  other_list ss true item got e g = absurd (true≢false e)
  other_list true false item got e g = g
  other_list false false item got e g = g

  pub received_none : (r : Option Task) (q : Place) (xs : List (Taken Task Place Item)) → NoneReads m (m.reader q) xs → received m r q xs ≡ []
  received_none r q [] h = refl
  received_none r q (x ∷ xs) h =
      other_list (same_sender m.same_task r x.sender) (m.same_place q x.place) x.item _
      (elim (m.same_place q x.place) as (λ b. m.same_place q x.place ≡ b → b ≡ false) [
        | true ↦ λ e. absurd (true≢false (sym ((names.tasks (m.reader q) (m.reader x.place)).1 (ap m.reader ((names.places q x.place).0 e))) ∙ h.0))
        | false ↦ λ e. refl
      ] refl)
      (received_none r q xs h.1)

module _ {Task Place Store Item : Type 0} (m : Machine Task Place Store Item) (names : HasNames m) where
  abbrev pub with_store : (Task → Store) → Task → Store → Task → Store
  with_store stores t store u = cond (m.same_task u t) store (stores u)

  with_own : (stores : Task → Store) (t : Task) → stores ≡ with_store stores t (stores t)
  with_own stores t = λ i u. by u (m.same_task u t) refl i
    where
      by : (u : Task) (b : Bool) → m.same_task u t ≡ b → stores u ≡ cond b (stores t) (stores u)
      by u true e = ap stores ((names.tasks u t).0 e)
      by u false e = refl

  with_twice : (stores : Task → Store) (t : Task) (one two : Store) → with_store (with_store stores t one) t two ≡ with_store stores t two
  with_twice stores t one two = λ i u. by u (m.same_task u t) i
    where
      by : (u : Task) (b : Bool) → cond b two (cond b one (stores u)) ≡ cond b two (stores u)
      by u true = refl
      by u false = refl

  late_step : (stores : Task → Store) (t : Task) (x : Taken Task Place Item) (xs : List (Taken Task Place Item)) → m.reader x.place ≡ t →
      late_all m stores (x ∷ xs) ≡ (m.step t (stores t) x.place x.item).late + late_all m (with_store stores t (m.step t (stores t) x.place x.item).store) xs
  late_step stores t x xs e = ap (λ v. (m.step v (stores v) x.place x.item).late + late_all m (with_store stores v (m.step v (stores v) x.place x.item).store) xs) e

  local_step : (store : Store) (t : Task) (x : Taken Task Place Item) (xs : List (Taken Task Place Item)) → m.reader x.place ≡ t →
      local m t store (x ∷ xs) ≡ (let o = m.step t store x.place x.item in let more = local m t o.store xs in record { store = more.store; made = o.made ++ more.made; late = o.late + more.late })
  local_step store t x xs e = ap (λ b. cond b
      (let o = m.step t store x.place x.item in let more = local m t o.store xs in record { store = more.store; made = o.made ++ more.made; late = o.late + more.late })
      (local m t store xs)) ((names.tasks t (m.reader x.place)).1 (sym e))

  pub late_one : (t : Task) (stores : Task → Store) (xs ys : List (Taken Task Place Item)) → AllRead m t xs →
      late_all m stores (xs ++ ys) ≡ (local m t (stores t) xs).late + late_all m (with_store stores t (local m t (stores t) xs).store) ys
  late_one t stores [] ys a = ap (λ (f : Task → Store). late_all m f ys) (with_own stores t) ∙ omega arith
  late_one t stores (x ∷ xs) ys a =
      let o : Outcome Place Store Item = m.step t (stores t) x.place x.item in
      let next : Task → Store = with_store stores t o.store in
      let here : next t ≡ o.store = ap (λ b. cond b o.store (stores t)) ((names.tasks t t).1 refl) in
      let more : Outcome Place Store Item = local m t o.store xs in
      let rest : late_all m next (xs ++ ys) ≡ more.late + late_all m (with_store stores t more.store) ys =
      late_one t next xs ys a.1
      ∙ ap (λ (s : Store). (local m t s xs).late + late_all m (with_store next t (local m t s xs).store) ys) here
      ∙ ap (λ (f : Task → Store). more.late + late_all m f ys) (with_twice stores t o.store more.store) in
      late_step stores t x (xs ++ ys) a.0
      ∙ ap (λ n. o.late + n) rest
      ∙ omega arith
      ∙ sym (ap (λ (p : Outcome Place Store Item). p.late + late_all m (with_store stores t p.store) ys) (local_step (stores t) t x xs a.0))
