-- What holds in each state of each run, for any tasks.
use Rattle.std.proofs.Common.{◌≡◌, ℕ, ◌+◌, Bool, true, false, cond, List, [], ◌∷◌, ◌++◌, Option, Some, None, fold, refl, sym, ap, ap₂, ◌∙◌, arith, append_assoc, append-nil}
use Rattle.std.proofs.lemmas.Bool.{and_parts, and_from}
use Rattle.ks_def_runs.specs.Run.{Outcome, Machine, HasNames, Taken, RunState, sent_to, is_from, same_sender, same_channel, take_first, advance, initial, run, local, late_all, received, sent, Follows}

module _ {Task Place Store Item : Type 0} (m : Machine Task Place Store Item) where
  pub sent_to-append : (p : Place) (xs ys : List (Place × Item)) → sent_to m p (xs ++ ys) ≡ sent_to m p xs ++ sent_to m p ys
  sent_to-append p [] ys = refl
  sent_to-append p (x ∷ xs) ys = elim (m.same_place p x.0) as (λ b. cond b (x.1 ∷ sent_to m p (xs ++ ys)) (sent_to m p (xs ++ ys)) ≡ cond b (x.1 ∷ sent_to m p xs) (sent_to m p xs) ++ sent_to m p ys) [
    | true ↦ ap (λ l. x.1 ∷ l) (sent_to-append p xs ys)
    | false ↦ sent_to-append p xs ys
  ]

  pub received-append : (s : Option Task) (p : Place) (xs ys : List (Taken Task Place Item)) → received m s p (xs ++ ys) ≡ received m s p xs ++ received m s p ys
  received-append s p [] ys = refl
  received-append s p (x ∷ xs) ys = elim (same_channel m s p x.sender x.place) as (λ b. cond b (x.item ∷ received m s p (xs ++ ys)) (received m s p (xs ++ ys)) ≡ cond b (x.item ∷ received m s p xs) (received m s p xs) ++ received m s p ys) [
    | true ↦ ap (λ l. x.item ∷ l) (received-append s p xs ys)
    | false ↦ received-append s p xs ys
  ]

  -- an invariant that each step keeps holds after each run
  pub kept_by_run : (P : RunState Task Place Store Item → Type 0) → ((st : RunState Task Place Store Item) (c : Option Task × Place) → P st → P (advance m st c)) →
      (st : RunState Task Place Store Item) → P st → (schedule : List (Option Task × Place)) → P (fold (advance m) st schedule)
  kept_by_run P step st h [] = h
  kept_by_run P step st h (c ∷ cs) = kept_by_run P step (advance m st c) (step st c h) cs

  -- ---- one task by itself
  -- what came of one list of records, and then of another
  abbrev pub after : Outcome Place Store Item → Outcome Place Store Item → Outcome Place Store Item
  after before more = record { store = more.store; made = before.made ++ more.made; late = before.late + more.late }

  abbrev pub nothing_made : Store → Outcome Place Store Item
  nothing_made store = record { store = store; made = []; late = 0 }

  pub after-assoc : (a b c : Outcome Place Store Item) → after a (after b c) ≡ after (after a b) c
  after-assoc a b c = λ i. record { store = c.store; made = sym (append_assoc a.made b.made c.made) i; late = sum_assoc a.late b.late c.late i }
    where
      sum_assoc : (x y z : ℕ) → x + (y + z) ≡ x + y + z
      sum_assoc x y z = omega arith

  pub nothing-after : (store : Store) (o : Outcome Place Store Item) → after (nothing_made store) o ≡ o
  nothing-after store o = λ i. record { store = o.store; made = o.made; late = zero_sum o.late i }
    where
      zero_sum : (x : ℕ) → 0 + x ≡ x
      zero_sum x = omega arith

  pub after-nothing : (o : Outcome Place Store Item) → after o (nothing_made o.store) ≡ o
  after-nothing o = λ i. record { store = o.store; made = append-nil o.made i; late = sum_zero o.late i }
    where
      sum_zero : (x : ℕ) → x + 0 ≡ x
      sum_zero x = omega arith

  pub local-append : (u : Task) (store : Store) (xs ys : List (Taken Task Place Item)) → local m u store (xs ++ ys) ≡ after (local m u store xs) (local m u (local m u store xs).store ys)
  local-append u store [] ys = sym (nothing-after store (local m u store ys))
  local-append u store (x ∷ xs) ys =
      let o = m.step u store x.place x.item in
      elim (m.same_task u (m.reader x.place)) as (λ b.
      cond b (after o (local m u o.store (xs ++ ys))) (local m u store (xs ++ ys))
      ≡ after (cond b (after o (local m u o.store xs)) (local m u store xs)) (local m u (cond b (after o (local m u o.store xs)) (local m u store xs)).store ys)) [
        | true ↦ ap (after o) (local-append u o.store xs ys) ∙ after-assoc o (local m u o.store xs) (local m u (local m u o.store xs).store ys)
        | false ↦ local-append u store xs ys
      ]

  -- one more record
  pub local_push : (u : Task) (store : Store) (xs : List (Taken Task Place Item)) (t : Taken Task Place Item) →
      local m u store (xs ++ t ∷ []) ≡ cond (m.same_task u (m.reader t.place)) (after (local m u store xs) (m.step u (local m u store xs).store t.place t.item)) (local m u store xs)
  local_push u store xs t =
      let before = local m u store xs in
      local-append u store xs (t ∷ []) ∙ elim (m.same_task u (m.reader t.place)) as (λ b.
      after before (cond b (after (m.step u before.store t.place t.item) (nothing_made (m.step u before.store t.place t.item).store)) (nothing_made before.store))
      ≡ cond b (after before (m.step u before.store t.place t.item)) before) [
        | true ↦ ap (after before) (after-nothing (m.step u before.store t.place t.item))
        | false ↦ after-nothing before
      ]

  -- the head of a list that is taken moves from what waits to what was received
  moved : (b : Bool) (before waits rest : List Item) (x : Item) → (b ≡ true → waits ≡ x ∷ rest) → (before ++ cond b (x ∷ []) []) ++ cond b rest waits ≡ before ++ waits
  moved true before waits rest x f = append_assoc before _ _ ∙ ap (λ l. before ++ l) (sym (f refl))
  moved false before waits rest x f = ap (λ l. l ++ waits) (append-nil before)

  pub received_push : (s : Option Task) (p : Place) (xs : List (Taken Task Place Item)) (t : Taken Task Place Item) → received m s p (xs ++ t ∷ []) ≡ received m s p xs ++ cond (same_channel m s p t.sender t.place) (t.item ∷ []) []
  received_push s p xs t = received-append s p xs (t ∷ [])

  module _ (names : HasNames m) where
    pub same_sender-is : (s t : Option Task) → same_sender m.same_task s t ≡ true → s ≡ t
    same_sender-is None None e = refl
    same_sender-is None (Some u) e = cc
    same_sender-is (Some v) None e = cc
    same_sender-is (Some v) (Some u) e = ap (λ w. Some w) ((names.tasks v u).0 e)

    pub same_sender_refl : (s : Option Task) → same_sender m.same_task s s ≡ true
    same_sender_refl None = refl
    same_sender_refl (Some u) = (names.tasks u u).1 refl

    pub same_channel_refl : (s : Option Task) (p : Place) → same_channel m s p s p ≡ true
    same_channel_refl s p = and_from _ _ (same_sender_refl s) ((names.places p p).1 refl)

    pub at_channel : (w : Option Task → Place → List Item) (r s : Option Task) (q p : Place) (xs : List Item) → w s p ≡ xs → same_channel m r q s p ≡ true → w r q ≡ xs
    at_channel w r s q p xs e b =
        let parts = and_parts _ _ b in
        ap (λ t. w t q) (same_sender-is r s parts.0) ∙ ap (w s) ((names.places q p).0 parts.1) ∙ e

    -- ---- late records of all tasks, in two parts
    abbrev store_then : (Task → Store) → Taken Task Place Item → Task → Store
    store_then stores t u = cond (m.same_task u (m.reader t.place)) (m.step (m.reader t.place) (stores (m.reader t.place)) t.place t.item).store (stores u)

    then-is : (stores : Task → Store) (t : Taken Task Place Item) (xs : List (Taken Task Place Item)) (u : Task) → (local m u (store_then stores t u) xs).store ≡ (local m u (stores u) (t ∷ xs)).store
    then-is stores t xs u =
        let o = m.step u (stores u) t.place t.item in
        elim (m.same_task u (m.reader t.place)) as (λ b. m.same_task u (m.reader t.place) ≡ b →
        (local m u (cond b (m.step (m.reader t.place) (stores (m.reader t.place)) t.place t.item).store (stores u)) xs).store ≡ (cond b (after o (local m u o.store xs)) (local m u (stores u) xs)).store) [
          | true ↦ λ b. ap (λ v. (local m u (m.step v (stores v) t.place t.item).store xs).store) (sym ((names.tasks u (m.reader t.place)).0 b))
          | false ↦ λ b. refl
        ] refl

    pub late_all-append : (stores : Task → Store) (xs ys : List (Taken Task Place Item)) → late_all m stores (xs ++ ys) ≡ late_all m stores xs + late_all m (λ u. (local m u (stores u) xs).store) ys
    late_all-append stores [] ys = omega arith
    late_all-append stores (x ∷ xs) ys =
        let first = (m.step (m.reader x.place) (stores (m.reader x.place)) x.place x.item).late in
        let rest = late_all-append (store_then stores x) xs ys in
        let same : late_all m (λ u. (local m u (store_then stores x u) xs).store) ys ≡ late_all m (λ u. (local m u (stores u) (x ∷ xs)).store) ys = λ i. late_all m (λ u. then-is stores x xs u i) ys in
        ap (λ n. first + n) (rest ∙ ap (λ n. late_all m (store_then stores x) xs + n) same) ∙ sum_assoc first _ _
      where
        sum_assoc : (x y z : ℕ) → x + (y + z) ≡ x + y + z
        sum_assoc x y z = omega arith

    -- ---- what follows in each state
    pub Follows-initial : (inputs : Place → List Item) → Follows m inputs (initial m inputs)
    Follows-initial inputs = record { stores = λ u. refl; given = given; flow = flow; late = refl }
      where
        given : (s : Option Task) (p : Place) → (initial m inputs).given s p ≡ sent m inputs [] s p
        given None p = refl
        given (Some t) p = refl

        flow : (s : Option Task) (p : Place) → sent m inputs [] s p ≡ received m s p [] ++ (initial m inputs).waiting s p
        flow None p = refl
        flow (Some t) p = refl

    module _ (inputs : Place → List Item) (st : RunState Task Place Store Item) (s : Option Task) (p : Place) (x : Item) (rest : List Item) (e : st.waiting s p ≡ x ∷ rest) (h : Follows m inputs st) where
      abbrev now : Taken Task Place Item
      now = record { sender = s; place = p; item = x }

      abbrev made : Outcome Place Store Item
      made = m.step (m.reader p) (st.stores (m.reader p)) p x

      -- what a task made of its own records
      abbrev own : Task → Outcome Place Store Item
      own u = local m u (m.start u) st.taken

      made_by : (u : Task) → m.same_task u (m.reader p) ≡ true → made ≡ m.step u (own u).store p x
      made_by u b = ap (λ v. m.step v (st.stores v) p x) (sym ((names.tasks u (m.reader p)).0 b)) ∙ ap (λ l. m.step u l p x) (h.stores u)

      stores-after : (u : Task) → cond (m.same_task u (m.reader p)) made.store (st.stores u) ≡ (local m u (m.start u) (st.taken ++ now ∷ [])).store
      stores-after u = rw (local_push u (m.start u) st.taken now)
          (elim (m.same_task u (m.reader p)) as (λ b. m.same_task u (m.reader p) ≡ b → cond b made.store (st.stores u) ≡ (cond b (after (own u) (m.step u (own u).store p x)) (own u)).store) [
            | true ↦ λ b. ap (λ (o : Outcome Place Store Item). o.store) (made_by u b)
            | false ↦ λ b. h.stores u
          ] refl)

      sent-after : (r : Option Task) (q : Place) → sent m inputs (st.taken ++ now ∷ []) r q ≡ sent m inputs st.taken r q ++ cond (is_from m.same_task r (m.reader p)) (sent_to m q made.made) []
      sent-after None q = sym (append-nil (inputs q))
      sent-after (Some u) q = rw (local_push u (m.start u) st.taken now)
          (elim (m.same_task u (m.reader p)) as (λ b. m.same_task u (m.reader p) ≡ b → sent_to m q (cond b (after (own u) (m.step u (own u).store p x)) (own u)).made ≡ sent_to m q (own u).made ++ cond b (sent_to m q made.made) []) [
            | true ↦ λ b. sent_to-append q (own u).made _ ∙ ap (λ (o : Outcome Place Store Item). sent_to m q (own u).made ++ sent_to m q o.made) (sym (made_by u b))
            | false ↦ λ b. sym (append-nil _)
          ] refl)

      late-after : st.late + made.late ≡ late_all m m.start (st.taken ++ now ∷ [])
      late-after =
          let one : late_all m (λ u. (own u).store) (now ∷ []) ≡ (m.step (m.reader p) (own (m.reader p)).store p x).late = sum_zero _ in
          let here : made.late ≡ (m.step (m.reader p) (own (m.reader p)).store p x).late = ap (λ l. (m.step (m.reader p) l p x).late) (h.stores (m.reader p)) in
          ap₂ (λ a b. a + b) h.late (here ∙ sym one) ∙ sym (late_all-append m.start st.taken (now ∷ []))
        where
          sum_zero : (x : ℕ) → x + 0 ≡ x
          sum_zero x = omega arith

      Follows-taken : Follows m inputs (take_first m st s p (x ∷ rest))
      Follows-taken = record {
        stores = stores-after;
        given = λ r q. ap (λ l. l ++ cond (is_from m.same_task r (m.reader p)) (sent_to m q made.made) []) (h.given r q) ∙ sym (sent-after r q);
        flow = λ r q.
            let new = cond (is_from m.same_task r (m.reader p)) (sent_to m q made.made) [] in
            let b = same_channel m r q s p in
            sent-after r q ∙ ap (λ l. l ++ new) (h.flow r q)
            ∙ ap (λ l. l ++ new) (sym (ap (λ l. l ++ cond b rest (st.waiting r q)) (received_push r q st.taken now) ∙ moved b (received m r q st.taken) (st.waiting r q) rest x (at_channel st.waiting r s q p (x ∷ rest) e)))
            ∙ append_assoc (received m r q (st.taken ++ now ∷ [])) _ _;
        late = late-after;
      }

    pub Follows-step : (inputs : Place → List Item) (st : RunState Task Place Store Item) (s : Option Task) (p : Place) (xs : List Item) → st.waiting s p ≡ xs → Follows m inputs st → Follows m inputs (take_first m st s p xs)
    Follows-step inputs st s p [] e h = h
    Follows-step inputs st s p (x ∷ rest) e h = Follows-taken inputs st s p x rest e h

    -- in each state of each run
    pub Follows-run : (inputs : Place → List Item) (schedule : List (Option Task × Place)) → Follows m inputs (run m inputs schedule)
    Follows-run inputs schedule = kept_by_run (Follows m inputs) (λ st c h. Follows-step inputs st c.0 c.1 _ refl h) (initial m inputs) (Follows-initial inputs) schedule

    -- once nothing waits, what was received is what was sent
    pub received_all : (inputs : Place → List Item) (st : RunState Task Place Store Item) → Follows m inputs st → (s : Option Task) (p : Place) → st.waiting s p ≡ [] → received m s p st.taken ≡ sent m inputs st.taken s p
    received_all inputs st h s p rest = sym (h.flow s p ∙ ap (λ l. received m s p st.taken ++ l) rest ∙ append-nil _)
