-- Records that stand first in their lists can be taken one after the other.
use Rattle.std.proofs.Common.{◌≡◌, ◌≢◌, ◌+◌, Bool, true, false, cond, List, [], ◌∷◌, ◌++◌, Option, Some, None, fold, map, refl, sym, ap, subst, ◌∙◌, arith, append_assoc, append-nil}
use Rattle.ks_def_runs.specs.Run.{Outcome, Machine, HasNames, Taken, RunState, sent_to, is_from, same_channel, take_first, advance, of_input, TakesEach, fed, channel, received, local, late_all, sent_by}
use Rattle.ks_def_runs.proofs.Runs.{sent_to-append, same_channel_refl, at_channel}

module _ {Task Place Store Item : Type 0} (m : Machine Task Place Store Item) where
  -- what taking these records leaves, where `rest` waits behind them
  pub record Took (st : RunState Task Place Store Item) (ts : List (Taken Task Place Item)) (rest : Option Task → Place → List Item) (new : RunState Task Place Store Item) : Type 0 where
    pub stores : (u : Task) → new.stores u ≡ (local m u (st.stores u) ts).store
    pub waiting : (r : Option Task) (q : Place) → new.waiting r q ≡ rest r q ++ sent_by m st.stores ts r q
    pub each : TakesEach m st (map (channel m) ts)
    pub given : (r : Option Task) (q : Place) → new.given r q ≡ st.given r q ++ sent_by m st.stores ts r q
    pub taken : new.taken ≡ st.taken ++ ts
    pub late : new.late ≡ st.late + late_all m st.stores ts

  module _ (names : HasNames m) where
    module _ (st : RunState Task Place Store Item) (x : Taken Task Place Item) (xs : List (Taken Task Place Item)) (rest : Option Task → Place → List Item)
        (e : (r : Option Task) (q : Place) → st.waiting r q ≡ received m r q (x ∷ xs) ++ rest r q) where
      abbrev the_reader : Task
      the_reader = m.reader x.place

      abbrev out : Outcome Place Store Item
      out = m.step (m.reader x.place) (st.stores (m.reader x.place)) x.place x.item

      abbrev more_rest : Option Task → Place → List Item
      more_rest r q = rest r q ++ cond (is_from m.same_task r (m.reader x.place)) (sent_to m q (m.step (m.reader x.place) (st.stores (m.reader x.place)) x.place x.item).made) []

      abbrev here : List Item
      here = received m x.sender x.place xs ++ rest x.sender x.place

      pub first_is : st.waiting x.sender x.place ≡ x.item ∷ (received m x.sender x.place xs ++ rest x.sender x.place)
      first_is = e x.sender x.place ∙ ap (λ b. cond b (x.item ∷ received m x.sender x.place xs) (received m x.sender x.place xs) ++ rest x.sender x.place) (same_channel_refl m names x.sender x.place)

      abbrev next : RunState Task Place Store Item
      next = take_first m st x.sender x.place (x.item ∷ (received m x.sender x.place xs ++ rest x.sender x.place))

      waiting_by : (r : Option Task) (q : Place) (b : Bool) → same_channel m r q x.sender x.place ≡ b →
          cond b (received m x.sender x.place xs ++ rest x.sender x.place) (st.waiting r q) ≡ received m r q xs ++ rest r q
      waiting_by r q true is = sym (at_channel m names (λ r q. received m r q xs ++ rest r q) r x.sender q x.place _ refl is)
      waiting_by r q false is = e r q ∙ ap (λ b. cond b (x.item ∷ received m r q xs) (received m r q xs) ++ rest r q) is

      pub next_waiting : (r : Option Task) (q : Place) → (take_first m st x.sender x.place (x.item ∷ (received m x.sender x.place xs ++ rest x.sender x.place))).waiting r q ≡ received m r q xs ++ more_rest r q
      next_waiting r q = ap (λ l. l ++ cond (is_from m.same_task r the_reader) (sent_to m q out.made) []) (waiting_by r q _ refl) ∙ append_assoc (received m r q xs) _ _

      -- the task's own run goes on from the new store
      local_next : (u : Task) (b : Bool) → m.same_task u (m.reader x.place) ≡ b →
          (local m u (cond b (m.step (m.reader x.place) (st.stores (m.reader x.place)) x.place x.item).store (st.stores u)) xs).store
          ≡ (cond b
          (let o = m.step u (st.stores u) x.place x.item in
          let more = local m u o.store xs in
          record { store = more.store; made = o.made ++ more.made; late = o.late + more.late })
          (local m u (st.stores u) xs)).store
      local_next u true is = ap (λ v. (local m u (m.step v (st.stores v) x.place x.item).store xs).store) (sym ((names.tasks u (m.reader x.place)).0 is))
      local_next u false is = refl

      sent_next : (u : Task) (q : Place) (b : Bool) → m.same_task u (m.reader x.place) ≡ b →
          cond b (sent_to m q (m.step (m.reader x.place) (st.stores (m.reader x.place)) x.place x.item).made) []
          ++ sent_to m q (local m u (cond b (m.step (m.reader x.place) (st.stores (m.reader x.place)) x.place x.item).store (st.stores u)) xs).made
          ≡ sent_to m q (cond b
          (let o = m.step u (st.stores u) x.place x.item in
          let more = local m u o.store xs in
          record { store = more.store; made = o.made ++ more.made; late = o.late + more.late })
          (local m u (st.stores u) xs)).made
      sent_next u q true is =
          ap (λ v. sent_to m q (m.step v (st.stores v) x.place x.item).made ++ sent_to m q (local m u (m.step v (st.stores v) x.place x.item).store xs).made) (sym ((names.tasks u (m.reader x.place)).0 is))
          ∙ sym (sent_to-append m q (m.step u (st.stores u) x.place x.item).made _)
      sent_next u q false is = refl

      pub sends_next : (r : Option Task) (q : Place) →
          more_rest r q ++ sent_by m (take_first m st x.sender x.place (x.item ∷ (received m x.sender x.place xs ++ rest x.sender x.place))).stores xs r q
          ≡ rest r q ++ sent_by m st.stores (x ∷ xs) r q
      sends_next None q = append-nil _
      sends_next (Some u) q = append_assoc (rest (Some u) q) _ _ ∙ ap (λ l. rest (Some u) q ++ l) (sent_next u q _ refl)

      pub sends_on : (base : List Item) (r : Option Task) (q : Place) →
          (base ++ cond (is_from m.same_task r (m.reader x.place)) (sent_to m q (m.step (m.reader x.place) (st.stores (m.reader x.place)) x.place x.item).made) [])
          ++ sent_by m (take_first m st x.sender x.place (x.item ∷ (received m x.sender x.place xs ++ rest x.sender x.place))).stores xs r q
          ≡ base ++ sent_by m st.stores (x ∷ xs) r q
      sends_on base None q = append-nil _
      sends_on base (Some u) q = append_assoc base _ _ ∙ ap (λ l. base ++ l) (sent_next u q _ refl)

      pub stores_next : (u : Task) → (local m u ((take_first m st x.sender x.place (x.item ∷ (received m x.sender x.place xs ++ rest x.sender x.place))).stores u) xs).store ≡ (local m u (st.stores u) (x ∷ xs)).store
      stores_next u = local_next u _ refl

    not_empty : (x : Item) (xs ys : List Item) → ys ≡ x ∷ xs → ys ≢ []
    not_empty x xs ys e f = absurd cc

    pub take_all : (ts : List (Taken Task Place Item)) (st : RunState Task Place Store Item) (rest : Option Task → Place → List Item)
        → ((r : Option Task) (q : Place) → st.waiting r q ≡ received m r q ts ++ rest r q)
        → Took st ts rest (fold (advance m) st (map (channel m) ts))
    take_all [] st rest e = record { stores = λ u. refl; waiting = none; given = same; taken = sym (append-nil st.taken); each = tt; late = omega arith }
      where
        same : (r : Option Task) (q : Place) → st.given r q ≡ st.given r q ++ sent_by m st.stores [] r q
        same None q = sym (append-nil (st.given None q))
        same (Some u) q = sym (append-nil (st.given (Some u) q))

        none : (r : Option Task) (q : Place) → st.waiting r q ≡ rest r q ++ sent_by m st.stores [] r q
        none None q = e None q ∙ sym (append-nil (rest None q))
        none (Some u) q = e (Some u) q ∙ sym (append-nil (rest (Some u) q))
    take_all (x ∷ xs) st rest e =
        let is : st.waiting x.sender x.place ≡ x.item ∷ (received m x.sender x.place xs ++ rest x.sender x.place) = first_is st x xs rest e in
        let next : RunState Task Place Store Item = take_first m st x.sender x.place (x.item ∷ (received m x.sender x.place xs ++ rest x.sender x.place)) in
        let same : next ≡ advance m st (channel m x) = ap (take_first m st x.sender x.place) (sym is) in
        let h : Took next xs (more_rest st x xs rest e) (fold (advance m) next (map (channel m) xs)) = take_all xs next (more_rest st x xs rest e) (next_waiting st x xs rest e) in
        subst (λ (n : RunState Task Place Store Item). ((st.waiting x.sender x.place ≢ []) × TakesEach m n (map (channel m) xs)) → Took st (x ∷ xs) rest (fold (advance m) n (map (channel m) xs))) same
        (λ each. record {
          stores = λ u. h.stores u ∙ stores_next st x xs rest e u;
          waiting = λ r q. h.waiting r q ∙ sends_next st x xs rest e r q;
          each = (each.0, subst (λ (n : RunState Task Place Store Item). TakesEach m n (map (channel m) xs)) same h.each);
          late = omega (arith, h.late);
          taken = h.taken ∙ append_assoc st.taken (x ∷ []) xs;
          given = λ r q. h.given r q ∙ sends_on st x xs rest e (st.given r q) r q;
        })
        (not_empty x.item _ _ is, subst (λ (n : RunState Task Place Store Item). TakesEach m n (map (channel m) xs)) same h.each)

    -- ---- an input that gets more records later
    module _ (inputs : Place → List Item) where
      abbrev extra : Option Task → Place → List Item
      extra r q = of_input m r (inputs q)

      front : (r s : Option Task) (q p : Place) (rest w : List Item) (b : Bool) → same_channel m r q s p ≡ b →
          cond b (rest ++ extra s p) (w ++ extra r q) ≡ cond b rest w ++ extra r q
      front r s q p rest w true is = ap (λ l. rest ++ l) (sym (at_channel m names extra r s q p _ refl is))
      front r s q p rest w false is = refl

      swap : (r : Option Task) (q : Place) (t : Task) (xs sends : List Item) →
          (xs ++ extra r q) ++ cond (is_from m.same_task r t) sends [] ≡ (xs ++ cond (is_from m.same_task r t) sends []) ++ extra r q
      swap None q t xs sends = append-nil _ ∙ ap (λ l. l ++ extra None q) (sym (append-nil xs))
      swap (Some u) q t xs sends = ap (λ l. l ++ cond (m.same_task u t) sends []) (append-nil xs) ∙ sym (append-nil _)

      take_fed : (st : RunState Task Place Store Item) (s : Option Task) (p : Place) (xs : List Item) → xs ≢ [] →
          take_first m (fed m st inputs) s p (xs ++ extra s p) ≡ fed m (take_first m st s p xs) inputs
      take_fed st s p [] ne = absurd (ne refl)
      take_fed st s p (x ∷ rest) ne =
          let t = m.reader p in
          let made = (m.step t (st.stores t) p x).made in
          λ i. record {
            stores = λ u. cond (m.same_task u t) (m.step t (st.stores t) p x).store (st.stores u);
            waiting = λ r q. (ap (λ l. l ++ cond (is_from m.same_task r t) (sent_to m q made) []) (front r s q p rest (st.waiting r q) _ refl)
                ∙ swap r q t (cond (same_channel m r q s p) rest (st.waiting r q)) (sent_to m q made)) i;
            given = λ r q. swap r q t (st.given r q) (sent_to m q made) i;
            taken = st.taken ++ record { sender = s; place = p; item = x } ∷ [];
            late = st.late + (m.step t (st.stores t) p x).late;
          }

      more_not_empty : (xs ys : List Item) → xs ≢ [] → (xs ++ ys) ≢ []
      more_not_empty [] ys ne = absurd (ne refl)
      more_not_empty (x ∷ xs) ys ne = λ e. absurd cc

      -- a run whose steps each take a record goes the same way where an input has more
      pub fed_later : (st : RunState Task Place Store Item) (cs : List (Option Task × Place)) → TakesEach m st cs →
          (TakesEach m (fed m st inputs) cs) × (fold (advance m) (fed m st inputs) cs ≡ fed m (fold (advance m) st cs) inputs)
      fed_later st [] each = (tt, refl)
      fed_later st (c ∷ cs) each =
          let is : advance m (fed m st inputs) c ≡ fed m (advance m st c) inputs = take_fed st c.0 c.1 (st.waiting c.0 c.1) each.0 in
          let more = fed_later (advance m st c) cs each.1 in (
            (more_not_empty _ _ each.0, subst (λ (n : RunState Task Place Store Item). TakesEach m n cs) (sym is) more.0),
            ap (λ (n : RunState Task Place Store Item). fold (advance m) n cs) is ∙ more.1,
          )
