-- A machine's step with its task named, and how many records a schedule takes.
use Rattle.std.proofs.Common.{◌≡◌, ◌+◌, ◌≤◌, Bool, true, false, cond, List, length, [], ◌∷◌, ◌++◌, map, Option, fold, refl, ap, arith, length-append}
use Rattle.ks_def_runs.specs.Run.{Machine, RunState, sent_to, is_from, same_channel, take_first, advance}

module _ {Task Place Store Item : Type 0} (m : Machine Task Place Store Item) where
  abbrev pub took_by : RunState Task Place Store Item → Option Task → Place → Item → List Item → Task → RunState Task Place Store Item
  took_by st s q x rest t =
      let out = m.step t (st.stores t) q x in
      record {
        stores = λ u. cond (m.same_task u t) out.store (st.stores u);
        waiting = λ r w. cond (same_channel m r w s q) rest (st.waiting r w) ++ cond (is_from m.same_task r t) (sent_to m w out.made) [];
        given = λ r w. st.given r w ++ cond (is_from m.same_task r t) (sent_to m w out.made) [];
        taken = st.taken ++ record { sender = s; place = q; item = x } ∷ [];
        late = st.late + out.late;
      }

  -- each choice takes at most one record
  taken_one : (st : RunState Task Place Store Item) (s : Option Task) (q : Place) (xs : List Item) → length (take_first m st s q xs).taken ≤ length st.taken + 1
  taken_one st s q [] = omega arith
  taken_one st s q (x ∷ rest) = omega (arith, length-append st.taken (record { sender = s; place = q; item = x } ∷ []))

  pub taken_few : (st : RunState Task Place Store Item) (cs : List (Option Task × Place)) → length (fold (advance m) st cs).taken ≤ length st.taken + length cs
  taken_few st [] = omega arith
  taken_few st (c ∷ cs) = omega (arith, taken_few (advance m st c) cs, taken_one st c.0 c.1 (st.waiting c.0 c.1))

pub map-append : {A B : Type 0} (f : A → B) (xs ys : List A) → map f (xs ++ ys) ≡ map f xs ++ map f ys
map-append f [] ys = refl
map-append f (x ∷ xs) ys = ap (λ l. f x ∷ l) (map-append f xs ys)

pub map-cond : {A B : Type 0} (f : A → B) (b : Bool) (xs ys : List A) → map f (cond b xs ys) ≡ cond b (map f xs) (map f ys)
map-cond f true xs ys = refl
map-cond f false xs ys = refl
