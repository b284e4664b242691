-- What a sound state says of a present row.
use Rattle.std.proofs.Common.{◌≡◌, ℕ, [], Some, None, fold, ap, ◌∙◌, Decides}
use Rattle.ks_law_quiescence.specs.ForeignJoin.{Protocol, Join, accept, key_of}
use Rattle.ks_law_quiescence.proofs.OneKey.{Sound}

module _ {K X Y Z : Type 0} (join : Protocol K X Y Z) (decides : (a b : K) → Decides (join.alike a b) (a ≡ b)) where
  pub settled_without : (st : Join K X Y Z) (v : X) → st.row ≡ Some v → join.foreign_key v ≡ None → Sound join decides st → st.result ≡ join.joined v None
  settled_without st v e f h =
      let g : key_of join st.row ≡ None = ap (key_of join) e ∙ f in
      let s : st.result ≡ join.joined v None = rw (g, e) at (h.settled) in s

  pub settled_with : (st : Join K X Y Z) (v : X) (a : K) → st.row ≡ Some v → join.foreign_key v ≡ Some a → st.subscriptions a ≡ [] → Sound join decides st →
      fold (accept join (Some v)) st.result (st.responses (join.part a)) ≡ join.joined v (st.right a)
  settled_with st v a e f w h =
      let g : key_of join st.row ≡ Some a = ap (key_of join) e ∙ f in
      let s : fold (accept join (Some v)) st.result (st.responses (join.part a)) ≡ join.joined v (st.right a) = rw (g, e, w) at (h.settled) in s
