-- Lists that grow node by node are the machine's functions of numbers.
use Rattle.std.proofs.Common.{◌≡◌, ℕ, zero, suc, true, false, cond, List, length, [], ◌∷◌, ◌++◌, get_or, Option, None, refl, sym, ap, ◌∙◌, arith, nat_eq, ne_eqb, true≢false, length-append}
use Rattle.std.proofs.lemmas.Bool.Decides.{Decides-eqb}
use Rattle.std.specs.Prelude.{Bool}
use Rattle.ks_plan.specs.Plan.{Kind}
use Rattle.ks_query.specs.Streams.{StreamItem}
use Rattle.ks_query.specs.Query.{with_number}
use Rattle.ks_def_tasks.specs.Messages.{Stored, Rules}
use Rattle.ks_def_tasks.specs.Step.{Arrival, Values, item_at, items_from, value_at, values_from}
use Rattle.ks_def_lookups.specs.Lists.{item_in, all_items, value_in, all_values, NodesActAsLists}

eq_suc : (c n : ℕ) → nat_eq (suc c) (suc n) ≡ nat_eq c n
eq_suc c n = by (nat_eq c n) refl
  where
    by : (t : Bool) → nat_eq c n ≡ t → nat_eq (suc c) (suc n) ≡ t
    by true e = (Decides-eqb (suc c) (suc n)).1 (ap (λ m. suc m) ((Decides-eqb c n).0 e))
    by false e = ne_eqb (suc c) (suc n) (λ (same : suc c ≡ suc n). true≢false (sym ((Decides-eqb c n).1 (omega (arith, same))) ∙ e))

-- one more at the end
last_one : {A : Type 0} (xs : List A) (v d : A) (c : ℕ) → get_or (xs ++ v ∷ []) c d ≡ cond (nat_eq c (length xs)) v (get_or xs c d)
last_one [] v d zero = refl
last_one [] v d (suc c) = ap (λ t. cond t v d) (sym (ne_eqb (suc c) 0 (λ (same : suc c ≡ 0). omega (arith, same))))
last_one (x ∷ xs) v d zero = ap (λ t. cond t v x) (sym (ne_eqb 0 (suc (length xs)) (λ (same : 0 ≡ suc (length xs)). omega (arith, same))))
last_one (x ∷ xs) v d (suc c) = last_one xs v d c ∙ ap (λ t. cond t v (get_or xs c d)) (sym (eq_suc c (length xs)))

one_longer : {A : Type 0} (xs : List A) (v : A) → length (xs ++ v ∷ []) ≡ suc (length xs)
one_longer xs v = omega (arith, length-append xs (v ∷ []))

items_grow : (xs : List (Option StreamItem)) (v : Option StreamItem) → item_in (xs ++ v ∷ []) ≡ with_number (item_in xs) (length xs) v
items_grow xs v = λ i c. last_one xs v None c i

items_are : (a : Arrival) (xs : List (Option StreamItem)) (ks : List Kind) (n : ℕ) → n ≡ length xs → items_from a (item_in xs) n ks ≡ item_in (all_items a xs ks)
items_are a xs [] n e = refl
items_are a xs (k ∷ ks) n e =
    let v = item_at a (item_in xs) k in
    ap (λ m. items_from a (with_number (item_in xs) m v) (suc n) ks) e
    ∙ ap (λ f. items_from a f (suc n) ks) (sym (items_grow xs v))
    ∙ items_are a (xs ++ v ∷ []) ks (suc n) (ap (λ m. suc m) e ∙ sym (one_longer xs v))

values_grow : (olds : Values) (news : List (Option Stored)) (v : Option Stored) → value_in olds (news ++ v ∷ []) ≡ with_number (value_in olds news) (length news) v
values_grow olds news v = λ i c. last_one news v (olds c) c i

values_are : (rules : Rules) (a : Arrival) (items : ℕ → Option StreamItem) (olds : Values) (news : List (Option Stored)) (ks : List Kind) (n : ℕ) → n ≡ length news →
    values_from rules a items olds (value_in olds news) n ks ≡ value_in olds (all_values rules a items olds news ks)
values_are rules a items olds news [] n e = refl
values_are rules a items olds news (k ∷ ks) n e =
    let v : ℕ → Option Stored = λ m. value_at rules a items olds (value_in olds news) m k in
    ap (λ m. values_from rules a items olds (with_number (value_in olds news) m (v m)) (suc n) ks) e
    ∙ ap (λ f. values_from rules a items olds f (suc n) ks) (sym (values_grow olds news (v (length news))))
    ∙ values_are rules a items olds (news ++ v (length news) ∷ []) ks (suc n) (ap (λ m. suc m) e ∙ sym (one_longer news (v (length news))))

pub nodes_act_as_lists : NodesActAsLists
nodes_act_as_lists rules p a olds = record {
  items = items_are a [] p.kinds 0 refl;
  values = λ items. values_are rules a items olds [] p.kinds 0 refl;
}
