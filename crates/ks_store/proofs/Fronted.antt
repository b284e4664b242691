-- Keys that have a front, and the groups in which they stand by it.
use Rattle.std.proofs.Common.{◌≡◌, ℕ, zero, suc, ◌+◌, ◌≤◌, Bool, true, false, cond, not, List, [], ◌∷◌, length, take, drop, Option, Some, None, refl, sym, ap, subst, ◌∙◌, arith, le-ltb, le-leb, ltb-false, eqb-true, length-drop}
use Rattle.std.specs.Prelude.{is_some, IsSome, ◌==◌, nat_le, nat_lt, nat_eq, option_map, Result, Ok, Err, OnOk, OnErr, ⊤}
use Rattle.std.specs.Global.{Vec}
use Rattle.std.specs.Int.{w32, from_be_bytes}
use Rattle.std.specs.declared.alloc.AllocError.{AllocError}
use Rattle.std.specs.declared.cmp.Ordering.{Ordering}
use Rattle.std.specs.declared.cmp.Ordering.TheVariants.{Less, Equal, Greater}
use Rattle.std.specs.Ordering.{eq_by_cmp}
use Rattle.std.specs.Cmp.{eq_by_cmp_equiv}
use Rattle.std.specs.Cmp.Lexicographic.{pointwise, texts_ties}
use Rattle.std.specs.List.{starts_with, AllByRecursion}
use Rattle.std.specs.Map.{lookup, KeepsOthers}
use Rattle.std.specs.FinMap.Entries.{find, put, where_key, by_order, find-where_key, is_sorted-put, is_sorted-where_key}
use Rattle.std.proofs.lemmas.Bool.{true≢false}
use Rattle.std.proofs.lemmas.Cmp.{nat_list_cmp_total}
use Rattle.ks_def_runs.specs.Bytes.{by_bytes}
use Rattle.ks_store.specs.declared.groups.Group.{Group}
use Rattle.ks_store.specs.declared.groups.Group.TheVariants.{One, Many}
use Rattle.ks_store.specs.Groups.{Keys, front_end, front_in, is_some_of, keys_in, with_key, keys_without, is_only_key, IsGroup, groups_of, keys_or_none, listed_under, AreGroups, is_among, is_listed, ListSame, ListSameBut}
use Rattle.ks_store.proofs.Trees.{under}
use Rattle.ks_store.proofs.Tables.{same, same_key, alike_test, apart_test, some_put, found_put, as_before}

abbrev Grouped : Type 0
Grouped = List (List ℕ × Keys)

-- ---- fronts

tied : (x : List ℕ) → eq_by_cmp by_bytes x x ≡ true
tied = (eq_by_cmp_equiv nat_list_cmp_total).refl

abbrev or_else : List ℕ → Option (List ℕ) → List ℕ
or_else d None = d
or_else d (Some y) = y

same_some : (x y : List ℕ) → Some x ≡ Some y → x ≡ y
same_some x y e = ap (or_else x) e

-- a key begins with the front of its own
take_own : (n : ℕ) (key : List ℕ) → take (length (take n key)) key ≡ take n key
take_own zero key = refl
take_own (suc n) [] = refl
take_own (suc n) (k ∷ ks) = ap (λ (x : List ℕ). k ∷ x) (take_own n ks)

begins_so : (n : ℕ) (key : List ℕ) → starts_with ◌==◌ key (take n key) ≡ true
begins_so n key =
    ap (λ (x : List ℕ). pointwise nat_eq (take n key) x) (take_own n key) ∙ (texts_ties (take n key) (take n key) ∙ tied (take n key))

begins_with_its : (key front : List ℕ) (end : Option ℕ) → option_map (λ n. take n key) end ≡ Some front → starts_with ◌==◌ key front ≡ true
begins_with_its key front None is = absurd (true≢false (sym (ap is_some is)))
begins_with_its key front (Some n) is = subst (λ (x : List ℕ). starts_with ◌==◌ key x ≡ true) (same_some (take n key) front is) (begins_so n key)

pub has_front : (front key : List ℕ) → front_in key ≡ Some front → starts_with ◌==◌ key front ≡ true
has_front front key is = begins_with_its key front (front_end key) is

-- what a front says of itself
pub record IsFront (front : List ℕ) : Type 0 where
  pub long : 4 ≤ length front
  pub counted : from_be_bytes w32 (take 4 front) + 4 ≡ length front

is_front_by : (front : List ℕ) (a b : Bool) → nat_lt (length front) 4 ≡ a → is_some_of (cond a None (cond b (Some (from_be_bytes w32 (take 4 front) + 4)) None)) (length front) ≡ true → IsFront front
is_front_by front true b e h = absurd (true≢false (sym h))
is_front_by front false false e h = absurd (true≢false (sym h))
is_front_by front false true e h = record { long = ltb-false (length front) 4 e; counted = eqb-true _ _ h }

pub is_front : (front : List ℕ) → is_some_of (front_end front) (length front) ≡ true → IsFront front
is_front front h = is_front_by front (nat_lt (length front) 4) (nat_le (from_be_bytes w32 (take 4 front)) (length (drop 4 front))) refl h

front_at : (key : List ℕ) (n : ℕ) → 4 ≤ length key → from_be_bytes w32 (take 4 key) ≡ n → n + 4 ≤ length key → front_end key ≡ Some (n + 4)
front_at key n long is within =
    ap (λ (b : Bool). cond {A = Option ℕ} b None (cond (nat_le (from_be_bytes w32 (take 4 key)) (length (drop 4 key))) (Some (from_be_bytes w32 (take 4 key) + 4)) None)) (le-ltb (length key) 4 long)
    ∙ (ap (λ (b : Bool). cond {A = Option ℕ} b (Some (from_be_bytes w32 (take 4 key) + 4)) None) (le-leb (from_be_bytes w32 (take 4 key)) (length (drop 4 key)) (omega (arith, is, within, length-drop 4 key)))
    ∙ ap (λ (m : ℕ). Some (m + 4)) is)

-- a key that begins with a front has it
pub begun_has : (front key : List ℕ) → is_some_of (front_end front) (length front) ≡ true → starts_with ◌==◌ key front ≡ true → front_in key ≡ Some front
begun_has front key h begins =
    let front-is : front ≡ take (length front) key = same_key front (take (length front) key) (sym (texts_ties front (take (length front) key)) ∙ begins) in
    let f : IsFront front = is_front front h in
    let within : length front ≤ length key = subst (λ (m : ℕ). m ≤ length key) (sym (ap length front-is)) (length_taken (length front) key) in
    let four : take 4 key ≡ take 4 front = sym (ap (take 4) front-is ∙ take_in 4 (length front) key f.long) in
    let end : front_end key ≡ Some (from_be_bytes w32 (take 4 front) + 4) = front_at key (from_be_bytes w32 (take 4 front)) (omega (arith, f.long, within)) (ap (from_be_bytes w32) four) (omega (arith, f.counted, within)) in
    ap (option_map (λ n. take n key)) (end ∙ ap (λ (n : ℕ). Some n) f.counted) ∙ ap (λ (x : List ℕ). Some x) (sym front-is)
  where
    length_taken : (n : ℕ) (xs : List ℕ) → length (take n xs) ≤ length xs
    length_taken zero xs = omega arith
    length_taken (suc n) [] = omega arith
    length_taken (suc n) (x ∷ xs) = omega (arith, length_taken n xs)

    take_in : (m n : ℕ) (xs : List ℕ) → m ≤ n → take m (take n xs) ≡ take m xs
    take_in zero n xs le = refl
    take_in (suc m) zero xs le = absurd (omega (arith, le))
    take_in (suc m) (suc n) [] le = refl
    take_in (suc m) (suc n) (x ∷ xs) le = ap (λ (y : List ℕ). x ∷ y) (take_in m n xs (omega (arith, le)))

-- ---- groups

abbrev HaveFront : List ℕ → Keys → Type 0
HaveFront front keys = AllByRecursion (λ e. front_in e.0 ≡ Some front) keys

pub under_own : (front : List ℕ) (keys : Keys) → HaveFront front keys → under front keys ≡ keys
under_own front [] h = refl
under_own front (e ∷ es) h =
    ap (λ (b : Bool). cond b (e ∷ under front es) (under front es)) (has_front front e.0 h.0) ∙ ap (λ (x : Keys). e ∷ x) (under_own front es h.1)

own_put : (front k v : List ℕ) (es : Keys) → front_in k ≡ Some front → HaveFront front es → HaveFront front (put by_bytes k v es)
own_put front k v [] b h = (b, tt)
own_put front k v (e ∷ es) b h = by (by_bytes k e.0) (own_put front k v es b h.1)
  where
    by : (o : Ordering) → HaveFront front (put by_bytes k v es) → HaveFront front (by_order o ((k, v) ∷ e ∷ es) ((e.0, v) ∷ es) (e ∷ put by_bytes k v es))
    by Less g = (b, h)
    by Equal g = (h.0, h.1)
    by Greater g = (h.0, g)

own_where : (front : List ℕ) (p : List ℕ → Bool) (es : Keys) → HaveFront front es → HaveFront front (where_key by_bytes p es)
own_where front p [] h = tt
own_where front p (e ∷ es) h = by (p e.0) (own_where front p es h.1)
  where
    by : (b : Bool) → HaveFront front (where_key by_bytes p es) → HaveFront front (cond b (e ∷ where_key by_bytes p es) (where_key by_bytes p es))
    by true g = (h.0, g)
    by false g = g

-- a group that one more key is put into
pub with_group : (front key : List ℕ) (keys : Keys) → front_in key ≡ Some front → IsGroup front keys → IsGroup front (with_key key keys)
with_group front key keys f h = (is_sorted-put by_bytes nat_list_cmp_total key [] keys h.0, own_put front key [] keys f h.1)

-- the first key of a front
pub one_key : (front key : List ℕ) → front_in key ≡ Some front → IsGroup front ((key, []) ∷ [])
one_key front key f = (tt, (f, tt))

pub one_found : (key q : List ℕ) → is_some {T = List ℕ} (find by_bytes q ((key, []) ∷ [])) ≡ cond (eq_by_cmp by_bytes q key) true false
one_found key q = some_put (eq_by_cmp by_bytes q key) [] None

-- a key taken from its group
pub without_group : (front key : List ℕ) (g : Group) → IsGroup front (keys_in g) → IsGroup front (keys_without key g)
without_group front key (One own) h = h
without_group front key (Many pairs) h = (is_sorted-where_key by_bytes (λ k. not (eq_by_cmp by_bytes key k)) (keys_in (Many pairs)) h.0, own_where front (λ k. not (eq_by_cmp by_bytes key k)) (keys_in (Many pairs)) h.1)

-- what is found of a group without a key, where this one isn't the only one
pub without_found : (key : List ℕ) (g : Group) (q : List ℕ) → is_only_key (Some g) key ≡ false → is_some (find by_bytes q (keys_without key g)) ≡ cond (eq_by_cmp by_bytes q key) false (is_some (find by_bytes q (keys_in g)))
without_found key (One own) q other = by (eq_by_cmp by_bytes q key) refl
  where
    symm : (x y : List ℕ) → eq_by_cmp by_bytes x y ≡ eq_by_cmp by_bytes y x
    symm = (eq_by_cmp_equiv nat_list_cmp_total).symm

    by : (b : Bool) → eq_by_cmp by_bytes q key ≡ b → is_some (cond {A = Option (List ℕ)} (eq_by_cmp by_bytes q own.items) (Some []) None) ≡ cond b false (is_some (cond {A = Option (List ℕ)} (eq_by_cmp by_bytes q own.items) (Some []) None))
    by true e =
        ap (λ (b : Bool). is_some (cond {A = Option (List ℕ)} b (Some []) None))
        (ap (λ (x : List ℕ). eq_by_cmp by_bytes x own.items) (same_key q key e) ∙ (symm key own.items ∙ (sym (texts_ties own.items key) ∙ other)))
    by false e = refl
without_found key (Many pairs) q other =
    ap is_some (find-where_key by_bytes (λ x. not (eq_by_cmp by_bytes key x)) q (λ x t. ap (λ (y : List ℕ). not (eq_by_cmp by_bytes key y)) (sym (same q x t))) (keys_in (Many pairs)))
    ∙ (ap (λ (b : Bool). is_some (cond (not b) (find by_bytes q (keys_in (Many pairs))) None)) ((eq_by_cmp_equiv nat_list_cmp_total).symm key q)
    ∙ kept (eq_by_cmp by_bytes q key) (find by_bytes q (keys_in (Many pairs))))
  where
    kept : (b : Bool) (o : Option (List ℕ)) → is_some (cond (not b) o None) ≡ cond b false (is_some o)
    kept true o = refl
    kept false o = refl

-- of a key that is alone no other is found
pub only_found : (key : List ℕ) (o : Option Group) (q : List ℕ) → is_only_key o key ≡ true → eq_by_cmp by_bytes q key ≡ false → is_some (find by_bytes q (keys_or_none (option_map keys_in o))) ≡ false
only_found key None q only apart = absurd (true≢false (sym only))
only_found key (Some (Many pairs)) q only apart = absurd (true≢false (sym only))
only_found key (Some (One own)) q only apart =
    let own-is : own.items ≡ key = same_key own.items key (sym (texts_ties own.items key) ∙ only) in
    ap (λ (x : List ℕ). is_some (cond {A = Option (List ℕ)} (eq_by_cmp by_bytes q x) (Some []) None)) own-is ∙ ap (λ (b : Bool). is_some (cond {A = Option (List ℕ)} b (Some []) None)) apart

-- ---- groups by their front

pub find_groups : (es : List (Vec ℕ × Group)) (q : List ℕ) → option_map keys_in (lookup (λ (k : Vec ℕ). pointwise nat_eq q k.items) es) ≡ find by_bytes q (groups_of es)
find_groups [] q = refl
find_groups (e ∷ es) q = by (pointwise nat_eq q e.0.items) (eq_by_cmp by_bytes q e.0.items) (texts_ties q e.0.items) (find_groups es q)
  where
    by : (a b : Bool) → a ≡ b → option_map keys_in (lookup (λ (k : Vec ℕ). pointwise nat_eq q k.items) es) ≡ find by_bytes q (groups_of es) →
        option_map keys_in (cond a (Some e.1) (lookup (λ (k : Vec ℕ). pointwise nat_eq q k.items) es)) ≡ cond b (Some (keys_in e.1)) (find by_bytes q (groups_of es))
    by true true t h = refl
    by true false t h = absurd (true≢false t)
    by false true t h = absurd (true≢false (sym t))
    by false false t h = h

-- what is listed of a front
pub listed_is : (es : List (Vec ℕ × Group)) (q : List ℕ) → keys_or_none (option_map keys_in (lookup (λ (k : Vec ℕ). pointwise nat_eq q k.items) es)) ≡ listed_under q (groups_of es)
listed_is es q = ap keys_or_none (find_groups es q)

-- what a change at the front f leaves, from what the table says of it
pub regrouped : (old new : List (Vec ℕ × Group)) (f : List ℕ) (w : Option Group) → lookup (λ (x : Vec ℕ). pointwise nat_eq f x.items) new ≡ w →
    KeepsOthers (λ (x y : Vec ℕ). pointwise nat_eq x.items y.items) (λ (x : Vec ℕ). pointwise nat_eq f x.items) old new →
    (q : List ℕ) → listed_under q (groups_of new) ≡ cond (eq_by_cmp by_bytes q f) (keys_or_none (option_map keys_in w)) (listed_under q (groups_of old))
unfolding KeepsOthers
regrouped old new f w at others q = by (eq_by_cmp by_bytes q f) refl
  where
    by : (b : Bool) → eq_by_cmp by_bytes q f ≡ b → listed_under q (groups_of new) ≡ cond b (keys_or_none (option_map keys_in w)) (listed_under q (groups_of old))
    by true e = ap (λ (x : List ℕ). listed_under x (groups_of new)) (same_key q f e) ∙ (sym (listed_is new f) ∙ ap (λ (o : Option Group). keys_or_none (option_map keys_in o)) at)
    by false e =
        sym (listed_is new q)
        ∙ (ap (λ (o : Option Group). keys_or_none (option_map keys_in o)) (others (λ (x : Vec ℕ). pointwise nat_eq q x.items) (alike_test (λ (x : Vec ℕ). x.items) q) (apart_test (λ (x : Vec ℕ). x.items) q f e)) ∙ listed_is old q)

-- a change at one front: the keys there, and all others as before
abbrev pub ChangesAt : List ℕ → Keys → Grouped → Grouped → Type 0
ChangesAt f keys old new = (q : List ℕ) → listed_under q new ≡ cond (eq_by_cmp by_bytes q f) keys (listed_under q old)

pub groups_changed : (f : List ℕ) (keys : Keys) (old new : Grouped) → ChangesAt f keys old new → AreGroups old → IsGroup f keys → AreGroups new
groups_changed f keys old new is h own q = subst (IsGroup q) (sym (is q)) (by (eq_by_cmp by_bytes q f) refl)
  where
    by : (b : Bool) → eq_by_cmp by_bytes q f ≡ b → IsGroup q (cond b keys (listed_under q old))
    by true e = subst (λ (x : List ℕ). IsGroup x keys) (sym (same_key q f e)) own
    by false e = h q

-- where the keys of that front are the same, the same are listed
pub listed_same : (f : List ℕ) (keys : Keys) (old new : Grouped) → ChangesAt f keys old new → keys ≡ listed_under f old → ListSame old new
listed_same f keys old new is same_keys q = by (front_in q)
  where
    here : (front : List ℕ) (b : Bool) → eq_by_cmp by_bytes front f ≡ b → cond b keys (listed_under front old) ≡ listed_under front old
    here front true e = same_keys ∙ ap (λ (x : List ℕ). listed_under x old) (sym (same_key front f e))
    here front false e = refl

    by : (o : Option (List ℕ)) → is_among o q new ≡ is_among o q old
    by None = refl
    by (Some front) = ap (λ (x : Keys). is_some (find by_bytes q x)) (is front ∙ here front (eq_by_cmp by_bytes front f) refl)

-- where the keys of that front are the same but for one, so are those that are listed
pub listed_but : (f key : List ℕ) (w : Bool) (keys : Keys) (old new : Grouped) → ChangesAt f keys old new → front_in key ≡ Some f →
    ((q : List ℕ) → is_some (find by_bytes q keys) ≡ cond (eq_by_cmp by_bytes q key) w (is_some (find by_bytes q (listed_under f old)))) → ListSameBut key w old new
listed_but f key w keys old new is own inner q = by (front_in q) refl
  where
    no_front : (b : Bool) → eq_by_cmp by_bytes q key ≡ b → front_in q ≡ None → false ≡ cond b w false
    no_front true t e = absurd (true≢false (sym (ap is_some (sym e ∙ (ap front_in (same_key q key t) ∙ own)))))
    no_front false t e = refl

    apart : (front : List ℕ) (b : Bool) → eq_by_cmp by_bytes q key ≡ b → front_in q ≡ Some front → eq_by_cmp by_bytes front f ≡ false → b ≡ false
    apart front true t e other =
        absurd (true≢false (sym (ap (λ (x : List ℕ). eq_by_cmp by_bytes x f) (same_some front f (sym e ∙ (ap front_in (same_key q key t) ∙ own))) ∙ tied f) ∙ other))
    apart front false t e other = refl

    at : (front : List ℕ) (b : Bool) → eq_by_cmp by_bytes front f ≡ b → front_in q ≡ Some front →
        is_some (find by_bytes q (cond b keys (listed_under front old))) ≡ cond (eq_by_cmp by_bytes q key) w (is_some (find by_bytes q (listed_under front old)))
    at front true t e = inner q ∙ ap (λ (x : List ℕ). cond (eq_by_cmp by_bytes q key) w (is_some (find by_bytes q (listed_under x old)))) (sym (same_key front f t))
    at front false t e = sym (ap (λ (b : Bool). cond b w (is_some (find by_bytes q (listed_under front old)))) (apart front (eq_by_cmp by_bytes q key) refl e t))

    by : (o : Option (List ℕ)) → front_in q ≡ o → is_among o q new ≡ cond (eq_by_cmp by_bytes q key) w (is_among o q old)
    by None e = no_front (eq_by_cmp by_bytes q key) refl e
    by (Some front) e = ap (λ (x : Keys). is_some (find by_bytes q x)) (is front) ∙ at front (eq_by_cmp by_bytes front f) refl e

-- whether a key with a front is listed, after it was
pub key_listed : (r : Result ⊤ AllocError) (key front : List ℕ) (old new : Grouped) → Some front ≡ front_in key → OnOk r (ListSameBut key true old new) → OnOk r (ListSameBut key (is_some (front_in key)) old new)
key_listed r key front old new own = subst (λ (o : Option (List ℕ)). OnOk r (ListSameBut key true old new) → OnOk r (ListSameBut key (is_some o) old new)) own (λ h. h)

-- a key without a front is listed nowhere
pub listed_nowhere : (key : List ℕ) (groups : Grouped) → None ≡ front_in key → is_listed key groups ≡ false
listed_nowhere key groups none = ap (λ (o : Option (List ℕ)). is_among o key groups) (sym none)

-- where it is neither listed nor taken away nothing changes
pub nowhere_still : (key : List ℕ) (b : Bool) (groups : Grouped) → None ≡ front_in key → b ≡ false → ListSameBut key b groups groups
nowhere_still key b groups none is = as_before key b groups (listed_nowhere key groups none ∙ sym is)

-- ---- what the calls on groups leave
abbrev Groups : Type 0
Groups = List (Vec ℕ × Group)

-- whether a group is that of a front
abbrev At : List ℕ → Vec ℕ → Bool
At f x = pointwise nat_eq f x.items

abbrev Keeps : List ℕ → Groups → Groups → Type 0
Keeps f old new = KeepsOthers (λ (x y : Vec ℕ). pointwise nat_eq x.items y.items) (At f) old new

-- the group that is found of a front
pub group_here : (groups : Groups) (front : List ℕ) (g : Group) → Some g ≡ lookup (At front) groups → keys_in g ≡ listed_under front (groups_of groups)
group_here groups front g there = ap (λ (o : Option Group). keys_or_none (option_map keys_in o)) there ∙ listed_is groups front

pub none_here : (groups : Groups) (front : List ℕ) → None ≡ lookup (At front) groups → [] ≡ listed_under front (groups_of groups)
none_here groups front absent = ap (λ (o : Option Group). keys_or_none (option_map keys_in o)) absent ∙ listed_is groups front

pub group_is : (groups : Groups) (front : List ℕ) (g : Group) → Some g ≡ lookup (At front) groups → AreGroups (groups_of groups) → IsGroup front (keys_in g)
group_is groups front g there are = subst (IsGroup front) (sym (group_here groups front g there)) (are front)

-- this key is listed too, or after want of memory the same ones
abbrev pub ListsWith : Result ⊤ AllocError → List ℕ → Grouped → Grouped → Type 0
ListsWith r key old new = AreGroups new × OnOk r (ListSameBut key true old new) × OnErr r (ListSame old new)

pub group_found : {o : Option Group} {g : Group} → Some g ≡ o → IsSome o
group_found {o} e = subst IsSome e refl

-- what is so in any case is so after want of memory
pub on_err : (r : Result ⊤ AllocError) (old new : Grouped) → ListSame old new → OnErr r (ListSame old new)
on_err (Ok u) old new h = tt
on_err (Err e) old new h = h

-- a key is put into the group of its front, or want of memory left it
pub added : (r : Result ⊤ AllocError) (old new : Groups) (front key copy : List ℕ) (g h : Group) → copy ≡ key → Some front ≡ front_in key → Some g ≡ lookup (At front) old → lookup (At front) new ≡ Some h → Keeps front old new →
    OnOk r (keys_in h ≡ with_key copy (keys_in g)) → OnErr r (keys_in h ≡ keys_in g) → AreGroups (groups_of old) → ListsWith r key (groups_of old) (groups_of new)
added (Ok u) old new front key copy g h same_own own there at others ok err are =
    let here : keys_in g ≡ listed_under front (groups_of old) = group_here old front g there in
    let is : ChangesAt front (keys_in h) (groups_of old) (groups_of new) = regrouped old new front (Some h) at others in
    let more : keys_in h ≡ with_key key (listed_under front (groups_of old)) = ok ∙ (ap (λ (k : List ℕ). with_key k (keys_in g)) same_own ∙ ap (with_key key) here) in (
      groups_changed front (keys_in h) (groups_of old) (groups_of new) is are (subst (IsGroup front) (sym more) (with_group front key (listed_under front (groups_of old)) (sym own) (are front))),
      listed_but front key true (keys_in h) (groups_of old) (groups_of new) is (sym own) (λ q. ap (λ (x : Keys). is_some (find by_bytes q x)) more ∙ found_put q key [] (listed_under front (groups_of old))),
      tt,
    )
added (Err x) old new front key copy g h same_own own there at others ok err are =
    let here : keys_in g ≡ listed_under front (groups_of old) = group_here old front g there in
    let is : ChangesAt front (keys_in h) (groups_of old) (groups_of new) = regrouped old new front (Some h) at others in (
      groups_changed front (keys_in h) (groups_of old) (groups_of new) is are (subst (IsGroup front) (sym (err ∙ here)) (are front)),
      tt,
      listed_same front (keys_in h) (groups_of old) (groups_of new) is (err ∙ here),
    )

-- the first key of a front
pub begun : (old met new : Groups) (front f key : List ℕ) (own : Vec ℕ) → met ≡ old → f ≡ front → own.items ≡ key → Some front ≡ front_in key → None ≡ lookup (At front) old → lookup (At f) new ≡ Some (One own) → Keeps f met new →
    AreGroups (groups_of old) → AreGroups (groups_of new) × ListSameBut key true (groups_of old) (groups_of new)
begun old met new front f key own as_met same_front same_own has_front_ absent at others_met are =
    let others : Keeps f old new = subst (λ (x : Groups). Keeps f x new) as_met others_met in
    let empty : [] ≡ listed_under front (groups_of old) = none_here old front absent in
    let keys = (own.items, []) ∷ [] in
    let is : ChangesAt front keys (groups_of old) (groups_of new) =
    subst (λ (x : List ℕ). ChangesAt x keys (groups_of old) (groups_of new)) same_front (regrouped old new f (Some (One own)) at others) in (
      groups_changed front keys (groups_of old) (groups_of new) is are (subst (λ (x : List ℕ). IsGroup front ((x, []) ∷ [])) (sym same_own) (one_key front key (sym has_front_))),
      listed_but front key true keys (groups_of old) (groups_of new) is (sym has_front_)
          (λ q. ap (λ (x : List ℕ). is_some {T = List ℕ} (find by_bytes q ((x, []) ∷ []))) same_own
          ∙ (one_found key q ∙ ap (λ (x : Keys). cond (eq_by_cmp by_bytes q key) true (is_some (find by_bytes q x))) empty)),
    )

-- the group of a key that is alone goes
pub gone : (old new : Groups) (front key : List ℕ) (o : Option Group) → Some front ≡ front_in key → o ≡ lookup (At front) old → is_only_key o key ≡ true → lookup (At front) new ≡ None → Keeps front old new →
    AreGroups (groups_of old) → AreGroups (groups_of new) × ListSameBut key false (groups_of old) (groups_of new)
gone old new front key o own there only at others are =
    let here : keys_or_none (option_map keys_in o) ≡ listed_under front (groups_of old) = ap (λ (x : Option Group). keys_or_none (option_map keys_in x)) there ∙ listed_is old front in
    let is : ChangesAt front [] (groups_of old) (groups_of new) = regrouped old new front None at others in (
      groups_changed front [] (groups_of old) (groups_of new) is are (tt, tt),
      listed_but front key false [] (groups_of old) (groups_of new) is (sym own)
          (λ q. none_left key o q only ∙ ap (λ (x : Keys). cond (eq_by_cmp by_bytes q key) false (is_some (find by_bytes q x))) here),
    )
  where
    none_left : (key : List ℕ) (o : Option Group) (q : List ℕ) → is_only_key o key ≡ true → false ≡ cond (eq_by_cmp by_bytes q key) false (is_some (find by_bytes q (keys_or_none (option_map keys_in o))))
    none_left key o q only = by (eq_by_cmp by_bytes q key) refl
      where
        by : (b : Bool) → eq_by_cmp by_bytes q key ≡ b → false ≡ cond b false (is_some (find by_bytes q (keys_or_none (option_map keys_in o))))
        by true e = refl
        by false e = sym (only_found key o q only e)

pub not_only : {l : Option Group} {g : Group} {o : Option Group} (key : List ℕ) → Some g ≡ l → o ≡ l → is_only_key o key ≡ false → is_only_key (Some g) key ≡ false
not_only key there found other = ap (λ (x : Option Group). is_only_key x key) (there ∙ sym found) ∙ other

-- a key goes from its group, in which it isn't alone
pub taken : (old new : Groups) (front key : List ℕ) (g h : Group) → Some front ≡ front_in key → Some g ≡ lookup (At front) old → is_only_key (Some g) key ≡ false → lookup (At front) new ≡ Some h → Keeps front old new →
    keys_in h ≡ keys_without key g → AreGroups (groups_of old) → AreGroups (groups_of new) × ListSameBut key false (groups_of old) (groups_of new)
taken old new front key g h own there other at others left are =
    let here : keys_in g ≡ listed_under front (groups_of old) = group_here old front g there in
    let is : ChangesAt front (keys_in h) (groups_of old) (groups_of new) = regrouped old new front (Some h) at others in (
      groups_changed front (keys_in h) (groups_of old) (groups_of new) is are (subst (IsGroup front) (sym left) (without_group front key g (subst (IsGroup front) (sym here) (are front)))),
      listed_but front key false (keys_in h) (groups_of old) (groups_of new) is (sym own)
          (λ q. ap (λ (x : Keys). is_some (find by_bytes q x)) left
          ∙ (without_found key g q other ∙ ap (λ (x : Keys). cond (eq_by_cmp by_bytes q key) false (is_some (find by_bytes q x))) here)),
    )

-- a front without a group
pub absent : (groups : Groups) (front key : List ℕ) → Some front ≡ front_in key → None ≡ lookup (At front) groups → ListSameBut key false (groups_of groups) (groups_of groups)
absent groups front key own none =
    as_before key false (groups_of groups)
    (ap (λ (o : Option (List ℕ)). is_among o key (groups_of groups)) (sym own) ∙ ap (λ (x : Keys). is_some (find by_bytes key x)) (sym (none_here groups front none)))

-- ---- what two keys of a front leave
pub both_put : (one other a v w : List ℕ) (none first second : Keys) → none ≡ [] → first ≡ put by_bytes a v none → second ≡ put by_bytes other w first → a ≡ one → v ≡ [] → w ≡ [] → second ≡ with_key other (with_key one [])
both_put one other a v w none first second e f g h i j =
    let first-is : first ≡ (one, []) ∷ [] = f ∙ (ap (put by_bytes a v) e ∙ (ap (λ (x : List ℕ). (x, v) ∷ []) h ∙ ap (λ (x : List ℕ). (one, x) ∷ []) i)) in
    g ∙ (ap (λ (x : List ℕ). put by_bytes other x first) j ∙ ap (put by_bytes other []) first-is)
