-- Values of the nodes that a step goes through.
use Rattle.std.proofs.Common.{◌≡◌, ℕ, suc, ◌+◌, ◌<◌, ◌≤◌, zero, Bool, true, false, cond, not, if◌then◌else◌, ◌==◌, List, [], ◌∷◌, ◌++◌, map, fold, length, get_or, Option, Some, None, refl, sym, ap, subst, ◌∙◌, arith, nat_eq, ne_eqb, eqb-true, option_map, length-append, true≢false}
use Rattle.std.specs.Prelude.{slice_get}
use Rattle.std.proofs.Math.Path.{fun_ext}
use Rattle.std.proofs.lemmas.Bool.Decides.{Decides-eqb}
use Rattle.ks_query.specs.Streams.{Key, StreamItem}
use Rattle.ks_query.specs.Query.{with_number}
use Rattle.ks_def_tasks.specs.Messages.{Stored, shown, Rules}
use Rattle.ks_def_tasks.specs.Step.{Arrival, Values, value_at, values_from, changed}
use Rattle.ks_def_tasks.specs.Bytes.{ByteStores, stored_bytes}
use Rattle.ks_def_lookups.specs.Lists.{value_in}
use Rattle.ks_def_tasks.proofs.Itself.{row_itself, option_itself}
use Rattle.ks_task_nodes.specs.Nodes.{TaskNode, kinds_in, node_view}
use Rattle.ks_task_nodes.specs.Reach.{are_numbered, live_in, NoItems, SameValues, values_at_numbers}
use Rattle.ks_task_nodes.specs.Stored.{stored_in, value_view}
use Rattle.ks_task_values.specs.Changes.{is_other, in_list, changed_bytes}
use Rattle.ks_task_nodes.specs.declared.processor.ProcessorNode.{ProcessorNode}
use Rattle.ks_task_nodes.proofs.Still.{and_second, number_is, values_stay, live_closed, Closed}
use Rattle.ks_task_nodes.proofs.Going.{values_go}
use Rattle.ks_task_values.specs.declared.live.LiveValue.{LiveValue}
use Rattle.ks_task_values.specs.Values.{live_at, old_or, new_or, live_olds, live_news, new_from, stored_at, old_list}

-- ---- one more at the end
fold_last : {A B : Type 0} (f : B → A → B) (z : B) (xs : List A) (x : A) → fold f z (xs ++ x ∷ []) ≡ f (fold f z xs) x
fold_last f z [] x = refl
fold_last f z (y ∷ ys) x = fold_last f (f z y) ys x

pub live_last : (n : ℕ) (xs : List LiveValue) (x : LiveValue) → live_at n (xs ++ x ∷ []) ≡ (if n == x.number then Some x else live_at n xs)
live_last n xs x = fold_last (λ found (y : LiveValue). if n == y.number then Some y else found) None xs x

pub olds_more : (olds : Values) (xs more : List LiveValue) (x : LiveValue) → more ≡ xs ++ x ∷ [] → live_olds olds xs ≡ olds → stored_in x.old ≡ olds x.number → live_olds olds more ≡ olds
olds_more olds xs more x longer was is = ap (live_olds olds) longer ∙ fun_ext (λ m. ap (old_or (olds m)) (live_last m xs x) ∙ by m (m == x.number) refl)
  where
    by : (m : ℕ) (b : Bool) → (m == x.number) ≡ b → old_or (olds m) (if b then Some x else live_at m xs) ≡ olds m
    by m true e = is ∙ ap olds (sym (eqb-true m x.number e))
    by m false e = ap (λ (f : Values). f m) was

pub news_more : (olds : Values) (xs more : List LiveValue) (x : LiveValue) → more ≡ xs ++ x ∷ [] → live_news olds more ≡ with_number (live_news olds xs) x.number (value_view x.new)
news_more olds xs more x longer = ap (live_news olds) longer ∙ fun_ext (λ m. ap (new_or (olds m)) (live_last m xs x) ∙ by m (m == x.number))
  where
    by : (m : ℕ) (b : Bool) → new_or (olds m) (if b then Some x else live_at m xs) ≡ cond b (value_view x.new) (live_news olds xs m)
    by m true = refl
    by m false = refl

-- ---- what is found of a node
pub old_there : (olds : Values) (xs : List LiveValue) (n : ℕ) (x : LiveValue) → Some x ≡ live_at n xs → stored_in x.old ≡ live_olds olds xs n
old_there olds xs n x e = ap (old_or (olds n)) e

pub new_there : (olds : Values) (xs : List LiveValue) (n : ℕ) (x : LiveValue) → Some x ≡ live_at n xs → value_view x.new ≡ live_news olds xs n
new_there olds xs n x e = ap (new_or (olds n)) e

pub old_stays : (olds : Values) (xs : List LiveValue) (n : ℕ) → None ≡ live_at n xs → olds n ≡ live_olds olds xs n
old_stays olds xs n e = ap (old_or (olds n)) e

pub new_stays : (olds : Values) (xs : List LiveValue) (n : ℕ) → None ≡ live_at n xs → olds n ≡ live_news olds xs n
new_stays olds xs n e = ap (new_or (olds n)) e

shown_itself : (o : Option Stored) → is_other o o ≡ false
shown_itself None = refl
shown_itself (Some x) = ap not (row_itself (shown x))

pub change_there : (olds : Values) (xs : List LiveValue) (n : ℕ) (x : LiveValue) → Some x ≡ live_at n xs → x.is_changed ≡ changed (live_olds olds xs) (live_news olds xs) n
change_there olds xs n x e = x.told ∙ ap (λ (o : Option LiveValue). is_other (old_or (olds n) o) (new_or (olds n) o)) e

pub change_stays : (olds : Values) (xs : List LiveValue) (n : ℕ) → None ≡ live_at n xs → false ≡ changed (live_olds olds xs) (live_news olds xs) n
change_stays olds xs n e = sym (shown_itself (olds n)) ∙ ap (λ (o : Option LiveValue). is_other (old_or (olds n) o) (new_or (olds n) o)) e

-- of a value that stays nothing is written
pub unchanged : (w : Option Stored) → None ≡ changed_bytes w w
unchanged w = ap (λ b. cond b None (Some (option_map stored_bytes w))) (sym (option_itself w))

-- ---- the node at a place
pub numbered_at : (m n : ℕ) (nodes : List TaskNode) (node : TaskNode) → are_numbered m nodes ≡ true → slice_get nodes n ≡ Some node → node.topics.number ≡ m + n
numbered_at m n [] node h e = absurd cc
numbered_at m zero (x ∷ nodes) node h e =
    let s : x ≡ node = cc in
    ap (λ (y : TaskNode). y.topics.number) (sym s) ∙ (sym (number_is m x.topics.number (are_numbered (suc m) nodes) h) ∙ omega arith)
numbered_at m (suc n) (x ∷ nodes) node h e = numbered_at (suc m) n nodes node (and_second (m == x.topics.number) (are_numbered (suc m) nodes) h) e ∙ omega arith

-- as a slice hands it out
pub node_there : (ns : List ProcessorNode) (n : ℕ) → n < length ns → (x : ProcessorNode) → ((d : ProcessorNode) → x ≡ get_or ns n d) → Some (node_view x) ≡ slice_get (map node_view ns) n
node_there [] n lt x h = absurd (omega (arith, lt))
node_there (y ∷ ns) zero lt x h = ap (λ (z : ProcessorNode). Some (node_view z)) (h y)
node_there (y ∷ ns) (suc n) lt x h = node_there ns n (omega (arith, lt)) x h

pub no_node : (ns : List ProcessorNode) (n : ℕ) → length ns ≤ n → None ≡ slice_get (map node_view ns) n
no_node [] n le = refl
no_node (y ∷ ns) zero le = absurd (omega (arith, le))
no_node (y ∷ ns) (suc n) le = no_node ns n (omega (arith, le))

pub kinds_there : (nodes : List TaskNode) (n : ℕ) → option_map (λ (x : TaskNode). x.kind) (slice_get nodes n) ≡ slice_get (kinds_in nodes) n
kinds_there [] n = refl
kinds_there (x ∷ nodes) zero = refl
kinds_there (x ∷ nodes) (suc n) = kinds_there nodes n

stored_in_list : (stores : ByteStores) (b : Key) (nodes : List TaskNode) (n : ℕ) (node : TaskNode) → slice_get nodes n ≡ Some node → stored_at stores b node ≡ get_or (map (stored_at stores b) nodes) n None
stored_in_list stores b [] n node e = absurd cc
stored_in_list stores b (x ∷ nodes) zero node e =
    let s : x ≡ node = cc in
    ap (stored_at stores b) (sym s)
stored_in_list stores b (x ∷ nodes) (suc n) node e = stored_in_list stores b nodes n node e

pub stored_there : (stores : ByteStores) (b : Key) (key : Option Key) (nodes : List TaskNode) (n : ℕ) (node : TaskNode) → are_numbered 0 nodes ≡ true → slice_get nodes n ≡ Some node → key ≡ Some b →
    stored_at stores b node ≡ in_list (old_list stores key nodes) node.topics.number
stored_there stores b key nodes n node h e is =
    let number : node.topics.number ≡ n = omega (arith, numbered_at 0 n nodes node h e) in
    stored_in_list stores b nodes n node e
    ∙ (ap (λ (m : ℕ). get_or (map (stored_at stores b) nodes) m None) (sym number)
    ∙ ap (λ (k : Option Key). in_list (old_list stores k nodes) node.topics.number) (sym is))

pub stored_place : (stores : ByteStores) (b : Key) (key : Option Key) (nodes : List TaskNode) (n : ℕ) (node : TaskNode) → slice_get nodes n ≡ Some node → key ≡ Some b → stored_at stores b node ≡ in_list (old_list stores key nodes) n
stored_place stores b key nodes n node e is = stored_in_list stores b nodes n node e ∙ ap (λ (k : Option Key). in_list (old_list stores k nodes) n) (sym is)

-- of a node that isn't there, or of no key, there is none
pub stored_nowhere : (stores : ByteStores) (key : Option Key) (nodes : List TaskNode) (n : ℕ) → slice_get nodes n ≡ None → None ≡ in_list (old_list stores key nodes) n
stored_nowhere stores None nodes n e = refl
stored_nowhere stores (Some b) nodes n e = past nodes n e
  where
    past : (ns : List TaskNode) (i : ℕ) → slice_get ns i ≡ None → None ≡ get_or (map (stored_at stores b) ns) i None
    past [] i h = refl
    past (x ∷ ns) zero h = absurd cc
    past (x ∷ ns) (suc i) h = past ns i h

-- ---- values as a list, and as a function of numbers
eq_suc : (c n : ℕ) → nat_eq (suc c) (suc n) ≡ nat_eq c n
eq_suc c n = by (nat_eq c n) refl
  where
    by : (t : Bool) → nat_eq c n ≡ t → nat_eq (suc c) (suc n) ≡ t
    by true e = (Decides-eqb (suc c) (suc n)).1 (ap (λ m. suc m) ((Decides-eqb c n).0 e))
    by false e = ne_eqb (suc c) (suc n) (λ (same : suc c ≡ suc n). true≢false (sym ((Decides-eqb c n).1 (omega (arith, same))) ∙ e))

last_one : {A : Type 0} (xs : List A) (v d : A) (c : ℕ) → get_or (xs ++ v ∷ []) c d ≡ cond (nat_eq c (length xs)) v (get_or xs c d)
last_one [] v d zero = refl
last_one [] v d (suc c) = ap (λ t. cond t v d) (sym (ne_eqb (suc c) 0 (λ (same : suc c ≡ 0). omega (arith, same))))
last_one (x ∷ xs) v d zero = ap (λ t. cond t v x) (sym (ne_eqb 0 (suc (length xs)) (λ (same : 0 ≡ suc (length xs)). omega (arith, same))))
last_one (x ∷ xs) v d (suc c) = last_one xs v d c ∙ ap (λ t. cond t v (get_or xs c d)) (sym (eq_suc c (length xs)))

one_longer : {A : Type 0} (xs : List A) (v : A) → length (xs ++ v ∷ []) ≡ suc (length xs)
one_longer xs v = omega (arith, length-append xs (v ∷ []))

values_grow : (olds : Values) (news : List (Option Stored)) (v : Option Stored) → value_in olds (news ++ v ∷ []) ≡ with_number (value_in olds news) (length news) v
values_grow olds news v = fun_ext (λ c. last_one news v (olds c) c)

list_is : (rules : Rules) (a : Arrival) (items : ℕ → Option StreamItem) (olds : Values) (news : List (Option Stored)) (n : ℕ) (nodes : List TaskNode) → are_numbered n nodes ≡ true → n ≡ length news →
    value_in olds (new_from rules a items olds news nodes) ≡ values_from rules a items olds (value_in olds news) n (kinds_in nodes)
list_is rules a items olds news n [] h e = refl
list_is rules a items olds news n (node ∷ nodes) h e =
    let m = node.topics.number in
    let v : ℕ → Option Stored = λ i. value_at rules a items olds (value_in olds news) i node.kind in
    let is : n ≡ m = number_is n m (are_numbered (suc n) nodes) h in
    list_is rules a items olds (news ++ v m ∷ []) (suc n) nodes (and_second (n == m) (are_numbered (suc n) nodes) h) (ap (λ i. suc i) e ∙ sym (one_longer news (v m)))
    ∙ ap (λ (f : Values). values_from rules a items olds f (suc n) (kinds_in nodes))
    (values_grow olds news (v m) ∙ (ap (λ (i : ℕ). with_number (value_in olds news) i (v m)) (sym e) ∙ ap (λ (i : ℕ). with_number (value_in olds news) n (v i)) (sym is)))

-- the values of those that are gone through are those of all
pub values_are : (rules : Rules) (a : Arrival) (items : ℕ → Option StreamItem) (olds : Values) (live : List ℕ) (nodes : List TaskNode) →
    are_numbered 0 nodes ≡ true → live ≡ live_in a.topic [] nodes → NoItems live items →
    values_at_numbers rules a items olds nodes olds live ≡ value_in olds (new_from rules a items olds [] nodes)
values_are rules a items olds live nodes h is none =
    sym (values_go rules a items olds live nodes h is none) ∙ sym (list_is rules a items olds [] 0 nodes h refl)

-- and those of others stay
pub values_same : (rules : Rules) (a : Arrival) (items : ℕ → Option StreamItem) (olds : Values) (live : List ℕ) (nodes : List TaskNode) →
    are_numbered 0 nodes ≡ true → live ≡ live_in a.topic [] nodes → NoItems live items → SameValues live olds (values_at_numbers rules a items olds nodes olds live)
values_same rules a items olds live nodes h is none =
    let c : Closed a.topic live 0 nodes = subst (λ (l : List ℕ). Closed a.topic l 0 nodes) (sym is) (live_closed a.topic nodes h) in
    subst (SameValues live olds) (values_go rules a items olds live nodes h is none) (values_stay rules a live items olds 0 nodes olds c none (λ f apart. refl))
