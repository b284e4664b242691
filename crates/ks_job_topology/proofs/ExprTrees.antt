-- An expression by its one member, and a pair by its two items.
use Rattle.std.proofs.Common.{◌≡◌, ℕ, ◌<◌, List, [], ◌∷◌, length, get_or, refl, arith, ap, Bool}
use Rattle.std.specs.Prelude.{Option, Some, None, String, false, codes, if◌then◌else◌}
use Rattle.std.specs.declared.alloc.Global.{Global}
use Rattle.serde_json.specs.Data.{Data, null, boolean, number, string, array, object, no_members, member, no_items, item, depth}
use Rattle.serde_json.specs.View.{view, items_view, members_view}
use Rattle.serde_json.specs.declared.value.Value.{Value}
use Rattle.ks_expr.specs.Terms.{Term, Test, Fails}
use Rattle.ks_job_record.specs.Members.{same}
use Rattle.ks_job_topology.specs.Tests.{compared, connected, comparison_from, is_connective, simple_from, test_from, pair_test}
use Rattle.ks_job_topology.specs.declared.expr.Judged.{Judged}
use Rattle.ks_job_topology.specs.declared.expr.Judged.TheVariants.{Wrong}
use Rattle.ks_job_topology.specs.Exprs.{seen_by, joined, one_member, only_member_of, two_items, only_pair_of, is_arithmetic, expr_from, pair_from, leaf_from, both_of}

pub one_member_none : (ms : List (String Global × Value)) → (length ms ≡ 1 → ⊥) → one_member (members_view ms) ≡ None
one_member_none [] n = refl
one_member_none (m ∷ []) n = absurd (n refl)
one_member_none (m ∷ k ∷ ms) n = refl

abbrev pub by_member : Bool → Option (List ℕ × Data) → Judged Term
by_member sides None = Wrong
by_member sides (Some p) = if is_arithmetic p.0 then pair_from sides p.0 p.1 else leaf_from sides p.0 p.1

abbrev pub by_items : Bool → List ℕ → Option (Data × Data) → Judged Term
by_items sides k None = Wrong
by_items sides k (Some p) = both_of (joined k) (expr_from sides p.0) (expr_from sides p.1)

pub expr_by_member : (sides : Bool) (d : Data) → expr_from sides d ≡ by_member sides (only_member_of d)
expr_by_member sides null = refl
expr_by_member sides (boolean b) = refl
expr_by_member sides (number n) = refl
expr_by_member sides (string s) = refl
expr_by_member sides (array ds) = refl
expr_by_member sides (object no_members) = refl
expr_by_member sides (object (member k d no_members)) = refl
expr_by_member sides (object (member k d (member l e ms))) = refl

pub pair_by_items : (sides : Bool) (k : List ℕ) (d : Data) → pair_from sides k d ≡ by_items sides k (only_pair_of d)
pair_by_items sides k null = refl
pair_by_items sides k (boolean b) = refl
pair_by_items sides k (number n) = refl
pair_by_items sides k (string s) = refl
pair_by_items sides k (object ms) = refl
pair_by_items sides k (array no_items) = refl
pair_by_items sides k (array (item a no_items)) = refl
pair_by_items sides k (array (item a (item b no_items))) = refl
pair_by_items sides k (array (item a (item b (item c ds)))) = refl

pub two_items_none : (vs : List Value) → (length vs ≡ 2 → ⊥) → two_items (items_view vs) ≡ None
two_items_none [] n = refl
two_items_none (v ∷ []) n = refl
two_items_none (v ∷ w ∷ []) n = absurd (n refl)
two_items_none (v ∷ w ∷ x ∷ vs) n = refl

pub two_items_some : (vs : List Value) (d e : Value) → length vs ≡ 2 → two_items (items_view vs) ≡ Some (view (get_or vs 0 d), view (get_or vs 1 e))
two_items_some [] d e n = absurd (omega arith)
two_items_some (v ∷ []) d e n = absurd (omega arith)
two_items_some (v ∷ w ∷ []) d e n = refl
two_items_some (v ∷ w ∷ x ∷ vs) d e n = absurd (omega arith)

abbrev pub value_or : Data → Option (List ℕ × Data) → Data
value_or d None = d
value_or d (Some p) = p.1

abbrev pub first_or : Data → Option (Data × Data) → Data
first_or d None = d
first_or d (Some p) = p.0

abbrev pub second_or : Data → Option (Data × Data) → Data
second_or d None = d
second_or d (Some p) = p.1

pub member_below : (d : Data) (k : List ℕ) (e : Data) → only_member_of d ≡ Some (k, e) → depth e < depth d
member_below (object (member l f no_members)) k e h = let s : f ≡ e = ap (value_or f) h in rw (← s) (omega arith)
member_below (object no_members) k e h = absurd (cc)
member_below (object (member l f (member m g ms))) k e h = absurd (cc)
member_below null k e h = absurd (cc)
member_below (boolean b) k e h = absurd (cc)
member_below (number n) k e h = absurd (cc)
member_below (string s) k e h = absurd (cc)
member_below (array ds) k e h = absurd (cc)

pub first_below : (d a b : Data) → only_pair_of d ≡ Some (a, b) → depth a < depth d
first_below (array (item x (item y no_items))) a b h = let s : x ≡ a = ap (first_or x) h in rw (← s) (omega arith)
first_below (array no_items) a b h = absurd (cc)
first_below (array (item x no_items)) a b h = absurd (cc)
first_below (array (item x (item y (item z ds)))) a b h = absurd (cc)
first_below null a b h = absurd (cc)
first_below (boolean c) a b h = absurd (cc)
first_below (number n) a b h = absurd (cc)
first_below (string s) a b h = absurd (cc)
first_below (object ms) a b h = absurd (cc)

pub second_below : (d a b : Data) → only_pair_of d ≡ Some (a, b) → depth b < depth d
second_below (array (item x (item y no_items))) a b h = let s : y ≡ b = ap (second_or y) h in rw (← s) (omega arith)
second_below (array no_items) a b h = absurd (cc)
second_below (array (item x no_items)) a b h = absurd (cc)
second_below (array (item x (item y (item z ds)))) a b h = absurd (cc)
second_below null a b h = absurd (cc)
second_below (boolean c) a b h = absurd (cc)
second_below (number n) a b h = absurd (cc)
second_below (string s) a b h = absurd (cc)
second_below (object ms) a b h = absurd (cc)

abbrev pub compared_items : List ℕ → Option (Data × Data) → Judged Test
compared_items k None = Wrong
compared_items k (Some p) = both_of (compared k) (expr_from false p.0) (expr_from false p.1)

pub comparison_by_items : (k : List ℕ) (d : Data) → comparison_from k d ≡ compared_items k (only_pair_of d)
comparison_by_items k null = refl
comparison_by_items k (boolean b) = refl
comparison_by_items k (number n) = refl
comparison_by_items k (string s) = refl
comparison_by_items k (object ms) = refl
comparison_by_items k (array no_items) = refl
comparison_by_items k (array (item a no_items)) = refl
comparison_by_items k (array (item a (item b no_items))) = refl
comparison_by_items k (array (item a (item b (item c ds)))) = refl

abbrev pub test_member : Option (List ℕ × Data) → Judged Test
test_member None = Wrong
test_member (Some p) = if same p.0 (codes "not") then seen_by Fails (test_from p.1) else (if is_connective p.0 then pair_test p.0 p.1 else simple_from p.0 p.1)

pub test_by_member : (d : Data) → test_from d ≡ test_member (only_member_of d)
test_by_member null = refl
test_by_member (boolean b) = refl
test_by_member (number n) = refl
test_by_member (string s) = refl
test_by_member (array ds) = refl
test_by_member (object no_members) = refl
test_by_member (object (member k d no_members)) = refl
test_by_member (object (member k d (member l e ms))) = refl

abbrev pub tests_items : List ℕ → Option (Data × Data) → Judged Test
tests_items k None = Wrong
tests_items k (Some p) = both_of (connected k) (test_from p.0) (test_from p.1)

pub tests_by_items : (k : List ℕ) (d : Data) → pair_test k d ≡ tests_items k (only_pair_of d)
tests_by_items k null = refl
tests_by_items k (boolean b) = refl
tests_by_items k (number n) = refl
tests_by_items k (string s) = refl
tests_by_items k (object ms) = refl
tests_by_items k (array no_items) = refl
tests_by_items k (array (item a no_items)) = refl
tests_by_items k (array (item a (item b no_items))) = refl
tests_by_items k (array (item a (item b (item c ds)))) = refl
