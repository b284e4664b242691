-- Predicates, as JSON says them.
use Rattle.std.specs.Prelude.{ℕ, zero, suc, ◌||◌, ◌&&◌, List, Bool, false, Result, Ok, Err, codes, if◌then◌else◌}
use Rattle.serde_json.specs.Data.{Data, null, boolean, number, string, array, object, Members, no_members, member, Items, no_items, item}
use Rattle.ks_expr.specs.Terms.{Term, Test, IsThere, Equals, IsLess, Fails, Both, Either}
use Rattle.ks_job_record.specs.declared.fault.JobKind.{JobKind}
use Rattle.ks_job_record.specs.declared.fault.JobKind.TheVariants.{TooMany}
use Rattle.ks_job_topology.specs.declared.expr.Judged.{Judged}
use Rattle.ks_job_topology.specs.declared.expr.Judged.TheVariants.{Wrong, NoInteger, Read}
use Rattle.ks_job_record.specs.Members.{same, member_of}
use Rattle.ks_job_record.specs.Gives.{◌>>=◌}
use Rattle.ks_job_topology.specs.Exprs.{seen_by, both_of, expr_from, read_or, within}

abbrev pub is_comparison : List ℕ → Bool
is_comparison k = same k (codes "eq") || same k (codes "lt")

abbrev pub is_connective : List ℕ → Bool
is_connective k = same k (codes "and") || same k (codes "or")

abbrev pub compared : List ℕ → Term → Term → Test
compared k a b = if same k (codes "eq") then Equals a b else IsLess a b

abbrev pub connected : List ℕ → Test → Test → Test
connected k p q = if same k (codes "and") then Both p q else Either p q

-- two expressions, compared
abbrev pub two_compared : List ℕ → Items → Judged Test
two_compared k no_items = Wrong
two_compared k (item a no_items) = Wrong
two_compared k (item a (item b no_items)) = both_of (compared k) (expr_from false a) (expr_from false b)
two_compared k (item a (item b (item c ds))) = Wrong

abbrev pub comparison_from : List ℕ → Data → Judged Test
comparison_from k null = Wrong
comparison_from k (boolean b) = Wrong
comparison_from k (number n) = Wrong
comparison_from k (string s) = Wrong
comparison_from k (array ds) = two_compared k ds
comparison_from k (object ms) = Wrong

-- what holds no other predicate
unfoldable pub simple_from : List ℕ → Data → Judged Test
simple_from k d = if same k (codes "has") then seen_by IsThere (expr_from false d) else (if is_comparison k then comparison_from k d else Wrong)

abbrev mutual
  pub test_from : Data → Judged Test
  test_from null = Wrong
  test_from (boolean b) = Wrong
  test_from (number n) = Wrong
  test_from (string s) = Wrong
  test_from (array ds) = Wrong
  test_from (object ms) = one_test ms

  pub one_test : Members → Judged Test
  one_test no_members = Wrong
  one_test (member k d no_members) = if same k (codes "not") then seen_by Fails (test_from d) else (if is_connective k then pair_test k d else simple_from k d)
  one_test (member k d (member l e ms)) = Wrong

  pub pair_test : List ℕ → Data → Judged Test
  pair_test k null = Wrong
  pair_test k (boolean b) = Wrong
  pair_test k (number n) = Wrong
  pair_test k (string s) = Wrong
  pair_test k (array ds) = two_tests k ds
  pair_test k (object ms) = Wrong

  pub two_tests : List ℕ → Items → Judged Test
  two_tests k no_items = Wrong
  two_tests k (item a no_items) = Wrong
  two_tests k (item a (item b no_items)) = both_of (connected k) (test_from a) (test_from b)
  two_tests k (item a (item b (item c ds))) = Wrong

-- no deeper than this; an expression in it is a part of it
abbrev pub test_within : ℕ → Test → Bool
test_within zero t = false
test_within (suc n) (IsThere e) = within n e
test_within (suc n) (Equals a b) = within n a && within n b
test_within (suc n) (IsLess a b) = within n a && within n b
test_within (suc n) (Fails p) = test_within n p
test_within (suc n) (Both p q) = test_within n p && test_within n q
test_within (suc n) (Either p q) = test_within n p && test_within n q

-- unless it is deeper than 16 levels
abbrev pub shallow_test : Test → Result Test JobKind
shallow_test t = if test_within 16 t then Ok t else Err (TooMany (codes "depth") 16)

-- the predicate of a filter: its shape first, then its numbers, then its depth
unfoldable pub where_of : Data → Result Test JobKind
where_of d = do
  inner ← member_of (codes "where") d
  test ← read_or (codes "where") (test_from inner)
  shallow_test test
