-- Expressions and predicates without the boxes of their code: a box has its place in memory in it, and two equal ones differ there.
use Rattle.std.specs.Prelude.{ℕ, ℤ, List, map}
use Rattle.ks_expr.specs.declared.terms.Expr.{Expr, Field, Left, Right, Int, Text, Add', Sub', Mul'}
use Rattle.ks_expr.specs.declared.terms.Pred.{Pred, Has, Eq, Lt, Not', And', Or'}
use Rattle.ks_expr.specs.declared.terms.Proj.{Proj}

pub data Term : Type 0 where
  FieldOf : List ℕ → Term
  LeftOf : List ℕ → Term
  RightOf : List ℕ → Term
  Number : ℤ → Term
  Words : List ℕ → Term
  Plus : Term → Term → Term
  Minus : Term → Term → Term
  Times : Term → Term → Term

pub data Test : Type 0 where
  IsThere : Term → Test
  Equals : Term → Term → Test
  IsLess : Term → Term → Test
  Fails : Test → Test
  Both : Test → Test → Test
  Either : Test → Test → Test

abbrev pub Set : Type 0
Set = List (List ℕ × Term)

abbrev pub term_of : Expr → Term
term_of (Field name) = Term.FieldOf name
term_of (Left name) = Term.LeftOf name
term_of (Right name) = Term.RightOf name
term_of (Int z) = Term.Number z
term_of (Text s) = Term.Words s
term_of (Add' p a q b) = Term.Plus (term_of a) (term_of b)
term_of (Sub' p a q b) = Term.Minus (term_of a) (term_of b)
term_of (Mul' p a q b) = Term.Times (term_of a) (term_of b)

abbrev pub test_of : Pred → Test
test_of (Has e) = Test.IsThere (term_of e)
test_of (Eq a b) = Test.Equals (term_of a) (term_of b)
test_of (Lt a b) = Test.IsLess (term_of a) (term_of b)
test_of (Not' x p) = Test.Fails (test_of p)
test_of (And' x p y q) = Test.Both (test_of p) (test_of q)
test_of (Or' x p y q) = Test.Either (test_of p) (test_of q)

abbrev pub entries_of : List (List ℕ × Expr) → Set
entries_of es = map (λ m. (m.0, term_of m.1)) es

abbrev pub set_of : Proj → Set
set_of s = entries_of s.fields
