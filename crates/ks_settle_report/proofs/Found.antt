-- The first collision of some partitions is that of two parts of them.
use Rattle.std.proofs.Common.{◌≡◌, ℕ, zero, suc, ◌+◌, List, [], ◌∷◌, ◌++◌, Option, Some, None, refl, sym, ap, ap₂, ◌∙◌, arith, append-nil, append_assoc}
use Rattle.std.specs.Prelude.{option_map}
use Rattle.std.specs.Option.{option_or}
use Rattle.ks_expr.specs.Eval.{Row}
use Rattle.ks_plan.specs.Plan.{Kind}
use Rattle.ks_plan.specs.Layout.{up_to}
use Rattle.ks_history.specs.State.{State}
use Rattle.ks_history.specs.Reads.{decided_records}
use Rattle.ks_settle.specs.Rows.{part_in, parts_from}
use Rattle.ks_law_settled.specs.Collision.{OffsetPair, first_in}
use Rattle.ks_settle_report.specs.declared.pairs.Collision.{Collision}
use Rattle.ks_settle_report.specs.Hashed.{pair_of}
use Rattle.ks_settle_report.specs.Partitions.{first_of}

none_behind : (o : Option OffsetPair) → option_or o None ≡ o
none_behind None = refl
none_behind (Some x) = refl

grouped : (a b c : Option OffsetPair) → option_or a (option_or b c) ≡ option_or (option_or a b) c
grouped None b c = refl
grouped (Some x) b c = refl

seen_or : (a b : Option Collision) → option_map pair_of (option_or a b) ≡ option_or (option_map pair_of a) (option_map pair_of b)
seen_or None b = refl
seen_or (Some x) b = refl

-- the numbers of partitions
from_none : (n : ℕ) → parts_from 0 n ≡ up_to n
from_none zero = refl
from_none (suc n) = ap (λ l. l ++ (0 + n) ∷ []) (from_none n) ∙ ap (λ (k : ℕ). up_to n ++ k ∷ []) (omega arith)

no_more : (a : ℕ) → a + 0 ≡ a
no_more a = omega arith

one_later : (a b : ℕ) → a + suc b ≡ suc (a + b)
one_later a b = omega arith

in_two : (from a b : ℕ) → parts_from from (a + b) ≡ parts_from from a ++ parts_from (from + a) b
in_two from a zero = ap (λ (k : ℕ). parts_from from k) (no_more a) ∙ sym (append-nil (parts_from from a))
in_two from a (suc b) =
    ap (λ (k : ℕ). parts_from from k) (one_later a b) ∙ ap (λ l. l ++ (from + (a + b)) ∷ []) (in_two from a b) ∙ ap (λ (k : ℕ). (parts_from from a ++ parts_from (from + a) b) ++ k ∷ []) (omega arith)
    ∙ append_assoc (parts_from from a) (parts_from (from + a) b) ((from + a + b) ∷ [])

module _ (hash : Row → ℕ) (kind : Kind) (s : State) (topic : ℕ) where
  of_both : (front back : List ℕ) → first_of hash kind s topic (front ++ back) ≡ option_or (first_of hash kind s topic front) (first_of hash kind s topic back)
  of_both [] back = refl
  of_both (p ∷ front) back =
      let here = first_in hash kind (decided_records s (part_in topic p)) in
      ap (option_or here) (of_both front back) ∙ grouped here (first_of hash kind s topic front) (first_of hash kind s topic back)

  pub of_two : (from count half middle rest : ℕ) (earlier later found : Option Collision) → middle ≡ from + half → half + rest ≡ count →
      option_map pair_of earlier ≡ first_of hash kind s topic (parts_from from half) → option_map pair_of later ≡ first_of hash kind s topic (parts_from middle rest) → found ≡ option_or earlier later →
      option_map pair_of found ≡ first_of hash kind s topic (parts_from from count)
  of_two from count half middle rest earlier later found m c e l f =
      ap (option_map pair_of) f ∙ seen_or earlier later ∙ ap₂ option_or e (l ∙ ap (λ (k : ℕ). first_of hash kind s topic (parts_from k rest)) m)
      ∙ sym (of_both (parts_from from half) (parts_from (from + half) rest))
      ∙ ap (first_of hash kind s topic) (sym (in_two from half rest)) ∙ ap (λ (k : ℕ). first_of hash kind s topic (parts_from from k)) c

  pub first_alone : (from count : ℕ) → count ≡ 1 → first_in hash kind (decided_records s (part_in topic from)) ≡ first_of hash kind s topic (parts_from from count)
  first_alone from count e =
      sym (none_behind (first_in hash kind (decided_records s (part_in topic from))))
      ∙ ap (λ (k : ℕ). first_of hash kind s topic (k ∷ [])) (omega arith) ∙ ap (λ (k : ℕ). first_of hash kind s topic (parts_from from k)) (sym e)

  pub all_parts : (n : ℕ) → first_of hash kind s topic (parts_from 0 n) ≡ first_of hash kind s topic (up_to n)
  all_parts n = ap (first_of hash kind s topic) (from_none n)
