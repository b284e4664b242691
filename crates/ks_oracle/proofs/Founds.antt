-- One more answer, in the list and in the query.
use Rattle.std.proofs.Common.{◌≡◌, ℕ, zero, suc, Bool, true, false, cond, nat_eq, List, length, [], ◌∷◌, ◌++◌, Option, Some, None, refl, sym, ap, ap₂, ◌∙◌, arith, length-append}
use Rattle.std.specs.Prelude.{option_map}
use Rattle.std.proofs.lemmas.Bool.{eqb-true, eqb-false}
use Rattle.ks_def_runs.specs.FinMap as fin
use Rattle.ks_plan.specs.declared.node.Node.{Node}
use Rattle.ks_plan.specs.declared.node.Wiring.{Wiring}
use Rattle.ks_plan.specs.declared.node.Wiring.TheVariants as wired
use Rattle.ks_plan.specs.Drafts.{OpView, op_view}
use Rattle.ks_plan.specs.Plan.{Kind}
use Rattle.ks_plan.specs.Plan.Kind.{StreamFilter, TableFilter, StreamMap, TableMap, KeySelected, StreamAggregate, Windowed, KeyJoin, ForeignKeyJoin}
use Rattle.ks_query.specs.Streams.{Input}
use Rattle.ks_query.specs.Query.{Answers, answer_node}
use Rattle.ks_oracle.specs.declared.answers.Answer.{Answer}
use Rattle.ks_oracle.specs.declared.answers.Answer.TheVariants.{Nothing, Items, Table as TableFound, Windows}
use Rattle.ks_oracle.specs.Nodes.{kind_from, node_kind, test_in, set_in, key_in, group_in, window_in, join_in, foreign_in}
use Rattle.ks_oracle.specs.Found.{counted, items_in, table_in, windows_in, found_at, answers_of, give, answered, answer_maybe, answer_all, stream_found}

-- ---- the list grows by one
get_end : (found : List Answer) (x : Answer) → found_at (found ++ x ∷ []) (length found) ≡ x
get_end [] x = refl
get_end (y ∷ found) x = get_end found x

get_other : (found : List Answer) (x : Answer) (c : ℕ) → (c ≡ length found → ⊥) → found_at (found ++ x ∷ []) c ≡ found_at found c
get_other [] x zero ne = absurd (ne refl)
get_other [] x (suc c) ne = refl
get_other (y ∷ found) x zero ne = refl
get_other (y ∷ found) x (suc c) ne = get_other found x c (λ e. ne (ap suc e))

-- past the end there is nothing
past : (found : List Answer) → found_at found (length found) ≡ Nothing
past [] = refl
past (y ∷ found) = past found

at_end : {B : Type 0} (f : Answer → B) (found : List Answer) (x : Answer) (c : ℕ) → f (found_at (found ++ x ∷ []) c) ≡ cond (nat_eq c (length found)) (f x) (f (found_at found c))
at_end f found x c = by (nat_eq c (length found)) refl
  where
    by : (b : Bool) → nat_eq c (length found) ≡ b → f (found_at (found ++ x ∷ []) c) ≡ cond b (f x) (f (found_at found c))
    by true e = ap f (ap (found_at (found ++ x ∷ [])) (eqb-true c (length found) e) ∙ get_end found x)
    by false e = ap f (get_other found x c (eqb-false c (length found) e))

unchanged : {B : Type 0} (f : Answer → B) (found : List Answer) (x : Answer) → f x ≡ f Nothing → (c : ℕ) → f (found_at (found ++ x ∷ []) c) ≡ f (found_at found c)
unchanged f found x e c = at_end f found x c ∙ by (nat_eq c (length found)) refl
  where
    by : (b : Bool) → nat_eq c (length found) ≡ b → cond b (f x) (f (found_at found c)) ≡ f (found_at found c)
    by true g = e ∙ ap f (sym (ap (found_at found) (eqb-true c (length found) g) ∙ past found))
    by false g = refl

pub grown : (found : List Answer) (x : Answer) → answers_of (found ++ x ∷ []) ≡ give (answers_of found) (length found) x
grown found Nothing = λ i. record { items = λ c. unchanged items_in found Nothing refl c i; tables = λ c. unchanged table_in found Nothing refl c i; windows = λ c. unchanged windows_in found Nothing refl c i }
grown found (Items xs) = λ i. record { items = λ c. at_end items_in found (Items xs) c i; tables = λ c. unchanged table_in found (Items xs) refl c i; windows = λ c. unchanged windows_in found (Items xs) refl c i }
grown found (TableFound t) = λ i. record { items = λ c. unchanged items_in found (TableFound t) refl c i; tables = λ c. at_end table_in found (TableFound t) c i; windows = λ c. unchanged windows_in found (TableFound t) refl c i }
grown found (Windows m) = λ i. record { items = λ c. unchanged items_in found (Windows m) refl c i; tables = λ c. unchanged table_in found (Windows m) refl c i; windows = λ c. at_end windows_in found (Windows m) c i }

pub counted_none : counted fin.empty ≡ fin.empty
unfolding fin.entries fin.empty
counted_none = refl

-- ---- what a node finds is the query's answer
module _ (records : List Input) (a : Answers) (n : ℕ) where
  by_part : {T : Type 0} (f : T → Answer) (k : T → Kind) → ((t : T) → give a n (f t) ≡ answer_node records a n (k t)) → (o : Option T) →
      give a n (answered (option_map f o)) ≡ answer_maybe records a n (option_map k o)
  by_part f k same None = refl
  by_part f k same (Some t) = same t

  found_is : (op : OpView) (w : Wiring) → give a n (stream_found records a op w) ≡ answer_maybe records a n (kind_from op w)
  found_is op (wired.StreamSource t) = refl
  found_is op (wired.TableSource t) = refl
  found_is op (wired.StreamFilter f) = by_part _ (StreamFilter f) (λ t. refl) (test_in op)
  found_is op (wired.TableFilter f) = by_part _ (TableFilter f) (λ t. refl) (test_in op)
  found_is op (wired.StreamMap f) = by_part _ (StreamMap f) (λ t. refl) (set_in op)
  found_is op (wired.TableMap f) = by_part _ (TableMap f) (λ t. refl) (set_in op)
  found_is op (wired.KeySelected f) = by_part _ (KeySelected f) (λ t. refl) (key_in op)
  found_is op (wired.StreamAggregate f through) = by_part _ (λ g. StreamAggregate f g.0 g.1 through) (λ t. refl) (group_in op)
  found_is op (wired.TableAggregate f) = by_part _ _ (λ t. refl) (group_in op)
  found_is op (wired.Windowed f through) = by_part _ (λ g. Windowed f g.0 g.1 through) (λ t. refl) (window_in op)
  found_is op (wired.KeyJoin l r) = by_part _ (λ j. KeyJoin l r j.0 j.1) (λ t. refl) (join_in op)
  found_is op (wired.ForeignKeyJoin l r) = by_part _ (λ j. ForeignKeyJoin l r j.0 j.1.0 j.1.1) (λ t. refl) (foreign_in op)

pub next_is : (records : List Input) (found new : List Answer) (x : Answer) (node : Node) → new ≡ found ++ x ∷ [] → x ≡ stream_found records (answers_of found) (op_view node.op) node.wiring →
    answers_of new ≡ answer_maybe records (answers_of found) (length found) (node_kind node)
next_is records found new x node e f =
    ap answers_of e ∙ (grown found x ∙ (ap (give (answers_of found) (length found)) f ∙ found_is records (answers_of found) (length found) (op_view node.op) node.wiring))

pub longer : (found new : List Answer) (x : Answer) → new ≡ found ++ x ∷ [] → length new ≡ suc (length found)
longer found new x e = ap (λ (l : List Answer). length l) e ∙ omega (arith, length-append found (x ∷ []))

pub rest_is : (records : List Input) (a b : Answers) (m n : ℕ) (k : Option Kind) (ks : List (Option Kind)) (all : Answers) → b ≡ answer_maybe records a n k → m ≡ suc n → answer_all records a n (k ∷ ks) ≡ all → answer_all records b m ks ≡ all
rest_is records a b m n k ks all e f h = ap₂ (λ a n. answer_all records a n ks) e f ∙ h
