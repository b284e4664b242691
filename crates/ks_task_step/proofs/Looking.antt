-- Nodes, values and stores by number.
use Rattle.std.proofs.Common.{◌≡◌, ◌<◌, arith, ℕ, zero, suc, Bool, true, false, cond, not, List, length, [], ◌∷◌, ◌++◌, map, get_or, Option, Some, None, refl, sym, ap, subst}
use Rattle.std.specs.Prelude.{ℤ}
use Rattle.std.specs.Ordering.{is_eq}
use Rattle.std.specs.Cmp.{tied_itself, int_cmp_total}
use Rattle.std.specs.Cmp.Lexicographic.{nat_list_cmp_total}
use Rattle.std.proofs.lemmas.Bool.{and_from}
use Rattle.ks_expr.specs.Eval.{Row}
use Rattle.ks_query.specs.Streams.{Key}
use Rattle.ks_query.specs.Aggregates.{same_share, share_under, deltas_of, table_parts}
use Rattle.ks_def_tasks.specs.Messages.{same_option, same_row}
use Rattle.ks_def_tasks.specs.Bytes.{ByteStores}
use Rattle.ks_def_tasks.specs.Step.{regroup_rows, send_deltas}
use Rattle.ks_def_tasks.proofs.Same.{row-is}
use Rattle.ks_task_nodes.specs.declared.processor.ProcessorNode.{ProcessorNode}
use Rattle.ks_task_nodes.specs.Nodes.{node_view}
use Rattle.ks_task_values.specs.Values.{stored_at}

-- ---- of a row that stays a table tells its groups nothing
same_is : (old new : Option Row) → same_option same_row old new ≡ true → old ≡ new
same_is None None e = refl
same_is (Some a) (Some b) e = ap Some (row-is a b e)
same_is None (Some b) e = absurd cc
same_is (Some a) None e = absurd cc

of_not : (b : Bool) → not b ≡ false → b ≡ true
of_not true e = refl
of_not false e = absurd cc

share_itself : (s : Option (Key × ℤ)) → same_share s s ≡ true
share_itself None = refl
share_itself (Some a) = and_from _ _ (ap is_eq (tied_itself nat_list_cmp_total a.0)) (ap is_eq (tied_itself int_cmp_total a.1))

no_parts : (by : List ℕ) (field : Option (List ℕ)) (row : Option Row) → table_parts by field row row ≡ []
no_parts by field row = let s = share_under by field row in ap (λ c. cond c [] (deltas_of false s ++ deltas_of true s)) (share_itself s)

pub nothing_moved : (by : List ℕ) (field : Option (List ℕ)) (n : ℕ) (old new : Option Row) → not (same_option same_row old new) ≡ false → regroup_rows by field n old new ≡ []
nothing_moved by field n old new e =
    subst (λ v. regroup_rows by field n old v ≡ []) (same_is old new (of_not (same_option same_row old new) e)) (ap (send_deltas n) (no_parts by field old))

-- ---- the node at a place, as a slice hands it out
pub node_there : (stores : ByteStores) (b : Key) (ns : List ProcessorNode) (n : ℕ) → n < length ns → (x : ProcessorNode) → ((d : ProcessorNode) → x ≡ get_or ns n d) → get_or (map (stored_at stores b) (map node_view ns)) n None ≡ stored_at stores b (node_view x)
node_there stores b [] n lt x h = absurd (omega (arith, lt))
node_there stores b (y ∷ ns) zero lt x h = sym (ap (λ (z : ProcessorNode). stored_at stores b (node_view z)) (h y))
node_there stores b (y ∷ ns) (suc n) lt x h = node_there stores b ns n (omega (arith, lt)) x h
