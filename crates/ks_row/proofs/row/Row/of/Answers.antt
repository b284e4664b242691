use Rattle.std.proofs.Common.{rules, ap, ◌∙◌}
use Rattle.std.proofs.lemmas.Result.{IfOk-weaker}
use Rattle.std.proofs.lemmas.Cmp.{nat_list_cmp_total}
use Rattle.std.proofs.lemmas.List.Sorted.{ranks_by, answers_always}
use Rattle.ks_row.specs.Rows.{Member, row_of}
use Rattle.ks_row.proofs.Sorting.{below, exact_row}
use Rattle.ks_row.proofs.row.Row.of.Goals as goal

pub returns-clause-exact : goal.returns-clause-exact
returns-clause-exact c =
    let sorted = c.in_ok-sort_by.ensures.sorted below (ranks_by nat_list_cmp_total (λ (m : Member). m.0)) (answers_always _ _ _ (λ f a r g k. search rules)) in
    IfOk-weaker c.from_rising.result _ _ (λ o e. exact_row c.args.fields.items c.sort_by.new.self.items o (e ∙ ap row_of c.as_slice.ensures.value) c.in_ok-sort_by.ensures.permutation sorted) c.from_rising.ensures
