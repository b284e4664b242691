use Rattle.std.proofs.Common.{rules, List, ℕ, ◌++◌, ◌==◌, ap, sym, subst, ◌∙◌}
use Rattle.std.specs.List.{filter, starts_with}
use Rattle.std.specs.List.Sorted.{IsPermutation}
use Rattle.std.proofs.lemmas.Cmp.{nat_list_cmp_total}
use Rattle.std.proofs.lemmas.List.Elements.{filter-append}
use Rattle.std.proofs.lemmas.List.Sorted.{ranks_by, answers_always}
use Rattle.ks_store.specs.Rows.{short_rows, long_rows}
use Rattle.ks_store.proofs.Sorting.{below, sorted_under}
use Rattle.ks_store.proofs.Tables.{rows_in}
use Rattle.ks_store.proofs.rows.rows_under.Goals as goal

pub returns : goal.returns
returns c =
    let front = c.args.front.now in
    let short = short_rows c.rows.inside.short.entries in
    let long = long_rows c.rows.inside.long.entries in
    let sorted = c.in_ok-sort_by.ensures.sorted below (ranks_by nat_list_cmp_total (λ (e : List ℕ × List ℕ). e.0)) (answers_always _ _ _ (λ f a r g k. search rules)) in
    let all = c.in_ok-found.ensures ∙ (ap (λ (x : List (List ℕ × List ℕ)). x ++ filter (λ e. starts_with ◌==◌ e.0 front) long) c.in_ok-short.ensures
    ∙ (sym (filter-append (λ e. starts_with ◌==◌ e.0 front) short long) ∙ ap (filter (λ e. starts_with ◌==◌ e.0 front)) (ap rows_in c.rows.view_is))) in
    sorted_under front c.args.rows.now.rows c.sort_by.new.self.items c.requires
    (subst (λ (x : List (List ℕ × List ℕ)). IsPermutation x c.sort_by.new.self.items) all c.in_ok-sort_by.ensures.permutation) sorted
