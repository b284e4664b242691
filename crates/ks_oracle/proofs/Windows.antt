-- The order of windows' keys is total.
use Rattle.std.specs.declared.cmp.Ordering.{Ordering}
use Rattle.std.specs.Cmp.{IsTotalOrder, nat_cmp_total, then_total}
use Rattle.std.specs.Cmp.Lexicographic.{nat_list_cmp_total}
use Rattle.ks_query.specs.Windows.{WindowKey, by_window}

on_total : {K A : Type 0} (f : K → A) {R : A → A → Ordering} → IsTotalOrder R → IsTotalOrder (λ x y. R (f x) (f y))
on_total f o = record { antisymm = λ x y. o.antisymm (f x) (f y); trans = λ x y z. o.trans (f x) (f y) (f z); congr = λ x y z. o.congr (f x) (f y) (f z) }

pub by_window_total : IsTotalOrder by_window
by_window_total = then_total (on_total (λ (w : WindowKey). w.0) nat_list_cmp_total) (on_total (λ (w : WindowKey). w.1) nat_cmp_total)
