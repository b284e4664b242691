use Rattle.std.proofs.Common.{◌≡◌, ◌+◌, ◌≤◌, false, [], length, Some, vec_capacity}
use Rattle.ks_growing.specs.Passes.{Each, IsFresh}
use Rattle.ks_growing.proofs.seats.deal.Given as goal

abbrev pub invariant-deal : goal.invariant-deal
invariant-deal g l = record {
  table : (l.dealer.table_id ≡ l.table.table_id) × (l.dealer.me.1 ≡ []);
  view : (l.dealer.me.0.holds ≡ false) × (l.dealer.me.0.number ≡ 0) × (l.dealer.me.0.made ≡ 0) × (l.dealer.me.0.seen ≡ l.initial.dealer.me.0.seen) × (l.dealer.me.0.frame ≡ l.initial.dealer.me.0.frame);
  parts : l.dealer.me.0.parts + length l.list.items ≡ l.passes;
  next : l.dealer.me.0.next ≡ length l.list.items + 1;
  count : l.counter ≡ length l.list.items + 1;
  room : l.passes ≤ vec_capacity l.list;
  each : (frame : g.row.T-Frame.Denot) → l.initial.dealer.me.0.frame ≡ Some frame → Each (λ k. IsFresh l.table.table_id l.initial.dealer.me.0.seen frame (k + 1)) l.list.items;
}
