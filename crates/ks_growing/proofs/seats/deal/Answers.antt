use Rattle.std.proofs.Common.{rules, arith, sym, ap, subst, ◌∙◌, ◌≡◌, ◌≤◌, ◌+◌, ◌∷◌, [], refl, length, length-append, Some, suc, false}
use lib.ListN.{get_elem?}
use mathlib.Core.Option.{some-ne-none}
use Rattle.ks_growing.specs.Passes.{Each, IsFresh, pass_view}
use Rattle.ks_growing.proofs.Each.{each_snoc, each_cons}
use Rattle.ks_growing.proofs.SeatSteps.{deals}
use Rattle.ks_growing.proofs.seats.deal.Goals as goal

pub split_seat-seat-requires : goal.split_seat-seat-requires
split_seat-seat-requires g c =
    let i = c.deal.invariant in
    let p = i.parts in
    let n = i.count in
    let t = c.deal-test.true in
    let two : 2 ≤ c.deal.dealer.me.0.parts = omega arith in
    (i.table.0, search rules, deals g.T.Journaled.journal g.T.Journaled.reserved g.T.Journaled.frame _ _ _ _ i.view.0 two i.view.2)

pub deal-init : goal.deal-init
deal-init g c =
    let dealer = c.requires.dealer in
    let none_yet = ap length c.requires.room.1 in
    let parts = dealer.2 in
    let next = dealer.3 in
    record {
      table = c.requires.own;
      view = (dealer.0, dealer.1, dealer.4, refl, refl);
      parts = omega arith;
      next = omega arith;
      count = omega arith;
      room = c.requires.room.2;
      each = (λ frame h k x e. absurd (some-ne-none x (sym e ∙ ap (λ l. get_elem? l k) c.requires.room.1)));
    }

pub unreachable-requires : goal.unreachable-requires
unreachable-requires g c =
    let i = c.deal.invariant in
    let n = i.count in
    let room = i.room in
    let t = c.deal-test.true in
    let full = c.in-Err.ensures.full in
    omega arith

pub deal-preserved : goal.deal-preserved
deal-preserved g c =
    let i = c.deal.invariant in
    let p = i.parts in
    let n = i.count in
    let x = i.next in
    let t = c.deal-test.true in
    let s = c.split_seat-seat.ensures in
    let left = ap (λ m. m.0.parts) s.2 in
    let next = ap (λ m. m.0.next) s.2 in
    let items = c.in-Ok.ensures.items in
    let more = ap length items in
    let longer = length-append c.deal.list.items (pass_view c.split_seat-seat.result.table_id c.split_seat-seat.result.me.0 ∷ []) in
    let capacity = c.push.ensures.capacity in
    let room = i.room in
    let number : c.split_seat-seat.result.me.0.number ≡ length c.deal.list.items + 1 = ap (λ m. m.0.number) s.4 ∙ x in
    record {
      table = (s.0 ∙ i.table.0, ap (λ m. m.1) s.2 ∙ i.table.1);
      view = (ap (λ m. m.0.holds) s.2 ∙ i.view.0, ap (λ m. m.0.number) s.2 ∙ i.view.1, ap (λ m. m.0.made) s.2 ∙ i.view.2, ap (λ m. m.0.seen) s.2 ∙ i.view.3, ap (λ m. m.0.frame) s.2 ∙ i.view.4);
      parts = omega arith;
      next = omega arith;
      count = omega arith;
      room = omega arith;
      each = (λ frame h. subst (Each (λ k. IsFresh c.args.table.now.table_id c.args.dealer.me.0.seen frame (k + 1))) (sym items)
          (each_snoc (λ k. IsFresh c.args.table.now.table_id c.args.dealer.me.0.seen frame (k + 1)) c.deal.list.items (pass_view c.split_seat-seat.result.table_id c.split_seat-seat.result.me.0) (i.each frame h)
          (λ j. record { lock = (s.3 ∙ i.table.0) j; number = number j; frame = (ap (λ m. m.0.frame) s.4 ∙ (i.view.4 ∙ h)) j; seen = (ap (λ m. m.0.seen) s.4 ∙ i.view.3) j; made = ap (λ m. m.0.made) s.4 j; holds = ap (λ m. m.0.holds) s.4 j })));
    }

pub unreachable-requires-in-Err-insert : goal.unreachable-requires-in-Err-insert
unreachable-requires-in-Err-insert g c =
    let i = c.deal.invariant in
    let n = i.count in
    let room = i.room in
    let t = c.deal-test.false in
    let end = c.deal.auto in
    let full = c.in-Err-insert.ensures.full in
    omega arith

pub returns : goal.returns
returns g c =
    let i = c.deal.invariant in
    let n = i.count in
    let p = i.parts in
    let t = c.deal-test.false in
    let end = c.deal.auto in
    let items = c.in-Ok-insert.ensures.items in
    let more = ap length items in
    let parts : c.deal.dealer.me.0.parts ≡ 1 = omega arith in
    record {
      count = omega arith;
      fresh = (λ frame h. subst (Each (IsFresh c.args.table.now.table_id c.args.dealer.me.0.seen frame)) (sym items)
          (each_cons (IsFresh c.args.table.now.table_id c.args.dealer.me.0.seen frame) c.deal.list.items (pass_view c.deal.dealer.table_id c.deal.dealer.me.0)
          (λ j. record { lock = i.table.0 j; number = i.view.1 j; frame = (i.view.4 ∙ h) j; seen = i.view.3 j; made = i.view.2 j; holds = i.view.0 j })
          (λ k x e. let up : k + 1 ≡ suc k = omega arith in i.each frame h k x e ∙ (λ j. record { lock = c.args.table.now.table_id; number = up j; frame = Some frame; seen = c.args.dealer.me.0.seen; made = 0; holds = false }))));
    }
