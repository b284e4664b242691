use Rattle.std.proofs.Common.{rules, arith, sym, ap, subst, ◌∙◌, ◌≡◌, ◌≢◌, ◌<◌, ◌∷◌, [], false, refl, length-append}
use lib.ListN.{get_elem?}
use mathlib.Core.Option.{some-ne-none}
use mathlib.Core.List.{IsPrefix}
use Rattle.ks_growing.specs.Steps.{seat_seen}
use Rattle.ks_growing.specs.Passes.{seen_of, slots_out, made_of, frame_of}
use Rattle.ks_growing.proofs.Lists.{prefix_self, prefix_trans, total_snoc}
use Rattle.ks_growing.proofs.Each.{each_head, each_tail, each_snoc}
use Rattle.ks_growing.proofs.SeatSteps.{takes_in, compares, took_in}
use Rattle.ks_growing.proofs.seats.absorb.Goals as goal

pub join_seat-requires : goal.join_seat-requires
join_seat-requires g c =
    let i = c.loop-pass.invariant.2 in
    let p = each_head (λ k p. (p.lock ≡ c.args.table.now.table_id) × (p.holds ≡ false) × (p.number ≢ 0)) _ _ _ c.in-Some.ensures.steps.0 i.rest in
    let is = c.pass.view_is in
    let parts = i.parts in
    let whole : 0 < c.loop-pass.all.me.0.parts = omega arith in (
      i.same.0 ∙ c.requires.own.0,
      ap (λ q. q.lock) is ∙ p.0,
      c.pass.invariant.1 ∙ ap slots_out (ap (λ q. q.holds) is ∙ p.1),
      search rules,
      takes_in g.T.Journaled.journal g.T.Journaled.reserved g.T.Journaled.frame _ _ _ _ _ _ i.free.0 (ap (λ q. q.holds) is ∙ p.1) whole (λ n. absurd (p.2 (sym (ap (λ q. q.number) is) ∙ n))),
    )

pub load-requires : goal.load-requires
load-requires g c =
    let i = c.loop-pass.invariant.2 in
    let parts = i.parts in
    let now = c.join_seat.ensures.2 in
    let more = ap (λ m. m.0.parts) now in
    let whole : 0 < c.join_seat.new.seat.me.0.parts = omega arith in (
      c.join_seat.ensures.0 ∙ (i.same.0 ∙ c.requires.own.0),
      search rules,
      compares g.T.Journaled.journal g.T.Journaled.reserved g.T.Journaled.frame _ _ _ _ _ (ap (λ m. m.0.holds) now ∙ i.free.0) whole,
    )

pub loop-pass-init : goal.loop-pass-init
loop-pass-init g c = (
  tt,
  tt,
  record {
    rest = (λ k p e. let o = c.requires.others k p (ap (λ l. get_elem? l k) (sym c.into_iter-pass-iterator.ensures.into_iter_gives.0) ∙ e) in let n = o.2 in (o.0, o.1, (λ z. absurd (omega arith))));
    same = (refl, refl, refl, refl);
    free = (c.requires.own.1.0, c.requires.own.1.2);
    parts = c.requires.own.1.1;
    made = omega arith;
    begins = prefix_self (seat_seen c.args.all.now);
    each = (λ k p e. absurd (some-ne-none p (sym e)));
    frames = (λ k p e. absurd (some-ne-none p (sym e)));
    reserved_are = (λ z. refl);
  },
)

pub loop-pass-preserved : goal.loop-pass-preserved
loop-pass-preserved g c =
    let i = c.loop-pass.invariant.2 in
    let parts = i.parts in
    let made = i.made in
    let whole : 0 < c.loop-pass.all.me.0.parts = omega arith in
    let p = each_head (λ k p. (p.lock ≡ c.args.table.now.table_id) × (p.holds ≡ false) × (p.number ≢ 0)) _ _ _ c.in-Some.ensures.steps.0 i.rest in
    let is = c.pass.view_is in
    let one = c.pass.invariant.0 in
    let other_whole : 0 < c.pass.inside.seat.me.0.parts = omega arith in
    let its = ap (λ q. q.made) is in
    let now = c.join_seat.ensures.2 in
    let t = took_in g.T.Journaled.reserved c.loop-pass.all.me.0 c.pass.inside.seat.me.0 _ _ (ap (λ m. m.0) now) c.load.ensures.2 in
    let t_parts = t.parts in
    let t_made = t.made in
    let total_more = total_snoc made_of c.loop-pass.yielded c.in-Some.pass in
    let length_more = length-append c.loop-pass.yielded (c.in-Some.pass ∷ []) in (
      tt,
      tt,
      record {
        rest = each_tail (λ k p. (p.lock ≡ c.args.table.now.table_id) × (p.holds ≡ false) × (p.number ≢ 0)) _ _ _ c.in-Some.ensures.steps.0 i.rest;
        same = (c.load.ensures.0 ∙ (c.join_seat.ensures.0 ∙ i.same.0), c.load.ensures.1 ∙ (c.join_seat.ensures.1 ∙ i.same.1), t.number ∙ i.same.2, t.frame ∙ i.same.3);
        free = (t.holds ∙ i.free.0, ap (λ m. m.1) c.load.ensures.2.0 ∙ (ap (λ m. m.1) now ∙ i.free.1));
        parts = omega arith;
        made = omega arith;
        begins = prefix_trans _ _ _ i.begins t.begins;
        each = each_snoc (λ k p. IsPrefix (seen_of p) (seat_seen c.load.new.seat)) c.loop-pass.yielded c.in-Some.pass (λ k q e. prefix_trans (seen_of q) _ _ (i.each k q e) t.begins) (subst (λ q. IsPrefix q.seen (seat_seen c.load.new.seat)) is t.other_begins);
        frames = each_snoc (λ k p. frame_of p ≡ c.args.all.now.me.0.frame) c.loop-pass.yielded c.in-Some.pass i.frames (sym (ap (λ q. q.frame) is) ∙ (t.other_frame whole other_whole ∙ i.same.3));
        reserved_are = (λ z. t.reserved_are (i.same.2 ∙ z) whole ∙ i.reserved_are z);
      },
    )
