use Rattle.std.proofs.Common.{◌≡◌, ℕ, Option, take, get_or, sym, ap, ap₂, subst, ◌∙◌}
use Rattle.std.specs.Prelude.{IfOk, option_map}
use Rattle.ks_record.specs.Records.{Record as Rec}
use Rattle.ks_row.specs.Spelling.{spelling}
use Rattle.ks_def_runs.specs.Bytes.{Store}
use Rattle.ks_expr.specs.Eval.{Row}
use Rattle.ks_law_settled.specs.Collision.{OffsetPair, pair_at, earlier}
use Rattle.ks_settle_report.specs.Search.{meets_other, with_entry}
use Rattle.ks_settle_report.specs.Hashed.{row_hash, kind_as, pair_of}
use Rattle.ks_settle_report.proofs.SpelledRows.{IsSearching, begins, passed, met, one_place}
use Rattle.ks_settle_report.proofs.search.search_with.Goals as goal

pub loop-i-init : goal.loop-i-init
loop-i-init g c =
    subst (λ (m : Store). IsSearching (row_hash g.H.Hash128.hash_of) (kind_as c.args.shown) m c.args.recs.now 0) (sym c.requires) (begins (row_hash g.H.Hash128.hash_of) (kind_as c.args.shown) c.args.recs.now)

pub returns-then-branch : goal.returns-then-branch
returns-then-branch g c =
    let hash : Row → ℕ = row_hash g.H.Hash128.hash_of in
    let k = kind_as c.args.shown in
    let recs = c.args.recs.now in
    let at : ℕ × Rec → ℕ × Rec = get_or recs c.loop-i.i in
    let x = at c.index-recs-i.result in
    let here = one_place recs c.loop-i.i x (at c.index-recs-i-then-branch.result) c.loop-i-test.true (ap at c.index-recs-i.is) (ap at c.index-recs-i-then-branch.is) in
    let there = one_place recs c.loop-i.i x c.index-recs-i-then-branch-2.result c.loop-i-test.true (ap at c.index-recs-i.is) c.index-recs-i-then-branch-2.is in
    subst (λ (p : Option OffsetPair). IfOk c.collision.result (λ o. option_map pair_of o ≡ p))
    (ap₂ pair_at there (c.in_ok-first.ensures ∙ ap (λ (z : ℕ × Rec). earlier hash k z.1 (take c.loop-i.i recs)) here)
    ∙ met hash k (λ v. g.met.H.Hash128.bounded (spelling v)) c.loop-i.rows.store recs c.loop-i.i x c.loop-i-test.true (ap at c.index-recs-i.is) c.in_ok-entry.ensures.spelled c.loop-i.invariant
    (sym (c.in_ok-meets_other.ensures.other ∙ ap (meets_other c.loop-i.rows.store) c.in_ok-entry.ensures.entry) ∙ c.if-branch.true))
    c.collision.ensures

pub loop-i-preserved : goal.loop-i-preserved
loop-i-preserved g c =
    let at : ℕ × Rec → ℕ × Rec = get_or c.args.recs.now c.loop-i.i in
    passed (row_hash g.H.Hash128.hash_of) (kind_as c.args.shown) (λ v. g.met.H.Hash128.bounded (spelling v)) c.loop-i.rows.store c.args.recs.now c.loop-i.i (at c.index-recs-i.result) c.loop-i-test.true (ap at c.index-recs-i.is)
    c.in_ok-entry.ensures.spelled c.loop-i.invariant c.meets_other.new.rows.store
    (sym (c.in_ok-meets_other.ensures.other ∙ ap (meets_other c.loop-i.rows.store) c.in_ok-entry.ensures.entry) ∙ c.if-branch.false)
    (c.in_ok-meets_other.ensures.kept ∙ ap (with_entry c.loop-i.rows.store) c.in_ok-entry.ensures.entry)
