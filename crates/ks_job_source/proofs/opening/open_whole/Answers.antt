use Rattle.std.proofs.Common.{ℕ, ◌≡◌, ◌≤◌, ◌++◌, ap, sym, subst, arith, length, take, drop, List}
use Rattle.ks_job_source.proofs.Opens.{written, whole_opens, whole_splits, whole_stands}
use Rattle.ks_job_source.proofs.opening.open_whole.Goals as goal

pub open_with-requires : goal.open_with-requires
open_with-requires g c = λ none same.
    whole_splits (g.S.Source.left c.args.input.now) (g.S.Source.left c.read_by.new.input) c.in-Ok.items c.in_ok-items.field-0 c.in_ok-items.ensures.read c.in-Ok.is c.in_ok-items.ensures.end none

pub returns-in-Ok-clause-opened : goal.returns-in-Ok-clause-opened
returns-in-Ok-clause-opened g c =
    let long : length c.read_by.new.buf ≡ length c.args.buf.items = omega (arith, c.read_by.auto.buf, ap (λ (l : List ℕ). length l) c.deref_mut.ensures.value) in
    let buf = take c.args.buf.len (c.read_by.new.buf ++ drop (length c.read_by.new.buf) c.args.buf.items) in
    let same : buf ≡ c.read_by.new.buf = written c.args.buf.len c.read_by.new.buf c.args.buf.items c.args.buf.ok.0 long in
    whole_opens (g.S.Source.left c.args.input.now) (g.S.Source.left c.read_by.new.input) c.in-Ok.items c.in_ok-items.field-0 c.in_ok-items.ensures.read c.in-Ok.is c.in_ok-items.ensures.end
    c.open_with.result buf (subst (λ (l : List ℕ). 1 ≤ length l) (sym same) (omega (arith, long, c.requires.some))) c.open_with.ensures

pub returns-in-Ok-clause-whole : goal.returns-in-Ok-clause-whole
returns-in-Ok-clause-whole g c = whole_stands _ _ c.open_with.result c.open_with.ensures
