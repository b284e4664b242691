use Rattle.std.proofs.Common.{◌≡◌, ℕ, Option, subst}
use Rattle.ks_audit.specs.Entries.{IsOpenAt, MayKeep}
use Rattle.ks_audit.proofs.Keeping.{rested_without, rested_behind}
use Rattle.ks_audit.proofs.replay.rest_commit.Goals as goal

pub open_of-open-requires : goal.open_of-open-requires
open_of-open-requires c = subst (IsOpenAt c.args.ledger.now) c.in-Some.is c.requires.there

pub returns-in_default : goal.returns-in_default
returns-in_default c = λ d setup journal entry may.
    rested_without d setup journal entry c.args.ledger.now c.args.tasks.now.items
    (subst (λ (k : Option ℕ). MayKeep d setup journal k entry c.args.ledger.now c.args.tasks.now.items) c.in_default.is may)

pub returns : goal.returns
returns c = λ d setup journal entry may.
    rested_behind d setup journal entry c.args.ledger.now c.args.tasks.now.items c.in-Some.w c.open_of-open.result.now c.rest_tasks.new.tasks.items
    (subst (λ (k : Option ℕ). MayKeep d setup journal k entry c.args.ledger.now c.args.tasks.now.items) c.in-Some.is may) c.open_of-open.ensures
    (λ epoch made has names judged. c.in_ok-rest_tasks.ensures d setup journal c.in-Some.w epoch made has names judged)
