use Rattle.std.proofs.Common.{◌≡◌, List, sym, subst}
use Rattle.ks_audit_ledger.specs.declared.account.Account.{Account}
use Rattle.ks_audit.specs.Entries.{MayKeep}
use Rattle.ks_audit.proofs.Keeping.{kept_all}
use Rattle.ks_audit.proofs.replay.Played.keep.Goals as goal

pub returns-clause-kept : goal.returns-clause-kept
returns-clause-kept g c = λ d setup journal may.
    kept_all d setup journal c.args.entry.now c.args.self.now.ledger.items c.args.self.now.tasks.items c.args.commit c.note.new.ledger.items c.rest_commit.new.tasks.items may c.in_ok-note.ensures
    (c.in_ok-rest_commit.ensures d setup journal c.args.entry.now
    (subst (λ (l : List Account). MayKeep d setup journal c.args.commit c.args.entry.now l c.args.self.now.tasks.items) (sym c.as_slice.ensures.value) may))
