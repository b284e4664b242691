use Rattle.std.proofs.Common.{◌≡◌, ◌∷◌, [], ◌++◌, ◌-◌, ◌∙◌, ap, ap₂, append-nil, arith, length, take, vec_len}
use Rattle.ks_history.specs.declared.journal.Entry.{Entry}
use Rattle.ks_journal.specs.Lines.{entry_text, line_text, journal_text}
use Rattle.ks_journal_line.proofs.Ends.{without_end}
use Rattle.ks_journal_line.proofs.line.print_entry.Goals as goal

-- the journal of one entry is its line
one_line : (e : Entry) → journal_text (e ∷ []) ≡ entry_text e ++ 10 ∷ []
unfolding line_text
one_line e = append-nil (entry_text e ++ 10 ∷ [])

pub returns : goal.returns
returns c =
    let printed = c.push_journal.new.out in
    let long : vec_len c.push_journal.new.out ≡ length c.push_journal.new.out.items = omega (arith, c.push_journal.new.out.ok.0) in
    without_end printed.items c.pop.new.self.items (entry_text c.args.entry.now) 10
    (c.in_ok-push_journal.ensures ∙ ap₂ (λ l m. l ++ m) c.new-text.ensures.items (ap journal_text c.from_ref.ensures.value ∙ one_line c.args.entry.now))
    (c.pop.ensures.rest ∙ ap (λ n. take (n - 1) c.push_journal.new.out.items) long)
