-- What a line read back is.
use Rattle.std.proofs.Common.{◌≡◌, List, ℕ, Option, Some, None, option_and_then, ap, ◌∙◌, sym, subst}
use Rattle.std.specs.Str.{IsUtf8}
use Rattle.serde_json.specs.Data.{Data}
use Rattle.serde_json.specs.Read.{read}
use Rattle.ks_history.specs.declared.journal.Entry.{Entry}
use Rattle.ks_journal.specs.Lines.{entry_text}
use Rattle.std.specs.Prelude.{IfSome}
use Rattle.ks_journal.specs.Replies.{HasReply}
use Rattle.ks_journal.specs.Fits.{FitsEntry}
use Rattle.ks_journal.specs.Reading.{entry_in}
use Rattle.ks_journal.proofs.LineAgain.{line_again, line_utf8, line_read}

-- what was found in the value of an entry's line is that entry
pub found_is : (line : List ℕ) (d : Data) (o : Option Entry) (e : Entry) → FitsEntry e → line ≡ entry_text e → read line ≡ Some d → o ≡ entry_in d → o ≡ Some e
found_is line d o e fits same is found =
    found ∙ ap (option_and_then entry_in) (sym is ∙ ap read same) ∙ line_again e fits

-- the line of an entry isn't refused
pub refused_is : (line : List ℕ) (e : Entry) → FitsEntry e → line ≡ entry_text e → (IsUtf8 line → read line ≡ None) → None ≡ Some e
refused_is line e fits same refused = ap told (sym (refused (subst IsUtf8 (sym same) (line_utf8 e fits))) ∙ ap read same ∙ line_read e fits)
  where
    told : Option Data → Option Entry
    told None = None
    told (Some d) = Some e

-- what is handed on is of its kind
pub kind_kept : (o : Option Entry) (e : Entry) → IfSome o (λ x. x ≡ e) → HasReply e → IfSome o HasReply
kind_kept None e same kind = tt
kind_kept (Some x) e same kind = subst HasReply (sym same) kind
