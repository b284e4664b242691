-- The members of a row, put in one after another.
use Rattle.std.proofs.Common.{◌≡◌, ℕ, ◌+◌, ◌<◌, List, ◌∷◌, length, drop, get_or, ap, ◌∙◌, sym, string_bytes}
use Rattle.std.specs.Prelude.{String}
use Rattle.std.specs.String.{string_cmp}
use Rattle.std.specs.BTreeMap.{insert_entry}
use Rattle.std.specs.declared.alloc.Global.{Global}
use Rattle.std.proofs.lemmas.List.{drop_more}
use Rattle.serde_json.specs.Data.{Members, put}
use Rattle.serde_json.specs.View.{view, members_view}
use Rattle.serde_json.specs.declared.value.Value.{Value}
use Rattle.serde_json.proofs.Views.{members_view-insert_entry}
use Rattle.ks_row.specs.Rows.{Member}
use Rattle.ks_query.specs.Printed.{field_data, put_all}

pub put_on : (items : List Member) (i : ℕ) (a : Member) (es new : List (String Global × Value)) (name : String Global) (v : Value) (all : Members) →
    i < length items → a ≡ get_or items i a → string_bytes name ≡ a.0 → view v ≡ field_data a.1 → new ≡ insert_entry string_cmp es name v →
    put_all (drop i items) (members_view es) ≡ all → put_all (drop (i + 1) items) (members_view new) ≡ all
put_on items i a es new name v all lt is n f e h =
    let d : drop i items ≡ a ∷ drop (i + 1) items = drop_more items i a lt ∙ ap (λ x. x ∷ drop (i + 1) items) (sym is) in
    let m : members_view new ≡ put a.0 (field_data a.1) (members_view es) = ap members_view e ∙ (members_view-insert_entry es name v ∙ (ap (λ k. put k (view v) (members_view es)) n ∙ ap (λ x. put a.0 x (members_view es)) f)) in
    ap (λ x. put_all (drop (i + 1) items) x) m ∙ (sym (ap (λ ms. put_all ms (members_view es)) d) ∙ h)
