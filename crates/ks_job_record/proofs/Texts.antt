-- A name as JSON writes it.
use Rattle.std.proofs.Common.{◌≡◌, ℕ, List, length, refl, ap, sym, ◌∙◌, rules, Bool, true, false, cond}
use Rattle.std.specs.Prelude.{◌==◌}
use Rattle.std.specs.Str.{IsUtf8}
use Rattle.std.specs.Str.Lossy.{utf8_valid_len}
use Rattle.std.proofs.lemmas.Str.{utf8_valid_len-IsUtf8}
use Rattle.serde_json.specs.Data.{Data, string}
use Rattle.serde_json.specs.Written.{has_float, compact_text}
use Rattle.ks_job_record.specs.Texts.{name_text}

equal_true : (m n : ℕ) → m ≡ n → (m == n) ≡ true
equal_true m n e = search rules

yes : {A : Type 0} (b : Bool) (x y : A) → b ≡ true → cond b x y ≡ x
yes b x y h = rw h refl

pub spelled : (name text s : List ℕ) (d : Data) → IsUtf8 name → text ≡ name → d ≡ string text → (has_float d ≡ false → s ≡ compact_text d) → s ≡ name_text name
unfolding name_text
spelled name text s d u e f h =
    h (rw f refl) ∙ ap compact_text f ∙ ap (λ (t : List ℕ). compact_text (string t)) e ∙ sym (yes (utf8_valid_len name == length name) _ _ (equal_true _ _ (utf8_valid_len-IsUtf8 name u)))
