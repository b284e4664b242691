-- What bytes are UTF-8, by test and by meaning.
use Rattle.std.proofs.Common.{◌≡◌, ℕ, Bool, true, false, List, refl, sym, ◌∙◌}
use Rattle.std.specs.Str.{IsUtf8, is_utf8}
use Rattle.std.proofs.lemmas.Str.{IsUtf8-from_is_utf8, is_utf8-from_IsUtf8}

-- a test that does not pass fails
fails : (b : Bool) → ¬ (b ≡ true) → b ≡ false
fails true f = absurd (f refl)
fails false f = refl

pub not_utf8 : (bs : List ℕ) → ¬ (IsUtf8 bs) → is_utf8 bs ≡ false
not_utf8 bs h = fails (is_utf8 bs) (λ e. h (IsUtf8-from_is_utf8 bs e))

pub no_utf8 : (bs : List ℕ) → is_utf8 bs ≡ false → IsUtf8 bs → false ≡ true
no_utf8 bs e u = sym e ∙ is_utf8-from_IsUtf8 bs u
