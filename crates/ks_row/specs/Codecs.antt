-- When a reader and a spelling belong together.
use Rattle.std.specs.Prelude.{◌≡◌, ℕ, List, Option, Some}
use Rattle.ks_record.specs.Bytes.{IsBytes}

-- of the values that fit: each is read again from its bytes, what is read is spelled so, and no bytes spell two values
pub record IsCodec {V : Type 0} (read : List ℕ → Option V) (spell : V → List ℕ) (Fits : V → Type 0) : Type 0 where
  pub again : (v : V) → Fits v → read (spell v) ≡ Some v
  pub back : (bytes : List ℕ) → (v : V) → IsBytes bytes → read bytes ≡ Some v → Fits v × (bytes ≡ spell v)
  pub one : (v w : V) → Fits v → Fits w → spell v ≡ spell w → v ≡ w
