-- What a decoder answers, from what its reader gives.
use Rattle.std.proofs.Common.{◌≡◌, ℕ, List, Option, Some, None, Result, Ok, Err, sym, ap, ◌∙◌}
use Rattle.std.specs.Prelude.{IfOk, IfSome}
use Rattle.ks_record.specs.Bytes.{IsBytes}
use Rattle.ks_row.specs.Codecs.{IsCodec}
use Rattle.ks_row.proofs.Fields.{some_is}

module _ {V : Type 0} {read : List ℕ → Option V} {spell : V → List ℕ} {Fits : V → Type 0} where
  pub codec_of : ((v : V) → Fits v → read (spell v) ≡ Some v) → ((bytes : List ℕ) (v : V) → IsBytes bytes → read bytes ≡ Some v → Fits v × (bytes ≡ spell v)) → IsCodec read spell Fits
  codec_of again back = record {
    again = again;
    back = back;
    one = λ v w f g e. some_is v w (sym (again v f) ∙ (ap read e ∙ again w g));
  }

  pub found : IsCodec read spell Fits → (bytes : List ℕ) (o : Option V) → IsBytes bytes → o ≡ read bytes → IfSome o (λ v. Fits v × (bytes ≡ spell v))
  found c bytes (Some v) fits h = c.back bytes v fits (sym h)
  found c bytes None fits h = tt

  pub only : IsCodec read spell Fits → (bytes : List ℕ) (o : Option V) (v : V) → Fits v → bytes ≡ spell v → o ≡ read bytes → o ≡ Some v
  only c bytes o v fits e h = h ∙ (ap read e ∙ c.again v fits)

  pub is_found : {E : Type 0} → IsCodec read spell Fits → (bytes : List ℕ) (r : Result (Option V) E) → IsBytes bytes → IfOk r (λ o. o ≡ read bytes) → IfOk r (λ o. IfSome o (λ v. Fits v × (bytes ≡ spell v)))
  is_found c bytes (Ok o) fits h = found c bytes o fits h
  is_found c bytes (Err e) fits h = tt

  pub is_only : {E : Type 0} → IsCodec read spell Fits → (bytes : List ℕ) (r : Result (Option V) E) (v : V) → Fits v → bytes ≡ spell v → IfOk r (λ o. o ≡ read bytes) → IfOk r (λ o. o ≡ Some v)
  is_only c bytes (Ok o) v fits e h = only c bytes o v fits e h
  is_only c bytes (Err x) v fits e h = tt
