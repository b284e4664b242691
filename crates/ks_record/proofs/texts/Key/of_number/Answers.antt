use Rattle.std.proofs.Common.{◌∙◌, subst, sym}
use Rattle.std.proofs.lemmas.Int.{to_z-of_z}
use Rattle.ks_record.specs.Texts.{IsKey}
use Rattle.ks_record.proofs.Decimals.{decimal_is_key}
use Rattle.ks_record.proofs.texts.Key.of_number.Goals as goal

pub invariant_of-result : goal.invariant_of-result
invariant_of-result c =
    let e = rw (to_z-of_z _ c.args.number c.ranges.number) at c.in_ok-digits.ensures.ok in
    subst (λ bytes. IsKey bytes) (sym (c.in_ok-text.ensures ∙ c.as_str.ensures.value ∙ e)) (decimal_is_key c.args.number c.ranges.number)
