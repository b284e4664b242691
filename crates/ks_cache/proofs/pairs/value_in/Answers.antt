use Rattle.std.proofs.Common.{ℕ, Some, ap, sym, ◌∙◌}
use Rattle.std.specs.Prelude.{option_map}
use Rattle.std.specs.Global.{Vec}
use Rattle.ks_cache.proofs.Entries.{find_pairs}
use Rattle.ks_cache.proofs.pairs.value_in.Goals as goal

pub returns-in-Some : goal.returns-in-Some
returns-in-Some c =
    ap Some c.as_slice.ensures.value
    ∙ (ap (option_map (λ (v : Vec ℕ). v.items)) c.in-Some.ensures ∙ sym (find_pairs c.args.key.now c.args.cache.now.entries))

pub returns-in-None : goal.returns-in-None
returns-in-None c = ap (option_map (λ (v : Vec ℕ). v.items)) c.in-None.ensures ∙ sym (find_pairs c.args.key.now c.args.cache.now.entries)
