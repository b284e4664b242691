use Rattle.std.proofs.Common.{ℕ, ap, sym, ◌∙◌, Some}
use Rattle.std.specs.Prelude.{option_map}
use Rattle.std.specs.Global.{Vec}
use Rattle.ks_store.proofs.Trees.{find_pairs}
use Rattle.ks_store.proofs.pairs.value_at.Goals as goal

pub returns-in-Some : goal.returns-in-Some
returns-in-Some c = ap Some c.as_slice.ensures.value ∙ (ap (option_map (λ (v : Vec ℕ). v.items)) c.in-Some.ensures.value ∙ sym (find_pairs c.args.pairs.now.entries c.args.key.now))

pub returns-in-None : goal.returns-in-None
returns-in-None c = ap (option_map (λ (v : Vec ℕ). v.items)) c.in-None.ensures.value ∙ sym (find_pairs c.args.pairs.now.entries c.args.key.now)
