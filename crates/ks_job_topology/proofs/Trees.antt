-- An object by its two members.
use Rattle.std.proofs.Common.{◌≡◌, List, [], ◌∷◌, length, refl}
use Rattle.std.specs.Prelude.{None, String}
use Rattle.std.specs.declared.alloc.Global.{Global}
use Rattle.serde_json.specs.View.{members_view}
use Rattle.serde_json.specs.declared.value.Value.{Value}
use Rattle.ks_job_topology.specs.Stated.{two_members}

pub two_members_none : (ms : List (String Global × Value)) → (length ms ≡ 2 → ⊥) → two_members (members_view ms) ≡ None
two_members_none [] n = refl
two_members_none (m ∷ []) n = refl
two_members_none (m ∷ k ∷ []) n = absurd (n refl)
two_members_none (m ∷ k ∷ j ∷ ms) n = refl
