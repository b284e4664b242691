-- Bytes that spell, and input topics by number.
use Rattle.std.proofs.Common.{◌≡◌, ℕ, suc, ◌<◌, Bool, true, ◌&&◌, nat_lt, List, [], ◌∷◌, length, Option, Some, is_some, refl, sym, ap, ◌∙◌}
use Rattle.std.specs.Prelude.{◌↔◌}
use Rattle.std.proofs.lemmas.Bool.{and_from, and_parts, lt-ltb}
use Rattle.ks_record.specs.Bytes.{IsBytes}
use Rattle.ks_record.specs.declared.record.PartId.{PartId}
use Rattle.ks_record.specs.Records.{Record as Rec}
use Rattle.ks_plan.specs.declared.node.Topic.TheVariants.{Input as InputTopic}
use Rattle.ks_plan.specs.Plan.{Plan}
use Rattle.ks_plan.specs.Layout.{spread_of_topic}
use Rattle.ks_plan.specs.Places.{spread_to}
use Rattle.ks_topo.specs.Places.{spread_in}
use Rattle.ks_def_tasks.specs.Rules.{rules_of}
use Rattle.ks_def_tasks.specs.Tasks.{part_of_key}
use Rattle.ks_law_kinds.specs.OfKind.{are_bytes, spells, is_given}
use Rattle.ks_audit.specs.Audited.{IsInputAt}
use Rattle.ks_plan.proofs.TopicLists.{topic_is}

-- ---- bytes
bytes_are : (b : List ℕ) → IsBytes b → are_bytes b ≡ true
bytes_are [] h = refl
bytes_are (x ∷ xs) h = and_from (nat_lt x 256) (are_bytes xs) (lt-ltb x 256 (h 0)) (bytes_are xs (λ i. h (suc i)))

pub spelled_by : {A : Type 0} (read : List ℕ → Option A) (b : List ℕ) (o : Option A) → IsBytes b → o ≡ read b → is_some o ≡ spells read b
spelled_by read b o h e = ap is_some e ∙ sym (ap (λ x. x && is_some (read b)) (bytes_are b h))

-- the place of a key in an input topic
pub place_is : (hash : List ℕ → ℕ) (p : Plan) (topic part : ℕ) (key : List ℕ) → topic < length p.counts → part ≡ spread_to key (spread_in p topic) → part ≡ part_of_key (rules_of hash) p (InputTopic topic) (Some key)
place_is hash p topic part key l is = is ∙ ap (λ t. spread_to key (spread_of_topic p t)) (topic_is p topic l)

-- ---- an input record at its place
pub input_told : (hash : List ℕ → ℕ) (p : Plan) (part : PartId) (rec : Rec) (given : Bool) (place : ℕ) (at_place : Bool) → given ≡ is_given part rec → place ≡ part_of_key (rules_of hash) p (InputTopic part.topic) rec.key →
    (at_place ≡ true) ↔ (part.part ≡ place) → ((given && at_place) ≡ true) ↔ IsInputAt (rules_of hash) p part rec
input_told hash p part rec given place at_place is here same = (
  λ h.
      let parts = and_parts given at_place h in
      record { given = sym is ∙ parts.0; place = same.0 parts.1 ∙ here },
  λ i. and_from given at_place (is ∙ i.given) (same.1 (i.place ∙ sym here)),
)
