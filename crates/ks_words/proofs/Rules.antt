-- What clap knows of a form's options, and what it makes of one use of an option.
use Rattle.std.proofs.Common.{◌≡◌, ◌∙◌, ◌&&◌, ◌||◌, ℕ, Bool, cond, suc, true, false, not, refl, sym, ap, subst, List, [], ◌∷◌, ◌++◌, map, Option, Some, None, append-nil, true≢false, codes}
use Rattle.std.specs.Prelude.{unwrap_or, option_map, is_some}
use Rattle.std.specs.Str.{bytes_eq}
use Rattle.std.proofs.lemmas.Slice.Eq.{bytes_eq-Decides}
use Rattle.std.proofs.lemmas.List.{map-append}
use Rattle.clap.specs.Words.{Rule, Row, new_rule}
use Rattle.clap.specs.Walk.{arg_by_id, arg_by_long, arg_by_short, at_row, has_row, more_values, used, with_values, without}
use Rattle.clap.specs.Simple.{Shape, new_shape}
use Rattle.clap.specs.Kinds.{Kinds, or_else}
use Rattle.clap.specs.Faults.{use_fault}
use Rattle.clap.specs.declared.builder.action.ArgAction.{ArgAction}
use Rattle.clap.specs.declared.builder.action.ArgAction.TheVariants.{Set, SetTrue}
use Rattle.clap.specs.declared.builder.value_parser.ValueParser.{ValueParser}
use Rattle.clap.specs.declared.builder.value_parser.ValueParser.TheVariants as vp
use Rattle.clap.specs.declared.builder.value_parser.Reading.TheVariants as reading
use Rattle.clap.specs.declared.parser.matches.ValueSource.TheVariants.{CommandLine}
use Rattle.clap.specs.declared.error.kind.ErrorKind.TheVariants as kind
use Rattle.clap.proofs.WalkLemmas.{list_any-map}
use Rattle.ks_words.specs.Grammar.{Text, Use, Takes, number, anything, nothing, Choice, Form, numbered, free, option_named, is_number_in, is_value, is_given}

-- ---- the rules of a form

-- it takes a text
abbrev pub TakesText : Takes → Type 0
TakesText (number low high) = Unit {0}
TakesText anything = Unit {0}
TakesText nothing = ⊥

abbrev action_for : Takes → ArgAction
action_for (number low high) = Set
action_for anything = Set
action_for nothing = SetTrue

abbrev width_of : Takes → ℕ
width_of (number low high) = 1
width_of anything = 1
width_of nothing = 0

abbrev defaults_for : Takes → List Text
defaults_for (number low high) = []
defaults_for anything = []
defaults_for nothing = codes "false" ∷ []

abbrev missing_for : Takes → List Text
missing_for (number low high) = []
missing_for anything = []
missing_for nothing = codes "true" ∷ []

abbrev parser_for : Takes → ValueParser
parser_for (number low high) = vp.Unsigned low high
parser_for anything = vp.String
parser_for nothing = vp.Bool

abbrev long_for : Option ℕ → Text → Option Text
long_for None name = Some name
long_for (Some i) name = None

-- an option, or what stands as a word of its own, at its place among these
abbrev pub rule : Option ℕ → Choice → Rule
rule own o = record (new_rule o.name) {
  long = long_for own o.name;
  index = own;
  action = Some (action_for o.takes);
  range = Some (record { start_inclusive = width_of o.takes; end_inclusive = width_of o.takes });
  defaults = defaults_for o.takes;
  missing = missing_for o.takes;
  parser = Some (parser_for o.takes);
  required = is_some own;
}

-- the plain words, from a place on
abbrev pub plain_rules : ℕ → List Choice → List Rule
plain_rules i [] = []
plain_rules i (p ∷ ps) = rule (Some i) p ∷ plain_rules (suc i) ps

abbrev pub rules_for : Form → List Rule
rules_for f = map (rule None) f.options ++ plain_rules 1 f.plain

abbrev pub shape_for : Text → Form → Shape
shape_for name f = record (new_shape name) {
  rules = rules_for f;
  no_binary_name = true;
  disable_help_flag = true;
  disable_help_subcommand = true;
  disable_version_flag = true;
  is_built = true;
}

-- ---- looking rules up

pub by_long : (os : List Choice) (i : ℕ) (ps : List Choice) (n : Text) → arg_by_long (map (rule None) os ++ plain_rules i ps) n ≡ option_map (rule None) (option_named os n)
by_long [] i [] n = refl
by_long [] i (p ∷ ps) n = by_long [] (suc i) ps n
by_long (o ∷ os) i ps n = go (bytes_eq o.name n) (by_long os i ps n)
  where
    go : (b : Bool) → arg_by_long (map (rule None) os ++ plain_rules i ps) n ≡ option_map (rule None) (option_named os n)
        → cond (b || false) (Some (rule None o)) (arg_by_long (map (rule None) os ++ plain_rules i ps) n) ≡ option_map (rule None) (cond b (Some o) (option_named os n))
    go true e = refl
    go false e = e

pub by_id : (os : List Choice) (rest : List Rule) (n : Text) (o : Choice) → option_named os n ≡ Some o → arg_by_id (map (rule None) os ++ rest) n ≡ Some (rule None o)
by_id [] rest n o e = absurd (cc)
by_id (x ∷ os) rest n o e = go (bytes_eq x.name n) e (by_id os rest n o)
  where
    go : (b : Bool) → cond b (Some x) (option_named os n) ≡ Some o → (option_named os n ≡ Some o → arg_by_id (map (rule None) os ++ rest) n ≡ Some (rule None o))
        → cond b (Some (rule None x)) (arg_by_id (map (rule None) os ++ rest) n) ≡ Some (rule None o)
    go true same later = ap (option_map (rule None)) same
    go false same later = later same

pub named_front : (os more : List Choice) (n : Text) (o : Choice) → option_named os n ≡ Some o → option_named (os ++ more) n ≡ Some o
named_front [] more n o e = absurd (cc)
named_front (x ∷ os) more n o e = go (bytes_eq x.name n) e (named_front os more n o)
  where
    go : (b : Bool) → cond b (Some x) (option_named os n) ≡ Some o → (option_named os n ≡ Some o → option_named (os ++ more) n ≡ Some o)
        → cond b (Some x) (option_named (os ++ more) n) ≡ Some o
    go true same later = same
    go false same later = later same

pub same_name : (os : List Choice) (n : Text) (o : Choice) → option_named os n ≡ Some o → o.name ≡ n
same_name [] n o e = absurd (cc)
same_name (x ∷ os) n o e = go (bytes_eq x.name n) refl e (same_name os n o)
  where
    go : (b : Bool) → bytes_eq x.name n ≡ b → cond b (Some x) (option_named os n) ≡ Some o → (option_named os n ≡ Some o → o.name ≡ n) → o.name ≡ n
    go true hit same later = sym (ap (λ m. (unwrap_or m x).name) same) ∙ (bytes_eq-Decides x.name n).0 hit
    go false miss same later = later same

pub by_short : (os : List Choice) (i : ℕ) (ps : List Choice) (x : ℕ) → arg_by_short (map (rule None) os ++ plain_rules i ps) x ≡ None
by_short [] i [] x = refl
by_short [] i (p ∷ ps) x = by_short [] (suc i) ps x
by_short (o ∷ os) i ps x = by_short os i ps x

-- ---- rows

abbrev pub row : Use → Row
row u = record { id = u.0; values = u.1 ∷ []; count = None; source = Some CommandLine; reading = reading.AsWritten }

pub given_rows : (n : Text) (us : List Use) → has_row n (map row us) ≡ is_given n us
given_rows n us = sym (list_any-map (λ r. bytes_eq r.id n) row us)

pub new_row : (n : Text) (change : Row → List Row) (missing rows : List Row) → has_row n rows ≡ false → at_row n change missing rows ≡ rows ++ missing
new_row n change missing [] none = refl
new_row n change missing (r ∷ rows) none = go (bytes_eq r.id n) none (new_row n change missing rows)
  where
    go : (b : Bool) → (b || has_row n rows) ≡ false → (has_row n rows ≡ false → at_row n change missing rows ≡ rows ++ missing)
        → cond b (change r ++ rows) (r ∷ at_row n change missing rows) ≡ r ∷ (rows ++ missing)
    go true e later = absurd (true≢false e)
    go false e later = ap (λ rs. r ∷ rs) (later e)

used_new : (n t : Text) (us : List Use) → has_row n (map row us) ≡ false
    → with_values n reading.AsWritten CommandLine (t ∷ []) (without n (map row us)) ≡ map row (us ++ (n, t) ∷ [])
used_new n t us none =
    let alone : without n (map row us) ≡ map row us = new_row n (λ _. []) [] (map row us) none ∙ append-nil (map row us) in
    ap (with_values n reading.AsWritten CommandLine (t ∷ [])) alone ∙ new_row n (more_values CommandLine (t ∷ [])) (row (n, t) ∷ []) (map row us) none ∙ sym (map-append row us ((n, t) ∷ []))

-- ---- one use

abbrev pub Faulty : Kinds → Type 0
Faulty [] = ⊥
Faulty (k ∷ ks) = Unit {0}

pub faulty_first : (a b : Kinds) → Faulty a → Faulty (or_else a b)
faulty_first [] b h = absurd h
faulty_first (k ∷ ks) b h = tt

pub faulty_second : (a b : Kinds) → Faulty b → Faulty (or_else a b)
faulty_second [] b h = h
faulty_second (k ∷ ks) b h = tt

-- a use that is let in leaves these rows, and another is a fault
abbrev pub Admits : Bool → Kinds → List Row → List Row → Type 0
Admits true fault after wanted = (fault ≡ []) × (after ≡ wanted)
Admits false fault after wanted = Faulty fault

abbrev fault_by : Bool → Bool → Kinds
fault_by again valid = or_else (cond (again && true) (kind.ArgumentConflict ∷ []) []) (or_else (cond valid [] (kind.ValueValidation ∷ [])) [])

number_used : (own : Option ℕ) (n : Text) (low high : ℕ) (t : Text) (us : List Use)
    → Admits (not (is_given n us) && is_number_in low high t) (use_fault false (rule own (numbered n low high)) (t ∷ []) (map row us))
    (used (rule own (numbered n low high)) (t ∷ []) (map row us)) (map row (us ++ (n, t) ∷ []))
number_used own n low high t us =
    subst (λ h. Admits (not (is_given n us) && is_number_in low high t) (fault_by h (is_number_in low high t)) (used (rule own (numbered n low high)) (t ∷ []) (map row us)) (map row (us ++ (n, t) ∷ [])))
    (sym (given_rows n us)) (go (is_given n us) (is_number_in low high t) (given_rows n us))
  where
    go : (h v : Bool) → has_row n (map row us) ≡ h
        → Admits (not h && v) (fault_by h v) (used (rule own (numbered n low high)) (t ∷ []) (map row us)) (map row (us ++ (n, t) ∷ []))
    go true v e = tt
    go false false e = tt
    go false true e = (refl, used_new n t us e)

free_used : (own : Option ℕ) (n t : Text) (us : List Use)
    → Admits (not (is_given n us) && true) (use_fault false (rule own (free n)) (t ∷ []) (map row us))
    (used (rule own (free n)) (t ∷ []) (map row us)) (map row (us ++ (n, t) ∷ []))
free_used own n t us =
    subst (λ h. Admits (not (is_given n us) && true) (fault_by h true) (used (rule own (free n)) (t ∷ []) (map row us)) (map row (us ++ (n, t) ∷ [])))
    (sym (given_rows n us)) (go (is_given n us) (given_rows n us))
  where
    go : (h : Bool) → has_row n (map row us) ≡ h
        → Admits (not h && true) (fault_by h true) (used (rule own (free n)) (t ∷ []) (map row us)) (map row (us ++ (n, t) ∷ []))
    go true e = tt
    go false e = (refl, used_new n t us e)

pub text_used : (own : Option ℕ) (n : Text) (k : Takes) → TakesText k → (t : Text) (us : List Use)
    → Admits (not (is_given n us) && is_value k t) (use_fault false (rule own (record { name = n; takes = k })) (t ∷ []) (map row us))
    (used (rule own (record { name = n; takes = k })) (t ∷ []) (map row us)) (map row (us ++ (n, t) ∷ []))
text_used own n (number low high) h t us = number_used own n low high t us
text_used own n anything h t us = free_used own n t us
text_used own n nothing h t us = absurd h

-- a use without a text
pub no_value : (own : Option ℕ) (n : Text) (k : Takes) → TakesText k → (rows : List Row) → Faulty (use_fault false (rule own (record { name = n; takes = k })) [] rows)
no_value own n (number low high) h rows = tt
no_value own n anything h rows = tt
no_value own n nothing h rows = absurd h

pub switch_used : (n : Text) (us : List Use)
    → Admits (not (is_given n us) && true) (use_fault false (rule None (record { name = n; takes = nothing })) [] (map row us))
    (used (rule None (record { name = n; takes = nothing })) [] (map row us)) (map row (us ++ (n, codes "true") ∷ []))
switch_used n us =
    subst (λ h. Admits (not (is_given n us) && true) (fault_by h true) (used (rule None (record { name = n; takes = nothing })) [] (map row us)) (map row (us ++ (n, codes "true") ∷ [])))
    (sym (given_rows n us)) (go (is_given n us) (given_rows n us))
  where
    go : (h : Bool) → has_row n (map row us) ≡ h
        → Admits (not h && true) (fault_by h true) (used (rule None (record { name = n; takes = nothing })) [] (map row us)) (map row (us ++ (n, codes "true") ∷ []))
    go true e = tt
    go false e = (refl, used_new n (codes "true") us e)
