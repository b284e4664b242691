-- The same grammar as `clap` is told of it, and what it then finds.
use Rattle.std.specs.Prelude.{◌≡◌, ◌≢◌, ◌⊎◌, ℕ, true, false, List, [], Option, Some, None, codes}
use Rattle.std.specs.Prelude.{IfSome, is_some}
use Rattle.clap.specs.Words.{App, Rule, new_app, new_rule, with_rule, fault_of, matches_of, rows_of}
use Rattle.clap.specs.Matches.{first_value, found_of, one_text}
use Rattle.clap.specs.Simple.{on_top}
use Rattle.clap.specs.declared.builder.action.ArgAction.TheVariants.{Set, SetTrue}
use Rattle.clap.specs.declared.builder.value_parser.ValueParser.TheVariants.{Unsigned}
use Rattle.clap.specs.declared.parser.matches.ArgMatches.{ArgMatches}
use Rattle.clap.specs.declared.parser.matches.Found.{Found}
use Rattle.ks_words.specs.Grammar.{Text, Use, greatest_seed, greatest_start, is_number_in, text_of}

-- an option with a number
abbrev pub number_rule : Text → ℕ → ℕ → Rule
number_rule name low high = record (new_rule name) { long = Some name; action = Some Set; parser = Some (Unsigned low high) }

-- an option without a value
abbrev pub switch_rule : Text → Rule
switch_rule name = record (new_rule name) { long = Some name; action = Some SetTrue }

-- a number as a word of its own
abbrev pub plain_rule : Text → ℕ → ℕ → Rule
plain_rule name low high = record (new_rule name) { action = Some Set; parser = Some (Unsigned low high); required = true }

-- a text as a word of its own
abbrev pub text_rule : Text → Rule
text_rule name = record (new_rule name) { action = Some Set; required = true }

abbrev pub bare_app : Text → App
bare_app name = on_top (λ s. record s { no_binary_name = true; disable_help_flag = true; disable_version_flag = true }) (new_app name)

-- the options that all commands have
abbrev pub common_app : Text → App
common_app name =
    with_rule (with_rule (with_rule (with_rule (with_rule (with_rule (with_rule (bare_app name)
    (number_rule (codes "instances") 1 4))
    (number_rule (codes "threads") 1 4))
    (number_rule (codes "standbys") 0 3))
    (number_rule (codes "commit-every") 1 10000))
    (number_rule (codes "chaos") 0 greatest_seed))
    (number_rule (codes "stop-after") 1 1000000))
    (number_rule (codes "cache") 0 100000)

abbrev pub run_app : App
run_app = with_rule (common_app (codes "run")) (switch_rule (codes "journal"))

abbrev pub load_app : App
load_app = with_rule (common_app (codes "load")) (plain_rule (codes "N") 1 150000)

abbrev pub ask_app : App
ask_app = with_rule (with_rule (with_rule (common_app (codes "ask")) (number_rule (codes "start") 0 greatest_start)) (text_rule (codes "NODE"))) (text_rule (codes "KEY"))

-- nothing where clap refuses the words, and else its matches
abbrev pub Finds : App → List Text → Option ArgMatches → Type 0
Finds app words None = fault_of app words ≢ []
Finds app words (Some m) = (fault_of app words ≡ []) × (rows_of (found_of m) ≡ matches_of app words)

-- what was found for a number's name is what the words say, within its bounds
abbrev pub TellsNumber : Found → List Use → Text → ℕ → ℕ → Type 0
TellsNumber found us name low high = (one_text found name ≡ text_of name us) × IfSome (text_of name us) (λ t. is_number_in low high t ≡ true)

-- what clap found is what the words say
pub record Tells (found : Found) (us : List Use) : Type 0 where
  pub instances : TellsNumber found us (codes "instances") 1 4
  pub threads : TellsNumber found us (codes "threads") 1 4
  pub standbys : TellsNumber found us (codes "standbys") 0 3
  pub interval : TellsNumber found us (codes "commit-every") 1 10000
  pub chaos : TellsNumber found us (codes "chaos") 0 greatest_seed
  pub stop : TellsNumber found us (codes "stop-after") 1 1000000
  pub cache : TellsNumber found us (codes "cache") 0 100000
  pub given : is_some (text_of (codes "journal") us) ≡ true → one_text found (codes "journal") ≡ Some (codes "true")
  pub absent : is_some (text_of (codes "journal") us) ≡ false → (one_text found (codes "journal") ≡ Some (codes "false")) ⊎ (one_text found (codes "journal") ≡ None)

-- and the same of a command with a node, a key and a start
pub record TellsAsk (found : Found) (us : List Use) : Type 0 where
  pub settings : Tells found us
  pub node : first_value found (codes "NODE") ≡ text_of (codes "NODE") us
  pub key : first_value found (codes "KEY") ≡ text_of (codes "KEY") us
  pub start : TellsNumber found us (codes "start") 0 greatest_start
