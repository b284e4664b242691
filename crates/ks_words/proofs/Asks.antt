-- The question that the code makes of what clap found.
use Rattle.std.proofs.Common.{◌≡◌, ◌∙◌, ◌<◌, ◌^◌, ℕ, true, sym, ap, ap₂, subst, arith, List, Option, Some, None, codes}
use Rattle.std.specs.Prelude.{IfSome, option_map, option_and_then}
use Rattle.clap.specs.Matches.{first_value, one_text}
use Rattle.clap.specs.declared.parser.matches.Found.{Found}
use Rattle.ks_words.specs.declared.command.Command.TheVariants.{Ask}
use Rattle.ks_words.specs.declared.settings.Settings.{Settings}
use Rattle.ks_words.specs.Grammar.{Text, Use, greatest_start, is_number_in, number_of, number_told, settings_of, node_of_word, key_of_word, ask_of, ask_with}
use Rattle.ks_words.specs.Parser.{Tells, TellsAsk}
use Rattle.ks_words.specs.Ranges.{HasRanges, IsBetween}
use Rattle.ks_words.proofs.Found.{no_ask}
use Rattle.ks_words.proofs.Numbers.{start_ranged, told_some}

pub no_node : (us : List Use) (node key : Option Text) → None ≡ node → None ≡ ask_with us node key
no_node us name key e = ap (λ (o : Option Text). ask_with us o key) e

pub no_key : (us : List Use) (node key : Option Text) → None ≡ key → None ≡ ask_with us node key
no_key us name key e = no_ask us name ∙ ap (λ (o : Option Text). ask_with us name o) e

-- a number as the code reads it
abbrev pub ReadsLarge : Found → Text → Option ℕ → Type 0
ReadsLarge found n r = (low high : ℕ) → high < 2 ^ 64 → IfSome (one_text found n) (λ t. is_number_in low high t ≡ true) → r ≡ option_map number_of (one_text found n)

pub start_told : (found : Found) (us : List Use) (start : Option ℕ) → TellsAsk found us → ReadsLarge found (codes "start") start → start ≡ number_told (codes "start") us
unfolding greatest_start
start_told found us start told read = told_some found us (codes "start") 0 greatest_start start told.start (read 0 greatest_start (omega arith))

pub asked : (found : Found) (us : List Use) (n k : Text) (node key : Option Text) (start : Option ℕ) (s : Settings) → TellsAsk found us → Some n ≡ node → Some k ≡ key → ReadsLarge found (codes "start") start
    → (Tells found us → s ≡ settings_of us) → Some (Ask n k start s) ≡ ask_with us node key
asked found us n k name key start s told has_node has_key read settings =
    ap₂ (λ (x : Option ℕ) (y : Settings). Some (Ask n k x y)) (start_told found us start told read) (settings told.settings) ∙ ap₂ (λ (a b : Option Text). ask_with us a b) has_node has_key

pub asked_within : (found : Found) (us : List Use) (start : Option ℕ) (s : Settings) → TellsAsk found us → ReadsLarge found (codes "start") start → (Tells found us → HasRanges s)
    → IfSome start (IsBetween 0 greatest_start) × HasRanges s
asked_within found us start s told read ranges =
    (subst (λ (o : Option ℕ). IfSome o (IsBetween 0 greatest_start)) (sym (start_told found us start told read)) (start_ranged found us told), ranges told.settings)

-- ---- from the words that were found

pub without_node : (found : Found) (us : List Use) → TellsAsk found us → None ≡ first_value found (codes "NODE") → None ≡ ask_of us
without_node found us told none = no_node us _ _ (ap (option_and_then node_of_word) (none ∙ told.node))

pub without_key : (found : Found) (us : List Use) → TellsAsk found us → None ≡ first_value found (codes "KEY") → None ≡ ask_of us
without_key found us told none = no_key us _ _ (ap (option_and_then key_of_word) (none ∙ told.key))

pub asks_both : (found : Found) (us : List Use) (node key : Text) → TellsAsk found us → Some node ≡ first_value found (codes "NODE") → Some key ≡ first_value found (codes "KEY")
    → ask_with us (node_of_word node) (key_of_word key) ≡ ask_of us
asks_both found us node key told has_node has_key =
    ap₂ (λ (a b : Option Text). ask_with us (option_and_then node_of_word a) (option_and_then key_of_word b)) (has_node ∙ told.node) (has_key ∙ told.key)
