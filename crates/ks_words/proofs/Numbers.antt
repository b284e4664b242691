-- The numbers that the getters of clap read from texts that passed their bounds.
use Rattle.std.proofs.Common.{◌≡◌, ◌∙◌, ◌<◌, ◌^◌, ℕ, Bool, true, false, refl, sym, ap, subst, arith, List, Option, Some, None, Result, Ok, Err, inl, inr}
use Rattle.std.specs.Prelude.{◌⊎◌, IfSome, option_map, unwrap_or, is_some, codes}
use Rattle.std.specs.Str.Parse.{ParsesUnsigned}
use Rattle.clap.specs.Matches.{ReadsOne, one_text}
use Rattle.clap.specs.Simple.{is_simple}
use Rattle.clap.specs.Words.{App, is_simple_and_free}
use Rattle.clap.specs.declared.parser.matches.Found.{Found}
use Rattle.clap.specs.declared.builder.value_parser.ValueParser.TheVariants as vp
use Rattle.clap.proofs.ValueTestLemmas.{accepts-Accepts}
use Rattle.clap.proofs.WalkLemmas.{both}
use Rattle.ks_words.specs.Grammar.{Text, Use, is_number_in, number_of, number_told, text_of, settings_of, greatest_seed, greatest_start}
use Rattle.ks_words.specs.Ranges.{IsBetween, HasRanges}
use Rattle.ks_words.specs.Parser.{Tells, TellsAsk, TellsNumber}

reads : (E : Type 0) (G : List ℕ → Result ℕ E → Type 0) (k low high : ℕ) (t : List ℕ) (r : Option ℕ) → ReadsOne G t r → ((u : List ℕ) (x : Result ℕ E) → G u x → ParsesUnsigned k 10 u x)
    → high < 2 ^ k → is_number_in low high t ≡ true → r ≡ Some (number_of t)
reads E G k low high t (Some v) read only fits passed = ap Some (only t (Ok v) read).1
reads E G k low high t None read only fits passed =
    let accepted = accepts-Accepts false (vp.Unsigned low high) t passed in
    absurd (only t (Err read.0) read.1 (accepted.0, omega (arith, accepted.3)))

-- what a getter answers, by the text that was found
pub number_read : (E : Type 0) (G : List ℕ → Result ℕ E → Type 0) (k low high : ℕ) (o : Option (List ℕ)) (r : Option ℕ) → (o ≡ None → r ≡ None) → ((t : List ℕ) → o ≡ Some t → ReadsOne G t r)
    → ((u : List ℕ) (x : Result ℕ E) → G u x → ParsesUnsigned k 10 u x) → high < 2 ^ k → IfSome o (λ t. is_number_in low high t ≡ true) → r ≡ option_map number_of o
number_read E G k low high None r none value only fits passed = none refl
number_read E G k low high (Some t) r none value only fits passed = reads E G k low high t r (value t refl) only fits passed

-- a number that the words say, or else another
pub told_or : (found : Found) (us : List Use) (n : Text) (low high r d : ℕ) → TellsNumber found us n low high
    → (IfSome (one_text found n) (λ t. is_number_in low high t ≡ true) → r ≡ unwrap_or (option_map number_of (one_text found n)) d) → r ≡ unwrap_or (number_told n us) d
told_or found us n low high r d told read =
    read (subst (λ (o : Option Text). IfSome o (λ t. is_number_in low high t ≡ true)) (sym told.0) told.1) ∙ ap (λ o. unwrap_or (option_map number_of o) d) told.0

pub told_some : (found : Found) (us : List Use) (n : Text) (low high : ℕ) (r : Option ℕ) → TellsNumber found us n low high
    → (IfSome (one_text found n) (λ t. is_number_in low high t ≡ true) → r ≡ option_map number_of (one_text found n)) → r ≡ number_told n us
told_some found us n low high r told read =
    read (subst (λ (o : Option Text). IfSome o (λ t. is_number_in low high t ≡ true)) (sym told.0) told.1) ∙ ap (option_map number_of) told.0

pub simple_of : (app : App) → is_simple_and_free app ≡ true → is_simple app ≡ true
simple_of app e = (both _ _ e).0

-- whether `--journal` was found
pub flag_is : (found : Found) (us : List Use) (r : Bool) → Tells found us → (one_text found (codes "journal") ≡ None → r ≡ false) → (one_text found (codes "journal") ≡ Some (codes "true") → r ≡ true)
    → (one_text found (codes "journal") ≡ Some (codes "false") → r ≡ false) → r ≡ is_some (text_of (codes "journal") us)
flag_is found us r told none stated other = go (is_some (text_of (codes "journal") us)) refl
  where
    absent : (one_text found (codes "journal") ≡ Some (codes "false")) ⊎ (one_text found (codes "journal") ≡ None) → r ≡ false
    absent (inl e) = other e
    absent (inr e) = none e

    go : (b : Bool) → is_some (text_of (codes "journal") us) ≡ b → r ≡ b
    go true e = stated (told.given e)
    go false e = absent (told.absent e)

-- ---- bounds

in_range : (low high : ℕ) (t : Text) → is_number_in low high t ≡ true → IsBetween low high (number_of t)
in_range low high t passed =
    let accepted = accepts-Accepts false (vp.Unsigned low high) t passed in
    (accepted.2, accepted.3)

ranged_or : (low high d : ℕ) (o : Option Text) → IfSome o (λ t. is_number_in low high t ≡ true) → IsBetween low high d → IsBetween low high (unwrap_or (option_map number_of o) d)
ranged_or low high d None h usual = usual
ranged_or low high d (Some t) h usual = in_range low high t h

ranged : (low high : ℕ) (o : Option Text) → IfSome o (λ t. is_number_in low high t ≡ true) → IfSome (option_map number_of o) (IsBetween low high)
ranged low high None h = tt
ranged low high (Some t) h = in_range low high t h

pub ranges : (found : Found) (us : List Use) → Tells found us → HasRanges (settings_of us)
ranges found us told = record {
  instances = ranged_or 1 4 1 _ told.instances.1 (omega arith, omega arith);
  threads = ranged_or 1 4 1 _ told.threads.1 (omega arith, omega arith);
  standbys = ranged_or 0 3 0 _ told.standbys.1 (omega arith, omega arith);
  interval = ranged_or 1 10000 100 _ told.interval.1 (omega arith, omega arith);
  chaos = ranged 0 greatest_seed _ told.chaos.1;
  stop = ranged 1 1000000 _ told.stop.1;
  cache = ranged_or 0 100000 0 _ told.cache.1 (omega arith, omega arith);
}

pub orders_ranged : (found : Found) (us : List Use) (n : ℕ) → TellsNumber found us (codes "N") 1 150000 → number_told (codes "N") us ≡ Some n → IsBetween 1 150000 n
orders_ranged found us n told e = subst (λ (o : Option ℕ). IfSome o (IsBetween 1 150000)) e (ranged 1 150000 (text_of (codes "N") us) told.1)

pub start_ranged : (found : Found) (us : List Use) → TellsAsk found us → IfSome (number_told (codes "start") us) (IsBetween 0 greatest_start)
start_ranged found us told = ranged 0 greatest_start _ told.start.1
