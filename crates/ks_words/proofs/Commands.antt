-- The command that the code makes of what clap found, and its bounds.
use Rattle.std.proofs.Common.{◌≡◌, ◌∙◌, ◌<◌, ◌^◌, ℕ, Bool, true, false, refl, sym, ap, ap₂, subst, arith, List, [], ◌∷◌, get_or, Option, Some, None, codes, String, Global}
use Rattle.std.specs.Prelude.{IfSome, if◌then◌else◌, option_map, string_bytes, unwrap_or}
use Rattle.std.specs.Str.{bytes_eq}
use Rattle.std.proofs.lemmas.Slice.Eq.{bytes_eq-Decides}
use Rattle.clap.specs.Words.{App}
use Rattle.clap.specs.Matches.{found_of, one_text}
use Rattle.clap.specs.declared.parser.matches.ArgMatches.{ArgMatches}
use Rattle.ks_words.specs.declared.command.Command.TheVariants.{Run, Load}
use Rattle.ks_words.specs.declared.settings.Settings.{Settings}
use Rattle.ks_words.specs.Grammar.{Text, Use, is_number_in, number_of, settings_of, run_command, load_command, ask_command, audit_command, ask_of, command_of, words_of}
use Rattle.ks_words.specs.Parser.{run_app, load_app, ask_app, Finds, Tells, TellsAsk}
use Rattle.ks_words.specs.Ranges.{IsBetween, HasRanges}
use Rattle.ks_words.proofs.Found.{dashed, run_is, load_is, ask_is}
use Rattle.ks_words.proofs.Numbers.{told_or, orders_ranged}

-- what the code's clap command found is what the command of the definition finds
found : (ws : List Text) (app known : App) (o : Option ArgMatches) (p : Option ArgMatches) → app ≡ known → Finds app ws o → o ≡ p → Finds known ws p
found ws app known o p is finds same = subst (λ (a : App). Finds a ws p) is (subst (λ (q : Option ArgMatches). Finds app ws q) same finds)

pub run_refused : (ws : List Text) (app : App) (o : Option ArgMatches) → app ≡ run_app → dashed ws ≡ false → Finds app ws o → o ≡ None → None ≡ run_command ws
run_refused ws app o is plain finds same = run_is ws None plain (found ws app run_app o None is finds same)

pub load_refused : (ws : List Text) (app : App) (o : Option ArgMatches) → app ≡ load_app → dashed ws ≡ false → Finds app ws o → o ≡ None → None ≡ load_command ws
load_refused ws app o is plain finds same = load_is ws None plain (found ws app load_app o None is finds same)

-- the settings are those of the words
abbrev pub ReadsSettings : ArgMatches → Settings → Type 0
ReadsSettings m s = (us : List Use) → Tells (found_of m) us → s ≡ settings_of us

abbrev pub ReadsRanges : ArgMatches → Settings → Type 0
ReadsRanges m s = (us : List Use) → Tells (found_of m) us → HasRanges s

abbrev pub ReadsOrders : ArgMatches → ℕ → Type 0
ReadsOrders m orders = (low high : ℕ) → high < 2 ^ 32 → IfSome (one_text (found_of m) (codes "N")) (λ t. is_number_in low high t ≡ true) → orders ≡ unwrap_or (option_map number_of (one_text (found_of m) (codes "N"))) 0

pub run_found : (ws : List Text) (app : App) (o : Option ArgMatches) (m : ArgMatches) (s : Settings) → app ≡ run_app → dashed ws ≡ false → Finds app ws o → o ≡ Some m → ReadsSettings m s → Some (Run s) ≡ run_command ws
run_found ws app o m s is plain finds same settings =
    let r = run_is ws (Some m) plain (found ws app run_app o (Some m) is finds same) in
    ap (λ (x : Settings). Some (Run x)) (settings r.0 r.1) ∙ r.2

pub run_within : (ws : List Text) (app : App) (o : Option ArgMatches) (m : ArgMatches) (s : Settings) → app ≡ run_app → dashed ws ≡ false → Finds app ws o → o ≡ Some m → ReadsRanges m s → HasRanges s
run_within ws app o m s is plain finds same ranges =
    let r = run_is ws (Some m) plain (found ws app run_app o (Some m) is finds same) in
    ranges r.0 r.1

pub load_found : (ws : List Text) (app : App) (o : Option ArgMatches) (m : ArgMatches) (s : Settings) (orders : ℕ) → app ≡ load_app → dashed ws ≡ false → Finds app ws o → o ≡ Some m → ReadsSettings m s → ReadsOrders m orders
    → Some (Load orders s) ≡ load_command ws
load_found ws app o m s orders is plain finds same settings orders_read =
    let r = load_is ws (Some m) plain (found ws app load_app o (Some m) is finds same) in
    let equal : orders ≡ r.1 = told_or (found_of m) r.0 (codes "N") 1 150000 orders 0 r.3 (orders_read 1 150000 (omega arith)) ∙ ap (λ (o : Option ℕ). unwrap_or o 0) r.4 in
    ap₂ (λ (n : ℕ) (x : Settings). Some (Load n x)) equal (settings r.0 r.2) ∙ r.5

pub load_within : (ws : List Text) (app : App) (o : Option ArgMatches) (m : ArgMatches) (s : Settings) (orders : ℕ) → app ≡ load_app → dashed ws ≡ false → Finds app ws o → o ≡ Some m → ReadsRanges m s → ReadsOrders m orders
    → IsBetween 1 150000 orders × HasRanges s
load_within ws app o m s orders is plain finds same ranges orders_read =
    let r = load_is ws (Some m) plain (found ws app load_app o (Some m) is finds same) in
    let equal : orders ≡ r.1 = told_or (found_of m) r.0 (codes "N") 1 150000 orders 0 r.3 (orders_read 1 150000 (omega arith)) ∙ ap (λ (o : Option ℕ). unwrap_or o 0) r.4 in
    (subst (IsBetween 1 150000) (sym equal) (orders_ranged (found_of m) r.0 r.1 r.3 r.4), ranges r.0 r.2)

pub ask_refused : (ws : List Text) (app : App) (o : Option ArgMatches) → app ≡ ask_app → dashed ws ≡ false → Finds app ws o → o ≡ None → None ≡ ask_command ws
ask_refused ws app o is plain finds same = ask_is ws None plain (found ws app ask_app o None is finds same)

pub ask_found : (ws : List Text) (app : App) (o : Option ArgMatches) (m : ArgMatches) → app ≡ ask_app → dashed ws ≡ false → Finds app ws o → o ≡ Some m → (us : List Use) × TellsAsk (found_of m) us × (ask_of us ≡ ask_command ws)
ask_found ws app o m is plain finds same = ask_is ws (Some m) plain (found ws app ask_app o (Some m) is finds same)

-- ---- the first word names no command

differs : (a b : Text) → (a ≡ b → ⊥) → bytes_eq a b ≡ false
differs a b apart = go (bytes_eq a b) refl where
  go : (t : Bool) → bytes_eq a b ≡ t → bytes_eq a b ≡ false
  go true e = absurd (apart ((bytes_eq-Decides a b).0 e))
  go false e = e

no_command : (word : Text) (rest : List Text) → (word ≡ codes "run" → ⊥) → (word ≡ codes "load" → ⊥) → (word ≡ codes "ask" → ⊥) → (word ≡ codes "audit" → ⊥) → command_of (word ∷ rest) ≡ None
no_command word rest run load ask audit =
    ap (λ b. if b then run_command rest else (if bytes_eq word (codes "load") then load_command rest else (if bytes_eq word (codes "ask") then ask_command rest else (if bytes_eq word (codes "audit") then audit_command rest else None)))) (differs word (codes "run") run)
    ∙ (ap (λ b. if b then load_command rest else (if bytes_eq word (codes "ask") then ask_command rest else (if bytes_eq word (codes "audit") then audit_command rest else None))) (differs word (codes "load") load)
    ∙ (ap (λ b. if b then ask_command rest else (if bytes_eq word (codes "audit") then audit_command rest else None)) (differs word (codes "ask") ask)
    ∙ ap (λ b. if b then audit_command rest else None) (differs word (codes "audit") audit)))

pub no_command_in : (ws : List (String Global)) (first : String Global) (word : Text) → first ≡ get_or ws 0 first → word ≡ string_bytes first → (word ≡ codes "run" → ⊥) → (word ≡ codes "load" → ⊥) → (word ≡ codes "ask" → ⊥) → (word ≡ codes "audit" → ⊥)
    → None ≡ command_of (words_of ws)
no_command_in [] first word is text run load ask audit = refl
no_command_in (w ∷ ws) first word is text run load ask audit = sym (no_command word (words_of ws) run load ask audit) ∙ ap (λ (t : Text). command_of (t ∷ words_of ws)) (text ∙ ap string_bytes is)
