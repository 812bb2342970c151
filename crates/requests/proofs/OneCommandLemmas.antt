-- Of words whose first one names a command, clap's rules say the same for a program that has this command alone: the walk stops at that word,
-- and the rest is the command's.
use Rattle.std.proofs.Common.{◌≡◌, ◌∙◌, ◌&&◌, ◌∷◌, [], ap, ap₂, refl, sym, subst, Bool, true, false, not, List, Option, None, Some, is_some, cond, codes, fold}
use Rattle.std.specs.Prelude.{find, option_map}
use Rattle.std.specs.Option.{option_map_or}
use Rattle.std.specs.Str.{bytes_eq}
use Rattle.std.proofs.lemmas.Slice.Eq.{bytes_eq-Decides}
use Rattle.clap.proofs.FaultLemmas.{stopped_fault}
use Rattle.clap.proofs.OnLiterals.{clap_on_literals}
use Rattle.clap.proofs.WalkLemmas.{walk_stopped}
use Rattle.clap.specs.Faults.{built_fault, check_fault, defaults_fault, entered_fault, level_fault, other_fault, settle_fault, step_fault, turn_fault, walk_fault}
use Rattle.clap.specs.Kinds.{or_else}
use Rattle.clap.specs.Simple.{entered, label_of, names_of, rows_at}
use Rattle.clap.specs.Walk.{Names, Walk, after_step, answers_to, finished, idle, nothing_held, settled, subcommand_met, subcommand_or_other, walk, walk_from, walked}
use Rattle.clap.specs.Words.{App, Kinds, Rule, Shape, Text, built, fault_of, is_simple_and_free, subcommand_of}
use Rattle.clap.specs.declared.error.kind.ErrorKind.TheVariants.{DisplayHelp, InvalidSubcommand}
use Rattle.requests.specs.OneCommand.{app_with, command_by, first_command}
use Rattle.requests.specs.Prelude.{arbiter_app}
use Rattle.requests.specs.declared.commands.CommandName.{CommandName}
use Rattle.requests.specs.declared.commands.CommandName.TheVariants.{Check, Format, Enter, Pair, Boards, Candidates, Explain, Standings, Sheet}
use Rattle.requests.proofs.WordLemmas.{commands_on_literals, options_on_literals, simple_and_free}

-- the step to a word that names a command
step_named : (c : List Rule) (names : Names) (word name : Text) → subcommand_met names idle word ≡ Some name
    → walked c names (walk_from nothing_held) word ≡ record (walk_from nothing_held) { stopped = Some (name, []) }
unfolding walked
step_named c names word name met =
    ap (λ (o : Option Text). after_step c word (walk_from nothing_held) (subcommand_or_other c o idle 1 word nothing_held).0
    (subcommand_or_other c o idle 1 word nothing_held).1) met

-- the walk stops at a first word that names a command, and leaves it the others
stop_named : (c : List Rule) (names : Names) (word name : Text) (rest : List Text) → subcommand_met names idle word ≡ Some name
    → walk c names nothing_held (word ∷ rest) ≡ record (walk_from nothing_held) { stopped = Some (name, rest) }
stop_named c names word name rest met =
    ap (λ (w : Walk). fold (walked c names) w rest) (step_named c names word name met)
    ∙ sym (walk_stopped c names (walk_from nothing_held) name [] rest)

-- and it has no fault, where the command is not `help`
turn_named : (s : Shape) (names : Names) (word name : Text) → subcommand_met names idle word ≡ Some name → bytes_eq name (codes "help") ≡ false
    → turn_fault s names (walk_from nothing_held) word ≡ []
turn_named s names word name met other =
    ap (λ (o : Option Text). or_else (other_fault s o word nothing_held)
    (step_fault s 1 (subcommand_or_other s.rules o idle 1 word nothing_held).0 (subcommand_or_other s.rules o idle 1 word nothing_held).1)) met
    ∙ ap (λ b. or_else (cond (b && not s.disable_help_subcommand) (DisplayHelp ∷ InvalidSubcommand ∷ []) []) []) other

fault_named : (s : Shape) (names : Names) (word name : Text) (rest : List Text) → subcommand_met names idle word ≡ Some name
    → bytes_eq name (codes "help") ≡ false → walk_fault s names (walk_from nothing_held) (word ∷ rest) ≡ []
unfolding walk_fault
fault_named s names word name rest met other =
    ap (λ (k : Kinds). or_else k (walk_fault s names (walked s.rules names (walk_from nothing_held) word) rest)) (turn_named s names word name met other)
    ∙ (ap (λ (w : Walk). walk_fault s names w rest) (step_named s.rules names word name met) ∙ stopped_fault s names (walk_from nothing_held) (name, []) rest)

-- the command of a name
named_in : Text → App → Option Shape
named_in name app = find (λ s. answers_to name (label_of s)) app.subs

-- the faults of a program with these arguments of its own, where this is the command that the first word names
faults_with : Shape → Option Shape → List Text → Kinds
faults_with s found rest =
    or_else (option_map_or (λ t. level_fault t [] nothing_held rest false []) found [])
    (or_else (settle_fault s.rules s.args_override_self nothing_held)
    (or_else (defaults_fault (settled s.rules nothing_held).rows s.rules)
    (check_fault s (finished s.rules nothing_held) (is_some (option_map (λ t. rows_at t rest) found)))))

built_named : (a : App) (word name : Text) (rest : List Text) → subcommand_met (names_of a) idle word ≡ Some name → bytes_eq name (codes "help") ≡ false
    → built_fault a nothing_held (word ∷ rest) ≡ faults_with a.top (named_in name a) rest
unfolding faults_with named_in
built_named a word name rest met other =
    ap₂ (λ (w : Walk) (first : Kinds). or_else first
    (or_else (entered_fault a w.stopped)
    (or_else (settle_fault a.top.rules a.top.args_override_self w.held)
    (or_else (defaults_fault (settled a.top.rules w.held).rows a.top.rules)
    (check_fault a.top (finished a.top.rules w.held) (is_some (entered a w.stopped)))))))
    (stop_named a.top.rules (names_of a) word name rest met) (fault_named a.top (names_of a) word name rest met other)

-- what is asked of a program of which the first word names a command
record IsNamed (a : App) (name : Text) : Type 0 where
  all_words : a.top.no_binary_name ≡ true
  met : subcommand_met (names_of (built a)) idle name ≡ Some name

faults_of_named : (a : App) (name : Text) (rest : List Text) → IsNamed a name → bytes_eq name (codes "help") ≡ false
    → fault_of a (name ∷ rest) ≡ faults_with (built a).top (named_in name (built a)) rest
faults_of_named a name rest h other =
    ap (λ b. built_fault (built a) nothing_held (cond b (name ∷ rest) rest)) h.all_words ∙ built_named (built a) name name rest h.met other

rows_of_named : (a : App) (name : Text) (rest : List Text) → IsNamed a name
    → subcommand_of a (name ∷ rest) ≡ option_map (λ t. rows_at t rest) (named_in name (built a))
unfolding named_in
rows_of_named a name rest h =
    ap (λ b. entered (built a) (walk (built a).top.rules (names_of (built a)) nothing_held (cond b (name ∷ rest) rest)).stopped) h.all_words
    ∙ ap (λ (w : Walk). entered (built a) w.stopped) (stop_named (built a).top.rules (names_of (built a)) name name rest h.met)

-- clap's rules say the same of two programs
abbrev pub SaysTheSame : App → App → List Text → Type 0
SaysTheSame a b words = (fault_of a words ≡ fault_of b words) × (subcommand_of a words ≡ subcommand_of b words)

same_of_named : (a b : App) (name : Text) (rest : List Text) → IsNamed a name → IsNamed b name → bytes_eq name (codes "help") ≡ false
    → (built a).top ≡ (built b).top → named_in name (built a) ≡ named_in name (built b) → SaysTheSame a b (name ∷ rest)
same_of_named a b name rest in_a in_b other top found = (
  faults_of_named a name rest in_a other ∙ (ap₂ (λ (s : Shape) (o : Option Shape). faults_with s o rest) top found ∙ sym (faults_of_named b name rest in_b other)),
  rows_of_named a name rest in_a ∙ (ap (λ (o : Option Shape). option_map (λ t. rows_at t rest) o) found ∙ sym (rows_of_named b name rest in_b)),
)

-- the name of a command
abbrev text_of : CommandName → Text
text_of Check = codes "check"
text_of Format = codes "format"
text_of Enter = codes "enter"
text_of Pair = codes "pair"
text_of Boards = codes "boards"
text_of Candidates = codes "candidates"
text_of Explain = codes "explain"
text_of Standings = codes "standings"
text_of Sheet = codes "sheet"

same_by_name : (name : CommandName) (rest : List Text) → SaysTheSame (app_with (Some name)) arbiter_app (text_of name ∷ rest)
unfolding clap_on_literals options_on_literals commands_on_literals named_in
same_by_name Check rest = same_of_named (app_with (Some Check)) arbiter_app (codes "check") rest (record { all_words = refl; met = refl }) (record { all_words = refl; met = refl }) refl refl refl
same_by_name Format rest = same_of_named (app_with (Some Format)) arbiter_app (codes "format") rest (record { all_words = refl; met = refl }) (record { all_words = refl; met = refl }) refl refl refl
same_by_name Enter rest = same_of_named (app_with (Some Enter)) arbiter_app (codes "enter") rest (record { all_words = refl; met = refl }) (record { all_words = refl; met = refl }) refl refl refl
same_by_name Pair rest = same_of_named (app_with (Some Pair)) arbiter_app (codes "pair") rest (record { all_words = refl; met = refl }) (record { all_words = refl; met = refl }) refl refl refl
same_by_name Boards rest = same_of_named (app_with (Some Boards)) arbiter_app (codes "boards") rest (record { all_words = refl; met = refl }) (record { all_words = refl; met = refl }) refl refl refl
same_by_name Candidates rest = same_of_named (app_with (Some Candidates)) arbiter_app (codes "candidates") rest (record { all_words = refl; met = refl }) (record { all_words = refl; met = refl }) refl refl refl
same_by_name Explain rest = same_of_named (app_with (Some Explain)) arbiter_app (codes "explain") rest (record { all_words = refl; met = refl }) (record { all_words = refl; met = refl }) refl refl refl
same_by_name Standings rest = same_of_named (app_with (Some Standings)) arbiter_app (codes "standings") rest (record { all_words = refl; met = refl }) (record { all_words = refl; met = refl }) refl refl refl
same_by_name Sheet rest = same_of_named (app_with (Some Sheet)) arbiter_app (codes "sheet") rest (record { all_words = refl; met = refl }) (record { all_words = refl; met = refl }) refl refl refl

same_by_word : (word : Text) (rest : List Text) → SaysTheSame (app_with (command_by word)) arbiter_app (word ∷ rest)
same_by_word word rest =
    or_next Check _
    (or_next Format _
    (or_next Enter _
    (or_next Pair _ (or_next Boards _ (or_next Candidates _ (or_next Explain _ (or_next Standings _ (or_next Sheet None (refl, refl)))))))))
  where
    Same : Option CommandName → Type 0
    Same named = SaysTheSame (app_with named) arbiter_app (word ∷ rest)

    or_next : (name : CommandName) (other : Option CommandName) → Same other → Same (cond (bytes_eq word (text_of name)) (Some name) other)
    or_next name other later = by (bytes_eq word (text_of name)) refl
      where
        by : (b : Bool) → bytes_eq word (text_of name) ≡ b → Same (cond b (Some name) other)
        by false e = later
        by true e =
            let is : word ≡ text_of name = (bytes_eq-Decides word (text_of name)).0 e in
            subst (λ w. SaysTheSame (app_with (Some name)) arbiter_app (w ∷ rest)) (sym is) (same_by_name name rest)

-- clap's rules say the same of some words, whether clap is told of all commands or of the one that the first word names
pub same_by_first : (words : List Text) → SaysTheSame (app_with (first_command words)) arbiter_app words
same_by_first [] = (refl, refl)
same_by_first (word ∷ rest) = same_by_word word rest

pub all_simple_and_free : (named : Option CommandName) → is_simple_and_free (app_with named) ≡ true
unfolding clap_on_literals options_on_literals commands_on_literals
all_simple_and_free None = simple_and_free
all_simple_and_free (Some Check) = refl
all_simple_and_free (Some Format) = refl
all_simple_and_free (Some Enter) = refl
all_simple_and_free (Some Pair) = refl
all_simple_and_free (Some Boards) = refl
all_simple_and_free (Some Candidates) = refl
all_simple_and_free (Some Explain) = refl
all_simple_and_free (Some Standings) = refl
all_simple_and_free (Some Sheet) = refl
