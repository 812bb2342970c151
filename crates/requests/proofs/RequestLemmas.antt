-- Words that clap's rules accept make a task, or one with a fault: each command that clap knows is one of the program's, or `help`.
use Rattle.std.proofs.Common.{◌≡◌, ◌∙◌, ◌&&◌, ◌⊎◌, ap, codes, inl, inr, refl, sym, subst, Bool, true, false, not, List, [], ◌∷◌, Option, None, Some, is_some, cond}
use Rattle.std.specs.Prelude.{⊤, find, option_map}
use Rattle.std.specs.List.{list_any}
use Rattle.std.specs.Str.{bytes_eq}
use Rattle.clap.specs.Facts.{explicit_source}
use Rattle.clap.specs.Faults.{defaults_fault, entered_fault, level_fault, settle_fault, walk_fault}
use Rattle.clap.specs.Kinds.{check_kinds}
use Rattle.clap.specs.Simple.{argument_words, entered, label_of, names_of, rows_at}
use Rattle.clap.specs.Takes.{is_given}
use Rattle.clap.specs.Walk.{Held, Names, answers_to, finished, nothing_held, rows_after, settled, stop_after, walk, walk_from}
use Rattle.clap.specs.Words.{App, Kinds, Row, Shape, Text, built, fault_of, subcommand_of}
use Rattle.requests.specs.Prelude.{arbiter_app, task_by, task_of}
use Rattle.requests.proofs.HelpLemmas.{help_is_another, is_not_help, or_else_rest, stops_elsewhere}
use Rattle.requests.proofs.WordLemmas.{commands_on_literals}

-- a command makes a task, or one with a fault
abbrev pub MakesTask : Shape → Type 0
MakesTask shape = (rows : List Row) → is_some (task_of shape.name rows) ≡ true

-- a command is `help`
abbrev pub IsHelp : Shape → Type 0
IsHelp shape = ◌≡◌ {A = Text × List Text} (label_of shape) (codes "help", [])

-- each of these commands is one or the other
abbrev pub AreNamed : List Shape → Type 0
AreNamed [] = ⊤
AreNamed (shape ∷ rest) = (MakesTask shape ⊎ IsHelp shape) × AreNamed rest

-- a command that is found makes a task
abbrev IsNamed : List Text → Option Shape → Type 0
IsNamed words found = is_some (task_by (option_map (λ s. rows_at s words) found)) ≡ is_some (option_map (λ s. rows_at s words) found)

found_named : (name : Text) (shapes : List Shape) (words : List Text) → not (bytes_eq name (codes "help")) ≡ true → AreNamed shapes
    → IsNamed words (find (λ s. answers_to name (label_of s)) shapes)
found_named name [] words other h = refl
found_named name (shape ∷ rest) words other h = by (answers_to name (label_of shape)) refl h.0 (found_named name rest words other h.1)
  where
    by : (b : Bool) → answers_to name (label_of shape) ≡ b → MakesTask shape ⊎ IsHelp shape → IsNamed words (find (λ s. answers_to name (label_of s)) rest)
        → IsNamed words (cond b (Some shape) (find (λ s. answers_to name (label_of s)) rest))
    by false e known later = later
    by true e (inl makes) later = makes (rows_after shape.rules [] words)
    by true e (inr same) later =
        let bad : true ≡ false = sym e ∙ (ap (answers_to name) same ∙ help_is_another name other) in
        cc

entered_named : (app : App) → AreNamed app.subs → (stop : Option (Text × List Text)) → is_not_help stop ≡ true → is_some (task_by (entered app stop)) ≡ is_some (entered app stop)
entered_named app h None other = refl
entered_named app h (Some p) other = found_named p.0 app.subs p.1 other h

-- a command that wants a subcommand refuses words without one
wants_command : (a b c : Bool) → b ≡ true → check_kinds a b c ≡ [] → ⊥
wants_command true b c required e = cc
wants_command false true c required e = cc
wants_command false false c required e = cc

level_without : (s : Shape) (names : Names) (held : Held) (words : List Text) (below : Kinds) → s.subcommand_required ≡ true
    → level_fault s names held words false below ≡ [] → ⊥
level_without s names held words below required e =
    let end = (walk s.rules names held words).held in
    let rows = finished s.rules end in
    let one = or_else_rest (walk_fault s names (walk_from held) words) _ e in
    let two = or_else_rest below _ one in
    let three = or_else_rest (settle_fault s.rules s.args_override_self end) _ two in
    let four = or_else_rest (defaults_fault (settled s.rules end).rows s.rules) _ three in
    wants_command (not false && (s.arg_required_else_help && not (list_any (λ r. explicit_source r.source) rows))) s.subcommand_required
    (not (s.subcommand_negates_reqs && false) && list_any (λ a. a.required && not (is_given a.id rows)) s.rules) required four

-- accepted words have a command, and it is one of these
task_made : (app : App) (words : List Text) → AreNamed (built app).subs → (built app).top.subcommand_required ≡ true → (built app).top.disable_help_subcommand ≡ false
    → fault_of app words ≡ [] → None ≡ task_by (subcommand_of app words) → ⊥
task_made app words named required enabled accepted none = go (entered (built app) stop) refl
  where
    stop : Option (Text × List Text)
    stop = stop_after (built app).top.rules (names_of (built app)) (argument_words app words)

    go : (o : Option (Text × List Row)) → entered (built app) stop ≡ o → ⊥
    go (Some x) e =
        let other =
        stops_elsewhere (built app).top (names_of (built app)) (argument_words app words) (is_some (entered (built app) stop)) (entered_fault (built app) stop)
        enabled accepted in
        let bad : false ≡ true = ap is_some none ∙ (entered_named (built app) named stop other ∙ ap is_some e) in
        cc
    go None e =
        level_without (built app).top (names_of (built app)) nothing_held (argument_words app words) (entered_fault (built app) stop) required
        (subst (λ b. level_fault (built app).top (names_of (built app)) nothing_held (argument_words app words) b (entered_fault (built app) stop) ≡ []) (ap is_some e) accepted)

-- the program's commands, in their order, and clap's `help` behind them
commands_named : AreNamed (built arbiter_app).subs
unfolding commands_on_literals
commands_named = (
  inl (λ rows. refl),
  (
    inl (λ rows. refl),
    (
      inl (λ rows. refl),
      (
        inl (λ rows. refl),
        (
          inl (λ rows. refl),
          (inl (λ rows. refl), (inl (λ rows. refl), (inl (λ rows. refl), (inl (λ rows. refl), (inr refl, tt))))),
        ),
      ),
    ),
  ),
)

-- no words that clap's rules accept make no task
pub no_words_without : (app : App) (words : List Text) (made : Option (Text × List Row)) → app ≡ arbiter_app → fault_of app words ≡ []
    → made ≡ subcommand_of app words → None ≡ task_by made → ⊥
unfolding commands_on_literals
no_words_without app words made same accepted rows e =
    task_made arbiter_app words commands_named refl refl (ap (λ a. fault_of a words) (sym same) ∙ accepted)
    (e ∙ ap task_by (rows ∙ ap (λ a. subcommand_of a words) same))
