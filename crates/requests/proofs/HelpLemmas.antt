-- Where clap's rules refuse no word, the walk over the words stops at none that is `help`: clap answers that one with help, or refuses what
-- stands behind it.
use Rattle.std.proofs.Common.{◌≡◌, ◌∙◌, ◌&&◌, ◌||◌, ℕ, ap, refl, sym, Bool, true, false, not, List, [], ◌∷◌, Option, None, Some, is_some, cond, codes, fold}
use Rattle.std.specs.Str.{bytes_eq}
use Rattle.std.proofs.lemmas.Slice.Eq.{bytes_eq-Decides}
use Rattle.clap.specs.Faults.{level_fault, other_fault, step_fault, turn_fault, walk_fault, word_fault}
use Rattle.clap.specs.Kinds.{or_else}
use Rattle.clap.specs.Lexer.{long_of, short_of}
use Rattle.clap.specs.Walk.{Held, Names, Outcome, Step, Waiting, Walk, after_flag, after_step, answers_to, arg_by_index, arg_by_long, bundle, done, idle, long_met, long_or_other, next, nothing_held, option, plain, plain_word, positional, refused, short_or_plain, stop_after, subcommand, subcommand_met, subcommand_or_other, to_positional, trailing, value, waits, walk_from, walked, walked_from, word_met}
use Rattle.clap.specs.Words.{Kinds, Rule, Shape, Text}
use Rattle.clap.specs.declared.error.kind.ErrorKind.TheVariants.{DisplayHelp, InvalidSubcommand}

-- what two steps come to is nothing only where both come to nothing
pub first_empty : (a b : Kinds) → or_else a b ≡ [] → a ≡ []
first_empty [] b e = refl
first_empty (k ∷ ks) b e = e

pub or_else_rest : (a b : Kinds) → or_else a b ≡ [] → b ≡ []
or_else_rest [] b e = e
or_else_rest (k ∷ ks) b e = cc

-- a walk stopped at no word, or at one that is not `help`
abbrev pub is_not_help : Option (Text × List Text) → Bool
is_not_help None = true
is_not_help (Some p) = not (bytes_eq p.0 (codes "help"))

-- whether a step stops the walk
abbrev stops : Step → Bool
stops (subcommand name) = true
stops _ = false

plain_goes : (c : List Rule) (waiting : Waiting) (word : Text) (h : Held) → stops (plain_word c waiting word h).1 ≡ false
plain_goes c idle word h = refl
plain_goes c (option id) word h = refl
plain_goes c positional word h = refl

flag_goes : (c : List Rule) (waiting : Waiting) (word : Text) (h : Held) (came : Outcome) → stops (after_flag c waiting word h came).1 ≡ false
flag_goes c waiting word h done = refl
flag_goes c waiting word h (waits id) = refl
flag_goes c waiting word h plain = plain_goes c waiting word h
flag_goes c waiting word h refused = plain_goes c waiting word h

short_goes : (c : List Rule) (waiting : Waiting) (word : Text) (flags : Option Text) (h : Held) → stops (short_or_plain c waiting word flags h).1 ≡ false
short_goes c waiting word (Some flags) h = flag_goes c waiting word (bundle c flags h).0 (bundle c flags h).1
short_goes c waiting word None h = plain_goes c waiting word h

long_goes : (c : List Rule) (waiting : Waiting) (word : Text) (long : Option (Text × Option Text)) (h : Held) → stops (long_or_other c waiting word long h).1 ≡ false
long_goes c waiting word (Some p) h = flag_goes c waiting word (long_met c (arg_by_long c p.0) p.1 h).0 (long_met c (arg_by_long c p.0) p.1 h).1
long_goes c waiting word None h = short_goes c waiting word (short_of word) h

-- a word that names no subcommand stops no walk
other_goes : (c : List Rule) (waiting : Waiting) (position : ℕ) (word : Text) (h : Held) → stops (subcommand_or_other c None waiting position word h).1 ≡ false
other_goes c waiting position word h = by (bytes_eq word (45 ∷ 45 ∷ []))
  where
    dashes : Held × Step
    dashes = (h, trailing position)

    by : (b : Bool) → stops (cond b dashes (long_or_other c waiting word (long_of word) h)).1 ≡ false
    by true = refl
    by false = long_goes c waiting word (long_of word) h

positional_on : (c : List Rule) (found : Option Rule) (word : Text) (w : Walk) (h : Held) → w.stopped ≡ None → is_not_help (to_positional c found word w h).stopped ≡ true
positional_on c None word w h none = ap is_not_help none
positional_on c (Some a) word w h none = refl

goes_on : (c : List Rule) (word : Text) (w : Walk) (h : Held) (step : Step) → w.stopped ≡ None → stops step ≡ false → is_not_help (after_step c word w h step).stopped ≡ true
goes_on c word w h (next waiting) none goes = ap is_not_help none
goes_on c word w h (trailing position) none goes = ap is_not_help none
goes_on c word w h (subcommand name) none goes = let bad : true ≡ false = goes in cc
goes_on c word w h value none goes = positional_on c (arg_by_index c w.position) word w h none

-- a subcommand that is met without a fault is not `help`
not_called : (b off : Bool) → off ≡ false → ◌≡◌ {A = Kinds} (cond (b && not off) (DisplayHelp ∷ InvalidSubcommand ∷ []) []) [] → not b ≡ true
not_called false off is e = refl
not_called true true is e = cc
not_called true false is e = let bad : ◌≡◌ {A = Kinds} (DisplayHelp ∷ InvalidSubcommand ∷ []) [] = e in cc

met_on : (s : Shape) (word : Text) (w : Walk) (found : Option Text) → w.stopped ≡ None → s.disable_help_subcommand ≡ false → other_fault s found word w.held ≡ []
    → is_not_help (after_step s.rules word w (subcommand_or_other s.rules found w.waiting w.position word w.held).0
    (subcommand_or_other s.rules found w.waiting w.position word w.held).1).stopped ≡ true
met_on s word w (Some name) none enabled accepted = not_called (bytes_eq name (codes "help")) s.disable_help_subcommand enabled accepted
met_on s word w None none enabled accepted =
    goes_on s.rules word w (subcommand_or_other s.rules None w.waiting w.position word w.held).0 (subcommand_or_other s.rules None w.waiting w.position word w.held).1
    none (other_goes s.rules w.waiting w.position word w.held)

word_on : (s : Shape) (names : Names) (w : Walk) (word : Text) (behind : Bool) → w.stopped ≡ None → s.disable_help_subcommand ≡ false
    → word_fault s names behind w.waiting word w.held ≡ []
    → is_not_help (after_step s.rules word w (word_met s.rules names behind w.waiting w.position word w.held).0
    (word_met s.rules names behind w.waiting w.position word w.held).1).stopped ≡ true
word_on s names w word true none enabled accepted = positional_on s.rules (arg_by_index s.rules w.position) word w w.held none
word_on s names w word false none enabled accepted = met_on s word w (subcommand_met names w.waiting word) none enabled accepted

turn_on : (s : Shape) (names : Names) (w : Walk) (word : Text) (stopped : Option (Text × List Text)) → w.stopped ≡ stopped → is_not_help stopped ≡ true
    → s.disable_help_subcommand ≡ false → turn_fault s names w word ≡ [] → is_not_help (walked_from s.rules names stopped w word).stopped ≡ true
turn_on s names w word (Some p) is kept enabled accepted = kept
turn_on s names w word None is kept enabled accepted =
    let met = word_met s.rules names w.is_trailing w.waiting w.position word w.held in
    let here = word_fault s names w.is_trailing w.waiting word w.held in
    let behind = step_fault s w.position met.0 met.1 in
    let both : or_else here behind ≡ [] = ap (λ (o : Option (Text × List Text)). cond (is_some o) [] (or_else here behind)) (sym is) ∙ accepted in
    word_on s names w word w.is_trailing is enabled (first_empty here behind both)

walk_on : (s : Shape) (names : Names) (w : Walk) (words : List Text) → is_not_help w.stopped ≡ true → s.disable_help_subcommand ≡ false
    → walk_fault s names w words ≡ [] → is_not_help (fold (walked s.rules names) w words).stopped ≡ true
unfolding walk_fault walked
walk_on s names w [] kept enabled accepted = kept
walk_on s names w (word ∷ rest) kept enabled accepted =
    let here = turn_fault s names w word in
    let behind = walk_fault s names (walked s.rules names w word) rest in
    walk_on s names (walked s.rules names w word) rest (turn_on s names w word w.stopped refl kept enabled (first_empty here behind accepted))
    enabled (or_else_rest here behind accepted)

-- where a level of a parse has no fault, its walk stops at no `help`
pub stops_elsewhere : (s : Shape) (names : Names) (words : List Text) (has_subcommand : Bool) (below : Kinds) → s.disable_help_subcommand ≡ false
    → level_fault s names nothing_held words has_subcommand below ≡ [] → is_not_help (stop_after s.rules names words) ≡ true
stops_elsewhere s names words has_subcommand below enabled accepted =
    walk_on s names (walk_from nothing_held) words refl enabled (first_empty (walk_fault s names (walk_from nothing_held) words) _ accepted)

-- a command of the name `help` does not answer to another name
pub help_is_another : (name : Text) → not (bytes_eq name (codes "help")) ≡ true → answers_to name (codes "help", []) ≡ false
help_is_another name other = by (bytes_eq (codes "help") name) refl
  where
    by : (b : Bool) → bytes_eq (codes "help") name ≡ b → (b || false) ≡ false
    by false e = refl
    by true e =
        let same : codes "help" ≡ name = (bytes_eq-Decides (codes "help") name).0 e in
        let again : bytes_eq name (codes "help") ≡ true = (bytes_eq-Decides name (codes "help")).1 (sym same) in
        let bad : false ≡ true = sym (ap not again) ∙ other in
        cc
