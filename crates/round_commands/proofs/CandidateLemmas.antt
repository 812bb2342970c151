-- A listing as an answer, and the bracket that is found.
use Rattle.std.proofs.Common.{◌≡◌, ◌++◌, ℕ, List, Result, Ok, Err, IfOk, sym, subst, refl, ◌∙◌, ap, append_assoc}
use Rattle.dutch_arrangements.specs.Prelude.{Arrangement, Frame, IsBracket, arrangements, cursor_of, IsIn}
use Rattle.dutch_arrangements.specs.declared.bracket.Shape.{Shape}
use Rattle.dutch_listing.proofs.CursorReads.{read-is}
use Rattle.dutch_rounds.specs.Prelude.{IsBracketAt}
use Rattle.dutch_bracket.specs.Prelude.{Reached}
use Rattle.dutch_player.specs.Prelude.{Facts}
use Rattle.dutch_rounds.specs.declared.round.BracketAt.{BracketAt}
use Rattle.dutch_rounds.specs.declared.round.BracketAt.TheVariants.{Bracket, NotReached, NoPairing as NoPairingAt, Undecided as UndecidedAt}
use Rattle.dutch_arrangements.specs.declared.cursor.CursorFault.{CursorFault}
use Rattle.round_commands.specs.CandidateAnswers.{IsAnswerToField, Lists, AnswersFound, coming_of, status_of}
use Rattle.round_commands.specs.Known.{CanBeListed}
use Rattle.round_lines.specs.CandidateTexts.{bracket_text, line_text}
use Rattle.round_lines.specs.Listings.{IsListing, Puts, ending_text}
use Rattle.replies.specs.Prelude.{answer_of, not_of_bracket, plain}
use Rattle.round_lines.specs.declared.listing.Ending.{Ending}
use Rattle.requests.specs.declared.options.CandidatesOptions.{CandidatesOptions}
use Rattle.replies.specs.declared.reply.Reply.{Reply}
use Rattle.replies.specs.declared.reply.Status.{Status}

-- a text that is read as a cursor is an arrangement of the bracket and shape
pub cursor_is_in : (frame : Frame) (shape : Shape) (bytes : List ℕ) (a : Arrangement) → IsBracket frame.scores frame.mdps
    → cursor_of frame shape bytes ≡ Ok a → IsIn a (arrangements frame shape)
cursor_is_in frame shape bytes a is e = (read-is frame shape bytes a is e).0

-- a listing is answered: the bracket, the candidates and the end are put one behind the other
pub listed : (options : CandidatesOptions) (facts : Facts) (reached : Reached) (shape : Shape) (coming : List Arrangement) (status : Status)
    (first more text : List ℕ) (ending : Ending) → coming_of facts reached shape options.from ≡ Ok coming
    → first ≡ bracket_text options.bracket reached.kind shape
    → Puts first more (IsListing (line_text facts reached) coming options.count options.steps ending) → status ≡ status_of ending
    → text ≡ more ++ ending_text options.bracket ending
    → Lists options facts reached shape (coming_of facts reached shape options.from) (plain status text)
listed options facts reached shape coming status first more text ending e b put s t =
    let last : List ℕ = ending_text options.bracket ending in
    let whole : text ≡ bracket_text options.bracket reached.kind shape ++ (put.0 ++ last) =
    t ∙ (ap (λ front. front ++ last) put.1 ∙ (append_assoc first put.0 last ∙ ap (λ front. front ++ (put.0 ++ last)) b)) in
    subst (λ r. Lists options facts reached shape r (plain status text)) (sym e)
    (record { ending = ending; lines = put.0; listing = put.2; status = s; text = whole; plain = refl })

-- a cursor of another bracket is told
pub not_listed : (options : CandidatesOptions) (facts : Facts) (reached : Reached) (shape : Shape) (fault : CursorFault) {E : Type 0} (r : Result Reply E)
    → coming_of facts reached shape options.from ≡ Err fault → IfOk r (λ reply. answer_of reply ≡ not_of_bracket options.bracket)
    → IfOk r (λ reply. Lists options facts reached shape (coming_of facts reached shape options.from) (answer_of reply))
not_listed options facts reached shape fault (Ok reply) e h = subst (λ x. Lists options facts reached shape x (answer_of reply)) (sym e) h
not_listed options facts reached shape fault (Err error) e h = h

-- what is answered to a bracket that is found
pub told : (options : CandidatesOptions) (facts : Facts) (found : BracketAt) {E : Type 0} (r : Result Reply E) → IsBracketAt facts options.steps options.bracket found
    → IfOk r (λ reply. AnswersFound options facts found (answer_of reply)) → IfOk r (λ reply. IsAnswerToField options facts (answer_of reply))
told options facts found (Ok reply) is h = record { found = found; is = is; tells = h }
told options facts found (Err error) is h = h

-- the candidates of a bracket that is found can be listed
pub can_be_listed : (facts : Facts) (limit number : ℕ) (found : BracketAt) → IsBracketAt facts limit number found → CanBeListed facts found
can_be_listed facts limit number (Bracket reached shape) is = (is.2, is.3)
can_be_listed facts limit number NotReached is = tt
can_be_listed facts limit number NoPairingAt is = tt
can_be_listed facts limit number (UndecidedAt bracket used) is = tt
