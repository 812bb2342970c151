-- How the canonical text falls into the texts that are put.
use Rattle.std.proofs.Common.{◌≡◌, ℕ, ◌+◌, ◌-◌, ◌/◌, ◌%◌, ◌==◌, Bool, cond, List, [], ◌∷◌, ◌++◌, length, Option, Some, None, refl, sym, ap, ◌∙◌, append_assoc, arith}
use Rattle.std.specs.Prelude.{decimal}
use Rattle.std.specs.List.{flat_map}
use Rattle.std.proofs.lemmas.List.{length-append}
use Rattle.trf16_report.specs.Prelude.{Entry, right_in_four, left_in, points_text, points_field, round_text, player_text, lines_text}
use Rattle.trf16_writer.specs.Steps.{next_text, players_behind}

-- how many blanks stand in front of points
pub points_room : (points : ℕ) (whole : List ℕ) (n : ℕ) → whole ≡ decimal (points / 2) → n ≡ 4 - (length whole + 2) → n ≡ 4 - length (points_text points)
points_room points whole n e room =
    let total : length (points_text points) ≡ length (decimal (points / 2)) + 2 =
    length-append (decimal (points / 2)) (46 ∷ cond (points % 2 == 0) 48 53 ∷ []) in
    omega (arith, total, room, ap length e)

-- ---- the line of a player, from each field on

abbrev pub from_right : Bool → Entry → List ℕ
from_right utf8 entry = left_in utf8 5 entry.right ++ flat_map round_text entry.cells

abbrev pub from_points : Bool → Entry → List ℕ
from_points utf8 entry = points_field entry.points ++ from_right utf8 entry

abbrev pub from_left : Bool → Entry → List ℕ
from_left utf8 entry = left_in utf8 72 entry.left ++ from_points utf8 entry

abbrev pub from_number : Bool → Entry → List ℕ
from_number utf8 entry = right_in_four (decimal entry.start) ++ from_left utf8 entry

-- ---- the lines

one_line : (utf8 : Bool) (carried : Option (List ℕ)) (others : List (Option (List ℕ))) (players : List Entry)
    → lines_text utf8 (carried ∷ others) players ≡ next_text utf8 carried players ++ lines_text utf8 others (players_behind carried players)
one_line utf8 (Some line) others players = sym (append_assoc line (10 ∷ []) (lines_text utf8 others players))
one_line utf8 None others [] = refl
one_line utf8 None others (entry ∷ players) = sym (append_assoc (player_text utf8 entry) (10 ∷ []) (lines_text utf8 others players))

-- the next line, and what stands behind it
pub lines_next : (utf8 : Bool) (lines after : List (Option (List ℕ))) (carried : Option (List ℕ)) (players behind : List Entry) → lines ≡ carried ∷ after
    → behind ≡ players_behind carried players
    → lines_text utf8 lines players ≡ next_text utf8 carried players ++ lines_text utf8 after behind
lines_next utf8 lines after carried players behind first follows =
    ap (λ (all : List (Option (List ℕ))). lines_text utf8 all players) first
    ∙ one_line utf8 carried after players
    ∙ ap (λ (ps : List Entry). next_text utf8 carried players ++ lines_text utf8 after ps) (sym follows)
