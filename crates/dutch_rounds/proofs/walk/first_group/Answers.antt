-- The bracket of the first scoregroup comes next, and the round from it on is that of the seats that are left.
use Rattle.std.proofs.Common.{◌≡◌, ◌+◌, ◌≤◌, ◌<◌, ◌++◌, List, ℕ, length, length-append, refl, ap, sym, ◌∙◌, subst, arith}
use Rattle.std.proofs.lemmas.Bool.{eqb-true}
use Rattle.dutch_bracket.specs.Prelude.{Reached, bracket, scoregroups}
use Rattle.dutch_rounds.specs.Prelude.{brackets, group_kind, round_by, StandsBefore}
use Rattle.dutch_sequence.specs.declared.numbers.TheConstants.{LIMIT}
use Rattle.dutch_rounds.proofs.GroupWalk.{IsParted, group_round, moved_inside, none_left, parted_by, parted_few, some_by_test}
use Rattle.dutch_rounds.proofs.WalkSteps.{stands_group}
use Rattle.dutch_rounds.proofs.walk.first_group.Goals as goal
use Rattle.dutch_rounds.proofs.walk.first_group.Goals.{After-bracket-reached, Else-is_empty}

parted : (c : Else-is_empty) → let group = c.args.parts.0.now in let lower = c.args.parts.1.now in IsParted c.args.field.now c.args.left.items (group ++ lower) group lower
parted c =
    let group = c.args.parts.0.now in
    let lower = c.args.parts.1.now in
    let some : 0 < length (group ++ lower) = omega (arith, some_by_test group c.if-is_empty.ensures, length-append group lower) in
    parted_by c.args.field.now (record { falls = c.scores_do_not_ascend.ensures.scores; few = c.scores_do_not_ascend.ensures.few })
    c.requires.goes some refl c.requires.first

is_first : (c : After-bracket-reached) → c.bracket-reached.result ≡ bracket c.args.number (group_kind c.args.parts.1.now) c.args.left.items c.args.parts.0.now
is_first c =
    let group = c.args.parts.0.now in
    let lower = c.args.parts.1.now in
    c.bracket-reached.ensures ∙ ap (λ k. bracket c.args.number k c.deref.result.now group) c.group_kind.ensures
    ∙ ap (λ (m : List ℕ). bracket c.args.number (group_kind lower) m group) c.deref.ensures.0

pub returns-then-is_empty-clause-stands : goal.returns-then-is_empty-clause-stands
returns-then-is_empty-clause-stands c = moved_inside c.args.field.now c.args.left.items (c.args.parts.0.now ++ c.args.parts.1.now) c.requires.goes

pub returns-then-is_empty-clause-rest : goal.returns-then-is_empty-clause-rest
returns-then-is_empty-clause-rest c =
    let facts = c.args.field.now in
    let rest = c.args.parts.0.now ++ c.args.parts.1.now in
    let nobody = ap length (sym c.requires.first) ∙ eqb-true (length c.args.parts.0.now) 0 (sym c.if-is_empty.ensures) in
    ap (λ (xs : List ℕ). brackets facts c.args.number c.args.left.items (scoregroups facts xs)) (sym (none_left facts rest nobody))

pub bracket-reached-requires : goal.bracket-reached-requires
bracket-reached-requires c =
    subst (λ (m : List ℕ). length m + length c.args.parts.0.now ≤ LIMIT) (sym c.deref.ensures.0)
    (parted_few c.args.field.now (parted (goal.at.bracket-reached-requires c).Else-is_empty))

pub returns-clause-stands : goal.returns-clause-stands
returns-clause-stands c =
    let facts = c.args.field.now in
    subst (λ (b : Reached). StandsBefore facts c.args.number b c.args.parts.1.now) (sym (is_first (goal.at.returns-clause-stands c).After-bracket-reached))
    (stands_group facts c.args.number (parted (goal.at.returns-clause-stands c).Else-is_empty) refl c.requires.out c.requires.small)

pub returns-clause-rest : goal.returns-clause-rest
returns-clause-rest c =
    let facts = c.args.field.now in
    let lower = c.args.parts.1.now in
    ap (λ (b : Reached). round_by facts b.kind b lower) (is_first (goal.at.returns-clause-rest c).After-bracket-reached)
    ∙ sym (group_round facts (parted (goal.at.returns-clause-rest c).Else-is_empty) c.args.number)
