-- Rows that are level with each other are level with the same rows, so they have one group.
use Rattle.std.proofs.Common.{◌≡◌, Bool, true, false, cond, List, [], ◌∷◌, map, refl, ap, ◌∙◌}
use Rattle.std.specs.Prelude.{ℕ, nat_lt, ◌&&◌, length, filter, None, Some, is_some, if◌then◌else◌}
use Rattle.std.specs.Cmp.{IsEquivalence}
use Rattle.std.specs.Cmp.Lexicographic.{options_equiv}
use Rattle.std.proofs.lemmas.Cmp.{nat_eq_equiv, lists_equiv, on_equiv, and_equiv}
use Rattle.trf16_report.specs.Prelude.{Sheet}
use Rattle.tables.specs.declared.key.Key.TheVariants.{Direct}
use Rattle.tables.specs.Prelude.{RowFacts, is_level, group_of, have_all_met, points_among, direct_in, value_of}

level_equiv : IsEquivalence is_level
level_equiv = and_equiv (on_equiv (λ (r : RowFacts). r.score) nat_eq_equiv) (on_equiv (λ (r : RowFacts). r.values) (lists_equiv (options_equiv nat_eq_equiv)))

filter-same : (p q : RowFacts → Bool) → ((x : RowFacts) → p x ≡ q x) → (rows : List RowFacts) → filter p rows ≡ filter q rows
filter-same p q same [] = refl
filter-same p q same (row ∷ rest) =
    ap (λ t. cond t (row ∷ filter p rest) (filter p rest)) (same row)
    ∙ ap (λ others. cond (q row) (row ∷ others) others) (filter-same p q same rest)

group-same : (rows : List RowFacts) (a b : RowFacts) → is_level a b ≡ true → group_of rows a ≡ group_of rows b
group-same rows a b level = ap (map (λ (r : RowFacts). r.start)) (filter-same (is_level a) (is_level b) (λ x. level_equiv.congr a b x level) rows)

some-either : (t : Bool) (x y : ℕ) → is_some (if t then Some x else None) ≡ is_some (if t then Some y else None)
some-either true x y = refl
some-either false x y = refl

direct-same : (sheet : Sheet) (group : List ℕ) (a b : ℕ) → is_some (direct_in sheet group a) ≡ is_some (direct_in sheet group b)
direct-same sheet group a b = some-either (nat_lt 1 (length group) && have_all_met sheet group) (points_among sheet group a) (points_among sheet group b)

pub direct_together : (sheet : Sheet) (rows : List RowFacts) (a b : RowFacts) → is_level a b ≡ true
    → is_some (value_of sheet rows Direct a) ≡ is_some (value_of sheet rows Direct b)
direct_together sheet rows a b level =
    ap (λ (group : List ℕ). is_some (direct_in sheet group a.start)) (group-same rows a b level)
    ∙ direct-same sheet (group_of rows b) a.start b.start
