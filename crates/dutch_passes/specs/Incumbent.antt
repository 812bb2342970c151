-- The best candidate so far, while a bracket's candidates are looked at one by one.
use Rattle.std.specs.Prelude.{Bool, true, Option, Some, None, option_map}
use Rattle.dutch_arrangements.specs.Prelude.{Arrangement}
use Rattle.dutch_bracket.specs.Prelude.{Context, Quality, is_better, quality_in}
use Rattle.dutch_choice.specs.declared.finder.Best.{Best}
use Rattle.dutch_choice.specs.Prelude.{HasItsQuality}

-- the lists of the incumbent, if there is one
abbrev pub incumbent_lists : Option Best → Option Arrangement
incumbent_lists None = None
incumbent_lists (Some best) = Some best.candidate.lists

-- a quality is better than that of the incumbent, if there is one
abbrev pub wins : Quality → Option Best → Bool
wins quality None = true
wins quality (Some best) = is_better quality (quality_in best.quality)

-- the incumbent has its downfloaters and its quality
abbrev pub IsIncumbent : Context → Option Best → Type 0
IsIncumbent context None = Unit {0}
IsIncumbent context (Some best) = HasItsQuality context best

-- the quality of the incumbent, if there is one
abbrev pub incumbent_in : Option Best → Option Quality
incumbent_in incumbent = option_map (λ best. quality_in best.quality) incumbent
