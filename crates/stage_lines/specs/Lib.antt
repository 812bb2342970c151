-- What the contracts of stage_lines name: the lines with which `explain` tells of brackets, barriers, and what was asked instead.
pub mod StageItems
pub mod ExplainTexts
pub mod BarrierTexts
pub mod InsteadTexts
