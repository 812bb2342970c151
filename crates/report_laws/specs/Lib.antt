-- What the laws of report_laws name: boards of a round, and who stands on them, what holds of all standings, reports whose next rounds are paired from the same, and
-- games without a result, in notes and in reports.
pub mod Boards
pub mod EachOnOne
pub mod Fields
pub mod Notes
pub mod Standings
