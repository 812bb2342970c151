-- What the contracts of report_notes name: what looks like a mistake, and the places in front of it; and what stands where a report is refused.
pub mod Doubles
pub mod Games
pub mod Noted
pub mod PlayerRounds
pub mod Ratings
pub mod Rounds
pub mod Notes
pub mod NoteOf
pub mod Places
pub mod RefusalNotes
