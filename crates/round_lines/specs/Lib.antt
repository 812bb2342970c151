-- What the contracts of round_lines name: the texts of rounds, brackets, candidates, items, values and boards, and listings.
pub mod Tellings
pub mod CandidateTexts
pub mod Listings
pub mod ItemTexts
pub mod PreferenceTexts
pub mod RoundTexts
pub mod Pieces
pub mod ValueTexts
