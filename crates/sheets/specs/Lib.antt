-- What the contracts of sheets name: the page of a tournament, section by section.
pub mod Texts
pub mod Persons
pub mod Parts
pub mod HeadLines
pub mod Orders
pub mod Rounds
pub mod NameLists
pub mod StandingsParts
pub mod PlayerLists
pub mod Pages
pub mod Steps
pub mod Prelude
