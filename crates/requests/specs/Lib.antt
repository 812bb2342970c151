-- What the contracts of requests name: the command line, its options and keys, and what its words ask for.
pub mod CommandLine
pub mod Words
pub mod Keys
pub mod KeySteps
pub mod Options
pub mod EntryWords
pub mod OneCommand
pub mod Prelude
