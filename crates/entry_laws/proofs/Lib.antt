pub mod CellsPut
pub mod OneEntry
pub mod AllEntries
pub mod TheRest
pub mod Answered
pub mod AcceptedEntries
pub mod WhatStands
pub mod Commute
