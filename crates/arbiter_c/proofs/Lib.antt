mod WordLemmas
mod RunLemmas
mod CallLemmas
