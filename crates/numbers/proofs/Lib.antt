pub mod Decks
pub mod Programs
pub mod Starred
pub mod WrongMachine
