-- Levels keep what a tree derives.
pub mod LevelFacts
pub mod LevelForms
pub mod LevelItems
pub mod LevelPhrases
pub mod LevelMeaning
pub mod LevelNames
pub mod LevelledResolved
pub mod Again
pub mod Checked
pub mod BeforeMacros
