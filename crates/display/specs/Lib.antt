-- What the contracts of display cite: symbols that stand in work, and what is said of their printed forms.
pub mod Standing
pub mod Follow
pub mod Form
pub mod Window
pub mod Shape
pub mod Sink
