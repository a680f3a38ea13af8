-- The laws behind the program's answer, and the theorems about it.
pub mod Fitting
pub mod AfterGroup
pub mod AfterRead
pub mod AfterThin
pub mod Spaces
pub mod Theorems
pub mod ThinTheorems
pub mod Letters
pub mod Refusing
pub mod Main
