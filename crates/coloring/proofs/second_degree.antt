-- The starting colours: laws of the definition.
pub mod StartingLaws
