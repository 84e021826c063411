-- Laws on colour switching: colours stored as bytes.
pub mod DrawLaws
