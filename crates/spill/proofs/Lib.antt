pub mod SpillLaws
