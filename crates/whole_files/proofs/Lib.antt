pub mod NameLaws
