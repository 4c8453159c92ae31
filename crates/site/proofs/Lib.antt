pub mod SoilLaws
