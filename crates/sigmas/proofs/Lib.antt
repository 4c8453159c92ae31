pub mod LinearSite
