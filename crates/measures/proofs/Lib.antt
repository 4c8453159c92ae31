pub mod FilledRows
