pub mod OneMeasures
