pub mod OnePeriods
