pub mod Splice
pub mod Totals
pub mod Demand
