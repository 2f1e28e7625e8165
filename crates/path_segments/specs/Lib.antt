pub mod Join
pub mod InnerJoin
pub mod Cases
