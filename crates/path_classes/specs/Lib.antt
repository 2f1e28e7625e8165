pub mod Classes
pub mod InnerKeys
