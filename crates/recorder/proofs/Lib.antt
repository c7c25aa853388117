pub mod Apart
pub mod ChangeWays
pub mod Ready
pub mod ReceiveWays
pub mod SendWays
pub mod Unique
