pub mod OpenWays
