pub mod Fits
pub mod LessRoom
pub mod Units
pub mod Taking
pub mod Giving
pub mod Taken
