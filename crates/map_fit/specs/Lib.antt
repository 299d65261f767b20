pub mod Fit
pub mod Free
pub mod Lists
