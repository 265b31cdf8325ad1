pub mod CallerLimits
pub mod Decides
pub mod LoaderCases
