pub mod ClaimTests
pub mod ClaimsSame
