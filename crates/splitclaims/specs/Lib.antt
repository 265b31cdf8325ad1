pub mod SplitClaims
