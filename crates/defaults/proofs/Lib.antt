pub mod SettledLaws
pub mod RoundLaws
