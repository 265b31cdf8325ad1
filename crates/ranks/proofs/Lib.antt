pub mod Rounds
pub mod RankLaws
pub mod CycleLaws
