pub mod Singles
pub mod SinglesFollow
