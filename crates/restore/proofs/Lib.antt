pub mod TypeLaws
pub mod HeadLaws
pub mod AskLaws
pub mod BoundLaws
pub mod FileLaws
pub mod CallLaws
pub mod ScratchLaws
pub mod Corollaries
