pub mod PutLaws
pub mod FillLaws
pub mod EachLaws
