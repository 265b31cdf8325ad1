pub mod ShapeColumn
pub mod OtherColumns
pub mod ProblemLaws
pub mod AcceptedProblem
