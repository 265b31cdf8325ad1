pub mod RowShapes
