pub mod FieldTermLaws
