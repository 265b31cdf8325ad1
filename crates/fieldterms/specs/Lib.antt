pub mod FieldTerms
