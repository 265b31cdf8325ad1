pub mod PartLaws
pub mod DefaultRowLaws
pub mod DefaultForms
