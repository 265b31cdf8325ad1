pub mod OutcomeLaws
pub mod Budgets
