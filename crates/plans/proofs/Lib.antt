pub mod ClassLaws
pub mod CodeTests
pub mod CountLaws
pub mod Counting
pub mod FreshLaws
pub mod PlanCases
pub mod PlanLaws
