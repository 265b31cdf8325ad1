pub mod VerdictOn
