pub mod SplitTests
