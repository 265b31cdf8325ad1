pub mod ClassRow
