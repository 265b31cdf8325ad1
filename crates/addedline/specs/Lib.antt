pub mod LineRead
