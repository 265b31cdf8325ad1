pub mod AskedFile
