pub mod ShownImages
