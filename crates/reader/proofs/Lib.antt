pub mod Examples
pub mod Places
pub mod SheetShown
pub mod ShownLines
