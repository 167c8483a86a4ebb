pub mod Blanks
pub mod Examples
pub mod Fitting
pub mod Lines
pub mod Parts
pub mod Printed
pub mod SheetPage
