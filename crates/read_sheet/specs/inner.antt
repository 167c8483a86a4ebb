pub mod AtPlace
pub mod FormAtPlace
pub mod HeadsAtPlace
pub mod RowsAtPlace
pub mod Values
