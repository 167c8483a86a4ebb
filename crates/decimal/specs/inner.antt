pub mod FrontNumber
