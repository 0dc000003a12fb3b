pub mod First
pub mod Grid
pub mod Table
