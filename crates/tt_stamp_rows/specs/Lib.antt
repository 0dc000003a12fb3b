pub mod Answer
pub mod Asked
pub mod Call
pub mod Grid
pub mod Table
