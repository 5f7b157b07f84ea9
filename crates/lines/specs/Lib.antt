-- What the functions leave in the buffer that they are lent.
pub mod Text
pub mod Lines
