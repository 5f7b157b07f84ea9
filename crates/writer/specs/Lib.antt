-- What the code writes, in the words of the rules.
pub mod Writing
