pub mod Below
pub mod Words
pub mod Sizes
pub mod Common
pub mod Node
pub mod Vectors
pub mod VectorsNode
pub mod Settled
