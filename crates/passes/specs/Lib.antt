-- One step of each pass, as the contracts cite it.
pub mod Classed
