-- What the program's functions ask of the window and of the state.
pub mod Session
