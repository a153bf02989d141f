pub mod NilHeld
