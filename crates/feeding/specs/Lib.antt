-- What the code of the steps keeps beside a state while a value is handed over.
pub mod Rooms
