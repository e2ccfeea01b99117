-- Laws of the state's arrays.
mod Ends
mod Turning
