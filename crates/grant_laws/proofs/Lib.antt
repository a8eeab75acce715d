mod Held
mod Given
