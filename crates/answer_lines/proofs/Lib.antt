mod Given
mod Refused
