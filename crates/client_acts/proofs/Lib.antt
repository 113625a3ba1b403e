mod Placing
mod Staying
mod Acting
mod Adding
mod Taking
