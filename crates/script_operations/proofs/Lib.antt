mod Tasks
mod Staying
mod Leading
mod Ended
mod Named
mod Answering
