mod Growing
mod Noting
