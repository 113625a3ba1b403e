mod Known
mod Saying
