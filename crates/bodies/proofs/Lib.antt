mod Isolation
mod Opened
