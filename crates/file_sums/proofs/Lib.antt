mod Further
mod Heads
mod Numbers
mod Standing
