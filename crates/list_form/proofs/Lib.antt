mod Zeros
mod FormChecks
mod Heads
