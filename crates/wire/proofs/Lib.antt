-- Numbers of two and four bytes, and words compared; and what callers know of a list of zeros.
mod Numbers
mod Words
pub mod Zeros
