-- Table 4.2 with a data format, and SAT of Table 4.1, on one element.
pub mod Places
pub mod Shifts
pub mod Bits
