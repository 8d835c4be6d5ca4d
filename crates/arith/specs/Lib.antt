-- Table 4.1 but SAT, and the compares of Table 4.8, on one element.
pub mod Arith
