-- The fixed-point multiplies of Table 4.7 on one element.
pub mod Fixed
pub mod Parts
pub mod Stands
