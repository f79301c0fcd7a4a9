-- what is printed
pub mod Text
-- the same of the numbers as they lie in the answer buffer
pub mod Lying
