-- What the contracts of the amps cite beside the paper's own definitions.
pub mod Positive
