-- Theorems about what a call returns and leaves. None needs believing.
-- what holds of every accepted question besides: numbers that fit, the amps
pub mod Given
pub mod Promised
pub mod Ready
pub mod Outcomes
