-- The paper (01) as definitions, one file to a heading or a half of one, in its order.
-- 'Files'
pub mod Bytes
pub mod Label
-- 'Record kinds'
pub mod Kind
pub mod File
-- 'Sums'
pub mod Chain
-- 'The four faults at board k'
pub mod Fault
pub mod Phase
pub mod Amps
-- 'What the caller gets'
pub mod Rule
pub mod Rows
pub mod Refusal
pub mod Answer
-- 02, R-1: 'Write the network file'
pub mod Write
-- 02, R-4: 'Why is there no earth return?'
pub mod Return
-- what contracts ask of impedances and of numbers
pub mod Bounds
