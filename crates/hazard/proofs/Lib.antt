-- Tests, searches, cubes and points.
pub mod Test
pub mod Search
pub mod Options
pub mod Counting
pub mod Digit
pub mod Cube
pub mod Point
pub mod Meaning
-- The input rules, and the sets that they let through.
pub mod Rules
pub mod Numbers
pub mod Order
pub mod Sets
pub mod Burst
pub mod Few
pub mod Monotone
pub mod Source
pub mod Reading
-- Dhf-implicants, growth, expansion, choice.
pub mod Implicant
pub mod Growth
pub mod Added
pub mod Expansion
pub mod Network
pub mod Sequence
pub mod Existence
pub mod Single
pub mod Choice
-- Runs of wires, and the theorem.
pub mod Wire
pub mod Trace
pub mod View
pub mod Moment
pub mod Pulse
pub mod Label
pub mod One
pub mod Transition
pub mod Covers
pub mod Theorem
pub mod Verdict
pub mod Blocking
pub mod Minimal
pub mod Promise
pub mod Never
pub mod Classical
-- What shows a fault.
pub mod Rest
pub mod Shown
pub mod Bounds
-- The set pieces.
pub mod Essential
pub mod Pieces
pub mod Replayed
pub mod Accepted
pub mod Examples
