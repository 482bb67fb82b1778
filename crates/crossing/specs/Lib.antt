-- Crossing says what both traces, which are open calls, rest on: Rules 7.2. Table has the known results of 7.2, by
-- computation.
pub mod Crossing
pub mod Table
