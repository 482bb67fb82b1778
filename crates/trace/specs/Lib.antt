-- Curve, Drawing, Trace, Demand and Numbers say what the contract of the open call, `trace_flat`, cites: Rules 6.1, 7,
-- 8, 11 and 5.5. Table has known results, by computation; those of all layers are in proofs/Known, since a wrong
-- definition (must-fail) could not be tried with them here. `param_at` and `SamplesFit` of Curve serve inner contracts
-- only.
pub mod Curve
pub mod Drawing
pub mod Trace
pub mod Demand
pub mod Numbers
pub mod Table
