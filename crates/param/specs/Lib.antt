-- Param says what both traces, which are open calls, rest on: Rules 6.1 and 6.2. Nothing serves inner contracts only.
pub mod Param
