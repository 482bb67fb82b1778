-- Walk says what both traces, which are open calls, rest on: Rules 7.1.
pub mod Walk
