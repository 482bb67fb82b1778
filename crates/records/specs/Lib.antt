-- Records says what the contract of the open call, `trace_samples`, cites: Rules 6.1.
pub mod Records
