-- Open calls cite Consts, Sign, Order, Whole and Cast. Table has known results, and no contract cites it.
pub mod Consts
pub mod Sign
pub mod Order
pub mod Whole
pub mod Cast
pub mod Table
