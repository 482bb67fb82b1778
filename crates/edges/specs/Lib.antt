-- Near, Cell and Events say what both traces, which are open calls, rest on: Rules 6.2 to 6.4. Table has the known
-- results of section 6, by computation. Side and Order serve inner contracts only, and so do `in_cell` of Cell,
-- `pushed` of Events and what Events says of every event.
pub mod Near
pub mod Cell
pub mod Events
pub mod Side
pub mod Order
pub mod Table
