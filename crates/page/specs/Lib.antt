-- Both traces, which are open calls, rest on Moves, on the first two parts of Page (the lent lists and how many points
-- they can hold, and the points with their numbers: Rules 7.3, 7.4, 7.5 and 8.1) and on `lists_of` and `same_lists` of
-- Sheets. The rest serves inner contracts only.
pub mod Moves
pub mod Page
pub mod Sheets
