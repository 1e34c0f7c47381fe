-- The kinds `odd` and `even`: the answers and their marks, admission, and the distance from the exact value.
pub mod OddEven
pub mod Exact
pub mod Distance
