-- The lengths of the parts (Lengths), the terminals as octets (Laying), and the laws (Exact, RoundTrip, Reserve).
pub mod Lengths
pub mod Laying
pub mod Exact
pub mod RoundTrip
pub mod Reserve
