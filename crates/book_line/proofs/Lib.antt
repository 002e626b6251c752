-- Numbers of a line, the table of events, the forms of values, the judging of a line, octets laid into room, what a value's octets are;
-- and lines of each kind, computed.
pub mod Numbers
pub mod EventTable
pub mod Forms
pub mod Judging
pub mod Laying
pub mod Values
pub mod Examples
