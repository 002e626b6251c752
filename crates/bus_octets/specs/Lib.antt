-- A bus as octets: numbers (Numbers), the layout (Layout), and that what is stored is read back
-- (Laws).
pub mod Numbers
pub mod Layout
pub mod Laws
