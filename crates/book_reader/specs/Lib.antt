-- What a whole book says (Book), what a call on lent text answers (Step), the rest of a text moved
-- to the front (Rest), a book handed over in parts (Parts), and what an answer says of the book
-- (Laws).
pub mod Book
pub mod Step
pub mod Rest
pub mod Parts
pub mod Laws
