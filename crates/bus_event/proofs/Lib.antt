-- Proofs: the images among the eight lent (ImagePlaces), the returns of the functions (Returns), the laws (Laws).
pub mod ImagePlaces
pub mod Returns
pub mod Laws
