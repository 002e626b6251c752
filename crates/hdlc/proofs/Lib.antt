-- Theorems about images (ImageLaws, PrefixLaws) and about the reader over raw bits (ReadingLaws, RawLaws); and lemmas.
pub mod OnesLaws
pub mod OctetLaws
pub mod ImageLaws
pub mod ReadingLaws
pub mod RawLaws
pub mod PrefixLaws
