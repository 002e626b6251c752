-- Laws: what holds of the frame reader: the statements, each a type. `proofs/Laws.antt` proves each
-- under the same name in small letters.
-- Interface: none but for laws and proofs. Assumes nothing.
use Rattle.std.specs.Prelude.{◌≡◌, true, false, ◌↔◌, List, ℕ, ◌<◌, Result, Ok, Err}
use Rattle.refusals.specs.declared.Refusal.{Refusal}
use Rattle.refusals.specs.declared.Refusal.TheVariants.{WrongSlice, NoFrame}
use Rattle.symbols.specs.Symbols.{is_line}
use Rattle.frame.specs.Down.{down_line}
use Rattle.frame.specs.Up.{up_line}
use Rattle.frame.specs.declared.fields.DownFields.{DownFields}
use Rattle.frame.specs.declared.fields.UpFields.{UpFields}
use Rattle.frame_reader.specs.Read.{down_read, up_read}

-- The frame reader (document 01, "The line"; refusals 2 and 10), for fields F that `write` writes
-- and that are good, and the reader `read`.
module _ {F : Type 0} (Good : F → Type 0) (write : F → List ℕ) (read : List ℕ → Result F Refusal) where
  -- Reading what was written gives the fields.
  abbrev pub RoundTrip : Type 0
  RoundTrip = (f : F) → Good f → read (write f) ≡ Ok f

  -- Whatever is accepted is the writing of the fields given, and these are good.
  abbrev pub Exact : Type 0
  Exact = (l : List ℕ) (f : F) → read l ≡ Ok f → Good f × (l ≡ write f)

  -- A line gives 10 exactly where no fields are written as it.
  abbrev pub Ten : Type 0
  Ten = (l : List ℕ) → is_line l ≡ true → (read l ≡ Err NoFrame) ↔ ((f : F) → Good f → l ≡ write f → ⊥)

  -- What is no line gives 2.
  abbrev pub Two : Type 0
  Two = (l : List ℕ) → is_line l ≡ false → read l ≡ Err WrongSlice

-- The four B fields are octets.
pub record DownGood (f : DownFields) : Type 0 where
  pub b1first : f.b1first < 256
  pub b2first : f.b2first < 256
  pub b1second : f.b1second < 256
  pub b2second : f.b2second < 256

pub record UpGood (f : UpFields) : Type 0 where
  pub b1first : f.b1first < 256
  pub b2first : f.b2first < 256
  pub b1second : f.b1second < 256
  pub b2second : f.b2second < 256

abbrev pub RoundTripDown : Type 0
RoundTripDown = RoundTrip DownGood down_line down_read

abbrev pub RoundTripUp : Type 0
RoundTripUp = RoundTrip UpGood up_line up_read

abbrev pub ExactDown : Type 0
ExactDown = Exact DownGood down_line down_read

abbrev pub ExactUp : Type 0
ExactUp = Exact UpGood up_line up_read

abbrev pub TenDown : Type 0
TenDown = Ten DownGood down_line down_read

abbrev pub TenUp : Type 0
TenUp = Ten UpGood up_line up_read

abbrev pub TwoDown : Type 0
TwoDown = Two DownGood down_line down_read

abbrev pub TwoUp : Type 0
TwoUp = Two UpGood up_line up_read
