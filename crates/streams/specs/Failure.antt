-- Calls: calls of the system that fail: errno, which are tried again, and the line on standard
-- error.
-- Interface: `errno_of`, `errno_in`, `is_tried_again`, `failure_line`. Assumes nothing.
use Rattle.std.specs.Prelude.{Bool, ◌||◌, List, [], ◌∷◌, ◌++◌, ◌≡◌, refl, ℕ, eqb, ℤ, pos, negsuc, Option, Some, None}
use Rattle.notes_and_cells.specs.Names.{ascii}
use Rattle.text.specs.Text.{LF}
use Rattle.note_text.specs.NoteText.{decimal, decimal_in}

-- errno as a number: the system gives none below 0
abbrev pub errno_of : ℤ → ℕ
errno_of (pos n) = n
errno_of (negsuc n) = 0

-- errno of an error, 0 where it has none
abbrev pub errno_in : Option ℤ → ℕ
errno_in (Some errno) = errno_of errno
errno_in None = 0

-- A signal has interrupted the call (EINTR, 4), or nothing could be moved yet (EAGAIN, 11).
abbrev pub is_tried_again : ℕ → Bool
is_tried_again errno = eqb errno 11 || eqb errno 4

-- What has failed, a colon, a space, errno in decimal.
unfoldable pub failure_line : List ℕ → ℕ → List ℕ
failure_line what errno = what ++ (ascii ": " ++ (decimal errno ++ (LF ∷ [])))

-- no space is left on the device
pub example_failure :
    failure_line (ascii "bench: the report could not be written") 28
    ≡ ascii "bench: the report could not be written: 28" ++ (LF ∷ [])
unfolding failure_line decimal decimal_in
example_failure = refl
