-- What the bytes at an offset begin.
use Rattle.std.specs.Prelude.{◌≡◌, ℕ, ◌+◌, ◌<◌, ◌≤◌, List, length, take, drop, slice_index}
use Rattle.cd_name.specs.declared.piece.Piece.{Piece}
use Rattle.cd_name.specs.declared.piece.Piece.TheVariants as piece
use Rattle.cd_name.specs.Names.{root_reading, break_reading, label_then_reading, pointer_then_reading, reading_at}

-- a piece stands at an offset, in a run that begins at start
abbrev pub IsPieceAt : List ℕ → ℕ → ℕ → Piece → Type 0
IsPieceAt p start at piece.Root = (at < length p) × (reading_at p start at ≡ root_reading (at + 1))
IsPieceAt p start at (piece.Label n) = (0 < n) × (n ≤ 63) × (at + n < length p) × (slice_index p at ≡ n) × (reading_at p start at ≡ label_then_reading (take (n + 1) (drop at p)) (reading_at p start (at + (n + 1))))
IsPieceAt p start at (piece.Pointer t) = (t < start) × (at + 1 < length p) × (reading_at p start at ≡ pointer_then_reading (at + 2) (reading_at p t t))
IsPieceAt p start at (piece.Break why) = (next : ℕ) × (reading_at p start at ≡ break_reading next why)
