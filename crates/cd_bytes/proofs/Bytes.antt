-- Lists of bytes.
use Rattle.std.proofs.Common.{ℕ, ◌<◌, List, All, length, get_or, lit<, inl, inr}
use Rattle.std.proofs.lemmas.Bool.{cases_lt}
use Rattle.std.proofs.lemmas.List.{get_or_past}

-- Where all are below 256, what is read at any index is.
pub small_everywhere : (bytes : List ℕ) → All (λ byte. byte < 256) bytes → (i : ℕ) → get_or bytes i 0 < 256
small_everywhere bytes all i =
    elim (cases_lt i (length bytes)) [ inl within ↦ all i 0 within | inr past ↦ rw (get_or_past bytes i 0 past) (lit< tt) ]
