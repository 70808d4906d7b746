-- The Internet checksum (RFC 1071).
use Rattle.std.specs.Prelude.{ℕ, ◌+◌, ◌-◌, ◌*◌, ◌%◌, ◌==◌, List, [], ◌∷◌, sum, if◌then◌else◌}

-- the 16-bit big-endian words of some bytes, where an odd last byte is followed by 0
abbrev pub words : List ℕ → List ℕ
words [] = []
words (last ∷ []) = 0x100 * last ∷ []
words (high ∷ low ∷ rest) = (0x100 * high + low) ∷ words rest

-- a sum with end-around carry: the number of 16 bits that is it modulo 0xffff, and 0 only for 0
abbrev pub carried : ℕ → ℕ
carried n = if n == 0 then 0 else (n - 1) % 0xffff + 1

-- the complement of the sum of the words, with end-around carry
abbrev pub checksum_of : List ℕ → ℕ
checksum_of bytes = 0xffff - carried (sum (words bytes))
