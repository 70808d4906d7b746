-- What a hasher computes that gathers single bytes.
use Rattle.std.specs.Prelude.{ℕ, ◌+◌, ◌*◌, ◌%◌, ◌^◌, List, length, nat_eq, nat_lt, slice_index, bit_or, if◌then◌else◌}
use Rattle.std.specs.Hash.FoldHasher as folding
use Rattle.std.specs.Int.{to_le_bytes, w64}
use Rattle.cd_hash.specs.declared.gathering.ByteHasher.{ByteHasher}

-- one byte more: eight of them are hashed at once
abbrev pub with_byte : ByteHasher → ℕ → ByteHasher
with_byte h byte =
    let word = bit_or ((h.word * 2 ^ 8) % 2 ^ 64) byte in
    if nat_lt h.count 7 then record h { word = word; count = h.count + 1 }
    else record { inner = folding.write h.inner (to_le_bytes w64 word); word = 0; count = 0 }

-- the state after one `write`: a single byte is gathered, and what is longer is hashed at once
abbrev pub write : ByteHasher → List ℕ → ByteHasher
write h bytes =
    if nat_eq (length bytes) 1 then with_byte h (slice_index bytes 0)
    else record h { inner = folding.write h.inner bytes }

-- what `finish` answers: the hash with the bytes that were gathered
abbrev pub finish : ByteHasher → ℕ
finish h = folding.finish (folding.write h.inner (to_le_bytes w64 h.word))
