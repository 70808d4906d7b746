-- The record types whose RDATA holds names, and where in it: so many bytes, then so many names, then so many bytes.
use Rattle.std.specs.Prelude.{ℕ, Bool, true, false, ◌||◌, nat_eq, if◌then◌else◌, Option, Some, None}
use Rattle.cd_message.specs.declared.shape.Shape.{Shape}

-- bytes, names and bytes; a message that is written compresses the names or not
abbrev pub shape : ℕ → ℕ → ℕ → Bool → Option Shape
shape before names after compressed = Some (record { before = before; names = names; after = after; compressed = compressed })

-- NS, MD, MF, CNAME, MB, MG, MR and PTR hold one name (RFC 1035 3.3)
abbrev pub holds_name : ℕ → Bool
holds_name t = nat_eq t 2 || nat_eq t 3 || nat_eq t 4 || nat_eq t 5 || nat_eq t 7 || nat_eq t 8 || nat_eq t 9 || nat_eq t 12

-- The shape of a type's RDATA: SOA is 6, MINFO 14 and MX 15 (RFC 1035 3.3), RP is 17 (RFC 1183 2.2), AFSDB 18 and RT
-- 21 (RFC 1183 1, 3.3), PX is 26 (RFC 2163 4), SRV is 33 (RFC 2782). Names are compressed only in the types of RFC
-- 1035 (RFC 3597 4).
unfoldable pub shape_of : ℕ → Option Shape
shape_of t =
    if holds_name t then shape 0 1 0 true
    else (if nat_eq t 6 then shape 0 2 20 true
    else (if nat_eq t 14 then shape 0 2 0 true
    else (if nat_eq t 15 then shape 2 1 0 true
    else (if nat_eq t 17 then shape 0 2 0 false
    else (if nat_eq t 18 || nat_eq t 21 then shape 2 1 0 false
    else (if nat_eq t 26 then shape 2 2 0 false
    else (if nat_eq t 33 then shape 6 1 0 false
    else None)))))))
