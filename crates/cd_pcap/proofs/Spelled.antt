-- A record that is spelled is read as the packet that it means.
use Rattle.std.proofs.Common.{◌≡◌, ℕ, ◌+◌, ◌^◌, ◌<◌, List, [], ◌∷◌, ◌++◌, length, take, drop, refl, ap, sym, ◌∙◌, arith, append_assoc, length-append}
use Rattle.std.specs.Int.{w32}
use Rattle.std.proofs.lemmas.List.{take_at, drop_at, drop-drop}
use Rattle.std.proofs.lemmas.Nat.{from_le_bytes-to_le_bytes_4, from_be_bytes-to_be_bytes_4}
use Rattle.cd_bytes.specs.Numbers.{be32, le32, bytes_of, number32_at}
use Rattle.cd_bytes.specs.declared.order.Order.{Order}
use Rattle.cd_bytes.specs.declared.order.Order.TheVariants.{Big, Little}
use Rattle.cd_packet.specs.Capture.{after}
use Rattle.cd_pcap.specs.Pcap.{Form, records, packet_of_parts, captured_length, packet_at}
use Rattle.cd_pcap.specs.Spelled.{RawRecord, record_header, spelling_of, packet_of_raw}
use Rattle.cd_pcap.specs.Laws.{RecordsAreRead}
use Rattle.cd_pcap.proofs.Records.{records-whole}

-- sixteen bytes of four numbers, and what follows them
abbrev pub four : Order → ℕ → ℕ → ℕ → ℕ → List ℕ → List ℕ
four order a b c d more =
    bytes_of w32 order a ++ (bytes_of w32 order b ++ (bytes_of w32 order c ++ (bytes_of w32 order d ++ more)))

-- each of the four numbers is read again
pub first : (order : Order) (a b c d : ℕ) (more : List ℕ) → a < 2 ^ 32 →
    number32_at order 0 (four order a b c d more) ≡ a
unfolding le32 be32
first Big a b c d more small = omega (arith, from_be_bytes-to_be_bytes_4 a small)
first Little a b c d more small = omega (arith, from_le_bytes-to_le_bytes_4 a small)

pub second : (order : Order) (a b c d : ℕ) (more : List ℕ) → b < 2 ^ 32 →
    number32_at order 4 (four order a b c d more) ≡ b
unfolding le32 be32
second Big a b c d more small = omega (arith, from_be_bytes-to_be_bytes_4 b small)
second Little a b c d more small = omega (arith, from_le_bytes-to_le_bytes_4 b small)

pub third : (order : Order) (a b c d : ℕ) (more : List ℕ) → c < 2 ^ 32 →
    number32_at order 8 (four order a b c d more) ≡ c
unfolding le32 be32
third Big a b c d more small = omega (arith, from_be_bytes-to_be_bytes_4 c small)
third Little a b c d more small = omega (arith, from_le_bytes-to_le_bytes_4 c small)

pub fourth : (order : Order) (a b c d : ℕ) (more : List ℕ) → d < 2 ^ 32 →
    number32_at order 12 (four order a b c d more) ≡ d
unfolding le32 be32
fourth Big a b c d more small = omega (arith, from_be_bytes-to_be_bytes_4 d small)
fourth Little a b c d more small = omega (arith, from_le_bytes-to_le_bytes_4 d small)

-- what follows the four numbers, and how many bytes there are
pub after_four : (order : Order) (a b c d : ℕ) (more : List ℕ) → drop 16 (four order a b c d more) ≡ more
after_four Big a b c d more = refl
after_four Little a b c d more = refl

pub four_long : (order : Order) (a b c d : ℕ) (more : List ℕ) → length (four order a b c d more) ≡ 16 + length more
four_long Big a b c d more = omega arith
four_long Little a b c d more = omega arith

-- a record's header, and what follows it
pub header_four : (form : Form) (a b c d : ℕ) (more : List ℕ) →
    record_header form a b c d ++ more ≡ four form.order a b c d more
header_four form a b c d more = at_order form.order
  where
    at_order : (order : Order) →
        (bytes_of w32 order a ++ bytes_of w32 order b ++ bytes_of w32 order c ++ bytes_of w32 order d) ++ more ≡ four order a b c d more
    at_order Big = refl
    at_order Little = refl

-- a record that is spelled, and then any bytes
pub spelled_four : (form : Form) (r : RawRecord) (rest : List ℕ) →
    spelling_of form r ++ rest
    ≡ four form.order r.seconds r.fraction (length r.captured) r.original (r.captured ++ rest)
spelled_four form r rest =
    append_assoc (record_header form r.seconds r.fraction (length r.captured) r.original) r.captured rest
    ∙ header_four form r.seconds r.fraction (length r.captured) r.original (r.captured ++ rest)

pub spelled_read : RecordsAreRead
spelled_read form link at r rest fits =
    let n : ℕ = length r.captured in
    let more : List ℕ = r.captured ++ rest in
    let bytes : List ℕ = four form.order r.seconds r.fraction n r.original more in
    let size : captured_length form bytes ≡ n =
    third form.order r.seconds r.fraction n r.original more (omega (arith, fits.captured)) in
    let len : length more ≡ n + length rest = length-append r.captured rest in
    let long : length bytes ≡ 16 + length more = four_long form.order r.seconds r.fraction n r.original more in
    let whole = records-whole form link at bytes (omega arith) (omega (arith, fits.captured)) (omega (arith, len)) in
    let follows : drop 16 bytes ≡ more = after_four form.order r.seconds r.fraction n r.original more in
    let front : take (captured_length form bytes) (drop 16 bytes) ≡ r.captured =
    ap (λ k. take k (drop 16 bytes)) size ∙ ap (λ t. take n t) follows ∙ take_at r.captured rest n refl in
    let back : drop (16 + captured_length form bytes) bytes ≡ rest =
    ap (λ k. drop (16 + k) bytes) size ∙ sym (drop-drop n 16 bytes) ∙ ap (λ t. drop n t) follows
    ∙ drop_at r.captured rest n refl in
    let packet : packet_at form link at bytes ≡ packet_of_raw form link at r =
    ap (λ k. packet_of_parts form link at k (number32_at form.order 4 bytes) (number32_at form.order 12 bytes)
    (take (captured_length form bytes) (drop 16 bytes)))
    (first form.order r.seconds r.fraction n r.original more fits.seconds)
    ∙ ap (λ k. packet_of_parts form link at r.seconds k (number32_at form.order 12 bytes)
    (take (captured_length form bytes) (drop 16 bytes)))
    (second form.order r.seconds r.fraction n r.original more fits.fraction)
    ∙ ap (λ k. packet_of_parts form link at r.seconds r.fraction k (take (captured_length form bytes) (drop 16 bytes)))
    (fourth form.order r.seconds r.fraction n r.original more fits.original)
    ∙ ap (λ t. packet_of_parts form link at r.seconds r.fraction r.original t) front in
    ap (λ t. records form link 0 at t) (spelled_four form r rest) ∙ whole
    ∙ ap (λ p. after (p ∷ []) (records form link 0 (at + (16 + captured_length form bytes))
    (drop (16 + captured_length form bytes) bytes))) packet
    ∙ ap (λ k. after (packet_of_raw form link at r ∷ []) (records form link 0 (at + (16 + k))
    (drop (16 + captured_length form bytes) bytes))) size
    ∙ ap (λ t. after (packet_of_raw form link at r ∷ []) (records form link 0 (at + (16 + n)) t)) back
