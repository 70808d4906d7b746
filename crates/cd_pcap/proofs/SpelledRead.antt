-- What some bytes spell is what is read of them.
use Rattle.std.proofs.Common.{◌≡◌, ℕ, Bool, true, false, nat_lt, nat_eq, if◌then◌else◌, All, ◌+◌, ◌%◌, ◌^◌, ◌<◌, ◌≤◌, List, [], ◌∷◌, ◌++◌, Some, None, length, take, drop, refl, ap, sym, ◌∙◌, arith, subst, inl, inr, append_assoc, length-append}
use Rattle.std.specs.Int.{w16, w32}
use Rattle.std.specs.List.{AllByRecursion}
use Rattle.std.proofs.lemmas.Bool.{le-ltb, ltb-false, eqb-true}
use Rattle.std.proofs.lemmas.List.{take-append-drop, drop_at, drop-drop}
use Rattle.std.proofs.lemmas.Nat.{from_le_bytes-to_le_bytes_2, from_be_bytes-to_be_bytes_2, from_le_bytes-to_le_bytes_4, from_be_bytes-to_be_bytes_4}
use Rattle.cd_bytes.specs.Numbers.{be16, le16, be32, le32, bytes_of, number16_at, number32_at}
use Rattle.cd_bytes.specs.declared.order.Order.{Order}
use Rattle.cd_bytes.specs.declared.order.Order.TheVariants.{Big, Little}
use Rattle.cd_bytes.proofs.Offsets.{number32_at-drop, number32-spelled}
use Rattle.cd_packet.specs.Capture.{Capture, ends, after}
use Rattle.cd_packet.specs.declared.packet.Packet.{Packet}
use Rattle.cd_packet.specs.declared.capture.EndState.{EndState}
use Rattle.cd_packet.specs.declared.capture.EndState.TheVariants.{Whole, Cut, Bad}
use Rattle.cd_packet.specs.declared.capture.BadCapture.{BadCapture}
use Rattle.cd_packet.specs.Magic.{has_magic}
use Rattle.cd_pcap.specs.Pcap.{Form, little_micros, big_micros, little_nanos, big_nanos, form_of, version, link_type, captured_length, records, pcap_in, pcap}
use Rattle.cd_pcap.specs.Spelled.{RawHeader, HeaderFits, RawRecord, Fits, magic_number, magic, header, spelling_of, spellings, packet_of_raw, packets_of, BeginsRecord, IsRest, SpellsRecords, SpellsAfterHeader, SpellsIn, IsRead, HasNoMagic}
use Rattle.cd_pcap.specs.Laws.{SpelledIsRead}
use Rattle.cd_pcap.proofs.Forms.{cases_form, form_told}
use Rattle.cd_pcap.proofs.Records.{records-none, records-short, records-refused, records-cut, pcap_in-short, pcap_in-version, pcap_in-records, pcap-magic, pcap-form}
use Rattle.cd_pcap.proofs.Spelled.{four, third, four_long, header_four, spelled_read}

-- a record's header that is spelled says its captured length
begins_read : (form : Form) (count : ℕ) (bytes : List ℕ) → BeginsRecord form count bytes →
    (captured_length form bytes ≡ count) × (16 ≤ length bytes)
begins_read form count bytes b =
    let is : bytes ≡ four form.order b.seconds b.fraction count b.original b.more =
    b.split ∙ header_four form b.seconds b.fraction count b.original b.more in (
      ap (λ t. number32_at form.order 8 t) is ∙ third form.order b.seconds b.fraction count b.original b.more b.fits,
      omega (arith, ap length is, four_long form.order b.seconds b.fraction count b.original b.more),
    )

-- what stands after the last whole record is read as the end that it is
rest_read : (form : Form) (link at : ℕ) (rest : List ℕ) (e : EndState) → IsRest form at rest e →
    records form link 0 at rest ≡ ends e
rest_read form link at rest Whole h = records-none form link at rest (ap length h)
rest_read form link at rest Cut (inl h) = records-short form link at rest h.0 h.1
rest_read form link at rest Cut (inr (count, small, begins, few)) =
    let k = begins_read form count rest begins in
    records-cut form link at rest k.1 (omega (arith, k.0)) (omega (arith, k.0))
rest_read form link at rest (Bad bad) (is, (count, large, begins)) =
    let k = begins_read form count rest begins in
    records-refused form link at rest k.1 (omega (arith, k.0)) ∙ ap (λ (b : BadCapture). ends (Bad b)) (sym is)

-- how many bytes a record has
pub spelled_long : (form : Form) (r : RawRecord) → length (spelling_of form r) ≡ 16 + length r.captured
spelled_long form r =
    ap length (header_four form r.seconds r.fraction (length r.captured) r.original r.captured)
    ∙ four_long form.order r.seconds r.fraction (length r.captured) r.original r.captured

-- so many packets and this end
abbrev holding : List Packet → EndState → Capture
holding packets e = record { packets = packets; end = e }

-- records that are spelled are read, and what stands after them
records_spelled : (form : Form) (link at : ℕ) (raws : List RawRecord) (rest : List ℕ) (e : EndState) →
    AllByRecursion Fits raws →
    IsRest form (at + length (spellings form raws)) rest e → records form link 0 at (spellings form raws ++ rest)
    ≡ holding (packets_of form link at raws) e
records_spelled form link at [] rest e fit h =
    let P : ℕ → Type 0 = λ n. IsRest form n rest e in
    let none : at + 0 ≡ at = omega arith in
    rest_read form link at rest e (subst P none h)
records_spelled form link at (r ∷ rs) rest e fit h =
    let next : ℕ = at + (16 + length r.captured) in
    let P : ℕ → Type 0 = λ n. IsRest form n rest e in
    let far : at + length (spellings form (r ∷ rs)) ≡ next + length (spellings form rs) =
    omega (arith, length-append (spelling_of form r) (spellings form rs), spelled_long form r) in
    let others = records_spelled form link next rs rest e fit.1 (subst P far h) in
    ap (λ t. records form link 0 at t) (append_assoc (spelling_of form r) (spellings form rs) rest)
    ∙ spelled_read form link at r (spellings form rs ++ rest) fit.0
    ∙ ap (λ c. after (packet_of_raw form link at r ∷ []) c) others

-- a capture with these packets and this end
held_in : (c : Capture) (packets : List Packet) → c.packets ≡ packets → holding packets c.end ≡ c
held_in c packets is = ap (λ ps. holding ps c.end) (sym is)

records_read : (form : Form) (link at : ℕ) (bytes : List ℕ) (c : Capture) → SpellsRecords form link at bytes c →
    records form link 0 at bytes ≡ c
records_read form link at bytes c s =
    ap (λ t. records form link 0 at t) s.split
    ∙ records_spelled form link at s.raws s.rest c.end s.fit s.end
    ∙ held_in c _ s.packets

-- the version after a magic is read again
version_read : (order : Order) (number version : ℕ) (more : List ℕ) → version < 2 ^ 16 →
    number16_at order 4 (bytes_of w32 order number ++ (bytes_of w16 order version ++ more)) ≡ version
unfolding be16 le16
version_read Big number version more small = omega (arith, from_be_bytes-to_be_bytes_2 version small)
version_read Little number version more small = omega (arith, from_le_bytes-to_le_bytes_2 version small)

-- a word is read again
word_read : (order : Order) (word : ℕ) (more : List ℕ) → word < 2 ^ 32 →
    number32_at order 0 (bytes_of w32 order word ++ more) ≡ word
unfolding be32 le32
word_read Big word more small = omega (arith, from_be_bytes-to_be_bytes_4 word small)
word_read Little word more small = omega (arith, from_le_bytes-to_le_bytes_4 word small)

-- how many bytes a number has
pub word_long : (order : Order) (word : ℕ) → length (bytes_of w32 order word) ≡ 4
word_long Big word = refl
word_long Little word = refl

pub half_long : (order : Order) (half : ℕ) → length (bytes_of w16 order half) ≡ 2
half_long Big half = refl
half_long Little half = refl

-- The header that is spelled, in front of its last word.
abbrev pub header_front : Form → RawHeader → List ℕ
header_front form h = magic form ++ bytes_of w16 form.order 2 ++ h.unread

front_long : (form : Form) (h : RawHeader) → HeaderFits h → length (header_front form h) ≡ 20
front_long form h fits =
    omega (
      arith,
      fits.unread,
      length-append (magic form ++ bytes_of w16 form.order 2) h.unread,
      length-append (magic form) (bytes_of w16 form.order 2),
      word_long form.order (magic_number form.unit),
      half_long form.order 2,
    )

-- The parts of a header may be joined in any way.
pub header_parts : (form : Form) (h : RawHeader) (more : List ℕ) →
    header form h ++ more ≡ header_front form h ++ (bytes_of w32 form.order h.link_word ++ more)
header_parts form h more = append_assoc (header_front form h) (bytes_of w32 form.order h.link_word) more

pub header_version : (form : Form) (h : RawHeader) (more : List ℕ) →
    header_front form h ++ more ≡ magic form ++ (bytes_of w16 form.order 2 ++ (h.unread ++ more))
header_version form h more =
    append_assoc (magic form ++ bytes_of w16 form.order 2) h.unread more
    ∙ append_assoc (magic form) (bytes_of w16 form.order 2) (h.unread ++ more)

-- a header that is spelled, and then records
headed_read : (form : Form) (bytes : List ℕ) (c : Capture) → SpellsAfterHeader form bytes c → pcap_in form bytes ≡ c
headed_read form bytes c s =
    let word : List ℕ = bytes_of w32 form.order s.raw.link_word in
    let front : List ℕ = header_front form s.raw in
    let size : length front ≡ 20 = front_long form s.raw s.fits in
    let is : bytes ≡ front ++ (word ++ s.more) = s.split ∙ header_parts form s.raw s.more in
    let two : version form bytes ≡ 2 =
    ap (λ t. number16_at form.order 4 t) (is ∙ header_version form s.raw (word ++ s.more))
    ∙ version_read form.order (magic_number form.unit) 2 (s.raw.unread ++ (word ++ s.more)) (omega arith) in
    let last : drop 20 bytes ≡ word ++ s.more = ap (λ t. drop 20 t) is ∙ drop_at front (word ++ s.more) 20 size in
    let link : link_type form bytes ≡ s.raw.link_word % 0x10000 =
    ap (λ n. n % 0x10000) (number32_at-drop form.order 20 bytes ∙ ap (λ t. number32_at form.order 0 t) last
    ∙ word_read form.order s.raw.link_word s.more s.fits.link_word) in
    let rest : drop 24 bytes ≡ s.more =
    sym (drop-drop 4 20 bytes) ∙ ap (λ t. drop 4 t) last
    ∙ drop_at word s.more 4 (word_long form.order s.raw.link_word) in
    let long : 24 ≤ length bytes =
    omega (
      arith,
      size,
      ap length is,
      length-append front
          (word ++ s.more),
      length-append word s.more,
      word_long form.order s.raw.link_word,
    ) in
    pcap_in-records form bytes long two
    ∙ ap (λ n. records form n 0 24 (drop 24 bytes)) link
    ∙ ap (λ t. records form (s.raw.link_word % 0x10000) 0 24 t) rest
    ∙ records_read form (s.raw.link_word % 0x10000) 24 s.more c s.records

-- what is spelled after a magic
form_read : (form : Form) (bytes : List ℕ) (c : Capture) → SpellsIn form bytes c → pcap_in form bytes ≡ c
form_read form bytes c (inl s) = headed_read form bytes c s
form_read form bytes c (inr (inl (cut, is))) =
    pcap_in-short form bytes (omega (
      arith,
      cut.few,
      ap length cut.split,
      length-append
          (magic form) cut.more,
      word_long form.order (magic_number form.unit),
    )) ∙ sym is
form_read form bytes c (inr (inr (other, is))) =
    let half : List ℕ = bytes_of w16 form.order other.version in
    let is_there : bytes ≡ magic form ++ (half ++ other.more) =
    other.split ∙ append_assoc (magic form) half other.more in
    let says : version form bytes ≡ other.version =
    ap (λ t. number16_at form.order 4 t) is_there
    ∙ version_read form.order (magic_number form.unit) other.version other.more other.fits in
    let long : 24 ≤ length bytes = omega (
      arith,
      other.many,
      ap length is_there,
      length-append (magic form) (half ++ other.more),
      length-append half other.more,
      word_long form.order (magic_number form.unit),
      half_long form.order other.version,
    ) in
    pcap_in-version form bytes long (λ two. other.other (sym says ∙ two)) ∙ sym is

-- the magic of microseconds in this order tells both
micros_front : (order : Order) (more : List ℕ) →
    let form : Form = record { order = order; unit = 1000 } in form_of (magic form ++ more) ≡ Some form
unfolding form_of has_magic le32
micros_front Big more = rw (le-ltb (length (magic big_micros ++ more)) 4 (omega arith)) refl
micros_front Little more = rw (le-ltb (length (magic little_micros ++ more)) 4 (omega arith)) refl

-- so does that of nanoseconds
nanos_front : (order : Order) (more : List ℕ) →
    let form : Form = record { order = order; unit = 1 } in form_of (magic form ++ more) ≡ Some form
unfolding form_of has_magic le32
nanos_front Big more = rw (le-ltb (length (magic big_nanos ++ more)) 4 (omega arith)) refl
nanos_front Little more = rw (le-ltb (length (magic little_nanos ++ more)) 4 (omega arith)) refl

-- the magic of a form that is read tells it
pub magic_front : (form : Form) (more : List ℕ) → IsRead form → form_of (magic form ++ more) ≡ Some form
magic_front form more (inl is) =
    let P : ℕ → Type 0 =
    λ u. let f : Form = record { order = form.order; unit = u } in form_of (magic f ++ more) ≡ Some f in
    subst P (sym is) (micros_front form.order more)
magic_front form more (inr is) =
    let P : ℕ → Type 0 =
    λ u. let f : Form = record { order = form.order; unit = u } in form_of (magic f ++ more) ≡ Some f in
    subst P (sym is) (nanos_front form.order more)

-- what is spelled is in one form
spelled_form : (form : Form) (bytes : List ℕ) → IsRead form → (more : List ℕ) → bytes ≡ magic form ++ more →
    pcap bytes ≡ pcap_in form bytes
spelled_form form bytes read more split = pcap-form form bytes (ap form_of split ∙ magic_front form more read)

-- each spelling begins with the magic
begins_magic : (form : Form) (bytes : List ℕ) (c : Capture) → SpellsIn form bytes c →
    (more : List ℕ) × (bytes ≡ magic form ++ more)
begins_magic form bytes c (inl s) = (
  bytes_of w16 form.order 2 ++ (s.raw.unread ++ (bytes_of w32 form.order s.raw.link_word ++ s.more)),
  s.split ∙ header_parts form s.raw s.more
      ∙ header_version form s.raw (bytes_of w32 form.order s.raw.link_word ++ s.more),
)
begins_magic form bytes c (inr (inl (cut, is))) = (cut.more, cut.split)
begins_magic form bytes c (inr (inr (other, is))) = (
  bytes_of w16 form.order other.version ++ other.more,
  other.split ∙ append_assoc (magic form) (bytes_of w16 form.order other.version) other.more,
)

-- a choice that is true was made by its test
told : (few : Bool) (same : Bool) → (if few then false else same) ≡ true → (few ≡ false) × (same ≡ true)
told true same h = absurd cc
told false same h = (refl, h)

-- a magic that is found is at the front
word_found : (number : ℕ) (bytes : List ℕ) → All (λ byte. byte < 256) bytes → has_magic number bytes ≡ true →
    bytes ≡ bytes_of w32 Little number ++ drop 4 bytes
unfolding has_magic
word_found number bytes all found =
    let k = told (nat_lt (length bytes) 4) (nat_eq (le32 0 bytes) number) found in
    let is : le32 0 bytes ≡ number = eqb-true (le32 0 bytes) number k.1 in
    let front : bytes_of w32 Little (number32_at Little 0 bytes) ≡ take 4 bytes =
    number32-spelled Little bytes all (ltb-false (length bytes) 4 k.0) in
    sym (take-append-drop 4 bytes) ∙ ap (λ t. t ++ drop 4 bytes) (sym front ∙ ap (λ n. bytes_of w32 Little n) is)

-- a form that is told is read, and its magic is at the front
pub magic_found : (form : Form) (bytes : List ℕ) → All (λ byte. byte < 256) bytes → form_of bytes ≡ Some form →
    IsRead form × (bytes ≡ magic form ++ drop 4 bytes)
magic_found form bytes all says =
    elim (form_told bytes form says) [
      | inl (found, is) ↦ at_front little_micros is (inl refl) (word_found 0xa1b2c3d4 bytes all found)
      | inr (inl (found, is)) ↦ at_front big_micros is (inl refl) (word_found 0xd4c3b2a1 bytes all found)
      | inr (inr (inl (found, is))) ↦ at_front little_nanos is (inr refl) (word_found 0xa1b23c4d bytes all found)
      | inr (inr (inr (found, is))) ↦ at_front big_nanos is (inr refl) (word_found 0x4d3cb2a1 bytes all found)
    ]
  where
    at_front : (this : Form) → form ≡ this → IsRead this → bytes ≡ magic this ++ drop 4 bytes →
        IsRead form × (bytes ≡ magic form ++ drop 4 bytes)
    at_front this is read front =
        let P : Form → Type 0 = λ f. IsRead f × (bytes ≡ magic f ++ drop 4 bytes) in subst P (sym is) (read, front)

-- no magic is at the front
none_found : (bytes : List ℕ) → All (λ byte. byte < 256) bytes → HasNoMagic bytes → form_of bytes ≡ None
none_found bytes all none =
    elim (cases_form bytes) [
      | inl other ↦ other
      | inr (form, says) ↦ let k = magic_found form bytes all says in absurd (none form (drop 4 bytes) k.0 k.1)
    ]

pub spelled_captures_read : SpelledIsRead
spelled_captures_read bytes c all (inl (form, read, s)) =
    let k = begins_magic form bytes c s in
    spelled_form form bytes read k.0 k.1 ∙ form_read form bytes c s
spelled_captures_read bytes c all (inr (none, is)) = pcap-magic bytes (none_found bytes all none) ∙ sym is
