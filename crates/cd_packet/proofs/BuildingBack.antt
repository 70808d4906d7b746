-- The IP packet of a datagram is read as that datagram.
use Rattle.std.proofs.Common.{◌≡◌, ℕ, zero, suc, ◌+◌, ◌-◌, ◌*◌, ◌/◌, ◌%◌, ◌<◌, ◌≤◌, ◌^◌, Bool, true, false, nat_lt, nat_eq, ◌&&◌, not, ◌⊎◌, List, [], ◌∷◌, ◌++◌, length, take, drop, replicate, Some, None, Result, Ok, if◌then◌else◌, refl, ap, sym, ◌∙◌, arith, inl, inr, take-append-drop, true≢false}
use Rattle.std.specs.Prelude.{slice_index}
use Rattle.std.specs.Int.{w16, to_be_bytes}
use Rattle.std.proofs.Props.{props}
use Rattle.std.proofs.lemmas.Bool.{cases_Bool, le-ltb, ltb-false, eq-eqb}
use Rattle.std.proofs.lemmas.List.{length-take-le, take_all}
use mathlib.Core.HLevel.{Σ_prop_path}
use Rattle.cd_bytes.specs.Checksum.{checksum_of}
use Rattle.cd_bytes.specs.Numbers.{be16}
use Rattle.cd_packet.proofs.Walking.{ipv4_read, walked_ends}
use Rattle.cd_packet.specs.Building.{address_bytes, udp_size, udp_header, udp_check, ipv4_front, ipv6_front, ip_header, most_payload, spelled, built, IsBuildable, HoldsIp, BuiltIsRead}
use Rattle.cd_packet.specs.IpPackets.{ipv4_header, ipv4_packet, ipv6_header, ipv6_packet, version_at, is_extension, walked}
use Rattle.cd_packet.specs.Layers.{Datagram, time_of, udp_datagram, datagram_of, found, layer_of}
use Rattle.cd_packet.specs.Links.{raw_packet, ip_packet_of}
use Rattle.cd_packet.specs.Readings.{◌>>=◌, needs}
use Rattle.cd_packet.specs.declared.address.Addr.{Addr}
use Rattle.cd_packet.specs.declared.datagram.Reason.{Reason}
use Rattle.cd_packet.specs.declared.ip_packet.IpPacket.{IpPacket}
use Rattle.cd_packet.specs.declared.packet.Packet.{Packet}
use Rattle.cd_packet.specs.declared.packet.When.TheVariants.{At}

-- a number of 16 bits is read from its two bytes
word_read : (n : ℕ) → n < 2 ^ 16 → be16 0 (to_be_bytes w16 n) ≡ n
unfolding be16
word_read n small = omega arith

-- an address, with what its type keeps of its octets
abbrev with_octets : (v6 : Bool) → ((o : List ℕ) × (v6 ≡ false → drop 4 o ≡ replicate 12 0)) → Addr
with_octets v6 x = record { v6 = v6; octets = x.0; padded = x.1 }

same_octets : (v6 : Bool) (o q : List ℕ) (h : v6 ≡ false → drop 4 o ≡ replicate 12 0) (k : v6 ≡ false → drop 4 q ≡ replicate 12 0) →
    o ≡ q → with_octets v6 (o, h) ≡ with_octets v6 (q, k)
same_octets v6 o q h k e =
    let P : List ℕ → Type 0 = λ r. v6 ≡ false → drop 4 r ≡ replicate 12 0 in
    let one : (r : List ℕ) × P r = (o, h) in
    let other : (r : List ℕ) × P r = (q, k) in
    let both : one ≡ other = Σ_prop_path {B = P} (λ r. hlevel props) {u = one} {v = other} e in
    ap (with_octets v6) both

same_of : (v w : Bool) (o q : List ℕ) (h : v ≡ false → drop 4 o ≡ replicate 12 0) (k : w ≡ false → drop 4 q ≡ replicate 12 0) → v ≡ w →
    o ≡ q → with_octets v (o, h) ≡ with_octets w (q, k)
same_of true true o q h k e f = same_octets true o q h k f
same_of false false o q h k e f = same_octets false o q h k f
same_of true false o q h k e f = absurd (true≢false e)
same_of false true o q h k e f = absurd (true≢false (sym e))

-- addresses of one version with the same octets are the same
same_address : (a b : Addr) → a.v6 ≡ b.v6 → a.octets ≡ b.octets → a ≡ b
same_address a b e f = same_of a.v6 b.v6 a.octets b.octets a.padded b.padded e f

-- the first bytes of a list, one by one
abbrev cells : ℕ → List ℕ → List ℕ
cells zero o = []
cells (suc n) o = slice_index o 0 ∷ cells n (drop 1 o)

is_cells : (n : ℕ) (o : List ℕ) → length o ≡ n → o ≡ cells n o
is_cells zero [] h = refl
is_cells zero (x ∷ o) h = absurd (omega (arith, h))
is_cells (suc n) [] h = absurd (omega (arith, h))
is_cells (suc n) (x ∷ o) h = let rest : length o ≡ n = omega (arith, h) in ap (λ r. x ∷ r) (is_cells n o rest)

-- datagrams with the same fields are the same
same_datagram : (time sport dport hop : ℕ) (src dst : Addr) (payload : List ℕ) (d : Datagram) → time ≡ d.time → src ≡ d.src → dst ≡ d.dst →
    sport ≡ d.sport → dport ≡ d.dport → hop ≡ d.hop → payload ≡ d.payload →
    (let r : Datagram = record { time = time; src = src; dst = dst; sport = sport; dport = dport; hop = hop; payload = payload } in r) ≡ d
same_datagram time sport dport hop src dst payload d t s e sp dp h p =
    λ i. record { time = t i; src = s i; dst = e i; sport = sp i; dport = dp i; hop = h i; payload = p i }

-- one of two ports is this port
port_found : (a b port : ℕ) → (port ≡ a) ⊎ (port ≡ b) → (not (nat_eq a port) && not (nat_eq b port)) ≡ false
port_found a b port (inl e) = rw (eq-eqb a port (sym e)) refl
port_found a b port (inr e) =
    elim (cases_Bool (nat_eq a port)) [
      | inl same ↦ rw same refl
      | inr other ↦ rw (other, eq-eqb b port (sym e)) refl
    ]

-- UDP in an IP packet that says all of the datagram, and whose bytes are there
udp_goes : (port : ℕ) (ip : IpPacket) (p : Packet) (d : Datagram) → ip.protocol ≡ 17 → ip.end ≡ ip.start + udp_size d →
    length p.bytes ≡ ip.start + udp_size d → be16 ip.start p.bytes ≡ d.sport → be16 (ip.start + 2) p.bytes ≡ d.dport →
    be16 (ip.start + 4) p.bytes ≡ udp_size d → drop (ip.start + 8) p.bytes ≡ d.payload → ip.src ≡ d.src → ip.dst ≡ d.dst →
    ip.hop ≡ d.hop → (port ≡ d.sport) ⊎ (port ≡ d.dport) → udp_datagram port d.time ip p ≡ Ok d
udp_goes port ip p d protocol end long sport dport size payload src dst hop one =
    let n : ℕ = be16 (ip.start + 4) p.bytes in
    let here : (port ≡ be16 ip.start p.bytes) ⊎ (port ≡ be16 (ip.start + 2) p.bytes) =
    elim one [ inl e ↦ inl (e ∙ sym sport) | inr e ↦ inr (e ∙ sym dport) ] in
    let header : ip.start + 8 ≤ ip.end = omega (arith, end) in
    let there : ip.start + 8 ≤ length p.bytes = omega (arith, long) in
    let least : 8 ≤ n = omega (arith, size) in
    let within : ip.start + n ≤ ip.end = omega (arith, end, size) in
    let captured : ip.start + n ≤ length p.bytes = omega (arith, long, size) in
    let few : n - 8 ≡ length d.payload = omega (arith, size) in
    let most : length d.payload ≤ length d.payload = omega arith in
    let rest : take (n - 8) (drop (ip.start + 8) p.bytes) ≡ d.payload =
    ap (λ k. take k (drop (ip.start + 8) p.bytes)) few ∙ ap (take (length d.payload)) payload
    ∙ take_all (length d.payload) d.payload most in
    rw (
      eq-eqb ip.protocol 17 protocol,
      le-ltb ip.end (ip.start + 8) header,
      le-ltb (length p.bytes) (ip.start + 8) there,
      port_found (be16 ip.start p.bytes) (be16 (ip.start + 2) p.bytes) port here,
      le-ltb n 8 least,
      le-ltb ip.end (ip.start + n) within,
      le-ltb (length p.bytes) (ip.start + n) captured,
    ) (ap (λ x. Ok x) (same_datagram d.time _ _ _ _ _ _ d refl src dst sport dport hop rest))

if_true : {A : Type 0} (b : Bool) (x y : A) → b ≡ true → (if b then x else y) ≡ x
if_true true x y e = refl
if_true false x y e = absurd (true≢false (sym e))

if_false : {A : Type 0} (b : Bool) (x y : A) → b ≡ false → (if b then x else y) ≡ y
if_false true x y e = absurd (true≢false e)
if_false false x y e = refl

-- a reading that gives this, and then the next
bind_at : {A B : Type 0} (r : Result A Reason) (read : A → Result B Reason) (x : A) (y : Result B Reason) → r ≡ Ok x → read x ≡ y → (r >>= read) ≡ y
bind_at r read x y e f = ap (λ q. q >>= read) e ∙ f

-- bytes that are needed and are there
needs_held : (end : ℕ) (p : Packet) → end ≤ length p.bytes → needs end p ≡ Ok tt
needs_held end p there = rw (le-ltb (length p.bytes) end there) refl

-- from the layers of a packet with no link header
packet_goes : (port : ℕ) (p : Packet) (ip : IpPacket) (d : Datagram) → p.when ≡ At d.time → p.link ≡ 101 → raw_packet p ≡ Ok ip →
    udp_datagram port d.time ip p ≡ Ok d → datagram_of port p ≡ Ok d
packet_goes port p ip d when link raw udp =
    let read : ip_packet_of p ≡ Ok ip =
    if_false (nat_eq p.link 1) _ _ (ap (λ k. nat_eq k 1) link)
    ∙ if_true (nat_eq p.link 101) _ _ (ap (λ k. nat_eq k 101) link) ∙ raw in
    bind_at (time_of p.when) _ d.time (Ok d) (ap time_of when) (bind_at (ip_packet_of p) _ ip (Ok d) read udp)

-- the packet of IPv4, with these checksums and addresses
abbrev laid4 : ℕ → ℕ → Datagram → List ℕ → List ℕ → List ℕ
laid4 check sum d s t = ipv4_front (udp_size d + 20) d.hop check ++ s ++ t ++ udp_header d sum ++ d.payload

module _ (d : Datagram) (whole : IsBuildable d) (p : Packet) (port : ℕ) (one : (port ≡ d.sport) ⊎ (port ≡ d.dport))
    (when : p.when ≡ At d.time) (link : p.link ≡ 101) where
  -- over IPv4
  back4 : (check sum : ℕ) (s t : List ℕ) → s ++ replicate 12 0 ≡ d.src.octets → t ++ replicate 12 0 ≡ d.dst.octets → d.src.v6 ≡ false → d.dst.v6 ≡ false →
      length d.payload ≤ 65507 → s ≡ cells 4 s → t ≡ cells 4 t → p.bytes ≡ laid4 check sum d (cells 4 s) (cells 4 t) → datagram_of port p ≡ Ok d
  unfolding be16
  back4 check sum s t src dst one_src one_dst few is_s is_t e =
      let bytes : List ℕ = laid4 check sum d (cells 4 s) (cells 4 t) in
      let size : length bytes ≡ udp_size d + 20 = omega arith in
      let long : length p.bytes ≡ udp_size d + 20 = ap length e ∙ size in
      let first : slice_index p.bytes 0 ≡ 0x45 = ap (λ bs. slice_index bs 0) e in
      let total : be16 2 p.bytes ≡ udp_size d + 20 = ap (be16 2) e ∙ word_read (udp_size d + 20) (omega (arith, few)) in
      let low : slice_index p.bytes 0 % 16 * 4 ≡ 20 = ap (λ b. b % 16 * 4) first in
      let there : 20 ≤ length p.bytes = omega (arith, long) in
      let some : 1 ≤ length p.bytes = omega (arith, long) in
      let header : 20 ≤ slice_index p.bytes 0 % 16 * 4 = omega (arith, low) in
      let within : slice_index p.bytes 0 % 16 * 4 ≤ be16 2 p.bytes = omega (arith, low, total) in
      let version : slice_index p.bytes 0 / 16 ≡ 4 = ap (λ b. b / 16) first in
      let flags : be16 6 p.bytes % 0x4000 ≡ 0 = ap (λ bs. be16 6 bs % 0x4000) e in
      let ip : IpPacket = ipv4_header 0 p.bytes in
      let read : Ok ip ≡ ipv4_packet 0 p =
      ipv4_read 0 p p.bytes refl ip (slice_index p.bytes 0 % 16) (be16 2 p.bytes) (be16 2 p.bytes) (be16 6 p.bytes) refl there version refl refl refl
      header within refl flags in
      let raw : raw_packet p ≡ Ok ip =
      bind_at (needs 1 p) _ tt (Ok ip) (needs_held 1 p some)
      (if_true (nat_eq (version_at 0 p.bytes) 4) _ _ (eq-eqb (version_at 0 p.bytes) 4 version) ∙ sym read) in
      let start : ip.start ≡ 20 = omega (arith, low) in
      let end : ip.end ≡ ip.start + udp_size d = omega (arith, low, total) in
      let captured : length p.bytes ≡ ip.start + udp_size d = omega (arith, long, start) in
      let protocol : ip.protocol ≡ 17 = ap (λ bs. slice_index bs 9) e in
      let hop : ip.hop ≡ d.hop = ap (λ bs. slice_index bs 8) e in
      let sport : be16 ip.start p.bytes ≡ d.sport = ap (λ k. be16 k p.bytes) start ∙ ap (be16 20) e ∙ word_read d.sport whole.sport in
      let dport : be16 (ip.start + 2) p.bytes ≡ d.dport = ap (λ k. be16 (k + 2) p.bytes) start ∙ ap (be16 22) e ∙ word_read d.dport whole.dport in
      let told : be16 (ip.start + 4) p.bytes ≡ udp_size d = ap (λ k. be16 (k + 4) p.bytes) start ∙ ap (be16 24) e ∙ word_read (udp_size d) (omega (arith, few)) in
      let payload : drop (ip.start + 8) p.bytes ≡ d.payload = ap (λ k. drop (k + 8) p.bytes) start ∙ ap (drop 28) e in
      let src_octets : ip.src.octets ≡ d.src.octets =
      ap (λ bs. slice_index bs 12 ∷ slice_index bs 13 ∷ slice_index bs 14 ∷ slice_index bs 15 ∷ replicate 12 0) e
      ∙ ap (λ r. r ++ replicate 12 0) (sym is_s) ∙ src in
      let dst_octets : ip.dst.octets ≡ d.dst.octets =
      ap (λ bs. slice_index bs 16 ∷ slice_index bs 17 ∷ slice_index bs 18 ∷ slice_index bs 19 ∷ replicate 12 0) e
      ∙ ap (λ r. r ++ replicate 12 0) (sym is_t) ∙ dst in
      packet_goes port p ip d when link raw
      (udp_goes port ip p d protocol end captured sport dport told payload (same_address ip.src d.src (sym one_src) src_octets)
      (same_address ip.dst d.dst (sym one_dst) dst_octets) hop one)

-- the packet of IPv6, with this checksum and these addresses
abbrev laid6 : ℕ → Datagram → List ℕ → List ℕ → List ℕ
laid6 sum d s t = ipv6_front (udp_size d) d.hop ++ s ++ t ++ udp_header d sum ++ d.payload

module _ (d : Datagram) (whole : IsBuildable d) (p : Packet) (port : ℕ) (one : (port ≡ d.sport) ⊎ (port ≡ d.dport))
    (when : p.when ≡ At d.time) (link : p.link ≡ 101) where
  -- over IPv6
  back6 : (sum : ℕ) (s t : List ℕ) → s ≡ d.src.octets → t ≡ d.dst.octets → d.src.v6 ≡ true → d.dst.v6 ≡ true →
      length d.payload ≤ 65527 → s ≡ cells 16 s → t ≡ cells 16 t → p.bytes ≡ laid6 sum d (cells 16 s) (cells 16 t) → datagram_of port p ≡ Ok d
  unfolding be16
  back6 sum s t src dst one_src one_dst few is_s is_t e =
      let bytes : List ℕ = laid6 sum d (cells 16 s) (cells 16 t) in
      let size : length bytes ≡ udp_size d + 40 = omega arith in
      let long : length p.bytes ≡ udp_size d + 40 = ap length e ∙ size in
      let first : slice_index p.bytes 0 ≡ 0x60 = ap (λ bs. slice_index bs 0) e in
      let there : 40 ≤ length p.bytes = omega (arith, long) in
      let some : 1 ≤ length p.bytes = omega (arith, long) in
      let version : slice_index p.bytes 0 / 16 ≡ 6 = ap (λ b. b / 16) first in
      let other : nat_eq (slice_index p.bytes 0 / 16) 4 ≡ false = ap (λ b. nat_eq (b / 16) 4) first in
      let ip : IpPacket = ipv6_header 0 p.bytes in
      let protocol : slice_index p.bytes 6 ≡ 17 = ap (λ bs. slice_index bs 6) e in
      let extension : is_extension (slice_index p.bytes 6) ≡ false = ap is_extension protocol in
      let fragment : nat_eq (slice_index p.bytes 6) 44 ≡ false = ap (λ q. nat_eq q 44) protocol in
      let after : walked p ip ≡ Ok ip = walked_ends p ip extension ∙ rw fragment refl in
      let read : ipv6_packet 0 p ≡ Ok ip =
      rw (le-ltb (length p.bytes) 40 there, eq-eqb (version_at 0 p.bytes) 6 version) after in
      let raw : raw_packet p ≡ Ok ip =
      bind_at (needs 1 p) _ tt (Ok ip) (needs_held 1 p some)
      (if_false (nat_eq (version_at 0 p.bytes) 4) _ _ other
      ∙ if_true (nat_eq (version_at 0 p.bytes) 6) _ _ (eq-eqb (version_at 0 p.bytes) 6 version) ∙ read) in
      let told4 : be16 4 p.bytes ≡ udp_size d = ap (be16 4) e ∙ word_read (udp_size d) (omega (arith, few)) in
      let end : ip.end ≡ ip.start + udp_size d = omega (arith, told4) in
      let captured : length p.bytes ≡ ip.start + udp_size d = omega (arith, long) in
      let hop : ip.hop ≡ d.hop = ap (λ bs. slice_index bs 7) e in
      let sport : be16 40 p.bytes ≡ d.sport = ap (be16 40) e ∙ word_read d.sport whole.sport in
      let dport : be16 42 p.bytes ≡ d.dport = ap (be16 42) e ∙ word_read d.dport whole.dport in
      let told : be16 44 p.bytes ≡ udp_size d = ap (be16 44) e ∙ word_read (udp_size d) (omega (arith, few)) in
      let payload : drop 48 p.bytes ≡ d.payload = ap (drop 48) e in
      let src_octets : ip.src.octets ≡ d.src.octets = ap (λ bs. take 16 (drop 8 bs)) e ∙ sym is_s ∙ src in
      let dst_octets : ip.dst.octets ≡ d.dst.octets = ap (λ bs. take 16 (drop 24 bs)) e ∙ sym is_t ∙ dst in
      packet_goes port p ip d when link raw
      (udp_goes port ip p d protocol end captured sport dport told payload (same_address ip.src d.src (sym one_src) src_octets)
      (same_address ip.dst d.dst (sym one_dst) dst_octets) hop one)

-- a packet that is built has few bytes of payload, and is spelled so
built_so : (b : Bool) (x bytes : List ℕ) → (if b then None else Some x) ≡ Some bytes → (b ≡ false) × (x ≡ bytes)
built_so true x bytes e = absurd cc
built_so false x bytes e = (refl, cc)

-- the octets that are sent of an address
sent4 : (a : Addr) → a.v6 ≡ false → length a.octets ≡ 16 → (length (address_bytes a) ≡ 4) × (address_bytes a ++ replicate 12 0 ≡ a.octets)
sent4 a v6 whole =
    let few : address_bytes a ≡ take 4 a.octets = ap (λ n. take n a.octets) (if_false a.v6 16 4 v6) in
    let long : 4 ≤ length a.octets = omega (arith, whole) in (
      ap length few ∙ length-take-le 4 a.octets long,
      ap (λ r. r ++ replicate 12 0) few ∙ ap (λ r. take 4 a.octets ++ r) (sym (a.padded v6)) ∙ take-append-drop 4 a.octets,
    )

sent6 : (a : Addr) → a.v6 ≡ true → length a.octets ≡ 16 → address_bytes a ≡ a.octets
sent6 a v6 whole =
    let long : length a.octets ≤ 16 = omega (arith, whole) in
    ap (λ n. take n a.octets) (if_true a.v6 16 4 v6) ∙ take_all 16 a.octets long

-- what is built is read, by the version
read_back : (d : Datagram) (p : Packet) (port : ℕ) (v6 : Bool) → d.src.v6 ≡ v6 → IsBuildable d → length d.payload ≤ most_payload d.src.v6 →
    HoldsIp d.time (spelled d) p → (port ≡ d.sport) ⊎ (port ≡ d.dport) → datagram_of port p ≡ Ok d
read_back d p port false v6 whole few holds one =
    let s : List ℕ = address_bytes d.src in
    let t : List ℕ = address_bytes d.dst in
    let other : d.dst.v6 ≡ false = sym whole.one_version ∙ v6 in
    let src = sent4 d.src v6 whole.src in
    let dst = sent4 d.dst other whole.dst in
    let is_s : s ≡ cells 4 s = is_cells 4 s src.0 in
    let is_t : t ≡ cells 4 t = is_cells 4 t dst.0 in
    let check : ℕ = checksum_of (ipv4_front (udp_size d + 20) d.hop 0 ++ s ++ t) in
    let sum : ℕ = udp_check d in
    let header : ip_header d ≡ ipv4_front (udp_size d + 20) d.hop check ++ s ++ t = if_false d.src.v6 _ _ v6 in
    let limit : most_payload d.src.v6 ≡ 65507 = if_false {A = ℕ} d.src.v6 65527 65507 v6 in
    let least : length d.payload ≤ 65507 = omega (arith, few, limit) in
    back4 d whole p port one holds.when holds.link check sum s t src.1 dst.1 v6 other least is_s is_t
    (holds.bytes ∙ ap (λ h. h ++ udp_header d sum ++ d.payload) header ∙ ap (λ r. laid4 check sum d r t) is_s
    ∙ ap (λ r. laid4 check sum d (cells 4 s) r) is_t)
read_back d p port true v6 whole few holds one =
    let s : List ℕ = address_bytes d.src in
    let t : List ℕ = address_bytes d.dst in
    let other : d.dst.v6 ≡ true = sym whole.one_version ∙ v6 in
    let src : s ≡ d.src.octets = sent6 d.src v6 whole.src in
    let dst : t ≡ d.dst.octets = sent6 d.dst other whole.dst in
    let is_s : s ≡ cells 16 s = is_cells 16 s (ap length src ∙ whole.src) in
    let is_t : t ≡ cells 16 t = is_cells 16 t (ap length dst ∙ whole.dst) in
    let sum : ℕ = udp_check d in
    let header : ip_header d ≡ ipv6_front (udp_size d) d.hop ++ s ++ t = if_true d.src.v6 _ _ v6 in
    let limit : most_payload d.src.v6 ≡ 65527 = if_true {A = ℕ} d.src.v6 65527 65507 v6 in
    let least : length d.payload ≤ 65527 = omega (arith, few, limit) in
    back6 d whole p port one holds.when holds.link sum s t src dst v6 other least is_s is_t
    (holds.bytes ∙ ap (λ h. h ++ udp_header d sum ++ d.payload) header ∙ ap (λ r. laid6 sum d r t) is_s
    ∙ ap (λ r. laid6 sum d (cells 16 s) r) is_t)

holds_spelled : (d : Datagram) (bytes : List ℕ) (p : Packet) → spelled d ≡ bytes → HoldsIp d.time bytes p → HoldsIp d.time (spelled d) p
holds_spelled d bytes p e h = record {
  when = h.when;
  link = h.link;
  bytes = h.bytes ∙ sym e;
  original = h.original ∙ ap length (sym e);
}

-- the law
pub built_is_read : BuiltIsRead
unfolding built layer_of
built_is_read d bytes p port whole made holds one =
    let so = built_so (nat_lt (most_payload d.src.v6) (length d.payload)) (spelled d) bytes made in
    let few : length d.payload ≤ most_payload d.src.v6 = ltb-false (most_payload d.src.v6) (length d.payload) so.0 in
    ap found (read_back d p port d.src.v6 refl whole few (holds_spelled d bytes p so.1 holds) one)
