-- What is known of a datagram that a packet holds: all of it is read from the packet.
use Rattle.std.proofs.Common.{◌≡◌, ℕ, zero, suc, ◌+◌, ◌-◌, ◌≤◌, ◌%◌, Bool, true, false, nat_lt, nat_eq, ◌&&◌, not, List, length, take, drop, Result, Ok, Err, if◌then◌else◌, refl, arith, subst}
use Rattle.std.specs.Prelude.{slice_index}
use Rattle.std.proofs.lemmas.Bool.{ltb-false}
use Rattle.std.proofs.lemmas.List.{length-take, length-drop}
use Rattle.cd_bytes.specs.Numbers.{be16}
use Rattle.cd_packet.specs.IpPackets.{ipv4_header, ipv4_packet, ipv6_header, ipv6_packet, version_at, header_length, total_length, is_extension, extension_there, after_extension, carried, walked_within, walked}
use Rattle.cd_packet.specs.Layers.{Datagram, datagram, time_of, udp_datagram, datagram_of, found, layer_of}
use Rattle.cd_packet.specs.Links.{network_packet, is_tag, after_tags, framed_packet, raw_packet, ip_packet_of}
use Rattle.cd_packet.specs.Readings.{◌>>=◌, skip_if, missing_why, needs}
use Rattle.cd_packet.specs.declared.datagram.Reason.{Reason}
use Rattle.cd_packet.specs.declared.datagram.Reason.TheVariants.{Link, Length, NotIp, Fragment, NotUdp, Port}
use Rattle.cd_packet.specs.declared.ip_packet.IpPacket.{IpPacket}
use Rattle.cd_packet.specs.declared.packet.Packet.{Packet}
use Rattle.cd_packet.specs.declared.packet.When.{When}
use Rattle.cd_packet.specs.declared.packet.When.TheVariants.{At, Outside, Missing}

-- what a reading gives, if it gives anything, is so
Each : {A : Type 0} → (A → Type 0) → Result A Reason → Type 0
Each P (Ok x) = P x
Each P (Err why) = Unit {0}

each_ok : {A : Type 0} (P : A → Type 0) (x : A) → P x → Each P (Ok x)
unfolding Each
each_ok P x h = h

each_err : {A : Type 0} (P : A → Type 0) (why : Reason) → Each P (Err why)
unfolding Each
each_err P why = tt

each_at : {A : Type 0} (P : A → Type 0) (r : Result A Reason) (x : A) → r ≡ Ok x → Each P r → P x
unfolding Each
each_at P r x is h = subst (Each P) is h

-- a rule and then a reading
then_each : {A : Type 0} (P : A → Type 0) (r : Result (Unit {0}) Reason) (rest : Result A Reason) → (r ≡ Ok tt → Each P rest) →
    Each P (r >>= (λ _. rest))
then_each P (Ok tt) rest h = h refl
then_each P (Err why) rest h = each_err P why

-- one reading and then another
bind_each : {A B : Type 0} (P : B → Type 0) (r : Result A Reason) (read : A → Result B Reason) → ((x : A) → r ≡ Ok x → Each P (read x)) →
    Each P (r >>= read)
bind_each P (Ok x) read h = h x refl
bind_each P (Err why) read h = each_err P why

-- a choice of two readings
either : {A : Type 0} (P : A → Type 0) (b : Bool) (x y : Result A Reason) → Each P x → Each P y → Each P (if b then x else y)
either P true x y f g = f
either P false x y f g = g

-- a rule that does not break
skip_none : (b : Bool) (why : Reason) → skip_if b why ≡ Ok tt → b ≡ false
skip_none true why e = absurd cc
skip_none false why e = refl

needs_there : (end : ℕ) (p : Packet) → needs end p ≡ Ok tt → end ≤ length p.bytes
needs_there end p e = ltb-false (length p.bytes) end (skip_none (nat_lt (length p.bytes) end) (missing_why p) e)

-- addresses of sixteen octets, and a hop limit that is a byte of the packet
record IsHeader (p : Packet) (ip : IpPacket) : Type 0 where
  src : length ip.src.octets ≡ 16
  dst : length ip.dst.octets ≡ 16
  hop_at : ℕ
  hop : ip.hop ≡ slice_index p.bytes hop_at

ipv4_each : (at : ℕ) (p : Packet) → Each (IsHeader p) (ipv4_packet at p)
ipv4_each at p =
    let P = IsHeader p in
    then_each P (needs (at + 20) p) _ (λ _.
    then_each P (skip_if (not (nat_eq (version_at at p.bytes) 4)) NotIp) _ (λ _.
    then_each P (skip_if (nat_lt (header_length at p.bytes) 20) Length) _ (λ _.
    then_each P (skip_if (nat_lt (total_length at p.bytes) (header_length at p.bytes)) Length) _ (λ _.
    then_each P (skip_if (not (nat_eq (be16 (at + 6) p.bytes % 0x4000) 0)) Fragment) _ (λ _.
    each_ok P (ipv4_header at p.bytes) (record { src = refl; dst = refl; hop_at = at + 8; hop = refl }))))))

carried_each : (p : Packet) (ip : IpPacket) → IsHeader p ip → Each (IsHeader p) (carried ip)
carried_each p ip h = either (IsHeader p) (nat_eq ip.protocol 44) _ _ (each_err (IsHeader p) Fragment) (each_ok (IsHeader p) ip h)

within_each : (n : ℕ) (p : Packet) (ip : IpPacket) → IsHeader p ip → Each (IsHeader p) (walked_within n p ip)
unfolding walked_within
within_each zero p ip h =
    either (IsHeader p) (is_extension ip.protocol) _ _ (each_err (IsHeader p) Length) (carried_each p ip h)
within_each (suc n) p ip h =
    let next : IsHeader p (after_extension p.bytes ip) = record { src = h.src; dst = h.dst; hop_at = h.hop_at; hop = h.hop } in
    either (IsHeader p) (is_extension ip.protocol) _ _
    (then_each (IsHeader p) (extension_there ip.start ip.end p) _ (λ _. within_each n p (after_extension p.bytes ip) next))
    (carried_each p ip h)

walked_each : (p : Packet) (ip : IpPacket) → IsHeader p ip → Each (IsHeader p) (walked p ip)
unfolding walked
walked_each p ip h = within_each (ip.end - ip.start) p ip h

sixteen : (at : ℕ) (bytes : List ℕ) → at + 16 ≤ length bytes → length (take 16 (drop at bytes)) ≡ 16
sixteen at bytes there = omega (arith, length-take 16 (drop at bytes), length-drop at bytes, there)

ipv6_each : (at : ℕ) (p : Packet) → Each (IsHeader p) (ipv6_packet at p)
ipv6_each at p =
    let P = IsHeader p in
    then_each P (needs (at + 40) p) _ (λ needed.
    then_each P (skip_if (not (nat_eq (version_at at p.bytes) 6)) NotIp) _ (λ _.
    let there : at + 40 ≤ length p.bytes = needs_there (at + 40) p needed in
    walked_each p (ipv6_header at p.bytes) (record {
      src = sixteen (at + 8) p.bytes (omega (arith, there));
      dst = sixteen (at + 24) p.bytes (omega (arith, there));
      hop_at = at + 7;
      hop = refl;
    })))

network_each : (protocol at : ℕ) (p : Packet) → Each (IsHeader p) (network_packet protocol at p)
network_each protocol at p =
    let P = IsHeader p in
    either P (nat_eq protocol 0x0800) _ _ (ipv4_each at p)
    (either P (nat_eq protocol 0x86dd) _ _ (ipv6_each at p) (each_err P NotIp))

tags_each : (n protocol at : ℕ) (p : Packet) → Each (IsHeader p) (after_tags n protocol at p)
unfolding after_tags
tags_each zero protocol at p = network_each protocol at p
tags_each (suc n) protocol at p =
    either (IsHeader p) (is_tag protocol) _ _
    (then_each (IsHeader p) (needs (at + 4) p) _ (λ _. tags_each n (be16 (at + 2) p.bytes) (at + 4) p))
    (network_each protocol at p)

framed_each : (header protocol : ℕ) (p : Packet) → Each (IsHeader p) (framed_packet header protocol p)
framed_each header protocol p =
    then_each (IsHeader p) (needs header p) _ (λ _. tags_each 2 (be16 protocol p.bytes) header p)

raw_each : (p : Packet) → Each (IsHeader p) (raw_packet p)
raw_each p =
    let P = IsHeader p in
    then_each P (needs 1 p) _ (λ _.
    either P (nat_eq (version_at 0 p.bytes) 4) _ _ (ipv4_each 0 p)
    (either P (nat_eq (version_at 0 p.bytes) 6) _ _ (ipv6_each 0 p) (each_err P NotIp)))

ip_each : (p : Packet) → Each (IsHeader p) (ip_packet_of p)
ip_each p =
    let P = IsHeader p in
    either P (nat_eq p.link 1) _ _ (framed_each 14 12 p)
    (either P (nat_eq p.link 101) _ _ (raw_each p)
    (either P (nat_eq p.link 113) _ _ (framed_each 16 14 p)
    (either P (nat_eq p.link 276) _ _ (framed_each 20 0 p) (each_err P Link))))

-- all of a datagram is read from its packet: UDP begins at an offset, and all of it was captured
pub record IsReadFrom (p : Packet) (d : Datagram) : Type 0 where
  pub time : p.when ≡ At d.time
  pub src : length d.src.octets ≡ 16
  pub dst : length d.dst.octets ≡ 16
  pub hop_at : ℕ
  pub hop : d.hop ≡ slice_index p.bytes hop_at
  pub at : ℕ
  pub sport : d.sport ≡ be16 at p.bytes
  pub dport : d.dport ≡ be16 (at + 2) p.bytes
  pub header : 8 ≤ be16 (at + 4) p.bytes
  pub captured : at + be16 (at + 4) p.bytes ≤ length p.bytes
  pub payload : d.payload ≡ take (be16 (at + 4) p.bytes - 8) (drop (at + 8) p.bytes)

udp_each : (port time : ℕ) (ip : IpPacket) (p : Packet) → p.when ≡ At time → IsHeader p ip → Each (IsReadFrom p) (udp_datagram port time ip p)
udp_each port time ip p is h =
    let P = IsReadFrom p in
    let size : ℕ = be16 (ip.start + 4) p.bytes in
    then_each P (skip_if (not (nat_eq ip.protocol 17)) NotUdp) _ (λ _.
    then_each P (skip_if (nat_lt ip.end (ip.start + 8)) Length) _ (λ _.
    then_each P (needs (ip.start + 8) p) _ (λ _.
    then_each P (skip_if (not (nat_eq (be16 ip.start p.bytes) port) && not (nat_eq (be16 (ip.start + 2) p.bytes) port)) Port) _ (λ _.
    then_each P (skip_if (nat_lt size 8) Length) _ (λ long.
    then_each P (skip_if (nat_lt ip.end (ip.start + size)) Length) _ (λ _.
    then_each P (needs (ip.start + size) p) _ (λ needed.
    each_ok P _ (record {
      time = is;
      src = h.src;
      dst = h.dst;
      hop_at = h.hop_at;
      hop = h.hop;
      at = ip.start;
      sport = refl;
      dport = refl;
      header = ltb-false size 8 (skip_none (nat_lt size 8) Length long);
      captured = needs_there (ip.start + size) p needed;
      payload = refl;
    }))))))))

-- a time that is known
time_told : (when : When) (time : ℕ) → time_of when ≡ Ok time → when ≡ At time
time_told (At t) time e = cc
time_told Outside time e = absurd cc
time_told Missing time e = absurd cc

datagram_each : (port : ℕ) (p : Packet) → Each (IsReadFrom p) (datagram_of port p)
datagram_each port p =
    bind_each (IsReadFrom p) (time_of p.when) _ (λ time told.
    bind_each (IsReadFrom p) (ip_packet_of p) _ (λ ip is.
    udp_each port time ip p (time_told p.when time told) (each_at (IsHeader p) (ip_packet_of p) ip is (ip_each p))))

found_read : (r : Result Datagram Reason) (d : Datagram) → found r ≡ datagram d → r ≡ Ok d
found_read (Ok x) d e = cc
found_read (Err why) d e = absurd cc

-- what a packet holds
pub layer_read : (port : ℕ) (p : Packet) (d : Datagram) → layer_of port p ≡ datagram d → IsReadFrom p d
unfolding layer_of
layer_read port p d is = each_at (IsReadFrom p) (datagram_of port p) d (found_read (datagram_of port p) d is) (datagram_each port p)
