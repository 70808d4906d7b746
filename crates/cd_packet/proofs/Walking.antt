-- Tags and extension headers, one at a time.
use Rattle.std.proofs.Common.{◌≡◌, ◌≢◌, ℕ, zero, suc, ◌+◌, ◌-◌, ◌*◌, ◌<◌, ◌≤◌, ◌%◌, Bool, true, false, List, length, Result, Ok, Err, if◌then◌else◌, refl, ap, sym, ◌∙◌, arith}
use Rattle.std.proofs.lemmas.Bool.{lt-ltb, le-ltb, eq-eqb, ne_eqb}
use Rattle.std.specs.Prelude.{slice_index}
use Rattle.std.proofs.Props.{props}
use Rattle.cd_bytes.specs.Numbers.{be16}
use Rattle.cd_packet.specs.IpPackets.{is_extension, extension_end, extension_there, extension_passed, after_extension, carried, walked_within, walked, ipv4_header, ipv4_packet, header_length, total_length, version_at}
use Rattle.cd_packet.specs.Links.{is_tag, after_tags, network_packet}
use Rattle.cd_packet.specs.Readings.{◌>>=◌, needs}
use Rattle.cd_packet.specs.declared.datagram.Reason.{Reason}
use Rattle.cd_packet.specs.declared.datagram.Reason.TheVariants.{Length, Fragment}
use Rattle.cd_packet.specs.declared.ip_packet.IpPacket.{IpPacket}
use Rattle.cd_packet.specs.declared.packet.Packet.{Packet}

-- what is read where a rule breaks, and where none does
pub read_err : {A : Type 0} (r : Result (Unit {0}) Reason) (x : A) (why : Reason) → Err why ≡ (r >>= (λ _. Ok x)) → r ≡ Err why
read_err (Ok u) x why e = absurd cc
read_err (Err w) x why e = cc

pub read_ok : {A : Type 0} (r : Result (Unit {0}) Reason) (x y : A) → Ok y ≡ (r >>= (λ _. Ok x)) → (r ≡ Ok tt) × (x ≡ y)
read_ok (Ok tt) x y e = (refl, cc)
read_ok (Err w) x y e = absurd cc

-- where no two bytes are left, there is no extension header
none_there : (start end : ℕ) (p : Packet) → end ≤ start → extension_there start end p ≡ Err Length
none_there start end p none = let few : end < start + 2 = omega arith in rw (lt-ltb end (start + 2) few) refl

-- the next extension header, and then what comes after it
abbrev past_extension : Packet → IpPacket → Result IpPacket Reason → Result IpPacket Reason
past_extension p ip rest = if is_extension ip.protocol then extension_there ip.start ip.end p >>= (λ _. rest) else carried ip

no_room : (p : Packet) (ip : IpPacket) (rest : Result IpPacket Reason) → ip.end ≤ ip.start →
    (if is_extension ip.protocol then Err Length else carried ip) ≡ past_extension p ip rest
no_room p ip rest none = rw (none_there ip.start ip.end p none) refl

-- any bound on the bytes left will do
within_any : (n m : ℕ) (p : Packet) (ip : IpPacket) → ip.end ≤ ip.start + n → ip.end ≤ ip.start + m → walked_within n p ip ≡ walked_within m p ip
unfolding walked_within
within_any zero zero p ip a b = refl
within_any zero (suc m) p ip a b = no_room p ip (walked_within m p (after_extension p.bytes ip)) (omega (arith, a))
within_any (suc n) zero p ip a b = sym (no_room p ip (walked_within n p (after_extension p.bytes ip)) (omega (arith, b)))
within_any (suc n) (suc m) p ip a b =
    ap (past_extension p ip)
    (within_any n m p (after_extension p.bytes ip) (omega (arith, a)) (omega (arith, b)))

-- one extension header more
within_one : (n : ℕ) (p : Packet) (ip : IpPacket) → ip.end - ip.start ≡ n → walked_within n p ip ≡ past_extension p ip (walked p (after_extension p.bytes ip))
unfolding walked_within walked
within_one zero p ip is = no_room p ip _ (omega (arith, is))
within_one (suc n) p ip is =
    ap (past_extension p ip)
    (within_any n (ip.end - (after_extension p.bytes ip).start) p (after_extension p.bytes ip) (omega (arith, is)) (omega arith))

walked_one : (p : Packet) (ip : IpPacket) → walked p ip ≡ past_extension p ip (walked p (after_extension p.bytes ip))
unfolding walked
walked_one p ip = within_one (ip.end - ip.start) p ip refl

-- a rule that breaks at the next extension header
pub walked_stops : (p : Packet) (ip : IpPacket) (why : Reason) → is_extension ip.protocol ≡ true → extension_there ip.start ip.end p ≡ Err why →
    walked p ip ≡ Err why
walked_stops p ip why extension breaks = walked_one p ip ∙ rw (extension, breaks) refl

-- an extension header that is there
pub walked_on : (p : Packet) (ip : IpPacket) → is_extension ip.protocol ≡ true → extension_there ip.start ip.end p ≡ Ok tt →
    walked p ip ≡ walked p (after_extension p.bytes ip)
walked_on p ip extension there = walked_one p ip ∙ rw (extension, there) refl

-- no extension header comes next
pub walked_ends : (p : Packet) (ip : IpPacket) → is_extension ip.protocol ≡ false → walked p ip ≡ carried ip
walked_ends p ip other = walked_one p ip ∙ rw other refl

-- tags
pub tags_end : (n protocol at : ℕ) (p : Packet) → is_tag protocol ≡ false → after_tags n protocol at p ≡ network_packet protocol at p
unfolding after_tags
tags_end zero protocol at p other = refl
tags_end (suc n) protocol at p other = rw other refl

pub tags_stop : (n protocol at : ℕ) (p : Packet) (why : Reason) → 0 < n → is_tag protocol ≡ true → needs (at + 4) p ≡ Err why →
    after_tags n protocol at p ≡ Err why
unfolding after_tags
tags_stop zero protocol at p why some tag breaks = absurd (omega arith)
tags_stop (suc n) protocol at p why some tag breaks = rw (tag, breaks) refl

pub tags_on : (n protocol at : ℕ) (p : Packet) → 0 < n → is_tag protocol ≡ true → at + 4 ≤ length p.bytes →
    after_tags n protocol at p ≡ after_tags (n - 1) (be16 (at + 2) p.bytes) (at + 4) p
unfolding after_tags
tags_on zero protocol at p some tag there = absurd (omega arith)
tags_on (suc n) protocol at p some tag there =
    let less : suc n - 1 ≡ n = omega arith in
    rw (less, tag, le-ltb (length p.bytes) (at + 4) there) refl

pub tags_left : (n protocol at : ℕ) (p : Packet) → n ≤ 0 → after_tags n protocol at p ≡ network_packet protocol at p
unfolding after_tags
tags_left zero protocol at p none = refl
tags_left (suc n) protocol at p none = absurd (omega arith)

-- two Bools are equal in one way
one_way : (a b : Bool) → IsProp (a ≡ b)
one_way a b = hlevel props

-- the loop over extension headers, which has come to `now`
module _ (p : Packet) (header now : IpPacket) (here : walked p header ≡ walked p now) (b : Bool) (told : b ≡ is_extension now.protocol) where
  -- it stops at a rule that breaks
  pub loop_stops : (why : Reason) → b ≡ true → Err why ≡ extension_passed now.start now.end p → Err why ≡ walked p header
  loop_stops why more breaks = sym (here ∙ walked_stops p now why (sym told ∙ more) (read_err (extension_there now.start now.end p) (extension_end now.start p.bytes) why breaks))

  -- it goes on
  pub loop_goes_on : (bytes : List ℕ) (next : ℕ) → b ≡ true → bytes ≡ p.bytes → Ok next ≡ extension_passed now.start now.end p →
      walked p header ≡ walked p (record now { protocol = slice_index bytes now.start; start = next })
  loop_goes_on bytes next more same passed =
      let r = read_ok (extension_there now.start now.end p) (extension_end now.start p.bytes) next passed in
      here ∙ walked_on p now (sym told ∙ more) r.0
      ∙ ap (λ bs. walked p (record now { protocol = slice_index bs now.start; start = extension_end now.start p.bytes })) (sym same)
      ∙ ap (λ n. walked p (record now { protocol = slice_index bytes now.start; start = n })) r.1

  -- it ends at a fragment
  pub loop_fragment : b ≡ false → now.protocol ≡ 44 → Err Fragment ≡ walked p header
  loop_fragment last fragment = sym (here ∙ walked_ends p now (sym told ∙ last) ∙ rw (eq-eqb now.protocol 44 fragment) refl)

  -- or at another protocol
  pub loop_ends : (v : now.src.v6 ≡ now.dst.v6) → b ≡ false → now.protocol ≢ 44 → Ok (record now { one_version = v }) ≡ walked p header
  loop_ends v last other =
      let same : Ok (record now { one_version = v }) ≡ Ok now =
      ap (λ w. let r : IpPacket = record now { one_version = w } in Ok r)
      (one_way now.src.v6 now.dst.v6 v now.one_version) in
      same ∙ sym (here ∙ walked_ends p now (sym told ∙ last) ∙ rw (ne_eqb now.protocol 44 other) refl)

-- an IPv4 header that breaks no rule
module _ (at : ℕ) (p : Packet) (bytes : List ℕ) (same : bytes ≡ p.bytes) where
  pub ipv4_read : (ip : IpPacket) (h t u f : ℕ) → ip ≡ ipv4_header at bytes → at + 20 ≤ length p.bytes → version_at at bytes ≡ 4 →
      h ≡ slice_index bytes at % 16 → t ≡ u → u ≡ total_length at bytes → 20 ≤ h * 4 → h * 4 ≤ t → f ≡ be16 (at + 6) bytes → f % 0x4000 ≡ 0 →
      Ok ip ≡ ipv4_packet at p
  ipv4_read ip h t u f is there version low total total_is header within flags whole =
      let version' : version_at at p.bytes ≡ 4 = ap (version_at at) (sym same) ∙ version in
      let low' : h ≡ slice_index p.bytes at % 16 = low ∙ ap (λ bs. slice_index bs at % 16) same in
      let total' : t ≡ total_length at p.bytes = total ∙ total_is ∙ ap (total_length at) same in
      let flags' : f ≡ be16 (at + 6) p.bytes = flags ∙ ap (be16 (at + 6)) same in
      let header' : 20 ≤ header_length at p.bytes = omega (arith, low', header) in
      let within' : header_length at p.bytes ≤ total_length at p.bytes = omega (arith, low', total', within) in
      let whole' : be16 (at + 6) p.bytes % 0x4000 ≡ 0 = ap (λ n. n % 0x4000) (sym flags') ∙ whole in
      ap (λ x. Ok x) (is ∙ ap (ipv4_header at) same)
      ∙ sym (rw (
        le-ltb (length p.bytes) (at + 20) there,
        eq-eqb (version_at at p.bytes) 4 version',
        le-ltb (header_length at p.bytes) 20 header',
        le-ltb (total_length at p.bytes) (header_length at p.bytes) within',
        eq-eqb (be16 (at + 6) p.bytes % 0x4000) 0 whole',
      ) refl)
