-- Identifiers are equal exactly if what they tell is.
use Rattle.std.proofs.Common.{◌≡◌, ℕ, ◌<◌, ◌^◌, Bool, true, false, List, [], ◌∷◌, ◌++◌, length, map, take, drop, refl, ap, sym, ◌∙◌, arith, length-append}
use Rattle.std.specs.Int.{w16, to_be_bytes, from_be_bytes}
use Rattle.std.proofs.lemmas.Nat.{from_be_bytes-to_be_bytes_2}
use Rattle.std.proofs.lemmas.Option.{same_Some}
use Rattle.std.proofs.Math.Seq.{drop-append_seam, take-append_seam}
use Rattle.cd_name.specs.Names.{lower_case}
use Rattle.cd_message.specs.declared.message.Question.{Question}
use Rattle.cd_ident.specs.Identifiers.{Ends, version_byte, primary_of}
use Rattle.cd_ident.specs.IdentifierLaws.{EndsFit, AreSameEnds, PrimariesAreExact, SecondariesAreExact}

-- two lists whose fronts are as long are equal by their fronts and by what comes after them
same_fronts : (a b c d : List ℕ) → length a ≡ length c → a ++ b ≡ c ++ d → (a ≡ c) × (b ≡ d)
same_fronts a b c d long e = (
  sym (take-append_seam a b) ∙ ap (λ t. take (length a) t) e ∙ ap (λ n. take n (c ++ d)) long ∙ take-append_seam c d,
  sym (drop-append_seam a b) ∙ ap (λ t. drop (length a) t) e ∙ ap (λ n. drop n (c ++ d)) long ∙ drop-append_seam c d,
)

-- the same where what comes after them is as long
same_ends : (a b c d : List ℕ) → length b ≡ length d → a ++ b ≡ c ++ d → (a ≡ c) × (b ≡ d)
same_ends a b c d long e =
    let whole : length (a ++ b) ≡ length (c ++ d) = ap length e in
    same_fronts a b c d (omega (arith, length-append a b, length-append c d)) e

-- numbers of two bytes are equal if their bytes are
same_numbers : (n m : ℕ) → n < 2 ^ 16 → m < 2 ^ 16 → to_be_bytes w16 n ≡ to_be_bytes w16 m → n ≡ m
same_numbers n m h k e = sym (from_be_bytes-to_be_bytes_2 n h) ∙ ap (λ t. from_be_bytes w16 t) e ∙ from_be_bytes-to_be_bytes_2 m k

-- versions are equal if their bytes are
same_versions : (a b : Bool) → version_byte a ≡ version_byte b → a ≡ b
same_versions true true e = refl
same_versions true false e = absurd (omega arith)
same_versions false true e = absurd (omega arith)
same_versions false false e = refl

-- a primary before the client's port
abbrev addresses : Ends → List ℕ
addresses ends = version_byte ends.client.v6 ∷ ends.client.octets ++ ends.server.octets

-- before the server's port
abbrev with_client_port : Ends → List ℕ
with_client_port ends = addresses ends ++ to_be_bytes w16 ends.client_port

-- before the transport
abbrev with_ports : Ends → List ℕ
with_ports ends = with_client_port ends ++ to_be_bytes w16 ends.server_port

-- before the opcode
abbrev with_id : Ends → ℕ → List ℕ
with_id ends id = with_ports ends ++ 0 ∷ to_be_bytes w16 id

-- equal primaries are of equal ends, IDs and opcodes
primary_tells : (one other : Ends) (id other_id opcode other_opcode : ℕ) → EndsFit one → EndsFit other → id < 2 ^ 16 → other_id < 2 ^ 16 →
    primary_of one id opcode ≡ primary_of other other_id other_opcode → AreSameEnds one other × (id ≡ other_id) × (opcode ≡ other_opcode)
primary_tells one other id other_id opcode other_opcode fit other_fit small other_small e =
    let last = same_ends (with_id one id) (opcode ∷ []) (with_id other other_id) (other_opcode ∷ []) refl e in
    let transport = same_ends (with_ports one) (0 ∷ to_be_bytes w16 id) (with_ports other) (0 ∷ to_be_bytes w16 other_id) refl last.0 in
    let server_port = same_ends (with_client_port one) (to_be_bytes w16 one.server_port) (with_client_port other) (to_be_bytes w16 other.server_port) refl transport.0 in
    let client_port = same_ends (addresses one) (to_be_bytes w16 one.client_port) (addresses other) (to_be_bytes w16 other.client_port) refl server_port.0 in
    let server = same_ends (version_byte one.client.v6 ∷ one.client.octets) one.server.octets (version_byte other.client.v6 ∷ other.client.octets) other.server.octets
    (fit.server ∙ sym other_fit.server) client_port.0 in
    let version : version_byte one.client.v6 ≡ version_byte other.client.v6 = cc server.0 in
    let client : one.client.octets ≡ other.client.octets = cc server.0 in
    let ids : to_be_bytes w16 id ≡ to_be_bytes w16 other_id = ap (λ t. drop 1 t) transport.1 in
    let opcodes : opcode ≡ other_opcode = cc last.1 in (
      record {
        version = same_versions one.client.v6 other.client.v6 version;
        client = client;
        server = server.1;
        client_port = same_numbers one.client_port other.client_port fit.client_port other_fit.client_port client_port.1;
        server_port = same_numbers one.server_port other.server_port fit.server_port other_fit.server_port server_port.1;
      },
      same_numbers id other_id small other_small ids,
      opcodes,
    )

-- primaries are exact
pub primaries_are_exact : PrimariesAreExact
primaries_are_exact one other id other_id opcode other_opcode fit other_fit small other_small = (
  primary_tells one other id other_id opcode other_opcode fit other_fit small other_small,
  λ same. rw (same.0.version, same.0.client, same.0.server, same.0.client_port, same.0.server_port, same.1, same.2) refl,
)

-- a question before its class
abbrev with_type : Question → List ℕ
with_type q = map lower_case q.name ++ to_be_bytes w16 q.rtype

-- secondaries are exact
pub secondaries_are_exact : SecondariesAreExact
secondaries_are_exact one other fit other_fit = (
  λ e.
      let whole = same_Some (with_type one ++ to_be_bytes w16 one.rclass) (with_type other ++ to_be_bytes w16 other.rclass) e in
      let class = same_ends (with_type one) (to_be_bytes w16 one.rclass) (with_type other) (to_be_bytes w16 other.rclass) refl whole in
      let type = same_ends (map lower_case one.name) (to_be_bytes w16 one.rtype) (map lower_case other.name) (to_be_bytes w16 other.rtype) refl class.0 in
      (type.0, same_numbers one.rtype other.rtype fit.0 other_fit.0 type.1, same_numbers one.rclass other.rclass fit.1 other_fit.1 class.1),
  λ same. rw (same.0, same.1, same.2) refl,
)
