-- What the rules for a packet give: a value, or the reason why there is no datagram. The first rule that applies
-- decides.
use Rattle.std.specs.Prelude.{ℕ, nat_lt, Bool, length, if◌then◌else◌, Result, Ok, Err}
use Rattle.cd_packet.specs.declared.datagram.Reason.{Reason}
use Rattle.cd_packet.specs.declared.datagram.Reason.TheVariants.{Length, Cut}
use Rattle.cd_packet.specs.declared.packet.Packet.{Packet}

infixl 10 ◌>>=◌
-- one reading and then another, which knows what the first gave
abbrev pub ◌>>=◌ : {A B : Type 0} → Result A Reason → (A → Result B Reason) → Result B Reason
(Ok x) >>= read = read x
(Err why) >>= read = Err why

-- where this holds there is no datagram, for this reason
abbrev pub skip_if : Bool → Reason → Result (Unit {0}) Reason
skip_if b why = if b then Err why else Ok tt

-- why bytes that are needed are missing: they were not captured, or the packet never had them
abbrev pub missing_why : Packet → Reason
missing_why p = if nat_lt (length p.bytes) p.original then Cut else Length

-- the bytes up to this offset are needed
abbrev pub needs : ℕ → Packet → Result (Unit {0}) Reason
needs end p = skip_if (nat_lt (length p.bytes) end) (missing_why p)
