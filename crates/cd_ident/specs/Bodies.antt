-- What is kept of a payload, by the kind of its event.
use Rattle.std.specs.Prelude.{◌≡◌, ℕ, ⊤}
use Rattle.std.specs.Coded.{×_prop, Unit-prop}
use Rattle.std.proofs.Math.Nat.{ℕ_set}
use mathlib.Core.HLevel.{⊥_prop}
use Rattle.cd_message.specs.Valid.{Valid}
use Rattle.cd_message.proofs.ValidIsProp.{Valid-prop}
use Rattle.cd_ident.specs.declared.event.Kind.{Kind}
use Rattle.cd_ident.specs.declared.event.Kind.TheVariants.{Query, Response, Malformed, Discarded}
use Rattle.cd_ident.specs.declared.event.Body.{Body}
use Rattle.cd_ident.specs.declared.event.Body.TheVariants.{Message, Payload, Nothing}
use Rattle.cd_ident.specs.Headers.{qr_of}

-- a valid message with this QR
abbrev pub IsMessage : ℕ → Body → Type 0
IsMessage qr (Message m) = Valid m × (qr_of m.bits ≡ qr)
IsMessage qr (Payload p) = ⊥
IsMessage qr Nothing = ⊥

-- the bytes of a payload
abbrev pub IsPayload : Body → Type 0
IsPayload (Message m) = ⊥
IsPayload (Payload p) = ⊤
IsPayload Nothing = ⊥

-- nothing is kept
abbrev pub IsNothing : Body → Type 0
IsNothing (Message m) = ⊥
IsNothing (Payload p) = ⊥
IsNothing Nothing = ⊤

-- a query has a valid message with QR 0, a response one with QR 1, what is no message its bytes, and what is discarded
-- nothing
abbrev pub HasBody : Kind → Body → Type 0
HasBody Query body = IsMessage 0 body
HasBody Response body = IsMessage 1 body
HasBody Malformed body = IsPayload body
HasBody Discarded body = IsNothing body

-- a body is a valid message in one way at most
IsMessage-prop : (qr : ℕ) (body : Body) → IsProp (IsMessage qr body)
IsMessage-prop qr (Message m) = ×_prop (Valid-prop m) (ℕ_set (qr_of m.bits) qr)
IsMessage-prop qr (Payload p) = ⊥_prop
IsMessage-prop qr Nothing = ⊥_prop

-- it is a payload in one way at most
IsPayload-prop : (body : Body) → IsProp (IsPayload body)
IsPayload-prop (Message m) = ⊥_prop
IsPayload-prop (Payload p) = Unit-prop
IsPayload-prop Nothing = ⊥_prop

-- it is nothing in one way at most
IsNothing-prop : (body : Body) → IsProp (IsNothing body)
IsNothing-prop (Message m) = ⊥_prop
IsNothing-prop (Payload p) = ⊥_prop
IsNothing-prop Nothing = Unit-prop

-- it is that of its kind in one way at most, so that an event may keep this
pub HasBody-prop : (kind : Kind) (body : Body) → IsProp (HasBody kind body)
HasBody-prop Query body = IsMessage-prop 0 body
HasBody-prop Response body = IsMessage-prop 1 body
HasBody-prop Malformed body = IsPayload-prop body
HasBody-prop Discarded body = IsNothing-prop body
