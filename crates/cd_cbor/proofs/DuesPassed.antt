-- What is passed of what is due, and what a scan keeps of it.
use Rattle.std.proofs.Common.{◌≡◌, ℕ, ◌+◌, ◌-◌, ◌≤◌, false, List, length, drop, Option, Ok, Err, refl, ap, sym, subst, ◌∙◌, arith}
use Rattle.std.proofs.lemmas.List.{length-drop}
use Rattle.cd_cbor.specs.Readings.{GivesFault, LiesWithin}
use Rattle.cd_cbor.specs.Events.{innermost}
use Rattle.cd_cbor.specs.Scanning.{done_front, after_done, due_front, Mark, Passes}
use Rattle.cd_cbor.specs.declared.wanted.Wanted.{Wanted}
use Rattle.cd_cbor.specs.declared.head_passing.Done.{Done}
use Rattle.cd_cbor.specs.declared.scan.Due.{Due}
use Rattle.cd_cbor.specs.declared.scan.Due.TheVariants as due
use Rattle.cd_cbor.specs.declared.fault.CborFault.{CborFault}
use Rattle.cd_cbor.specs.declared.fault.CborFault.TheVariants as fault
use Rattle.cd_cbor.proofs.Binds.{fault_first}

module _ (depth : ℕ) (w : List Wanted) (room : ℕ) (top : Option Wanted) (bytes : List ℕ) (left : room ≡ depth - length w) (inner : top ≡ innermost w) where
  -- a head
  pub head_moves : (d : Done) (size : ℕ) (new : List Wanted) (now : Due) → done_front room top bytes ≡ Ok (d, size) → after_done w d ≡ (new, now) → due_front depth w due.Head bytes ≡ Ok ((new, now), size)
  unfolding due_front
  head_moves d size new now read after =
      let found : done_front (depth - length w) (innermost w) bytes ≡ Ok (d, size) = rw (left, inner) at read in
      rw (found, after) refl

  -- a head that is none
  pub head_faults : (e : CborFault) → GivesFault e (done_front room top bytes) → GivesFault e (due_front depth w due.Head bytes)
  unfolding due_front
  head_faults e gives =
      let found : GivesFault e (done_front (depth - length w) (innermost w) bytes) = rw (left, inner) at gives in
      fault_first e (done_front (depth - length w) (innermost w) bytes) _ found

module _ (old : Mark) (depth at : ℕ) (w : List Wanted) (now : Due) (bytes held : List ℕ) (view : ◌≡◌ {A = Mark} (record { depth = depth; at = at; wants = w; due = now }) old) (there : held ≡ drop at bytes)
    (within : at ≤ length bytes) where
  -- a head, or a chunk, is passed
  pub passes_on : (new : List Wanted) (later : Due) (size : ℕ) → due_front depth w now held ≡ Ok ((new, later), size) → 1 ≤ size → size ≤ length held →
      Passes old (record { depth = depth; at = at + size; wants = new; due = later }) bytes (Ok false)
  passes_on new later size front some most =
      subst (λ m. Passes m (record { depth = depth; at = at + size; wants = new; due = later }) bytes (Ok false)) view
      (size, ap (due_front depth w now) (sym there) ∙ front, some, refl, omega (arith, most, ap length there, length-drop at bytes), refl)

  -- a fault is there
  pub passes_fault : (e : CborFault) (new : List Wanted) → GivesFault e (due_front depth w now held) → LiesWithin held e → new ≡ w → Passes old (record { depth = depth; at = at; wants = new; due = now }) bytes (Err e)
  passes_fault (fault.Bad place reason) new gives lies same =
      rw same
      (subst (λ m. Passes m (record { depth = depth; at = at; wants = w; due = now }) bytes (Err (fault.Bad place reason))) view
      (ap (due_front depth w now) (sym there) ∙ gives, omega (arith, lies, ap length there, length-drop at bytes), refl))
  passes_fault fault.NoMemory new gives lies same = absurd lies
