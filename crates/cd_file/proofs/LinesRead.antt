-- How the value of a key is read by its line.
use Rattle.std.proofs.Common.{◌≡◌, ℕ, List, [], ◌∷◌, Option, Some, None, Result, Ok, Err, refl, ap, sym, ◌∙◌}
use Rattle.std.specs.Prelude.{pos}
use Rattle.std.proofs.lemmas.Bool.{ne_eqb}
use Rattle.cd_cbor.specs.declared.item.Item.{Item}
use Rattle.cd_file.specs.declared.reading.fault.ItemFault.{ItemFault}
use Rattle.cd_file.specs.declared.reading.fault.ItemFault.TheVariants as fault
use Rattle.cd_file.specs.Kinds.{Kind, filled}
use Rattle.cd_file.specs.MapReading.{Line, line_of, read_by, read_and_put}
use Rattle.cd_file.specs.ItemReading.{ItemAt, ItemsAt, ended_at, ReadsItem, PutsItem}
use Rattle.cd_file.specs.Putting.{Places}
use Rattle.cd_file.proofs.Elements.{not_some}

-- a value of a kind is put into the fields
module _ {A F : Type 0} (kind : Kind A) (key : ℕ) (put : A → F → F) (old new : F) (Holds : A → Type 0) (depth : ℕ) (bytes : List ℕ) (at : ℕ)
    (set : (item : Item) (value : A) → kind (pos key) item ≡ Ok value → Holds value → new ≡ put value old) where
  pub line_put : (read : Result (A × ℕ) ItemFault) (result : Result ℕ ItemFault) → ReadsItem (λ (v : A). v) read depth bytes at (kind (pos key)) → Places Holds read result →
      PutsItem new result depth bytes at (λ item. read_and_put kind put key item old)
  line_put (Ok x) result reads places item end is =
      let one = reads item end is in
      rw (places.1, one.0) (ap Ok (sym (set item x.0 one.0 places.0)), one.1)
  line_put (Err fault.NoMemory) result reads places item end is = rw places tt
  line_put (Err (fault.Refused reason)) result reads places item end is =
      let one = reads item end is in
      rw (places, one) refl

-- what has no line is passed over
pub no_line : {F : Type 0} (table : List (Line F)) (key : ℕ) (fields : F) (depth : ℕ) (bytes : List ℕ) (at : ℕ) (result : Result ℕ ItemFault) → line_of table key ≡ None →
    ((item : Item) (end : ℕ) → ItemAt depth bytes at item end → result ≡ Ok end) → PutsItem fields result depth bytes at (λ item. read_by (line_of table key) item fields)
no_line table key fields depth bytes at result none passes item end is = rw (none, passes item end is) (refl, refl)

-- a key that is none of the keys of a table has no line
pub line_of_none : {F : Type 0} (key : ℕ) → line_of {F = F} [] key ≡ None
unfolding line_of
line_of_none key = refl

pub line_of_other : {F : Type 0} (line : Line F) (table : List (Line F)) (key : ℕ) → (key ≡ line.key → ⊥) → line_of table key ≡ None → line_of (line ∷ table) key ≡ None
unfolding line_of
line_of_other line table key apart none = rw (ne_eqb key line.key apart) none

-- an array that is not at its end at once has a value
module _ (depth : ℕ) (bytes : List ℕ) (left : Option ℕ) (next end : ℕ) where
  pub not_filled : (items : List Item) (e : ℕ) → ItemsAt depth bytes left next items end → ended_at left bytes next ≡ Some e → filled items ≡ None
  not_filled [] e stands is = refl
  not_filled (item ∷ items) e stands is = absurd (not_some e (sym stands.0 ∙ is))

  pub is_filled : (items : List Item) → ItemsAt depth bytes left next items end → ended_at left bytes next ≡ None → filled items ≡ Some items
  is_filled [] stands none = absurd (not_some end (sym none ∙ stands))
  is_filled (item ∷ items) stands none = refl
