-- An entry whose key was met or not, and one that is passed over.
use Rattle.std.proofs.Common.{◌≡◌, ℕ, zero, suc, List, ◌∷◌, get_or, Option, Some, None, Result, Ok, Err, Bool, true, false, not, ◌||◌, option_map, replicate, refl, ap, sym, ◌∙◌}
use Rattle.std.specs.Prelude.{ℤ}
use Rattle.cd_cbor.specs.declared.item.Item.{Item}
use Rattle.cd_cbor.specs.declared.item.Item.TheOpen.{Item-F}
use Rattle.cd_file.specs.declared.refusal.FileWhy.TheVariants as refusal
use Rattle.cd_file.specs.declared.reading.fault.ItemFault.{ItemFault}
use Rattle.cd_file.specs.declared.reading.fault.ItemFault.TheVariants as fault
use Rattle.cd_file.specs.declared.reading.met.Met.{Met}
use Rattle.cd_file.specs.Kinds.{integer_in}
use Rattle.cd_file.specs.MapReading.{Line, is_met, same_key, value_read, entry_by}
use Rattle.cd_file.specs.Meeting.{is_kept, kept_at, Keeps, Meets}
use Rattle.cd_file.specs.ItemReading.{Puts, number_in, key_by}

-- no place is taken
get_none : (n i : ℕ) → get_or (replicate n false) i false ≡ false
get_none zero i = refl
get_none (suc n) zero = refl
get_none (suc n) (suc i) = get_none n i

pub none_at : (n : ℕ) (place : Option ℕ) (among : Bool) → among ≡ false → kept_at place (replicate n false) among ≡ false
none_at n (Some i) among is = get_none n i
none_at n None among is = is

-- an integer key is the integer of its item
pub integer_by : (item : Item-F Item) → integer_in item ≡ option_map key_by (number_in item)
integer_by (Item-F.Uint n) = refl
integer_by (Item-F.Nint n) = refl
integer_by (Item-F.Bytes b) = refl
integer_by (Item-F.Text t) = refl
integer_by (Item-F.Array items) = refl
integer_by (Item-F.Map pairs) = refl
integer_by (Item-F.Other b) = refl

module _ {F : Type 0} (table : List (Line F)) (key : ℤ) (value : Item) (end : ℕ) (before after : Met) (keys : List ℤ) (keeps : Keeps before keys) (fields : F) where
  -- one more key is met
  still_kept : ((other : ℤ) → is_kept after other ≡ (same_key other key || is_kept before other)) → Keeps after (key ∷ keys)
  unfolding Keeps is_met
  still_kept kept other = kept other ∙ ap (λ b. same_key other key || b) (keeps other)

  key_met : (was : Bool) → is_kept before key ≡ was → is_met keys key ≡ was
  unfolding Keeps
  key_met was is = sym (keeps key) ∙ is

  -- a key that was not met before
  pub value_met : (fields_new : F) (result : Result ℕ ItemFault) → true ≡ not (is_kept before key) →
      ((other : ℤ) → is_kept after other ≡ (same_key other key || is_kept before other)) → Puts fields_new result (value_read table key value fields) end →
      Meets after fields_new result (entry_by table (Some key) value (record { met = keys; fields = fields })) end
  unfolding entry_by
  value_met fields_new (Ok next) fresh kept puts =
      let new : is_met keys key ≡ false = key_met false (not_fresh (is_kept before key) fresh) in
      rw (new, puts.0) ((key ∷ keys, refl, still_kept kept), puts.1)
    where
      not_fresh : (b : Bool) → true ≡ not b → b ≡ false
      not_fresh true e = e
      not_fresh false e = refl
  value_met fields_new (Err fault.NoMemory) fresh kept puts = tt
  value_met fields_new (Err (fault.Refused reason)) fresh kept puts =
      let new : is_met keys key ≡ false = key_met false (not_fresh (is_kept before key) fresh) in
      rw (new, puts) refl
    where
      not_fresh : (b : Bool) → true ≡ not b → b ≡ false
      not_fresh true e = e
      not_fresh false e = refl

  -- a key that was
  pub key_repeated : (fields_new : F) → false ≡ not (is_kept before key) →
      Meets after fields_new (Err (fault.Refused (refusal.Repeated key))) (entry_by table (Some key) value (record { met = keys; fields = fields })) end
  unfolding entry_by
  key_repeated fields_new old =
      let met : is_met keys key ≡ true = key_met true (not_old (is_kept before key) old) in
      rw met refl
    where
      not_old : (b : Bool) → false ≡ not b → b ≡ true
      not_old true e = refl
      not_old false e = e
