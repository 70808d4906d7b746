-- The block parameters of a preamble, once it is read.
use Rattle.std.proofs.Common.{◌≡◌, ℕ, List, [], ◌∷◌, Ok, Err, ◌&&◌, refl, ap, sym, ◌∙◌}
use Rattle.std.specs.List.{list_all}
use Rattle.std.specs.Prelude.{ok_or}
use Rattle.cd_block.specs.declared.params.Params.{Params}
use Rattle.cd_cbor.specs.declared.item.Item.{Item}
use Rattle.cd_cbor.specs.declared.item.Item.TheViews.{out-Item}
use Rattle.cd_file.specs.declared.preamble.Preamble.{Preamble}
use Rattle.cd_file.specs.declared.refusal.FileWhy.TheVariants.{NotCdns}
use Rattle.cd_file.specs.declared.reading.fault.ItemFault.{ItemFault}
use Rattle.cd_file.specs.declared.reading.fault.ItemFault.TheVariants as fault
use Rattle.cd_file.specs.Refusing.{Refusing, ◌>>=◌}
use Rattle.cd_file.specs.Kinds.{pairs_in}
use Rattle.cd_file.specs.MapReading.{fields_of}
use Rattle.cd_file.specs.Putting.{map_or}
use Rattle.cd_file.specs.ItemReading.{Reads}
use Rattle.cd_file.specs.ReadHead.{preamble_table, no_preamble, has_ticks, have_ticks, judged_preamble, read_params}

pub ticks_of_all : (entries : List Params) → have_ticks entries ≡ list_all has_ticks entries
unfolding have_ticks
ticks_of_all [] = refl
ticks_of_all (entry ∷ entries) = ap (λ b. has_ticks entry && b) (ticks_of_all entries)

-- a reading that goes on, in two steps or in three
grouped : {A B C : Type 0} (first : Refusing A) (second : A → Refusing B) (third : B → Refusing C) → (first >>= (λ a. second a >>= third)) ≡ ((first >>= second) >>= third)
grouped (Ok a) second third = refl
grouped (Err why) second third = refl

abbrev preamble_in : Item → Refusing Preamble
preamble_in item = map_or NotCdns preamble_table no_preamble item

read_by : (item : Item) → read_params item ≡ (preamble_in item >>= judged_preamble)
unfolding read_params
read_by item = grouped (ok_or (pairs_in (out-Item item)) NotCdns) (fields_of preamble_table no_preamble) judged_preamble

module _ (item : Item) (end : ℕ) where
  pub params_fault : (f : ItemFault) → Reads (λ (p : Preamble). p) (Err f) (preamble_in item) end → Reads (λ (ps : List Params). ps) (Err f) (read_params item) end
  params_fault fault.NoMemory reads = tt
  params_fault (fault.Refused why) reads = read_by item ∙ rw reads refl

  pub params_judged : (preamble : Preamble) (next : ℕ) → Reads (λ (p : Preamble). p) (Ok (preamble, next)) (preamble_in item) end → (judged : Refusing (List Params)) → judged ≡ judged_preamble preamble →
      read_params item ≡ judged
  params_judged preamble next reads judged is = read_by item ∙ rw reads.0 (sym is)
