-- What is put into a field of a map is what the line of its key reads.
use Rattle.std.proofs.Common.{◌≡◌, ℕ, List, Option, Some, Result, Ok, Err, ap, sym, ◌∙◌}
use Rattle.std.specs.Prelude.{Bool, pos}
use Rattle.cd_file.specs.declared.reading.fault.ItemFault.{ItemFault}
use Rattle.cd_file.specs.declared.reading.fault.ItemFault.TheVariants as fault
use Rattle.cd_file.specs.Refusing.{Refusing, ◌>>=◌}
use Rattle.cd_file.specs.Kinds.{Kind}
use Rattle.cd_file.specs.MapReading.{Line, line_of, read_by, read_and_put, read_within, map_from}
use Rattle.cd_file.specs.ItemReading.{Reads, ReadsItem, Puts, PutsItem}
use Rattle.cd_file.specs.Putting.{Places}
use Rattle.cd_file.proofs.LinesRead.{line_put}

-- what is read into a place is read into the fields that have it
puts_then : {A F : Type 0} (set : A → F → F) (old : F) (place : A) (reading : Refusing A) (end : ℕ) (result : Result ℕ ItemFault) → Puts place result reading end →
    Puts (set place old) result (reading >>= (λ value. Ok (set value old))) end
puts_then set old place reading end (Ok next) puts = (ap (λ r. r >>= (λ value. Ok (set value old))) puts.0, puts.1)
puts_then set old place reading end (Err (fault.Refused reason)) puts = ap (λ r. r >>= (λ value. Ok (set value old))) puts
puts_then set old place reading end (Err fault.NoMemory) puts = tt

-- what is read and put into a place is read into it
pub put_in : {A : Type 0} (place : A) (result : Result ℕ ItemFault) (reading : Refusing A) (end : ℕ) (read : Result (A × ℕ) ItemFault) → Reads (λ (x : A). x) read reading end →
    Places (λ value. place ≡ value) read result → Puts place result reading end
put_in place result reading end (Ok x) reads places = rw places.1 (reads.0 ∙ ap Ok (sym places.0), reads.1)
put_in place result reading end (Err (fault.Refused reason)) reads places = rw places reads
put_in place result reading end (Err fault.NoMemory) reads places = rw places tt

module _ {F : Type 0} (table : List (Line F)) (key depth at : ℕ) (bytes : List ℕ) (old : F) (result : Result ℕ ItemFault) where
  -- the value of a key is put into a field
  pub puts : {A : Type 0} (kind : Kind A) (set : A → F → F) (is_required : Bool) → line_of table key ≡ Some (record { key = key; is_required = is_required; read = read_and_put kind set key }) →
      (read : Result (A × ℕ) ItemFault) (place : A) → ReadsItem (λ (x : A). x) read depth bytes at (kind (pos key)) → Places (λ value. place ≡ value) read result →
      PutsItem (set place old) result depth bytes at (λ item. read_by (line_of table key) item old)
  puts kind set is_required line read place reads places = λ item end stands.
      rw line
      (line_put kind key set old (set place old) (λ value. place ≡ value) depth bytes at (λ inner value is same. ap (λ v. set v old) same) read result reads places item end stands)

  -- the value of a key is put into a field that may be absent
  pub puts_some : {A : Type 0} (kind : Kind A) (set : Option A → F → F) (is_required : Bool) →
      line_of table key ≡ Some (record { key = key; is_required = is_required; read = read_and_put kind (λ value. set (Some value)) key }) → (read : Result (A × ℕ) ItemFault) (place : Option A) →
      ReadsItem (λ (x : A). x) read depth bytes at (kind (pos key)) → Places (λ value. place ≡ Some value) read result →
      PutsItem (set place old) result depth bytes at (λ item. read_by (line_of table key) item old)
  puts_some kind set is_required line read place reads places = λ item end stands.
      rw line
      (line_put kind key (λ value. set (Some value)) old (set place old) (λ value. place ≡ Some value) depth bytes at (λ inner value is same. ap (λ v. set v old) same) read result reads places item
      end stands)

  -- the value of a key is read into a field
  pub puts_read : {A : Type 0} (kind : Kind A) (set : A → F → F) (is_required : Bool) → line_of table key ≡ Some (record { key = key; is_required = is_required; read = read_and_put kind set key }) →
      (place : A) → PutsItem place result depth bytes at (kind (pos key)) → PutsItem (set place old) result depth bytes at (λ item. read_by (line_of table key) item old)
  puts_read kind set is_required line place reads = λ item end stands. rw line (puts_then set old place (kind (pos key) item) end result (reads item end stands))

  -- the entries of a map within are read into the fields around it
  pub puts_within : (within : List (Line F)) (is_required : Bool) → line_of table key ≡ Some (record { key = key; is_required = is_required; read = read_within within key }) → (new : F) →
      PutsItem new result depth bytes at (map_from within old (pos key)) → PutsItem new result depth bytes at (λ item. read_by (line_of table key) item old)
  puts_within within is_required line new puts_new = λ item end stands. rw line (puts_new item end stands)
