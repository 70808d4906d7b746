-- The entries of a map that are read one after another, as a loop reads them.
use Rattle.std.proofs.Common.{◌≡◌, ℕ, zero, suc, ◌+◌, ◌<◌, ◌≤◌, List, [], ◌∷◌, length, Option, Some, None, Result, Ok, Err, Bool, true, false, not, ◌&&◌, find, if◌then◌else◌, refl, ap, sym, subst, ◌∙◌, arith}
use Rattle.std.specs.Prelude.{ℤ, pos, All}
use Rattle.cd_cbor.specs.declared.item.Item.{Item}
use Rattle.cd_cbor.specs.declared.item.Item.TheViews.{out-Item}
use Rattle.cd_cbor.specs.declared.fault.Why.TheVariants as why
use Rattle.cd_cbor.proofs.Growing.{item_within}
use Rattle.cd_file.specs.declared.reading.fault.ItemFault.{ItemFault}
use Rattle.cd_file.specs.declared.reading.fault.ItemFault.TheVariants as fault
use Rattle.cd_file.specs.declared.reading.met.Met.{Met}
use Rattle.cd_file.specs.Refusing.{Refusing, ◌>>=◌}
use Rattle.cd_file.specs.Kinds.{integer_in}
use Rattle.cd_file.specs.ReadFile.{one_less}
use Rattle.cd_file.specs.MapReading.{Line, Course, is_met, entry_by, entries_read, first_missing, complete, fields_of}
use Rattle.cd_file.specs.Meeting.{is_kept, Keeps, Meets}
use Rattle.cd_file.specs.Putting.{required_keys}
use Rattle.cd_file.specs.ItemReading.{ItemAt, PairsAt, Puts, ended_at}
use Rattle.cd_file.proofs.HeadsOf.{more_left}
use Rattle.cd_file.proofs.Elements.{past_break, not_some, some_same}

-- where a break or the number ends items at an offset past the bytes, the end is there
ends_past : (bytes : List ℕ) (here end : ℕ) (left : Option ℕ) → length bytes ≤ here → ended_at left bytes here ≡ Some end → here ≡ end
ends_past bytes here end None past is = absurd (not_some end (sym (rw (past_break bytes here past) refl) ∙ is))
ends_past bytes here end (Some zero) past is = some_same here end is
ends_past bytes here end (Some (suc n)) past is = absurd (not_some end (sym (more_left n bytes here) ∙ is))

module _ {F : Type 0} (table : List (Line F)) (depth : ℕ) (bytes : List ℕ) where
  -- In the course of reading a map these are the fields, and what reading the pairs that are left gives from there is what
  -- reading all gives. So many pairs were passed, each with a byte at least.
  pub record Visits (before : F) (pairs : List (Item × Item)) (end : ℕ) (left : Option ℕ) (here passed : ℕ) (met : Met) (fields : F) : Type 0 where
    pub rest : List (Item × Item)
    pub keys : List ℤ
    pub keeps : Keeps met keys
    pub stands : PairsAt depth bytes left here rest end
    pub reads : entries_read table pairs (record { met = []; fields = before }) ≡ entries_read table rest (record { met = keys; fields = fields })
    pub far : passed ≤ here

  -- what the call says that reads one entry
  abbrev pub ReadsEntry : ℕ → Met → F → Met → F → Result ℕ ItemFault → Type 0
  ReadsEntry here met fields met_new fields_new result =
      (keys : List ℤ) (pair : Item × Item) (middle end : ℕ) → Keeps met keys → ItemAt depth bytes here pair.0 middle → ItemAt depth bytes middle pair.1 end →
      Meets met_new fields_new result (entry_by table (integer_in (out-Item pair.0)) pair.1 (record { met = keys; fields = fields })) end

  -- what the call says that ends a map
  abbrev pub Completes : ℕ → Met → F → Result ℕ ItemFault → Type 0
  Completes e met fields result = (keys : List ℤ) → Keeps met keys → Puts fields result (complete (first_missing table keys) fields) e

  module _ (before : F) (pairs : List (Item × Item)) (end : ℕ) where
    -- before the first
    pub visits_none : (left : Option ℕ) (at : ℕ) (met : Met) → ((key : ℤ) → is_kept met key ≡ false) → PairsAt depth bytes left at pairs end → Visits before pairs end left at 0 met before
    unfolding Keeps is_met
    visits_none left at met none stands = record {
      rest = pairs;
      keys = [];
      keeps = none;
      stands = stands;
      reads = refl;
      far = omega arith;
    }

    module _ (left : Option ℕ) (here passed : ℕ) (met : Met) (fields : F) (so_far : Visits before pairs end left here passed met fields) where
      -- what all entries give
      course_of : (reading : Refusing (Course F)) → entries_read table pairs (record { met = []; fields = before }) ≡ reading →
          fields_of table before pairs ≡ (reading >>= (λ course. complete (first_missing table course.met) course.fields))
      unfolding fields_of
      course_of reading is = rw is refl

      -- at the end of all
      ended_by : (rest : List (Item × Item)) (keys : List ℤ) (e : ℕ) (result : Result ℕ ItemFault) → Keeps met keys → PairsAt depth bytes left here rest end →
          (rest ≡ [] → e ≡ end) → (PairsAt depth bytes left here rest end → rest ≡ []) →
          entries_read table pairs (record { met = []; fields = before }) ≡ entries_read table rest (record { met = keys; fields = fields }) → Completes e met fields result →
          Puts fields result (fields_of table before pairs) end
      unfolding entries_read
      ended_by rest keys e result keeps stands same none reads completes =
          let empty = none stands in
          let all = course_of (entries_read table rest (record { met = keys; fields = fields })) reads in
          let is : fields_of table before pairs ≡ complete (first_missing table keys) fields = all ∙ rw empty refl in
          rw is (subst (λ k. Puts fields result (complete (first_missing table keys) fields) k) (same empty) (completes keys keeps))

      none_left : (e : ℕ) (rest : List (Item × Item)) → ended_at left bytes here ≡ Some e → PairsAt depth bytes left here rest end → rest ≡ []
      none_left e [] is stands = refl
      none_left e (pair ∷ rest) is stands = absurd (not_some e (sym stands.0 ∙ is))

      same_end : (e : ℕ) (rest : List (Item × Item)) → ended_at left bytes here ≡ Some e → PairsAt depth bytes left here rest end → rest ≡ [] → e ≡ end
      same_end e [] is stands none = some_same e end (sym is ∙ stands)
      same_end e (pair ∷ rest) is stands none = absurd cc

      pub visits_all : (e : ℕ) (result : Result ℕ ItemFault) → ended_at left bytes here ≡ Some e → Completes e met fields result → Puts fields result (fields_of table before pairs) end
      visits_all e result is completes =
          ended_by so_far.rest so_far.keys e result so_far.keeps so_far.stands (same_end e so_far.rest is so_far.stands) (none_left e so_far.rest is) so_far.reads completes

      module _ (met_new : Met) (fields_new : F) where
        -- one that fails
        fails_by : (rest : List (Item × Item)) (keys : List ℤ) (f : ItemFault) → Keeps met keys → PairsAt depth bytes left here rest end → ended_at left bytes here ≡ None →
            ReadsEntry here met fields met_new fields_new (Err f) →
            entries_read table pairs (record { met = []; fields = before }) ≡ entries_read table rest (record { met = keys; fields = fields }) →
            Puts fields_new (Err f) (fields_of table before pairs) end
        unfolding entries_read
        fails_by [] keys f keeps stands none entry reads = absurd (not_some end (sym none ∙ stands))
        fails_by (pair ∷ rest) keys fault.NoMemory keeps stands none entry reads = tt
        fails_by (pair ∷ rest) keys (fault.Refused reason) keeps stands none entry reads =
            let one : entry_by table (integer_in (out-Item pair.0)) pair.1 (record { met = keys; fields = fields }) ≡ Err reason =
            entry keys pair stands.1.0 stands.1.1 keeps stands.1.2 stands.1.3 in
            course_of _ reads ∙ rw one refl

        pub visits_fault : (f : ItemFault) → ended_at left bytes here ≡ None → ReadsEntry here met fields met_new fields_new (Err f) → Puts fields_new (Err f) (fields_of table before pairs) end
        visits_fault f none entry = fails_by so_far.rest so_far.keys f so_far.keeps so_far.stands none entry so_far.reads

        module _ (all : All (λ byte. byte < 256) bytes) where
          -- one more
          more_by : (rest : List (Item × Item)) (keys : List ℤ) (next : ℕ) → Keeps met keys → PairsAt depth bytes left here rest end → ended_at left bytes here ≡ None →
              ReadsEntry here met fields met_new fields_new (Ok next) →
              entries_read table pairs (record { met = []; fields = before }) ≡ entries_read table rest (record { met = keys; fields = fields }) → passed ≤ here →
              Visits before pairs end (one_less left) next (passed + 1) met_new fields_new
          unfolding entries_read
          more_by [] keys next keeps stands none entry reads far = absurd (not_some end (sym none ∙ stands))
          more_by (pair ∷ rest) keys next keeps stands none entry reads far =
              let one = entry keys pair stands.1.0 stands.1.1 keeps stands.1.2 stands.1.3 in
              let first = item_within depth bytes all why.Break here pair.0 stands.1.0 stands.1.2 in
              let second = item_within depth bytes all why.Break stands.1.0 pair.1 stands.1.1 stands.1.3 in
              record {
                rest = rest;
                keys = one.0.0;
                keeps = one.0.2;
                stands = rw one.1 stands.1.4;
                reads = reads ∙ rw one.0.1 refl;
                far = omega (arith, first.0, second.0, one.1, far);
              }

          pub visits_more : (next : ℕ) → ended_at left bytes here ≡ None → ReadsEntry here met fields met_new fields_new (Ok next) →
              Visits before pairs end (one_less left) next (passed + 1) met_new fields_new
          visits_more next none entry = more_by so_far.rest so_far.keys next so_far.keeps so_far.stands none entry so_far.reads so_far.far

      -- after as many as there are bytes
      module _ (all : All (λ byte. byte < 256) bytes) where
        none_past : (rest : List (Item × Item)) → length bytes ≤ here → PairsAt depth bytes left here rest end → rest ≡ []
        none_past [] past stands = refl
        none_past (pair ∷ rest) past stands =
            let ahead = item_within depth bytes all why.Break here pair.0 stands.1.0 stands.1.2 in absurd (omega (arith, ahead.0, ahead.1))

        end_past : (rest : List (Item × Item)) → length bytes ≤ here → PairsAt depth bytes left here rest end → rest ≡ [] → here ≡ end
        end_past [] past stands none = ends_past bytes here end left past stands
        end_past (pair ∷ rest) past stands none = absurd cc

        pub visits_past : (result : Result ℕ ItemFault) → length bytes ≤ passed → Completes here met fields result → Puts fields result (fields_of table before pairs) end
        visits_past result past completes =
            let gone : length bytes ≤ here = omega (arith, so_far.far) in
            ended_by so_far.rest so_far.keys here result so_far.keeps so_far.stands (end_past so_far.rest gone so_far.stands) (none_past so_far.rest gone) so_far.reads completes

-- the least required key that was not met, by the keys of the table
missing_by : (is_required was_met : Bool) (key : ℕ) (p : ℕ → Bool) (keys : List ℕ) (found : Option ℕ) → p key ≡ not was_met → found ≡ find p keys →
    (if is_required && not was_met then Some key else found) ≡ find p (if is_required then key ∷ keys else keys)
missing_by false was_met key p keys found is same = same
missing_by true true key p keys found is same = rw is same
missing_by true false key p keys found is same = rw is refl

module _ (met : Met) (keys : List ℤ) (keeps : Keeps met keys) where
  pub missing_found : {F : Type 0} (table : List (Line F)) → first_missing table keys ≡ find (λ key. not (is_kept met (pos key))) (required_keys table)
  unfolding first_missing Keeps
  missing_found [] = refl
  missing_found (line ∷ table) =
      missing_by line.is_required (is_met keys (pos line.key)) line.key (λ key. not (is_kept met (pos key))) (required_keys table) (first_missing table keys) (ap not (keeps (pos line.key)))
      (missing_found table)
