-- Items that are read one after another, as a loop reads them.
use Rattle.std.proofs.Common.{◌≡◌, ℕ, zero, suc, ◌+◌, ◌<◌, ◌≤◌, List, [], ◌∷◌, ◌++◌, length, drop, Option, Some, None, Ok, Err, refl, ap, sym, ◌∙◌, arith, append_assoc}
use Rattle.std.specs.Prelude.{ℤ, All}
use Rattle.std.proofs.lemmas.List.{append-nil}
use Rattle.cd_cbor.specs.declared.item.Item.{Item}
use Rattle.cd_cbor.specs.declared.fault.Why.TheVariants as why
use Rattle.cd_cbor.proofs.Growing.{item_within}
use Rattle.cd_file.specs.declared.reading.fault.ItemFault.{ItemFault}
use Rattle.cd_file.specs.declared.reading.fault.ItemFault.TheVariants as fault
use Rattle.cd_file.specs.Refusing.{Refusing, ◌>>=◌}
use Rattle.cd_file.specs.Kinds.{Kind, each}
use Rattle.cd_file.specs.ReadFile.{begins_with_break, one_less}
use Rattle.cd_file.specs.ItemReading.{ItemsAt, ended_at, Reads, ReadsItem, Gathers, with_front}
use Rattle.cd_file.proofs.HeadsOf.{more_left}

-- no values before others
front_of_none : {A : Type 0} (reading : Refusing (List A)) → with_front [] reading ≡ reading
front_of_none (Ok values) = refl
front_of_none (Err reason) = refl

-- values before one more
front_of_more : {A : Type 0} (front : List A) (value : A) (reading : Refusing (List A)) → with_front front (reading >>= (λ values. Ok (value ∷ values))) ≡ with_front (front ++ value ∷ []) reading
front_of_more front value (Ok values) = ap Ok (sym (append_assoc front (value ∷ []) values))
front_of_more front value (Err reason) = refl

-- where a break or the number ends items at an offset past the bytes, the end is there
pub past_break : (bytes : List ℕ) (at : ℕ) → length bytes ≤ at → ◌≡◌ (begins_with_break (drop at bytes)) (begins_with_break [])
past_break [] zero past = refl
past_break [] (suc at) past = refl
past_break (b ∷ bytes) zero past = absurd (omega arith)
past_break (b ∷ bytes) (suc at) past = past_break bytes at (omega arith)

pub not_some : {A : Type 0} (x : A) → ◌≡◌ {A = Option A} None (Some x) → ⊥
not_some x h = cc

pub some_same : {A : Type 0} (x y : A) → ◌≡◌ {A = Option A} (Some x) (Some y) → x ≡ y
some_same x y h = cc

module _ {A : Type 0} (kind : Kind A) (key : ℤ) (depth : ℕ) (bytes : List ℕ) where
  -- before the first
  pub gathers_none : (left : Option ℕ) (at : ℕ) (values : List A) (items : List Item) (end : ℕ) → values ≡ [] → ItemsAt depth bytes left at items end →
      Gathers kind key depth bytes left at 0 values items end
  gathers_none left at values items end none stands = record {
    rest = items;
    stands = stands;
    reads = rw none (sym (front_of_none (each kind key items)));
    far = omega arith;
  }

  module _ (left : Option ℕ) (here passed : ℕ) (values : List A) (items : List Item) (end : ℕ) (so_far : Gathers kind key depth bytes left here passed values items end) where
    -- at the end of all
    ended_by : (rest : List Item) (e : ℕ) → ItemsAt depth bytes left here rest end → ended_at left bytes here ≡ Some e → each kind key items ≡ with_front values (each kind key rest) →
        (each kind key items ≡ Ok values) × (e ≡ end)
    unfolding each
    ended_by [] e stands is reads = (reads ∙ ap Ok (append-nil values), some_same e end (sym is ∙ stands))
    ended_by (item ∷ rest) e stands is reads = absurd (not_some e (sym stands.0 ∙ is))

    pub gathers_all : (e : ℕ) → ended_at left bytes here ≡ Some e → (each kind key items ≡ Ok values) × (e ≡ end)
    gathers_all e is = ended_by so_far.rest e so_far.stands is so_far.reads

    -- one that fails
    fails_by : (rest : List Item) (f : ItemFault) → ItemsAt depth bytes left here rest end → ended_at left bytes here ≡ None → ReadsItem (λ (v : A). v) (Err f) depth bytes here (kind key) →
        each kind key items ≡ with_front values (each kind key rest) → Reads (λ (vs : List A). vs) (Err f) (each kind key items) end
    unfolding each
    fails_by [] f stands none reads_item reads = absurd (not_some end (sym none ∙ stands))
    fails_by (item ∷ rest) fault.NoMemory stands none reads_item reads = tt
    fails_by (item ∷ rest) (fault.Refused reason) stands none reads_item reads =
        let one : kind key item ≡ Err reason = reads_item item stands.1.0 stands.1.1 in
        reads ∙ rw one refl

    pub gathers_fault : (f : ItemFault) → ended_at left bytes here ≡ None → ReadsItem (λ (v : A). v) (Err f) depth bytes here (kind key) → Reads (λ (vs : List A). vs) (Err f) (each kind key items) end
    gathers_fault f none reads_item = fails_by so_far.rest f so_far.stands none reads_item so_far.reads

    module _ (all : All (λ byte. byte < 256) bytes) where
      -- one more
      more_by : (rest : List Item) (value : A) (next : ℕ) (after : List A) → after ≡ values ++ value ∷ [] → ItemsAt depth bytes left here rest end → ended_at left bytes here ≡ None →
          ReadsItem (λ (v : A). v) (Ok (value, next)) depth bytes here (kind key) → each kind key items ≡ with_front values (each kind key rest) → passed ≤ here →
          Gathers kind key depth bytes (one_less left) next (passed + 1) after items end
      unfolding each
      more_by [] value next after is stands none reads_item reads far = absurd (not_some end (sym none ∙ stands))
      more_by (item ∷ rest) value next after is stands none reads_item reads far =
          let one = reads_item item stands.1.0 stands.1.1 in
          let same : next ≡ stands.1.0 = one.1 in
          let ahead = item_within depth bytes all why.Break here item stands.1.0 stands.1.1 in
          record {
            rest = rest;
            stands = rw same stands.1.2;
            reads = reads ∙ rw (one.0, is) (front_of_more values value (each kind key rest));
            far = omega (arith, ahead.0, far);
          }

      pub gathers_more : (value : A) (next : ℕ) (after : List A) → after ≡ values ++ value ∷ [] → ended_at left bytes here ≡ None →
          ReadsItem (λ (v : A). v) (Ok (value, next)) depth bytes here (kind key) → Gathers kind key depth bytes (one_less left) next (passed + 1) after items end
      gathers_more value next after is none reads_item = more_by so_far.rest value next after is so_far.stands none reads_item so_far.reads so_far.far

      -- after as many as there are bytes
      ended_past : (left : Option ℕ) → length bytes ≤ here → ended_at left bytes here ≡ Some end → here ≡ end
      ended_past None past is = absurd (not_some end (sym (rw (past_break bytes here past) refl) ∙ is))
      ended_past (Some zero) past is = some_same here end is
      ended_past (Some (suc n)) past is = absurd (not_some end (sym (more_left n bytes here) ∙ is))

      past_by : (rest : List Item) → length bytes ≤ here → ItemsAt depth bytes left here rest end → each kind key items ≡ with_front values (each kind key rest) →
          (each kind key items ≡ Ok values) × (here ≡ end)
      unfolding each
      past_by [] past stands reads = (reads ∙ ap Ok (append-nil values), ended_past left past stands)
      past_by (item ∷ rest) past stands reads =
          let ahead = item_within depth bytes all why.Break here item stands.1.0 stands.1.1 in absurd (omega (arith, ahead.0, ahead.1))

      pub gathers_past : length bytes ≤ passed → (each kind key items ≡ Ok values) × (here ≡ end)
      gathers_past past = past_by so_far.rest (omega (arith, so_far.far)) so_far.stands so_far.reads
