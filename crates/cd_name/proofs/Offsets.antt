-- A map from suffixes to offsets, seen as the suffixes that stand.
use Rattle.std.specs.Prelude.{IfSome, OnOk, OnErr}
use Rattle.std.proofs.Common.{◌≡◌, ℕ, ◌<◌, Bool, false, List, [], ◌∷◌, ◌++◌, length, map, take, Option, Some, None, Result, Ok, Err, refl, sym, ap, ◌∙◌, inl, inr, subst}
use Rattle.std.specs.List.{All, AllByRecursion, IsDistinct}
use Rattle.std.specs.Map.{lookup, keys_of}
use Rattle.std.specs.Str.{bytes_eq}
use Rattle.std.proofs.lemmas.Bool.{cases_Bool}
use Rattle.std.proofs.lemmas.List.{map-append, length-map, take-map}
use Rattle.std.proofs.Math.Seq.{take-append_seam}
use Rattle.std.proofs.lemmas.List.Elements.{All-head, All-tail, All-nil, All-cons, All-append}
use Rattle.std.proofs.lemmas.Slice.Eq.{bytes_eq-Decides}
use Rattle.indexmap.specs.IndexMap.{insert_entry}
use Rattle.indexmap.proofs.MapLemmas.{absent_from_lookup, insert_entry-absent}
use Rattle.cd_name.specs.WrittenNames.{Suffix, least_offset, suffix_at}
use Rattle.cd_name.proofs.LeastOffsets.{IsNoneOf, least_offset-none}
use Rattle.cd_name.proofs.WrittenSteps.{suffix_at-near}

-- an entry of the map
abbrev pub Entry : Type 0
Entry = List ℕ × ℕ

-- the suffix that an entry stands for
abbrev pub suffix_of : Entry → Suffix
suffix_of e = record { name = e.0; offset = e.1 }

-- a name that is no key is none of the suffixes
no_key_none : (es : List Entry) (name : List ℕ) → AllByRecursion (λ k. bytes_eq name k ≡ false) (keys_of es) → IsNoneOf name (map suffix_of es)
no_key_none [] name apart = tt
no_key_none (e ∷ es) name apart = (apart.0, no_key_none es name apart.1)

-- what the map has for a suffix is the least offset at which it stands
pub lookup_least : (es : List Entry) (name : List ℕ) → IsDistinct bytes_eq (keys_of es) → lookup (bytes_eq name) es ≡ least_offset (map suffix_of es) name
unfolding least_offset IsDistinct
lookup_least [] name distinct = refl
lookup_least (e ∷ es) name distinct =
    elim (cases_Bool (bytes_eq name e.0)) [
      | inl same ↦
          (let is : name ≡ e.0 = (bytes_eq-Decides name e.0).0 same in
          let none : least_offset (map suffix_of es) name ≡ None =
          least_offset-none (map suffix_of es) name (no_key_none es name (subst (λ n. AllByRecursion (λ k. bytes_eq n k ≡ false) (keys_of es)) (sym is) distinct.0)) in
          rw (same, none) refl)
      | inr other ↦ rw other (lookup_least es name distinct.1)
    ]

-- an offset in the map is one below 16,384
pub lookup_near : (es : List Entry) (test : List ℕ → Bool) (offset : ℕ) → All (λ (e : Entry). e.1 < 16384) es → lookup test es ≡ Some offset → offset < 16384
lookup_near [] test offset near h = absurd (cc h)
lookup_near (e ∷ es) test offset near h =
    elim (cases_Bool (test e.0)) [
      | inl same ↦
          (let is : e.1 ≡ offset = cc (same, h) in
          subst (λ n. n < 16384) is (All-head (λ (e : Entry). e.1 < 16384) e es near))
      | inr other ↦ lookup_near es test offset (All-tail (λ (e : Entry). e.1 < 16384) e es near) (rw other at h)
    ]

-- each offset that the map has is one below 16,384
pub lookup_if_near : (r : Option ℕ) → ((offset : ℕ) → r ≡ Some offset → offset < 16384) → IfSome r (λ offset. offset < 16384)
lookup_if_near None near = tt
lookup_if_near (Some offset) near = near offset refl

-- the entries after a key that is new
with_entry : (es new : List Entry) (name : List ℕ) (offset : ℕ) → IsDistinct bytes_eq (keys_of es) →
    least_offset (map suffix_of es) name ≡ None → new ≡ insert_entry bytes_eq es name offset → new ≡ es ++ (name, offset) ∷ []
with_entry es new name offset distinct none h =
    let absent : lookup (bytes_eq name) es ≡ None = lookup_least es name distinct ∙ none in
    h ∙ insert_entry-absent bytes_eq name offset es (absent_from_lookup (bytes_eq name) es absent)

-- offsets below 16,384 stay so, whether or not one is put in
pub still_near : {A B : Type 0} (r : Result A B) (es new : List Entry) (name : List ℕ) (offset : ℕ) → IsDistinct bytes_eq (keys_of es) →
    least_offset (map suffix_of es) name ≡ None → OnOk r (new ≡ insert_entry bytes_eq es name offset) → OnErr r (new ≡ es) →
    All (λ (e : Entry). e.1 < 16384) es → offset < 16384 → All (λ (e : Entry). e.1 < 16384) new
still_near (Ok _) es new name offset distinct none ok err near small =
    subst (λ l. All (λ (e : Entry). e.1 < 16384) l) (sym (with_entry es new name offset distinct none ok)) (All-append (λ (e : Entry). e.1 < 16384) es ((name, offset) ∷ []) near
    (All-cons (λ (e : Entry). e.1 < 16384) (name, offset) [] small (All-nil (λ (e : Entry). e.1 < 16384))))
still_near (Err _) es new name offset distinct none ok err near small = subst (λ l. All (λ (e : Entry). e.1 < 16384) l) (sym err) near

-- what stands after a suffix that is put in
pub view_with_entry : (standing : List Suffix) (es new : List Entry) (name : List ℕ) (offset : ℕ) → map suffix_of es ≡ standing → IsDistinct bytes_eq (keys_of es) →
    least_offset standing name ≡ None → offset < 16384 → new ≡ insert_entry bytes_eq es name offset → map suffix_of new ≡ standing ++ suffix_at name offset
view_with_entry standing es new name offset view distinct none small h =
    let none2 : least_offset (map suffix_of es) name ≡ None = ap (λ s. least_offset s name) view ∙ none in
    let one : map suffix_of ((name, offset) ∷ []) ≡ suffix_at name offset = sym (suffix_at-near name offset small) in
    ap (λ l. map suffix_of l) (with_entry es new name offset distinct none2 h) ∙ map-append suffix_of es ((name, offset) ∷ [])
    ∙ ap (λ l. l ++ map suffix_of ((name, offset) ∷ [])) view ∙ ap (λ l. standing ++ l) one

-- the first entries stand for the suffixes that stood
pub view_of_front : (standing more : List Suffix) (es later : List Entry) → map suffix_of es ≡ standing → map suffix_of later ≡ standing ++ more →
    map suffix_of (take (length es) later) ≡ standing
view_of_front standing more es later view grown =
    let size : length es ≡ length standing = sym (length-map es suffix_of) ∙ ap length view in
    sym (take-map suffix_of (length es) later) ∙ ap (λ l. take (length es) l) grown ∙ ap (λ k. take k (standing ++ more)) size ∙ take-append_seam standing more
