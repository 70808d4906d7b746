-- An item that some bytes spell fits.
use Rattle.std.proofs.Common.{◌≡◌, ℕ, zero, suc, ◌^◌, ◌<◌, ◌≤◌, Bool, true, false, List, [], ◌∷◌, ◌++◌, length, inl, inr, refl, ap, ◌∙◌, arith, length-append}
use Rattle.std.specs.List.{concat, AllByRecursion}
use Rattle.std.proofs.lemmas.Str.{IsUtf8-append, IsUtf8-nil, IsUtf8-from_is_utf8, is_utf8-from_IsUtf8}
use Rattle.cd_cbor.specs.Spells.{Each, SpellsPair, SpellsString, SpellsPlain, is_unsigned, is_negative, is_string, is_chunked, is_simple, SpellsHolder, is_array, is_open_array, is_map, is_open_map, is_tagged, Spells, is_content, indefinite}
use Rattle.cd_cbor.specs.Fitting.{FitsPlain, fits_unsigned, fits_negative, fits_string, fits_other, FitsPair, fits_array, fits_map, Fits}
use Rattle.cd_cbor.specs.declared.item.Item.{Item}
use Rattle.cd_cbor.specs.declared.major_type.MajorType.TheVariants as major
use Rattle.cd_cbor.proofs.EachRead.{each_length}
use Rattle.cd_cbor.proofs.ItemsRead.{item_begins, pair_begins}

-- texts one after the other are a text
joined_content : (is_text : Bool) (chunks : List (List ℕ)) (s : List ℕ) → Each (SpellsString is_text) chunks s → is_content is_text (concat chunks) ≡ true
joined_content false chunks s has = refl
joined_content true [] s has = is_utf8-from_IsUtf8 [] IsUtf8-nil
joined_content true (chunk ∷ chunks) s has =
    is_utf8-from_IsUtf8 (chunk ++ concat chunks)
    (IsUtf8-append chunk (concat chunks) (IsUtf8-from_is_utf8 chunk (has.3).right) (IsUtf8-from_is_utf8 (concat chunks) (joined_content true chunks has.1 has.4)))

plain_fits : (Q : Item → List ℕ → Type 0) → ((item : Item) (s : List ℕ) → SpellsPlain item s → Q item s) → (item : Item) (s : List ℕ) → SpellsPlain item s → FitsPlain Q item
plain_fits Q plain item s (is_unsigned n h is) = fits_unsigned n h.small is
plain_fits Q plain item s (is_negative n h is) = fits_negative n h.small is
plain_fits Q plain item s (is_string is_text content h is) = fits_string is_text content h.short h.right is
plain_fits Q plain item s (is_chunked is_text content h is) =
    let right : is_content is_text content ≡ true = ap (is_content is_text) h.joined ∙ joined_content is_text h.chunks h.body h.each in
    fits_string is_text content h.short right is
plain_fits Q plain item s (is_simple n h high is) = fits_other s (plain item s (is_simple n h high is)) is

-- an item of few bytes fits
abbrev pub IsFit : (Item → Type 0) → (Item → List ℕ → Type 0) → Type 0
IsFit Fit P = (item : Item) (s : List ℕ) → length s < 2 ^ 64 → P item s → Fit item

each_fits : (Fit : Item → Type 0) (P : Item → List ℕ → Type 0) → IsFit Fit P → (items : List Item) (s : List ℕ) → length s < 2 ^ 64 → Each P items s → AllByRecursion Fit items
each_fits Fit P fit [] s few has = tt
each_fits Fit P fit (item ∷ items) s few has =
    let long : length s ≡ length (has.0 ++ has.1) = ap length has.2 in
    (fit item has.0 (omega (arith, length-append has.0 has.1)) has.3, each_fits Fit P fit items has.1 (omega (arith, length-append has.0 has.1)) has.4)

pairs_fit : (Fit : Item → Type 0) (P : Item → List ℕ → Type 0) → IsFit Fit P → (pairs : List (Item × Item)) (s : List ℕ) → length s < 2 ^ 64 → Each (SpellsPair P) pairs s →
    AllByRecursion (FitsPair Fit) pairs
pairs_fit Fit P fit [] s few has = tt
pairs_fit Fit P fit (pair ∷ pairs) s few has =
    let long : length s ≡ length (has.0 ++ has.1) = ap length has.2 in
    let both = has.3 in
    let inner : length has.0 ≡ length (both.0 ++ both.1) = ap length both.2 in (
      (
        fit pair.0 both.0 (omega (arith, length-append has.0 has.1, length-append both.0 both.1)) both.3,
        fit pair.1 both.1 (omega (arith, length-append has.0 has.1, length-append both.0 both.1)) both.4,
      ),
      pairs_fit Fit P fit pairs has.1 (omega (arith, length-append has.0 has.1)) has.4,
    )

module _ (depth : ℕ) (fit : IsFit (Fits depth) (Spells depth)) (item : Item) (s : List ℕ) (few : length s < 2 ^ 64) where
  -- an array, a map or a tag
  holder_fits : SpellsHolder (Spells depth) item s → Fits (suc depth) item
  holder_fits (is_array items head body h has whole is) =
      let long : length s ≡ length (head ++ body) = ap length whole in
      inr (fits_array items h.small (each_fits (Fits depth) (Spells depth) fit items body (omega (arith, length-append head body)) has) is)
  holder_fits (is_open_array items body has whole is) =
      let long : length s ≡ length (indefinite major.Array ∷ (body ++ 255 ∷ [])) = ap length whole in
      let count : length items ≤ length body = each_length (Spells depth) (item_begins depth) items body has in
      let short : length body < 2 ^ 64 = omega (arith, length-append body (255 ∷ [])) in
      inr (fits_array items (omega arith) (each_fits (Fits depth) (Spells depth) fit items body short has) is)
  holder_fits (is_map pairs head body h has whole is) =
      let long : length s ≡ length (head ++ body) = ap length whole in
      inr (fits_map pairs h.small (pairs_fit (Fits depth) (Spells depth) fit pairs body (omega (arith, length-append head body)) has) is)
  holder_fits (is_open_map pairs body has whole is) =
      let long : length s ≡ length (indefinite major.Map ∷ (body ++ 255 ∷ [])) = ap length whole in
      let count : length pairs ≤ length body = each_length (SpellsPair (Spells depth)) (pair_begins (Spells depth) (item_begins depth)) pairs body has in
      let short : length body < 2 ^ 64 = omega (arith, length-append body (255 ∷ [])) in
      inr (fits_map pairs (omega arith) (pairs_fit (Fits depth) (Spells depth) fit pairs body short has) is)
  holder_fits (is_tagged tag content head body h has whole is) = inl (fits_other s (inr (is_tagged tag content head body h has whole is)) is)

-- an item that bytes spell
pub item_fits : (depth : ℕ) → IsFit (Fits depth) (Spells depth)
item_fits zero item s few h = plain_fits (Spells zero) (λ same t has. has) item s h
item_fits (suc depth) item s few (inl h) = inl (plain_fits (Spells (suc depth)) (λ same t has. inl has) item s h)
item_fits (suc depth) item s few (inr h) = holder_fits depth (item_fits depth) item s few h
