-- The preamble of a file that is written is read back.
use Rattle.std.proofs.Common.{◌≡◌, ℕ, zero, suc, ◌+◌, ◌*◌, ◌/◌, ◌%◌, ◌^◌, ◌<◌, ◌≤◌, List, [], ◌∷◌, ◌++◌, length, Option, Some, None, Ok, inl, inr, refl, ap, sym, subst, ◌∙◌, arith}
use Rattle.std.specs.Prelude.{slice_index_or, pos}
use Rattle.std.specs.List.{AllByRecursion}
use Rattle.std.proofs.lemmas.Bool.{cases_eq, eq-eqb, ne_eqb, le-leb}
use Rattle.std.proofs.lemmas.Nat.{mod-pow-add, pow_pos}
use Rattle.std.proofs.Math.Nat.{mod-lt, mod-eq_of_lt, mod-one, div-eq_of_lt}
use Rattle.cd_cbor.specs.Items.{unsigned}
use Rattle.cd_cbor.specs.Fitting.{Fits}
use Rattle.cd_block.specs.declared.hints.Hints.{Hints}
use Rattle.cd_block.specs.declared.params.Params.{Params}
use Rattle.cd_file.specs.Kinds.{unsigned as unsigned_kind, unsigned_below, array_of, filled_array_of}
use Rattle.cd_file.specs.MapReading.{value_read, line_of, map_from}
use Rattle.cd_file.specs.ReadHead.{no_hints, hints_table, with_opcode, opcode_bits, storage_table, collection_table, parameters_table, no_params, preamble_table, no_preamble, have_ticks, read_params}
use Rattle.cd_file.specs.Maps.{number}
use Rattle.cd_file.specs.Head.{hints_item, listed_opcode, opcodes_below, unless_zero, prefix, storage_item, collection_entries, parameters_item, preamble_item}
use Rattle.cd_file.specs.Ranges.{IsByte}
use Rattle.cd_file.specs.Readable.{ReadableHints, ReadableParams}
use Rattle.cd_file.proofs.ValuesReadBack.{IsShort, ReadsBack, number_back, below_back, numbers_below_back, filled_array_back}
use Rattle.cd_file.proofs.MapsReadBack.{Puts, PutsAll, puts_none, puts_more, puts_value, puts_absent, puts_index, puts_option, puts_map, MapReadsBack, map_parts, map_back, said}

-- bits of opcodes after others
bits_append : (before : ℕ) (xs ys : List ℕ) → opcode_bits before (xs ++ ys) ≡ opcode_bits (opcode_bits before xs) ys
unfolding opcode_bits
bits_append before [] ys = refl
bits_append before (x ∷ xs) ys = bits_append (with_opcode before x) xs ys

-- the bit of an opcode is added to those below it
bits_more : (v n opcodes : ℕ) → v < 2 ^ n → opcode_bits v (listed_opcode opcodes n) ≡ v + (opcodes / 2 ^ n % 2) * 2 ^ n
unfolding opcode_bits
bits_more v n opcodes low =
    elim (cases_eq (opcodes / 2 ^ n % 2) 1) [
      | inl e ↦
          let none : v / 2 ^ n ≡ 0 = div-eq_of_lt low in
          rw (eq-eqb (opcodes / 2 ^ n % 2) 1 e, none, e) (omega arith)
      | inr apart ↦
          let unset : opcodes / 2 ^ n % 2 ≡ 0 = omega arith in
          rw (ne_eqb (opcodes / 2 ^ n % 2) 1 apart, unset) (omega arith)
    ]

-- the opcodes below a number are read back
opcodes_back : (n opcodes : ℕ) → opcode_bits 0 (opcodes_below n opcodes) ≡ opcodes % 2 ^ n
unfolding opcode_bits opcodes_below
opcodes_back zero opcodes = sym (mod-one opcodes)
opcodes_back (suc n) opcodes =
    let low : opcodes % 2 ^ n < 2 ^ n = mod-lt opcodes (pow_pos n) in
    let one : opcodes % 2 ^ (1 + n) ≡ (opcodes / 2 ^ n % 2 ^ 1) * 2 ^ n + opcodes % 2 ^ n = mod-pow-add opcodes 1 n in
    let exponent : 1 + n ≡ suc n = omega arith in
    bits_append 0 (opcodes_below n opcodes) (listed_opcode opcodes n)
    ∙ ap (λ v. opcode_bits v (listed_opcode opcodes n)) (opcodes_back n opcodes)
    ∙ bits_more (opcodes % 2 ^ n) n opcodes low
    ∙ (let sum : opcodes % 2 ^ n + (opcodes / 2 ^ n % 2) * 2 ^ n ≡ opcodes % 2 ^ (1 + n) = omega (arith, one) in sum)
    ∙ ap (λ k. opcodes % 2 ^ k) exponent

-- each of them is below that number
listed_low : (n opcodes : ℕ) → AllByRecursion (λ k. k < suc n) (listed_opcode opcodes n)
listed_low n opcodes =
    elim (cases_eq (opcodes / 2 ^ n % 2) 1) [
      | inl e ↦ rw (eq-eqb (opcodes / 2 ^ n % 2) 1 e) (omega arith, tt)
      | inr apart ↦ rw (ne_eqb (opcodes / 2 ^ n % 2) 1 apart) tt
    ]

all_append : {A : Type 0} (P : A → Type 0) (xs ys : List A) → AllByRecursion P xs → AllByRecursion P ys → AllByRecursion P (xs ++ ys)
all_append P [] ys all more = more
all_append P (x ∷ xs) ys all more = (all.0, all_append P xs ys all.1 more)

all_less : (m n : ℕ) → m ≤ n → (xs : List ℕ) → AllByRecursion (λ k. k < m) xs → AllByRecursion (λ k. k < n) xs
all_less m n h [] all = tt
all_less m n h (x ∷ xs) all = (let low : x < m = all.0 in omega (arith, low, h), all_less m n h xs all.1)

opcodes_low : (n opcodes : ℕ) → AllByRecursion (λ k. k < n) (opcodes_below n opcodes)
unfolding opcodes_below
opcodes_low zero opcodes = tt
opcodes_low (suc n) opcodes =
    all_append (λ k. k < suc n) (opcodes_below n opcodes) (listed_opcode opcodes n)
    (all_less n (suc n) (omega arith) (opcodes_below n opcodes) (opcodes_low n opcodes)) (listed_low n opcodes)

-- the storage hints
hints_back : (depth : ℕ) (h : Hints) → ReadableHints h → ReadsBack (map_from hints_table no_hints) (suc depth) (hints_item h) h
unfolding value_read line_of
hints_back depth h r =
    map_back hints_table depth _ no_hints h refl refl
    (puts_more (puts_value unsigned_kind h.qr (λ n f. record f { qr = n }) (number_back depth h.qr (omega (arith, r.qr))) (λ e. rw (e, mod-eq_of_lt r.qr) refl))
    (puts_more (puts_value unsigned_kind h.sig (λ n f. record f { sig = n }) (number_back depth h.sig (omega (arith, r.sig))) (λ e. rw (e, mod-eq_of_lt r.sig) refl))
    (puts_more (puts_value unsigned_kind h.rr (λ n f. record f { rr = n }) (number_back depth h.rr (omega (arith, r.rr))) (λ e. rw (e, mod-eq_of_lt r.rr) refl))
    (puts_more
    (puts_value unsigned_kind h.other (λ n f. record f { other = n }) (number_back depth h.other (omega (arith, r.other))) (λ e. rw (e, mod-eq_of_lt r.other) refl))
    (puts_none refl)))))

-- the four prefixes
abbrev four : Params → List (Option ℕ)
four p = prefix 0 p ∷ prefix 1 p ∷ prefix 2 p ∷ prefix 3 p ∷ []

four_are : (xs : List (Option ℕ)) → length xs ≡ 4 →
    slice_index_or xs 0 None ∷ slice_index_or xs 1 None ∷ slice_index_or xs 2 None ∷ slice_index_or xs 3 None ∷ [] ≡ xs
four_are [] h = absurd (omega arith)
four_are (a ∷ []) h = absurd (omega arith)
four_are (a ∷ b ∷ []) h = absurd (omega arith)
four_are (a ∷ b ∷ c ∷ []) h = absurd (omega arith)
four_are (a ∷ b ∷ c ∷ d ∷ []) h = refl
four_are (a ∷ b ∷ c ∷ d ∷ e ∷ xs) h = absurd (omega arith)

-- the storage parameters alone
abbrev stored : Params → Params
stored p = record p { flags = 0; prefixes = four p; query_ms = None; skew_us = None }

-- a prefix at its place
puts_prefix : {depth key : ℕ} {before : Params} (o : Option ℕ) (set : Option ℕ → Params → Params) → IsByte o → before ≡ set None before →
    ((n : ℕ) → unsigned_below 0x100 (pos key) (unsigned n) ≡ Ok n → value_read storage_table (pos key) (unsigned n) before ≡ Ok (set (Some n) before)) →
    Puts storage_table depth key (number o) before (set o before)
puts_prefix {depth = depth} o set small none put =
    puts_option unsigned o set none
    (λ n is. let less : n < 0x100 = said (λ m. m < 0x100) o n small is in
    puts_value (unsigned_below 0x100) n (λ m. set (Some m)) (below_back depth 0x100 n less (omega (arith, less))) (put n))

no_flag : (flags : ℕ) → flags ≡ 0 → number (unless_zero flags) ≡ None
no_flag flags h = rw h refl

storage_back : (depth : ℕ) (p : Params) → ReadableParams p → ReadsBack (map_from storage_table no_params) (suc (suc depth)) (storage_item p) (stored p)
unfolding value_read line_of
storage_back depth p r =
    map_back storage_table (suc depth) _ no_params (stored p) refl refl
    (puts_more (puts_value unsigned_kind p.ticks (λ n f. record f { ticks = n }) (number_back (suc depth) p.ticks (omega (arith, r.few_ticks))) (λ e. rw e refl))
    (puts_more (puts_value unsigned_kind p.max_items (λ n f. record f { max_items = n }) (number_back (suc depth) p.max_items r.max_items) (λ e. rw e refl))
    (puts_more
    (puts_value (map_from hints_table no_hints) p.hints (λ h f. record f { hints = h }) (hints_back depth p.hints r.hints) (λ e. rw e refl))
    (puts_more
    (puts_value (array_of (unsigned_below 16)) (opcodes_below 16 p.opcodes) (λ ns f. record f { opcodes = p.opcodes })
    (numbers_below_back depth 16 (opcodes_below 16 p.opcodes) (omega arith) (opcodes_low 16 p.opcodes))
    (λ e. rw (e, opcodes_back 16 p.opcodes, mod-eq_of_lt r.opcodes) refl))
    (puts_more
    (puts_value (array_of (unsigned_below 0x1_0000)) p.rr_types (λ ns f. record f { rr_types = ns })
    (numbers_below_back depth 0x1_0000 p.rr_types (omega arith) r.rr_types) (λ e. rw e refl))
    (puts_more (puts_absent (number (unless_zero p.flags)) (no_flag p.flags r.flags))
    (puts_more (puts_prefix (prefix 0 p) (λ o f. record f { prefixes = o ∷ None ∷ None ∷ None ∷ [] }) r.client_prefix4 refl (λ n e. rw e refl))
    (puts_more (puts_prefix (prefix 1 p) (λ o f. record f { prefixes = prefix 0 p ∷ o ∷ None ∷ None ∷ [] }) r.client_prefix6 refl (λ n e. rw e refl))
    (puts_more (puts_prefix (prefix 2 p) (λ o f. record f { prefixes = prefix 0 p ∷ prefix 1 p ∷ o ∷ None ∷ [] }) r.server_prefix4 refl (λ n e. rw e refl))
    (puts_more (puts_prefix (prefix 3 p) (λ o f. record f { prefixes = prefix 0 p ∷ prefix 1 p ∷ prefix 2 p ∷ o ∷ [] }) r.server_prefix6 refl (λ n e. rw e refl))
    (puts_none refl)))))))))))

-- the timeouts
collection_put : (depth : ℕ) (p : Params) → ReadableParams p →
    PutsAll collection_table depth (collection_entries p) (stored p) (record p { flags = 0; prefixes = four p })
unfolding value_read line_of
collection_put depth p r =
    puts_more (puts_index p.query_ms (λ o f. record f { query_ms = o }) r.query_ms refl (λ n e. rw e refl))
    (puts_more (puts_index p.skew_us (λ o f. record f { skew_us = o }) r.skew_us refl (λ n e. rw e refl))
    (puts_none refl))

-- block parameters without flags, by their prefixes one after the other
params_are : (p : Params) → ReadableParams p → record p { flags = 0; prefixes = four p } ≡ p
params_are p r =
    ap (λ ps. record p { flags = 0; prefixes = ps }) (four_are p.prefixes r.four_prefixes)
    ∙ ap (λ n. record p { flags = n }) (sym r.flags)

-- block parameters
parameters_back : (depth : ℕ) (p : Params) → ReadableParams p → ReadsBack (map_from parameters_table no_params) (suc (suc (suc depth))) (parameters_item p) p
unfolding value_read line_of
parameters_back depth p r =
    subst (ReadsBack (map_from parameters_table no_params) (suc (suc (suc depth))) (parameters_item p)) (params_are p r)
    (map_back parameters_table (suc (suc depth)) _ no_params _ refl refl
    (puts_more (puts_value (map_from storage_table no_params) (stored p) (λ x f. x) (storage_back depth p r) (λ e. e))
    (puts_more
    (puts_map collection_table (collection_entries p) (stored p) (record p { flags = 0; prefixes = four p }) (λ x f. x) refl refl (collection_put (suc depth) p r) refl (λ e. e))
    (puts_none refl))))

-- the pairs of a preamble
preamble_parts : (depth : ℕ) (p : Params) → ReadableParams p →
    MapReadsBack preamble_table no_preamble (suc (suc (suc (suc (suc depth))))) (preamble_item p) (record { major = 1; entries = p ∷ [] })
unfolding value_read line_of
preamble_parts depth p r =
    let d : ℕ = suc (suc (suc (suc depth))) in
    map_parts preamble_table d _ no_preamble _ refl refl
    (puts_more (puts_value unsigned_kind 1 (λ n f. record f { major = n }) (number_back d 1 (omega arith)) (λ e. rw e refl))
    (puts_more (puts_value unsigned_kind 0 (λ n f. f) (number_back d 0 (omega arith)) (λ e. rw e refl))
    (puts_more
    (puts_value (filled_array_of (map_from parameters_table no_params)) (p ∷ []) (λ es f. record f { entries = es })
    (filled_array_back (map_from parameters_table no_params) (suc (suc (suc depth))) parameters_item p (parameters_back depth p r)) (λ e. rw e refl))
    (puts_none refl))))

-- a preamble
pub preamble_read : (p : Params) → ReadableParams p → read_params (preamble_item p) ≡ Ok (p ∷ [])
unfolding read_params have_ticks
preamble_read p r =
    let m = preamble_parts 0 p r in
    rw (m.are, m.fields, le-leb 1 p.ticks r.some_ticks, le-leb p.ticks 1000000000 r.few_ticks) refl

-- its bytes are those of an item in which at most five maps and arrays are open
pub preamble_fits : (depth : ℕ) (p : Params) → ReadableParams p → IsShort (preamble_item p) → Fits (suc (suc (suc (suc (suc depth))))) (preamble_item p)
preamble_fits depth p r = (preamble_parts depth p r).fits
