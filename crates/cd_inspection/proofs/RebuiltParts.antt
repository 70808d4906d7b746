-- A block has at most two packets for each item and one for each malformed message, and no more of it has none.
use Rattle.std.proofs.Common.{◌≡◌, ℕ, ◌+◌, ◌*◌, ◌≤◌, Bool, true, false, cond, List, [], ◌∷◌, ◌++◌, length, Option, Some, None, arith, length-append}
use Rattle.std.specs.Prelude.{not, ◌&&◌, unwrap_or}
use Rattle.std.specs.List.{flat_map, filter_map, cons_option, count_by}
use Rattle.std.specs.Option.{option_map_or}
use Rattle.std.proofs.lemmas.List.Sums.{count_by-le-length}
use Rattle.std.proofs.lemmas.List.Sorted.{length_permutation}
use Rattle.cd_block.specs.declared.kept.KeptBlock.{KeptBlock}
use Rattle.cd_block.specs.declared.kept.KeptData.{KeptData}
use Rattle.cd_block.specs.declared.kept.KeptItem.{KeptItem}
use Rattle.cd_block.specs.declared.kept.KeptMalformed.{KeptMalformed}
use Rattle.cd_block.specs.declared.kept.KeptSig.{KeptSig}
use Rattle.cd_block.specs.declared.stamp.Stamp.{Stamp}
use Rattle.cd_rebuild.specs.Datagrams.{item_sendings, malformed_sendings, signed_sendings, query_sending, response_sending, malformed_sending}
use Rattle.cd_rebuild.specs.Flags.{has_query, has_response, is_bare, is_bare_data, is_bare_malformed, is_bare_signature, is_not_udp, is_not_udp_malformed, is_udp}
use Rattle.cd_rebuild.specs.Order.{by_time}
use Rattle.cd_rebuild.specs.Rebuilding.{block_sendings, block_packets, bare_count, not_udp_count, too_long_count, is_too_long, packet_of}
use Rattle.cd_rebuild.specs.declared.rebuilt_block.Raw.{Raw}
use Rattle.cd_rebuild.proofs.Ordering.{by_time_moves}

module _ {A : Type 0} where
  -- one or none is at most one
  one_at_most : (b : Bool) (x : A) → length (cond b (x ∷ []) []) ≤ 1
  one_at_most true x = omega arith
  one_at_most false x = omega arith

  -- two, each of which may be none
  two_at_most : (b c : Bool) (x y : A) → length (cond b (x ∷ []) [] ++ cond c (y ∷ []) []) ≤ 2
  two_at_most true true x y = omega arith
  two_at_most true false x y = omega arith
  two_at_most false true x y = omega arith
  two_at_most false false x y = omega arith

  -- these or none
  chosen_at_most : (b : Bool) (xs : List A) (n : ℕ) → length xs ≤ n → length (cond b xs []) ≤ n
  chosen_at_most true xs n few = few
  chosen_at_most false xs n few = omega arith

  -- two lists, of which the first has at most two for each of n
  both_at_most : (xs ys : List A) (n m : ℕ) → length xs ≤ n * 2 → length ys ≤ m * 1 → length (xs ++ ys) ≤ 2 * n + m
  both_at_most xs ys n m few less = omega (arith, length-append xs ys, few, less)

  -- those of a list that pass a test
  passing_at_most : (p : A → Bool) (xs : List A) (n : ℕ) → length xs ≤ n → count_by p xs ≤ n
  passing_at_most p xs n few = omega (arith, count_by-le-length p xs, few)

-- those of two lists that pass their tests
both_passing : {A B : Type 0} (p : A → Bool) (q : B → Bool) (xs : List A) (ys : List B) → count_by p xs + count_by q ys ≤ 2 * length xs + length ys
both_passing p q xs ys = omega (arith, count_by-le-length p xs, count_by-le-length q ys)

-- what each element of a list gives, at most so many
list_few : {X A : Type 0} (f : X → List A) (n : ℕ) → ((x : X) → length (f x) ≤ n) → (xs : List X) → length (flat_map f xs) ≤ length xs * n
list_few f n each [] = omega arith
list_few f n each (x ∷ xs) =
    let all = length-append (f x) (flat_map f xs) in
    let first = each x in
    let rest = list_few f n each xs in
    omega (arith, all, first, rest)

-- a value at most more, where there is one or none
one_value : {Y : Type 0} (o : Option Y) (ys : List Y) (n : ℕ) → length ys ≤ n → length (cons_option o ys) ≤ n + 1
one_value None ys n few = omega (arith, few)
one_value (Some y) ys n few = omega (arith, few)

-- no more values than elements
values_few : {X Y : Type 0} (h : X → Option Y) (xs : List X) → length (filter_map h xs) ≤ length xs
values_few h [] = omega arith
values_few h (x ∷ xs) =
    let more = one_value (h x) (filter_map h xs) (length xs) (values_few h xs) in
    omega (arith, more)

-- a list in another order
moved_at_most : (n m : ℕ) (xs ys : List Raw) → length ys ≡ length xs → length xs ≤ m → m ≤ n → length ys ≤ n
moved_at_most n m xs ys same few less = omega (arith, same, few, less)

item_few_by : (ticks : ℕ) (earliest : Option Stamp) (i : KeptItem) (o : Option KeptSig) →
    length (option_map_or (λ s. cond (not (is_bare_signature s) && is_udp s.transport_flags) (signed_sendings ticks earliest i s) []) o []) ≤ 2
item_few_by ticks earliest i None = omega arith
item_few_by ticks earliest i (Some s) =
    chosen_at_most (not (is_bare_signature s) && is_udp s.transport_flags) (signed_sendings ticks earliest i s) 2
    (two_at_most (has_query s) (has_response s) (query_sending ticks earliest i s) (response_sending ticks earliest i s))

-- of an item at most two messages are sent
item_few : (ticks : ℕ) (earliest : Option Stamp) (i : KeptItem) → length (item_sendings ticks earliest i) ≤ 2
item_few ticks earliest i = item_few_by ticks earliest i i.signature

malformed_few_by : (ticks : ℕ) (earliest : Option Stamp) (m : KeptMalformed) (o : Option KeptData) →
    length (option_map_or (λ d. cond (not (is_bare_data d) && is_udp d.transport_flags)
    (malformed_sending ticks earliest m d (unwrap_or d.payload []) ∷ []) []) o []) ≤ 1
malformed_few_by ticks earliest m None = omega arith
malformed_few_by ticks earliest m (Some d) =
    one_at_most (not (is_bare_data d) && is_udp d.transport_flags) (malformed_sending ticks earliest m d (unwrap_or d.payload []))

-- of a malformed message at most one
malformed_few : (ticks : ℕ) (earliest : Option Stamp) (m : KeptMalformed) → length (malformed_sendings ticks earliest m) ≤ 1
malformed_few ticks earliest m = malformed_few_by ticks earliest m m.message_data

-- how many messages of a block may be sent
abbrev pub most_sent : KeptBlock → ℕ
most_sent b = 2 * length b.items + length b.malformed

-- of a block at most so many are sent
sendings_few : (ticks : ℕ) (b : KeptBlock) → length (block_sendings ticks b) ≤ most_sent b
sendings_few ticks b =
    both_at_most (flat_map (item_sendings ticks b.earliest) b.items) (flat_map (malformed_sendings ticks b.earliest) b.malformed)
    (length b.items) (length b.malformed)
    (list_few (item_sendings ticks b.earliest) 2 (item_few ticks b.earliest) b.items)
    (list_few (malformed_sendings ticks b.earliest) 1 (malformed_few ticks b.earliest) b.malformed)

-- the packets of a list
packets_at_most : {X : Type 0} (h : X → Option Raw) (xs : List X) (n : ℕ) → length xs ≤ n → length (by_time (filter_map h xs)) ≤ n
packets_at_most h xs n few =
    let raws : List Raw = filter_map h xs in
    moved_at_most n (length xs) raws (by_time raws) (length_permutation raws (by_time raws) (by_time_moves raws)) (values_few h xs) few

-- at most so many packets
pub packets_few : (ticks : ℕ) (b : KeptBlock) → length (block_packets ticks b) ≤ most_sent b
packets_few ticks b = packets_at_most packet_of (block_sendings ticks b) (most_sent b) (sendings_few ticks b)

-- at most so many messages are too long
pub too_long_few : (ticks : ℕ) (b : KeptBlock) → too_long_count ticks b ≤ most_sent b
too_long_few ticks b = passing_at_most is_too_long (block_sendings ticks b) (most_sent b) (sendings_few ticks b)

-- an item or a malformed message is bare or not
pub bare_few : (b : KeptBlock) → bare_count b ≤ most_sent b
bare_few b = both_passing is_bare is_bare_malformed b.items b.malformed

-- and of another transport or not
pub not_udp_few : (b : KeptBlock) → not_udp_count b ≤ most_sent b
not_udp_few b = both_passing is_not_udp is_not_udp_malformed b.items b.malformed
