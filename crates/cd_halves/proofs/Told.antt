-- What the flags of a signature tell of its halves.
use Rattle.std.proofs.Common.{◌≡◌, ℕ, ◌+◌, ◌*◌, ◌/◌, ◌%◌, ◌^◌, ◌≤◌, Bool, true, false, not, nat_eq, bit_and, Option, Some, None, refl, arith}
use Rattle.std.specs.Int.{bit_at}
use Rattle.std.specs.Option.{option_map_or}
use Rattle.std.proofs.lemmas.Nat.Bits.{and_pow}
use Rattle.cd_hints.specs.Flags.{flag_where, has_opt, has_no_question, query_signature_flags, response_signature_flags, signature_flags}
use Rattle.cd_message.specs.declared.message.Message.{Message}
use Rattle.cd_rebuild.specs.Flags.{is_set}

-- what the flags of a response leave alone
record LeavesQuery (y : ℕ) : Type 0 where
  one : y % 2 ≡ 0
  four : y / 4 % 2 ≡ 0
  sixteen : y / 16 % 2 ≡ 0

response_leaves_by : (a b : Bool) → LeavesQuery (2 + flag_where a 8 + flag_where b 32)
response_leaves_by true true = record { one = refl; four = refl; sixteen = refl }
response_leaves_by true false = record { one = refl; four = refl; sixteen = refl }
response_leaves_by false true = record { one = refl; four = refl; sixteen = refl }
response_leaves_by false false = record { one = refl; four = refl; sixteen = refl }

response_leaves : (r : Option Message) → LeavesQuery (option_map_or response_signature_flags r 0)
response_leaves None = record { one = refl; four = refl; sixteen = refl }
response_leaves (Some m) = response_leaves_by (has_opt m) (has_no_question m)

-- the flags of a query are small
query_small_by : (a b : Bool) → 1 + flag_where a 4 + flag_where b 16 ≤ 21
query_small_by true true = omega arith
query_small_by true false = omega arith
query_small_by false true = omega arith
query_small_by false false = omega arith

query_small : (q : Option Message) → option_map_or query_signature_flags q 0 ≤ 21
query_small None = omega arith
query_small (Some m) = query_small_by (has_opt m) (has_no_question m)

-- a flag is set where its bit is
set_where : (n k d : ℕ) → bit_at n k ≡ d → not (nat_eq (bit_and n (2 ^ k)) 0) ≡ not (nat_eq (d * 2 ^ k) 0)
set_where n k d is = rw (and_pow n k, is) refl

-- a query has an OPT record
opt_by : (a b : Bool) (y : ℕ) → LeavesQuery y → is_set (1 + flag_where a 4 + flag_where b 16 + y) 4 ≡ a
opt_by true true y l = set_where (1 + 4 + 16 + y) 2 1 (omega (arith, l.one, l.four, l.sixteen))
opt_by true false y l = set_where (1 + 4 + 0 + y) 2 1 (omega (arith, l.one, l.four, l.sixteen))
opt_by false true y l = set_where (1 + 0 + 16 + y) 2 0 (omega (arith, l.one, l.four, l.sixteen))
opt_by false false y l = set_where (1 + 0 + 0 + y) 2 0 (omega (arith, l.one, l.four, l.sixteen))

pub opt_told : (m : Message) (r : Option Message) → is_set (signature_flags (Some m) r) 4 ≡ has_opt m
opt_told m r = opt_by (has_opt m) (has_no_question m) (option_map_or response_signature_flags r 0) (response_leaves r)

-- a query has no question
none_by : (a b : Bool) (y : ℕ) → LeavesQuery y → is_set (1 + flag_where a 4 + flag_where b 16 + y) 16 ≡ b
none_by true true y l = set_where (1 + 4 + 16 + y) 4 1 (omega (arith, l.one, l.four, l.sixteen))
none_by true false y l = set_where (1 + 4 + 0 + y) 4 0 (omega (arith, l.one, l.four, l.sixteen))
none_by false true y l = set_where (1 + 0 + 16 + y) 4 1 (omega (arith, l.one, l.four, l.sixteen))
none_by false false y l = set_where (1 + 0 + 0 + y) 4 0 (omega (arith, l.one, l.four, l.sixteen))

pub query_none_told : (m : Message) (r : Option Message) → is_set (signature_flags (Some m) r) 16 ≡ has_no_question m
query_none_told m r = none_by (has_opt m) (has_no_question m) (option_map_or response_signature_flags r 0) (response_leaves r)

-- a response has no question
response_none_by : (a b : Bool) (x : ℕ) → x ≤ 21 → is_set (x + (2 + flag_where a 8 + flag_where b 32)) 32 ≡ b
response_none_by true true x few = set_where (x + (2 + 8 + 32)) 5 1 (omega (arith, few))
response_none_by true false x few = set_where (x + (2 + 8 + 0)) 5 0 (omega (arith, few))
response_none_by false true x few = set_where (x + (2 + 0 + 32)) 5 1 (omega (arith, few))
response_none_by false false x few = set_where (x + (2 + 0 + 0)) 5 0 (omega (arith, few))

pub response_none_told : (q : Option Message) (m : Message) → is_set (signature_flags q (Some m)) 32 ≡ has_no_question m
response_none_told q m = response_none_by (has_opt m) (has_no_question m) (option_map_or query_signature_flags q 0) (query_small q)
