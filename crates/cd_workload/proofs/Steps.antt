-- The loop that writes lookup after lookup: what is written and what is left are the whole.
use Rattle.std.proofs.Common.{◌≡◌, ℕ, suc, ◌+◌, ◌-◌, ◌<◌, ◌≤◌, [], List, ◌++◌, ap, sym, ◌∙◌, arith, append_assoc}
use Rattle.std.specs.List.{flat_map}
use Rattle.std.proofs.lemmas.List.{append-nil}
use Rattle.cd_pcap.specs.Spelled.{spellings}
use Rattle.cd_pcap.specs.Writing.{written_form}
use Rattle.cd_workload.specs.Workload.{next_state, draw, lookups, records_of}
use Rattle.cd_workload.specs.declared.lookup.Lookup.{Lookup}
use Rattle.cd_workload.proofs.Sent.{spellings-append}

-- the bytes that are left to write, from the lookup with this number on
abbrev pub left : ℕ → ℕ → ℕ → List ℕ
left count number state = spellings written_form (flat_map records_of (lookups (count - number) number state))

-- the lookup at a state
abbrev lookup_at : ℕ → ℕ → Lookup
lookup_at number state = record { number = number; drawn = draw (next_state state) }

-- so many lookups are one and one fewer
lookups_split : (all fewer number state : ℕ) → all ≡ suc fewer →
    spellings written_form (flat_map records_of (lookups all number state))
    ≡ spellings written_form (records_of (lookup_at number state))
    ++ spellings written_form (flat_map records_of (lookups fewer (number + 1) (next_state state)))
unfolding lookups
lookups_split all fewer number state is =
    ap (λ n. spellings written_form (flat_map records_of (lookups n number state))) is
    ∙ spellings-append (records_of (lookup_at number state)) (flat_map records_of (lookups fewer (number + 1) (next_state state)))

-- what is left is a lookup, and then what is left after it
left_more : (count number state : ℕ) → number < count →
    left count number state ≡ spellings written_form (records_of (lookup_at number state)) ++ left count (number + 1) (next_state state)
left_more count number state more =
    lookups_split (count - number) (count - (number + 1)) number state (omega (arith, more))

-- a lookup is written
pub goes_on : (count number state next drawn : ℕ) (before after whole : List ℕ) → number < count →
    next ≡ next_state state → drawn ≡ draw next →
    after ≡ before ++ spellings written_form (records_of (record { number = number; drawn = drawn })) →
    before ++ left count number state ≡ whole → after ++ left count (number + 1) next ≡ whole
goes_on count number state next drawn before after whole more is_next is_drawn is so_far =
    let lookup : List ℕ = spellings written_form (records_of (lookup_at number state)) in
    let written : after ≡ before ++ lookup =
    is ∙ ap (λ d. before ++ spellings written_form (records_of (record { number = number; drawn = d }))) (is_drawn ∙ ap draw is_next) in
    ap (λ t. after ++ left count (number + 1) t) is_next
    ∙ ap (λ t. t ++ left count (number + 1) (next_state state)) written
    ∙ append_assoc before lookup (left count (number + 1) (next_state state))
    ∙ ap (λ t. before ++ t) (sym (left_more count number state more))
    ∙ so_far

-- nothing is left
none_left : (none number state : ℕ) → none ≡ 0 → spellings written_form (flat_map records_of (lookups none number state)) ≡ []
unfolding lookups
none_left none number state is = ap (λ n. spellings written_form (flat_map records_of (lookups n number state))) is

pub all_written : (count number state : ℕ) (bytes whole : List ℕ) → count ≤ number →
    bytes ++ left count number state ≡ whole → bytes ≡ whole
all_written count number state bytes whole end so_far =
    sym (append-nil bytes) ∙ ap (λ t. bytes ++ t) (sym (none_left (count - number) number state (omega (arith, end)))) ∙ so_far
