-- A message that is read from few bytes is light: each of its names takes bytes, and a pointer stands for 255 bytes at most.
use Rattle.std.proofs.Common.{ℕ, ◌+◌, ◌-◌, ◌*◌, ◌≤◌, ◌<◌, List, ◌++◌, length, drop, ap, ◌≡◌, Some, length-append, subst, arith, inl, inr, ◌⊎◌}
use Rattle.std.specs.List.{concat, sum_by}
use Rattle.std.proofs.lemmas.List.{length-take}
use Rattle.std.proofs.lemmas.List.Sums.{sum_by-cons}
use Rattle.cd_name.specs.Names.{NameAt}
use Rattle.cd_name.specs.Rules.{ReadsName, root, label, pointer}
use Rattle.cd_name.proofs.Rules.{read_by_rules}
use Rattle.cd_message.specs.declared.message.Question.{Question}
use Rattle.cd_message.specs.declared.message.Rr.{Rr}
use Rattle.cd_message.specs.declared.message.Message.{Message}
use Rattle.cd_message.specs.declared.shape.Shape as kind
use Rattle.cd_message.specs.Messages.{bytes_at}
use Rattle.cd_message.specs.MessageLaws.{MessageWeightsAreLinear, ReadMessagesAreLight}
use Rattle.cd_message.specs.Rules.{ReadsEach, none, one_more, ReadsQuestion, RdataNameAt, ReadsRdata, empty, any_bytes, shaped, ReadsRecord, ReadsMessage}
use Rattle.cd_message.specs.Weights.{question_weight, record_weight, weight_of}
use Rattle.cd_message.proofs.Valid.{IsSmall, shapes_are_small}
use Rattle.cd_message.proofs.MessagesByRules.{spelled_by_rules}
use Rattle.cd_message.proofs.Within.{messages_lie_within}

-- a size is light for the bytes between two offsets: 829 sixteenths for each, and some to spare
abbrev IsLight : ℕ → ℕ → ℕ → ℕ → Type 0
IsLight spare size at next = 16 * size + 829 * at ≤ 829 * next + spare

-- a name has bytes of its own: two at least, if it is not the root
own_bytes : {p : List ℕ} {s at : ℕ} {name : List ℕ} {next : ℕ} → ReadsName p s at name next → (at < next) × ((length name ≡ 1) ⊎ (at + 2 ≤ next))
own_bytes (root s at h e) = (omega arith, inl (omega arith))
own_bytes (label s at n labels next h deeper) = let d = own_bytes deeper in (omega (arith, h.1, d.0), inr (omega (arith, h.1, d.0)))
own_bytes (pointer s at target labels next h before deeper) = (omega arith, inr (omega arith))

-- a name of at most 255 bytes is light for bytes of its own
light_for_own_bytes : (at next size : ℕ) → at < next → size ≤ 255 → (size ≡ 1) ⊎ (at + 2 ≤ next) → IsLight 2422 size at next
light_for_own_bytes at next size after short (inl is_root) = omega arith
light_for_own_bytes at next size after short (inr two) = omega arith

-- a name is light for its own bytes
name_is_light : (p : List ℕ) (at : ℕ) (name : List ℕ) (next : ℕ) → NameAt p at name next → IsLight 2422 (length name) at next
name_is_light p at name next h =
    let r = (read_by_rules p at name next).0 h in
    let own = own_bytes r.0 in
    light_for_own_bytes at next (length name) own.0 r.1 own.1

-- names of RDATA are light for their own bytes
names_are_light : (p : List ℕ) (bound : ℕ) {count at : ℕ} {names : List (List ℕ)} {end : ℕ} → ReadsEach (RdataNameAt p bound) count at names end →
    IsLight (2422 * count) (length (concat names)) at end
names_are_light p bound (none at) = omega arith
names_are_light p bound (one_more count at next end name names reads others) =
    omega (arith, length-append name (concat names), name_is_light p at name next reads.0, names_are_light p bound others)

-- so many bytes of the payload at most
bytes_are_few : (p : List ℕ) (at count : ℕ) → length (bytes_at p at count) ≤ count
bytes_are_few p at count = omega (arith, length-take count (drop at p))

-- RDATA with a small shape is light for its own bytes
shaped_is_light : (p : List ℕ) (s : kind.Shape) (at next end : ℕ) (names : List (List ℕ)) (rdata : List ℕ) → IsSmall (Some s) →
    ReadsEach (RdataNameAt p end) s.names (at + s.before) names next → next + s.after ≡ end →
    rdata ≡ bytes_at p at s.before ++ concat names ++ bytes_at p next s.after → IsLight 4844 (length rdata) at end
shaped_is_light p s at next end names rdata small reads fills is =
    omega (
      arith,
      ap length is,
      length-append (bytes_at p at s.before ++ concat names) (bytes_at p next s.after),
      length-append (bytes_at p at s.before) (concat names),
      bytes_are_few p at s.before,
      bytes_are_few p next s.after,
      names_are_light p end reads,
      small.1,
    )

-- RDATA is light for its own bytes
rdata_is_light : {p : List ℕ} {rtype at end : ℕ} {rdata : List ℕ} → at ≤ end → ReadsRdata p rtype at end rdata → IsLight 4844 (length rdata) at end
rdata_is_light order (empty same is) = omega (arith, ap length is)
rdata_is_light {p} {rtype} {at} {end} order (any_bytes apart no_shape is) = omega (arith, ap length is, bytes_are_few p at (end - at))
rdata_is_light {p} {rtype} {at} {end} {rdata} order (shaped s names next apart has_shape room reads fills is) =
    shaped_is_light p s at next end names rdata (subst IsSmall has_shape (shapes_are_small rtype)) reads fills is

-- a question is light for its own bytes
question_is_light : (p : List ℕ) (at : ℕ) (q : Question) (next : ℕ) → ReadsQuestion p at q next → IsLight 0 (question_weight q) at next
question_is_light p at q next reads = omega (arith, name_is_light p at q.name reads.name_end reads.is_named, reads.ends)

-- a record is light for its own bytes
record_is_light : (p : List ℕ) (at : ℕ) (r : Rr) (next : ℕ) → ReadsRecord p at r next → IsLight 0 (record_weight r) at next
record_is_light p at r next reads =
    omega (arith, name_is_light p at r.owner reads.owner_end reads.is_owned, rdata_is_light (omega (arith, reads.ends)) reads.has_rdata)

-- items are light for their own bytes if each is
each_is_light : {A : Type 0} {Reads : ℕ → A → ℕ → Type 0} (weight : A → ℕ) →
    ((at : ℕ) (item : A) (next : ℕ) → Reads at item next → IsLight 0 (weight item) at next) →
    {count at : ℕ} {items : List A} {end : ℕ} → ReadsEach Reads count at items end → IsLight 0 (sum_by weight items) at end
each_is_light weight light (none at) = omega arith
each_is_light weight light (one_more count at next end item items reads others) =
    omega (arith, sum_by-cons weight item items, light at item next reads, each_is_light weight light others)

-- a message that the rules read is light for its own bytes
is_light : (p : List ℕ) (m : Message) (used : ℕ) → ReadsMessage p m used → 16 * weight_of m ≤ 829 * used
is_light p m used reads =
    omega (
      arith,
      each_is_light question_weight (question_is_light p) reads.has_questions,
      each_is_light record_weight (record_is_light p) reads.has_answers.are_read,
      each_is_light record_weight (record_is_light p) reads.has_authority.are_read,
      each_is_light record_weight (record_is_light p) reads.has_additional.are_read,
    )

-- the law on the weight of messages that are read, by their bytes
pub message_weights_are_linear : MessageWeightsAreLinear
message_weights_are_linear p m used h = is_light p m used ((spelled_by_rules p m used).0 h)

-- the law on the weight of messages that are read
pub read_messages_are_light : ReadMessagesAreLight
read_messages_are_light p m used h few = omega (arith, message_weights_are_linear p m used h, (messages_lie_within p m used h).1)
