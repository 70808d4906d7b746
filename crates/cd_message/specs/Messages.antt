-- DNS messages (RFC 1035 section 4, RFC 6891 section 6), read from left to right: the first rule broken is the answer.
use Rattle.std.specs.Prelude.{◌≡◌, ℕ, ◌+◌, ◌-◌, nat_lt, nat_eq, Bool, true, false, ◌&&◌, not, List, [], ◌++◌, length, take, drop, if◌then◌else◌, Option, Some, None, Result, Ok, Err}
use Rattle.std.specs.List.{concat}
use Rattle.cd_bytes.specs.Numbers.{be16, be32}
use Rattle.cd_name.specs.declared.fault.NameWhy.{NameWhy}
use Rattle.cd_name.specs.declared.fault.NameWhy.TheVariants as name
use Rattle.cd_name.specs.Names.{name_at, run_is_cut}
use Rattle.cd_message.specs.declared.message.MsgWhy.{MsgWhy}
use Rattle.cd_message.specs.declared.message.MsgWhy.TheVariants.{Short, Label, Pointer, LongName, Shape, Opt}
use Rattle.cd_message.specs.declared.message.Question.{Question}
use Rattle.cd_message.specs.declared.message.Rr.{Rr}
use Rattle.cd_message.specs.declared.message.Message.{Message}
use Rattle.cd_message.specs.declared.shape.Shape as kind
use Rattle.cd_message.specs.declared.message.TheConstants.{OPT}
use Rattle.cd_message.specs.Readings.{◌>>=◌, repeat}
use Rattle.cd_message.specs.Shapes.{shape_of}
use Rattle.cd_message.specs.Valid.{is_opt}

-- so many bytes from an offset on
abbrev pub bytes_at : List ℕ → ℕ → ℕ → List ℕ
bytes_at payload at count = take count (drop at payload)

-- a rule of names, as a rule of messages
abbrev pub why_of : NameWhy → MsgWhy
why_of name.Short = Short
why_of name.Label = Label
why_of name.Pointer = Pointer
why_of name.LongName = LongName

-- the same where the bytes end with the RDATA: a name that wants more of them does not fill its shape
abbrev pub rdata_why_of : NameWhy → MsgWhy
rdata_why_of name.Short = Shape
rdata_why_of name.Label = Label
rdata_why_of name.Pointer = Pointer
rdata_why_of name.LongName = LongName

-- a name and the offset after it, or the rule of messages that is broken
abbrev pub name_reading : (NameWhy → MsgWhy) → Result (List ℕ × ℕ) NameWhy → Result (List ℕ × ℕ) MsgWhy
name_reading told (Ok x) = Ok x
name_reading told (Err why) = Err (told why)

-- the name at an offset, and the offset after it
unfoldable pub name_in : List ℕ → ℕ → Result (List ℕ × ℕ) MsgWhy
name_in payload at = name_reading why_of (name_at payload at)

-- the question at an offset, and the offset after it: a name, a type and a class (RFC 1035 4.1.2)
unfoldable pub question_at : List ℕ → ℕ → Result (Question × ℕ) MsgWhy
question_at payload at = do
  name ← name_in payload at
  if nat_lt (length payload) (name.1 + 4) then Err Short
      else Ok (record { name = name.0; rtype = be16 name.1 payload; rclass = be16 (name.1 + 2) payload }, name.1 + 4)

-- The name at an offset in RDATA that ends at `end`: its first run stands within the RDATA, later runs anywhere.
unfoldable pub rdata_name : List ℕ → ℕ → ℕ → Result (List ℕ × ℕ) MsgWhy
rdata_name payload end at =
    if run_is_cut (take end payload) at then name_reading rdata_why_of (name_at (take end payload) at) else name_in payload at

-- the bytes of so many names, one after the other, without pointers, and the offset after them
unfoldable pub rdata_names : List ℕ → ℕ → ℕ → ℕ → Result (List ℕ × ℕ) MsgWhy
rdata_names payload end count at = do
  names ← repeat (rdata_name payload end) count at
  Ok (concat names.0, names.1)

-- RDATA with no shape is any bytes; else it is bytes, names and bytes, and they fill it
unfoldable pub rdata_of_shape : Option kind.Shape → List ℕ → ℕ → ℕ → Result (List ℕ) MsgWhy
rdata_of_shape None payload at end = Ok (bytes_at payload at (end - at))
rdata_of_shape (Some s) payload at end =
    if nat_lt end (at + s.before) then Err Shape
    else (do
      names ← rdata_names payload end s.names (at + s.before)
      if nat_eq (names.1 + s.after) end
          then Ok (bytes_at payload at s.before ++ names.0 ++ bytes_at payload names.1 s.after)
          else Err Shape)

-- the RDATA of a type between two offsets; it may be empty whatever its type
unfoldable pub rdata_at : ℕ → List ℕ → ℕ → ℕ → Result (List ℕ) MsgWhy
rdata_at rtype payload at end = if nat_eq at end then Ok [] else rdata_of_shape (shape_of rtype) payload at end

-- An OPT record stands where one is allowed, and its owner is the root, of one byte (RFC 6891 6.1.1, 6.1.2).
abbrev pub breaks_opt_rule : Bool → ℕ → List ℕ → Bool
breaks_opt_rule opt_allowed rtype owner = nat_eq rtype OPT && (if opt_allowed then nat_lt 1 (length owner) else true)

-- The record whose owner ends at an offset, and the offset after it: type, class, TTL, RDLENGTH, RDATA (RFC 1035 4.1.3).
unfoldable pub record_after_owner : List ℕ → Bool → List ℕ → ℕ → Result (Rr × ℕ) MsgWhy
record_after_owner payload opt_allowed owner at =
    let rtype : ℕ = be16 at payload in
    let start : ℕ = at + 10 in
    let end : ℕ = start + be16 (at + 8) payload in
    if nat_lt (length payload) start then Err Short
    else (if breaks_opt_rule opt_allowed rtype owner then Err Opt
    else (if nat_lt (length payload) end then Err Short
    else (do
      rdata ← rdata_at rtype payload start end
      Ok (
        record { owner = owner; rtype = rtype; rclass = be16 (at + 2) payload; ttl = be32 (at + 4) payload; rdata = rdata },
        end,
      ))))

-- the record at an offset, where an OPT record is allowed or not, and the offset after it
unfoldable pub record_at : List ℕ → Bool → ℕ → Result (Rr × ℕ) MsgWhy
record_at payload opt_allowed at = do
  owner ← name_in payload at
  record_after_owner payload opt_allowed owner.0 owner.1

-- whether an OPT record is allowed after a record: after an OPT record no second one is
abbrev pub opt_allowed_after : Bool → Rr → Bool
opt_allowed_after opt_allowed r = opt_allowed && not (is_opt r)

-- the record at an offset, and after it the offset and whether an OPT record is allowed there
abbrev pub record_step : List ℕ → ℕ × Bool → Result (Rr × (ℕ × Bool)) MsgWhy
record_step payload place = do
  r ← record_at payload place.1 place.0
  Ok (r.0, (r.1, opt_allowed_after place.1 r.0))

-- so many records from an offset on, where an OPT record is allowed or not, and the offset after them
abbrev pub records_at : List ℕ → ℕ → Bool → ℕ → Result (List Rr × ℕ) MsgWhy
records_at payload count opt_allowed at = do
  records ← repeat (record_step payload) count (at, opt_allowed)
  Ok (records.0, records.1.0)

-- The message that a payload spells and the number of bytes that it takes, or the first rule that is broken: a header
-- of twelve bytes with ID, bits and four counts, and so many questions, answers, authority and additional records
-- (RFC 1035 4.1).
unfoldable pub message_of : List ℕ → Result (Message × ℕ) MsgWhy
message_of payload =
    if nat_lt (length payload) 12 then Err Short
    else (do
      questions ← repeat (question_at payload) (be16 4 payload) 12
      answers ← records_at payload (be16 6 payload) false questions.1
      authority ← records_at payload (be16 8 payload) false answers.1
      additional ← records_at payload (be16 10 payload) true authority.1
      Ok (
        record { id = be16 0 payload; bits = be16 2 payload; questions = questions.0; answers = answers.0; authority = authority.0; additional = additional.0 },
        additional.1,
      ))

-- the payload spells the message in so many bytes, and other bytes may follow
abbrev pub Spells : List ℕ → Message → ℕ → Type 0
Spells payload message used = message_of payload ≡ Ok (message, used)

-- the payload spells no message, and this rule is the first that it breaks
abbrev pub Breaks : List ℕ → MsgWhy → Type 0
Breaks payload why = message_of payload ≡ Err why
