-- What a reader tells of items, head by head, however their bytes are cut. What is read stands at the front of the bytes
-- that are held, so a fault of a head has the offset 0 there.
use Rattle.std.specs.Prelude.{ℕ, ◌-◌, ◌/◌, ◌%◌, ◌<◌, nat_lt, nat_eq, Bool, true, false, ◌&&◌, List, [], ◌∷◌, ◌++◌, length, drop, Option, Some, None, Ok, if◌then◌else◌}
use Rattle.cd_cbor.specs.Heads.{major_type}
use Rattle.cd_cbor.specs.Spells.{most_depth}
use Rattle.cd_cbor.specs.Readings.{Reading, ◌>>=◌, refused, byte_at}
use Rattle.cd_cbor.specs.Reading.{argument_at, string_at, chunk_at, opened}
use Rattle.cd_cbor.specs.declared.wanted.Wanted.{Wanted}
use Rattle.cd_cbor.specs.declared.wanted.Wanted.TheVariants as wanted
use Rattle.cd_cbor.specs.declared.event.Event.{Event}
use Rattle.cd_cbor.specs.declared.event.Event.TheVariants as event
use Rattle.cd_cbor.specs.declared.event.Act.{Act}
use Rattle.cd_cbor.specs.declared.event.Act.TheVariants as act
use Rattle.cd_cbor.specs.declared.event.Told.{Told}
use Rattle.cd_cbor.specs.declared.event.Told.TheVariants as told
use Rattle.cd_cbor.specs.declared.fault.Why.TheVariants as why
use Rattle.cd_cbor.specs.declared.major_type.MajorType.{MajorType}
use Rattle.cd_cbor.specs.declared.major_type.MajorType.TheVariants as major

-- what is wanted after one more item, if any is
abbrev pub after_one : Wanted → Option Wanted
after_one (wanted.Items n) = if nat_eq n 0 then None else Some (wanted.Items (n - 1))
after_one (wanted.Pairs n) = Some (wanted.Half n)
after_one (wanted.Half n) = if nat_eq n 0 then None else Some (wanted.Pairs (n - 1))
after_one wanted.Elements = Some wanted.Elements
after_one wanted.Keys = Some wanted.Value
after_one wanted.Value = Some wanted.Keys

-- what is open, where the innermost wants this still, or is whole
abbrev pub still_open : Option Wanted → List Wanted → List Wanted → List Wanted
still_open None around outer = outer
still_open (Some inner) around outer = inner ∷ around

-- what is open after an item, from the innermost on: what wants no more is an item of what is around it
unfoldable pub passed : List Wanted → List Wanted
passed [] = []
passed (top ∷ around) = still_open (after_one top) around (passed around)

-- what is open after a head that does this
unfoldable pub acted : Act → List Wanted → List Wanted
acted act.Item open_now = passed open_now
acted (act.Enter inner) open_now = inner ∷ open_now
acted act.Close open_now = passed (drop 1 open_now)

-- a break where this is wanted
unfoldable pub break_front : Option Wanted → Reading Told
break_front None = refused 0 why.Break
break_front (Some (wanted.Items n)) = refused 0 why.Break
break_front (Some (wanted.Pairs n)) = refused 0 why.Break
break_front (Some (wanted.Half n)) = refused 0 why.Break
break_front (Some wanted.Elements) = Ok (told.Event event.Close act.Close, 1)
break_front (Some wanted.Keys) = Ok (told.Event event.Close act.Close, 1)
break_front (Some wanted.Value) = refused 0 why.Odd

-- a text or a string of bytes
abbrev pub string_event : Bool → List ℕ → Event
string_event is_text content = if is_text then event.Text content else event.Bytes content

-- the string at the front, of definite length
unfoldable pub string_front : Bool → ℕ → List ℕ → Reading Event
string_front is_text info bytes = do
  content ← string_at is_text 0 info 0 bytes
  Ok (string_event is_text content.0, content.1)

-- a simple value, or a float, by the additional information of its head
abbrev pub simple_event : ℕ → ℕ → Event
simple_event info value = if nat_lt info 25 then event.Simple value else event.Float

-- what an array of so many items does
abbrev pub array_act : ℕ → Act
array_act count = if nat_eq count 0 then act.Item else act.Enter (wanted.Items (count - 1))

-- what a map of so many pairs does
abbrev pub map_act : ℕ → Act
map_act count = if nat_eq count 0 then act.Item else act.Enter (wanted.Pairs (count - 1))

-- a head with an argument, where so many more may be open
unfoldable pub definite_front : ℕ → MajorType → ℕ → List ℕ → Reading Told
definite_front room major.Unsigned info bytes = do
  n ← argument_at info 0 bytes
  Ok (told.Event (event.Uint n.0) act.Item, n.1)
definite_front room major.Negative info bytes = do
  n ← argument_at info 0 bytes
  Ok (told.Event (event.Nint n.0) act.Item, n.1)
definite_front room major.Bytes info bytes = do
  content ← string_front false info bytes
  Ok (told.Event content.0 act.Item, content.1)
definite_front room major.Text info bytes = do
  content ← string_front true info bytes
  Ok (told.Event content.0 act.Item, content.1)
definite_front room major.Array info bytes = opened room 0 (do
  count ← argument_at info 0 bytes
  Ok (told.Event (event.Array (Some count.0)) (array_act count.0), count.1))
definite_front room major.Map info bytes = opened room 0 (do
  count ← argument_at info 0 bytes
  Ok (told.Event (event.Map (Some count.0)) (map_act count.0), count.1))
definite_front room major.Tag info bytes = opened room 0 (do
  tag ← argument_at info 0 bytes
  Ok (told.Event (event.Tag tag.0) (act.Enter (wanted.Items 0)), tag.1))
definite_front room major.Simple info bytes = do
  value ← argument_at info 0 bytes
  if nat_eq info 24 && nat_lt value.0 32 then refused 0 why.Head
      else Ok (told.Event (simple_event info value.0) act.Item, value.1)

-- a head of one byte that tells no length
unfoldable pub indefinite_front : ℕ → Option Wanted → MajorType → Reading Told
indefinite_front room top major.Unsigned = refused 0 why.Head
indefinite_front room top major.Negative = refused 0 why.Head
indefinite_front room top major.Bytes = Ok (told.Chunks false, 1)
indefinite_front room top major.Text = Ok (told.Chunks true, 1)
indefinite_front room top major.Array = opened room 0 (Ok (told.Event (event.Array None) (act.Enter wanted.Elements), 1))
indefinite_front room top major.Map = opened room 0 (Ok (told.Event (event.Map None) (act.Enter wanted.Keys), 1))
indefinite_front room top major.Tag = refused 0 why.Head
indefinite_front room top major.Simple = break_front top

-- the head at the front of some bytes, where this is wanted and so many more may be open
unfoldable pub head_front : ℕ → Option Wanted → List ℕ → Reading Told
head_front room top bytes = do
  first ← byte_at 0 bytes
  if nat_lt (first % 32) 28 then definite_front room (major_type (first / 32)) (first % 32) bytes
      else (if nat_lt (first % 32) 31 then refused 0 why.Head
      else indefinite_front room top (major_type (first / 32)))

-- what is open between two heads: arrays, maps and tags, from the innermost on, and the content of a string in chunks
pub record Open : Type 0 where
  pub wants : List Wanted
  pub chunks : Option (Bool × List ℕ)

-- the innermost
abbrev pub innermost : List Wanted → Option Wanted
innermost [] = None
innermost (top ∷ around) = Some top

-- what a head tells, and what is open after it
abbrev pub after_head : List Wanted → Told → Option Event × Open
after_head wants (told.Event e done) = (Some e, record { wants = acted done wants; chunks = None })
after_head wants (told.Chunks is_text) = (None, record { wants = wants; chunks = Some (is_text, []) })

-- a chunk of a string with this content before, or its break: the event that ends it, or the content so far
unfoldable pub chunk_front : Bool → List ℕ → List ℕ → Reading (Option Event × Option (Bool × List ℕ))
chunk_front is_text content bytes = do
  first ← byte_at 0 bytes
  if nat_eq first 0xff then Ok ((Some (string_event is_text content), None), 1)
      else (do
        chunk ← chunk_at is_text bytes (length content, 0)
        Ok ((None, Some (is_text, content ++ chunk.0)), chunk.1.1))

-- what is open after a chunk: where it ends its string, that is an item
abbrev pub after_chunk : List Wanted → Option Event × Option (Bool × List ℕ) → Option Event × Open
after_chunk wants (None, chunks) = (None, record { wants = wants; chunks = chunks })
after_chunk wants (Some e, chunks) = (Some e, record { wants = passed wants; chunks = chunks })

-- a head, or a chunk of a string, at the front of some bytes: an event, if it ends one, what is open after it, and its
-- size
unfoldable pub step_in : List Wanted → Option (Bool × List ℕ) → List ℕ → Reading (Option Event × Open)
step_in wants None bytes = do
  head ← head_front (most_depth - length wants) (innermost wants) bytes
  Ok (after_head wants head.0, head.1)
step_in wants (Some string) bytes = do
  chunk ← chunk_front string.0 string.1 bytes
  Ok (after_chunk wants chunk.0, chunk.1)

-- the same of what is open
abbrev pub front_step : Open → List ℕ → Reading (Option Event × Open)
front_step now bytes = step_in now.wants now.chunks bytes

-- nothing is open
abbrev pub nothing_open : Open
nothing_open = record { wants = []; chunks = None }

-- an array, a map or a tag is opened only where one more may be
abbrev pub MayAct : Act → ℕ → Type 0
MayAct act.Item room = Unit {0}
MayAct (act.Enter inner) room = 0 < room
MayAct act.Close room = Unit {0}

-- so is what a head opens
abbrev pub HasRoom : ℕ → Told → Type 0
HasRoom room (told.Event e done) = MayAct done room
HasRoom room (told.Chunks is_text) = Unit {0}
